use Rattle.std.proofs.Common.{sym, ap, ◌∙◌}
use Rattle.tree_spec.specs.Names.{text_of}
use Rattle.ice_path.proofs.Faults.{begins, first_elsewhere, slash-no_fault, IsNameList-text, text-short, text_of-names_of}
use Rattle.ice_path.proofs.read.read_path.Goals as goal

pub returns-then-starts_elsewhere-clause-value : goal.returns-then-starts_elsewhere-clause-value
returns-then-starts_elsewhere-clause-value c = first_elsewhere c.args.bytes.now (sym c.if-starts_elsewhere.ensures)

pub returns-then-slash_alone-clause-value : goal.returns-then-slash_alone-clause-value
returns-then-slash_alone-clause-value c = slash-no_fault c.args.bytes.now (sym c.if-slash_alone.ensures)

pub path_of-requires-clause-begins : goal.path_of-requires-clause-begins
path_of-requires-clause-begins c = begins c.args.bytes.now (sym c.if-starts_elsewhere.ensures)

pub path_of-requires-clause-names : goal.path_of-requires-clause-names
path_of-requires-clause-names c = IsNameList-text c.args.bytes.now (sym c.if-starts_elsewhere.ensures) (sym c.if-slash_alone.ensures) (sym c.in-None.ensures)

pub path_of-requires-clause-short : goal.path_of-requires-clause-short
path_of-requires-clause-short c = text-short c.args.bytes.now (sym c.if-starts_elsewhere.ensures) (sym c.if-slash_alone.ensures) (sym c.in-None.ensures)

pub returns-in-None-clause-text : goal.returns-in-None-clause-text
returns-in-None-clause-text c = ap text_of c.path_of.ensures ∙ text_of-names_of c.args.bytes.now (sym c.if-starts_elsewhere.ensures)
