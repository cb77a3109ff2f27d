use Rattle.std.proofs.Common.{length, take, sym, ap, ◌∙◌, arith}
use Rattle.tree_spec.specs.Names.{with_slashes}
use Rattle.tree_spec.proofs.Texts.{text_of-some, with_slashes-names_of, short_text}
use Rattle.tree_spec.proofs.path.Path.text.Goals as goal

pub returns-clause-value : goal.returns-clause-value
returns-clause-value c =
    sym (text_of-some c.args.self.now (omega (arith, c.self.invariant.3, ap length c.self.view_is))
    ∙ ap with_slashes (sym c.self.view_is) ∙ with_slashes-names_of (take c.self.inside.len c.self.inside.text) c.self.invariant.1)

pub returns-clause-short : goal.returns-clause-short
returns-clause-short c = short_text c.args.self.now c.self.inside.text c.self.inside.len c.self.view_is c.self.invariant.1 c.self.invariant.0 (omega arith)
