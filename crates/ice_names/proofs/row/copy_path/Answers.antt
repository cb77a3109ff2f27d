use Rattle.std.proofs.Common.{◌≡◌, None, Some, sym, ap, ◌∙◌}
use Rattle.ice_path.specs.Paths.{path_fault, path_names}
use Rattle.ice_names.proofs.TextLaws.{text_names, text_proper}
use Rattle.ice_names.proofs.row.copy_path.Goals as goal

pub unreachable-requires : goal.unreachable-requires
unreachable-requires c =
    let none : path_fault c.text.result.now ≡ None = ap path_fault c.text.ensures.value
    ∙ text_proper c.args.path.now c.text.ensures.names c.text.ensures.short in
    let bad : None ≡ Some c.in-Err.field-0 = sym none ∙ c.in-Err.ensures.value in
    cc bad

pub returns : goal.returns
returns c = c.in-Ok.ensures.names ∙ ap path_names c.text.ensures.value ∙ text_names c.args.path.now c.text.ensures.names
