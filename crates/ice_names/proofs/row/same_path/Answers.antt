use Rattle.std.proofs.Common.{sym, ◌∙◌}
use Rattle.ice_names.proofs.TextLaws.{text_same}
use Rattle.ice_names.proofs.row.same_path.Goals as goal

pub returns-clause-yes : goal.returns-clause-yes
returns-clause-yes c = λ is.
    text_same c.args.a.now c.args.b.now c.text.ensures.names c.text-2.ensures.names
    (sym c.text.ensures.value ∙ c.same_bytes.ensures.yes is ∙ c.text-2.ensures.value)
