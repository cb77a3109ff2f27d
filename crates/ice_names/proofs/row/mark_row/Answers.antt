use Rattle.std.proofs.Common.{Bool, Some, sym, ap, ◌∙◌}
use Rattle.ice_tables.specs.Tables.{Row}
use Rattle.ice_names.specs.Names.{marked}
use Rattle.ice_names.proofs.TableLaws.{marked_some, marked_none}
use Rattle.ice_names.proofs.row.mark_row.Goals as goal

pub returns-in-Some : goal.returns-in-Some
returns-in-Some c =
    let with_mark : Bool → Row = λ o. record { path = c.in-Some.row.path; offline = o } in
    ap Some (c.set_offline.ensures ∙ ap with_mark c.is_offline.ensures) ∙ marked_some c.args.mark c.in-Some.row c.requires
    ∙ ap (marked c.args.mark) (sym c.in-Some.is)

pub returns-in_default : goal.returns-in_default
returns-in_default c = c.in_default.is ∙ sym (marked_none c.args.mark) ∙ ap (marked c.args.mark) (sym c.in_default.is)
