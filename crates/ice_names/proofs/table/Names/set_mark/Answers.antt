use Rattle.std.proofs.Common.{◌<◌, sym, subst, ap, ◌∙◌, arith}
use Rattle.ice_names.specs.Names.{NamesView, path_of}
use Rattle.ice_names.proofs.TableLaws.{inside_row, marked_is_sound, marked_path}
use Rattle.ice_names.proofs.table.Names.set_mark.Goals as goal

pub invariant_of-self : goal.invariant_of-self
invariant_of-self c =
    let low : c.args.slot < c.self.inside.slots = subst (λ (x : NamesView). c.args.slot < x.slots) (sym c.self.view_is) c.requires.slot in
    marked_is_sound _ c.args.self.now c.args.slot _ c.self.view_is c.self.invariant c.requires.slot
    (ap path_of c.mark_row.ensures ∙ marked_path c.args.mark _ c.requires.mark
    ∙ ap path_of (inside_row _ c.args.self.now c.args.slot c.index-self-slot.result c.self.view_is c.self.invariant
    (omega (arith, low, c.self.invariant.few))))
