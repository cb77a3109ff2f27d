use Rattle.std.proofs.Common.{◌≡◌, ◌∙◌, false, None, [], refl, sym, ap, subst}
use Rattle.ice_owner.specs.Owners.{AreLots}
use Rattle.ice_system.specs.Systems.{SystemView}
use Rattle.ice_system.proofs.Changing.{changes_from}
use Rattle.ice_system.proofs.Views.{changes_at, row_set_at, slot_becomes}
use Rattle.ice_system.proofs.system.System.delete.Goals as goal

-- src/change.rt:141:5
pub returns : goal.returns
returns g c =
    let names = c.copy-names.ensures ∙ ap (λ (x : SystemView). x.names) c.self.view_is in
    let owners = c.copy-owners.ensures.value ∙ ap (λ (x : SystemView). x.owners) c.self.view_is in
    let lots : AreLots c.args.self.now.owners = subst (λ o. AreLots o) (ap (λ (x : SystemView). x.owners) c.self.view_is) c.copy-owners.ensures.lots in
    let live : c.args.self.now.failed ≡ false = sym (ap (λ (x : SystemView). x.failed) c.self.view_is) ∙ c.if-self.false in
    changes_from g.D.Disk.state g.D.Disk.left c.args.slot None [] c.args.self.now c.change.new.self c.clear_row.new.self c.release.new.self c.change.result c.args.disk.now c.change.new.disk live
    (slot_becomes c.args.self.now.names c.clear_row.new.self c.args.self.now.owners c.release.new.self c.args.slot None [] lots c.release.ensures.lots
    (row_set_at c.args.self.now.names c.copy-names.result c.clear_row.new.self c.args.slot c.args.slot None names refl c.clear_row.ensures)
    (changes_at c.args.self.now.owners c.copy-owners.result c.release.new.self c.args.slot c.args.slot [] owners refl c.release.ensures.released))
    c.change.ensures.within c.change.ensures.cause c.change.ensures.calm c.change.ensures.done c.change.ensures.before c.change.ensures.after c.change.ensures.moves
