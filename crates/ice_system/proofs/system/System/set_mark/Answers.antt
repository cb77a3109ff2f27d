use Rattle.std.proofs.Common.{◌≡◌, ◌∙◌, false, refl, sym, ap, subst}
use Rattle.ice_names.specs.Names.{RowSet, marked, row_at}
use Rattle.ice_owner.specs.Owners.{AreLots}
use Rattle.ice_owner.specs.Owners.{Changes as ChangesLots}
use Rattle.ice_tables.specs.Lots.{groups_of}
use Rattle.ice_system.specs.Systems.{SystemView, tables_of}
use Rattle.ice_system.proofs.Changing.{changes_from}
use Rattle.ice_system.proofs.Views.{groups_with, row_set_at, same_owners, slot_becomes}
use Rattle.ice_system.proofs.system.System.set_mark.Goals as goal

-- src/change.rt:157:5
pub returns : goal.returns
returns g c =
    let names = c.copy-names.ensures ∙ ap (λ (x : SystemView). x.names) c.self.view_is in
    let owners = c.copy-owners.ensures.value ∙ ap (λ (x : SystemView). x.owners) c.self.view_is in
    let lots : AreLots c.args.self.now.owners = subst (λ o. AreLots o) (ap (λ (x : SystemView). x.owners) c.self.view_is) c.copy-owners.ensures.lots in
    let live : c.args.self.now.failed ≡ false = sym (ap (λ (x : SystemView). x.failed) c.self.view_is) ∙ c.if-self.false in
    let row = ap (λ n. marked c.args.mark (row_at n c.args.slot)) names in
    let copied : AreLots c.copy-owners.result = subst (λ o. AreLots o) (sym owners) lots in
    changes_from g.D.Disk.state g.D.Disk.left c.args.slot (marked c.args.mark (row_at c.args.self.now.names c.args.slot)) (groups_of (tables_of c.args.self.now) c.args.slot) c.args.self.now c.change.new.self c.set_mark.new.self c.copy-owners.result c.change.result c.args.disk.now c.change.new.disk live
    (slot_becomes c.args.self.now.names c.set_mark.new.self c.args.self.now.owners c.copy-owners.result c.args.slot (marked c.args.mark (row_at c.args.self.now.names c.args.slot)) (groups_of (tables_of c.args.self.now) c.args.slot) lots copied
    (subst (λ x. RowSet c.args.self.now.names c.args.slot x c.set_mark.new.self) row
    (row_set_at c.args.self.now.names c.copy-names.result c.set_mark.new.self c.args.slot c.args.slot (marked c.args.mark (row_at c.copy-names.result c.args.slot)) names refl c.set_mark.ensures))
    (subst (λ o. ChangesLots c.args.self.now.owners o c.args.slot (groups_of (tables_of c.args.self.now) c.args.slot)) (sym owners)
    (subst (λ x. ChangesLots c.args.self.now.owners c.args.self.now.owners c.args.slot x) (sym (groups_with c.args.self.now.names c.args.self.now.owners lots c.args.slot)) (same_owners c.args.self.now.owners c.args.slot))))
    c.change.ensures.within c.change.ensures.cause c.change.ensures.calm c.change.ensures.done c.change.ensures.before c.change.ensures.after c.change.ensures.moves
