use Rattle.std.proofs.Common.{◌≡◌, ◌∙◌, false, length, Some, refl, sym, ap, subst}
use Rattle.ice_owner.specs.Owners.{AreLots}
use Rattle.ice_owner.specs.Owners.{Changes as ChangesLots}
use Rattle.ice_system.specs.Systems.{AreTables, SystemView}
use Rattle.ice_system.proofs.Changing.{changes_from}
use Rattle.ice_system.proofs.Reserving.{create_gets, gets_at, never_refused}
use Rattle.ice_system.proofs.Views.{changes_at, row_set_at, slot_becomes}
use Rattle.ice_system.proofs.system.System.create.Goals as goal

-- src/change.rt:115:23
pub unreachable-requires : goal.unreachable-requires
unreachable-requires g c =
    let names = c.copy-names.ensures ∙ ap (λ (x : SystemView). x.names) c.self.view_is in
    let owners = c.copy-owners.ensures.value ∙ ap (λ (x : SystemView). x.owners) c.self.view_is in
    let lots : AreLots c.args.self.now.owners = subst (λ o. AreLots o) (ap (λ (x : SystemView). x.owners) c.self.view_is) c.copy-owners.ensures.lots in
    let tables = subst (λ (x : SystemView). AreTables x.names x.owners) c.self.view_is c.self.invariant.0 in
    let gets = gets_at c.args.self.now.owners c.copy-owners.result c.args.lot.now.slot c.slot-slot.result (length c.args.lot.now.groups) c.from.result c.args.lot.now.groups
    owners c.slot-slot.ensures.slot (c.from.ensures ∙ c.len.ensures.len)
    (create_gets c.args.self.now.names c.args.self.now.owners lots c.args.path.now c.requires.planned.0 c.args.lot.now tables c.requires.planned.2) in
    never_refused c.copy-owners.result c.slot-slot.result c.from.result c.args.lot.now.groups c.reserve.result c.in-Err.field-0 gets c.reserve.ensures.full c.reserve.ensures.none c.in-Err.is

-- src/change.rt:94:5
pub returns : goal.returns
returns g c =
    let names = c.copy-names.ensures ∙ ap (λ (x : SystemView). x.names) c.self.view_is in
    let owners = c.copy-owners.ensures.value ∙ ap (λ (x : SystemView). x.owners) c.self.view_is in
    let lots : AreLots c.args.self.now.owners = subst (λ o. AreLots o) (ap (λ (x : SystemView). x.owners) c.self.view_is) c.copy-owners.ensures.lots in
    let live : c.args.self.now.failed ≡ false = sym (ap (λ (x : SystemView). x.failed) c.self.view_is) ∙ c.if-self.false in
    let tables = subst (λ (x : SystemView). AreTables x.names x.owners) c.self.view_is c.self.invariant.0 in
    let gets = gets_at c.args.self.now.owners c.copy-owners.result c.args.lot.now.slot c.slot-slot.result (length c.args.lot.now.groups) c.from.result c.args.lot.now.groups
    owners c.slot-slot.ensures.slot (c.from.ensures ∙ c.len.ensures.len)
    (create_gets c.args.self.now.names c.args.self.now.owners lots c.args.path.now c.requires.planned.0 c.args.lot.now tables c.requires.planned.2) in
    changes_from g.D.Disk.state g.D.Disk.left c.args.lot.now.slot (Some (record { path = c.args.path.now; offline = false })) c.args.lot.now.groups c.args.self.now c.change.new.self c.add.new.self c.reserve.new.self c.change.result c.args.disk.now c.change.new.disk live
    (slot_becomes c.args.self.now.names c.add.new.self c.args.self.now.owners c.reserve.new.self c.args.lot.now.slot (Some (record { path = c.args.path.now; offline = false })) c.args.lot.now.groups lots c.reserve.ensures.lots
    (row_set_at c.args.self.now.names c.copy-names.result c.add.new.self c.args.lot.now.slot c.slot-slot.result (Some (record { path = c.args.path.now; offline = false })) names c.slot-slot.ensures.slot c.add.ensures)
    (changes_at c.args.self.now.owners c.copy-owners.result c.reserve.new.self c.args.lot.now.slot c.slot-slot.result c.args.lot.now.groups owners c.slot-slot.ensures.slot
    (subst (λ x. ChangesLots c.copy-owners.result c.reserve.new.self c.slot-slot.result x) gets.got (c.in-Ok.ensures.reserved refl))))
    c.change.ensures.within c.change.ensures.cause c.change.ensures.calm c.change.ensures.done c.change.ensures.before c.change.ensures.after c.change.ensures.moves
