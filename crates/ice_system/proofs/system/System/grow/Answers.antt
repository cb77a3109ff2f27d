use Rattle.std.proofs.Common.{◌≡◌, ◌∙◌, ◌-◌, false, length, ℕ, List, refl, sym, ap, subst, arith}
use Rattle.ice_names.specs.Names.{RowSet, row_at}
use Rattle.ice_owner.specs.Owners.{AreLots, groups_at}
use Rattle.ice_owner.specs.Owners.{Changes as ChangesLots}
use Rattle.ice_system.specs.Systems.{SystemView}
use Rattle.ice_base.specs.Lots.{LotView}
use Rattle.ice_system.proofs.Changing.{changes_from}
use Rattle.ice_system.proofs.Reserving.{gets_at, grow_gets, never_refused}
use Rattle.ice_system.proofs.Views.{changes_at, groups_with, same_rows, slot_becomes}
use Rattle.ice_system.proofs.system.System.grow.Goals as goal

-- src/change.rt:136:23
pub unreachable-requires : goal.unreachable-requires
unreachable-requires g c =
    let names = c.copy-names.ensures ∙ ap (λ (x : SystemView). x.names) c.self.view_is in
    let owners = c.copy-owners.ensures.value ∙ ap (λ (x : SystemView). x.owners) c.self.view_is in
    let lots : AreLots c.args.self.now.owners = subst (λ o. AreLots o) (ap (λ (x : SystemView). x.owners) c.self.view_is) c.copy-owners.ensures.lots in
    let count = c.len-2.ensures.len ∙ ap (λ (x : LotView). length x.groups) c.lot.ensures ∙ ap (λ (x : List ℕ). length x) (groups_with c.args.self.now.names c.args.self.now.owners lots c.args.slot) in
    let gets = gets_at c.args.self.now.owners c.copy-owners.result c.args.slot c.args.slot (length c.args.lot.now.groups - length (groups_at c.args.self.now.owners c.args.slot)) c.from.result c.args.lot.now.groups
    owners refl (omega (arith, c.from.ensures, c.len.ensures.len, count))
    (grow_gets c.args.self.now.names c.args.self.now.owners lots c.args.slot c.requires.planned.0 c.args.lot.now c.requires.planned.2) in
    never_refused c.copy-owners.result c.args.slot c.from.result c.args.lot.now.groups c.reserve.result c.in-Err.field-0 gets c.reserve.ensures.full c.reserve.ensures.none c.in-Err.is

-- src/change.rt:120:5
pub returns : goal.returns
returns g c =
    let names = c.copy-names.ensures ∙ ap (λ (x : SystemView). x.names) c.self.view_is in
    let owners = c.copy-owners.ensures.value ∙ ap (λ (x : SystemView). x.owners) c.self.view_is in
    let lots : AreLots c.args.self.now.owners = subst (λ o. AreLots o) (ap (λ (x : SystemView). x.owners) c.self.view_is) c.copy-owners.ensures.lots in
    let live : c.args.self.now.failed ≡ false = sym (ap (λ (x : SystemView). x.failed) c.self.view_is) ∙ c.if-self.false in
    let count = c.len-2.ensures.len ∙ ap (λ (x : LotView). length x.groups) c.lot.ensures ∙ ap (λ (x : List ℕ). length x) (groups_with c.args.self.now.names c.args.self.now.owners lots c.args.slot) in
    let gets = gets_at c.args.self.now.owners c.copy-owners.result c.args.slot c.args.slot (length c.args.lot.now.groups - length (groups_at c.args.self.now.owners c.args.slot)) c.from.result c.args.lot.now.groups
    owners refl (omega (arith, c.from.ensures, c.len.ensures.len, count))
    (grow_gets c.args.self.now.names c.args.self.now.owners lots c.args.slot c.requires.planned.0 c.args.lot.now c.requires.planned.2) in
    changes_from g.D.Disk.state g.D.Disk.left c.args.slot (row_at c.args.self.now.names c.args.slot) c.args.lot.now.groups c.args.self.now c.change.new.self c.copy-names.result c.reserve.new.self c.change.result c.args.disk.now c.change.new.disk live
    (slot_becomes c.args.self.now.names c.copy-names.result c.args.self.now.owners c.reserve.new.self c.args.slot (row_at c.args.self.now.names c.args.slot) c.args.lot.now.groups lots c.reserve.ensures.lots
    (subst (λ n. RowSet c.args.self.now.names c.args.slot (row_at c.args.self.now.names c.args.slot) n) (sym names) (same_rows c.args.self.now.names c.args.slot))
    (changes_at c.args.self.now.owners c.copy-owners.result c.reserve.new.self c.args.slot c.args.slot c.args.lot.now.groups owners refl
    (subst (λ x. ChangesLots c.copy-owners.result c.reserve.new.self c.args.slot x) gets.got (c.in-Ok.ensures.reserved refl))))
    c.change.ensures.within c.change.ensures.cause c.change.ensures.calm c.change.ensures.done c.change.ensures.before c.change.ensures.after c.change.ensures.moves
