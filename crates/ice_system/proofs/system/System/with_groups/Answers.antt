use Rattle.std.proofs.Common.{◌∙◌, length, refl, sym, ap, subst}
use Rattle.ice_base.specs.Lots.{LotView}
use Rattle.ice_owner.specs.Owners.{AreLots}
use Rattle.tree_spec.specs.declared.reply.Refusal.TheVariants.{CubeFull as FullCube, NoGroups as FewGroups}
use Rattle.ice_tables.specs.Lots.{groups_of}
use Rattle.ice_system.specs.Plans.{PlansGrow, RefusesGroups}
use Rattle.ice_system.specs.Systems.{SystemView, tables_with}
use Rattle.ice_system.proofs.Planning.{plans_grow, refuses_full, refuses_none}
use Rattle.ice_system.proofs.system.System.with_groups.Goals as goal

-- src/plan.rt:17:5
pub returns-in-Ok-clause-lot : goal.returns-in-Ok-clause-lot
returns-in-Ok-clause-lot c =
    let own = c.copy-owners.ensures.value ∙ ap (λ (x : SystemView). x.owners) c.self.view_is in
    let lots : AreLots c.copy-owners.result = subst (λ o. AreLots o) (sym c.copy-owners.ensures.value) c.copy-owners.ensures.lots in
    subst (λ o. PlansGrow (tables_with c.args.self.now.names o) c.args.slot c.args.groups c.lot_of.result) own
    (subst (λ (l : LotView). PlansGrow (tables_with c.args.self.now.names c.copy-owners.result) c.args.slot c.args.groups l) (sym c.lot_of.ensures.lot)
    (plans_grow c.args.self.now.names c.copy-owners.result lots c.args.slot c.args.groups c.base-base.result c.reserve.new.self c.base-base.ensures.base
    (λ more. let is = c.reserve.ensures.full.1 more in cc (c.in-Ok.is, is))
    (λ less. let is = c.reserve.ensures.none.1 less in cc (c.in-Ok.is, is))
    (c.in-Ok.ensures.reserved refl)))

-- src/plan.rt:17:5
pub returns-in-Err-CubeFull-clause-refused : goal.returns-in-Err-CubeFull-clause-refused
returns-in-Err-CubeFull-clause-refused c =
    let own = c.copy-owners.ensures.value ∙ ap (λ (x : SystemView). x.owners) c.self.view_is in
    let lots : AreLots c.copy-owners.result = subst (λ o. AreLots o) (sym c.copy-owners.ensures.value) c.copy-owners.ensures.lots in
    subst (λ o. RefusesGroups (tables_with c.args.self.now.names o) (length (groups_of (tables_with c.args.self.now.names o) c.args.slot)) c.args.groups FullCube) own
    (refuses_full c.args.self.now.names c.copy-owners.result lots c.args.slot c.args.groups
    (c.reserve.ensures.full.0 (cc (c.in-Err-CubeFull.is, c.in-Err-CubeFull.field-0-is))))

-- src/plan.rt:17:5
pub returns-in-Err-NoGroups-clause-refused : goal.returns-in-Err-NoGroups-clause-refused
returns-in-Err-NoGroups-clause-refused c =
    let own = c.copy-owners.ensures.value ∙ ap (λ (x : SystemView). x.owners) c.self.view_is in
    let lots : AreLots c.copy-owners.result = subst (λ o. AreLots o) (sym c.copy-owners.ensures.value) c.copy-owners.ensures.lots in
    let is = c.reserve.ensures.none.0 (cc (c.in-Err-NoGroups.is, c.in-Err-NoGroups.field-0-is)) in
    subst (λ o. RefusesGroups (tables_with c.args.self.now.names o) (length (groups_of (tables_with c.args.self.now.names o) c.args.slot)) c.args.groups FewGroups) own
    (refuses_none c.args.self.now.names c.copy-owners.result lots c.args.slot c.args.groups is.0 is.1)
