use Rattle.std.proofs.Common.{length, sym, subst}
use Rattle.ice_base.specs.Lots.{LotView}
use Rattle.ice_names.specs.Names.{NoneHas}
use Rattle.ice_tables.specs.Lots.{groups_of}
use Rattle.tree_spec.specs.declared.reply.Refusal.{Refusal}
use Rattle.ice_system.specs.Plans.{HasPath, IsFreeSlot, PlansCreate, PlansGrow, RefusesCreate, RefusesGroups}
use Rattle.ice_system.specs.Systems.{AreTables, SystemView, tables_of}
use Rattle.ice_system.proofs.Planning.{err_more, none_found, ok_more, plans_create, refuses_create, some_found}
use Rattle.ice_system.proofs.system.System.plan_create.Goals as goal

-- src/plan.rt:41:13
pub returns-then-is_some-clause-refused : goal.returns-then-is_some-clause-refused
returns-then-is_some-clause-refused c = subst (λ (x : SystemView). HasPath (tables_of x) c.args.path.now) c.self.view_is
    (some_found c.self.inside.names c.self.inside.owners c.args.path.now c.find.result (sym c.if-is_some.ensures) c.find.ensures.found)

-- src/plan.rt:34:5
pub returns-in-Some-clause-lot : goal.returns-in-Some-clause-lot
returns-in-Some-clause-lot c =
    let tables = subst (λ (x : SystemView). AreTables x.names x.owners) c.self.view_is c.self.invariant.0 in
    let none = subst (λ (x : SystemView). NoneHas x.names c.args.path.now) c.self.view_is (none_found c.self.inside.names c.args.path.now c.find.result (sym c.if-is_some.ensures) c.find.ensures.found) in
    let free = subst (λ (x : SystemView). IsFreeSlot (tables_of x) c.in-Some.slot) c.self.view_is (record { low = c.in-Some.ensures.slot; free = c.in-Some.ensures.free; least = c.in-Some.ensures.least }) in
    ok_more (λ (lot : LotView). PlansGrow (tables_of c.args.self.now) c.in-Some.slot c.args.groups lot) (λ (lot : LotView). PlansCreate (tables_of c.args.self.now) c.args.path.now c.args.groups lot) c.with_groups.result
    (λ lot plan. plans_create c.args.self.now.names c.args.self.now.owners c.args.path.now c.in-Some.slot c.args.groups lot c.with_groups.ensures.lots tables none free plan)
    c.with_groups.ensures.lot

-- src/plan.rt:34:5
pub returns-in-Some-clause-refused : goal.returns-in-Some-clause-refused
returns-in-Some-clause-refused c =
    let tables = subst (λ (x : SystemView). AreTables x.names x.owners) c.self.view_is c.self.invariant.0 in
    let none = subst (λ (x : SystemView). NoneHas x.names c.args.path.now) c.self.view_is (none_found c.self.inside.names c.args.path.now c.find.result (sym c.if-is_some.ensures) c.find.ensures.found) in
    let free = subst (λ (x : SystemView). IsFreeSlot (tables_of x) c.in-Some.slot) c.self.view_is (record { low = c.in-Some.ensures.slot; free = c.in-Some.ensures.free; least = c.in-Some.ensures.least }) in
    err_more (λ (why : Refusal). RefusesGroups (tables_of c.args.self.now) (length (groups_of (tables_of c.args.self.now) c.in-Some.slot)) c.args.groups why) (λ (why : Refusal). RefusesCreate (tables_of c.args.self.now) c.args.path.now c.args.groups why) c.with_groups.result
    (λ why is. refuses_create c.args.self.now.names c.args.self.now.owners c.args.path.now c.in-Some.slot c.args.groups why c.with_groups.ensures.lots tables none free.low free.free is)
    c.with_groups.ensures.refused
