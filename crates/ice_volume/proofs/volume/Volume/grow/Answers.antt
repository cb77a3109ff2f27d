use Rattle.std.proofs.Common.{◌≡◌, ◌≤◌, ◌<◌, ◌∙◌, Some, OnOk, OnErr, ap, sym, subst, arith, length}
use Rattle.ice_base.specs.Lots.{LotView}
use Rattle.tree_spec.specs.Lines.{Asks, Grow}
use Rattle.ice_tables.specs.Lots.{groups_of, lot_of, total}
use Rattle.ice_names.specs.Names.{path_at, row_at}
use Rattle.ice_system.specs.Changes.{Changes}
use Rattle.ice_system.specs.Plans.{PlansGrow, RefusesGroups}
use Rattle.ice_system.specs.Systems.{tables_of}
use Rattle.ice_volume.specs.Cells.{cell_at}
use Rattle.ice_volume.specs.Lines.{AnswersLine}
use Rattle.ice_volume.specs.Told.{CellBecomes, IsWidened}
use Rattle.ice_volume.specs.Volumes.{VolumeView}
use Rattle.ice_volume.proofs.GroupLines.{grow_answers, grow_faulted, grow_new, grow_none, grow_refuses, grow_session_on, grow_sited, grow_within}
use Rattle.ice_volume.proofs.TableOrders.{path_some}
use Rattle.ice_volume.proofs.TableLines.{sessions_after}
use Rattle.ice_volume.proofs.volume.Volume.grow.Goals as goal

pub returns-in-None : goal.returns-in-None
returns-in-None g c = λ room. grow_none g.D.Disk.state g.D.Disk.left c.args.self.now c.args.path.now c.args.groups room c.args.disk.now c.in-None.ensures.found

pub returns-in-Err : goal.returns-in-Err
returns-in-Err g c = λ room. grow_refuses g.D.Disk.state g.D.Disk.left c.args.self.now c.args.path.now c.args.groups room c.args.disk.now c.in-Some.slot c.in-Some.ensures.slot c.in-Some.ensures.found c.in-Err.refusal
    (subst (λ (y : VolumeView). RefusesGroups (tables_of y.system) (length (groups_of (tables_of y.system) c.in-Some.slot)) c.args.groups c.in-Err.refusal) c.self.view_is c.in-Err.ensures.refused)

pub init_groups-requires-clause-sited : goal.init_groups-requires-clause-sited
init_groups-requires-clause-sited g c =
    grow_sited (tables_of c.self.inside.system) c.in-Some.slot c.args.groups c.in-Ok.lot (g.D.Disk.state c.args.disk.now).size
    (subst (λ (y : VolumeView). c.in-Some.slot < y.system.names.slots) (sym c.self.view_is) c.in-Some.ensures.slot) c.in-Ok.ensures.lot c.requires.some
    (subst (λ (y : VolumeView). total (tables_of y.system) ≤ (g.D.Disk.state c.args.disk.now).size) (sym c.self.view_is) c.requires.room)

pub returns-in-Err-init_groups : goal.returns-in-Err-init_groups
returns-in-Err-init_groups g c = λ room.
    let state = g.D.Disk.state in let left = g.D.Disk.left in let x = c.in-Some.slot in let n = c.args.groups in let lot = c.in-Ok.lot in let a = c.args.disk.now in let b = c.init_groups.new.disk in
    let plan = subst (λ (y : VolumeView). PlansGrow (tables_of y.system) x n lot) c.self.view_is c.in-Ok.ensures.lot in
    let first = c.len-first.ensures.len ∙ ap (λ (l : LotView). length l.groups) c.lot.ensures ∙ ap (λ (y : VolumeView). length (groups_of (tables_of y.system) x)) c.self.view_is in
    grow_faulted state left c.args.self.now c.args.path.now n room x c.in-Some.ensures.slot c.in-Some.ensures.found lot c.len.ensures.lot plan a b
    (grow_within state left (tables_of c.args.self.now.system) x n lot c.len-first.result a b c.len.ensures.lot plan first c.init_groups.ensures.within) c.in-Err-init_groups.ensures.cause.failed

pub invariant_of-self : goal.invariant_of-self
invariant_of-self g c =
    let x = c.in-Some.slot in let lot = c.in-Ok.lot in let r = c.grow-named.result in let b = c.grow-named.new.disk in let s = c.self.inside.system in
    sessions_after g.D.Disk.state g.D.Disk.left (record { system = s; cells = c.self.inside.cells }) (record { system = c.grow-named.new.self; cells = c.settle_wider.new.cells })
    x (row_at s.names x) lot.groups (cell_at c.settle_wider.new.cells x) c.init_groups.new.disk b r c.self.invariant c.grow-named.ensures c.settle_wider.ensures.done c.settle_wider.ensures.failed
    (omega (arith, c.settle_wider.ensures.count, c.self.invariant.count))
    (grow_session_on r (tables_of s) (tables_of c.grow-named.new.self) x c.args.groups lot (row_at s.names x) (g.D.Disk.state b) (cell_at c.self.inside.cells x) (cell_at c.settle_wider.new.cells x) c.in-Ok.ensures.lot
    (path_some (row_at s.names x) c.args.path.now (subst (λ (y : VolumeView). path_at y.system.names x ≡ Some c.args.path.now) (sym c.self.view_is) c.in-Some.ensures.found))
    c.settle_wider.ensures.widened)

pub returns : goal.returns
returns g c = λ room.
    let state = g.D.Disk.state in let left = g.D.Disk.left in let r = c.grow-named.result in let x = c.in-Some.slot in let n = c.args.groups in let lot = c.in-Ok.lot in
    let a = c.args.disk.now in let m = c.init_groups.new.disk in let b = c.grow-named.new.disk in
    let z : VolumeView = record { system = c.grow-named.new.self; cells = c.settle_wider.new.cells } in
    let t = tables_of c.args.self.now.system in
    let plan = subst (λ (y : VolumeView). PlansGrow (tables_of y.system) x n lot) c.self.view_is c.in-Ok.ensures.lot in
    let first = c.len-first.ensures.len ∙ ap (λ (l : LotView). length l.groups) c.lot.ensures ∙ ap (λ (y : VolumeView). length (groups_of (tables_of y.system) x)) c.self.view_is in
    subst (λ q. AnswersLine state left (Asks (Grow c.args.path.now n)) c.args.self.now z room q a b) (sym c.settle_wider.ensures.told)
    (grow_answers state left c.args.self.now c.args.path.now n room x c.in-Some.ensures.slot c.in-Some.ensures.found lot c.len.ensures.lot plan c.wider_lots_have_the_same.ensures z a m b
    (grow_within state left t x n lot c.len-first.result a m c.len.ensures.lot plan first c.init_groups.ensures.within)
    (λ told. grow_new (lot_of t x) lot c.len-first.result (state m) first (c.in-Ok-init_groups.ensures.settled told) (c.in-Ok-init_groups.ensures.blocks told)) r
    (subst (λ (y : VolumeView). Changes state left x (row_at y.system.names x) lot.groups y.system z.system r m b) c.self.view_is c.grow-named.ensures)
    (subst (λ (y : VolumeView). OnOk r (CellBecomes x (cell_at z.cells x) y.cells z.cells)) c.self.view_is c.settle_wider.ensures.done)
    (subst (λ (y : VolumeView). OnOk r (IsWidened lot (state b) (cell_at y.cells x) (cell_at z.cells x))) c.self.view_is c.settle_wider.ensures.widened)
    (subst (λ (y : VolumeView). OnErr r (z.cells ≡ y.cells)) c.self.view_is c.settle_wider.ensures.failed))
