use Rattle.std.proofs.Common.{◌≡◌, ◌≤◌, ℕ, Some, false, OnOk, OnErr, sym, subst, arith}
use Rattle.tree_spec.specs.Lines.{Asks, Create}
use Rattle.ice_tables.specs.Lots.{total}
use Rattle.ice_system.specs.Changes.{Changes}
use Rattle.ice_system.specs.Plans.{PlansCreate, RefusesCreate}
use Rattle.ice_system.specs.Systems.{tables_of}
use Rattle.ice_volume.specs.Lines.{AnswersLine}
use Rattle.ice_volume.specs.Told.{CellBecomes}
use Rattle.ice_volume.specs.Volumes.{VolumeView}
use Rattle.ice_volume.specs.declared.cell.Cell.TheVariants.{Open}
use Rattle.ice_volume.proofs.GroupLines.{create_answers, create_faulted, create_lacks, create_refused, create_session, create_sited}
use Rattle.ice_volume.proofs.TableLines.{sessions_after, where_ok}
use Rattle.ice_volume.proofs.volume.Volume.create.Goals as goal

pub returns-in-Err : goal.returns-in-Err
returns-in-Err g c = λ room. create_refused g.D.Disk.state g.D.Disk.left c.args.self.now c.args.path.now c.args.groups room c.args.disk.now c.in-Err.refusal
    (subst (λ (y : VolumeView). RefusesCreate (tables_of y.system) c.args.path.now c.args.groups c.in-Err.refusal) c.self.view_is c.in-Err.ensures.refused)

pub make-requires : goal.make-requires
make-requires g c = record {
  sited = create_sited (tables_of c.self.inside.system) c.args.path.now c.args.groups c.in-Ok.lot (g.D.Disk.state c.args.disk.now).size c.in-Ok.ensures.lot c.requires.some
      (subst (λ (y : VolumeView). total (tables_of y.system) ≤ (g.D.Disk.state c.args.disk.now).size) (sym c.self.view_is) c.requires.room);
}

pub returns-in-Err-Memory : goal.returns-in-Err-Memory
returns-in-Err-Memory g c = λ room. create_lacks g.D.Disk.state g.D.Disk.left c.args.self.now c.args.path.now c.args.groups room c.in-Ok.lot
    (subst (λ (y : VolumeView). PlansCreate (tables_of y.system) c.args.path.now c.args.groups c.in-Ok.lot) c.self.view_is c.in-Ok.ensures.lot)
    c.args.disk.now c.make.new.disk (c.in-Err-Memory.ensures.memory (cc c.in-Err-Memory.field-0-is))

pub returns-in-Err-Disk : goal.returns-in-Err-Disk
returns-in-Err-Disk g c = λ room. create_faulted g.D.Disk.state g.D.Disk.left c.args.self.now c.args.path.now c.args.groups room c.in-Ok.lot
    (subst (λ (y : VolumeView). PlansCreate (tables_of y.system) c.args.path.now c.args.groups c.in-Ok.lot) c.self.view_is c.in-Ok.ensures.lot)
    c.args.disk.now c.make.new.disk c.make.ensures.within (c.in-Err-Disk.ensures.failed (cc c.in-Err-Disk.field-0-is))

pub invariant_of-self : goal.invariant_of-self
invariant_of-self g c =
    let lot = c.in-Ok.lot in let e = c.in-Ok-make.cube in let r = c.create-named.result in
    sessions_after g.D.Disk.state g.D.Disk.left (record { system = c.self.inside.system; cells = c.self.inside.cells }) (record { system = c.create-named.new.self; cells = c.settle.new.cells })
    lot.slot (Some (record { path = c.args.path.now; offline = false })) lot.groups (Open e) c.make.new.disk c.create-named.new.disk r c.self.invariant c.create-named.ensures
    (subst (λ (q : ℕ). OnOk r (CellBecomes q (Open e) c.self.inside.cells c.settle.new.cells)) c.slot.ensures.slot c.settle.ensures.done) c.settle.ensures.failed
    (omega (arith, c.settle.ensures.count, c.self.invariant.count))
    (where_ok r (λ becomes. create_session (tables_of c.self.inside.system) (tables_of c.create-named.new.self) c.args.path.now c.args.groups lot _ e c.in-Ok.ensures.lot c.in-Ok-make.ensures.starts.0 becomes))

pub returns : goal.returns
returns g c = λ room.
    let state = g.D.Disk.state in let left = g.D.Disk.left in let r = c.create-named.result in let a = c.args.disk.now in let m = c.make.new.disk in let b = c.create-named.new.disk in
    let lot = c.in-Ok.lot in let e = c.in-Ok-make.cube in
    let z : VolumeView = record { system = c.create-named.new.self; cells = c.settle.new.cells } in
    subst (λ q. AnswersLine state left (Asks (Create c.args.path.now c.args.groups)) c.args.self.now z room q a b) (sym c.settle.ensures.told)
    (create_answers state left c.args.self.now c.args.path.now c.args.groups room lot
    (subst (λ (y : VolumeView). PlansCreate (tables_of y.system) c.args.path.now c.args.groups lot) c.self.view_is c.in-Ok.ensures.lot)
    z a m b e c.in-Ok-make.ensures.starts.0 c.in-Ok-make.ensures.starts.3 c.in-Ok-make.ensures.made c.make.ensures.within r
    (subst (λ (y : VolumeView). Changes state left lot.slot (Some (record { path = c.args.path.now; offline = false })) lot.groups y.system z.system r m b) c.self.view_is c.create-named.ensures)
    (subst (λ (y : VolumeView). OnOk r (CellBecomes lot.slot (Open e) y.cells z.cells)) c.self.view_is
    (subst (λ (q : ℕ). OnOk r (CellBecomes q (Open e) c.self.inside.cells z.cells)) c.slot.ensures.slot c.settle.ensures.done))
    (subst (λ (y : VolumeView). OnErr r (z.cells ≡ y.cells)) c.self.view_is c.settle.ensures.failed))
