use Rattle.std.proofs.Common.{◌≡◌, OnOk, OnErr, ap, sym, subst, arith}
use Rattle.tree_spec.specs.Lines.{Asks, Offline}
use Rattle.ice_tables.specs.Lots.{groups_of}
use Rattle.ice_names.specs.Names.{marked, row_at}
use Rattle.ice_names.specs.declared.mark.Mark.TheVariants as mark
use Rattle.ice_system.specs.Changes.{Changes}
use Rattle.ice_system.specs.Systems.{tables_of}
use Rattle.ice_volume.specs.Lines.{AnswersLine}
use Rattle.ice_volume.specs.Told.{CellBecomes}
use Rattle.ice_volume.specs.Volumes.{VolumeView}
use Rattle.ice_volume.specs.declared.cell.Cell.TheVariants.{Closed}
use Rattle.ice_volume.proofs.TableOrders.{other_state}
use Rattle.ice_volume.proofs.TableLines.{mounted_stays, offline_answers, offline_none, offline_stays, sessions_after, where_ok}
use Rattle.ice_volume.proofs.volume.Volume.offline.Goals as goal

pub returns-in-None : goal.returns-in-None
returns-in-None g c = λ room. offline_none g.D.Disk.state g.D.Disk.left c.args.self.now c.args.path.now room c.args.disk.now c.in-None.ensures.found

pub returns-in-Offline : goal.returns-in-Offline
returns-in-Offline g c = λ room. offline_stays g.D.Disk.state g.D.Disk.left c.args.self.now c.args.path.now room c.args.disk.now c.in-Some.slot c.in-Some.ensures.slot c.in-Some.ensures.found
    c.state.result c.state.ensures c.in-Offline.is

pub returns-in-Mounted : goal.returns-in-Mounted
returns-in-Mounted g c = λ room. mounted_stays g.D.Disk.state g.D.Disk.left c.args.self.now c.args.path.now room c.args.disk.now c.in-Some.slot c.in-Some.ensures.slot c.in-Some.ensures.found
    c.state.result c.state.ensures c.in-Mounted.is

pub settle-requires : goal.settle-requires
settle-requires g c =
    let less = c.in-Some.ensures.slot in
    let few = c.slots.ensures.table.few in
    let same = ap (λ (y : VolumeView). y.system.names.slots) c.self.view_is in
    omega (arith, less, few, same)

pub invariant_of-self : goal.invariant_of-self
invariant_of-self g c = sessions_after g.D.Disk.state g.D.Disk.left (record { system = c.self.inside.system; cells = c.self.inside.cells }) (record { system = c.set_mark-marked.new.self; cells = c.settle.new.cells })
    c.in-Some.slot (marked mark.Offline (row_at c.self.inside.system.names c.in-Some.slot)) (groups_of (tables_of c.self.inside.system) c.in-Some.slot) Closed
    c.args.disk.now c.set_mark-marked.new.disk c.set_mark-marked.result c.self.invariant c.set_mark-marked.ensures c.settle.ensures.done c.settle.ensures.failed
    (omega (arith, c.settle.ensures.count, c.self.invariant.count)) (where_ok c.set_mark-marked.result (λ becomes. tt))

pub returns : goal.returns
returns g c = λ room.
    let state = g.D.Disk.state in let left = g.D.Disk.left in let r = c.set_mark-marked.result in let a = c.args.disk.now in let b = c.set_mark-marked.new.disk in let x = c.in-Some.slot in
    let z : VolumeView = record { system = c.set_mark-marked.new.self; cells = c.settle.new.cells } in
    subst (λ q. AnswersLine state left (Asks (Offline c.args.path.now)) c.args.self.now z room q a b) (sym c.settle.ensures.told)
    (offline_answers state left c.args.self.now z c.args.path.now room a b x c.in-Some.ensures.slot c.in-Some.ensures.found r c.state.result c.state.ensures
    (other_state c.state.result c.in_default.not-Offline c.in_default.not-Mounted)
    (subst (λ (y : VolumeView). Changes state left x (marked mark.Offline (row_at y.system.names x)) (groups_of (tables_of y.system) x) y.system z.system r a b) c.self.view_is c.set_mark-marked.ensures)
    (subst (λ (y : VolumeView). OnOk r (CellBecomes x Closed y.cells z.cells)) c.self.view_is c.settle.ensures.done)
    (subst (λ (y : VolumeView). OnErr r (z.cells ≡ y.cells)) c.self.view_is c.settle.ensures.failed))
