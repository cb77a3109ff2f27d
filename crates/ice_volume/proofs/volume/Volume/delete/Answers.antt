use Rattle.std.proofs.Common.{◌≡◌, [], None, OnOk, OnErr, ap, sym, subst, arith}
use Rattle.tree_spec.specs.Lines.{Asks, Delete}
use Rattle.ice_system.specs.Changes.{Changes}
use Rattle.ice_volume.specs.Lines.{AnswersLine}
use Rattle.ice_volume.specs.Told.{CellBecomes}
use Rattle.ice_volume.specs.Volumes.{VolumeView}
use Rattle.ice_volume.specs.declared.cell.Cell.TheVariants.{Closed}
use Rattle.ice_volume.proofs.TableLines.{delete_answers, delete_none, sessions_after, where_ok}
use Rattle.ice_volume.proofs.volume.Volume.delete.Goals as goal

pub returns-in-None : goal.returns-in-None
returns-in-None g c = λ room. delete_none g.D.Disk.state g.D.Disk.left c.args.self.now c.args.path.now room c.args.disk.now c.in-None.ensures.found

pub settle-requires : goal.settle-requires
settle-requires g c =
    let less = c.in-Some.ensures.slot in
    let few = c.slots.ensures.table.few in
    let same = ap (λ (y : VolumeView). y.system.names.slots) c.self.view_is in
    omega (arith, less, few, same)

pub invariant_of-self : goal.invariant_of-self
invariant_of-self g c = sessions_after g.D.Disk.state g.D.Disk.left (record { system = c.self.inside.system; cells = c.self.inside.cells }) (record { system = c.delete-deleted.new.self; cells = c.settle.new.cells })
    c.in-Some.slot None [] Closed c.args.disk.now c.delete-deleted.new.disk c.delete-deleted.result c.self.invariant c.delete-deleted.ensures c.settle.ensures.done c.settle.ensures.failed
    (omega (arith, c.settle.ensures.count, c.self.invariant.count)) (where_ok c.delete-deleted.result (λ becomes. tt))

pub returns : goal.returns
returns g c = λ room.
    let state = g.D.Disk.state in let left = g.D.Disk.left in let r = c.delete-deleted.result in let a = c.args.disk.now in let b = c.delete-deleted.new.disk in let x = c.in-Some.slot in
    let z : VolumeView = record { system = c.delete-deleted.new.self; cells = c.settle.new.cells } in
    subst (λ q. AnswersLine state left (Asks (Delete c.args.path.now)) c.args.self.now z room q a b) (sym c.settle.ensures.told)
    (delete_answers state left c.args.self.now z c.args.path.now room a b x c.in-Some.ensures.slot c.in-Some.ensures.found r
    (subst (λ (y : VolumeView). Changes state left x None [] y.system z.system r a b) c.self.view_is c.delete-deleted.ensures)
    (subst (λ (y : VolumeView). OnOk r (CellBecomes x Closed y.cells z.cells)) c.self.view_is c.settle.ensures.done)
    (subst (λ (y : VolumeView). OnErr r (z.cells ≡ y.cells)) c.self.view_is c.settle.ensures.failed))
