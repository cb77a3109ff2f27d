use Rattle.ice_cube.proofs.FreshLoops.{WrotePlaces}
use Rattle.ice_cube.proofs.fresh.init_group.Given as goal

abbrev pub invariant-loop-at : goal.invariant-loop-at
invariant-loop-at g l = WrotePlaces g.D.Disk.state g.D.Disk.left l.lot l.ordinal l.at l.initial.disk l.disk
