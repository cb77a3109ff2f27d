use Rattle.ice_cube.proofs.FreshLoops.{WroteGroups}
use Rattle.ice_cube.proofs.fresh.write_groups.Given as goal

abbrev pub invariant-loop-ordinal : goal.invariant-loop-ordinal
invariant-loop-ordinal g l = WroteGroups g.D.Disk.state g.D.Disk.left l.lot l.from l.ordinal l.initial.disk l.disk
