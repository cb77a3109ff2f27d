use Rattle.std.proofs.Common.{ℕ, ◌*◌, ◌<◌}
use Rattle.ice_base.specs.Views.{Looked}
use Rattle.ice_reads.specs.Tables.{Map}
use Rattle.ice_check.specs.Marks.{GroupAgrees}
use Rattle.ice_check.specs.Shown.{Shows}
use Rattle.ice_check.proofs.compare.compare_bits.Given as goal

abbrev pub invariant-loop-group : goal.invariant-loop-group
invariant-loop-group g l = record {
  looked : Looked g.D.Disk g.V.View l.lot l.initial.view l.initial.disk l.view l.disk;
  each : (m : Map) → Shows g.V.View l.lot l.initial.view l.initial.disk m → (o : ℕ) → o < l.group → GroupAgrees (m (256 * o)) o l.inodes l.blocks;
}
