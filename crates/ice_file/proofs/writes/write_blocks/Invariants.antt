use Rattle.std.proofs.Common.{◌-◌, ◌+◌, ◌*◌, ◌/◌, ◌≤◌, ◌<◌}
use Rattle.ice_base.specs.Views.{Spent}
use Rattle.ice_map.specs.Growth.{Grew, InodesStay}
use Rattle.ice_map.specs.Own.{MadeOf, blocks_for}
use Rattle.ice_file.specs.Writes.{Written, up_to, blocks_with}
use Rattle.ice_map.specs.Moves.{due}
use Rattle.ice_map.proofs.GrowthLaws.{Unmixed}
use Rattle.ice_file.proofs.writes.write_blocks.Given as goal

abbrev pub invariant-loop-k : goal.invariant-loop-k
invariant-loop-k g l = record {
  spent : Spent g.D.Disk g.K.View l.lot 44 l.initial.keep l.initial.disk l.keep l.disk;
  pays : g.K.View.room l.initial.keep + due (g.K.View.held l.keep) l.inode.single (blocks_with l.size (up_to l.at l.end l.k)) ≤ g.K.View.room l.keep + due (g.K.View.held l.initial.keep) l.initial.inode.single (blocks_for l.size) + 2 * (l.k - l.at / 1024);
  written : g.K.View.shows l.lot l.initial.keep l.initial.disk → MadeOf l.lot (g.K.View.map l.initial.keep l.initial.disk l.lot) l.initial.inode (blocks_for l.size)
      → Written l.lot (g.K.View.map l.initial.keep l.initial.disk l.lot) (g.K.View.map l.keep l.disk l.lot) l.initial.inode l.inode (blocks_for l.size) (blocks_with l.size (up_to l.at l.end l.k)) l.at (up_to l.at l.end l.k) l.bytes;
  grew : g.K.View.shows l.lot l.initial.keep l.initial.disk
      → Grew l.lot (g.K.View.map l.initial.keep l.initial.disk l.lot) (g.K.View.map l.keep l.disk l.lot) l.initial.inode l.inode (blocks_for l.size) (blocks_with l.size (up_to l.at l.end l.k));
  stays : g.K.View.shows l.lot l.initial.keep l.initial.disk → InodesStay (g.K.View.map l.initial.keep l.initial.disk l.lot) (g.K.View.map l.keep l.disk l.lot);
  mixed : g.K.View.shows l.lot l.initial.keep l.initial.disk → l.k ≤ blocks_for l.size → 12 < blocks_for l.size
      → Unmixed (g.K.View.map l.initial.keep l.initial.disk l.lot) (g.K.View.map l.keep l.disk l.lot) l.initial.inode (blocks_for l.size);
}
