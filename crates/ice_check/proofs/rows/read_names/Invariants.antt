use Rattle.std.proofs.Common.{◌≡◌, ℕ, length}
use Rattle.ice_base.specs.Views.{Looked}
use Rattle.ice_map.specs.Inodes.{inode_of}
use Rattle.ice_reads.specs.Tables.{Map}
use Rattle.ice_check.specs.Marks.{AreRead}
use Rattle.ice_check.specs.Names.{array_names}
use Rattle.ice_check.specs.Shown.{Shows}
use Rattle.ice_check.proofs.rows.read_names.Given as goal

abbrev pub invariant-loop-k : goal.invariant-loop-k
invariant-loop-k g l = record {
  looked : Looked g.D.Disk g.V.View l.lot l.initial.view l.initial.disk l.view l.disk;
  long : length l.names ≡ length l.initial.names;
  names : (m : Map) (number : ℕ) → Shows g.V.View l.lot l.initial.view l.initial.disk m → l.node ≡ inode_of m number → AreRead m number l.k (array_names l.names);
}
