use Rattle.std.proofs.Common.{◌≡◌, ℕ, ◌+◌, ◌-◌, ◌*◌, List, [], ◌∷◌, ◌++◌, length}
use Rattle.ice_base.specs.Views.{Looked}
use Rattle.tree_spec.specs.Costs.{form_one}
use Rattle.ice_reads.specs.Tables.{Map, rows_in}
use Rattle.ice_map.specs.Inodes.{inode_of}
use Rattle.ice_map.specs.Own.{own}
use Rattle.ice_rules.specs.Walks.{IsOpen}
use Rattle.ice_check.specs.Marks.{CheckedRows, IsAt, SeenBefore}
use Rattle.ice_check.specs.Shown.{Shows}
use Rattle.ice_check.proofs.walk.+check.Given as goal

abbrev pub decreases-check_inode : goal.decreases-check_inode
decreases-check_inode g l = 2 * (26 - l.depth) + 1

abbrev pub decreases-check_rows : goal.decreases-check_rows
decreases-check_rows g l = 2 * (26 - l.depth)

abbrev pub invariant-check_rows-loop-k : goal.invariant-check_rows-loop-k
invariant-check_rows-loop-k g l = record {
  looked : Looked g.D.Disk g.V.View l.lot l.fn.view l.fn.disk l.view l.disk;
  long : length l.inodes ≡ length l.fn.inodes;
  wide : length l.blocks ≡ length l.fn.blocks;
  room : length l.names ≡ length l.fn.names;
  checked : (m : Map) (number : ℕ) → Shows g.V.View l.lot l.fn.view l.fn.disk m → l.node ≡ inode_of m number → IsOpen form_one l.lot m number → l.node.size ≡ length (rows_in form_one (own form_one m number))
      → CheckedRows form_one l.lot m (rows_in form_one (own form_one m number)) (l.depth + 1) l.k l.fn.inodes l.inodes l.fn.blocks l.blocks;
  seen : (m : Map) (w : List ℕ) (number : ℕ) → Shows g.V.View l.lot l.fn.view l.fn.disk m → l.node ≡ inode_of m number → IsOpen form_one l.lot m number → l.node.size ≡ length (rows_in form_one (own form_one m number))
      → IsAt form_one l.lot m w number l.depth → SeenBefore form_one l.lot m (w ++ 0 ∷ []) l.fn.inodes l.fn.blocks → SeenBefore form_one l.lot m (w ++ l.k ∷ []) l.inodes l.blocks;
}
