-- What a walk of a recovered tree finds, and what a map with a tree and loose things holds.
use Rattle.std.proofs.Common.{◌≡◌, ◌≤◌, ℕ, true, List, [], ◌∷◌, length, length-append, sym, arith}
use Rattle.ice_base.specs.Lots.{LotView}
use Rattle.ice_base.specs.Used.{used_inode, counted}
use Rattle.ice_map.specs.Inodes.{inode_of}
use Rattle.ice_map.proofs.ListLaws.{times-append, has-head}
use Rattle.ice_map.specs.Own.{own, file_bytes, WellMade}
use Rattle.ice_dir.specs.Rows.{IsDirectory}
use Rattle.tree_spec.specs.Trees.{Tree, File, Dir, Entries, rows, walk, Found}
use Rattle.tree_spec.specs.Costs.{form_one}
use Rattle.ice_reads.specs.Tables.{Map}
use Rattle.ice_reads.specs.Reads.{Reads, used_blocks, used_inodes, inode_on}
use Rattle.ice_reads.specs.Recovers.{MapRecovers}
use Rattle.ice_reads.proofs.Frames.{times-here}
use Rattle.ice_steps.specs.Beside.{Beside}
use Rattle.ice_steps.proofs.Counts.{mark-set}
use Rattle.ice_steps.proofs.Lengths.{file-size}
use Rattle.ice_steps.proofs.Made.{own-first, made-reads, beside_part, beside_made}
use Rattle.ice_steps.proofs.Recovers.{recovers_beside}

-- inode i is a file of these bytes
pub record FileAt (m : Map) (i : ℕ) (bytes : List ℕ) : Type 0 where
  pub kind : (inode_of m i).kind ≡ 1
  pub size : (inode_of m i).size ≡ length bytes
  pub within : (inode_of m i).size ≤ 274432
  pub bytes_are : file_bytes (own form_one m i) ≡ bytes

-- inode i is a directory with as many rows as these entries are
pub record DirAt (lot : LotView) (m : Map) (i : ℕ) (es : Entries) : Type 0 where
  pub is : IsDirectory lot (inode_of m i)
  pub size : (inode_of m i).size ≡ length (rows es)

-- an inode that stands for a file is a file of its bytes
pub file_at : (lot : LotView) (m : Map) (i h : ℕ) (bytes : List ℕ) → Reads form_one lot (own form_one m) i h (File bytes) → FileAt m i bytes
file_at lot m i h bytes r = record { kind = r.1.is_file; size = file-size m i bytes r.1; within = r.1.within; bytes_are = r.1.bytes_are }

pub dir_at : (lot : LotView) (m : Map) (i h : ℕ) (es : Entries) → Reads form_one lot (own form_one m) i h (Dir es) → DirAt lot m i es
dir_at lot m i h es r = record { is = record { kind = r.1.is_dir; few = r.1.within }; size = sym r.1.count }

module _ (mode : ℕ) (lot : LotView) (m : Map) (t : Tree) (k : ℕ) where
  -- of a map with a tree and loose things
  module _ (xs is : List ℕ) (b : Beside form_one mode lot m t k xs is) (q : List (List ℕ)) where
    pub beside_file : (bytes : List ℕ) → walk q t ≡ Found (File bytes) → FileAt m (inode_on form_one (own form_one m) 0 q) bytes
    beside_file bytes found = file_at lot m (inode_on form_one (own form_one m) 0 q) (length q) bytes (beside_part mode lot m t k xs is b q (File bytes) found)

    pub beside_dir : (es : Entries) → walk q t ≡ Found (Dir es) → DirAt lot m (inode_on form_one (own form_one m) 0 q) es
    beside_dir es found = dir_at lot m (inode_on form_one (own form_one m) 0 q) (length q) es (beside_part mode lot m t k xs is b q (Dir es) found)

  -- of a map that recovers a tree
  module _ (r : MapRecovers form_one mode lot m t k) where
    whole : Beside form_one mode lot m t k [] []
    whole = recovers_beside form_one mode lot m t k r

    module _ (q : List (List ℕ)) where
      -- the inode to which a walk comes stands for what the walk found
      pub walk_part : (s : Tree) → walk q t ≡ Found s → Reads form_one lot (own form_one m) (inode_on form_one (own form_one m) 0 q) (length q) s
      walk_part s found = beside_part mode lot m t k [] [] whole q s found

      -- the inode to which a walk comes is well made, in a lot of at most 64 groups
      pub walk_made : length lot.groups ≤ 64 → (s : Tree) → walk q t ≡ Found s → WellMade lot form_one m (inode_on form_one (own form_one m) 0 q)
      walk_made few s found = beside_made mode lot m t k [] [] whole few q s found

      -- where the walk found a file, its inode is a file of these bytes
      pub walk_file : (bytes : List ℕ) → walk q t ≡ Found (File bytes) → FileAt m (inode_on form_one (own form_one m) 0 q) bytes
      walk_file bytes found = beside_file [] [] whole q bytes found

      -- where the walk found a directory, its inode is a directory of these entries
      pub walk_dir : (es : Entries) → walk q t ≡ Found (Dir es) → DirAt lot m (inode_on form_one (own form_one m) 0 q) es
      walk_dir es found = beside_dir [] [] whole q es found

-- a tree that stands loose beside the other
module _ (mode : ℕ) (lot : LotView) (m : Map) (t : Tree) (k : ℕ) (is : List ℕ) (j h : ℕ) (v : Tree)
    (b : Beside form_one mode lot m t k (used_blocks form_one (own form_one m) j v) is) (r : Reads form_one lot (own form_one m) j h v) where
  -- the inode of a tree that stands loose is well made, in a lot of at most 64 groups
  pub loose_made : length lot.groups ≤ 64 → WellMade lot form_one m j
  loose_made few = made-reads lot few m j h v r (λ a d.
      let e = b.blocks a d in
      let c = times-append (used_blocks form_one (own form_one m) 0 t) (used_blocks form_one (own form_one m) j v) a in
      let f = own-first form_one (own form_one m) j v a in
      omega arith)

-- a loose inode
module _ (mode : ℕ) (lot : LotView) (m : Map) (t : Tree) (k : ℕ) (xs : List ℕ) (j : ℕ) (is : List ℕ) (b : Beside form_one mode lot m t k xs (j ∷ is)) where
  -- a loose inode is marked used
  pub loose_used : used_inode m j ≡ true
  loose_used =
      let e = b.inodes j (b.others_small j (has-head j is)) in
      let c = times-append (used_inodes form_one (own form_one m) 0 t) (j ∷ is) j in
      let n = times-here j is in
      mark-set (used_inode m j) (omega arith)

  -- where an inode stands loose, the count of used inodes is at least 1
  pub loose_counted : 1 ≤ counted true m
  loose_counted =
      let e = b.inode_count in
      let c = length-append (used_inodes form_one (own form_one m) 0 t) (j ∷ is) in
      omega arith
