-- How many blocks and inodes a tree uses.
use Rattle.std.proofs.Common.{◌≡◌, ◌≤◌, ℕ, List, [], ◌∷◌, length, length-append, ◌∙◌, sym, refl, ap, arith}
use Rattle.std.proofs.lemmas.Bool.Decides.{nat_tests}
use Rattle.ice_base.specs.Lots.{LotView}
use Rattle.ice_map.specs.Inodes.{inode_of}
use Rattle.ice_map.specs.Own.{own}
use Rattle.ice_map.specs.Moves.{uses_of}
use Rattle.ice_file.proofs.ByteLaws.{all_bytes}
use Rattle.ice_dir.specs.Rows.{DirRow}
use Rattle.std.proofs.lemmas.List.FromFn.{length-map-range_with_len}
use Rattle.ice_file.specs.Files.{byte_of}
use Rattle.tree_spec.specs.Trees.{Tree, File, Dir, Entries, Nil, Entry, total_in}
use Rattle.tree_spec.specs.Costs.{Form, form_one, map_cost, blocks, nodes}
use Rattle.ice_reads.specs.Tables.{Map, Table, rows_in, inode_named, IsFileInode}
use Rattle.ice_reads.proofs.UsedCosts.{cost_is_used}
use Rattle.ice_reads.specs.Reads.{Reads, entries_use, used_blocks, used_inodes}

-- each file and directory has one inode
module _ (f : Form) (o : Table) where
  mutual
    -- a tree uses as many inodes as it has files and directories
    pub length-inodes : (i : ℕ) (t : Tree) → length (used_inodes f o i t) ≡ nodes t
    length-inodes i (File bytes) = refl
    length-inodes i (Dir es) = let r = length-inodes_in (rows_in f (o i)) es in omega arith

    length-inodes_in : (rs : List DirRow) (es : Entries) → length (entries_use f o (λ i. i ∷ []) rs es) ≡ total_in (λ _. 1) (λ _. 1) es
    length-inodes_in rs Nil = refl
    length-inodes_in rs (Entry c t es) =
        let a = length-append (used_inodes f o (inode_named c rs) t) (entries_use f o (λ i. i ∷ []) rs es) in
        let r = length-inodes (inode_named c rs) t in
        let s = length-inodes_in rs es in
        omega arith

-- what a map of at most 268 blocks costs
pub uses-cost : (c : ℕ) → c ≤ 268 → uses_of c ≡ map_cost c
uses-cost c h = grind (arith, nat_tests)

-- the size of a file's inode is the number of the file's bytes
pub file-size : (m : Map) (i : ℕ) (bytes : List ℕ) → IsFileInode form_one (own form_one m i) bytes → (inode_of m i).size ≡ length bytes
file-size m i bytes r =
    let e = all_bytes form_one refl m i r.is_file in
    let l = length-map-range_with_len (byte_of m (inode_of m i)) 0 (inode_of m i).size in
    sym l ∙ ap (λ (xs : List ℕ). length xs) (sym e ∙ r.bytes_are)

module _ (lot : LotView) (few : length lot.groups ≤ 64) (m : Map) where
  -- a tree that an inode stands for uses as many blocks as its costs say
  pub length-blocks : (i h : ℕ) (t : Tree) → Reads form_one lot (own form_one m) i h t → length (used_blocks form_one (own form_one m) i t) ≡ blocks form_one t
  length-blocks i h t r = cost_is_used form_one lot m i h t refl few r
