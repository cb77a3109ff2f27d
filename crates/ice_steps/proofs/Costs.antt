-- What changes cost, against what is free and counted: when the calls of the layers below find room.
use Rattle.std.proofs.Common.{◌≡◌, ◌≢◌, ◌≤◌, ◌<◌, ◌+◌, ◌-◌, ◌*◌, ◌/◌, ◌^◌, max, ℕ, true, false, not, List, length, None, ◌∙◌, refl, ap, arith}
use Rattle.std.proofs.lemmas.Bool.Decides.{nat_tests}
use Rattle.std.proofs.lemmas.Nat.{div-add-mod'}
use Rattle.std.specs.FinMap.{find}
use Rattle.ice_base.specs.Lots.{LotView}
use Rattle.ice_base.specs.Used.{used, counted, free_count, AllUsed}
use Rattle.ice_map.specs.Inodes.{inode_of}
use Rattle.ice_map.proofs.ListLaws.{count_none}
use Rattle.ice_map.specs.Own.{own, blocks_for}
use Rattle.ice_map.specs.Moves.{uses_of}
use Rattle.ice_file.specs.Writes.{blocks_with}
use Rattle.ice_dir.specs.Changes.{entry_blocks}
use Rattle.ice_dir.proofs.PutLaws.{dir-sixteenth}
use Rattle.tree_spec.specs.Trees.{Tree, File, Dir, Entries, rows, by_bytes, walk, Found, at, with_entry}
use Rattle.tree_spec.specs.Costs.{form_one, map_cost, file_blocks, blocks, nodes, node_quota, block_quota}
use Rattle.tree_spec.specs.Costs as tree
use Rattle.tree_spec.proofs.Sums.{total-at, total-with_at}
use Rattle.ice_reads.specs.Tables.{Map}
use Rattle.ice_reads.specs.Reads.{Reads, used_blocks, inode_on}
use Rattle.ice_steps.specs.Beside.{Beside}
use Rattle.ice_steps.proofs.Lengths.{uses-cost, length-blocks}
use Rattle.ice_steps.proofs.Needs.{beside_counted, loose_blocks_counted, file_uses, dir_uses}
use Rattle.ice_steps.proofs.Quotas.{beside_counts, beside_free_nodes, beside_free_blocks}
use Rattle.ice_steps.proofs.Walks.{beside_file, beside_dir}

uses-few : (c : ℕ) → uses_of c ≤ c + 1
uses-few c = grind (arith, nat_tests)

uses-more : (c d : ℕ) → c ≤ d → uses_of c ≤ uses_of d
uses-more c d h = grind (arith, nat_tests)

file-few : (n : ℕ) → n ≤ 274432 → blocks_for n ≤ 268
file-few n h = let d = div-add-mod' (n + 1023) 1024 in omega arith

dir-few : (n : ℕ) → n ≤ 4096 → entry_blocks form_one n ≤ 256
dir-few n h = let e = dir-sixteenth form_one n refl in let d = div-add-mod' (n + 15) 16 in omega arith

-- the blocks of a map are what the tree's map costs
pub file_cost : (n : ℕ) → n ≤ 274432 → uses_of (blocks_for n) ≡ map_cost (file_blocks n)
file_cost n h =
    uses-cost (blocks_for n) (file-few n h) ∙ ap map_cost (let e : (n + 1023) / 1024 ≡ (n + 1024 - 1) / 1024 = ap (λ x. x / 1024) (omega arith) in e)

-- the map of a directory of at most 4,096 entries uses as many blocks as the tree's costs say
pub dir_cost : (n : ℕ) → n ≤ 4096 → uses_of (entry_blocks form_one n) ≡ map_cost (tree.dir_blocks form_one n)
dir_cost n h =
    let f = dir-few n h in
    uses-cost (entry_blocks form_one n) (omega arith)
    ∙ ap map_cost (dir-sixteenth form_one n refl ∙ (let e : (n + 15) / 16 ≡ (n + 16 - 1) / 16 = ap (λ x. x / 16) (omega arith) in e))

module _ (mode : ℕ) (lot : LotView) (m : Map) (t : Tree) (k : ℕ) (few : length lot.groups ≤ 64) where
  module _ (xs is : List ℕ) (b : Beside form_one mode lot m t k xs is) where
    -- an inode can be taken and counted
    pub inode_left : nodes t + length is < node_quota (length lot.groups) → ¬ AllUsed true lot m
    inode_left h all =
        let z : free_count true lot m ≡ 0 = count_none (λ i. not (used true m i)) (64 * length lot.groups) (λ i l. ap not (all i l)) in
        let e = beside_free_nodes mode lot m t k xs is b in
        omega arith

    -- the count of used inodes is not the greatest that its field can hold
    pub inode_counts : counted true m ≢ 2 ^ 32 - 1
    inode_counts e = let c = (beside_counts mode lot m t k xs is b).1 in omega arith

    module _ (q : List (List ℕ)) where
      abbrev here : ℕ
      here = inode_on form_one (own form_one m) 0 q

      -- a row can be counted, and given back
      module _ (es : Entries) (found : walk q t ≡ Found (Dir es)) where
        -- with one row more the count of used blocks stays below 2 ^ 32
        pub add_counts : ¬ (2 ^ 32 + uses_of (entry_blocks form_one (inode_of m here).size)
            ≤ counted false m + uses_of (entry_blocks form_one ((inode_of m here).size + 1)))
        add_counts h =
            let c = (beside_counts mode lot m t k xs is b).0 in
            let s = (beside_dir mode lot m t k xs is b q es found).is.few in
            let f = dir-few ((inode_of m here).size + 1) (omega arith) in
            let u = uses-few (entry_blocks form_one ((inode_of m here).size + 1)) in
            omega arith

        -- the count of used blocks is not below what one row less gives back
        pub take_counts : ¬ (counted false m + uses_of (entry_blocks form_one ((inode_of m here).size - 1))
            < uses_of (entry_blocks form_one (inode_of m here).size))
        take_counts h =
            let c = beside_counted mode lot m t k xs is b q (Dir es) found in
            let u = dir_uses m here (beside_dir mode lot m t k xs is b q es found).is.kind in
            omega arith

      -- bytes can be counted, and given back
      module _ (bytes : List ℕ) (found : walk q t ≡ Found (File bytes)) where
        pub cut_counts : ¬ (counted false m < uses_of (blocks_for (inode_of m here).size))
        cut_counts h =
            let c = beside_counted mode lot m t k xs is b q (File bytes) found in
            let u = file_uses m here (beside_file mode lot m t k xs is b q bytes found).kind in
            omega arith

        -- with a write that ends at byte 274,432 at most the count of used blocks stays below 2 ^ 32
        pub write_counts : (end : ℕ) → end ≤ 274432
            → ¬ (2 ^ 32 + uses_of (blocks_for (inode_of m here).size) ≤ counted false m + uses_of (blocks_with (inode_of m here).size end))
        write_counts end l h =
            let c = (beside_counts mode lot m t k xs is b).0 in
            let s = (beside_file mode lot m t k xs is b q bytes found).within in
            let f = file-few (max (inode_of m here).size end) (omega arith) in
            let u = uses-few (blocks_with (inode_of m here).size end) in
            omega arith

        -- there is room for them where the next tree meets the quota
        pub write_fits : (now : List ℕ) (end : ℕ) → length now ≡ max (length bytes) end → end ≤ 274432
            → blocks form_one (at q (λ s. File now) t) + length xs ≤ block_quota (length lot.groups)
            → ¬ (free_count false lot m + uses_of (blocks_for (inode_of m here).size) < uses_of (blocks_with (inode_of m here).size end))
        write_fits now end long l fits h =
            let d = beside_file mode lot m t k xs is b q bytes found in
            let s = d.size in
            let w = d.within in
            let free = beside_free_blocks mode lot m t k xs is b few in
            let moved = total-at (λ bytes. map_cost (file_blocks (length bytes)))
            (λ entries. map_cost (tree.dir_blocks form_one entries)) q (λ s. File now) t (File bytes) found in
            let old = file_cost (inode_of m here).size w in
            let new = file_cost (max (inode_of m here).size end) (omega arith) in
            let x = ap (λ n. map_cost (file_blocks n)) s in
            let e : max (inode_of m here).size end ≡ length now = omega arith in
            let y = ap (λ n. map_cost (file_blocks n)) e in
            omega arith

  -- a loose file can be given back
  module _ (j h : ℕ) (v : Tree) (is : List ℕ) (b : Beside form_one mode lot m t k (used_blocks form_one (own form_one m) j v) is)
      (r : Reads form_one lot (own form_one m) j h v) where
    -- the count of used blocks is not below what the loose file gives back
    pub loose_counts : (inode_of m j).kind ≡ 1 → ¬ (counted false m < uses_of (blocks_for (inode_of m j).size))
    loose_counts kind l =
        let c = loose_blocks_counted mode lot m t k j v is b in
        let u = file_uses m j kind in
        omega arith

    -- there is room for a row that names the loose tree where the next tree meets the quota
    pub add_fits : (q : List (List ℕ)) (c : List ℕ) (es : Entries) → walk q t ≡ Found (Dir es) → find by_bytes c (rows es) ≡ None
        → blocks form_one (at q (with_entry c v) t) ≤ block_quota (length lot.groups)
        → ¬ (free_count false lot m + uses_of (entry_blocks form_one (inode_of m (inode_on form_one (own form_one m) 0 q)).size)
        < uses_of (entry_blocks form_one ((inode_of m (inode_on form_one (own form_one m) 0 q)).size + 1)))
    add_fits q c es found none fits l =
        let d = beside_dir mode lot m t k (used_blocks form_one (own form_one m) j v) is b q es found in
        let s = d.size in
        let w = d.is.few in
        let free = beside_free_blocks mode lot m t k (used_blocks form_one (own form_one m) j v) is b few in
        let long = length-blocks lot few m j h v r in
        let moved = total-with_at (λ bytes. map_cost (file_blocks (length bytes)))
        (λ entries. map_cost (tree.dir_blocks form_one entries)) q c v t es found none in
        let old = dir_cost (inode_of m (inode_on form_one (own form_one m) 0 q)).size (omega arith) in
        let new = dir_cost ((inode_of m (inode_on form_one (own form_one m) 0 q)).size + 1) (omega arith) in
        let x = ap (λ n. map_cost (tree.dir_blocks form_one n)) s in
        let y = ap (λ n. map_cost (tree.dir_blocks form_one (n + 1))) s in
        omega arith
