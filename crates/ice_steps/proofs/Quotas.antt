-- What is free in a lot, and how great its counts are.
use Rattle.std.proofs.Common.{◌≡◌, ◌≤◌, ◌<◌, ◌+◌, ◌*◌, ℕ, Bool, true, false, ◌&&◌, List, [], ◌++◌, length, length-append, sym, refl, ap, arith, ltb}
use Rattle.std.proofs.lemmas.Bool.Decides.{nat_tests}
use Rattle.ice_base.specs.Lots.{LotView}
use Rattle.ice_base.specs.Spare.{has}
use Rattle.ice_base.specs.Used.{used_block, used_inode, is_data, counted, free_count, Reserved}
use Rattle.ice_base.proofs.UsedLaws.{group_mod, data_of, data_place, data_below}
use Rattle.ice_base.proofs.CountLaws.{count_below-not}
use Rattle.ice_map.specs.Maps.{times}
use Rattle.ice_map.proofs.ListLaws.{has-append, has-times}
use Rattle.ice_map.specs.Own.{mark, own}
use Rattle.ice_map.proofs.OwnLaws.{times-has}
use Rattle.tree_spec.specs.Trees.{Tree}
use Rattle.tree_spec.specs.Costs.{form_one, blocks, nodes, block_quota, node_quota}
use Rattle.ice_reads.specs.Tables.{Map}
use Rattle.ice_reads.specs.Reads.{used_blocks, used_inodes}
use Rattle.ice_reads.specs.Recovers.{MapRecovers}
use Rattle.ice_reads.proofs.Numbers.{Reads-data}
use Rattle.ice_steps.specs.Beside.{Beside}
use Rattle.ice_steps.proofs.Recovers.{recovers_beside}
use Rattle.ice_steps.proofs.Others.{all-small}
use Rattle.ice_steps.proofs.Counts.{count-times, count-groups}
use Rattle.ice_steps.proofs.Lengths.{length-inodes, length-blocks}

-- the marked data places
abbrev data_used : LotView → Map → ℕ → Bool
data_used lot m a = is_data lot a && used_block m a

not-data : (lot : LotView) (o j : ℕ) → j < 9 → is_data lot (256 * o + j) ≡ false
not-data lot o j h =
    let e = group_mod false o j (omega arith) in
    elim (is_data lot (256 * o + j)) as (λ t. is_data lot (256 * o + j) ≡ t → t ≡ false) [
      | true ↦ λ t. let p = data_place lot (256 * o + j) t in absurd (omega arith)
      | false ↦ λ t. refl
    ] refl

module _ (lot : LotView) (m : Map) where
  -- nine places of each group are marked, and beside them the data places of a list
  pub blocks-counted : (xs : List ℕ) → Reserved lot m → ((b : ℕ) → has xs b ≡ true → is_data lot b ≡ true)
      → ((b : ℕ) → is_data lot b ≡ true → times xs b ≡ mark (used_block m b))
      → free_count false lot m + length xs ≡ 247 * length lot.groups
  blocks-counted xs reserved places marks =
      let groups = count-groups (used_block m) (data_used lot m) (length lot.groups)
      (λ o j h l. reserved.set (256 * o + j) (omega arith) (let e = group_mod false o j (omega arith) in omega arith))
      (λ o j h l. ap (λ t. t && used_block m (256 * o + j)) (not-data lot o j l))
      (λ o j h l k. ap (λ t. t && used_block m (256 * o + j)) (sym (data_of lot (256 * o + j) (omega arith) (let e = group_mod false o j k in omega arith)))) in
      let listed = count-times (data_used lot m) (256 * length lot.groups) xs (λ a h. data_below lot a (places a h)) (λ a h. at a) in
      let free = count_below-not (used_block m) (256 * length lot.groups) in
      omega arith
    where
      at : (a : ℕ) → times xs a ≡ mark (data_used lot m a)
      at a =
          elim (is_data lot a) as (λ t. is_data lot a ≡ t → times xs a ≡ mark (t && used_block m a)) [
            | true ↦ λ t. marks a t
            | false ↦ λ t. elim (ltb 0 (times xs a)) as (λ u. ltb 0 (times xs a) ≡ u → times xs a ≡ 0) [
              | true ↦ λ u. let one : 0 < times xs a = grind (arith, nat_tests) in let d = places a (times-has xs a (omega arith)) in absurd cc
              | false ↦ λ u. let none : times xs a ≤ 0 = grind (arith, nat_tests) in omega arith
            ] refl
          ] refl

  pub inodes-counted : (is : List ℕ) → ((i : ℕ) → has is i ≡ true → i < 64 * length lot.groups)
      → ((i : ℕ) → i < 64 * length lot.groups → times is i ≡ mark (used_inode m i))
      → free_count true lot m + length is ≡ 64 * length lot.groups
  inodes-counted is small marks =
      let listed = count-times (used_inode m) (64 * length lot.groups) is small marks in
      let free = count_below-not (used_inode m) (64 * length lot.groups) in
      omega arith

-- what is free beside the tree and the loose things
module _ (mode : ℕ) (lot : LotView) (m : Map) (t : Tree) (k : ℕ) (xs is : List ℕ) (b : Beside form_one mode lot m t k xs is) where
  pub beside_free_nodes : free_count true lot m + (nodes t + length is) ≡ node_quota (length lot.groups)
  beside_free_nodes =
      let e = length-inodes form_one (own form_one m) 0 t in
      let a = length-append (used_inodes form_one (own form_one m) 0 t) is in
      let c = inodes-counted lot m (used_inodes form_one (own form_one m) 0 t ++ is) (λ i h. all-small mode lot m t k xs is b i (has-times _ i h)) b.inodes in
      omega arith

  places : (a : ℕ) → has (used_blocks form_one (own form_one m) 0 t ++ xs) a ≡ true → is_data lot a ≡ true
  places a h =
      let e = has-append (used_blocks form_one (own form_one m) 0 t) xs a in
      elim (has xs a) as (λ u. has xs a ≡ u → is_data lot a ≡ true) [
        | true ↦ λ u. b.more_data a u
        | false ↦ λ u. Reads-data form_one lot (own form_one m) a 0 0 t b.reads (has-times (used_blocks form_one (own form_one m) 0 t) a (grind arith))
      ] refl

  used_blocks_fill : free_count false lot m + length (used_blocks form_one (own form_one m) 0 t ++ xs) ≡ 247 * length lot.groups
  used_blocks_fill = blocks-counted lot m (used_blocks form_one (own form_one m) 0 t ++ xs) b.reserved places b.blocks

  pub beside_free_blocks : length lot.groups ≤ 64 → free_count false lot m + (blocks form_one t + length xs) ≡ block_quota (length lot.groups)
  beside_free_blocks few =
      let e = length-blocks lot few m 0 0 t b.reads in
      let a = length-append (used_blocks form_one (own form_one m) 0 t) xs in
      let c = used_blocks_fill in
      omega arith

  -- the counts are small
  pub beside_counts : (counted false m ≤ 247 * length lot.groups) × (counted true m ≤ 64 * length lot.groups)
  beside_counts = (
    (let c = used_blocks_fill in let e = b.block_count in omega arith),
    (let e = b.inode_count in
        let a = length-append (used_inodes form_one (own form_one m) 0 t) is in
        let n = length-inodes form_one (own form_one m) 0 t in
        let c = beside_free_nodes in
        omega arith),
  )

-- what is free beside the tree
module _ (mode : ℕ) (lot : LotView) (m : Map) (t : Tree) (k : ℕ) (r : MapRecovers form_one mode lot m t k) where
  -- free inodes, and the files and directories of the tree, together are those that the groups have room for
  pub free_nodes_are : free_count true lot m + nodes t ≡ node_quota (length lot.groups)
  free_nodes_are = let e = beside_free_nodes mode lot m t k [] [] (recovers_beside form_one mode lot m t k r) in omega arith

  -- free blocks, and those that the tree uses, together are those that the groups have room for
  pub free_blocks_are : length lot.groups ≤ 64 → free_count false lot m + blocks form_one t ≡ block_quota (length lot.groups)
  free_blocks_are few = let e = beside_free_blocks mode lot m t k [] [] (recovers_beside form_one mode lot m t k r) few in omega arith

  -- the counts of used blocks and inodes are at most 247 and 64 for each group
  pub counts_small : (counted false m ≤ 247 * length lot.groups) × (counted true m ≤ 64 * length lot.groups)
  counts_small = beside_counts mode lot m t k [] [] (recovers_beside form_one mode lot m t k r)
