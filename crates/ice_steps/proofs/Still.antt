-- What a map holds beside a tree whose inodes all say what they said.
use Rattle.std.proofs.Common.{◌≡◌, ◌<◌, ◌+◌, ◌*◌, ◌%◌, ℕ, true, false, List, [], ◌∷◌, length, length-append, ◌∙◌, refl, ap, arith}
use Rattle.ice_base.specs.Lots.{LotView, sub_address}
use Rattle.ice_base.specs.Spare.{has}
use Rattle.ice_base.specs.Used.{used_block, used_inode, is_data, counted}
use Rattle.ice_map.specs.Maps.{times}
use Rattle.ice_map.proofs.ListLaws.{times-append}
use Rattle.ice_map.specs.Own.{own, mark}
use Rattle.tree_spec.specs.Trees.{Tree}
use Rattle.tree_spec.specs.Costs.{form_one}
use Rattle.ice_reads.specs.Tables.{Map}
use Rattle.ice_reads.specs.Reads.{Reads, used_blocks, used_inodes}
use Rattle.ice_reads.specs.Recovers.{SubSays}
use Rattle.ice_reads.proofs.Frames.{SameAt, Reads-frame, uses-frame}
use Rattle.ice_reads.proofs.Numbers.{Reads-inode}
use Rattle.ice_steps.specs.Beside.{Beside}

-- the marks and counts follow what lies beside the tree
pub record BesideMoves (lot : LotView) (m m' : Map) (xs ys is js : List ℕ) : Type 0 where
  pub blocks : (b : ℕ) → is_data lot b ≡ true → mark (used_block m' b) + times xs b ≡ mark (used_block m b) + times ys b
  pub inodes : (i : ℕ) → i < 64 * length lot.groups → mark (used_inode m' i) + times is i ≡ mark (used_inode m i) + times js i
  pub block_count : counted false m' + length xs ≡ counted false m + length ys
  pub inode_count : counted true m' + length is ≡ counted true m + length js
  pub more_data : (b : ℕ) → has ys b ≡ true → is_data lot b ≡ true
  pub others_small : (i : ℕ) → has js i ≡ true → i < 64 * length lot.groups

module _ (mode : ℕ) (lot : LotView) (m m' : Map) (t : Tree) (k k' : ℕ) (xs ys is js : List ℕ) where
  pub beside-still : Beside form_one mode lot m t k xs is → SubSays form_one mode lot.slot (m' sub_address) k'
      → SameAt (own form_one m) (own form_one m') (used_inodes form_one (own form_one m) 0 t)
      → ((b : ℕ) → b < 256 * length lot.groups → b % 256 < 9 → used_block m' b ≡ used_block m b) → BesideMoves lot m m' xs ys is js
      → Beside form_one mode lot m' t k' ys js
  beside-still b sub same reserved moves =
      let e : used_blocks form_one (own form_one m') 0 t ≡ used_blocks form_one (own form_one m) 0 t =
      uses-frame form_one (own form_one m) (own form_one m') (λ i. (own form_one m i).uses) (λ i. (own form_one m' i).uses)
      (λ i e. ap (λ x. x.uses) e) 0 t same in
      let g : used_inodes form_one (own form_one m') 0 t ≡ used_inodes form_one (own form_one m) 0 t =
      uses-frame form_one (own form_one m) (own form_one m') (λ i. i ∷ []) (λ i. i ∷ []) (λ i e. refl) 0 t same in
      record {
        sub = sub;
        dir = b.dir;
        reads = Reads-frame form_one lot (own form_one m) (own form_one m') 0 0 t same b.reads;
        reserved = record { set = λ a h l. reserved a h l ∙ b.reserved.set a h l };
        blocks = λ a h.
            let old = b.blocks a h in
            let s = times-append (used_blocks form_one (own form_one m) 0 t) xs a in
            let u = times-append (used_blocks form_one (own form_one m') 0 t) ys a in
            let q = ap (λ zs. times zs a) e in
            let w = moves.blocks a h in
            omega arith;
        inodes = λ i h.
            let old = b.inodes i h in
            let s = times-append (used_inodes form_one (own form_one m) 0 t) is i in
            let u = times-append (used_inodes form_one (own form_one m') 0 t) js i in
            let q = ap (λ zs. times zs i) g in
            let w = moves.inodes i h in
            omega arith;
        block_count =
            let old = b.block_count in
            let s = length-append (used_blocks form_one (own form_one m) 0 t) xs in
            let u = length-append (used_blocks form_one (own form_one m') 0 t) ys in
            let q = ap (λ (zs : List ℕ). length zs) e in
            let w = moves.block_count in
            omega arith;
        inode_count =
            let old = b.inode_count in
            let s = length-append (used_inodes form_one (own form_one m) 0 t) is in
            let u = length-append (used_inodes form_one (own form_one m') 0 t) js in
            let q = ap (λ (zs : List ℕ). length zs) g in
            let w = moves.inode_count in
            omega arith;
        more_data = moves.more_data;
        others_small = moves.others_small;
      }

-- the blocks that an inode of a tree uses are data places
pub used-places : (lot : LotView) (m : Map) (i h : ℕ) (t : Tree) → Reads form_one lot (own form_one m) i h t → (x : ℕ)
    → 0 < times (used_inodes form_one (own form_one m) i t) x → (b : ℕ) → has (own form_one m x).uses b ≡ true → is_data lot b ≡ true
used-places lot m i h t r x c = (Reads-inode form_one lot (own form_one m) x i h t r c).1.places
