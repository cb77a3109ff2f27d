-- Maps that are cut.
use Rattle.std.proofs.Common.{◌≡◌, ◌≢◌, ◌≤◌, ◌<◌, ◌+◌, ◌-◌, ℕ, true, false, cond, List, [], ◌∷◌, ◌++◌, length, take, slice_index, replicate, length-append, length-take, ◌∙◌, sym, refl, ap, arith, ltb, leb}
use Rattle.std.proofs.lemmas.Bool.Decides.{nat_tests}
use Rattle.std.proofs.lemmas.List.{length-replicate, get_or-append_right, get_or-replicate, get_or_past}
use Rattle.std.proofs.lemmas.List.FromFn.{get_or-map-range_with_len, length-map-range_with_len}
use Rattle.ice_base.specs.Fields.{SameBeside}
use Rattle.ice_base.specs.Inodes.{inode_address}
use Rattle.ice_base.specs.Lots.{LotView, sub_address}
use Rattle.ice_base.specs.Spare.{has}
use Rattle.ice_base.specs.Used.{used_block, count_place}
use Rattle.ice_map.specs.declared.codec.Inode.{Inode}
use Rattle.ice_map.specs.Maps.{nth_block, blocks_between, uses, cut_off, shortened, Stays, Cut}
use Rattle.ice_map.proofs.GrowLaws.{inode_not_sub}
use Rattle.ice_map.proofs.ListLaws.{has-none, has-times}
use Rattle.ice_map.specs.Own.{MadeOf, RestIsZero, Holds}
use Rattle.ice_map.specs.Moves.{Moved, content_of, uses_of}
use Rattle.ice_map.proofs.OwnLaws.{times-has, times-zero, marks-cut, length-uses, uses-nth}

-- a map uses as many blocks as the cut map and what is cut off together
pub length-cut_off : (m : ℕ → List ℕ) (x : Inode) (c r : ℕ) → r ≤ c → uses_of c ≡ uses_of r + length (cut_off m x c r)
length-cut_off m x c r h =
    let l = length-map-range_with_len (nth_block m x) r (c - r) in
    let a = λ (ys : List ℕ). length-append (blocks_between m x r c) ys in
    elim (ltb 12 c) as (λ t. ltb 12 c ≡ t → uses_of c ≡ uses_of r + length (cut_off m x c r)) [
      | true ↦ λ t. elim (leb r 12) as (λ u. leb r 12 ≡ u → uses_of c ≡ uses_of r + length (cut_off m x c r)) [
        | true ↦ λ u.
            let e : cut_off m x c r ≡ blocks_between m x r c ++ x.single ∷ [] = grind arith in
            let f : length (cut_off m x c r) ≡ length (blocks_between m x r c ++ x.single ∷ []) = ap (λ (xs : List ℕ). length xs) e in
            let g = a (x.single ∷ []) in
            grind (arith, nat_tests)
        | false ↦ λ u.
            let e : cut_off m x c r ≡ blocks_between m x r c ++ [] = grind arith in
            let f : length (cut_off m x c r) ≡ length (blocks_between m x r c ++ []) = ap (λ (xs : List ℕ). length xs) e in
            let g = a [] in
            grind (arith, nat_tests)
      ] refl
      | false ↦ λ t.
          let e : cut_off m x c r ≡ blocks_between m x r c ++ [] = grind arith in
          let f : length (cut_off m x c r) ≡ length (blocks_between m x r c ++ []) = ap (λ (xs : List ℕ). length xs) e in
          let g = a [] in
          grind (arith, nat_tests)
    ] refl

zeros-past : (n k : ℕ) → slice_index (replicate n 0) k ≡ 0
zeros-past n k =
    elim (ltb k n) as (λ t. ltb k n ≡ t → slice_index (replicate n 0) k ≡ 0) [
      | true ↦ λ t. get_or-replicate n k 0 0 (grind (arith, nat_tests))
      | false ↦ λ t. get_or_past (replicate n 0) k 0 (let h : n ≤ k = grind (arith, nat_tests) in let l = length-replicate {A = ℕ} n 0 in omega arith)
    ] refl

shortened-direct : (xs : List ℕ) (r k : ℕ) → r ≤ k → slice_index (take r xs ++ replicate (12 - r) 0) k ≡ 0
shortened-direct xs r k h =
    let t = length-take {A = ℕ} r xs in
    get_or-append_right (take r xs) (replicate (12 - r) 0) (length (take r xs)) k 0 refl (omega arith) ∙ zeros-past (12 - r) (k - length (take r xs))

module _ (lot : LotView) (m0 m1 : ℕ → List ℕ) (x y : Inode) (c r : ℕ) (made : MadeOf lot m0 x c) (order : r ≤ c)
    (was : Cut lot m0 m1 x y c r) (stay : Stays lot m0 m1 []) (fields : y ≡ shortened x r) where
  off-had : (b : ℕ) → has (cut_off m0 x c r) b ≡ true → has (uses m0 x c) b ≡ true
  off-had b h = let u = was.used b in let n = has-times (cut_off m0 x c r) b h in times-has (uses m0 x c) b (omega arith)

  cut-holds : Holds lot m1 (uses m1 y r)
  cut-holds b h =
      let u = was.used b in
      let o = made.once b in
      let n = has-times (uses m1 y r) b h in
      let q = made.holds b (times-has (uses m0 x c) b (omega arith)) in
      let z = times-zero (cut_off m0 x c r) b (omega arith) in
      (q.0, was.gave.used b ∙ ap (λ t. cond t false (used_block m0 b)) z ∙ q.1)

  cut-unused : RestIsZero y r
  cut-unused = record {
    direct = λ k h l. ap (λ (i : Inode). slice_index i.direct k) fields ∙ shortened-direct x.direct r k h;
    single = λ h. ap (λ (i : Inode). i.single) fields ∙ (let t : ltb 12 r ≡ false = grind (arith, nat_tests) in ap (λ t. cond t x.single 0) t);
    double = λ few. ap (λ (i : Inode). i.double) fields;
  }

  cut-length : length (uses m0 x c) ≡ length (uses m1 y r) + length (cut_off m0 x c r)
  cut-length =
      let p = length-uses m0 x c in
      let q = length-uses m1 y r in
      let l = length-cut_off m0 x c r order in
      omega arith

  -- a well-made map that was cut moved to its first r blocks
  pub cut-moved : Moved lot m0 m1 x y c r
  cut-moved = record {
    made = record { holds = cut-holds; once = λ b. let u = was.used b in let o = made.once b in omega arith; unused = cut-unused };
    marks = marks-cut lot m0 m1 (uses m0 x c) (cut_off m0 x c r) (uses m1 y r) was.gave was.used made.once (λ b h. (made.holds b (off-had b h)).1) cut-length;
    stays = record { inodes = stay.inodes; blocks = λ b d u h. stay.blocks b d u (has-none b) };
    kind = ap (λ (i : Inode). i.kind) fields;
    size = ap (λ (i : Inode). i.size) fields;
  }

  -- each block that the cut left holds what it held
  pub cut-contents : (n : ℕ) → n < r → content_of m1 y n ≡ content_of m0 x n
  cut-contents n h =
      let e : nth_block m1 y n ≡ nth_block m0 x n = sym (get_or-map-range_with_len (nth_block m1 y) 0 r n n 0 h (omega arith))
      ∙ ap (λ (xs : List ℕ). slice_index xs n) was.blocks ∙ get_or-map-range_with_len (nth_block m0 x) 0 r n n 0 h (omega arith) in
      let q = made.holds (nth_block m0 x n) (uses-nth m0 x c n (omega arith)) in
      ap m1 e ∙ stay.blocks (nth_block m0 x n) q.0 q.1 (has-none (nth_block m0 x n))

-- a cut, and then a put of the inode's block, change nothing of the sub-super block but the count of used blocks
pub cut-sub : (lot : LotView) (m m0 m1 m2 : ℕ → List ℕ) (x y : Inode) (number c r : ℕ) → m0 ≡ m → Cut lot m0 m1 x y c r
    → ((b : ℕ) → b ≢ inode_address number → m2 b ≡ m1 b)
    → SameBeside (count_place false) 4 (m sub_address) (m2 sub_address)
cut-sub lot m m0 m1 m2 x y number c r e was only = λ k h.
    ap (λ (b : List ℕ). slice_index b k) (only sub_address (λ q. inode_not_sub number (sym q))) ∙ was.gave.counts.others k h
    ∙ ap (λ (n : ℕ → List ℕ). slice_index (n sub_address) k) e
