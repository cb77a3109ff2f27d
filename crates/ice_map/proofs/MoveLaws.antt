-- Maps of blocks that move under a growth, or under a put of one of their blocks.
use Rattle.std.proofs.Common.{◌≡◌, ◌≢◌, ◌≤◌, ◌<◌, ◌+◌, ◌-◌, ◌*◌, ◌%◌, ◌==◌, max, ℕ, true, false, cond, List, [], ◌∷◌, ◌++◌, length, slice_index, slice_set, get_or-set_other, ◌∙◌, sym, refl, ap, subst, arith, ltb}
use Rattle.std.proofs.lemmas.Bool.Decides.{nat_tests}
use Rattle.std.proofs.lemmas.List.{get_or_append_left, get_or-append_right}
use Rattle.std.proofs.lemmas.List.FromFn.{get_or-map-range_with_len, length-map-range_with_len}
use Rattle.ice_base.specs.Lots.{LotView, sub_address}
use Rattle.ice_base.specs.Inodes.{inode_address}
use Rattle.ice_base.specs.Spare.{has}
use Rattle.ice_base.specs.Used.{used_block, is_data}
use Rattle.ice_map.specs.declared.codec.Inode.{Inode}
use Rattle.ice_map.specs.Inodes.{inode_at}
use Rattle.ice_map.specs.Maps.{nth_block, blocks_of, indirect_of, uses, times, growth, widened, leads, Stays, Grown}
use Rattle.ice_map.proofs.ListLaws.{times-append, has-append, has-one, has-none, has-cons, has-times, map_range_same}
use Rattle.ice_map.proofs.MapLaws.{nth-direct, leads-direct, leads-single}
use Rattle.ice_map.proofs.MarkLaws.{data_not_bitmap, data_not_sub, used-same}
use Rattle.ice_map.proofs.GrowLaws.{inode_not_data}
use Rattle.ice_map.specs.Own.{MarksFollow, MadeOf, RestIsZero, Holds}
use Rattle.ice_map.specs.Moves.{Moved, HadBlock, content_of}
use Rattle.ice_map.proofs.OwnLaws.{times-one, times-none, times-has, marks-refl, marks-then, marks-same, marks-grow, indirect-none, indirect-one, length-uses, uses-nth, uses-single, single-apart, nth-apart, nth-moves, stays-then}

-- one move after another
pub moved-then : (lot : LotView) (m0 m1 m2 : ℕ → List ℕ) (x y z : Inode) (c d e : ℕ) → Moved lot m0 m1 x y c d → Moved lot m1 m2 y z d e
    → Moved lot m0 m2 x z c e
moved-then lot m0 m1 m2 x y z c d e a b = record {
  made = b.made;
  marks = marks-then lot m0 m1 m2 (uses m0 x c) (uses m1 y d) (uses m2 z e) a.marks b.marks;
  stays = stays-then lot m0 m1 m2 (uses m0 x c) (uses m1 y d) a.marks a.stays b.stays;
  kind = b.kind ∙ a.kind;
  size = b.size ∙ a.size;
}

-- where nothing changed, a well-made map moved to itself
pub moved-refl : (lot : LotView) (m : ℕ → List ℕ) (x : Inode) (c : ℕ) → MadeOf lot m x c → Moved lot m m x x c c
moved-refl lot m x c made = record {
  made = made;
  marks = marks-refl lot m (uses m x c);
  stays = record { inodes = λ n. refl; blocks = λ b d u h. refl };
  kind = refl;
  size = refl;
}

-- a put of one block of a map
module _ (lot : LotView) (m0 m1 : ℕ → List ℕ) (x : Inode) (c k at : ℕ) (made : MadeOf lot m0 x c) (few : length lot.groups ≤ 64)
    (small : k < c) (here : nth_block m0 x k ≡ at) (only : (b : ℕ) → b ≢ at → m1 b ≡ m0 b) where
  at-has : has (uses m0 x c) at ≡ true
  at-has = ap (has (uses m0 x c)) (sym here) ∙ uses-nth m0 x c k small

  at-place : is_data lot at ≡ true
  at-place = (made.holds at at-has).0

  pub put-nth : (n : ℕ) → n < c → nth_block m1 x n ≡ nth_block m0 x n
  put-nth n h = nth-moves m0 m1 x n (λ l. only x.single (λ e. single-apart m0 x c k made.once (omega arith) small (here ∙ sym e)))

  put-blocks : blocks_of m1 x c ≡ blocks_of m0 x c
  put-blocks = map_range_same (nth_block m1 x) (nth_block m0 x) 0 c (λ n l h. put-nth n (omega arith))

  pub put-uses : uses m1 x c ≡ uses m0 x c
  put-uses = ap (λ xs. indirect_of x c ++ xs) put-blocks

  put-bitmaps : (o : ℕ) → m1 (256 * o) ≡ m0 (256 * o)
  put-bitmaps o = only (256 * o) (data_not_bitmap lot at o at-place)

  put-made : MadeOf lot m1 x c
  put-made = record {
    holds = λ b h. let q = made.holds b (ap (λ xs. has xs b) (sym put-uses) ∙ h) in (q.0, used-same false m0 m1 b put-bitmaps ∙ q.1);
    once = λ b. let e : times (uses m1 x c) b ≡ times (uses m0 x c) b = ap (λ xs. times xs b) put-uses in let o = made.once b in omega arith;
    unused = made.unused;
  }

  -- the map moved to one of as many blocks
  pub put-moved : Moved lot m0 m1 x x c c
  put-moved = record {
    made = put-made;
    marks =
        subst (λ xs. MarksFollow lot m0 m1 (uses m0 x c) xs) (sym put-uses)
        (marks-same lot m0 m1 (uses m0 x c) put-bitmaps (only sub_address (data_not_sub lot at few at-place)));
    stays = record {
      inodes = λ n. ap (λ (b : List ℕ). inode_at b (n % 8)) (only (inode_address n) (inode_not_data lot n at at-place));
      blocks = λ b d u h. only b (λ e. let q = ap (has (uses m0 x c)) e ∙ at-has in absurd cc);
    };
    kind = refl;
    size = refl;
  }

  -- each other block of the map holds what it held
  pub put-others : (n : ℕ) → n < c → n ≢ k → content_of m1 x n ≡ content_of m0 x n
  put-others n h ne = ap m1 (put-nth n h) ∙ only (nth_block m0 x n) (λ e. nth-apart m0 x c n k made.once ne h small (e ∙ sym here))

  -- the block that was put holds what was put
  pub put-here : content_of m1 x k ≡ m1 at
  put-here = ap m1 (put-nth k small ∙ here)

-- the blocks that a growth takes
growth-one : (c a s : ℕ) → c ≢ 12 → growth c a s ≡ a ∷ []
growth-one c a s h = grind (arith, nat_tests)

growth-two : (c a s : ℕ) → c ≡ 12 → growth c a s ≡ a ∷ s ∷ []
growth-two c a s h = grind (arith, nat_tests)

pub widened-direct : (x y : Inode) (c a : ℕ) → y ≡ widened x c a y.single → (k : ℕ) → k ≢ c → slice_index y.direct k ≡ slice_index x.direct k
widened-direct x y c a e k ne =
    let d : y.direct ≡ cond (ltb c 12) (slice_set x.direct c a) x.direct = ap (λ (i : Inode). i.direct) e in
    elim (ltb c 12) as (λ t. ltb c 12 ≡ t → slice_index y.direct k ≡ slice_index x.direct k) [
      | true ↦ λ t. ap (λ (l : List ℕ). slice_index l k) (d ∙ ap (λ t. cond t (slice_set x.direct c a) x.direct) t) ∙ get_or-set_other x.direct c k a 0 ne
      | false ↦ λ t. ap (λ (l : List ℕ). slice_index l k) (d ∙ ap (λ t. cond t (slice_set x.direct c a) x.direct) t)
    ] refl

pub widened-single : (x y : Inode) (c a : ℕ) → y ≡ widened x c a y.single → c ≢ 12 → y.single ≡ x.single
widened-single x y c a e ne =
    let s : y.single ≡ cond (c == 12) y.single x.single = ap (λ (i : Inode). i.single) e in
    let t : (c == 12) ≡ false = grind (arith, nat_tests) in
    s ∙ ap (λ t. cond t y.single x.single) t

-- a map that grew
module _ (lot : LotView) (m0 m1 : ℕ → List ℕ) (x y : Inode) (c a : ℕ) (made : MadeOf lot m0 x c) (grown : Grown lot m0 m1 x y c a)
    (stay : Stays lot m0 m1 (indirect_of x c)) (place : is_data lot a ≡ true) (place_single : 12 ≤ c → is_data lot y.single ≡ true)
    (fields : y ≡ widened x c a y.single) where
  growth-data : (b : ℕ) → has (growth c a y.single) b ≡ true → is_data lot b ≡ true
  growth-data b h =
      elim (c == 12) as (λ t. (c == 12) ≡ t → is_data lot b ≡ true) [
        | true ↦ λ t. let e : c ≡ 12 = grind (arith, nat_tests) in
            let q : has (a ∷ y.single ∷ []) b ≡ true = ap (λ xs. has xs b) (sym (growth-two c a y.single e)) ∙ h in
            let r = has-cons a b (y.single ∷ []) in
            let o = has-one y.single b in
            elim (a == b) as (λ u. (a == b) ≡ u → is_data lot b ≡ true) [
              | true ↦ λ u. let f : a ≡ b = grind (arith, nat_tests) in ap (is_data lot) (sym f) ∙ place
              | false ↦ λ u. let f : b ≡ y.single = grind (arith, nat_tests) in ap (is_data lot) f ∙ place_single (omega arith)
            ] refl
        | false ↦ λ t. let e : c ≢ 12 = grind (arith, nat_tests) in
            let q : has (a ∷ []) b ≡ true = ap (λ xs. has xs b) (sym (growth-one c a y.single e)) ∙ h in
            let o = has-one a b in
            let f : b ≡ a = grind (arith, nat_tests) in ap (is_data lot) f ∙ place
      ] refl

  growth-once : (b : ℕ) → times (growth c a y.single) b ≤ 1
  growth-once b =
      elim (c == 12) as (λ t. (c == 12) ≡ t → times (growth c a y.single) b ≤ 1) [
        | true ↦ λ t. let e : c ≡ 12 = grind (arith, nat_tests) in
            let g : times (growth c a y.single) b ≡ times (a ∷ y.single ∷ []) b = ap (λ xs. times xs b) (growth-two c a y.single e) in
            let s = times-append (a ∷ []) (y.single ∷ []) b in
            let p = times-one a b in
            let q = times-one y.single b in
            let l = (grown.least_single e).0 in
            grind (arith, nat_tests)
        | false ↦ λ t. let e : c ≢ 12 = grind (arith, nat_tests) in
            let g : times (growth c a y.single) b ≡ times (a ∷ []) b = ap (λ xs. times xs b) (growth-one c a y.single e) in
            let p = times-one a b in
            grind arith
      ] refl

  length-growth : length (growth c a y.single) ≡ 1 + cond (c == 12) 1 0
  length-growth =
      elim (c == 12) as (λ t. (c == 12) ≡ t → length (growth c a y.single) ≡ 1 + cond (c == 12) 1 0) [
        | true ↦ λ t. ap (λ (xs : List ℕ). length xs) (growth-two c a y.single (grind (arith, nat_tests))) ∙ ap (λ t. 1 + cond t 1 0) (sym t)
        | false ↦ λ t. ap (λ (xs : List ℕ). length xs) (growth-one c a y.single (grind (arith, nat_tests))) ∙ ap (λ t. 1 + cond t 1 0) (sym t)
      ] refl

  grown-length : length (uses m1 y (c + 1)) ≡ length (uses m0 x c) + length (growth c a y.single)
  grown-length =
      let p = length-uses m1 y (c + 1) in
      let q = length-uses m0 x c in
      let r = length-growth in
      grind (arith, nat_tests)

  old-once : (b : ℕ) → used_block m0 b ≡ false → times (uses m0 x c) b ≡ 0
  old-once b f = times-none (uses m0 x c) b (elim (has (uses m0 x c) b) as (λ t. has (uses m0 x c) b ≡ t → t ≡ false) [
    | true ↦ λ t. let u = (made.holds b t).1 in absurd cc
    | false ↦ λ t. refl
  ] refl)

  grown-once : (b : ℕ) → times (uses m1 y (c + 1)) b ≤ 1
  grown-once b =
      let u = grown.used b in
      let o = made.once b in
      let g = growth-once b in
      elim (has (growth c a y.single) b) as (λ t. has (growth c a y.single) b ≡ t → times (uses m1 y (c + 1)) b ≤ 1) [
        | true ↦ λ t. let z = old-once b (grown.fresh b t) in omega arith
        | false ↦ λ t. let z = times-none (growth c a y.single) b t in omega arith
      ] refl

  grown-holds : Holds lot m1 (uses m1 y (c + 1))
  grown-holds b h =
      let n = has-times (uses m1 y (c + 1)) b h in
      let u = grown.used b in
      let w = grown.took.used b in
      elim (has (growth c a y.single) b) as (λ t. has (growth c a y.single) b ≡ t → (is_data lot b ≡ true) × (used_block m1 b ≡ true)) [
        | true ↦ λ t. (growth-data b t, w ∙ ap (λ t. cond t true (used_block m0 b)) t)
        | false ↦ λ t. let z = times-none (growth c a y.single) b t in
            let q = made.holds b (times-has (uses m0 x c) b (omega arith)) in
            (q.0, w ∙ ap (λ t. cond t true (used_block m0 b)) t ∙ q.1)
      ] refl

  grown-unused : RestIsZero y (c + 1)
  grown-unused = record {
    direct = λ k h l. widened-direct x y c a fields k (λ e. omega arith) ∙ made.unused.direct k (omega arith) l;
    single = λ h. widened-single x y c a fields (λ e. omega arith) ∙ made.unused.single (omega arith);
    double = λ few. ap (λ (i : Inode). i.double) fields ∙ made.unused.double (omega arith);
  }

  grown-moved : Moved lot m0 m1 x y c (c + 1)
  grown-moved = record {
    made = record { holds = grown-holds; once = grown-once; unused = grown-unused };
    marks = marks-grow lot m0 m1 (uses m0 x c) (growth c a y.single) (uses m1 y (c + 1)) grown.took grown.used growth-once grown.fresh grown-length;
    stays = record {
      inodes = stay.inodes;
      blocks = λ b d u h. stay.blocks b d u (let e = has-append (indirect_of x c) (blocks_of m0 x c) b in grind arith);
    };
    kind = ap (λ (i : Inode). i.kind) fields;
    size = ap (λ (i : Inode). i.size) fields;
  }

  grown-here : nth_block m1 y c ≡ a
  grown-here =
      let l = length-map-range_with_len (nth_block m0 x) 0 c in
      sym (get_or-map-range_with_len (nth_block m1 y) 0 (c + 1) c c 0 (omega arith) (omega arith))
      ∙ ap (λ (xs : List ℕ). slice_index xs c) grown.blocks
      ∙ get_or-append_right (blocks_of m0 x c) (a ∷ []) c c 0 l (omega arith)
      ∙ ap (λ n. slice_index (a ∷ []) n) (let e : c - c ≡ 0 = omega arith in e)

  grown-nth : (n : ℕ) → n < c → nth_block m1 y n ≡ nth_block m0 x n
  grown-nth n h =
      let l = length-map-range_with_len (nth_block m0 x) 0 c in
      sym (get_or-map-range_with_len (nth_block m1 y) 0 (c + 1) n n 0 (omega arith) (omega arith))
      ∙ ap (λ (xs : List ℕ). slice_index xs n) grown.blocks
      ∙ get_or_append_left (blocks_of m0 x c) (a ∷ []) 0 n (omega arith)
      ∙ get_or-map-range_with_len (nth_block m0 x) 0 c n n 0 h (omega arith)

  grown-content : (n : ℕ) → n < c → content_of m1 y n ≡ content_of m0 x n
  grown-content n h =
      let q = made.holds (nth_block m0 x n) (uses-nth m0 x c n h) in
      ap m1 (grown-nth n h) ∙ stay.blocks (nth_block m0 x n) q.0 q.1
      (elim (ltb 12 c) as (λ t. ltb 12 c ≡ t → has (indirect_of x c) (nth_block m0 x n) ≡ false) [
        | true ↦ λ t. let l : 12 < c = grind (arith, nat_tests) in
            let ne = single-apart m0 x c n made.once l h in
            let o = has-one x.single (nth_block m0 x n) in
            ap (λ xs. has xs (nth_block m0 x n)) (indirect-one x c l) ∙ o ∙ (let e : (nth_block m0 x n == x.single) ≡ false = grind (arith, nat_tests) in e)
        | false ↦ λ t. ap (λ xs. has xs (nth_block m0 x n)) (indirect-none x c (grind (arith, nat_tests))) ∙ has-none (nth_block m0 x n)
      ] refl)

  pub grown-reached : (k : ℕ) → k ≡ c → HadBlock lot m0 m1 x y c k a
  grown-reached k e = let q : max c (k + 1) ≡ c + 1 = omega arith in record {
    moved = subst (λ d. Moved lot m0 m1 x y c d) (sym q) grown-moved;
    here = ap (nth_block m1 y) e ∙ grown-here;
    contents = grown-content;
  }

-- a block that the map has
pub had-reached : (lot : LotView) (m : ℕ → List ℕ) (x : Inode) (c k at : ℕ) → MadeOf lot m x c → k < c → at ≡ nth_block m x k → HadBlock lot m m x x c k at
had-reached lot m x c k at made h e = let q : max c (k + 1) ≡ c = omega arith in record {
  moved = subst (λ d. Moved lot m m x x c d) (sym q) (moved-refl lot m x c made);
  here = sym e;
  contents = λ n l. refl;
}

-- each block of a well-made map leads to a data place
pub made-leads : (lot : LotView) (m : ℕ → List ℕ) (x : Inode) (c k : ℕ) → MadeOf lot m x c → k < c → leads lot m x k ≡ true
made-leads lot m x c k made h =
    let d = (made.holds (nth_block m x k) (uses-nth m x c k h)).0 in
    elim (ltb k 12) as (λ t. ltb k 12 ≡ t → leads lot m x k ≡ true) [
      | true ↦ λ t. let l : k < 12 = grind (arith, nat_tests) in leads-direct lot m x k l ∙ ap (is_data lot) (sym (nth-direct m x k l)) ∙ d
      | false ↦ λ t. let l : 12 ≤ k = grind (arith, nat_tests) in leads-single lot m x k l (made.holds x.single (uses-single m x c (omega arith))).0 ∙ d
    ] refl
