-- Marks that follow what an inode uses, and well-made maps.
use Rattle.std.proofs.Common.{◌≡◌, ◌≢◌, ◌≤◌, ◌<◌, ◌+◌, ◌-◌, ◌*◌, ◌==◌, ℕ, Bool, true, false, cond, List, [], ◌∷◌, ◌++◌, map, length, slice_index, length-append, ◌∙◌, sym, refl, ap, subst, arith, ltb}
use Rattle.std.specs.List.{range_with_len}
use Rattle.std.proofs.lemmas.Bool.Decides.{nat_tests}
use Rattle.std.proofs.lemmas.List.FromFn.{length-map-range_with_len}
use Rattle.ice_base.specs.Bits.{bit_of}
use Rattle.ice_base.specs.Fields.{word_at}
use Rattle.ice_base.specs.Lots.{LotView, sub_address}
use Rattle.ice_base.specs.Spare.{has}
use Rattle.ice_base.specs.Used.{used_block}
use Rattle.ice_map.specs.declared.codec.Inode.{Inode}
use Rattle.ice_map.specs.Inodes.{inode_of}
use Rattle.ice_map.specs.Maps.{nth_block, blocks_of, indirect_of, uses, times, Marked, Stays}
use Rattle.ice_map.proofs.ListLaws.{times-append, has-cons, has-head, has-left, has-right, has-range, has-times, range-append}
use Rattle.ice_map.proofs.MapLaws.{nth-direct, nth-single}
use Rattle.ice_map.proofs.MarkLaws.{used-same, free-same}
use Rattle.ice_map.specs.Own.{Own, own, own_at, own_of, map_length, mark, MarksFollow, Made, MadeOf, WellMade}
use Rattle.ice_map.specs.Moves.{uses_of}
use Rattle.tree_spec.specs.Costs.{Form, form_one}

-- in version 1 an inode in hand says what its map of at most 268 blocks does
pub own-at-short : (f : Form) → f ≡ form_one → (m : ℕ → List ℕ) (inode : Inode) → own_at f m inode ≡ own_of m inode (map_length f inode)
own-at-short f one m inode = rw one refl

-- and so does the inode of a number
pub own-short : (f : Form) → f ≡ form_one → (m : ℕ → List ℕ) (number : ℕ) → own f m number ≡ own_of m (inode_of m number) (map_length f (inode_of m number))
own-short f one m number = own-at-short f one m (inode_of m number)

-- and uses what that map uses
pub uses-short : (f : Form) → f ≡ form_one → (m : ℕ → List ℕ) (number : ℕ)
    → (own f m number).uses ≡ uses m (inode_of m number) (map_length f (inode_of m number))
uses-short f one m number = ap (λ (o : Own). o.uses) (own-short f one m number)

-- so it is well made where that map is
pub made-short : (lot : LotView) (f : Form) → f ≡ form_one → (m : ℕ → List ℕ) (number : ℕ) → WellMade lot f m number
    → MadeOf lot m (inode_of m number) (map_length f (inode_of m number))
made-short lot f one m number made = subst (λ us. Made lot m (inode_of m number) us (map_length f (inode_of m number))) (uses-short f one m number) made

pub short-made : (lot : LotView) (f : Form) → f ≡ form_one → (m : ℕ → List ℕ) (number : ℕ)
    → MadeOf lot m (inode_of m number) (map_length f (inode_of m number)) → WellMade lot f m number
short-made lot f one m number made = subst (λ us. Made lot m (inode_of m number) us (map_length f (inode_of m number))) (sym (uses-short f one m number)) made

times-cons : (a b : ℕ) (xs : List ℕ) → times (a ∷ xs) b ≡ cond (a == b) 1 0 + times xs b
times-cons a b xs = let e = times-append (a ∷ []) xs b in omega arith

pub times-one : (a b : ℕ) → times (a ∷ []) b ≡ cond (a == b) 1 0
times-one a b = grind arith

-- an address that a list doesn't have
pub times-none : (xs : List ℕ) (b : ℕ) → has xs b ≡ false → times xs b ≡ 0
times-none [] b h = refl
times-none (a ∷ xs) b h =
    let e = has-cons a b xs in
    let t = times-cons a b xs in
    let r = times-none xs b in
    grind arith

-- one that it has
pub times-has : (xs : List ℕ) (b : ℕ) → 1 ≤ times xs b → has xs b ≡ true
times-has xs b h =
    elim (has xs b) as (λ t. has xs b ≡ t → t ≡ true) [
      | true ↦ λ t. refl
      | false ↦ λ t. let n = times-none xs b t in absurd (omega arith)
    ] refl

-- a list doesn't have an address that stands in it no times
pub times-zero : (xs : List ℕ) (b : ℕ) → times xs b ≡ 0 → has xs b ≡ false
times-zero xs b h =
    elim (has xs b) as (λ t. has xs b ≡ t → t ≡ false) [
      | true ↦ λ t. let n = has-times xs b t in absurd (omega arith)
      | false ↦ λ t. refl
    ] refl

pub marks-refl : (lot : LotView) (m : ℕ → List ℕ) (xs : List ℕ) → MarksFollow lot m m xs xs
marks-refl lot m xs = record { used = λ b. refl; inodes = λ i. refl; rest = λ o k h. refl; counts = λ h. refl; sub = λ k h. refl; free = refl }

pub marks-then : (lot : LotView) (m0 m1 m2 : ℕ → List ℕ) (xs ys zs : List ℕ) → MarksFollow lot m0 m1 xs ys → MarksFollow lot m1 m2 ys zs
    → MarksFollow lot m0 m2 xs zs
marks-then lot m0 m1 m2 xs ys zs p q = record {
  used = λ b. let r = p.used b in let s = q.used b in omega arith;
  inodes = λ i. q.inodes i ∙ p.inodes i;
  rest = λ o k h. q.rest o k h ∙ p.rest o k h;
  counts = λ h. let r = p.counts h in let s = q.counts (omega arith) in omega arith;
  sub = λ k h. q.sub k h ∙ p.sub k h;
  free = let r = p.free in let s = q.free in omega arith;
}

-- other blocks changed
pub marks-same : (lot : LotView) (m0 m1 : ℕ → List ℕ) (xs : List ℕ) → ((o : ℕ) → m1 (256 * o) ≡ m0 (256 * o))
    → m1 sub_address ≡ m0 sub_address → MarksFollow lot m0 m1 xs xs
marks-same lot m0 m1 xs bitmaps sub = record {
  used = λ b. ap (λ t. mark t + times xs b) (used-same false m0 m1 b bitmaps);
  inodes = λ i. used-same true m0 m1 i bitmaps;
  rest = λ o k h. ap (λ x. bit_of x k) (bitmaps o);
  counts = λ h. ap (λ (x : List ℕ). word_at x 24 + length xs) sub;
  sub = λ k h. ap (λ (x : List ℕ). slice_index x k) sub;
  free = ap (λ x. x + length xs) (free-same lot m0 m1 (λ b. used-same false m0 m1 b bitmaps));
}

mark-up : (xs ys zs : List ℕ) (b : ℕ) (old new : Bool) → new ≡ cond (has ys b) true old → times zs b ≡ times xs b + times ys b
    → times ys b ≤ 1 → (has ys b ≡ true → old ≡ false) → mark new + times xs b ≡ mark old + times zs b
mark-up xs ys zs b old new e more once fresh =
    elim (has ys b) as (λ t. has ys b ≡ t → mark new + times xs b ≡ mark old + times zs b) [
      | true ↦ λ t.
          let n = has-times ys b t in let f : mark old ≡ 0 = ap mark (fresh t) in
          let g : mark new ≡ 1 = ap mark (e ∙ ap (λ t. cond t true old) t) in omega arith
      | false ↦ λ t. let n = times-none ys b t in let g : new ≡ old = e ∙ ap (λ t. cond t true old) t in let r : mark new ≡ mark old = ap mark g in omega arith
    ] refl

-- what an inode uses grew by fresh blocks
pub marks-grow : (lot : LotView) (m0 m1 : ℕ → List ℕ) (xs ys zs : List ℕ) → Marked lot true m0 m1 ys
    → ((b : ℕ) → times zs b ≡ times xs b + times ys b) → ((b : ℕ) → times ys b ≤ 1) → ((b : ℕ) → has ys b ≡ true → used_block m0 b ≡ false)
    → length zs ≡ length xs + length ys → MarksFollow lot m0 m1 xs zs
marks-grow lot m0 m1 xs ys zs k more once fresh long = record {
  used = λ b. mark-up xs ys zs b (used_block m0 b) (used_block m1 b) (k.used b) (more b) (once b) (fresh b);
  inodes = k.inodes;
  rest = k.rest;
  counts = λ h. let v = k.counts.value in omega arith;
  sub = k.counts.others;
  free = let f = k.free in omega arith;
}

mark-down : (xs ys zs : List ℕ) (b : ℕ) (old new : Bool) → new ≡ cond (has ys b) false old → times xs b ≡ times zs b + times ys b
    → times xs b ≤ 1 → (has ys b ≡ true → old ≡ true) → mark new + times xs b ≡ mark old + times zs b
mark-down xs ys zs b old new e less once was =
    elim (has ys b) as (λ t. has ys b ≡ t → mark new + times xs b ≡ mark old + times zs b) [
      | true ↦ λ t.
          let n = has-times ys b t in let f : mark old ≡ 1 = ap mark (was t) in
          let g : mark new ≡ 0 = ap mark (e ∙ ap (λ t. cond t false old) t) in let o = less in omega arith
      | false ↦ λ t. let n = times-none ys b t in let g : new ≡ old = e ∙ ap (λ t. cond t false old) t in let r : mark new ≡ mark old = ap mark g in omega arith
    ] refl

-- what an inode uses lost blocks
pub marks-cut : (lot : LotView) (m0 m1 : ℕ → List ℕ) (xs ys zs : List ℕ) → Marked lot false m0 m1 ys
    → ((b : ℕ) → times xs b ≡ times zs b + times ys b) → ((b : ℕ) → times xs b ≤ 1) → ((b : ℕ) → has ys b ≡ true → used_block m0 b ≡ true)
    → length xs ≡ length zs + length ys → MarksFollow lot m0 m1 xs zs
marks-cut lot m0 m1 xs ys zs k less once was long = record {
  used = λ b. mark-down xs ys zs b (used_block m0 b) (used_block m1 b) (k.used b) (less b) (once b) (was b);
  inodes = k.inodes;
  rest = k.rest;
  counts = λ h. let v = k.counts.value in omega arith;
  sub = k.counts.others;
  free = let f = k.free in omega arith;
}

-- the indirect block of a map
pub indirect-none : (x : Inode) (c : ℕ) → c ≤ 12 → indirect_of x c ≡ []
indirect-none x c h = grind (arith, nat_tests)

pub indirect-one : (x : Inode) (c : ℕ) → 12 < c → indirect_of x c ≡ x.single ∷ []
indirect-one x c h = grind (arith, nat_tests)

length-indirect : (x : Inode) (c : ℕ) → length (indirect_of x c) ≡ cond (ltb 12 c) 1 0
length-indirect x c =
    elim (ltb 12 c) as (λ t. ltb 12 c ≡ t → length (indirect_of x c) ≡ cond (ltb 12 c) 1 0) [
      | true ↦ λ t. ap (λ (xs : List ℕ). length xs) (indirect-one x c (grind (arith, nat_tests))) ∙ ap (λ t. cond t 1 0) (sym t)
      | false ↦ λ t. ap (λ (xs : List ℕ). length xs) (indirect-none x c (grind (arith, nat_tests))) ∙ ap (λ t. cond t 1 0) (sym t)
    ] refl

-- how many blocks a map uses follows from its number of blocks
pub length-uses : (m : ℕ → List ℕ) (x : Inode) (c : ℕ) → length (uses m x c) ≡ uses_of c
length-uses m x c =
    let a = length-append (indirect_of x c) (blocks_of m x c) in
    let b = length-indirect x c in
    let d = length-map-range_with_len (nth_block m x) 0 c in
    omega arith

-- what a map uses
pub uses-nth : (m : ℕ → List ℕ) (x : Inode) (c n : ℕ) → n < c → has (uses m x c) (nth_block m x n) ≡ true
uses-nth m x c n h = has-right (indirect_of x c) (blocks_of m x c) (nth_block m x n) (has-range (nth_block m x) 0 c n (omega arith) (omega arith))

-- a map past its direct blocks uses its indirect block
pub uses-single : (m : ℕ → List ℕ) (x : Inode) (c : ℕ) → 12 < c → has (uses m x c) x.single ≡ true
uses-single m x c h = has-left (indirect_of x c) (blocks_of m x c) x.single (ap (λ xs. has xs x.single) (indirect-one x c h) ∙ has-head x.single [])

-- a block of the map is not its indirect block
pub single-apart : (m : ℕ → List ℕ) (x : Inode) (c n : ℕ) → ((b : ℕ) → times (uses m x c) b ≤ 1) → 12 < c → n < c → nth_block m x n ≢ x.single
single-apart m x c n once h l e =
    let t = times-append (indirect_of x c) (blocks_of m x c) x.single in
    let a = has-times (indirect_of x c) x.single (ap (λ xs. has xs x.single) (indirect-one x c h) ∙ has-head x.single []) in
    let r = has-range (nth_block m x) 0 c n (omega arith) (omega arith) in
    let b = has-times (blocks_of m x c) x.single (ap (has (blocks_of m x c)) (sym e) ∙ r) in
    let o = once x.single in
    omega arith

nth-after : (m : ℕ → List ℕ) (x : Inode) (c n k : ℕ) → ((b : ℕ) → times (uses m x c) b ≤ 1) → n < k → k < c → nth_block m x n ≢ nth_block m x k
nth-after m x c n k once l h e =
    let f = nth_block m x in
    let b = nth_block m x k in
    let all = times-append (indirect_of x c) (blocks_of m x c) b in
    let parts : map f (range_with_len 0 (n + 1)) ++ map f (range_with_len (0 + (n + 1)) (c - (n + 1))) ≡ map f
    (range_with_len 0 ((n + 1) + (c - (n + 1)))) = range-append f 0 (n + 1) (c - (n + 1)) in
    let whole : (n + 1) + (c - (n + 1)) ≡ c = omega arith in
    let two = times-append (map f (range_with_len 0 (n + 1))) (map f (range_with_len (0 + (n + 1)) (c - (n + 1)))) b in
    let first = has-times (map f (range_with_len 0 (n + 1))) b
    (ap (has (map f (range_with_len 0 (n + 1)))) (sym e) ∙ has-range f 0 (n + 1) n (omega arith) (omega arith)) in
    let second = has-times (map f (range_with_len (0 + (n + 1)) (c - (n + 1)))) b (has-range f (0 + (n + 1)) (c - (n + 1)) k (omega arith) (omega arith)) in
    let same = ap (λ xs. times xs b) (parts ∙ ap (λ n. map f (range_with_len 0 n)) whole) in
    let o = once b in
    omega arith

-- two blocks of a map are different
pub nth-apart : (m : ℕ → List ℕ) (x : Inode) (c n k : ℕ) → ((b : ℕ) → times (uses m x c) b ≤ 1) → n ≢ k → n < c → k < c → nth_block m x n ≢ nth_block m x k
nth-apart m x c n k once ne l h e =
    elim (ltb n k) as (λ t. ltb n k ≡ t → ⊥) [
      | true ↦ λ t. nth-after m x c n k once (grind (arith, nat_tests)) h e
      | false ↦ λ t. let q : k < n = (let p : k ≤ n = grind (arith, nat_tests) in omega arith) in nth-after m x c k n once q l (sym e)
    ] refl

-- a block of the map stays where the indirect block does
pub nth-moves : (m0 m1 : ℕ → List ℕ) (x : Inode) (n : ℕ) → (12 ≤ n → m1 x.single ≡ m0 x.single) → nth_block m1 x n ≡ nth_block m0 x n
nth-moves m0 m1 x n h =
    elim (ltb n 12) as (λ t. ltb n 12 ≡ t → nth_block m1 x n ≡ nth_block m0 x n) [
      | true ↦ λ t. let l : n < 12 = grind (arith, nat_tests) in nth-direct m1 x n l ∙ sym (nth-direct m0 x n l)
      | false ↦ λ t.
          let l : 12 ≤ n = grind (arith, nat_tests) in nth-single m1 x n l ∙ ap (λ (b : List ℕ). word_at b (4 * (n - 12))) (h l) ∙ sym (nth-single m0 x n l)
    ] refl

-- what was not of an inode stays used, and not of it
pub other-used : (lot : LotView) (m0 m1 : ℕ → List ℕ) (xs ys : List ℕ) (b : ℕ) → MarksFollow lot m0 m1 xs ys → used_block m0 b ≡ true
    → has xs b ≡ false → used_block m1 b ≡ true
other-used lot m0 m1 xs ys b k u h =
    let e = k.used b in
    let n = times-none xs b h in
    let g : mark (used_block m0 b) ≡ 1 = ap mark u in
    elim (used_block m1 b) as (λ t. used_block m1 b ≡ t → t ≡ true) [
      | true ↦ λ t. refl
      | false ↦ λ t. let f : mark (used_block m1 b) ≡ 0 = ap mark t in absurd (omega arith)
    ] refl

mark_small : (t : Bool) → mark t ≤ 1
mark_small true = omega arith
mark_small false = omega arith

pub other-free : (lot : LotView) (m0 m1 : ℕ → List ℕ) (xs ys : List ℕ) (b : ℕ) → MarksFollow lot m0 m1 xs ys → used_block m0 b ≡ true
    → has xs b ≡ false → has ys b ≡ false
other-free lot m0 m1 xs ys b k u h =
    let e = k.used b in
    let n = times-none xs b h in
    let g : mark (used_block m0 b) ≡ 1 = ap mark u in
    let s = mark_small (used_block m1 b) in
    times-zero ys b (omega arith)

pub stays-then : (lot : LotView) (m0 m1 m2 : ℕ → List ℕ) (xs ys : List ℕ) → MarksFollow lot m0 m1 xs ys → Stays lot m0 m1 xs
    → Stays lot m1 m2 ys → Stays lot m0 m2 xs
stays-then lot m0 m1 m2 xs ys k a b = record {
  inodes = λ n. b.inodes n ∙ a.inodes n;
  blocks = λ x d u h. b.blocks x d (other-used lot m0 m1 xs ys x k u h) (other-free lot m0 m1 xs ys x k u h) ∙ a.blocks x d u h;
}
