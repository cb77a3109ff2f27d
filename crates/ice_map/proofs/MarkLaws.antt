-- Blocks that were marked used or free, one after another.
use Rattle.std.proofs.Common.{◌≡◌, ◌≢◌, ◌≤◌, ◌+◌, ◌-◌, ◌*◌, ◌%◌, ◌==◌, ℕ, Bool, true, false, cond, not, List, [], ◌∷◌, ◌++◌, length, length-append, ◌∙◌, sym, refl, ap, arith}
use Rattle.std.proofs.lemmas.Bool.Decides.{nat_tests}
use Rattle.std.proofs.lemmas.Nat.{mod_below}
use Rattle.ice_base.specs.Bits.{bit_of}
use Rattle.ice_base.specs.Fields.{word_at, WordSet}
use Rattle.ice_base.specs.Lots.{LotView, sub_address}
use Rattle.ice_base.specs.Pools.{Took, Gave}
use Rattle.ice_base.specs.Spare.{has}
use Rattle.ice_base.specs.Used.{used, used_block, is_data, bitmap_of, bit_place, counted, free_count, AllUsed, Reserved}
use Rattle.ice_base.proofs.CountLaws.{count_below-same, count_below-takes, count_below-gives}
use Rattle.ice_base.proofs.UsedLaws.{data_below, data_place, bitmap_not_sub}
use Rattle.ice_map.specs.Maps.{Marked}
use Rattle.ice_map.proofs.ListLaws.{has-append, has-one, count_none}

-- a data place is no bitmap block, and no sub-super block
pub data_not_bitmap : (lot : LotView) (a o : ℕ) → is_data lot a ≡ true → 256 * o ≢ a
data_not_bitmap lot a o h e = let p = data_place lot a h in let f : a % 256 ≡ 256 * o % 256 = ap (λ x. x % 256) (sym e) in omega arith

-- in a lot of at most 64 groups no data place is the sub-super block
pub data_not_sub : (lot : LotView) (a : ℕ) → length lot.groups ≤ 64 → is_data lot a ≡ true → sub_address ≢ a
data_not_sub lot a few h e = let b = data_below lot a h in omega arith

-- the sets are what the bitmap blocks say
pub used-same : (inodes : Bool) (m0 m1 : ℕ → List ℕ) (i : ℕ) → ((o : ℕ) → m1 (256 * o) ≡ m0 (256 * o)) → used inodes m1 i ≡ used inodes m0 i
unfolding used
used-same inodes m0 m1 i h = ap (λ x. bit_of x (bit_place inodes i)) (h _)

-- where each block is marked as it was, as many are free
pub free-same : (lot : LotView) (m0 m1 : ℕ → List ℕ) → ((b : ℕ) → used_block m1 b ≡ used_block m0 b) → free_count false lot m1 ≡ free_count false lot m0
free-same lot m0 m1 h = count_below-same (λ i. not (used_block m0 i)) (λ i. not (used_block m1 i)) (256 * length lot.groups) (λ b l. ap not (h b))

-- a change of other blocks leaves the marks
pub marked-same : (lot : LotView) (v : Bool) (m0 m1 m2 : ℕ → List ℕ) (xs : List ℕ) → ((o : ℕ) → m2 (256 * o) ≡ m1 (256 * o))
    → m2 sub_address ≡ m1 sub_address → Marked lot v m0 m1 xs → Marked lot v m0 m2 xs
marked-same lot v m0 m1 m2 xs bitmaps sub k = record {
  used = λ b. used-same false m1 m2 b bitmaps ∙ k.used b;
  inodes = λ i. used-same true m1 m2 i bitmaps ∙ k.inodes i;
  rest = λ o j h. ap (λ x. bit_of x j) (bitmaps o) ∙ k.rest o j h;
  counts = rw sub k.counts;
  free = ap (λ x. x + cond v (length xs) 0) (free-same lot m1 m2 (λ b. used-same false m1 m2 b bitmaps)) ∙ k.free;
}

word_set-refl : (block : List ℕ) (at x : ℕ) → x ≡ word_at block at → WordSet block at x block
word_set-refl block at x e = record { value = sym e; others = λ k h. refl }

count_none_moved : (v : Bool) (c : ℕ) → cond v (c + 0) (c - 0) ≡ c
count_none_moved true c = omega arith
count_none_moved false c = omega arith

pub marked-refl : (lot : LotView) (v : Bool) (m : ℕ → List ℕ) → Marked lot v m m []
unfolding has
marked-refl lot v m = record {
  used = λ b. refl;
  inodes = λ i. refl;
  rest = λ o k h. refl;
  counts = word_set-refl _ _ _ (count_none_moved v _);
  free = refl;
}

both : (x y v w : Bool) → cond y v (cond x v w) ≡ cond (cond x true y) v w
both true true v w = refl
both true false v w = refl
both false true v w = refl
both false false v w = refl

both_counts : (v : Bool) (c n m : ℕ) → cond v (cond v (c + n) (c - n) + m) (cond v (c + n) (c - n) - m) ≡ cond v (c + (n + m)) (c - (n + m))
both_counts true c n m = omega arith
both_counts false c n m = omega arith

both_free : (v : Bool) (f0 f1 f2 n m : ℕ) → f1 + cond v n 0 ≡ f0 + cond v 0 n → f2 + cond v m 0 ≡ f1 + cond v 0 m
    → f2 + cond v (n + m) 0 ≡ f0 + cond v 0 (n + m)
both_free true f0 f1 f2 n m h k = omega arith
both_free false f0 f1 f2 n m h k = omega arith

word_set-then : (s0 s1 s2 : List ℕ) (at x y z : ℕ) → WordSet s0 at x s1 → WordSet s1 at y s2 → y ≡ z → WordSet s0 at z s2
word_set-then s0 s1 s2 at x y z v w e = record { value = w.value ∙ e; others = λ k h. w.others k h ∙ v.others k h }

-- one list of blocks, and then another
pub marked-then : (lot : LotView) (v : Bool) (m0 m1 m2 : ℕ → List ℕ) (xs ys : List ℕ) → Marked lot v m0 m1 xs → Marked lot v m1 m2 ys
    → Marked lot v m0 m2 (xs ++ ys)
marked-then lot v m0 m1 m2 xs ys a b =
    let l = length-append xs ys in
    record {
      used =
          λ k. b.used k ∙ ap (λ x. cond (has ys k) v x) (a.used k) ∙ both (has xs k) (has ys k) v (used_block m0 k)
          ∙ ap (λ x. cond x v (used_block m0 k)) (sym (has-append xs ys k));
      inodes = λ i. b.inodes i ∙ a.inodes i;
      rest = λ o k h. b.rest o k h ∙ a.rest o k h;
      counts = word_set-then _ _ _ _ _ _ _ a.counts b.counts
          (ap (λ c. cond v (c + length ys) (c - length ys)) a.counts.value ∙ both_counts v (counted false m0) (length xs) (length ys)
          ∙ ap (λ n. cond v (counted false m0 + n) (counted false m0 - n)) (sym l));
      free = let f = both_free v _ _ _ (length xs) (length ys) a.free b.free in rw l f;
    }

-- the bits of one bitmap block past those of the blocks
rest_kept : (v : Bool) (m0 m1 : ℕ → List ℕ) (a : ℕ)
    → ((k : ℕ) → bit_of (m1 (bitmap_of false a)) k ≡ cond (k == bit_place false a) v (bit_of (m0 (bitmap_of false a)) k))
    → ((b : ℕ) → b ≢ sub_address → b ≢ bitmap_of false a → m1 b ≡ m0 b) → (o k : ℕ) → 320 ≤ k → bit_of (m1 (256 * o)) k ≡ bit_of (m0 (256 * o)) k
rest_kept v m0 m1 a marked only o k h =
    elim (256 * o == bitmap_of false a) as (λ t. (256 * o == bitmap_of false a) ≡ t → bit_of (m1 (256 * o)) k ≡ bit_of (m0 (256 * o)) k) [
      | true ↦ λ t. let same : 256 * o ≡ bitmap_of false a = grind (arith, nat_tests) in
          let small = mod_below a 256 (omega arith) in
          let other : (k == bit_place false a) ≡ false = grind (arith, nat_tests) in
          ap (λ x. bit_of (m1 x) k) same ∙ marked k ∙ ap (λ t. cond t v (bit_of (m0 (bitmap_of false a)) k)) other ∙ ap (λ x. bit_of (m0 x) k) (sym same)
      | false ↦ λ t. ap (λ x. bit_of x k) (only (256 * o) (bitmap_not_sub o) (grind (arith, nat_tests)))
    ] refl

one_used : (v : Bool) (m0 m1 : ℕ → List ℕ) (a b : ℕ) → used_block m1 b ≡ cond (b == a) v (used_block m0 b)
    → used_block m1 b ≡ cond (has (a ∷ []) b) v (used_block m0 b)
one_used v m0 m1 a b h = h ∙ ap (λ t. cond t v (used_block m0 b)) (sym (has-one a b))

not_cond : (t v x : Bool) → not (cond t v x) ≡ cond t (not v) (not x)
not_cond true v x = refl
not_cond false v x = refl

-- a block that was taken
pub marked-took : (lot : LotView) (m0 m1 : ℕ → List ℕ) (a : ℕ) → is_data lot a ≡ true → Took false m0 m1 a
    → ((b : ℕ) → b ≢ sub_address → b ≢ bitmap_of false a → m1 b ≡ m0 b) → Marked lot true m0 m1 (a ∷ [])
marked-took lot m0 m1 a d t only = record {
  used = λ b. one_used true m0 m1 a b (t.taken b);
  inodes = t.others;
  rest = rest_kept true m0 m1 a t.marked only;
  counts = t.counts;
  free = let f = count_below-gives (λ i. not (used_block m0 i)) (λ i. not (used_block m1 i)) a (256 * length lot.groups) (data_below lot a d) (ap not t.least.0)
      (λ b. ap not (t.taken b) ∙ not_cond (b == a) true (used_block m0 b)) in omega arith;
}

-- a block that was given back
pub marked-gave : (lot : LotView) (m0 m1 : ℕ → List ℕ) (a : ℕ) → is_data lot a ≡ true → Gave false m0 m1 a
    → ((b : ℕ) → b ≢ sub_address → b ≢ bitmap_of false a → m1 b ≡ m0 b) → Marked lot false m0 m1 (a ∷ [])
marked-gave lot m0 m1 a d t only = record {
  used = λ b. one_used false m0 m1 a b (t.given b);
  inodes = t.others;
  rest = rest_kept false m0 m1 a t.marked only;
  counts = t.counts;
  free =
      let f = count_below-takes (λ i. not (used_block m0 i)) (λ i. not (used_block m1 i)) a (256 * length lot.groups) (data_below lot a d) (ap not t.was_used)
      (λ b. ap not (t.given b) ∙ not_cond (b == a) false (used_block m0 b)) in omega arith;
}

-- where every block is used none is free
pub none_free : (lot : LotView) (m : ℕ → List ℕ) → AllUsed false lot m → free_count false lot m ≡ 0
none_free lot m h = count_none (λ i. not (used_block m i)) (256 * length lot.groups) (λ b l. ap not (h b l))

-- what is marked used stays so where blocks are taken
pub reserved-kept : (lot : LotView) (m0 m1 : ℕ → List ℕ) (xs : List ℕ) → Marked lot true m0 m1 xs → Reserved lot m0 → Reserved lot m1
reserved-kept lot m0 m1 xs k r = record {
  set = λ b h p. let s = r.set b h p in let t = k.used b in grind arith;
}

pub marked_count : (lot : LotView) (m0 m1 : ℕ → List ℕ) (a : ℕ) → Marked lot true m0 m1 (a ∷ []) → counted false m1 ≡ counted false m0 + 1
marked_count lot m0 m1 a k = k.counts.value

pub marked_free : (lot : LotView) (m0 m1 : ℕ → List ℕ) (a : ℕ) → Marked lot true m0 m1 (a ∷ []) → free_count false lot m1 + 1 ≡ free_count false lot m0
marked_free lot m0 m1 a k = let f = k.free in omega arith

pub marked_reserved : (lot : LotView) (m0 m1 : ℕ → List ℕ) (a : ℕ) → Marked lot true m0 m1 (a ∷ []) → Reserved lot m0 → Reserved lot m1
marked_reserved lot m0 m1 a k r = reserved-kept lot m0 m1 (a ∷ []) k r

pub ruleset two_laws = (marked_count, marked_free, marked_reserved)
