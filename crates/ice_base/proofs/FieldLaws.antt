-- Numbers that were written to a block read back, and the other bytes stay.
use Rattle.std.proofs.Common.{List, ap, arith, get_or, length, slice_index, subst, sym, ℕ, ⊎_elim, ◌*◌, ◌++◌, ◌+◌, ◌<◌, ◌^◌, ◌∙◌, ◌≡◌, ◌≤◌, ◌⊎◌}
use borrow.Rule.Slice.PartMut.{put_mid}
use Rattle.std.proofs.lemmas.Grind.{elements}
use Rattle.std.specs.Int.{bytes_low_first}
use Rattle.byteorder.specs.Numbers.{little_number-reads_back}
use Rattle.byteorder.specs.Endian.{little_number}
use Rattle.ice_base.specs.Fields.{word_at, long_at, WordSet, LongSet, SameBeside}

pub mid_before : (xs ys : List ℕ) (a k j : ℕ) → j < a → a ≤ length xs → get_or (put_mid a k xs ys) j 0 ≡ get_or xs j 0
mid_before xs ys a k j h l = grind (arith, elements)

pub mid_inside : (xs ys : List ℕ) (a k j : ℕ) → a ≤ length xs → j < length ys → get_or (put_mid a k xs ys) (a + j) 0 ≡ get_or ys j 0
mid_inside xs ys a k j l h = grind (arith, elements)

pub mid_after : (xs ys : List ℕ) (a k j : ℕ) → length ys ≡ k → a + k ≤ j → a + k ≤ length xs → get_or (put_mid a k xs ys) j 0 ≡ get_or xs j 0
mid_after xs ys a k j e h l = grind (arith, elements)

word_of : (ys : List ℕ) → word_at ys 0 ≡ little_number 4 ys
unfolding word_at
word_of ys = grind arith

word_moves : (xs ys : List ℕ) (a : ℕ) → a + 4 ≤ length xs → length ys ≡ 4 → word_at (put_mid a 4 xs ys) a ≡ word_at ys 0
unfolding word_at
word_moves xs ys a h e =
    let e0 = mid_inside xs ys a 4 0 (omega arith) (omega arith) in
    let e1 = mid_inside xs ys a 4 1 (omega arith) (omega arith) in
    let e2 = mid_inside xs ys a 4 2 (omega arith) (omega arith) in
    let e3 = mid_inside xs ys a 4 3 (omega arith) (omega arith) in
    grind arith

put_word_4 : (xs ys zs : List ℕ) (a v : ℕ) → ys ≡ bytes_low_first 0 4 v ++ zs → length ys ≡ 4 → a + 4 ≤ length xs → v < 2 ^ 32
    → WordSet xs a v (put_mid a 4 xs ys)
put_word_4 xs ys zs a v e l h f = record {
  value = word_moves xs ys a h l ∙ word_of ys ∙ ap (little_number 4) e ∙ little_number-reads_back 4 v zs f;
  others = λ k c. ⊎_elim
      (λ low. mid_before xs ys a 4 k low (omega arith))
      (λ high. mid_after xs ys a 4 k l high h)
      c;
}

-- after a write of v to the four bytes from a on
pub put_word : (xs ys zs : List ℕ) (a n v : ℕ) → n ≡ 4 → ys ≡ bytes_low_first 0 4 v ++ zs → length ys ≡ n → a + 4 ≤ length xs → v < 2 ^ 32
    → WordSet xs a v (put_mid a n xs ys)
put_word xs ys zs a n v e =
    subst (λ (m : ℕ). ys ≡ bytes_low_first 0 4 v ++ zs → length ys ≡ m → a + 4 ≤ length xs → v < 2 ^ 32 → WordSet xs a v (put_mid a m xs ys))
    (sym e) (put_word_4 xs ys zs a v)

-- eight bytes read as two words
long_of : (ys : List ℕ) → long_at ys 0 ≡ little_number 8 ys
unfolding word_at
long_of ys = grind arith

long_moves : (xs ys : List ℕ) (a : ℕ) → a + 8 ≤ length xs → length ys ≡ 8 → long_at (put_mid a 8 xs ys) a ≡ long_at ys 0
unfolding word_at
long_moves xs ys a h e =
    let e0 = mid_inside xs ys a 8 0 (omega arith) (omega arith) in
    let e1 = mid_inside xs ys a 8 1 (omega arith) (omega arith) in
    let e2 = mid_inside xs ys a 8 2 (omega arith) (omega arith) in
    let e3 = mid_inside xs ys a 8 3 (omega arith) (omega arith) in
    let e4 = mid_inside xs ys a 8 4 (omega arith) (omega arith) in
    let e5 = mid_inside xs ys a 8 5 (omega arith) (omega arith) in
    let e6 = mid_inside xs ys a 8 6 (omega arith) (omega arith) in
    let e7 = mid_inside xs ys a 8 7 (omega arith) (omega arith) in
    grind arith

put_long_8 : (xs ys zs : List ℕ) (a v : ℕ) → ys ≡ bytes_low_first 0 8 v ++ zs → length ys ≡ 8 → a + 8 ≤ length xs → v < 2 ^ 64
    → LongSet xs a v (put_mid a 8 xs ys)
put_long_8 xs ys zs a v e l h f = record {
  value = long_moves xs ys a h l ∙ long_of ys ∙ ap (little_number 8) e ∙ little_number-reads_back 8 v zs f;
  others = λ k c. ⊎_elim
      (λ low. mid_before xs ys a 8 k low (omega arith))
      (λ high. mid_after xs ys a 8 k l high h)
      c;
}

-- after a write of v to the eight bytes from a on
pub put_long : (xs ys zs : List ℕ) (a n v : ℕ) → n ≡ 8 → ys ≡ bytes_low_first 0 8 v ++ zs → length ys ≡ n → a + 8 ≤ length xs → v < 2 ^ 64
    → LongSet xs a v (put_mid a n xs ys)
put_long xs ys zs a n v e =
    subst (λ (m : ℕ). ys ≡ bytes_low_first 0 8 v ++ zs → length ys ≡ m → a + 8 ≤ length xs → v < 2 ^ 64 → LongSet xs a v (put_mid a m xs ys))
    (sym e) (put_long_8 xs ys zs a v)

-- numbers that lie apart stay
pub word-others : (old new : List ℕ) (at v other : ℕ) → WordSet old at v new → (other + 4 ≤ at) ⊎ (at + 4 ≤ other) → word_at new other ≡ word_at old other
unfolding word_at
word-others old new at v other w h =
    let o = w.others in
    let p : (k : ℕ) → k < 4 → (other + k < at) ⊎ (at + 4 ≤ other + k) = (λ k l. grind arith) in
    let a = o (other + 0) (p 0 (omega arith)) in
    let b = o (other + 1) (p 1 (omega arith)) in
    let c = o (other + 2) (p 2 (omega arith)) in
    let d = o (other + 3) (p 3 (omega arith)) in
    grind arith

-- a number of equal bytes
pub word-same : (xs ys : List ℕ) (at : ℕ) → ((k : ℕ) → at ≤ k → k < at + 4 → slice_index xs k ≡ slice_index ys k) → word_at xs at ≡ word_at ys at
unfolding word_at
word-same xs ys at h =
    let a = h at (omega arith) (omega arith) in
    let b = h (at + 1) (omega arith) (omega arith) in
    let c = h (at + 2) (omega arith) (omega arith) in
    let d = h (at + 3) (omega arith) (omega arith) in
    grind arith

-- numbers beside a part that changed stay
pub word-beside : (old new : List ℕ) (at n other : ℕ) → SameBeside at n old new → (other + 4 ≤ at) ⊎ (at + n ≤ other) → word_at new other ≡ word_at old other
word-beside old new at n other same apart = word-same new old other (λ k low high. same k (grind arith))

-- a long field apart from the changed bytes is as it was
pub long-beside : (old new : List ℕ) (at n other : ℕ) → SameBeside at n old new → (other + 8 ≤ at) ⊎ (at + n ≤ other) → long_at new other ≡ long_at old other
long-beside old new at n other same apart =
    let low = word-beside old new at n other same (grind arith) in
    let high = word-beside old new at n (other + 4) same (grind arith) in
    ap (λ x. x + 4294967296 * word_at new (other + 4)) low ∙ ap (λ x. word_at old other + 4294967296 * x) high
