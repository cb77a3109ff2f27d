use Rattle.std.proofs.Common.{◌≡◌, ◌≢◌, ◌==◌, ℕ, ◌*◌, ◌/◌, ◌%◌, ◌-◌, ◌^◌, ◌<◌, Bool, true, false, cond, List, length, slice_index, slice_set, bit_and, bit_or, sym, ap, ◌∙◌, refl, arith, get_or-set_other, get_or-set_same}
use Rattle.std.specs.Int.{bit_at, w8}
use Rattle.std.proofs.lemmas.Nat.{mod_below, div-add-mod'}
use Rattle.std.proofs.lemmas.Nat.Bits.{shr_and_one, bit_at-lt, bit_at_set_same, bit_at_set_other, bit_at_clear_same, bit_at_clear_other}
use Rattle.std.proofs.lemmas.Bool.Decides.{nat_tests}
use Rattle.ice_base.specs.Bits.{bit_of, Inserts, Deletes}

-- one byte changed at one bit
bit_of-set : (xs : List ℕ) (k b j : ℕ) → k / 8 < length xs → j / 8 ≡ k / 8 → bit_of (slice_set xs (k / 8) b) j ≡ (bit_at b (j % 8) == 1)
unfolding bit_of
bit_of-set xs k b j h e = rw (e, get_or-set_same xs (k / 8) b 0 h) refl

bit_of-other : (xs : List ℕ) (k b j : ℕ) → j / 8 ≢ k / 8 → bit_of (slice_set xs (k / 8) b) j ≡ bit_of xs j
unfolding bit_of
bit_of-other xs k b j e = rw get_or-set_other refl

bit_of-byte : (xs : List ℕ) (k j : ℕ) → j / 8 ≡ k / 8 → bit_of xs j ≡ (bit_at (slice_index xs (k / 8)) (j % 8) == 1)
unfolding bit_of
bit_of-byte xs k j e = rw e refl

same_byte : (j k : ℕ) → j ≢ k → j / 8 ≡ k / 8 → j % 8 ≢ k % 8
same_byte j k ne e f = ne (omega (arith, div-add-mod' j 8, div-add-mod' k 8))

set_same : (xs : List ℕ) (k : ℕ) → k / 8 < length xs → bit_of (slice_set xs (k / 8) (bit_or (slice_index xs (k / 8)) (1 * 2 ^ (k % 8) % 256))) k ≡ true
set_same xs k h =
    let e = bit_at_set_same w8 (slice_index xs (k / 8)) (k % 8) (mod_below k 8 (omega arith)) in
    bit_of-set xs k _ k h refl ∙ ap (λ x. x == 1) e

set_other : (xs : List ℕ) (k j : ℕ) → k / 8 < length xs → j ≢ k
    → bit_of (slice_set xs (k / 8) (bit_or (slice_index xs (k / 8)) (1 * 2 ^ (k % 8) % 256))) j ≡ bit_of xs j
set_other xs k j h ne =
    elim (j / 8 == k / 8) as (λ b. (j / 8 == k / 8) ≡ b
    → bit_of (slice_set xs (k / 8) (bit_or (slice_index xs (k / 8)) (1 * 2 ^ (k % 8) % 256))) j ≡ bit_of xs j) [
      | true ↦ λ t. let same : j / 8 ≡ k / 8 = grind (arith, nat_tests) in
          let e = bit_at_set_other w8 (slice_index xs (k / 8)) (k % 8) (mod_below k 8 (omega arith)) (j % 8) (same_byte j k ne same) in
          bit_of-set xs k _ j h same ∙ ap (λ x. x == 1) e ∙ sym (bit_of-byte xs k j same)
      | false ↦ λ t. let apart : j / 8 ≢ k / 8 = grind (arith, nat_tests) in bit_of-other xs k _ j apart
    ] refl

clear_same : (xs : List ℕ) (k : ℕ) → k / 8 < length xs
    → bit_of (slice_set xs (k / 8) (bit_and (slice_index xs (k / 8)) (255 - 1 * 2 ^ (k % 8) % 256))) k ≡ false
clear_same xs k h =
    let e = bit_at_clear_same w8 (slice_index xs (k / 8)) (k % 8) (mod_below k 8 (omega arith)) in
    bit_of-set xs k _ k h refl ∙ ap (λ x. x == 1) e

clear_other : (xs : List ℕ) (k j : ℕ) → k / 8 < length xs → j ≢ k
    → bit_of (slice_set xs (k / 8) (bit_and (slice_index xs (k / 8)) (255 - 1 * 2 ^ (k % 8) % 256))) j ≡ bit_of xs j
clear_other xs k j h ne =
    elim (j / 8 == k / 8) as (λ b. (j / 8 == k / 8) ≡ b
    → bit_of (slice_set xs (k / 8) (bit_and (slice_index xs (k / 8)) (255 - 1 * 2 ^ (k % 8) % 256))) j ≡ bit_of xs j) [
      | true ↦ λ t. let same : j / 8 ≡ k / 8 = grind (arith, nat_tests) in
          let e = bit_at_clear_other w8 (slice_index xs (k / 8)) (k % 8) (mod_below k 8 (omega arith)) (j % 8)
          (mod_below j 8 (omega arith)) (same_byte j k ne same) in
          bit_of-set xs k _ j h same ∙ ap (λ x. x == 1) e ∙ sym (bit_of-byte xs k j same)
      | false ↦ λ t. let apart : j / 8 ≢ k / 8 = grind (arith, nat_tests) in bit_of-other xs k _ j apart
    ] refl

one_bit : (v : Bool) (xs ys : List ℕ) (k : ℕ) → bit_of ys k ≡ v → ((j : ℕ) → j ≢ k → bit_of ys j ≡ bit_of xs j) → (j : ℕ)
    → bit_of ys j ≡ cond (j == k) v (bit_of xs j)
one_bit v xs ys k here else j =
    elim (j == k) as (λ b. (j == k) ≡ b → bit_of ys j ≡ cond b v (bit_of xs j)) [
      | true ↦ λ t. let same : j ≡ k = grind (arith, nat_tests) in ap (bit_of ys) same ∙ here
      | false ↦ λ t. else j (grind (arith, nat_tests))
    ] refl

-- a byte with one bit set, in place of the old one
pub set_takes : (xs : List ℕ) (k : ℕ) → k / 8 < length xs
    → Inserts (bit_of xs) k (bit_of (slice_set xs (k / 8) (bit_or (slice_index xs (k / 8)) (1 * 2 ^ (k % 8) % 256))))
set_takes xs k h = one_bit true xs (slice_set xs (k / 8) (bit_or (slice_index xs (k / 8)) (1 * 2 ^ (k % 8) % 256))) k
    (set_same xs k h) (λ j ne. set_other xs k j h ne)

-- or cleared
pub clear_gives : (xs : List ℕ) (k : ℕ) → k / 8 < length xs
    → Deletes (bit_of xs) k (bit_of (slice_set xs (k / 8) (bit_and (slice_index xs (k / 8)) (255 - 1 * 2 ^ (k % 8) % 256))))
clear_gives xs k h =
    one_bit false xs (slice_set xs (k / 8) (bit_and (slice_index xs (k / 8)) (255 - 1 * 2 ^ (k % 8) % 256))) k (clear_same xs k h)
    (λ j ne. clear_other xs k j h ne)

pub ruleset bit_tests = (shr_and_one, bit_at-lt, nat_tests)

pub ruleset bit_sets = (set_takes, clear_gives)
