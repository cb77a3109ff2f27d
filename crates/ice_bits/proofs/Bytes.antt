-- Bytes whose bits are counted together.
use Rattle.std.proofs.Common.{◌≡◌, ◌∙◌, ◌<◌, ◌+◌, ◌*◌, ◌/◌, ◌%◌, ◌==◌, ℕ, zero, suc, Bool, true, false, cond, List, slice_index, add-one, refl, ap, arith}
use Rattle.std.specs.Int.{bit_at}
use Rattle.std.proofs.lemmas.Nat.{div-add-mod', mod_below}
use Rattle.ice_base.specs.Bits.{bit_of, count_below}
use Rattle.ice_base.specs.Used.{bit_index}
use Rattle.ice_base.proofs.CountLaws.{count_below-zero, count_below-add_one, count_below-same}

count_below-suc : (p : ℕ → Bool) (n : ℕ) → count_below p (suc n) ≡ count_below p n + cond (p n) 1 0
count_below-suc p n = rw add-one at (count_below-add_one p n)

-- the numbers below a sum are those below its first part, and those from there on
pub count_below-sum : (p : ℕ → Bool) (m n : ℕ) → count_below p (m + n) ≡ count_below p m + count_below (λ j. p (m + j)) n
count_below-sum p m zero =
    let none = count_below-zero (λ j. p (m + j)) in
    let same : count_below p (m + 0) ≡ count_below p m = let n : m + 0 ≡ m = omega arith in ap (count_below p) n in
    omega (arith, none, same)
count_below-sum p m (suc n) =
    let before = count_below-sum p m n in
    let next : m + suc n ≡ suc (m + n) = omega arith in
    let left : count_below p (m + suc n) ≡ count_below p (m + n) + cond (p (m + n)) 1 0 = ap (count_below p) next ∙ count_below-suc p (m + n) in
    let right = count_below-suc (λ j. p (m + j)) n in
    omega (arith, before, left, right)

-- where all bits are alike, none or each of them counts
pub count_none : (p : ℕ → Bool) (n : ℕ) → ((j : ℕ) → j < n → p j ≡ false) → count_below p n ≡ 0
count_none p zero all = count_below-zero p
count_none p (suc n) all =
    let before = count_none p n (λ j less. all j (omega (arith, less))) in
    let here = ap {B = ℕ} (λ (b : Bool). cond b 1 0) (all n (omega arith)) in
    omega (arith, count_below-suc p n, before, here)

pub count_every : (p : ℕ → Bool) (n : ℕ) → ((j : ℕ) → j < n → p j ≡ true) → count_below p n ≡ n
count_every p zero all = count_below-zero p
count_every p (suc n) all =
    let before = count_every p n (λ j less. all j (omega (arith, less))) in
    let here = ap {B = ℕ} (λ (b : Bool). cond b 1 0) (all n (omega arith)) in
    omega (arith, count_below-suc p n, before, here)

-- a bit of a byte of a block
bit_of-byte : (xs : List ℕ) (a j : ℕ) → j < 8 → bit_of xs (8 * a + j) ≡ (bit_at (slice_index xs a) j == 1)
unfolding bit_of
bit_of-byte xs a j less =
    let place : (8 * a + j) / 8 ≡ a = omega (arith, div-add-mod' (8 * a + j) 8, mod_below (8 * a + j) 8 (omega arith), less) in
    let bit : (8 * a + j) % 8 ≡ j = omega (arith, div-add-mod' (8 * a + j) 8, place) in
    rw (place, bit) refl

no_bit : (j : ℕ) → j < 8 → (bit_at 0 j == 1) ≡ false
no_bit zero less = refl
no_bit (suc zero) less = refl
no_bit (suc (suc zero)) less = refl
no_bit (suc (suc (suc zero))) less = refl
no_bit (suc (suc (suc (suc zero)))) less = refl
no_bit (suc (suc (suc (suc (suc zero))))) less = refl
no_bit (suc (suc (suc (suc (suc (suc zero)))))) less = refl
no_bit (suc (suc (suc (suc (suc (suc (suc zero))))))) less = refl
no_bit (suc (suc (suc (suc (suc (suc (suc (suc n)))))))) less = absurd (omega (arith, less))

each_bit : (j : ℕ) → j < 8 → (bit_at 255 j == 1) ≡ true
each_bit zero less = refl
each_bit (suc zero) less = refl
each_bit (suc (suc zero)) less = refl
each_bit (suc (suc (suc zero))) less = refl
each_bit (suc (suc (suc (suc zero)))) less = refl
each_bit (suc (suc (suc (suc (suc zero))))) less = refl
each_bit (suc (suc (suc (suc (suc (suc zero)))))) less = refl
each_bit (suc (suc (suc (suc (suc (suc (suc zero))))))) less = refl
each_bit (suc (suc (suc (suc (suc (suc (suc (suc n)))))))) less = absurd (omega (arith, less))

-- a byte of zeros has no bit, and one of 255 has eight
pub zero_byte : (xs : List ℕ) (a : ℕ) → slice_index xs a ≡ 0 → count_below (λ j. bit_of xs (8 * a + j)) 8 ≡ 0
zero_byte xs a is = count_none (λ j. bit_of xs (8 * a + j)) 8 (λ j less. bit_of-byte xs a j less ∙ ap (λ (b : ℕ). bit_at b j == 1) is ∙ no_bit j less)

pub full_byte : (xs : List ℕ) (a : ℕ) → slice_index xs a ≡ 255 → count_below (λ j. bit_of xs (8 * a + j)) 8 ≡ 8
full_byte xs a is = count_every (λ j. bit_of xs (8 * a + j)) 8 (λ j less. bit_of-byte xs a j less ∙ ap (λ (b : ℕ). bit_at b j == 1) is ∙ each_bit j less)

-- one byte more
pub count_more : (xs : List ℕ) (inodes : Bool) (first byte : ℕ) → 8 * first ≡ bit_index inodes 0
    → count_below (λ j. bit_of xs (bit_index inodes j)) (8 * byte + 8) ≡ count_below (λ j. bit_of xs (bit_index inodes j)) (8 * byte) + count_below (λ j. bit_of xs (8 * (first + byte) + j)) 8
count_more xs inodes first byte is =
    count_below-sum (λ j. bit_of xs (bit_index inodes j)) (8 * byte) 8
    ∙ ap (λ (n : ℕ). count_below (λ j. bit_of xs (bit_index inodes j)) (8 * byte) + n)
    (count_below-same (λ j. bit_of xs (8 * (first + byte) + j)) (λ j. bit_of xs (bit_index inodes (8 * byte + j))) 8 (λ j less. ap (bit_of xs) (place inodes j is)))
  where
    place : (b : Bool) (j : ℕ) → 8 * first ≡ bit_index b 0 → bit_index b (8 * byte + j) ≡ 8 * (first + byte) + j
    place true j is = omega (arith, is)
    place false j is = omega (arith, is)

-- the first byte of the bits of a kind
pub first_byte : (inodes : Bool) (first : ℕ) → first ≡ bit_index inodes 0 → 8 * (first / 8) ≡ bit_index inodes 0
first_byte true first is = omega (arith, is, div-add-mod' first 8, mod_below first 8 (omega arith))
first_byte false first is = omega (arith, is, div-add-mod' first 8, mod_below first 8 (omega arith))

-- the bits of one byte are counted besides
pub byte_here : (xs : List ℕ) (inodes : Bool) (byte set more n : ℕ) → set ≡ count_below (λ j. bit_of xs (bit_index inodes j)) (8 * byte) → more ≡ n
    → count_below (λ j. bit_of xs (bit_index inodes j)) (8 * byte + 8) ≡ count_below (λ j. bit_of xs (bit_index inodes j)) (8 * byte) + n
    → set + more ≡ count_below (λ j. bit_of xs (bit_index inodes j)) (8 * (byte + 1))
byte_here xs inodes byte set more n so here all =
    let next : 8 * (byte + 1) ≡ 8 * byte + 8 = omega arith in
    let whole = ap (count_below (λ j. bit_of xs (bit_index inodes j))) next in
    omega (arith, so, here, all, whole)
