-- The bits of the bitmap of a further group.
use Rattle.std.proofs.Common.{◌≡◌, ◌≢◌, ◌∙◌, ◌≤◌, ◌<◌, ◌/◌, ◌%◌, ◌==◌, ℕ, zero, suc, true, false, List, slice_index, slice_set, refl, ap, arith}
use Rattle.std.specs.Int.{bit_at}
use Rattle.std.proofs.lemmas.Bool.Decides.{nat_tests}
use Rattle.std.proofs.lemmas.Grind.{elements}
use Rattle.std.proofs.lemmas.Nat.{div-add-mod', mod_below}
use Rattle.ice_base.specs.Bits.{bit_of}
use Rattle.ice_layout.specs.Geometry.{zero_block}
use Rattle.ice_layout.specs.Subs.{fresh_bitmap}
use Rattle.ice_layout.proofs.SuperLaws.{zero_at}

set_other : (xs : List ℕ) (i v k : ℕ) → k ≢ i → slice_index (slice_set xs i v) k ≡ slice_index xs k
set_other xs i v k h = grind (arith, elements)

-- past the first two bytes there are zeros
byte_other : (k : ℕ) → 2 ≤ k → slice_index (fresh_bitmap false) k ≡ 0
byte_other k low =
    elim (k == 32) as (λ b. (k == 32) ≡ b → slice_index (fresh_bitmap false) k ≡ 0) [
      | true ↦ λ t. let e : k ≡ 32 = grind (arith, nat_tests) in ap (slice_index (fresh_bitmap false)) e ∙ last
      | false ↦ λ t. let ne : k ≢ 32 = grind (arith, nat_tests) in
          set_other (slice_set (slice_set zero_block 0 255) 1 1) 32 0 k ne
          ∙ set_other (slice_set zero_block 0 255) 1 1 k (omega (arith, low)) ∙ set_other zero_block 0 255 k (omega (arith, low)) ∙ zero_at k
    ] refl
  where
    last : slice_index (fresh_bitmap false) 32 ≡ 0
    last = refl

none : (r : ℕ) → r < 8 → (bit_at 0 r == 1) ≡ false
none zero h = refl
none (suc zero) h = refl
none (suc (suc zero)) h = refl
none (suc (suc (suc zero))) h = refl
none (suc (suc (suc (suc zero)))) h = refl
none (suc (suc (suc (suc (suc zero))))) h = refl
none (suc (suc (suc (suc (suc (suc zero)))))) h = refl
none (suc (suc (suc (suc (suc (suc (suc zero))))))) h = refl
none (suc (suc (suc (suc (suc (suc (suc (suc r)))))))) h = absurd (omega arith)

one : (r : ℕ) → 0 < r → r < 8 → (bit_at 1 r == 1) ≡ false
one zero l h = absurd (omega arith)
one (suc zero) l h = refl
one (suc (suc zero)) l h = refl
one (suc (suc (suc zero))) l h = refl
one (suc (suc (suc (suc zero)))) l h = refl
one (suc (suc (suc (suc (suc zero))))) l h = refl
one (suc (suc (suc (suc (suc (suc zero)))))) l h = refl
one (suc (suc (suc (suc (suc (suc (suc zero))))))) l h = refl
one (suc (suc (suc (suc (suc (suc (suc (suc r)))))))) l h = absurd (omega arith)

bit_in : (block : List ℕ) (p x : ℕ) → slice_index block (p / 8) ≡ x → bit_of block p ≡ (bit_at x (p % 8) == 1)
unfolding bit_of
bit_in block p x e = ap (λ y. bit_at y (p % 8) == 1) e

-- The places of a further group that hold no data are marked used,
pub further_reserved : (p : ℕ) → p < 9 → bit_of (fresh_bitmap false) p ≡ true
unfolding bit_of
further_reserved zero h = refl
further_reserved (suc zero) h = refl
further_reserved (suc (suc zero)) h = refl
further_reserved (suc (suc (suc zero))) h = refl
further_reserved (suc (suc (suc (suc zero)))) h = refl
further_reserved (suc (suc (suc (suc (suc zero))))) h = refl
further_reserved (suc (suc (suc (suc (suc (suc zero)))))) h = refl
further_reserved (suc (suc (suc (suc (suc (suc (suc zero))))))) h = refl
further_reserved (suc (suc (suc (suc (suc (suc (suc (suc zero)))))))) h = refl
further_reserved (suc (suc (suc (suc (suc (suc (suc (suc (suc p))))))))) h = absurd (omega arith)

-- and no place for data and no inode is.
pub further_free : (p : ℕ) → 9 ≤ p → bit_of (fresh_bitmap false) p ≡ false
further_free p low =
    let parts = div-add-mod' p 8 in
    let rest = mod_below p 8 (omega arith) in
    elim (p / 8 == 1) as (λ b. (p / 8 == 1) ≡ b → bit_of (fresh_bitmap false) p ≡ false) [
      | true ↦ λ t.
          let q : p / 8 ≡ 1 = grind (arith, nat_tests) in
          bit_in (fresh_bitmap false) p 1 (ap (slice_index (fresh_bitmap false)) q) ∙ one (p % 8) (omega (arith, low, parts, q)) rest
      | false ↦ λ t.
          let q : p / 8 ≢ 1 = grind (arith, nat_tests) in
          bit_in (fresh_bitmap false) p 0 (byte_other (p / 8) (omega (arith, low, parts, rest, q))) ∙ none (p % 8) rest
    ] refl
