-- The bits and fields of the blocks of a fresh group.
use Rattle.std.proofs.Common.{◌≡◌, ◌≢◌, ◌≤◌, ◌<◌, ◌+◌, ◌*◌, ◌/◌, ◌%◌, ◌==◌, ℕ, zero, suc, Bool, true, false, List, length, slice_index, slice_set, refl, ap, ◌∙◌, arith, length-set}
use Rattle.std.proofs.lemmas.List.{length-replicate}
use Rattle.std.specs.Prelude.{if◌then◌else◌}
use Rattle.std.specs.Int.{bit_at}
use Rattle.std.proofs.lemmas.Bool.Decides.{nat_tests}
use Rattle.std.proofs.lemmas.Grind.{elements}
use Rattle.std.proofs.lemmas.List.FromFn.{get_or-map-range_with_len}
use Rattle.std.proofs.lemmas.Nat.{div-add-mod', mod_below}
use Rattle.ice_base.specs.Bits.{bit_of}
use Rattle.ice_base.specs.Fields.{word_at}
use Rattle.ice_base.specs.Inodes.{kind_at, size_at, direct_of}
use Rattle.ice_layout.specs.Geometry.{zero_block}
use Rattle.ice_layout.specs.Subs.{fresh_bitmap, fresh_inodes}
use Rattle.ice_layout.proofs.SuperLaws.{zero_at}
use Rattle.ice_map.specs.Inodes.{inode_at}

set-here : (xs : List ℕ) (i v : ℕ) → i < length xs → slice_index (slice_set xs i v) i ≡ v
set-here xs i v h = grind (arith, elements)

set-other : (xs : List ℕ) (i v k : ℕ) → k ≢ i → slice_index (slice_set xs i v) k ≡ slice_index xs k
set-other xs i v k h = grind (arith, elements)

zero-long : length zero_block ≡ 1024
zero-long = length-replicate {A = ℕ} 1024 0

-- three bytes of a block of zeros were set
module _ (z : List ℕ) (long : length z ≡ 1024) (zeros : (k : ℕ) → slice_index z k ≡ 0) (x : ℕ) where
  abbrev set : List ℕ
  set = slice_set (slice_set (slice_set z 0 255) 1 1) 32 x

  byte-0 : slice_index set 0 ≡ 255
  byte-0 =
      set-other (slice_set (slice_set z 0 255) 1 1) 32 x 0 (omega arith) ∙ set-other (slice_set z 0 255) 1 1 0 (omega arith)
      ∙ set-here z 0 255 (omega (arith, long))

  byte-1 : slice_index set 1 ≡ 1
  byte-1 = set-other (slice_set (slice_set z 0 255) 1 1) 32 x 1 (omega arith) ∙ set-here (slice_set z 0 255) 1 1 (omega (arith, long, length-set z 0 255))

  byte-32 : slice_index set 32 ≡ x
  byte-32 = set-here (slice_set (slice_set z 0 255) 1 1) 32 x (omega (arith, long, length-set z 0 255, length-set (slice_set z 0 255) 1 1))

  byte-other : (k : ℕ) → k ≢ 0 → k ≢ 1 → k ≢ 32 → slice_index set k ≡ 0
  byte-other k a b c = set-other (slice_set (slice_set z 0 255) 1 1) 32 x k c ∙ set-other (slice_set z 0 255) 1 1 k b ∙ set-other z 0 255 k a ∙ zeros k

-- ---- the bits of a byte

ones : (r : ℕ) → r < 8 → (bit_at 255 r == 1) ≡ true
ones zero h = refl
ones (suc zero) h = refl
ones (suc (suc zero)) h = refl
ones (suc (suc (suc zero))) h = refl
ones (suc (suc (suc (suc zero)))) h = refl
ones (suc (suc (suc (suc (suc zero))))) h = refl
ones (suc (suc (suc (suc (suc (suc zero)))))) h = refl
ones (suc (suc (suc (suc (suc (suc (suc zero))))))) h = refl
ones (suc (suc (suc (suc (suc (suc (suc (suc r)))))))) h = absurd (omega arith)

one : (r : ℕ) → 0 < r → r < 8 → (bit_at 1 r == 1) ≡ false
one zero l h = absurd (omega arith)
one (suc zero) l h = refl
one (suc (suc zero)) l h = refl
one (suc (suc (suc zero))) l h = refl
one (suc (suc (suc (suc zero)))) l h = refl
one (suc (suc (suc (suc (suc zero))))) l h = refl
one (suc (suc (suc (suc (suc (suc zero)))))) l h = refl
one (suc (suc (suc (suc (suc (suc (suc zero))))))) l h = refl
one (suc (suc (suc (suc (suc (suc (suc (suc r)))))))) l h = absurd (omega arith)

none : (r : ℕ) → r < 8 → (bit_at 0 r == 1) ≡ false
none zero h = refl
none (suc zero) h = refl
none (suc (suc zero)) h = refl
none (suc (suc (suc zero))) h = refl
none (suc (suc (suc (suc zero)))) h = refl
none (suc (suc (suc (suc (suc zero))))) h = refl
none (suc (suc (suc (suc (suc (suc zero)))))) h = refl
none (suc (suc (suc (suc (suc (suc (suc zero))))))) h = refl
none (suc (suc (suc (suc (suc (suc (suc (suc r)))))))) h = absurd (omega arith)

bit-in : (block : List ℕ) (p x : ℕ) → slice_index block (p / 8) ≡ x → bit_of block p ≡ (bit_at x (p % 8) == 1)
unfolding bit_of
bit-in block p x e = ap (λ y. bit_at y (p % 8) == 1) e

-- ---- the bits of a fresh bitmap

module _ (first : Bool) where
  abbrev root : ℕ
  root = if first then 1 else 0

  at-other : (p : ℕ) → p / 8 ≢ 0 → p / 8 ≢ 1 → p / 8 ≢ 32 → bit_of (fresh_bitmap first) p ≡ false
  at-other p a b c = bit-in (fresh_bitmap first) p 0 (byte-other zero_block zero-long zero_at root (p / 8) a b c) ∙ none (p % 8) (mod_below p 8 (omega arith))

  -- the places that hold no data are marked used
  pub bitmap-reserved : (p : ℕ) → p < 9 → bit_of (fresh_bitmap first) p ≡ true
  bitmap-reserved p h =
      elim (p / 8 == 0) as (λ b. (p / 8 == 0) ≡ b → bit_of (fresh_bitmap first) p ≡ true) [
        | true ↦ λ t.
            let q : p / 8 ≡ 0 = grind (arith, nat_tests) in
            bit-in (fresh_bitmap first) p 255 (ap (slice_index (fresh_bitmap first)) q ∙ byte-0 zero_block zero-long zero_at root)
            ∙ ones (p % 8) (mod_below p 8 (omega arith))
        | false ↦ λ t.
            let ne : p / 8 ≢ 0 = grind (arith, nat_tests) in
            let d = div-add-mod' p 8 in
            let r = mod_below p 8 (omega arith) in
            let q : p / 8 ≡ 1 = omega (arith, ne) in
            let z : p % 8 ≡ 0 = omega arith in
            bit-in (fresh_bitmap first) p 1 (ap (slice_index (fresh_bitmap first)) q ∙ byte-1 zero_block zero-long zero_at root) ∙ ap (λ k. bit_at 1 k == 1) z
      ] refl

  -- the places for data are not
  pub bitmap-data : (p : ℕ) → 9 ≤ p → p < 256 → bit_of (fresh_bitmap first) p ≡ false
  bitmap-data p l h =
      let d = div-add-mod' p 8 in
      let r = mod_below p 8 (omega arith) in
      elim (p / 8 == 1) as (λ b. (p / 8 == 1) ≡ b → bit_of (fresh_bitmap first) p ≡ false) [
        | true ↦ λ t.
            let q : p / 8 ≡ 1 = grind (arith, nat_tests) in
            bit-in (fresh_bitmap first) p 1 (ap (slice_index (fresh_bitmap first)) q ∙ byte-1 zero_block zero-long zero_at root) ∙ one (p % 8) (omega arith) r
        | false ↦ λ t. let ne : p / 8 ≢ 1 = grind (arith, nat_tests) in at-other p (λ e. absurd (omega arith)) ne (λ e. absurd (omega arith))
      ] refl

  -- of the inodes none is but the root
  inode-byte : (i : ℕ) → i < 8 → bit_of (fresh_bitmap first) (256 + i) ≡ (bit_at root i == 1)
  inode-byte i h =
      let d = div-add-mod' (256 + i) 8 in
      let r = mod_below (256 + i) 8 (omega arith) in
      let q : (256 + i) / 8 ≡ 32 = omega arith in
      let z : (256 + i) % 8 ≡ i = omega arith in
      bit-in (fresh_bitmap first) (256 + i) root (ap (slice_index (fresh_bitmap first)) q ∙ byte-32 zero_block zero-long zero_at root)
      ∙ ap (λ k. bit_at root k == 1) z

  inode-later : (i : ℕ) → 8 ≤ i → i < 64 → bit_of (fresh_bitmap first) (256 + i) ≡ false
  inode-later i l h =
      let d = div-add-mod' (256 + i) 8 in
      let r = mod_below (256 + i) 8 (omega arith) in
      at-other (256 + i) (λ e. absurd (omega arith)) (λ e. absurd (omega arith)) (λ e. absurd (omega arith))

pub bitmap-root : bit_of (fresh_bitmap true) 256 ≡ true
bitmap-root = inode-byte true 0 (omega arith)

pub bitmap-inodes : (first : Bool) (i : ℕ) → (first ≡ true → 0 < i) → i < 64 → bit_of (fresh_bitmap first) (256 + i) ≡ false
bitmap-inodes first i ne h =
    elim (i / 8 == 0) as (λ b. (i / 8 == 0) ≡ b → bit_of (fresh_bitmap first) (256 + i) ≡ false) [
      | true ↦ λ t.
          let q : i / 8 ≡ 0 = grind (arith, nat_tests) in
          let low : i < 8 = omega (arith, div-add-mod' i 8, mod_below i 8 (omega arith)) in
          inode-byte first i low ∙ byte first low ne
      | false ↦ λ t.
          let q : i / 8 ≢ 0 = grind (arith, nat_tests) in
          inode-later first i (omega (arith, div-add-mod' i 8, mod_below i 8 (omega arith))) h
    ] refl
  where
    byte : (first : Bool) → i < 8 → (first ≡ true → 0 < i) → (bit_at (if first then 1 else 0) i == 1) ≡ false
    byte true low ne = one i (ne refl) low
    byte false low ne = none i low

-- ---- the root's inode

abbrev block : List ℕ
block = fresh_inodes true

later-zero : (k : ℕ) → 0 < k → slice_index block k ≡ 0
later-zero k h = set-other zero_block 0 2 k (omega arith) ∙ zero_at k

word-zero : (at : ℕ) → 0 < at → word_at block at ≡ 0
unfolding word_at
word-zero at h = omega (arith, later-zero at h, later-zero (at + 1) (omega arith), later-zero (at + 2) (omega arith), later-zero (at + 3) (omega arith))

pub root-kind : (inode_at block 0).kind ≡ 2
unfolding inode_at kind_at
root-kind = set-here zero_block 0 2 (omega (arith, zero-long))

pub root-size : (inode_at block 0).size ≡ 0
unfolding inode_at size_at
root-size = word-zero 4 (omega arith)

pub root-direct : (k : ℕ) → k < 12 → slice_index (inode_at block 0).direct k ≡ 0
unfolding inode_at direct_of
root-direct k h = get_or-map-range_with_len (λ j. word_at block (8 + 4 * j)) 0 12 k k 0 h (omega arith) ∙ word-zero (8 + 4 * k) (omega arith)

pub root-single : (inode_at block 0).single ≡ 0
unfolding inode_at
root-single = word-zero 56 (omega arith)

pub root-double : (inode_at block 0).double ≡ 0
unfolding inode_at
root-double = word-zero 60 (omega arith)
