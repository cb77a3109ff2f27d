-- Numbers in a block, little endian.
use Rattle.std.specs.Prelude.{◌≡◌, ◌≤◌, ◌<◌, ◌⊎◌, ℕ, ◌+◌, ◌*◌, List, slice_index}

-- the number in the four bytes at a place
unfoldable pub word_at : List ℕ → ℕ → ℕ
word_at block at = slice_index block at + 256 * (slice_index block (at + 1) + 256 * (slice_index block (at + 2) + 256 * slice_index block (at + 3)))

-- the number in the eight bytes at a place
abbrev pub long_at : List ℕ → ℕ → ℕ
long_at block at = word_at block at + 4294967296 * word_at block (at + 4)

-- the same block but for the n bytes at a place
abbrev pub SameBeside : ℕ → ℕ → List ℕ → List ℕ → Type 0
SameBeside at n old new = (k : ℕ) → (k < at) ⊎ (at + n ≤ k) → slice_index new k ≡ slice_index old k

-- the same block but for a number of four bytes
pub record WordSet (old : List ℕ) (at x : ℕ) (new : List ℕ) : Type 0 where
  pub value : word_at new at ≡ x
  pub others : SameBeside at 4 old new

-- the same block but for a number of eight bytes
pub record LongSet (old : List ℕ) (at x : ℕ) (new : List ℕ) : Type 0 where
  pub value : long_at new at ≡ x
  pub others : SameBeside at 8 old new
