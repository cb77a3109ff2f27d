-- The bytes of the rows of the cube table.
use Rattle.std.specs.Prelude.{◌≡◌, ◌≢◌, ◌≤◌, ◌<◌, ◌+◌, ◌*◌, ◌/◌, ◌%◌, ℕ, cond, List, [], length, take, drop, slice_index, Option, Some, None}
use Rattle.tree_spec.specs.Names.{text_of}
use Rattle.ice_tables.specs.Tables.{Row, row_byte, mark_at, length_at, row_in, IsCubeText}
use Rattle.ice_names.specs.Names.{NamesView, row_at}

-- what the format writes as zero in the row of slot s: the bytes 2 to 7, those behind the text, and all of a free row
pub record RowZeros (m : ℕ → List ℕ) (s : ℕ) : Type 0 where
  pub head : (k : ℕ) → 2 ≤ k → k < 8 → row_byte m s k ≡ 0
  pub tail : (k : ℕ) → 8 + length_at m s ≤ k → k < 256 → row_byte m s k ≡ 0
  pub free : mark_at m s ≡ 0 → length_at m s ≡ 0

-- the 256 bytes of the row of slot s
abbrev pub row_bytes : (ℕ → List ℕ) → ℕ → List ℕ
row_bytes m s = take 256 (drop (256 * (s % 4)) (m (11 + s / 4)))

-- the block of slot s has 1,024 bytes
abbrev pub IsWhole : (ℕ → List ℕ) → ℕ → Type 0
IsWhole m s = length (m (11 + s / 4)) ≡ 1024

-- the byte of a row's mark
abbrev pub mark_byte : Option Row → ℕ
mark_byte None = 0
mark_byte (Some r) = cond r.offline 2 1

-- the text of a row's path
abbrev pub text_in : Option Row → List ℕ
text_in None = []
text_in (Some r) = text_of r.path

-- 256 bytes as the format writes them for a row
pub record IsRowBytes (row : Option Row) (bytes : List ℕ) : Type 0 where
  pub long : length bytes ≡ 256
  pub mark : slice_index bytes 0 ≡ mark_byte row
  pub size : slice_index bytes 1 ≡ length (text_in row)
  pub text : take (length (text_in row)) (drop 8 bytes) ≡ text_in row
  pub head : (k : ℕ) → 2 ≤ k → k < 8 → slice_index bytes k ≡ 0
  pub tail : (k : ℕ) → 8 + length (text_in row) ≤ k → slice_index bytes k ≡ 0

-- the row of slot s has a proper mark, and the text of a cube's path where it isn't free
pub record IsRowSound (m : ℕ → List ℕ) (s : ℕ) : Type 0 where
  pub mark : mark_at m s ≤ 2
  pub text : mark_at m s ≢ 0 → IsCubeText m s

-- the slots below n are read into the table, whose other slots are free
pub record IsReadTo (m : ℕ → List ℕ) (n : ℕ) (v : NamesView) : Type 0 where
  pub rows : (s : ℕ) → s < n → row_at v s ≡ row_in v.slots m s
  pub sound : (s : ℕ) → s < n → s < v.slots → IsRowSound m s
  pub free : (s : ℕ) → n ≤ s → row_at v s ≡ None
  pub no_more : (s : ℕ) → s < n → v.slots ≤ s → mark_at m s ≡ 0
