-- What a crash leaves in a loose block.
use Rattle.std.specs.Prelude.{◌≡◌, ◌+◌, ◌*◌, ◌%◌, ◌^◌, ◌<◌, ℕ, List, replicate, slice_index_or}

-- byte j of block `at` for a fill of 4 or more
abbrev pub pattern : ℕ → ℕ → ℕ → ℕ
pattern fill at j = (31 * fill + 7 * at + 13 * j) % 2 ^ 64 % 256

-- the bytes of a loose block for each fill
pub record Filled (fill at : ℕ) (settled newest bytes : List ℕ) : Type 0 where
  pub oldest : fill ≡ 0 → bytes ≡ settled
  pub newest_bytes : fill ≡ 1 → bytes ≡ newest
  pub zeros : fill ≡ 2 → bytes ≡ replicate 1024 0
  pub ones : fill ≡ 3 → bytes ≡ replicate 1024 255
  pub other : 3 < fill → (j : ℕ) → j < 1024 → slice_index_or bytes j 0 ≡ pattern fill at j
