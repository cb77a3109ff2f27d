-- Names in a fixed array.
use Rattle.std.specs.Prelude.{◌≡◌, ◌≢◌, ◌<◌, ℕ, List, [], length, take, map, min, slice_index_or}
use Rattle.ice_check.specs.declared.names.Kept.{Kept}

-- the name in a place of the array
abbrev pub kept_name : Kept → List ℕ
kept_name kept = take (min kept.len 123) kept.bytes

-- the names of the array
abbrev pub array_names : List Kept → List (List ℕ)
array_names kept = map kept_name kept

-- no two of the names are equal
pub record AllDiffer (names : List (List ℕ)) : Type 0 where
  pub apart : (i j : ℕ) → i < length names → j < length names → i ≢ j → slice_index_or names i [] ≢ slice_index_or names j []

-- two of the names are equal
pub record TwoAlike (names : List (List ℕ)) : Type 0 where
  pub one : ℕ
  pub other : ℕ
  pub below : one < other
  pub within : other < length names
  pub same : slice_index_or names one [] ≡ slice_index_or names other []
