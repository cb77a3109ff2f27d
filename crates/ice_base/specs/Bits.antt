-- Blocks as lists of bits, and sets of numbers.
use Rattle.std.specs.Prelude.{◌≡◌, ◌<◌, ℕ, ◌/◌, ◌%◌, Bool, true, false, cond, ◌==◌, List, map, slice_index}
use Rattle.std.specs.Int.{bit_at}
use Rattle.std.specs.List.{count_by, range_with_len}

-- whether bit k of a block is set: bit `k mod 8`, counted from the least, of byte `k / 8`
unfoldable pub bit_of : List ℕ → ℕ → Bool
bit_of block k = bit_at (slice_index block (k / 8)) (k % 8) == 1

-- a set that got one number more
abbrev pub Inserts : (ℕ → Bool) → ℕ → (ℕ → Bool) → Type 0
Inserts old a new = (b : ℕ) → new b ≡ cond (b == a) true (old b)

-- a set that lost one number
abbrev pub Deletes : (ℕ → Bool) → ℕ → (ℕ → Bool) → Type 0
Deletes old a new = (b : ℕ) → new b ≡ cond (b == a) false (old b)

-- the least number that is not in the set
abbrev pub IsLeast : (ℕ → Bool) → ℕ → Type 0
IsLeast set a = (set a ≡ false) × ((b : ℕ) → b < a → set b ≡ true)

-- how many numbers below n are in the set
unfoldable pub count_below : (ℕ → Bool) → ℕ → ℕ
count_below set n = count_by (λ bit. bit) (map set (range_with_len 0 n))
