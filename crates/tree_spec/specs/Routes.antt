-- Paths as prefixes of others, and the cube that a path belongs to.
use Rattle.std.specs.Prelude.{ℕ, zero, suc, ◌+◌, ◌<◌, ◌≤◌, Bool, true, false, ◌&&◌, List, [], ◌∷◌, length, Option, None, Some, nat_lt, if◌then◌else◌}
use Rattle.std.specs.Ordering.{eq_by_cmp}
use Rattle.tree_spec.specs.Trees.{by_bytes}

-- whether two names have the same bytes
abbrev pub is_same_name : List ℕ → List ℕ → Bool
is_same_name c d = eq_by_cmp by_bytes c d

-- whether the names of the first path begin the second
abbrev pub is_prefix : List (List ℕ) → List (List ℕ) → Bool
is_prefix [] q = true
is_prefix (c ∷ p) [] = false
is_prefix (c ∷ p) (d ∷ q) = is_same_name c d && is_prefix p q

-- whether two paths have the same names
abbrev pub is_same_path : List (List ℕ) → List (List ℕ) → Bool
is_same_path p q = is_prefix p q && is_prefix q p

-- one more than the number of names of a slot's path where it is a prefix of p, and else 0
abbrev pub caught : List (List ℕ) → Option (List (List ℕ)) → ℕ
caught p None = 0
caught p (Some q) = if is_prefix q p then length q + 1 else 0

-- the same of a slot's number, and 0 where there is no slot
abbrev pub caught_by : (ℕ → Option (List (List ℕ))) → List (List ℕ) → Option ℕ → ℕ
caught_by paths p None = 0
caught_by paths p (Some s) = caught p (paths s)

-- the slot below n whose path is the longest prefix of p, and None where no path is a prefix
unfoldable pub route : (ℕ → Option (List (List ℕ))) → ℕ → List (List ℕ) → Option ℕ
route paths zero p = None
route paths (suc n) p = if nat_lt (caught_by paths p (route paths n p)) (caught p (paths n)) then Some n else route paths n p

-- the path of the slot s is a prefix of p, and no slot below n has a longer one
pub record IsRoute (paths : ℕ → Option (List (List ℕ))) (n : ℕ) (p : List (List ℕ)) (s : ℕ) : Type 0 where
  pub slot : s < n
  pub catches : 0 < caught p (paths s)
  pub longest : (k : ℕ) → k < n → caught p (paths k) ≤ caught p (paths s)
