-- Homes, targets and the journal's blocks as sets of blocks of a lot.
use Rattle.std.proofs.Common.{◌≡◌, ℕ, zero, suc, [], ◌∷◌, ◌+◌, ◌*◌, ◌<◌, ◌≤◌, true, List, length, slice_index, nat_le, refl, arith}
use Rattle.std.specs.List.{list_all}
use Rattle.std.proofs.lemmas.Bool.Decides.{nat_tests}

all_below : (base n : ℕ) (groups : List ℕ) → ((i : ℕ) → i < length groups → base + 256 * slice_index groups i + 256 ≤ n)
    → list_all (λ g. nat_le (base + 256 * g + 256) n) groups ≡ true
all_below base n [] h = refl
all_below base n (g ∷ groups) h =
    let rest = all_below base n groups (λ i less. h (suc i) (omega (arith, less))) in
    let here : base + 256 * g + 256 ≤ n = h zero (omega arith) in
    grind (arith, nat_tests)
