-- What holds of each item that a loop has passed.
use Rattle.std.proofs.Common.{◌≡◌, ◌⊎◌, ⊎_elim, ℕ, ◌+◌, ◌<◌, List, length, get_or, sym, subst, arith, ◌∙◌}
use Rattle.std.proofs.lemmas.List.{get_or_default}

less_or_same : (k i : ℕ) → k < i + 1 → (k < i) ⊎ (k ≡ i)
less_or_same k i lt = grind arith

-- what holds of each item before one, and of that one, holds of each up to it
pub all_below_more : {X : Type 0} (P : X → Type 0) (xs : List X) (i : ℕ) (x : X) → i < length xs → x ≡ get_or xs i x → P x
    → ((k : ℕ) (d : X) → k < i → P (get_or xs k d)) → (k : ℕ) (d : X) → k < i + 1 → P (get_or xs k d)
all_below_more P xs i x less is here before k d lt = ⊎_elim
    (λ old. before k d old)
    (λ new. subst (λ j. P (get_or xs j d)) (sym new) (subst P (is ∙ get_or_default xs i x d less) here))
    (less_or_same k i lt)
