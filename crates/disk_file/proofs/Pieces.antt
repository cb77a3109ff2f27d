-- One piece more of the bytes that a block's are.
use Rattle.std.proofs.Common.{◌≡◌, ◌⊎◌, ◌+◌, ◌-◌, ◌≤◌, ◌<◌, ℕ, List, get_or, inl, inr, ◌∙◌, subst, arith}
use Rattle.std.proofs.lemmas.Bool.{cases_lt}

-- what was written so far stands, and the piece after it
pub written_more : (old new : ℕ → ℕ) (base done n : ℕ) (bytes : List ℕ)
    → ((j : ℕ) → j < done → old (base + j) ≡ get_or bytes j 0)
    → ((j : ℕ) → j < n → new (base + (done + j)) ≡ get_or bytes (done + j) 0)
    → ((k : ℕ) → (k < base + done) ⊎ (base + done + n ≤ k) → new k ≡ old k)
    → (j : ℕ) → j < done + n → new (base + j) ≡ get_or bytes j 0
written_more old new base done n bytes before here others j less = elim (cases_lt j done) [
  | inl low ↦ others (base + j) (inl (omega arith)) ∙ before j low
  | inr high ↦ let from : done + (j - done) ≡ j = omega arith in subst (λ i. new (base + i) ≡ get_or bytes i 0) from (here (j - done) (omega arith))
]
