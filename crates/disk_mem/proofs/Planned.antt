-- Whether a call is to fail.
use Rattle.std.proofs.Common.{◌≡◌, ◌<◌, ℕ, zero, suc, true, nat_eq, List, [], ◌∷◌, length, slice_index_or, inl, inr, arith}
use Rattle.std.specs.List.{list_any}
use Rattle.std.specs.Prelude.{Contains}
use Rattle.std.proofs.lemmas.Bool.{false≢true, cases_eq}
use Rattle.std.proofs.lemmas.Bool.Decides.{nat_tests}

pub contains_any : (xs : List ℕ) (x : ℕ) → list_any (λ y. nat_eq y x) xs ≡ true → Contains xs x
contains_any [] x is = absurd (false≢true is)
contains_any (y ∷ xs) x is = elim (cases_eq y x) as (λ _. Contains (y ∷ xs) x) [
  | inl same ↦ (0, omega arith, same)
  | inr other ↦
      let rest : list_any (λ z. nat_eq z x) xs ≡ true = grind (arith, nat_tests, is) in let there = contains_any xs x rest in
      (suc there.0, omega arith, there.2)
]

pub any_contains : (xs : List ℕ) (x k : ℕ) → k < length xs → slice_index_or xs k x ≡ x → list_any (λ y. nat_eq y x) xs ≡ true
any_contains [] x k less is = absurd (omega arith)
any_contains (y ∷ xs) x zero less is = grind (arith, nat_tests)
any_contains (y ∷ xs) x (suc k) less is =
    let rest = any_contains xs x k (omega arith) is in elim (cases_eq y x) as (λ _. list_any (λ z. nat_eq z x) (y ∷ xs) ≡ true) [
      | inl same ↦ grind (arith, nat_tests)
      | inr other ↦ grind (arith, nat_tests)
    ]
