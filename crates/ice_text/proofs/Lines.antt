-- The tokens of closing lines.
use Rattle.std.proofs.Common.{◌≡◌, ℕ, true, false, List, [], ◌∷◌, cond, refl}
use Rattle.std.specs.Prelude.{None}
use Rattle.std.specs.List.{slice_split, onto_first}
use Rattle.ice_script.specs.Grammar.{tokens, is_blank}
use Rattle.ice_text.specs.Closing.{is_value, refusal_of}

-- what holds of each list of some tokens holds of the tokens of a text
module _ (P : List (List ℕ) → Type 0) (p : (token : List ℕ) (more : List (List ℕ)) → P (token ∷ more)) where
  with_first : (ts : List (List ℕ)) (x : ℕ) → P (onto_first x ts)
  with_first [] x = p _ _
  with_first (t ∷ ts) x = p _ _

  some_token : (text : List ℕ) → P (tokens text)
  unfolding tokens
  some_token [] = p _ _
  some_token (x ∷ xs) = (elim (is_blank x) as (λ y. P (cond y ([] ∷ slice_split is_blank xs) (onto_first x (slice_split is_blank xs)))) [
    | true ↦ p _ _
    | false ↦ with_first (slice_split is_blank xs) x
  ])

-- four tokens are no value
pub value_more : (a b c text : List ℕ) → is_value (a ∷ b ∷ c ∷ tokens text) ≡ false
value_more a b c text = some_token (λ ts. is_value (a ∷ b ∷ c ∷ ts) ≡ false) (λ token more. refl) text

-- three tokens are no refusal
pub refusal_more : (a b text : List ℕ) → refusal_of (a ∷ b ∷ tokens text) ≡ None
refusal_more a b text = some_token (λ ts. refusal_of (a ∷ b ∷ ts) ≡ None) (λ token more. refl) text
