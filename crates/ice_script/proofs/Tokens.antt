-- The tokens of a line.
use Rattle.std.proofs.Common.{◌≡◌, ℕ, ◌+◌, ◌<◌, ◌≤◌, Bool, true, false, not, List, [], ◌∷◌, length, take, drop, get_or, cond, refl, arith}
use Rattle.std.specs.Prelude.{Option, Some, None, nat_lt}
use Rattle.std.specs.List.{position, position_or_len, slice_split, onto_first}
use Rattle.std.proofs.lemmas.List.Sums.{prefix_len_passes}
use Rattle.std.proofs.lemmas.List.Splits.{slice_split_first, slice_split_none}
use Rattle.std.proofs.lemmas.Bool.Decides.{nat_tests}
use Rattle.std.proofs.Common.{sym}
use Rattle.tree_spec.specs.Why.{Args}
use Rattle.tree_spec.specs.Lines.{Bad}
use Rattle.ice_script.specs.Grammar.{tokens, is_blank, one_token, two_tokens, three_tokens, cubes_of}

at : (n len i : ℕ) → cond (nat_lt n len) (Some n) None ≡ Some i → (n ≡ i) × (n < len)
at n len i h = (elim (nat_lt n len) as (λ y. nat_lt n len ≡ y → cond y (Some n) None ≡ Some i → (n ≡ i) × (n < len)) [
  | true ↦ λ t e. (cc, grind (arith, nat_tests))
  | false ↦ λ t e. cc
]) refl h

nowhere : (n len : ℕ) → cond (nat_lt n len) (Some n) None ≡ None → len ≤ n
nowhere n len h = (elim (nat_lt n len) as (λ y. nat_lt n len ≡ y → cond y (Some n) None ≡ None → len ≤ n) [
  | true ↦ λ t e. cc
  | false ↦ λ t e. grind (arith, nat_tests)
]) refl h

unnot : (b : Bool) → not b ≡ true → b ≡ false
unnot true h = cc
unnot false h = refl

le_trans : {k m n : ℕ} → k < m → m ≤ n → k < n
le_trans a b = omega arith

-- a text without a blank is one token
pub tokens_none : (text : List ℕ) → position is_blank text ≡ None → tokens text ≡ text ∷ []
unfolding tokens
tokens_none text h = slice_split_none is_blank text
    (λ k d lt. unnot (is_blank (get_or text k d))
    (prefix_len_passes (λ b. not (is_blank b)) text k d (le_trans lt (nowhere (position_or_len is_blank text) (length text) h))))

-- the first blank ends the first token
pub tokens_at : (text : List ℕ) (i : ℕ) → position is_blank text ≡ Some i → tokens text ≡ take i text ∷ tokens (drop (i + 1) text)
unfolding tokens
tokens_at text i h =
    let found = at (position_or_len is_blank text) (length text) i h in
    rw (sym found.0) (slice_split_first is_blank text 0 found.1)

-- what no list of some tokens has, the tokens of a text don't have either, of which there is one at least
module _ {A : Type 0} (have : List (List ℕ) → Option A) (lacks : (token : List ℕ) (more : List (List ℕ)) → have (token ∷ more) ≡ None) where
  with_first : (ts : List (List ℕ)) (x : ℕ) → have (onto_first x ts) ≡ None
  with_first [] x = lacks _ _
  with_first (t ∷ ts) x = lacks _ _

  some_token : (text : List ℕ) → have (tokens text) ≡ None
  unfolding tokens
  some_token [] = lacks _ _
  some_token (x ∷ xs) = (elim (is_blank x) as (λ y. have (cond y ([] ∷ slice_split is_blank xs) (onto_first x (slice_split is_blank xs))) ≡ None) [
    | true ↦ lacks _ _
    | false ↦ with_first (slice_split is_blank xs) x
  ])

-- a token behind a blank is one too many
pub one_more : (a text : List ℕ) → one_token (a ∷ tokens text) ≡ None
one_more a text = some_token (λ ts. one_token (a ∷ ts)) (λ token more. refl) text

-- and so is one behind two
pub two_more : (a b text : List ℕ) → two_tokens (a ∷ b ∷ tokens text) ≡ None
two_more a b text = some_token (λ ts. two_tokens (a ∷ b ∷ ts)) (λ token more. refl) text

-- and so is one behind three
pub three_more : (a b c text : List ℕ) → three_tokens (a ∷ b ∷ c ∷ tokens text) ≡ None
three_more a b c text = some_token (λ ts. three_tokens (a ∷ b ∷ c ∷ ts)) (λ token more. refl) text

-- and so is one behind `cubes`
pub cubes_more : (text : List ℕ) → cubes_of (tokens text) ≡ Bad Args
unfolding tokens
cubes_more [] = refl
cubes_more (x ∷ xs) = (elim (is_blank x) as (λ y. cubes_of (cond y ([] ∷ slice_split is_blank xs) (onto_first x (slice_split is_blank xs))) ≡ Bad Args) [
  | true ↦ refl
  | false ↦ first_of (slice_split is_blank xs)
])
  where
    first_of : (ts : List (List ℕ)) → cubes_of (onto_first x ts) ≡ Bad Args
    first_of [] = refl
    first_of (t ∷ ts) = refl
