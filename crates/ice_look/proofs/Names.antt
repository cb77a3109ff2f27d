-- Names of paths, one after the other, and what the form says of them.
use Rattle.std.proofs.Common.{◌≡◌, ℕ, ◌+◌, ◌-◌, ◌<◌, ◌≤◌, Bool, true, false, List, length, take, drop, get_or, sym, ap, ◌∙◌, arith, add-one, drop-cons}
use Rattle.std.specs.Prelude.{◌||◌, nat_lt}
use Rattle.std.specs.List.{list_any}
use Rattle.std.proofs.lemmas.Bool.Decides.{nat_tests}
use Rattle.std.proofs.lemmas.List.{take_all, length-drop}
use Rattle.tree_spec.specs.Costs.{form_of}

-- one of the names from k on is meant by the test: name k, or one behind it
any_from : (test : List ℕ → Bool) (xs : List (List ℕ)) (k : ℕ) (d : List ℕ) → k < length xs
    → list_any test (drop k xs) ≡ (test (get_or xs k d) || list_any test (drop (k + 1) xs))
any_from test xs k d h = rw (add-one, drop-cons xs k d)

pub any-here : (test : List ℕ → Bool) (xs : List (List ℕ)) (k : ℕ) (d : List ℕ) → k < length xs → test (get_or xs k d) ≡ true → list_any test (drop k xs) ≡ true
any-here test xs k d h is = any_from test xs k d h ∙ ap (λ b. b || list_any test (drop (k + 1) xs)) is

pub any-later : (test : List ℕ → Bool) (xs : List (List ℕ)) (k : ℕ) (d : List ℕ) → k < length xs → test (get_or xs k d) ≡ false
    → list_any test (drop k xs) ≡ list_any test (drop (k + 1) xs)
any-later test xs k d h is = any_from test xs k d h ∙ ap (λ b. b || list_any test (drop (k + 1) xs)) is

-- the form's longest name
pub name-of : (version name : ℕ) → version ≡ 1 → name ≡ 59 → (form_of version).longest_name ≡ name
name-of version name v n = ap (λ x. (form_of x).longest_name) v ∙ sym n

pub is_long : (version name size long : ℕ) → version ≡ 1 → name ≡ 59 → size ≡ long → name < size → nat_lt (form_of version).longest_name long ≡ true
is_long version name size long v n s h = let e = name-of version name v n in grind (arith, nat_tests)

pub is_short : (version name size long : ℕ) → version ≡ 1 → name ≡ 59 → size ≡ long → size ≤ name → nat_lt (form_of version).longest_name long ≡ false
is_short version name size long v n s h = let e = name-of version name v n in grind (arith, nat_tests)

-- all the names from `depth` on
pub names-all : (path : List (List ℕ)) (depth end : ℕ) → end ≡ length path → take (end - depth) (drop depth path) ≡ drop depth path
names-all path depth end is =
    ap (λ n. take (n - depth) (drop depth path)) is ∙ take_all (length path - depth) (drop depth path) (omega (arith, length-drop depth path))
