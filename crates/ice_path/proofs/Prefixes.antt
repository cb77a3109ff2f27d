-- Paths compared name by name.
use Rattle.std.proofs.Common.{◌≡◌, ℕ, suc, ◌+◌, ◌-◌, ◌<◌, ◌≤◌, Bool, true, false, List, [], ◌∷◌, ◌++◌, length, take, drop, get_or, sym, refl, ap, ◌∙◌, arith, drop-cons}
use Rattle.std.specs.Prelude.{◌&&◌}
use Rattle.std.proofs.lemmas.List.{take_more, get_or-drop, length-drop}
use Rattle.tree_spec.specs.Routes.{is_prefix, is_same_name}
use Rattle.tree_spec.proofs.Trees.{same_name}

abbrev Names : Type 0
Names = List (List ℕ)

-- a path is no prefix of a shorter one
longer : (p q : Names) → length q < length p → false ≡ is_prefix p q
longer [] q h = absurd (omega arith)
longer (c ∷ p) [] h = refl
longer (c ∷ p) (d ∷ q) h = both (is_same_name c d) (is_prefix p q) (longer p q (omega arith))
  where
    both : (a b : Bool) → false ≡ b → false ≡ (a && b)
    both true b e = e
    both false b e = refl

at_place : (p : Names) (i : ℕ) → i < length p → drop i p ≡ get_or p i [] ∷ drop (i + 1) p
at_place p i h = drop-cons p i [] h ∙ ap (λ k. get_or p i [] ∷ drop k p) (suc_is i)
  where
    suc_is : (i : ℕ) → suc i ≡ i + 1
    suc_is i = omega arith

cut : (p q : Names) (i : ℕ) → i < length p → i < length q
    → is_prefix (drop i p) (drop i q) ≡ (is_same_name (get_or p i []) (get_or q i []) && is_prefix (drop (i + 1) p) (drop (i + 1) q))
cut p q i h k = ap (λ x. is_prefix x (drop i q)) (at_place p i h) ∙ ap (λ x. is_prefix (get_or p i [] ∷ drop (i + 1) p) x) (at_place q i k)

-- one name on
step : (p q : Names) (i : ℕ) → i < length p → i < length q → is_same_name (get_or p i []) (get_or q i []) ≡ true
    → is_prefix (drop i p) (drop i q) ≡ is_prefix p q → is_prefix (drop (i + 1) p) (drop (i + 1) q) ≡ is_prefix p q
step p q i h k same is = sym (cut p q i h k ∙ ap (λ b. b && is_prefix (drop (i + 1) p) (drop (i + 1) q)) same) ∙ is

-- a name that differs
differs : (p q : Names) (i : ℕ) → i < length p → i < length q → is_same_name (get_or p i []) (get_or q i []) ≡ false
    → is_prefix (drop i p) (drop i q) ≡ is_prefix p q → false ≡ is_prefix p q
differs p q i h k other is = sym (sym is ∙ cut p q i h k ∙ ap (λ b. b && is_prefix (drop (i + 1) p) (drop (i + 1) q)) other)

-- the names from `depth` on begin those of the other path, as far as those from i on do
abbrev pub BeginsFrom : Names → Names → ℕ → ℕ → Type 0
BeginsFrom p q depth i = is_prefix (drop (i - depth) (drop depth p)) (drop (i - depth) (drop depth q)) ≡ is_prefix (drop depth p) (drop depth q)

module _ (p q : Names) (depth : ℕ) where
  pub begins-longer : depth ≤ length q → length q < length p → false ≡ is_prefix (drop depth p) (drop depth q)
  begins-longer h l = longer (drop depth p) (drop depth q) (omega (arith, length-drop depth p, length-drop depth q))

  module _ (i : ℕ) (from : depth ≤ i) (in_p : i < length p) (in_q : i < length q) where
    here : (x : Names) → get_or (drop depth x) (i - depth) [] ≡ get_or x i []
    here x = let at : depth + (i - depth) ≡ i = omega arith in get_or-drop depth x (i - depth) [] ∙ ap (λ n. get_or x n []) at

    same-here : (b : Bool) → is_same_name (get_or p i []) (get_or q i []) ≡ b
        → is_same_name (get_or (drop depth p) (i - depth) []) (get_or (drop depth q) (i - depth) []) ≡ b
    same-here b e = (λ z. is_same_name (here p z) (here q z)) ∙ e

    pub begins-step : is_same_name (get_or p i []) (get_or q i []) ≡ true → BeginsFrom p q depth i → BeginsFrom p q depth (i + 1)
    begins-step e is =
        let one : i + 1 - depth ≡ (i - depth) + 1 = omega arith in
        ap (λ n. is_prefix (drop n (drop depth p)) (drop n (drop depth q))) one
        ∙ step (drop depth p) (drop depth q) (i - depth) (omega (arith, length-drop depth p)) (omega (arith, length-drop depth q)) (same-here true e) is

    pub begins-differs : is_same_name (get_or p i []) (get_or q i []) ≡ false → BeginsFrom p q depth i → false ≡ is_prefix (drop depth p) (drop depth q)
    begins-differs e is =
        differs (drop depth p) (drop depth q) (i - depth) (omega (arith, length-drop depth p)) (omega (arith, length-drop depth q)) (same-here false e) is

-- the names from `depth` on up to k and name k
pub names-next : (path : List (List ℕ)) (depth k : ℕ) (name : List ℕ) → depth ≤ k → k < length path → name ≡ get_or path k []
    → take (k + 1 - depth) (drop depth path) ≡ take (k - depth) (drop depth path) ++ name ∷ []
names-next path depth k name h below is =
    let long = length-drop depth path in
    let one : k + 1 - depth ≡ (k - depth) + 1 = omega arith in
    let at : depth + (k - depth) ≡ k = omega arith in
    ap (λ n. take n (drop depth path)) one
    ∙ take_more (drop depth path) (k - depth) [] (omega arith)
    ∙ ap (λ c. take (k - depth) (drop depth path) ++ c ∷ []) (get_or-drop depth path (k - depth) [] ∙ ap (λ n. get_or path n []) at ∙ sym is)

-- two paths go the same way as far as their names are the same
pub same-none : (p q : Names) (depth : ℕ) → take (depth - depth) (drop depth p) ≡ take (depth - depth) (drop depth q)
same-none p q depth = let none : depth - depth ≡ 0 = omega arith in ap (λ n. take n (drop depth p)) none ∙ sym (ap (λ n. take n (drop depth q)) none)

pub same-next : (p q : Names) (depth k : ℕ) → depth ≤ k → k < length p → k < length q → is_same_name (get_or p k []) (get_or q k []) ≡ true
    → take (k - depth) (drop depth p) ≡ take (k - depth) (drop depth q) → take (k + 1 - depth) (drop depth p) ≡ take (k + 1 - depth) (drop depth q)
same-next p q depth k from h l same is =
    names-next p depth k (get_or p k []) from h refl
    ∙ ap (λ (ns : Names). ns ++ get_or p k [] ∷ []) is
    ∙ ap (λ (c : List ℕ). take (k - depth) (drop depth q) ++ c ∷ []) (same_name (get_or p k []) (get_or q k []) same)
    ∙ sym (names-next q depth k (get_or q k []) from l refl)
