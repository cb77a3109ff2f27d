-- The route of a path is the slot of the longest prefix.
use Rattle.std.proofs.Common.{◌≡◌, ℕ, zero, suc, ◌+◌, ◌<◌, ◌≤◌, Bool, true, false, cond, T, List, [], ◌∷◌, length, Some, None, Option, sym, refl, ap, ◌∙◌, subst, arith}
use Rattle.std.specs.Prelude.{nat_lt, ◌&&◌}
use Rattle.std.proofs.lemmas.Bool.Decides.{nat_tests}
use borrow.Author.Count.{below_more}
use Rattle.tree_spec.specs.Routes.{is_prefix, caught, caught_by, route, IsRoute}
use Rattle.tree_spec.proofs.Trees.{same_name}

abbrev Paths : Type 0
Paths = ℕ → Option (List (List ℕ))

-- what the route of a path says of the slots below n
abbrev pub Routed : Paths → ℕ → List (List ℕ) → Option ℕ → Type 0
Routed paths n p None = (k : ℕ) → k < n → caught p (paths k) ≡ 0
Routed paths n p (Some s) = IsRoute paths n p s

below : (a b : ℕ) → nat_lt a b ≡ true → a < b
below a b h = grind (arith, nat_tests)

not_below : (a b : ℕ) → nat_lt a b ≡ false → b ≤ a
not_below a b h = grind (arith, nat_tests)

none : (a : ℕ) → a ≤ 0 → a ≡ 0
none a h = omega arith

at_most_none : (a b : ℕ) → a ≡ 0 → a ≤ b
at_most_none a b h = omega arith

upto : (P : ℕ → Type 0) (n : ℕ) → ((k : ℕ) → k < n → P k) → P n → (k : ℕ) → k < suc n → P k
upto P n h here k lt = below_more P n h here k (omega arith)

here_wins : (paths : Paths) (n : ℕ) (p : List (List ℕ)) (r : Option ℕ) → caught_by paths p r < caught p (paths n) → Routed paths n p r
    → IsRoute paths (suc n) p n
here_wins paths n p None lt h = record {
  slot = omega arith;
  catches = omega arith;
  longest = upto (λ k. caught p (paths k) ≤ caught p (paths n)) n (λ k m. at_most_none _ _ (h k m)) (omega arith);
}
here_wins paths n p (Some s) lt h = record {
  slot = omega arith;
  catches = omega arith;
  longest = upto (λ k. caught p (paths k) ≤ caught p (paths n)) n (λ k m. under _ _ _ (h.longest k m) lt) (omega arith);
}
  where
    under : (a b c : ℕ) → a ≤ b → b < c → a ≤ c
    under a b c h k = omega arith

stays : (paths : Paths) (n : ℕ) (p : List (List ℕ)) (r : Option ℕ) → caught p (paths n) ≤ caught_by paths p r → Routed paths n p r → Routed paths (suc n) p r
stays paths n p None le h = upto (λ k. caught p (paths k) ≡ 0) n h (none _ le)
stays paths n p (Some s) le h =
    record { slot = later _ _ h.slot; catches = h.catches; longest = upto (λ k. caught p (paths k) ≤ caught p (paths s)) n h.longest le }
  where
    later : (a b : ℕ) → a < b → a < suc b
    later a b h = omega arith

-- the route is the slot of the longest prefix, and None where no path is a prefix
pub route-Routed : (paths : Paths) (n : ℕ) (p : List (List ℕ)) → Routed paths n p (route paths n p)
unfolding route
route-Routed paths zero p = λ k h. absurd (nothing k h)
  where
    nothing : (k : ℕ) → k < 0 → ⊥
    nothing k h = omega arith
route-Routed paths (suc n) p =
    elim (nat_lt (caught_by paths p (route paths n p)) (caught p (paths n))) as (λ b. nat_lt (caught_by paths p (route paths n p))
    (caught p (paths n)) ≡ b → Routed paths (suc n) p (cond b (Some n) (route paths n p))) [
      | true ↦ λ e. here_wins paths n p (route paths n p) (below _ _ e) (route-Routed paths n p)
      | false ↦ λ e. stays paths n p (route paths n p) (not_below _ _ e) (route-Routed paths n p)
    ] refl

-- two prefixes of one path with equally many names are equal
pub same_prefix : (q r p : List (List ℕ)) → is_prefix q p ≡ true → is_prefix r p ≡ true → length q ≡ length r → q ≡ r
same_prefix [] [] p h k e = refl
same_prefix [] (d ∷ r) p h k e = absurd (omega arith)
same_prefix (c ∷ q) [] p h k e = absurd (omega arith)
same_prefix (c ∷ q) (d ∷ r) [] h k e = absurd (subst T (sym h) tt)
same_prefix (c ∷ q) (d ∷ r) (x ∷ p) h k e =
    let name = same_name c x (first _ _ h) ∙ sym (same_name d x (first _ _ k)) in
    let rest = same_prefix q r p (second _ _ h) (second _ _ k) (omega arith) in
    λ i. name i ∷ rest i
  where
    first : (a b : Bool) → (a && b) ≡ true → a ≡ true
    first true b h = refl
    first false b h = absurd (subst T (sym h) tt)

    second : (a b : Bool) → (a && b) ≡ true → b ≡ true
    second true b h = h
    second false b h = absurd (subst T (sym h) tt)

caught_prefix : (p q : List (List ℕ)) → 0 < caught p (Some q) → (is_prefix q p ≡ true) × (caught p (Some q) ≡ length q + 1)
caught_prefix p q h =
    elim (is_prefix q p) as (λ b. 0 < cond b (length q + 1) 0 → (b ≡ true) × (cond b (length q + 1) 0 ≡ length q + 1)) [
      | true ↦ λ h. (refl, refl)
      | false ↦ λ h. absurd (nothing h)
    ] h
  where
    nothing : 0 < 0 → ⊥
    nothing h = omega arith

-- two longest prefixes are the same path, so that there is one slot where the paths differ
pub IsRoute-same : (paths : Paths) (n : ℕ) (p q r : List (List ℕ)) (s k : ℕ) → IsRoute paths n p s → IsRoute paths n p k → paths s ≡ Some q
    → paths k ≡ Some r → q ≡ r
IsRoute-same paths n p q r s k a b e g =
    let x = caught_prefix p q (subst (λ o. 0 < caught p o) e a.catches) in
    let y = caught_prefix p r (subst (λ o. 0 < caught p o) g b.catches) in
    same_prefix q r p x.0 y.0 (lengths (a.longest k b.slot) (b.longest s a.slot) (ap (caught p) e ∙ x.1) (ap (caught p) g ∙ y.1))
  where
    lengths : {u v l m : ℕ} → v ≤ u → u ≤ v → u ≡ l + 1 → v ≡ m + 1 → l ≡ m
    lengths h k i j = omega arith
