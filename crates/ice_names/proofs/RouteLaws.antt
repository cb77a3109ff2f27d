-- The route of a path, slot by slot.
use Rattle.std.proofs.Common.{◌≡◌, ℕ, suc, ◌+◌, ◌<◌, ◌≤◌, Bool, true, false, cond, T, List, [], ◌∷◌, length, Option, Some, None, sym, refl, ap, ◌∙◌, subst, arith}
use Rattle.std.specs.Prelude.{nat_lt, ◌&&◌, IsSome, IfSome, MatchOption}
use Rattle.std.proofs.lemmas.Bool.Decides.{nat_tests}
use Rattle.tree_spec.specs.Routes.{is_prefix, is_same_name, caught, caught_by, route}
use Rattle.ice_tables.specs.Tables.{Row}
use Rattle.ice_names.specs.Names.{NamesView, Begins, Catches, row_at, path_of, path_at, slot_in, names_in, longer_one}

second : (a b : Bool) → (a && b) ≡ true → b ≡ true
second true b h = h
second false b h = absurd (subst T (sym h) tt)

prefix_few : (q p : List (List ℕ)) → is_prefix q p ≡ true → length q ≤ length p
prefix_few [] p h = omega arith
prefix_few (c ∷ q) [] h = absurd (subst T (sym h) tt)
prefix_few (c ∷ q) (d ∷ p) h = let rest = prefix_few q p (second (is_same_name c d) _ h) in omega (arith, rest)

live_row : (row : Option Row) (q : List (List ℕ)) → path_of row ≡ Some q → IsSome row
live_row None q e = absurd (cc e)
live_row (Some r) q e = refl

live_path : (row : Option Row) → IsSome row → IsSome (path_of row)
live_path None e = e
live_path (Some r) e = refl

catches_as : (o : Option (List (List ℕ))) (p : List (List ℕ)) (n : ℕ) → IsSome o → ((q : List (List ℕ)) → o ≡ Some q → n ≡ length q)
    → ((q : List (List ℕ)) → o ≡ Some q → is_prefix q p ≡ true) → caught p o ≡ n + 1
catches_as None p n live names prefix = absurd (cc live)
catches_as (Some q) p n live names prefix = ap (λ b. cond b (length q + 1) 0) (prefix q refl) ∙ ap (λ k. k + 1) (sym (names q refl))

-- what the row in a slot catches
pub row_catches : (v : NamesView) (p : List (List ℕ)) (s n : ℕ) → s < v.slots → Begins (row_at v s) p n → Catches v p s n
row_catches v p s n low b = record {
  low = low;
  live = live_row (row_at v s) b.path b.is;
  names = λ q is. b.names ∙ ap length (same q is);
  prefix = λ q is. ap (λ x. is_prefix x p) (sym (same q is)) ∙ b.prefix;
  few = let h = prefix_few b.path p b.prefix in omega (arith, h, b.names);
}
  where
    same : (q : List (List ℕ)) → path_at v s ≡ Some q → b.path ≡ q
    same q is = let e : Some b.path ≡ Some q = sym b.is ∙ is in cc e

module _ (v : NamesView) (p : List (List ℕ)) where
  abbrev paths : ℕ → Option (List (List ℕ))
  paths s = path_at v s

  -- what is answered is caught
  abbrev pub IsCaught : Option (ℕ × ℕ) → Type 0
  IsCaught best = IfSome best (λ (a : ℕ × ℕ). Catches v p a.0 a.1)

  caught_is : (best : Option (ℕ × ℕ)) → IsCaught best → caught_by paths p (slot_in best) ≡ names_in best
  caught_is None h = refl
  caught_is (Some a) h = catches_as (path_at v a.0) p a.1 (live_path (row_at v a.0) h.live) h.names h.prefix

  slot_chosen : (b : Bool) (i n : ℕ) (best : Option (ℕ × ℕ)) → slot_in (cond b (Some (i, n)) best) ≡ cond b (Some i) (slot_in best)
  slot_chosen true i n best = refl
  slot_chosen false i n best = refl

  never_less : (n m : ℕ) → m ≡ 0 → nat_lt n m ≡ false
  never_less n m e = grind (arith, nat_tests)

  -- the route as far as the slot i, and then that slot
  pub route_more : (i : ℕ) (best : Option (ℕ × ℕ)) (names : Option ℕ) → slot_in best ≡ route paths i p → IsCaught best
      → MatchOption names (caught p (paths i) ≡ 0) (λ n. caught p (paths i) ≡ n + 1)
      → slot_in (longer_one best i names) ≡ route paths (i + 1) p
  unfolding route
  route_more i best None is h c =
      is ∙ sym (ap (λ b. cond b (Some i) (route paths i p))
      (never_less (caught_by paths p (route paths i p)) (caught p (paths i)) c)) ∙ ap (λ k. route paths k p) (suc_is i)
    where
      suc_is : (i : ℕ) → suc i ≡ i + 1
      suc_is i = omega arith
  route_more i best (Some n) is h c =
      let a : names_in best ≡ caught_by paths p (route paths i p) = sym (caught_is best h) ∙ ap (caught_by paths p) is in
      let b : n + 1 ≡ caught p (paths i) = sym c in
      slot_chosen (nat_lt (names_in best) (n + 1)) i n best ∙ (λ z. cond (nat_lt (a z) (b z)) (Some i) (is z)) ∙ ap (λ k. route paths k p) (suc_is i)
    where
      suc_is : (i : ℕ) → suc i ≡ i + 1
      suc_is i = omega arith

  pub caught_more : (i : ℕ) (best : Option (ℕ × ℕ)) (names : Option ℕ) → i < v.slots → IsCaught best
      → IfSome names (Begins (row_at v i) p) → IsCaught (longer_one best i names)
  caught_more i best None low h b = h
  caught_more i best (Some n) low h b = by (nat_lt (names_in best) (n + 1))
    where
      by : (x : Bool) → IsCaught (cond x (Some (i, n)) best)
      by true = row_catches v p i n low b
      by false = h

  pub route_none : slot_in None ≡ route paths 0 p
  unfolding route
  route_none = refl

  -- the answer after a slot more
  pub step : (i : ℕ) (best answer : Option (ℕ × ℕ)) (names : Option ℕ) (row : Option Row) → i < v.slots → row ≡ row_at v i
      → answer ≡ longer_one best i names → slot_in best ≡ route paths i p → IsCaught best
      → MatchOption names (caught p (path_of row) ≡ 0) (λ n. caught p (path_of row) ≡ n + 1) → IfSome names (Begins row p)
      → (slot_in answer ≡ route paths (i + 1) p) × IsCaught answer
  step i best answer names row low at is one two three four = (
    ap slot_in is ∙ route_more i best names one two
        (subst (λ (r : Option Row). MatchOption names (caught p (path_of r) ≡ 0) (λ n. caught p (path_of r) ≡ n + 1)) at three),
    subst IsCaught (sym is) (caught_more i best names low two (subst (λ (r : Option Row). IfSome names (Begins r p)) at four)),
  )
