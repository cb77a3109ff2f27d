-- The slot of a group, and its place there.
use Rattle.std.proofs.Common.{◌≡◌, ◌≢◌, ◌∙◌, ◌≤◌, ◌<◌, ◌+◌, ◌==◌, inl, inr, ℕ, zero, suc, Bool, true, false, List, [], ◌∷◌, length, Option, Some, None, refl, sym, ap, subst, arith}
use Rattle.std.specs.Prelude.{◌⊎◌, cond, slice_index, slice_index_or}
use Rattle.std.proofs.lemmas.Bool.Decides.{nat_tests}
use Rattle.ice_base.specs.Spare.{has}
use Rattle.ice_owner.specs.Owners.{OwnersView, AreLots, groups_at, place_in, slot_from, place_of, holder, ordinal}

-- ---- a list that has a group

has_place : (xs : List ℕ) (g : ℕ) → has xs g ≡ true → (place_in xs g < length xs) × (slice_index xs (place_in xs g) ≡ g)
unfolding has place_in
has_place [] g h = absurd (cc h)
has_place (x ∷ xs) g h = by (x == g) refl h (λ is. has_place xs g is)
  where
    by : (b : Bool) → (x == g) ≡ b → cond b true (has xs g) ≡ true
        → (has xs g ≡ true → (place_in xs g < length xs) × (slice_index xs (place_in xs g) ≡ g))
        → (cond b 0 (1 + place_in xs g) < length (x ∷ xs)) × (slice_index (x ∷ xs) (cond b 0 (1 + place_in xs g)) ≡ g)
    by true is h rest = (omega arith, grind (arith, nat_tests))
    by false is h more = let rest = more h in let e : 1 + place_in xs g ≡ suc (place_in xs g) = omega arith in (omega (arith, rest.0), rw e rest.1)

has_true : (xs : List ℕ) (g o : ℕ) → o < length xs → slice_index xs o ≡ g → has xs g ≡ true
unfolding has
has_true [] g o low is = absurd (omega (arith, low))
has_true (x ∷ xs) g zero low is = let same : (x == g) ≡ true = grind (arith, nat_tests) in rw same refl
has_true (x ∷ xs) g (suc o) low is = by (x == g) (has_true xs g o (omega (arith, low)) is)
  where
    by : (b : Bool) → has xs g ≡ true → cond b true (has xs g) ≡ true
    by true rest = refl
    by false rest = rest

-- ---- the first list that has it

abbrev Cases : ℕ → List (List ℕ) → ℕ → Option ℕ → Type 0
Cases s lots g found =
    (((r : ℕ) → has (slice_index_or lots r []) g ≡ false) × (found ≡ None))
    ⊎ ((p : ℕ) × (found ≡ Some (s + p)) × (has (slice_index_or lots p []) g ≡ true))

has_none : (g : ℕ) → has [] g ≡ false
unfolding has
has_none g = refl

none_cons : (lot : List ℕ) (lots : List (List ℕ)) (g : ℕ) → has lot g ≡ false → ((r : ℕ) → has (slice_index_or lots r []) g ≡ false)
    → (r : ℕ) → has (slice_index_or (lot ∷ lots) r []) g ≡ false
none_cons lot lots g first rest zero = first
none_cons lot lots g first rest (suc r) = rest r

from_cases : (s : ℕ) (lots : List (List ℕ)) (g : ℕ) → Cases s lots g (slot_from s lots g)
unfolding slot_from
from_cases s [] g = inl (λ r. has_none g, refl)
from_cases s (lot ∷ lots) g = by (has lot g) refl (from_cases (s + 1) lots g)
  where
    by : (b : Bool) → has lot g ≡ b → Cases (s + 1) lots g (slot_from (s + 1) lots g) → Cases s (lot ∷ lots) g (cond b (Some s) (slot_from (s + 1) lots g))
    by true is rest = let e : s ≡ s + 0 = omega arith in inr (0, ap Some e, is)
    by false is (inl none) = inl (none_cons lot lots g is none.0, none.1)
    by false is (inr some) = let e : s + 1 + some.0 ≡ s + suc some.0 = omega arith in inr (suc some.0, some.1 ∙ ap Some e, some.2)

-- ---- the slot of a group

module _ (v : OwnersView) where
  -- a group that stands in a slot's list belongs to that slot, with its place there
  pub holder_at : AreLots v → (s o g : ℕ) → o < length (groups_at v s) → slice_index (groups_at v s) o ≡ g → (holder v g ≡ Some s) × (ordinal v g ≡ o)
  holder_at a s o g low is = by (from_cases 0 v.lots g)
    where
      by : Cases 0 v.lots g (holder v g) → (holder v g ≡ Some s) × (ordinal v g ≡ o)
      by (inl none) = absurd (cc (none.0 s, has_true (groups_at v s) g o low is))
      by (inr some) =
          let place = has_place (groups_at v some.0) g some.2 in
          let same = a.apart s some.0 o (place_in (groups_at v some.0) g) low place.0 (is ∙ sym place.1) in
          let e : 0 + some.0 ≡ s = omega (arith, same.0) in
          let at : holder v g ≡ Some s = some.1 ∙ ap Some e in
          (at, subst (λ (f : Option ℕ). place_of v f g ≡ o) (sym at) (subst (λ (r : ℕ). place_in (groups_at v r) g ≡ o) (sym same.0) (sym same.1)))

  -- a group that stands in no slot's list belongs to none
  pub holder_none : (g : ℕ) → ((s o : ℕ) → o < length (groups_at v s) → slice_index (groups_at v s) o ≢ g) → holder v g ≡ None
  holder_none g never = by (from_cases 0 v.lots g)
    where
      by : Cases 0 v.lots g (holder v g) → holder v g ≡ None
      by (inl none) = none.1
      by (inr some) = let place = has_place (groups_at v some.0) g some.2 in absurd (never some.0 (place_in (groups_at v some.0) g) place.0 place.1)

  -- a group stands in the list of its slot, at its ordinal
  pub holder_is : (g s : ℕ) → holder v g ≡ Some s → (ordinal v g < length (groups_at v s)) × (slice_index (groups_at v s) (ordinal v g) ≡ g)
  holder_is g s held = by (from_cases 0 v.lots g)
    where
      by : Cases 0 v.lots g (holder v g) → (ordinal v g < length (groups_at v s)) × (slice_index (groups_at v s) (ordinal v g) ≡ g)
      by (inl none) = absurd (cc (none.1, held))
      by (inr some) =
          let e : some.0 ≡ s = let both : Some (0 + some.0) ≡ Some s = sym some.1 ∙ held in let inner : 0 + some.0 ≡ s = cc in omega arith in
          let place = has_place (groups_at v s) g (subst (λ (r : ℕ). has (groups_at v r) g ≡ true) e some.2) in
          subst (λ (f : Option ℕ). (place_of v f g < length (groups_at v s)) × (slice_index (groups_at v s) (place_of v f g) ≡ g)) (sym held) place

  -- a group that belongs to no slot stands in no list
  pub none_held : (g : ℕ) → holder v g ≡ None → (s o : ℕ) → o < length (groups_at v s) → slice_index (groups_at v s) o ≢ g
  none_held g held s o low is = by (from_cases 0 v.lots g)
    where
      by : Cases 0 v.lots g (holder v g) → ⊥
      by (inl none) = cc (none.0 s, has_true (groups_at v s) g o low is)
      by (inr some) = cc (some.1, held)

  -- a group past the last belongs to none
  pub holder_past : AreLots v → (g : ℕ) → v.groups ≤ g → holder v g ≡ None
  holder_past a g past = holder_none g (λ s o low at. omega (arith, a.below s o low, at, past))
