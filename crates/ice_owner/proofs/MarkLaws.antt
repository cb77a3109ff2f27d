-- The slots and ordinals that marks tell.
use Rattle.std.proofs.Common.{◌≡◌, ◌≢◌, ◌∙◌, ◌≤◌, ◌<◌, ◌+◌, ◌*◌, ◌/◌, ◌%◌, inl, inr, ℕ, zero, suc, List, length, set, replicate, length-set, get_or-set_same, get_or-set_other, Option, refl, sym, ap, subst, arith}
use Rattle.std.specs.Prelude.{◌⊎◌, slice_index}
use Rattle.std.proofs.lemmas.Bool.{cases_lt, cases_eq}
use Rattle.ice_owner.specs.Owners.{place_of, holder, ordinal}
use Rattle.ice_owner.specs.Places.{view_of, AreKept, IsTaken, AreMarks, mark_slot, mark_ordinal}
use Rattle.ice_owner.proofs.Held.{holder_at, holder_none}
use Rattle.ice_owner.proofs.Kept.{lot_length, lot_at, is_taken, taken_at}

module _ (n : ℕ) (counts places marks : List ℕ) (kept : AreKept n counts places) (are : AreMarks 1024 counts places marks) where
  abbrev Says : ℕ → ℕ → Type 0
  Says g mark = (holder (view_of n counts places) g ≡ mark_slot mark) × (ordinal (view_of n counts places) g ≡ mark_ordinal mark)

  mark_says : (g mark : ℕ) → slice_index marks g ≡ mark → Says g mark
  mark_says g zero is =
      let none = holder_none (view_of n counts places) g (λ s o low at.
      let small : o < slice_index counts s = omega (arith, low, lot_length n counts places kept.slots kept.all kept.few s) in
      let taken = is_taken n counts places kept.slots kept.all kept.few s o small in
      let here : slice_index places (64 * s + o) ≡ g = sym (lot_at n counts places kept.slots kept.all kept.few s o small) ∙ at in
      are.marked (64 * s + o) taken.0 taken.1 (ap (λ (h : ℕ). slice_index marks h) here ∙ is))
      in
      (none, ap (λ (f : Option ℕ). place_of (view_of n counts places) f g) none)
  mark_says g (suc k) is =
      let e : suc k ≡ k + 1 = omega arith in
      let found = are.found g k (is ∙ e) in
      let at = taken_at n counts places kept.slots kept.all kept.few k found.1 in
      holder_at (view_of n counts places) kept.lots (k / 64) (k % 64) g at.0 (at.1 ∙ found.2)

  pub mark_holder : (g : ℕ) → holder (view_of n counts places) g ≡ mark_slot (slice_index marks g)
  mark_holder g = (mark_says g (slice_index marks g) refl).0

  pub mark_place : (g : ℕ) → ordinal (view_of n counts places) g ≡ mark_ordinal (slice_index marks g)
  mark_place g = (mark_says g (slice_index marks g) refl).1

-- a mark is at most the number of places
pub mark_small : (counts places marks : List ℕ) → AreMarks 1024 counts places marks → (g : ℕ) → slice_index marks g ≤ 1024
mark_small counts places marks are g = by (slice_index marks g) refl
  where
    by : (mark : ℕ) → slice_index marks g ≡ mark → slice_index marks g ≤ 1024
    by zero is = omega (arith, is)
    by (suc k) is = let e : suc k ≡ k + 1 = omega arith in let low = (are.found g k (is ∙ e)).0 in omega (arith, is, low)

-- ---- the marks, one place after another

pub marks_none : (counts places marks : List ℕ) → length marks ≡ 1024 → ((g : ℕ) → slice_index marks g ≡ 0) → AreMarks 0 counts places marks
marks_none counts places marks all zeros = record {
  all = all;
  found = λ g k is. absurd (omega (arith, is, zeros g));
  marked = λ k low. absurd (omega (arith, low));
}

pub zeros_at : (n g : ℕ) → slice_index (replicate n 0) g ≡ 0
zeros_at zero g = refl
zeros_at (suc n) zero = refl
zeros_at (suc n) (suc g) = zeros_at n g

pub marks_skip : (k : ℕ) (counts places marks : List ℕ) → AreMarks k counts places marks → slice_index counts (k / 64) ≤ k % 64
    → AreMarks (k + 1) counts places marks
marks_skip k counts places marks are free = record {
  all = are.all;
  found = λ g j is. let old = are.found g j is in (omega (arith, old.0), old.1, old.2);
  marked = λ j low taken. by j taken (cases_lt j k) low;
}
  where
    by : (j : ℕ) → IsTaken counts j → (j < k) ⊎ (k ≤ j) → j < k + 1 → slice_index marks (slice_index places j) ≢ 0
    by j taken (inl less) low = are.marked j less taken
    by j taken (inr high) low =
        let same : j ≡ k = omega (arith, high, low) in
        let here : IsTaken counts k = subst (λ (i : ℕ). IsTaken counts i) same taken in
        absurd (omega (arith, here, free))

pub marks_more : (k : ℕ) (counts places marks : List ℕ) → AreMarks k counts places marks → k < 1024
    → ((i : ℕ) → i < 1024 → IsTaken counts i → slice_index places i < 1024)
    → ((i j : ℕ) → i < 1024 → j < 1024 → IsTaken counts i → IsTaken counts j → slice_index places i ≡ slice_index places j → i ≡ j)
    → IsTaken counts k → AreMarks (k + 1) counts places (set marks (slice_index places k) (k + 1))
marks_more k counts places marks are inside small apart here = record {
  all = length-set marks (slice_index places k) (k + 1) ∙ are.all;
  found = λ g j is. found g j is (cases_eq g (slice_index places k));
  marked = λ j low taken. marked j low taken (cases_lt j k);
}
  where
    same_mark : slice_index (set marks (slice_index places k) (k + 1)) (slice_index places k) ≡ k + 1
    same_mark = get_or-set_same marks (slice_index places k) (k + 1) 0 (omega (arith, are.all, small k inside here))

    found : (g j : ℕ) → slice_index (set marks (slice_index places k) (k + 1)) g ≡ j + 1 → (g ≡ slice_index places k)
        ⊎ (g ≡ slice_index places k → ⊥) → (j < k + 1) × IsTaken counts j × (slice_index places j ≡ g)
    found g j is (inl same) =
        let e : j ≡ k = omega (arith, is, ap (λ (h : ℕ). slice_index (set marks (slice_index places k) (k + 1)) h) same, same_mark) in
        (omega (arith, e), subst (λ (i : ℕ). IsTaken counts i) (sym e) here, ap (λ (i : ℕ). slice_index places i) e ∙ sym same)
    found g j is (inr other) =
        let old = are.found g j (sym (get_or-set_other marks (slice_index places k) g (k + 1) 0 other) ∙ is) in
        (omega (arith, old.0), old.1, old.2)

    marked : (j : ℕ) → j < k + 1 → IsTaken counts j → (j < k) ⊎ (k ≤ j) → slice_index (set marks (slice_index places k) (k + 1)) (slice_index places j) ≢ 0
    marked j low taken (inl less) none =
        let other : slice_index places j ≢ slice_index places k = λ same. let e = apart j k (omega (arith, less, inside)) inside taken here same in
        omega (arith, e, less) in
        are.marked j less taken (sym (get_or-set_other marks (slice_index places k) (slice_index places j) (k + 1) 0 other) ∙ none)
    marked j low taken (inr high) none =
        let e : j ≡ k = omega (arith, low, high) in
        omega (arith, ap (λ (i : ℕ). slice_index (set marks (slice_index places k) (k + 1)) (slice_index places i)) e, same_mark, none)
