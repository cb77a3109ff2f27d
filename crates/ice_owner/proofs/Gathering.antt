-- Entries put into their places, one after another.
use Rattle.std.proofs.Common.{◌≡◌, ◌≢◌, ◌∙◌, ◌≤◌, ◌<◌, ◌+◌, ◌*◌, inl, inr, ℕ, Bool, true, List, set, max, sym, ap, subst, arith, length-set, get_or-set_same, get_or-set_other}
use Rattle.std.specs.Prelude.{◌⊎◌, slice_index}
use Rattle.std.proofs.lemmas.Bool.{cases_lt, cases_eq}
use Rattle.ice_tables.specs.Tables.{owner_byte, ordinal_byte}
use Rattle.ice_owner.specs.Owners.{is_live}
use Rattle.ice_owner.specs.Places.{nobody, IsEntryAt, IsPlaced, AreGathered}

-- an entry without an owner
pub gathered_skip : (m : ℕ → List ℕ) (live : List Bool) (g : ℕ) (counts places : List ℕ) → AreGathered m live g counts places
    → owner_byte m g ≡ 0 → AreGathered m live (g + 1) counts places
gathered_skip m live g counts places is none = record {
  slots = is.slots;
  all = is.all;
  few = is.few;
  owned = λ k some low. let e = is.owned k some low in record { low = omega (arith, e.low); owner = e.owner; ordinal = e.ordinal };
  placed = λ h s low own. by h s own (cases_lt h g) low;
  top = λ s c counted. let e = is.top s c counted in (e.0, omega (arith, e.1), e.2, e.3);
}
  where
    by : (h s : ℕ) → owner_byte m h ≡ s + 1 → (h < g) ⊎ (g ≤ h) → h < g + 1 → IsPlaced m live counts places h s
    by h s own (inl less) low = is.placed h s less own
    by h s own (inr high) low = let same : h ≡ g = omega (arith, high, low) in absurd (omega (arith, own, ap (λ (x : ℕ). owner_byte m x) same, none))

-- an entry in the place that it gets
module _ (m : ℕ → List ℕ) (live : List Bool) (g : ℕ) (counts places : List ℕ) (is : AreGathered m live g counts places) (small : g < 1024)
    (s o : ℕ) (low : s < 16) (alive : is_live live s ≡ true) (owner : owner_byte m g ≡ s + 1) (ordinal : ordinal_byte m g ≡ o) (few : o < 64)
    (free : slice_index places (64 * s + o) ≡ nobody) where
  abbrev counts' : List ℕ
  counts' = set counts s (max (slice_index counts s) (o + 1))

  abbrev places' : List ℕ
  places' = set places (64 * s + o) g

  count_same : slice_index counts' s ≡ max (slice_index counts s) (o + 1)
  count_same = get_or-set_same counts s (max (slice_index counts s) (o + 1)) 0 (omega (arith, is.slots, low))

  place_same : slice_index places' (64 * s + o) ≡ g
  place_same = get_or-set_same places (64 * s + o) g 0 (omega (arith, is.all, low, few))

  count_other : (r : ℕ) → r ≢ s → slice_index counts' r ≡ slice_index counts r
  count_other r other = get_or-set_other counts s r (max (slice_index counts s) (o + 1)) 0 other

  place_other : (k : ℕ) → k ≢ 64 * s + o → slice_index places' k ≡ slice_index places k
  place_other k other = get_or-set_other places (64 * s + o) k g 0 other

  few' : (r : ℕ) → slice_index counts' r ≤ 64
  few' r = by (cases_eq r s)
    where
      by : (r ≡ s) ⊎ (r ≡ s → ⊥) → slice_index counts' r ≤ 64
      by (inl same) = let e : slice_index counts' r ≡ max (slice_index counts s) (o + 1) = ap (λ (q : ℕ). slice_index counts' q) same ∙ count_same in
          let most = is.few s in omega (arith, e, few, most)
      by (inr other) = omega (arith, count_other r other, is.few r)

  more' : (r : ℕ) → slice_index counts r ≤ slice_index counts' r
  more' r = by (cases_eq r s)
    where
      by : (r ≡ s) ⊎ (r ≡ s → ⊥) → slice_index counts r ≤ slice_index counts' r
      by (inl same) = let e : slice_index counts' r ≡ max (slice_index counts s) (o + 1) = ap (λ (q : ℕ). slice_index counts' q) same ∙ count_same in
          let d : slice_index counts r ≡ slice_index counts s = ap (λ (q : ℕ). slice_index counts q) same in omega (arith, e, d)
      by (inr other) = omega (arith, count_other r other)

  owned' : (k : ℕ) → slice_index places' k ≢ nobody → k < 1024 → IsEntryAt m (g + 1) k (slice_index places' k)
  owned' k some inside = by (cases_eq k (64 * s + o))
    where
      by : (k ≡ 64 * s + o) ⊎ (k ≡ 64 * s + o → ⊥) → IsEntryAt m (g + 1) k (slice_index places' k)
      by (inl same) =
          let e : slice_index places' k ≡ g = ap (λ (q : ℕ). slice_index places' q) same ∙ place_same in
          let at : IsEntryAt m (g + 1) k g = record {
            low = omega arith;
            owner = omega (arith, owner, same, few);
            ordinal = omega (arith, ordinal, same, few);
          } in
          subst (λ (x : ℕ). IsEntryAt m (g + 1) k x) (sym e) at
      by (inr other) =
          let e = place_other k other in
          let old = is.owned k (λ nothing. some (e ∙ nothing)) inside in
          let at : IsEntryAt m (g + 1) k (slice_index places k) = record { low = omega (arith, old.low); owner = old.owner; ordinal = old.ordinal } in
          subst (λ (x : ℕ). IsEntryAt m (g + 1) k x) (sym e) at

  placed' : (h r : ℕ) → h < g + 1 → owner_byte m h ≡ r + 1 → IsPlaced m live counts' places' h r
  placed' h r inside own = by (cases_lt h g)
    where
      by : (h < g) ⊎ (g ≤ h) → IsPlaced m live counts' places' h r
      by (inl less) =
          let old = is.placed h r less own in
          let place = old.place in
          let other : 64 * r + ordinal_byte m h ≢ 64 * s + o = λ same.
          let e : slice_index places (64 * r + ordinal_byte m h) ≡ slice_index places (64 * s + o) = ap (λ (q : ℕ). slice_index places q) same in
          omega (arith, e, place, free, less, small) in
          record {
            slot = old.slot;
            ordinal = old.ordinal;
            kept = old.kept;
            place = place_other (64 * r + ordinal_byte m h) other ∙ place;
            counted = omega (arith, old.counted, more' r);
          }
      by (inr high) =
          let same : h ≡ g = omega (arith, high, inside) in
          let own_here : owner_byte m h ≡ s + 1 = ap (λ (x : ℕ). owner_byte m x) same ∙ owner in
          let slot : r ≡ s = omega (arith, own, own_here) in
          let place : ordinal_byte m h ≡ o = ap (λ (x : ℕ). ordinal_byte m x) same ∙ ordinal in
          let at : 64 * r + ordinal_byte m h ≡ 64 * s + o = omega (arith, slot, place) in
          let count : slice_index counts' r ≡ max (slice_index counts s) (o + 1) = ap (λ (q : ℕ). slice_index counts' q) slot ∙ count_same in
          record {
            slot = omega (arith, slot, low);
            ordinal = omega (arith, place, few);
            kept = subst (λ (q : ℕ). is_live live q ≡ true) (sym slot) alive;
            place = ap (λ (q : ℕ). slice_index places' q) at ∙ place_same ∙ sym same;
            counted = omega (arith, count, place);
          }

  abbrev Top : ℕ → ℕ → Type 0
  Top r c = (h : ℕ) × (h < g + 1) × (owner_byte m h ≡ r + 1) × (ordinal_byte m h ≡ c)

  old_top : (r c : ℕ) → slice_index counts r ≡ c + 1 → Top r c
  old_top r c counted = let old = is.top r c counted in (old.0, omega (arith, old.1), old.2, old.3)

  top' : (r c : ℕ) → slice_index counts' r ≡ c + 1 → Top r c
  top' r c counted = by (cases_eq r s) (cases_lt o (slice_index counts s))
    where
      by : (r ≡ s) ⊎ (r ≡ s → ⊥) → (o < slice_index counts s) ⊎ (slice_index counts s ≤ o) → Top r c
      by (inl same) (inl less) =
          let e : slice_index counts' r ≡ max (slice_index counts s) (o + 1) = ap (λ (q : ℕ). slice_index counts' q) same ∙ count_same in
          let d : slice_index counts r ≡ slice_index counts s = ap (λ (q : ℕ). slice_index counts q) same in
          old_top r c (omega (arith, e, d, counted, less))
      by (inl same) (inr high) =
          let e : slice_index counts' r ≡ max (slice_index counts s) (o + 1) = ap (λ (q : ℕ). slice_index counts' q) same ∙ count_same in
          (g, omega arith, omega (arith, owner, same), omega (arith, e, high, counted, ordinal))
      by (inr other) known = old_top r c (sym (count_other r other) ∙ counted)

  pub gathered_more : AreGathered m live (g + 1) counts' places'
  gathered_more = record {
    slots = length-set counts s (max (slice_index counts s) (o + 1)) ∙ is.slots;
    all = length-set places (64 * s + o) g ∙ is.all;
    few = few';
    owned = owned';
    placed = placed';
    top = top';
  }
