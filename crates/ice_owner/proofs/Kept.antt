-- What counts and places say.
use Rattle.std.proofs.Common.{◌≡◌, ◌≢◌, ◌∙◌, ◌≤◌, ◌<◌, ◌+◌, ◌*◌, ◌/◌, ◌%◌, inl, inr, ℕ, zero, suc, List, [], ◌∷◌, ◌++◌, length, take, drop, set, None, refl, sym, ap, subst, arith, length-set, length-take, length-take-le, length-drop, get_or-set_same, get_or-set_other}
use Rattle.std.specs.Prelude.{◌⊎◌, slice_index, slice_index_or}
use Rattle.std.proofs.lemmas.Bool.{cases_lt, cases_eq}
use Rattle.std.proofs.lemmas.List.{get_or-take, get_or-drop, get_or_past, take_all, take_more, drop-set-add, take_more_set, ext_get_or}
use Rattle.ice_base.specs.Lots.{LotView}
use Rattle.ice_owner.specs.Owners.{Changes, groups_at, holder}
use Rattle.ice_owner.specs.Places.{lots_from, view_of, AreKept, IsTaken}
use Rattle.ice_owner.proofs.Held.{none_held}

-- ---- the lists of the slots

lots_at : (s : ℕ) (counts places : List ℕ) (r : ℕ) → slice_index_or (lots_from s counts places) r [] ≡ take (slice_index counts r) (drop (64 * (s + r)) places)
unfolding lots_from
lots_at s [] places r = refl
lots_at s (n ∷ counts) places zero = let e : 64 * s ≡ 64 * (s + 0) = omega arith in ap (λ (k : ℕ). take n (drop k places)) e
lots_at s (n ∷ counts) places (suc r) =
    let e : 64 * (s + 1 + r) ≡ 64 * (s + suc r) = omega arith in
    lots_at (s + 1) counts places r ∙ ap (λ (k : ℕ). take (slice_index counts r) (drop k places)) e

length-lots : (s : ℕ) (counts places : List ℕ) → length (lots_from s counts places) ≡ length counts
unfolding lots_from
length-lots s [] places = refl
length-lots s (n ∷ counts) places = ap suc (length-lots (s + 1) counts places)

pub groups_are : (n : ℕ) (counts places : List ℕ) (s : ℕ) → groups_at (view_of n counts places) s ≡ take (slice_index counts s) (drop (64 * s) places)
groups_are n counts places s = lots_at 0 counts places s ∙ (let e : 64 * (0 + s) ≡ 64 * s = omega arith in
    ap (λ (k : ℕ). take (slice_index counts s) (drop k places)) e)

-- ---- 16 counts and 1,024 places

module _ (n : ℕ) (counts places : List ℕ) (slots : length counts ≡ 16) (all : length places ≡ 1024) (few : (s : ℕ) → slice_index counts s ≤ 64) where
  pub slot_low : (s : ℕ) → 0 < slice_index counts s → s < 16
  slot_low s some = by (cases_lt s 16)
    where
      by : (s < 16) ⊎ (16 ≤ s) → s < 16
      by (inl low) = low
      by (inr high) = absurd (omega (arith, get_or_past counts s 0 (omega (arith, slots, high)), some))

  pub lot_length : (s : ℕ) → length (groups_at (view_of n counts places) s) ≡ slice_index counts s
  lot_length s = ap length (groups_are n counts places s) ∙ by (cases_lt s 16)
    where
      by : (s < 16) ⊎ (16 ≤ s) → length (take (slice_index counts s) (drop (64 * s) places)) ≡ slice_index counts s
      by (inl low) = length-take-le (slice_index counts s) (drop (64 * s) places) (omega (arith, length-drop (64 * s) places, all, few s, low))
      by (inr high) = let none : slice_index counts s ≡ 0 = get_or_past counts s 0 (omega (arith, slots, high)) in
          subst (λ (c : ℕ). length (take c (drop (64 * s) places)) ≡ c) (sym none) refl

  pub lot_at : (s o : ℕ) → o < slice_index counts s → slice_index (groups_at (view_of n counts places) s) o ≡ slice_index places (64 * s + o)
  lot_at s o low =
      ap (λ (xs : List ℕ). slice_index xs o) (groups_are n counts places s) ∙ get_or-take (slice_index counts s) (drop (64 * s) places) o 0 low
      ∙ get_or-drop (64 * s) places o 0

  -- the place of an ordinal that a slot has is taken
  pub is_taken : (s o : ℕ) → o < slice_index counts s → (64 * s + o < 1024) × IsTaken counts (64 * s + o)
  is_taken s o low =
      let low_slot = slot_low s (omega (arith, low)) in
      let most = few s in
      let slot : (64 * s + o) / 64 ≡ s = omega (arith, low, most) in
      let rest : (64 * s + o) % 64 ≡ o = omega (arith, low, most) in (
        omega (arith, low_slot, low, most),
        subst (λ (r : ℕ). r < slice_index counts ((64 * s + o) / 64))
            (sym rest) (subst (λ (r : ℕ). o < slice_index counts r) (sym slot) low),
      )

  -- a taken place has the group of its ordinal
  pub taken_at : (k : ℕ) → IsTaken counts k
      → (k % 64 < length (groups_at (view_of n counts places) (k / 64)))
      × (slice_index (groups_at (view_of n counts places) (k / 64)) (k % 64) ≡ slice_index places k)
  taken_at k taken =
      let e : 64 * (k / 64) + k % 64 ≡ k = omega arith in
      (omega (arith, lot_length (k / 64), taken), lot_at (k / 64) (k % 64) taken ∙ ap (λ (j : ℕ). slice_index places j) e)

  -- counts and places say proper lots where the taken places have groups of the image, none twice
  pub kept_from : 1 ≤ n → n ≤ 1024 → ((k : ℕ) → k < 1024 → IsTaken counts k → slice_index places k < n)
      → ((k j : ℕ) → k < 1024 → j < 1024 → IsTaken counts k → IsTaken counts j → slice_index places k ≡ slice_index places j → k ≡ j) → AreKept n counts places
  kept_from some most below apart = record {
    slots = slots;
    all = all;
    few = few;
    lots = record {
      slots = length-lots 0 counts places ∙ slots;
      some = some;
      most = most;
      few = λ s. omega (arith, lot_length s, few s);
      below = λ s o low. let small : o < slice_index counts s = omega (arith, lot_length s, low) in
          let at = is_taken s o small in let less = below (64 * s + o) at.0 at.1 in omega (arith, less, lot_at s o small);
      apart = λ s r o p low low_too same.
          let small : o < slice_index counts s = omega (arith, lot_length s, low) in
          let small_too : p < slice_index counts r = omega (arith, lot_length r, low_too) in
          let at = is_taken s o small in
          let at_too = is_taken r p small_too in
          let e = apart (64 * s + o) (64 * r + p) at.0 at_too.0 at.1 at_too.1 (sym (lot_at s o small) ∙ same ∙ lot_at r p small_too) in
          let most = few s in
          let most_too = few r in
          (omega (arith, e, small, small_too, most, most_too), omega (arith, e, small, small_too, most, most_too));
    };
  }

-- ---- proper lots

module _ (n : ℕ) (counts places : List ℕ) (kept : AreKept n counts places) where
  -- a taken place has a group of the image
  pub taken_below : (k : ℕ) → k < 1024 → IsTaken counts k → slice_index places k < n
  taken_below k low taken =
      let at = taken_at n counts places kept.slots kept.all kept.few k taken in
      let below = kept.lots.below (k / 64) (k % 64) at.0 in
      omega (arith, below, at.1)

  pub taken_small : (k : ℕ) → k < 1024 → IsTaken counts k → slice_index places k < 1024
  taken_small k low taken = omega (arith, taken_below k low taken, kept.lots.most)

  -- taken places have different groups
  pub taken_apart : (k j : ℕ) → k < 1024 → j < 1024 → IsTaken counts k → IsTaken counts j → slice_index places k ≡ slice_index places j → k ≡ j
  taken_apart k j low low_too taken also same =
      let at = taken_at n counts places kept.slots kept.all kept.few k taken in
      let at_too = taken_at n counts places kept.slots kept.all kept.few j also in
      let e = kept.lots.apart (k / 64) (j / 64) (k % 64) (j % 64) at.0 at_too.0 (at.1 ∙ same ∙ sym at_too.1) in
      omega (arith, e.0, e.1)

  -- what stands before a group in the list of its slot differs from it
  pub lot_fresh : (s o : ℕ) → o < slice_index counts s → (i : ℕ) → i < length (take o (groups_at (view_of n counts places) s))
      → slice_index (take o (groups_at (view_of n counts places) s)) i ≢ slice_index places (64 * s + o)
  lot_fresh s o low i inside same =
      let xs = groups_at (view_of n counts places) s in
      let long = lot_length n counts places kept.slots kept.all kept.few s in
      let less : i < o = omega (arith, length-take o xs, inside) in
      let e = kept.lots.apart s s i o (omega (arith, long, less, low)) (omega (arith, long, low))
      (sym (get_or-take o xs i 0 less) ∙ same ∙ sym (lot_at n counts places kept.slots kept.all kept.few s o low)) in
      omega (arith, e.1, less)

  pub lot_more : (s o : ℕ) → o < slice_index counts s → take o (groups_at (view_of n counts places) s) ++ slice_index places
      (64 * s + o) ∷ [] ≡ take (o + 1) (groups_at (view_of n counts places) s)
  lot_more s o low =
      let xs = groups_at (view_of n counts places) s in
      ap (λ (g : ℕ). take o xs ++ g ∷ []) (sym (lot_at n counts places kept.slots kept.all kept.few s o low))
      ∙ sym (take_more xs o 0 (omega (arith, lot_length n counts places kept.slots kept.all kept.few s, low)))

  pub lot_all : (s o : ℕ) → slice_index counts s ≤ o → take o (groups_at (view_of n counts places) s) ≡ groups_at (view_of n counts places) s
  lot_all s o all = take_all o (groups_at (view_of n counts places) s) (omega (arith, lot_length n counts places kept.slots kept.all kept.few s, all))

-- a lot by its parts
pub same_view : (lot : LotView) (s b : ℕ) (groups : List ℕ) → lot.slot ≡ s → lot.base ≡ b → lot.groups ≡ groups
    → lot ≡ record { slot = s; base = b; groups = groups }
same_view lot s b groups e f h =
    let made : ℕ → ℕ → List ℕ → LotView = λ x y z. record { slot = x; base = y; groups = z } in
    ap (λ (x : ℕ). made x lot.base lot.groups) e ∙ ap (λ (y : ℕ). made s y lot.groups) f ∙ ap (λ (z : List ℕ). made s b z) h

-- ---- the groups of one slot change

-- lists with the same count, and the same groups at the places that count, are the same
same_lot : (n : ℕ) (counts counts' places places' : List ℕ) → (length counts ≡ 16) × (length places ≡ 1024) × ((s : ℕ) → slice_index counts s ≤ 64)
    → (length counts' ≡ 16) × (length places' ≡ 1024) × ((s : ℕ) → slice_index counts' s ≤ 64)
    → (r : ℕ) → slice_index counts' r ≡ slice_index counts r
    → ((o : ℕ) → o < slice_index counts r → slice_index places' (64 * r + o) ≡ slice_index places (64 * r + o))
    → groups_at (view_of n counts' places') r ≡ groups_at (view_of n counts places) r
same_lot n counts counts' places places' a b r count at =
    let long = lot_length n counts places a.0 a.1 a.2 r in
    let long_too = lot_length n counts' places' b.0 b.1 b.2 r in
    ext_get_or 0 (groups_at (view_of n counts' places') r) (groups_at (view_of n counts places) r) (omega (arith, long, long_too, count))
    (λ o low.
    let small : o < slice_index counts r = omega (arith, low, long_too, count) in
    let small_too : o < slice_index counts' r = omega (arith, low, long_too) in
    lot_at n counts' places' b.0 b.1 b.2 r o small_too ∙ at o small ∙ sym (lot_at n counts places a.0 a.1 a.2 r o small))

module _ (n : ℕ) (counts places : List ℕ) (kept : AreKept n counts places) (s : ℕ) (low : s < 16) where
  -- a slot without its groups
  less_few : (r : ℕ) → slice_index (set counts s 0) r ≤ slice_index counts r
  less_few r = by (cases_eq r s)
    where
      by : (r ≡ s) ⊎ (r ≡ s → ⊥) → slice_index (set counts s 0) r ≤ slice_index counts r
      by (inl same) = let e : slice_index (set counts s 0) r ≡ 0 = subst (λ (q : ℕ). slice_index (set counts s 0) q ≡ 0)
          (sym same) (get_or-set_same counts s 0 0 (omega (arith, kept.slots, low))) in omega (arith, e)
      by (inr other) = omega (arith, get_or-set_other counts s r 0 0 other)

  less_taken : (k : ℕ) → IsTaken (set counts s 0) k → IsTaken counts k
  less_taken k taken = omega (arith, less_few (k / 64), taken)

  pub released_kept : AreKept n (set counts s 0) places
  released_kept = kept_from n (set counts s 0) places (length-set counts s 0 ∙ kept.slots) kept.all
      (λ r. omega (arith, less_few r, kept.few r)) kept.lots.some kept.lots.most
      (λ k small taken. taken_below n counts places kept k small (less_taken k taken))
      (λ k j small small_too taken also. taken_apart n counts places kept k j small small_too (less_taken k taken) (less_taken j also))

  pub released : Changes (view_of n counts places) (view_of n (set counts s 0) places) s []
  released = record {
    lot = groups_are n (set counts s 0) places s ∙ ap (λ (c : ℕ). take c (drop (64 * s) places))
        (get_or-set_same counts s 0 0 (omega (arith, kept.slots, low)));
    others = λ r other. same_lot n counts (set counts s 0) places places (kept.slots, kept.all, kept.few)
        (released_kept.slots, released_kept.all, released_kept.few) r (get_or-set_other counts s r 0 0 other) (λ o small. refl);
    size = refl;
  }

  -- a slot with one more group
  module _ (g : ℕ) (room : length (groups_at (view_of n counts places) s) < 64) (small : g < n) (free : holder (view_of n counts places) g ≡ None) where
    pub room_left : slice_index counts s < 64
    room_left = omega (arith, lot_length n counts places kept.slots kept.all kept.few s, room)

    abbrev counts' : List ℕ
    counts' = set counts s (slice_index counts s + 1)

    abbrev places' : List ℕ
    places' = set places (64 * s + slice_index counts s) g

    count_same : slice_index counts' s ≡ slice_index counts s + 1
    count_same = get_or-set_same counts s (slice_index counts s + 1) 0 (omega (arith, kept.slots, low))

    place_same : slice_index places' (64 * s + slice_index counts s) ≡ g
    place_same = get_or-set_same places (64 * s + slice_index counts s) g 0 (omega (arith, kept.all, low, room_left))

    -- a place that is taken then is the new one, or was taken
    abbrev New : ℕ → Type 0
    New k = (k ≡ 64 * s + slice_index counts s) ⊎ ((k ≢ 64 * s + slice_index counts s) × IsTaken counts k)

    taken_then : (k : ℕ) → IsTaken counts' k → New k
    taken_then k taken = by (cases_eq k (64 * s + slice_index counts s)) (cases_eq (k / 64) s)
      where
        by : (k ≡ 64 * s + slice_index counts s) ⊎ (k ≡ 64 * s + slice_index counts s → ⊥) → (k / 64 ≡ s) ⊎ (k / 64 ≡ s → ⊥) → New k
        by (inl same) slot = inl same
        by (inr other) (inl slot) =
            let less : k % 64 < slice_index counts s + 1 = subst (λ (c : ℕ). k % 64 < c) (ap (λ (r : ℕ). slice_index counts' r) slot ∙ count_same) taken in
            let apart : k ≢ 64 * s + slice_index counts s = other in
            let less_too : k % 64 < slice_index counts s = omega (arith, less, apart, slot) in
            inr (other, subst (λ (r : ℕ). k % 64 < slice_index counts r) (sym slot) less_too)
        by (inr other) (inr slot) = inr (other, subst (λ (c : ℕ). k % 64 < c) (get_or-set_other counts s (k / 64) (slice_index counts s + 1) 0 slot) taken)

    old_place : (k : ℕ) → k ≢ 64 * s + slice_index counts s → slice_index places' k ≡ slice_index places k
    old_place k other = get_or-set_other places (64 * s + slice_index counts s) k g 0 other

    not_old : (k : ℕ) → IsTaken counts k → slice_index places k ≢ g
    not_old k taken is =
        let at = taken_at n counts places kept.slots kept.all kept.few k taken in
        none_held (view_of n counts places) g free (k / 64) (k % 64) at.0 (at.1 ∙ is)

    few' : (r : ℕ) → slice_index counts' r ≤ 64
    few' r = by (cases_eq r s)
      where
        by : (r ≡ s) ⊎ (r ≡ s → ⊥) → slice_index counts' r ≤ 64
        by (inl same) = let e : slice_index counts' r ≡ slice_index counts s + 1 = ap (λ (q : ℕ). slice_index counts' q) same ∙ count_same in
            omega (arith, e, room_left)
        by (inr other) = omega (arith, get_or-set_other counts s r (slice_index counts s + 1) 0 other, kept.few r)

    below' : (k : ℕ) → k < 1024 → IsTaken counts' k → slice_index places' k < n
    below' k inside taken = by (taken_then k taken)
      where
        by : New k → slice_index places' k < n
        by (inl same) = let e : slice_index places' k ≡ g = ap (λ (q : ℕ). slice_index places' q) same ∙ place_same in omega (arith, e, small)
        by (inr old) = omega (arith, old_place k old.0, taken_below n counts places kept k inside old.1)

    apart' : (k j : ℕ) → k < 1024 → j < 1024 → IsTaken counts' k → IsTaken counts' j → slice_index places' k ≡ slice_index places' j → k ≡ j
    apart' k j inside inside_too taken also same = by (taken_then k taken) (taken_then j also)
      where
        by : New k → New j → k ≡ j
        by (inl a) (inl b) = a ∙ sym b
        by (inl a) (inr b) = absurd (not_old j b.1 (sym (old_place j b.0) ∙ sym same ∙ ap (λ (q : ℕ). slice_index places' q) a ∙ place_same))
        by (inr a) (inl b) = absurd (not_old k a.1 (sym (old_place k a.0) ∙ same ∙ ap (λ (q : ℕ). slice_index places' q) b ∙ place_same))
        by (inr a) (inr b) = taken_apart n counts places kept k j inside inside_too a.1 b.1 (sym (old_place k a.0) ∙ same ∙ old_place j b.0)

    pub pushed_kept : AreKept n counts' places'
    pushed_kept = kept_from n counts' places' (length-set counts s (slice_index counts s + 1) ∙ kept.slots)
        (length-set places (64 * s + slice_index counts s) g ∙ kept.all) few' kept.lots.some kept.lots.most below' apart'

    more_lot : take (slice_index counts s + 1) (drop (64 * s) places') ≡ take (slice_index counts s) (drop (64 * s) places) ++ g ∷ []
    more_lot =
        ap (λ (xs : List ℕ). take (slice_index counts s + 1) xs) (drop-set-add (64 * s) places (slice_index counts s) g)
        ∙ take_more_set (drop (64 * s) places) (slice_index counts s) g (omega (arith, length-drop (64 * s) places, kept.all, low, room_left))

    pub pushed : Changes (view_of n counts places) (view_of n counts' places') s (groups_at (view_of n counts places) s ++ g ∷ [])
    pushed = record {
      lot = groups_are n counts' places' s ∙ ap (λ (c : ℕ). take c (drop (64 * s) places')) count_same ∙ more_lot
          ∙ ap (λ (xs : List ℕ). xs ++ g ∷ []) (sym (groups_are n counts places s));
      others = λ r other. same_lot n counts counts' places places' (kept.slots, kept.all, kept.few)
          (pushed_kept.slots, pushed_kept.all, pushed_kept.few) r (get_or-set_other counts s r (slice_index counts s + 1) 0 other)
          (λ o less. let apart : 64 * r + o ≢ 64 * s + slice_index counts s = let most = kept.few r in
          omega (arith, less, most, other, room_left) in old_place (64 * r + o) apart);
      size = refl;
    }
