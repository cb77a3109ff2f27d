-- The laws of owner tables beside the tables of an image.
use Rattle.std.proofs.Common.{◌≡◌, ◌≢◌, ◌∙◌, ◌≤◌, ◌<◌, ◌+◌, ◌*◌, ◌&&◌, ◌==◌, inl, inr, ℕ, zero, suc, Bool, true, false, List, [], ◌∷◌, ◌++◌, length, drop, Option, Some, None, refl, sym, ap, subst, arith}
use Rattle.std.specs.Prelude.{◌⊎◌, slice_index, filter, flat_map, IsSome, nat_lt, is_none}
use Rattle.std.specs.List.{range_with_len}
use Rattle.std.proofs.lemmas.Bool.{and_parts, cases_lt}
use Rattle.std.proofs.lemmas.Bool.Decides.{nat_tests}
use Rattle.std.proofs.lemmas.List.{drop_more, drop_all}
use Rattle.ice_tables.specs.Tables.{Tables, HasGroups, AreOwners, owner_byte}
use Rattle.ice_tables.specs.Lots.{is_slot, groups_of}
use Rattle.ice_tables.proofs.LotSites.{Each, each-at, each-filter, is_slot-some}
use Rattle.ice_base.specs.Lots.{IsLot}
use Rattle.ice_owner.specs.Owners.{OwnersView, AreLots, HasOwners, Changes, groups_at, place_of, holder, ordinal, is_free, free_groups}
use Rattle.ice_owner.proofs.Held.{holder_at, holder_none, holder_is, none_held}
use Rattle.ice_owner.proofs.Filters.{free_all}

-- ---- filters that let one number pass at most

filter_none : (test : ℕ → Bool) (a n : ℕ) → ((g : ℕ) → test g ≡ false) → filter test (range_with_len a n) ≡ []
filter_none test a zero none = refl
filter_none test a (suc n) none = rw (none a) (filter_none test (a + 1) n none)

filter_past : (test : ℕ → Bool) (a n x : ℕ) → x < a → ((g : ℕ) → g ≢ x → test g ≡ false) → filter test (range_with_len a n) ≡ []
filter_past test a zero x past others = refl
filter_past test a (suc n) x past others = let apart : a ≢ x = omega (arith, past) in
    rw (others a apart) (filter_past test (a + 1) n x (omega (arith, past)) others)

filter_one : (test : ℕ → Bool) (a n x : ℕ) → a ≤ x → x < a + n → test x ≡ true → ((g : ℕ) → g ≢ x → test g ≡ false) → filter test (range_with_len a n) ≡ x ∷ []
filter_one test a zero x low high is others = absurd (omega (arith, low, high))
filter_one test a (suc n) x low high is others = by (cases_lt a x) (λ less. filter_one test (a + 1) n x (omega (arith, less)) (omega (arith, high)) is others)
  where
    by : (a < x) ⊎ (x ≤ a) → (a < x → filter test (range_with_len (a + 1) n) ≡ x ∷ []) → filter test (range_with_len a (suc n)) ≡ x ∷ []
    by (inl less) rest = let apart : a ≢ x = omega (arith, less) in rw (others a apart) (rest less)
    by (inr same) rest =
        let e : x ≡ a = omega (arith, same, low) in
        let here : test a ≡ true = subst (λ (y : ℕ). test y ≡ true) e is in
        rw here (ap (λ (ys : List ℕ). a ∷ ys) (filter_past test (a + 1) n x (omega (arith, e)) others) ∙ ap (λ (y : ℕ). y ∷ []) (sym e))

-- lists of one number each for the places of a list, and of none past it
flat_is : (xs : List ℕ) (f : ℕ → List ℕ) (a n : ℕ) → ((o : ℕ) → o < length xs → f o ≡ slice_index xs o ∷ [])
    → ((o : ℕ) → length xs ≤ o → f o ≡ []) → length xs ≤ a + n
    → flat_map f (range_with_len a n) ≡ drop a xs
flat_is xs f a zero one none all = sym (drop_all a xs (omega (arith, all)))
flat_is xs f a (suc n) one none all = by (cases_lt a (length xs)) (flat_is xs f (a + 1) n one none (omega (arith, all)))
  where
    by : (a < length xs) ⊎ (length xs ≤ a) → flat_map f (range_with_len (a + 1) n) ≡ drop (a + 1) xs → f a ++ flat_map f (range_with_len (a + 1) n) ≡ drop a xs
    by (inl low) rest = rw (one a low) (ap (λ (ys : List ℕ). slice_index xs a ∷ ys) rest ∙ sym (drop_more xs a 0 low))
    by (inr high) rest = rw (none a high) (rest ∙ drop_all (a + 1) xs (omega (arith, high)) ∙ sym (drop_all a xs high))

-- ---- the groups of a slot

abbrev IsOf : Tables → ℕ → ℕ → ℕ → Bool
IsOf t s o g = is_slot (t.holder g) s && t.ordinal g == o

of_slot : (t : Tables) (s o g : ℕ) → IsOf t s o g ≡ true → (t.holder g ≡ Some s) × (t.ordinal g ≡ o)
of_slot t s o g is = let parts = and_parts (is_slot (t.holder g) s) (t.ordinal g == o) is in
    (is_slot-some (t.holder g) s parts.0, let same = parts.1 in grind (arith, nat_tests))

is_of : (o : Option ℕ) (s k n : ℕ) → o ≡ Some s → k ≡ n → (is_slot o s && k == n) ≡ true
is_of o s k n held is = subst (λ o. (is_slot o s && k == n) ≡ true) (sym held) (subst (λ k. (is_slot (Some s) s && k == n) ≡ true) (sym is) both)
  where
    both : (is_slot (Some s) s && n == n) ≡ true
    both = let same : (s == s) ≡ true = grind (arith, nat_tests) in let again : (n == n) ≡ true = grind (arith, nat_tests) in rw (same, again) refl

not_true : (b : Bool) → (b ≡ true → ⊥) → b ≡ false
not_true true never = absurd (never refl)
not_true false never = refl

module _ (v : OwnersView) (t : Tables) (a : AreLots v) (h : HasOwners v t) where
  stands : (s o g : ℕ) → IsOf t s o g ≡ true → (o < length (groups_at v s)) × (slice_index (groups_at v s) o ≡ g)
  stands s o g is =
      let of = of_slot t s o g is in
      let at = holder_is v g s (sym (h.holder g) ∙ of.0) in
      subst (λ (k : ℕ). (k < length (groups_at v s)) × (slice_index (groups_at v s) k ≡ g)) (sym (h.ordinal g) ∙ of.1) at

  -- tables whose groups belong as these do have the same groups for each slot
  pub groups_same : (s : ℕ) → groups_of t s ≡ groups_at v s
  unfolding groups_of
  groups_same s = flat_is (groups_at v s) (λ o. filter (IsOf t s o) (range_with_len 0 t.groups)) 0 64 one none (a.few s)
    where
      one : (o : ℕ) → o < length (groups_at v s) → filter (IsOf t s o) (range_with_len 0 t.groups) ≡ slice_index (groups_at v s) o ∷ []
      one o low =
          let x = slice_index (groups_at v s) o in
          let at = holder_at v a s o x low refl in
          let below = a.below s o low in
          filter_one (IsOf t s o) 0 t.groups x (omega arith) (omega (arith, below, h.groups))
          (is_of (t.holder x) s (t.ordinal x) o (h.holder x ∙ at.0) (h.ordinal x ∙ at.1))
          (λ g apart. not_true (IsOf t s o g) (λ is. apart (sym (stands s o g is).1)))

      none : (o : ℕ) → length (groups_at v s) ≤ o → filter (IsOf t s o) (range_with_len 0 t.groups) ≡ []
      none o high = filter_none (IsOf t s o) 0 t.groups (λ g. not_true (IsOf t s o g) (λ is. omega (arith, (stands s o g is).0, high)))

  held : (g s : ℕ) → t.holder g ≡ Some s → (t.ordinal g < length (groups_at v s)) × (slice_index (groups_at v s) (t.ordinal g) ≡ g)
  held g s is = subst (λ (k : ℕ). (k < length (groups_at v s)) × (slice_index (groups_at v s) k ≡ g))
      (sym (h.ordinal g)) (holder_is v g s (sym (h.holder g) ∙ is))

  some_of : (xs : List ℕ) (o : ℕ) → o < length xs → xs ≢ []
  some_of [] o low = absurd (omega (arith, low))
  some_of (x ∷ xs) o low = λ e. cc e

  length_some : (xs : List ℕ) → xs ≢ [] → 1 ≤ length xs
  length_some [] some = absurd (some refl)
  length_some (x ∷ xs) some = omega arith

  has_groups : (s : ℕ) → groups_at v s ≢ [] → HasGroups t s (length (groups_at v s))
  has_groups s some = record {
    some = length_some (groups_at v s) some;
    few = a.few s;
    below = λ g is. (held g s is).0;
    each = λ o low. let x = slice_index (groups_at v s) o in let at = holder_at v a s o x low refl in (x, h.holder x ∙ at.0, h.ordinal x ∙ at.1);
    once = λ g k is also same. sym (held g s is).1 ∙ ap (λ (o : ℕ). slice_index (groups_at v s) o) same ∙ (held k s also).1;
  }

  -- such tables are accepted where the slots that have groups are those that are not free, and no further group has an owner
  owners_accepted_by : (m : ℕ → List ℕ) → ((s : ℕ) → IsSome (t.row s) → groups_at v s ≢ []) → ((s : ℕ) → groups_at v s ≢ [] → IsSome (t.row s))
      → ((g : ℕ) → v.groups ≤ g → g < 1024 → owner_byte m g ≡ 0) → AreOwners t m
  owners_accepted_by m live taken past = record {
    live = λ g s is. taken s (some_of (groups_at v s) (t.ordinal g) (held g s is).0);
    groups = λ s row. (length (groups_at v s), has_groups s (live s row));
    no_more = λ g high low. past g (omega (arith, high, h.groups)) low;
  }

  -- where they are accepted, a slot that is not free has groups
  rows_have_groups_by : (m : ℕ → List ℕ) → AreOwners t m → (s : ℕ) → IsSome (t.row s) → groups_at v s ≢ []
  rows_have_groups_by m owners s row =
      let n = owners.groups s row in
      let first = (n.1).each 0 (omega (arith, (n.1).some)) in
      some_of (groups_at v s) (t.ordinal first.0) (held first.0 s first.1).0

  -- and a slot that has groups is not free
  groups_have_rows_by : (m : ℕ → List ℕ) → AreOwners t m → (s : ℕ) → groups_at v s ≢ [] → IsSome (t.row s)
  groups_have_rows_by m owners s some =
      let x = slice_index (groups_at v s) 0 in
      let at = holder_at v a s 0 x (omega (arith, length_some (groups_at v s) some)) refl in
      owners.live x s (h.holder x ∙ at.0)

-- such tables are accepted where the slots that have groups are those that are not free, and no further group has an owner
pub owners_accepted : (v : OwnersView) (t : Tables) (m : ℕ → List ℕ) → AreLots v → HasOwners v t → ((s : ℕ) → IsSome (t.row s) → groups_at v s ≢ [])
    → ((s : ℕ) → groups_at v s ≢ [] → IsSome (t.row s)) → ((g : ℕ) → v.groups ≤ g → g < 1024 → owner_byte m g ≡ 0) → AreOwners t m
owners_accepted v t m a h live taken past = owners_accepted_by v t a h m live taken past

-- where they are accepted, a slot that is not free has groups
pub rows_have_groups : (v : OwnersView) (t : Tables) (m : ℕ → List ℕ) → AreLots v → HasOwners v t → AreOwners t m
    → (s : ℕ) → IsSome (t.row s) → groups_at v s ≢ []
rows_have_groups v t m a h owners s row = rows_have_groups_by v t a h m owners s row

-- where they are accepted, a slot that has groups is not free
pub groups_have_rows : (v : OwnersView) (t : Tables) (m : ℕ → List ℕ) → AreLots v → HasOwners v t → AreOwners t m
    → (s : ℕ) → groups_at v s ≢ [] → IsSome (t.row s)
groups_have_rows v t m a h owners s some = groups_have_rows_by v t a h m owners s some

-- ---- lots that stay, and lots that change

-- the same lists, the same slots and ordinals
same_both : (v w : OwnersView) → AreLots w → ((s : ℕ) → groups_at w s ≡ groups_at v s) → (g : ℕ) → (holder w g ≡ holder v g) × (ordinal w g ≡ ordinal v g)
same_both v w a same g = by (holder v g) refl
  where
    by : (found : Option ℕ) → holder v g ≡ found → (holder w g ≡ holder v g) × (ordinal w g ≡ ordinal v g)
    by None is =
        let none : holder w g ≡ None = holder_none w g (λ s o low at.
        none_held v g is s o (subst (λ (xs : List ℕ). o < length xs) (same s) low) (subst (λ (xs : List ℕ). slice_index xs o ≡ g) (same s) at))
        in
        (none ∙ sym is, ap (λ (f : Option ℕ). place_of w f g) none ∙ sym (ap (λ (f : Option ℕ). place_of v f g) is))
    by (Some s) is =
        let at = holder_is v g s is in
        let there = holder_at w a s (ordinal v g) g (subst (λ (xs : List ℕ). ordinal v g < length xs) (sym (same s)) at.0)
        (subst (λ (xs : List ℕ). slice_index xs (ordinal v g) ≡ g) (sym (same s)) at.1) in
        (there.0 ∙ sym is, there.1)

-- groups that stand in the same lists belong to the same slots
pub same_holder : (v w : OwnersView) → AreLots w → ((s : ℕ) → groups_at w s ≡ groups_at v s) → (g : ℕ) → holder w g ≡ holder v g
same_holder v w a same g = (same_both v w a same g).0

-- and have the same ordinals
pub same_ordinal : (v w : OwnersView) → AreLots w → ((s : ℕ) → groups_at w s ≡ groups_at v s) → (g : ℕ) → ordinal w g ≡ ordinal v g
same_ordinal v w a same g = (same_both v w a same g).1

-- where one slot changes, the groups of another one stay with it, with their ordinals
pub kept_group : (v w : OwnersView) (slot : ℕ) (groups : List ℕ) → AreLots w → Changes v w slot groups → (g s : ℕ) → s ≢ slot → holder v g ≡ Some s
    → (holder w g ≡ Some s) × (ordinal w g ≡ ordinal v g)
kept_group v w slot groups a changed g s other held =
    let at = holder_is v g s held in
    let same = changed.others s other in
    holder_at w a s (ordinal v g) g (subst (λ (xs : List ℕ). ordinal v g < length xs) (sym same) at.0)
    (subst (λ (xs : List ℕ). slice_index xs (ordinal v g) ≡ g) (sym same) at.1)

-- the groups that a slot gets belong to it, in their order
pub given_group : (v w : OwnersView) (slot : ℕ) (groups : List ℕ) → AreLots w → Changes v w slot groups → (o : ℕ) → o < length groups
    → (holder w (slice_index groups o) ≡ Some slot) × (ordinal w (slice_index groups o) ≡ o)
given_group v w slot groups a changed o low =
    holder_at w a slot o (slice_index groups o) (subst (λ (xs : List ℕ). o < length xs) (sym changed.lot) low)
    (ap (λ (xs : List ℕ). slice_index xs o) changed.lot)

-- the free groups are groups of the image that belong to no slot
pub free_group : (v : OwnersView) (o : ℕ) → o < length (free_groups v)
    → (slice_index (free_groups v) o < v.groups) × (holder v (slice_index (free_groups v) o) ≡ None)
free_group v o low =
    let all = subst (λ (xs : List ℕ). Each (λ g. (g < v.groups) × (holder v g ≡ None)) xs) (sym (free_all v))
    (each-filter (λ g. (g < v.groups) × (holder v g ≡ None)) (λ g. is_free v g) (range_with_len 0 v.groups) each) in
    each-at (λ g. (g < v.groups) × (holder v g ≡ None)) (free_groups v) o all low
  where
    none_is : (found : Option ℕ) → is_none found ≡ true → found ≡ None
    none_is None is = refl
    none_is (Some s) is = absurd (cc is)

    each : (g : ℕ) → is_free v g ≡ true → (g < v.groups) × (holder v g ≡ None)
    each g is = let parts = and_parts (nat_lt g v.groups) (is_none (holder v g)) is in
        (let low = parts.0 in grind (arith, nat_tests), none_is (holder v g) parts.1)

-- the groups of a slot make a proper lot
pub lot_is_proper : (v : OwnersView) (slot base slots : ℕ) → AreLots v → slot < slots → slots ≤ 16
    → base ≡ 32 + 256 * slots → IsLot (record { slot = slot; base = base; groups = groups_at v slot })
lot_is_proper v slot base slots a low most is = record {
  slot = omega (arith, low, most);
  low = omega (arith, low, is);
  high = omega (arith, most, is);
  few = a.few slot;
  apart = λ i j less inside same. let e = a.apart slot slot i j (omega (arith, less, inside)) inside same in omega (arith, e.1, less);
  small = λ i inside. omega (arith, a.below slot i inside, a.most);
}
