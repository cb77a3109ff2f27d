-- The lot that a cube would get: where it lies, and that no other cube has any of its blocks.
use Rattle.std.proofs.Common.{◌≡◌, ◌≢◌, ◌∙◌, inl, inr, ⊎_elim, ◌≤◌, ◌<◌, ◌+◌, ◌-◌, ◌*◌, ◌/◌, ◌&&◌, ◌==◌, ℕ, zero, suc, Bool, true, false, cond, List, [], ◌∷◌, ◌++◌, length, Option, Some, None, refl, sym, subst, arith}
use Rattle.std.specs.Prelude.{◌⊎◌, nat_lt, nat_le, filter, flat_map, is_none, slice_index, take}
use Rattle.std.specs.List.{range_with_len, list_all}
use Rattle.std.proofs.lemmas.Bool.{and_parts}
use Rattle.std.proofs.lemmas.Bool.Decides.{nat_tests}
use Rattle.std.proofs.lemmas.Nat.{div-add-mod', mod_below}
use Rattle.ice_base.specs.Lots.{LotView, area, extent, is_sited, lies_below}
use Rattle.ice_base.proofs.LotLaws.{extent_cases, extent_below}
use Rattle.ice_tables.specs.Tables.{Tables}
use Rattle.ice_tables.specs.Lots.{is_slot, groups_of, lot_of, total}
use Rattle.ice_tables.proofs.LotSites.{Each, each-at, each-append, group_held, lot_owner, owner}
use Rattle.ice_system.specs.Plans.{free_groups}

-- ---- lists

each_cond : (P : ℕ → Type 0) (x : ℕ) (xs : List ℕ) (b : Bool) → (b ≡ true → P x) → Each P xs → Each P (cond b (x ∷ xs) xs)
each_cond P x xs true holds all = (holds refl, all)
each_cond P x xs false holds all = all

each_range : (P : ℕ → Type 0) (test : ℕ → Bool) (a n : ℕ) → ((x : ℕ) → x < a + n → test x ≡ true → P x) → Each P (filter test (range_with_len a n))
each_range P test a zero holds = tt
each_range P test a (suc n) holds =
    each_cond P a (filter test (range_with_len (a + 1) n)) (test a) (holds a (omega arith))
    (each_range P test (a + 1) n (λ x less. holds x (omega (arith, less))))

each_flat : (P : ℕ → Type 0) (f : ℕ → List ℕ) (xs : List ℕ) → ((x : ℕ) → Each P (f x)) → Each P (flat_map f xs)
each_flat P f [] all = tt
each_flat P f (x ∷ xs) all = each-append P (f x) (flat_map f xs) (all x) (each_flat P f xs all)

each_take : (P : ℕ → Type 0) (n : ℕ) (xs : List ℕ) → Each P xs → Each P (take n xs)
each_take P zero xs all = tt
each_take P (suc n) [] all = tt
each_take P (suc n) (x ∷ xs) all = (all.0, each_take P n xs all.1)

each_of : (P : ℕ → Type 0) (xs : List ℕ) → ((i : ℕ) → i < length xs → P (slice_index xs i)) → Each P xs
each_of P [] holds = tt
each_of P (x ∷ xs) holds = (holds 0 (omega arith), each_of P xs (λ i less. holds (suc i) (omega (arith, less))))

-- ---- groups

module _ (t : Tables) where
  groups_low : (s : ℕ) → Each (λ g. g < t.groups) (groups_of t s)
  unfolding groups_of
  groups_low s = each_flat (λ g. g < t.groups) (λ o. filter (λ g. is_slot (t.holder g) s && t.ordinal g == o) (range_with_len 0 t.groups)) (range_with_len 0 64)
      (λ o. each_range (λ g. g < t.groups) (λ g. is_slot (t.holder g) s && t.ordinal g == o) 0 t.groups (λ g less is. omega (arith, less)))

  free_low : Each (λ g. g < t.groups) (free_groups t)
  unfolding free_groups
  free_low = each_range (λ g. g < t.groups) (λ g. nat_lt g t.groups && is_none (t.holder g)) 0 t.groups (λ g less is. omega (arith, less))

  free_none : Each (λ g. t.holder g ≡ None) (free_groups t)
  unfolding free_groups
  free_none = each_range (λ g. t.holder g ≡ None) (λ g. nat_lt g t.groups && is_none (t.holder g)) 0 t.groups
      (λ g less is. none_is (t.holder g) (and_parts (nat_lt g t.groups) (is_none (t.holder g)) is).1)
    where
      none_is : (o : Option ℕ) → is_none o ≡ true → o ≡ None
      none_is None is = refl
      none_is (Some s) is = absurd (cc is)

  -- a group belongs to the slot, or to none
  abbrev MayHave : ℕ → ℕ → Type 0
  MayHave s g = (t.holder g ≡ Some s) ⊎ (t.holder g ≡ None)

  each_more : (P Q : ℕ → Type 0) (xs : List ℕ) → ((x : ℕ) → P x → Q x) → Each P xs → Each Q xs
  each_more P Q [] more all = tt
  each_more P Q (x ∷ xs) more all = (more x all.0, each_more P Q xs more all.1)

  planned_may : (s n : ℕ) → Each (MayHave s) (groups_of t s ++ take n (free_groups t))
  planned_may s n = each-append (MayHave s) (groups_of t s) (take n (free_groups t))
      (each_of (MayHave s) (groups_of t s) (λ i less. inl (group_held t s i less)))
      (each_take (MayHave s) n (free_groups t) (each_more (λ g. t.holder g ≡ None) (MayHave s) (free_groups t) (λ g is. inr is) free_none))

  planned_low : (s n : ℕ) → Each (λ g. g < t.groups) (groups_of t s ++ take n (free_groups t))
  planned_low s n =
      each-append (λ g. g < t.groups) (groups_of t s) (take n (free_groups t)) (groups_low s) (each_take (λ g. g < t.groups) n (free_groups t) free_low)

-- ---- lots

-- A lot of the image: its slot and its groups are among those of the image.
pub record IsOfImage (t : Tables) (lot : LotView) : Type 0 where
  pub slot : lot.slot < t.slots
  pub base : lot.base ≡ 32 + 256 * t.slots
  pub low : Each (λ g. g < t.groups) lot.groups

-- and no group of it belongs to another slot
pub record IsPlanned (t : Tables) (lot : LotView) : Type 0 where
  pub of_image : IsOfImage t lot
  pub may : Each (λ g. (t.holder g ≡ Some lot.slot) ⊎ (t.holder g ≡ None)) lot.groups

-- the planned lots are such
pub planned_is : (t : Tables) (s n : ℕ) (lot : LotView) → s < t.slots → lot.slot ≡ s → lot.base ≡ 32 + 256 * t.slots
    → lot.groups ≡ groups_of t s ++ take n (free_groups t) → IsPlanned t lot
planned_is t s n lot less slot base groups = record {
  of_image = record {
    slot = omega (arith, less, slot);
    base = base;
    low = subst (λ (gs : List ℕ). Each (λ g. g < t.groups) gs) (sym groups) (planned_low t s n);
  };
  may = subst (λ (q : ℕ). Each (λ g. (t.holder g ≡ Some q) ⊎ (t.holder g ≡ None)) lot.groups) (sym slot)
      (subst (λ (gs : List ℕ). Each (λ g. (t.holder g ≡ Some s) ⊎ (t.holder g ≡ None)) gs) (sym groups) (planned_may t s n));
}

-- so are those of free groups alone
pub free_is : (t : Tables) (n : ℕ) (lot : LotView) → lot.slot < t.slots → lot.base ≡ 32 + 256 * t.slots → lot.groups ≡ take n (free_groups t) → IsPlanned t lot
free_is t n lot less base groups = record {
  of_image =
      record { slot = less; base = base; low = subst (λ (gs : List ℕ). Each (λ g. g < t.groups) gs) (sym groups) (each_take (λ g. g < t.groups) n (free_groups t) (free_low t)) };
  may = subst (λ (gs : List ℕ). Each (λ g. (t.holder g ≡ Some lot.slot) ⊎ (t.holder g ≡ None)) gs) (sym groups)
      (each_take (λ g. (t.holder g ≡ Some lot.slot) ⊎ (t.holder g ≡ None)) n (free_groups t)
      (each_more t (λ g. t.holder g ≡ None) (λ g. (t.holder g ≡ Some lot.slot) ⊎ (t.holder g ≡ None)) (free_groups t) (λ g is. inr is) (free_none t)));
}

all_below : (base n top : ℕ) (groups : List ℕ) → base + 256 * top ≤ n → Each (λ g. g < top) groups
    → list_all (λ g. nat_le (base + 256 * g + 256) n) groups ≡ true
all_below base n top [] room low = refl
all_below base n top (g ∷ groups) room low =
    let rest = all_below base n top groups room low.1 in
    let first = low.0 in
    let here : base + 256 * g + 256 ≤ n = omega (arith, room, first) in
    grind (arith, nat_tests)

-- a lot of the image lies below the image's end
pub planned_lies : (t : Tables) (lot : LotView) (n : ℕ) → IsOfImage t lot → total t ≤ n → lies_below lot n ≡ true
unfolding lies_below
planned_lies t lot n is room =
    let slot = is.slot in let base = is.base in
    let all = all_below lot.base n t.groups lot.groups (omega (arith, room, base)) is.low in
    let first : area lot + 256 ≤ n = omega (arith, room, slot) in
    grind (arith, nat_tests)

-- and is sited, with 1 to 64 groups
pub planned_sited : (t : Tables) (lot : LotView) (n : ℕ) → IsOfImage t lot → total t ≤ n → 1 ≤ length lot.groups → length lot.groups ≤ 64
    → is_sited lot n ≡ true
unfolding is_sited
planned_sited t lot n is room some few = let lies = planned_lies t lot n is room in grind (arith, nat_tests)

-- its blocks are blocks of the image past the tables
pub planned_high : (t : Tables) (lot : LotView) (k : ℕ) → IsOfImage t lot → extent lot k → 32 ≤ k
planned_high t lot k is here =
    let base = is.base in ⊎_elim (λ inside. omega (arith, inside.0)) (λ group. omega (arith, group.2, base)) (extent_cases lot k here)

pub planned_below : (t : Tables) (lot : LotView) (k : ℕ) → IsOfImage t lot → extent lot k → k < total t
planned_below t lot k is here = extent_below lot (total t) k (planned_lies t lot (total t) is (omega arith)) here

-- the 256 blocks from a multiple on
within : (n k q : ℕ) → n + 256 * q ≤ k → k < n + 256 * q + 256 → (k - n) / 256 ≡ q
within n k q low high = omega (arith, low, high, div-add-mod' (k - n) 256, mod_below (k - n) 256 (omega arith))

-- a block of a planned lot belongs to its slot or to none
planned_owner : (t : Tables) (lot : LotView) (k : ℕ) → IsPlanned t lot → extent lot k → (owner t k ≡ Some lot.slot) ⊎ (owner t k ≡ None)
unfolding owner
planned_owner t lot k is here = ⊎_elim
    (λ inside.
    let least : 32 + 256 * lot.slot ≤ k = inside.0 in
    let most : k < 32 + 256 * lot.slot + 256 = inside.1 in
    let q = within 32 k lot.slot least most in
    let low = is.of_image.slot in
    let below : k < 32 + 256 * t.slots = omega (arith, low, most) in
    inl (grind (arith, nat_tests)))
    (λ group.
    let base = is.of_image.base in
    let g : ℕ = slice_index lot.groups group.0 in
    let least : 32 + 256 * t.slots + 256 * slice_index lot.groups group.0 ≤ k = omega (arith, group.2, base) in
    let most : k < 32 + 256 * t.slots + 256 * slice_index lot.groups group.0 + 256 = omega (arith, group.3, base) in
    let q = within (32 + 256 * t.slots) k (slice_index lot.groups group.0) least most in
    let above : 32 + 256 * t.slots ≤ k = omega (arith, least) in
    ⊎_elim (λ held. inl (grind (arith, nat_tests))) (λ held. inr (grind (arith, nat_tests)))
    (each-at (λ g. (t.holder g ≡ Some lot.slot) ⊎ (t.holder g ≡ None)) lot.groups group.0 is.may group.1))
    (extent_cases lot k here)

-- no other slot's lot has a block of it
pub planned_apart : (t : Tables) (lot : LotView) (y k : ℕ) → IsPlanned t lot → y < t.slots → y ≢ lot.slot → extent (lot_of t y) k → ¬ extent lot k
planned_apart t lot y k is less other there here =
    let own = lot_owner t y k less there in
    ⊎_elim (λ mine. other (some_one (sym own ∙ mine))) (λ none. absurd (cc (sym own ∙ none))) (planned_owner t lot k is here)
  where
    some_one : {a b : ℕ} → Some a ≡ Some b → a ≡ b
    some_one e = cc e
