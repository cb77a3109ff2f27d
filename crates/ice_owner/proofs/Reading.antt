-- What a table whose entries stand in their places says, and which tables are refused.
use Rattle.std.proofs.Common.{◌≡◌, ◌≢◌, ◌∙◌, ◌≤◌, ◌<◌, ◌+◌, ◌*◌, ◌/◌, ◌%◌, inl, inr, ℕ, zero, suc, Bool, true, false, List, [], ◌∷◌, length, Option, Some, None, refl, sym, ap, arith}
use Rattle.std.specs.Prelude.{slice_index, nat_lt, if◌then◌else◌, IsSome}
use Rattle.std.proofs.lemmas.Bool.Decides.{nat_tests}
use Rattle.ice_tables.specs.Tables.{Tables, AreOwners, HasGroups, owner_byte, ordinal_byte, slot_of, ordinal_of, holder_in, ordinal_in}
use Rattle.ice_owner.specs.Owners.{HasOwners, OwnerTables, groups_at, holder, ordinal, is_live, place_of}
use Rattle.ice_owner.specs.Places.{nobody, view_of, AreKept, IsTaken, AreGathered, IsBadEntry}
use Rattle.ice_owner.proofs.Held.{holder_at, holder_none, holder_past}
use Rattle.ice_owner.proofs.Kept.{lot_length, lot_at, is_taken, kept_from}
use Rattle.ice_owner.proofs.Laws.{owners_accepted}

-- no entry yet
pub gathered_none : (m : ℕ → List ℕ) (live : List Bool) (counts places : List ℕ) → length counts ≡ 16 → length places ≡ 1024
    → ((s : ℕ) → slice_index counts s ≡ 0) → ((k : ℕ) → k < 1024 → slice_index places k ≡ nobody) → AreGathered m live 0 counts places
gathered_none m live counts places slots all none empty = record {
  slots = slots;
  all = all;
  few = λ s. omega (arith, none s);
  owned = λ k some low. absurd (some (empty k low));
  placed = λ g s low. absurd (omega (arith, low));
  top = λ s c counted. absurd (omega (arith, counted, none s));
}

-- ---- a table that is accepted

module _ (m : ℕ → List ℕ) (live : List Bool) (n : ℕ) (counts places : List ℕ) (is : AreGathered m live n counts places) (some : 1 ≤ n) (most : n ≤ 1024)
    (full : (k : ℕ) → k < 1024 → IsTaken counts k → slice_index places k ≢ nobody) where
  pub read_kept : AreKept n counts places
  read_kept = kept_from n counts places is.slots is.all is.few some most
      (λ k low taken. (is.owned k (full k low taken) low).low)
      (λ k j low low_too taken also same.
      let a = is.owned k (full k low taken) low in
      let b = is.owned j (full j low_too also) low_too in
      let owner = ap (λ (g : ℕ). owner_byte m g) same in
      let ordinal = ap (λ (g : ℕ). ordinal_byte m g) same in
      omega (arith, a.owner, b.owner, a.ordinal, b.ordinal, owner, ordinal))

  abbrev Says : ℕ → Option ℕ → Type 0
  Says g found = (found ≡ holder (view_of n counts places) g) × (ordinal_of found (ordinal_byte m g) ≡ ordinal (view_of n counts places) g)

  entry_says : (g owner : ℕ) → g < n → owner_byte m g ≡ owner → Says g (slot_of owner)
  entry_says g zero low own =
      let none : holder (view_of n counts places) g ≡ None = holder_none (view_of n counts places) g (λ s o inside at.
      let small : o < slice_index counts s = omega (arith, inside, lot_length n counts places is.slots is.all is.few s) in
      let taken = is_taken n counts places is.slots is.all is.few s o small in
      let here : slice_index places (64 * s + o) ≡ g = sym (lot_at n counts places is.slots is.all is.few s o small) ∙ at in
      let entry = is.owned (64 * s + o) (full (64 * s + o) taken.0 taken.1) taken.0 in
      omega (arith, entry.owner, ap (λ (h : ℕ). owner_byte m h) here, own))
      in
      (sym none, sym (ap (λ (f : Option ℕ). place_of (view_of n counts places) f g) none))
  entry_says g (suc s) low own =
      let e : suc s ≡ s + 1 = omega arith in
      let p = is.placed g s low (own ∙ e) in
      let at = holder_at (view_of n counts places) read_kept.lots s (ordinal_byte m g) g
      (omega (arith, p.counted, lot_length n counts places is.slots is.all is.few s))
      (lot_at n counts places is.slots is.all is.few s (ordinal_byte m g) p.counted ∙ p.place) in
      (sym at.0, sym at.1)

  both_read : (g : ℕ) → Says g (holder_in n m g)
  both_read g = by (nat_lt g n) refl
    where
      by : (b : Bool) → nat_lt g n ≡ b → Says g (if b then slot_of (owner_byte m g) else None)
      by true less = let low : g < n = grind (arith, nat_tests) in entry_says g (owner_byte m g) low refl
      by false less =
          let past : n ≤ g = grind (arith, nat_tests) in
          let none : holder (view_of n counts places) g ≡ None = holder_past (view_of n counts places) read_kept.lots g past in
          (sym none, sym (ap (λ (f : Option ℕ). place_of (view_of n counts places) f g) none))

  pub holders_read : (g : ℕ) → holder_in n m g ≡ holder (view_of n counts places) g
  holders_read g = (both_read g).0

  pub ordinals_read : (g : ℕ) → ordinal_in n m g ≡ ordinal (view_of n counts places) g
  ordinals_read g = (both_read g).1

  pub read_accepted : ((s : ℕ) → is_live live s ≡ true → 0 < slice_index counts s) → ((g : ℕ) → n ≤ g → g < 1024 → owner_byte m g ≡ 0)
      → (t : Tables) → OwnerTables n live m t → AreOwners t m
  read_accepted bare past t said =
      owners_accepted (view_of n counts places) t m read_kept.lots has
      (λ s row none. omega (arith, bare s (said.row_live s row), ap length none, lot_length n counts places is.slots is.all is.few s))
      (λ s groups. taken s groups (slice_index counts s) refl)
      past
    where
      has : HasOwners (view_of n counts places) t
      has = record { groups = said.groups; holder = λ g. said.holder g ∙ holders_read g; ordinal = λ g. said.ordinal g ∙ ordinals_read g }

      length_none : (xs : List ℕ) → length xs ≡ 0 → xs ≡ []
      length_none [] none = refl
      length_none (x ∷ xs) none = absurd (omega (arith, none))

      taken : (s : ℕ) → groups_at (view_of n counts places) s ≢ [] → (count : ℕ) → slice_index counts s ≡ count → IsSome (t.row s)
      taken s groups zero count = absurd (groups (length_none (groups_at (view_of n counts places) s)
          (lot_length n counts places is.slots is.all is.few s ∙ count)))
      taken s groups (suc c) count =
          let e : suc c ≡ c + 1 = omega arith in
          let top = is.top s c (count ∙ e) in
          said.has_row s (is.placed top.0 s top.1 top.2).kept

-- ---- tables that are refused

module _ (m : ℕ → List ℕ) (live : List Bool) (n : ℕ) (t : Tables) (said : OwnerTables n live m t) (owners : AreOwners t m) where
  told : (g s : ℕ) → g < n → owner_byte m g ≡ s + 1 → (t.holder g ≡ Some s) × (t.ordinal g ≡ ordinal_byte m g)
  told g s low own =
      let less : nat_lt g n ≡ true = grind (arith, nat_tests) in
      let e : owner_byte m g ≡ suc s = omega (arith, own) in
      let held : holder_in n m g ≡ Some s = ap (λ (b : Bool). if b then slot_of (owner_byte m g) else None) less ∙ ap slot_of e in
      (said.holder g ∙ held, said.ordinal g ∙ ap (λ (o : Option ℕ). ordinal_of o (ordinal_byte m g)) held)

  untold : (g s : ℕ) → t.holder g ≡ Some s → (g < n) × (owner_byte m g ≡ s + 1) × (t.ordinal g ≡ ordinal_byte m g)
  untold g s held = by (nat_lt g n) refl (sym (said.holder g) ∙ held)
    where
      owner : (own : ℕ) → slot_of own ≡ Some s → own ≡ s + 1
      owner zero is = absurd (cc is)
      owner (suc r) is = let same : r ≡ s = cc in omega (arith, same)

      by : (b : Bool) → nat_lt g n ≡ b → (if b then slot_of (owner_byte m g) else None) ≡ Some s
          → (g < n) × (owner_byte m g ≡ s + 1) × (t.ordinal g ≡ ordinal_byte m g)
      by true less is =
          let low : g < n = grind (arith, nat_tests) in
          let own = owner (owner_byte m g) is in
          (low, own, (told g s low own).1)
      by false less is = absurd (cc is)

  alive : (g s : ℕ) → t.holder g ≡ Some s → is_live live s ≡ true
  alive g s held = said.row_live s (owners.live g s held)

  pub bad_refused : (g s : ℕ) → g < n → owner_byte m g ≡ s + 1 → IsBadEntry m live g s → ⊥
  bad_refused g s low own bad = by bad
    where
      by : IsBadEntry m live g s → ⊥
      by (inl dead) = cc (dead, alive g s (told g s low own).0)
      by (inr (inl high)) =
          let here = told g s low own in
          let has = owners.groups s (owners.live g s here.0) in
          omega (arith, (has.1).below g here.0, (has.1).few, here.1, high)
      by (inr (inr twice)) =
          let here = told g s low own in
          let there = told twice.0 s (omega (arith, twice.1, low)) twice.2 in
          let has = owners.groups s (owners.live g s here.0) in
          let same = (has.1).once g twice.0 here.0 there.0 (here.1 ∙ sym twice.3 ∙ sym there.1) in
          omega (arith, same, twice.1)

  module _ (counts places : List ℕ) (is : AreGathered m live n counts places) (most : n ≤ 1024) where
    -- an ordinal of a slot that is accepted has its place
    has_place : (s o k : ℕ) → HasGroups t s k → o < k → (o < slice_index counts s) × (slice_index places (64 * s + o) ≢ nobody)
    has_place s o k has low =
        let each = has.each o low in
        let there = untold each.0 s each.1 in
        let p = is.placed each.0 s there.0 there.1 in
        let e : ordinal_byte m each.0 ≡ o = sym there.2 ∙ each.2 in
        let at : slice_index places (64 * s + o) ≡ each.0 = ap (λ (i : ℕ). slice_index places (64 * s + i)) (sym e) ∙ p.place in
        (omega (arith, p.counted, e), λ nothing. omega (arith, nothing, at, there.0, most))

    pub gap_refused : (k : ℕ) → IsTaken counts k → slice_index places k ≡ nobody → ⊥
    gap_refused k taken nothing = by (slice_index counts (k / 64)) refl
      where
        by : (count : ℕ) → slice_index counts (k / 64) ≡ count → ⊥
        by zero count = omega (arith, taken, count)
        by (suc c) count =
            let e : suc c ≡ c + 1 = omega arith in
            let top = is.top (k / 64) c (count ∙ e) in
            let held = told top.0 (k / 64) top.1 top.2 in
            let has = owners.groups (k / 64) (owners.live top.0 (k / 64) held.0) in
            let below = (has.1).below top.0 held.0 in
            let place = has_place (k / 64) (k % 64) has.0 has.1 (omega (arith, below, held.1, top.3, count, taken)) in
            let at : 64 * (k / 64) + k % 64 ≡ k = omega arith in
            place.1 (ap (λ (j : ℕ). slice_index places j) at ∙ nothing)

    pub bare_refused : (s : ℕ) → is_live live s ≡ true → slice_index counts s ≡ 0 → ⊥
    bare_refused s lives none =
        let has = owners.groups s (said.has_row s lives) in
        let place = has_place s 0 has.0 has.1 (omega (arith, (has.1).some)) in
        omega (arith, place.0, none)
