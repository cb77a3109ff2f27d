-- What a lot with further groups has.
use Rattle.std.proofs.Common.{◌≡◌, ◌∙◌, inl, inr, ◌≤◌, ◌<◌, ◌+◌, ◌-◌, ◌*◌, ◌/◌, ◌%◌, ◌==◌, ◌&&◌, ◌++◌, ℕ, Bool, true, false, List, [], ◌∷◌, length, length-append, slice_index, Option, Some, None, ⊎_elim, refl, sym, ap, subst, arith}
use Rattle.std.specs.Prelude.{cond, if◌then◌else◌, unwrap_or}
use Rattle.std.specs.List.{list_all}
use Rattle.std.specs.Option.{option_map}
use Rattle.std.proofs.lemmas.Bool.{cases_Bool}
use Rattle.std.proofs.lemmas.Bool.Decides.{nat_tests}
use Rattle.std.proofs.lemmas.List.{get_or_append_left}
use Rattle.std.proofs.lemmas.Nat.{div-add-mod', div_below, mod_below}
use Rattle.ice_base.specs.Disk.{AgreesOn, DiskState, Image, block}
use Rattle.ice_base.specs.Fields.{word_at}
use Rattle.ice_base.specs.Frames.{Every, Sure}
use Rattle.ice_base.specs.Lots.{LotView, IsLot, extent, gate_place, header_place, homes, inside, is_address, place}
use Rattle.ice_base.proofs.Frame.{agrees_fewer}
use Rattle.ice_base.proofs.LotLaws.{address_cases, area_in, extent_cases, inside_at, is_address_at, is_address_sub, place-group, place-in, place-sub}
use Rattle.ice_layout.specs.Headers.{all_differ, is_open, slot_magic, slot_targets, targets_in, targets_of}
use Rattle.ice_layout.specs.Geometry.{between}
use Rattle.ice_layout.specs.Subs.{fresh_bitmap}
use Rattle.ice_tables.specs.Journals.{effective_of, lot_places, replayed}
use Rattle.ice_tables.proofs.JournalLaws.{lot_blocks_homes}
use Rattle.ice_txn.specs.declared.set.Entry.{Entry}
use Rattle.ice_txn.specs.Sets.{holds, over}
use Rattle.ice_txn.proofs.SetLaws.{over_free}
use Rattle.ice_journal.specs.Blocks.{AreHomes}
use Rattle.ice_journal.specs.Rests.{LotAtRest, RestsLot}
use Rattle.ice_reads.specs.Tables.{Map}
use Rattle.tree_spec.specs.Costs.{Form}
use Rattle.tree_spec.specs.Records.{History, Mode}
use Rattle.ice_cube.specs.Cubes.{HasHistory, Holds}
use Rattle.ice_cube.specs.Fresh.{HasFreshGroups}
use Rattle.ice_cube.specs.Wider.{HasNewGroups, IsWider}
use Rattle.ice_cube.proofs.FreshLoops.{head_address, head_below}
use Rattle.ice_cube.proofs.WideReads.{recovers_group, recovers_more}

differ : true ≡ false → ⊥
differ e = cc

-- ---- headers and effective blocks

-- a list that is found stays found under a weaker test
picked : {X : Type 0} (p q : Bool) (x y : X) → (p ≡ true → q ≡ true) → (if p then Some x else None) ≡ Some y → (if q then Some x else None) ≡ Some y
picked true q x y weaker e = let t : q ≡ true = weaker refl in rw t e
picked false q x y weaker e = absurd (cc e)

fits_more : (a b c d : Bool) → (c ≡ true → d ≡ true) → (a && (c && b)) ≡ true → (a && (d && b)) ≡ true
fits_more true true true d weaker h = let t : d ≡ true = weaker refl in rw t refl
fits_more true true false d weaker h = absurd (cc h)
fits_more true false true d weaker h = absurd (cc h)
fits_more true false false d weaker h = absurd (cc h)
fits_more false b c d weaker h = absurd (cc h)

all_more : (p q : ℕ → Bool) → ((a : ℕ) → p a ≡ true → q a ≡ true) → (xs : List ℕ) → list_all p xs ≡ true → list_all q xs ≡ true
all_more p q weaker [] h = refl
all_more p q weaker (x ∷ xs) h =
    let first : p x ≡ true = grind arith in
    let others : list_all p xs ≡ true = grind arith in
    let here = weaker x first in
    let rest = all_more p q weaker xs others in
    grind arith

targets_weaker : (most : ℕ) (p q : ℕ → Bool) (header : List ℕ) (n : ℕ) (ts : List ℕ) → ((a : ℕ) → p a ≡ true → q a ≡ true)
    → targets_of most p header n ≡ Some ts → targets_of most q header n ≡ Some ts
targets_weaker most p q header n ts weaker e =
    let us = targets_in header n in
    picked (between 1 most n && (list_all p us && all_differ us)) (between 1 most n && (list_all q us && all_differ us)) us ts
    (fits_more (between 1 most n) (all_differ us) (list_all p us) (list_all q us) (all_more p q weaker us)) e

-- A header that is accepted for a lot is accepted for one of the same slot with more addresses.
targets_more : (old lot : LotView) (header ts : List ℕ) → lot.slot ≡ old.slot → ((a : ℕ) → is_address old a ≡ true → is_address lot a ≡ true)
    → slot_targets old header ≡ Some ts → slot_targets lot header ≡ Some ts
unfolding slot_targets
targets_more old lot header ts slot more e =
    let mark = ap (λ (x : ℕ). word_at header 0 == slot_magic && slice_index header 4 == x) slot in
    by (word_at header 0 == slot_magic && slice_index header 4 == old.slot) (word_at header 0 == slot_magic && slice_index header 4 == lot.slot) mark e
  where
    by : (b c : Bool) → c ≡ b → (if b then targets_of 240 (is_address old) header (word_at header 8) else None) ≡ Some ts
        → (if c then targets_of 240 (is_address lot) header (word_at header 8) else None) ≡ Some ts
    by true true same e = targets_weaker 240 (is_address old) (is_address lot) header (word_at header 8) ts more e
    by true false same e = absurd (cc same)
    by false c same e = absurd (cc e)

found_homes : {X : Type 0} (a b c : Bool) (x y : X) → (if a && (b && c) then Some x else None) ≡ Some y → (b ≡ true) × (y ≡ x)
found_homes true true true x y e = (refl, sym (ap (λ o. unwrap_or o x) e))
found_homes true true false x y e = absurd (cc e)
found_homes true false c x y e = absurd (cc e)
found_homes false b c x y e = absurd (cc e)

-- and its targets are addresses
targets_homes : (lot : LotView) (header ts : List ℕ) → slot_targets lot header ≡ Some ts → list_all (is_address lot) ts ≡ true
unfolding slot_targets
targets_homes lot header ts e = by (word_at header 0 == slot_magic && slice_index header 4 == lot.slot) e
  where
    by : (b : Bool) → (if b then targets_of 240 (is_address lot) header (word_at header 8) else None) ≡ Some ts → list_all (is_address lot) ts ≡ true
    by false e = absurd (cc e)
    by true e =
        let us = targets_in header (word_at header 8) in
        let found = found_homes (between 1 240 (word_at header 8)) (list_all (is_address lot) us) (all_differ us) us ts e in
        ap (λ (xs : List ℕ). list_all (is_address lot) xs) found.1 ∙ found.0

-- the effective blocks of an open journal
effective_open : (lot : LotView) (i : Image) (o : Option (List ℕ)) → is_open (block i (gate_place lot)) ≡ true
    → slot_targets lot (block i (header_place lot)) ≡ o
    → effective_of lot i ≡ option_map (λ m. inside lot m) (option_map (λ ts. replayed (place lot) ts (35 + 256 * lot.slot) i) o)
unfolding effective_of
effective_open lot i o gate header = rw (gate, header) refl

replayed_at : (p q : ℕ → ℕ) (ts : List ℕ) (body : ℕ) (i : Image) (a : ℕ) → q a ≡ p a → replayed q ts body i a ≡ replayed p ts body i a
replayed_at p q [] body i a e = ap (block i) e
replayed_at p q (t ∷ ts) body i a e = ap (λ x. if t == a then block i body else x) (replayed_at p q ts (body + 1) i a e)

-- an address that is no target has its home
replayed_home : (p : ℕ → ℕ) (home : ℕ → Bool) (ts : List ℕ) (body : ℕ) (i : Image) (a : ℕ) → list_all home ts ≡ true → home a ≡ false
    → replayed p ts body i a ≡ block i (p a)
replayed_home p home [] body i a all free = refl
replayed_home p home (t ∷ ts) body i a all free =
    let first : home t ≡ true = grind arith in
    let others : list_all home ts ≡ true = grind arith in
    let rest = replayed_home p home ts (body + 1) i a others free in
    elim (t == a) as (λ b. (t == a) ≡ b → (if b then block i body else replayed p ts (body + 1) i a) ≡ block i (p a)) [
      | true ↦ λ e. let same : t ≡ a = grind (arith, nat_tests) in absurd (differ (sym first ∙ ap home same ∙ free))
      | false ↦ λ e. rest
    ] refl

-- maps that agree at an address, with entries in place
over_at : (entries : List Entry) (m n : ℕ → List ℕ) (a : ℕ) → n a ≡ m a → over entries n a ≡ over entries m a
unfolding over
over_at [] m n a e = e
over_at (x ∷ xs) m n a e = ap (λ y. cond (x.at == a) x.block y) (over_at xs m n a e)

some_of : (m n : ℕ → List ℕ) → Some m ≡ Some n → n ≡ m
some_of m n e = sym (ap (λ o. unwrap_or o m) e)

-- ---- a lot and its further groups

-- the blocks of a group are blocks of its lot
group_in : (lot : LotView) (o r : ℕ) → IsLot lot → o < length lot.groups → r < 256 → extent lot (lot.base + 256 * slice_index lot.groups o + r)
group_in lot o r l ho hr =
    let small = l.few in
    let below : 256 * o + r < 256 * length lot.groups = omega (arith, ho, hr) in
    let parts = div-add-mod' (256 * o + r) 256 in
    let low = mod_below (256 * o + r) 256 (omega arith) in
    let ordinal : (256 * o + r) / 256 ≡ o = omega (arith, parts, low, hr) in
    let rest : (256 * o + r) % 256 ≡ r = omega (arith, parts, low, hr, ordinal) in
    let home = place-group lot (256 * o + r) (λ e. omega (arith, e, below, small)) in
    let same = ap (slice_index lot.groups) ordinal in
    let at : place lot (256 * o + r) ≡ lot.base + 256 * slice_index lot.groups o + r = omega (arith, home, same, rest) in
    subst (extent lot) at (place-in lot (256 * o + r) (is_address_at lot (256 * o + r) below))

-- the effective blocks of a wider lot in an image: those of the old one, and the homes of the further addresses
record Widens (old lot : LotView) (i : Image) (m : Map) : Type 0 where
  pub map : Map
  pub effective : effective_of lot i ≡ Some map
  pub same : (a : ℕ) → is_address old a ≡ true → map a ≡ m a
  pub rest : (a : ℕ) → is_address lot a ≡ true → is_address old a ≡ false → map a ≡ block i (place lot a)

-- the lot with these groups more
abbrev pub wide : LotView → List ℕ → LotView
wide old more = record { slot = old.slot; base = old.base; groups = old.groups ++ more }

wide_is : (old lot : LotView) (w : IsWider old lot) → wide old w.more ≡ lot
wide_is old lot w = sym (λ j. record { slot = w.slot j; base = w.base j; groups = w.groups j })

module _ (old : LotView) (more : List ℕ) (l : IsLot (wide old more)) where
  abbrev lot : LotView
  lot = wide old more

  few : length old.groups ≤ length lot.groups
  few = omega (arith, length-append old.groups more)

  address_more : (a : ℕ) → is_address old a ≡ true → is_address lot a ≡ true
  address_more a h = ⊎_elim
      (λ e. subst (λ (x : ℕ). is_address lot x ≡ true) (sym e) (is_address_sub lot))
      (λ low. let less = low.1 in is_address_at lot a (omega (arith, few, less)))
      (address_cases old a h)

  group_same : (o : ℕ) → o < length old.groups → slice_index lot.groups o ≡ slice_index old.groups o
  group_same o h = get_or_append_left old.groups more 0 o h

  -- the addresses of the old lot have the blocks that they had
  place_same : (a : ℕ) → is_address old a ≡ true → place lot a ≡ place old a
  place_same a h = ⊎_elim
      (λ e. place-sub lot a e ∙ sym (place-sub old a e))
      (λ low.
      let same = group_same (a / 256) (div_below a 256 (length old.groups) (omega arith) (omega (arith, low.1))) in
      place-group lot a low.0 ∙ ap (λ (g : ℕ). old.base + 256 * g + a % 256) same ∙ sym (place-group old a low.0))
      (address_cases old a h)

  -- the blocks of the old lot are blocks of the wider one
  extent_more : (k : ℕ) → extent old k → extent lot k
  extent_more k is = ⊎_elim
      (λ at. area_in lot k at.0 at.1)
      (λ group.
      let from = group.2 in
      let to = group.3 in
      let inside_old = group.1 in
      let same = group_same group.0 inside_old in
      let here = group_in lot group.0 (k - (old.base + 256 * slice_index old.groups group.0)) l (omega (arith, inside_old, few)) (omega (arith, from, to)) in
      let at : old.base + 256 * slice_index lot.groups group.0 + (k - (old.base + 256 * slice_index old.groups group.0)) ≡ k = omega (arith, from, same) in
      subst (extent lot) at here)
      (extent_cases old k is)

  -- a further address has no block of the old lot
  new_apart : (a : ℕ) → is_address lot a ≡ true → is_address old a ≡ false → ¬ extent old (place lot a)
  new_apart a is free within = ⊎_elim
      (λ e. absurd (differ (sym (is_address_sub old) ∙ ap (is_address old) (sym e) ∙ free)))
      (λ high.
      let less = high.1 in
      let low = l.low in
      let from : 256 * length old.groups ≤ a = at_least a free in
      let parts = div-add-mod' a 256 in
      let rest = mod_below a 256 (omega arith) in
      let home = place-group lot a high.0 in
      ⊎_elim
      (λ at. let top = at.1 in omega (arith, low, home, top))
      (λ group.
      let first = group.2 in
      let last = group.3 in
      let same = group_same group.0 group.1 in
      l.apart group.0 (a / 256) (omega (arith, group.1, from, parts, rest)) (omega (arith, less, parts, rest)) (omega (arith, home, first, last, same, rest)))
      (extent_cases old (place lot a) within))
      (address_cases lot a is)
    where
      at_least : (a : ℕ) → is_address old a ≡ false → 256 * length old.groups ≤ a
      at_least a free = omega (arith, (λ (h : a < 256 * length old.groups). differ (sym (is_address_at old a h) ∙ free)))

  -- the heads of further groups are no addresses of the old lot
  head_new : (o p : ℕ) → length old.groups ≤ o → o < length lot.groups → p < 9 → is_address old (256 * o + p) ≡ false
  head_new o p low high hp = elim (cases_Bool (is_address old (256 * o + p))) [
    | inl is ↦ absurd (⊎_elim
        (λ e. let small = l.few in omega (arith, e, head_below o p (length lot.groups) high hp, small))
        (λ below. let less = below.1 in omega (arith, less, low))
        (address_cases old (256 * o + p) is))
    | inr free ↦ free
  ]

  -- ---- effective blocks

  widens : (i : Image) (m : Map) → effective_of old i ≡ Some m → Widens old lot i m
  widens i m e = elim (cases_Bool (is_open (block i (gate_place old)))) [
    | inl gate ↦ opened gate (slot_targets old (block i (header_place old))) refl
    | inr gate ↦ closed gate
  ]
    where
      closed : is_open (block i (gate_place old)) ≡ false → Widens old lot i m
      closed gate =
          let is : m ≡ inside old (homes old i) = some_of (inside old (homes old i)) m (sym (lot_blocks_homes old i gate) ∙ e) in
          record {
            map = inside lot (homes lot i);
            effective = lot_blocks_homes lot i gate;
            same = λ a h. inside_at lot (homes lot i) a (address_more a h) ∙ ap (block i) (place_same a h)
                ∙ sym (inside_at old (homes old i) a h) ∙ sym (ap (λ (n : Map). n a) is);
            rest = λ a h free. inside_at lot (homes lot i) a h;
          }

      opened : is_open (block i (gate_place old)) ≡ true → (o : Option (List ℕ)) → slot_targets old (block i (header_place old)) ≡ o → Widens old lot i m
      opened gate None header = absurd (let never : None ≡ Some m = sym (effective_open old i None gate header) ∙ e in cc never)
      opened gate (Some ts) header =
          let body = 35 + 256 * old.slot in
          let before = replayed (place old) ts body i in
          let now = replayed (place lot) ts body i in
          let is : m ≡ inside old before = some_of (inside old before) m (sym (effective_open old i (Some ts) gate header) ∙ e) in
          record {
            map = inside lot now;
            effective = effective_open lot i (Some ts) gate (targets_more old lot (block i (header_place old)) ts refl address_more header);
            same = λ a h. inside_at lot now a (address_more a h) ∙ replayed_at (place old) (place lot) ts body i a (place_same a h)
                ∙ sym (inside_at old before a h) ∙ sym (ap (λ (n : Map). n a) is);
            rest = λ a h free. inside_at lot now a h
                ∙ replayed_home (place lot) (is_address old) ts body i a (targets_homes old (block i (header_place old)) ts header) free;
          }

  -- ---- what is recovered

  -- the bitmaps of the further groups are fresh
  fresh_bitmaps : (i : Image) (m : Map) (v : Widens old lot i m) → 1 ≤ length old.groups → HasFreshGroups lot (length old.groups) i
      → (o : ℕ) → length old.groups ≤ o → o < length lot.groups → v.map (256 * o) ≡ fresh_bitmap false
  fresh_bitmaps i m v some new o low high =
      let later : (o == 0) ≡ false = grind (arith, nat_tests) in
      let first : 256 * o + 0 ≡ 256 * o = omega arith in
      let here = v.rest (256 * o + 0) (head_address lot o 0 high (omega arith)) (head_new o 0 low high (omega arith)) ∙ new o low high 0 (omega arith) in
      ap v.map (sym first) ∙ here ∙ ap (λ (b : Bool). fresh_bitmap b) later

  -- what the old lot has in an image with fresh further groups, the wider one has
  history_more : (f : Form) (mode : Mode) (h : History) (i : Image) → HasFreshGroups lot (length old.groups) i
      → HasHistory old f mode h i → HasHistory lot f mode h i
  history_more f mode h i new has =
      let r = has.2 in
      let v = widens i r.blocks r.effective in
      let some = recovers_group f _ old r.blocks _ _ r.recovers in (
        has.0,
        has.1,
        record {
          form = r.form;
          blocks = v.map;
          effective = v.effective;
          recovers = recovers_more f _ old lot r.blocks v.map _ _ refl few v.same (fresh_bitmaps i r.blocks v some new) r.recovers;
        },
      )

  module _ (s : DiskState) (new : HasNewGroups old lot s) where
    -- each image that a crash leaves has the further groups fresh
    fresh_left : (i : Image) → AgreesOn (extent lot) s i → HasFreshGroups lot (length old.groups) i
    fresh_left i agrees o low high p hp =
        let k = place lot (256 * o + p) in
        let within = place-in lot (256 * o + p) (head_address lot o p high hp) in
        let apart = new_apart (256 * o + p) (head_address lot o p high hp) (head_new o p low high hp) in
        agrees.same k within (new.settled.settled k (within, apart)) ∙ new.fresh o low high p hp

    every_more : (f : Form) (mode : Mode) (h : History) → Every (extent old) s (HasHistory old f mode h) → Every (extent lot) s (HasHistory lot f mode h)
    every_more f mode h every i agrees =
        history_more f mode h i (fresh_left i agrees) (every i (agrees_fewer (extent lot) (extent old) s i extent_more agrees))

    rest_more : (m : Map) (v : Widens old lot s.now m) → Sure (RestsLot old) (LotAtRest old m) s → Sure (RestsLot lot) (LotAtRest lot v.map) s
    rest_more m v sure = record {
      settled = record { told = sure.settled.told; settled = by };
      now = record { gate = sure.now.gate; blocks = v.effective };
    }
      where
        by : (k : ℕ) → RestsLot lot k → s.loose k ≡ false
        by k (inl gate) = sure.settled.settled k (inl gate)
        by k (inr home) = elim (cases_Bool (is_address old home.0)) [
          | inl is ↦ sure.settled.settled k (inr (home.0, is, home.2 ∙ place_same home.0 is))
          | inr free ↦ new.settled.settled k (
            subst (extent lot) (sym home.2) (place-in lot home.0 home.1),
            λ within. new_apart home.0 home.1 free (subst (extent old) home.2 within),
          )
        ]

    over_bitmaps : (m : Map) (v : Widens old lot s.now m) (set : List Entry) → AreHomes (lot_places old) set → 1 ≤ length old.groups
        → (o : ℕ) → length old.groups ≤ o → o < length lot.groups → over set v.map (256 * o) ≡ fresh_bitmap false
    over_bitmaps m v set homes some o low high = elim (cases_Bool (holds set (256 * o))) [
      | inl held ↦ absurd (differ (sym (homes (256 * o) held) ∙ ap (is_address old) (sym first) ∙ head_new o 0 low high (omega arith)))
      | inr free ↦ over_free set v.map (256 * o) free ∙ fresh_bitmaps s.now m v some new.fresh o low high
    ]
      where
        first : 256 * o + 0 ≡ 256 * o
        first = omega arith

    cube_more : (f : Form) (mode : Mode) (h : History) (set : List Entry) (done : ℕ) (stopped : Bool) → AreHomes (lot_places old) set
        → Holds f mode h (record { lot = old; set = set; done = done; stopped = stopped }) s
        → Holds f mode h (record { lot = lot; set = set; done = done; stopped = stopped }) s
    cube_more f mode h set done stopped homes holds = record {
      lasts = every_more f mode h holds.lasts;
      runs = λ live.
          let r = holds.runs live in
          let v = widens s.now r.map r.rest.now.blocks in
          let some = recovers_group f _ old r.map _ _ r.base in
          record {
            form = r.form;
            map = v.map;
            rest = rest_more r.map v r.rest;
            back = r.back;
            few = r.few;
            base = recovers_more f _ old lot r.map v.map _ _ refl few v.same (fresh_bitmaps s.now r.map v some new.fresh) r.base;
            running = recovers_more f _ old lot (over set r.map) (over set v.map) _ _ refl few
                (λ a is. over_at set r.map v.map a (v.same a is)) (over_bitmaps r.map v set homes some) r.running;
            count = r.count;
          };
    }

-- ---- any wider lot

-- What a lot has, a wider lot has as well.
pub wider_has : (old lot : LotView) (f : Form) (mode : Mode) (h : History) (s : DiskState) → IsWider old lot → HasNewGroups old lot s
    → Every (extent old) s (HasHistory old f mode h) → Every (extent lot) s (HasHistory lot f mode h)
wider_has old lot f mode h s w = subst (λ (x : LotView). IsLot x → HasNewGroups old x s
    → Every (extent old) s (HasHistory old f mode h) → Every (extent x) s (HasHistory x f mode h)) (wide_is old lot w)
    (λ l new every. every_more old w.more l s new f mode h every) w.is_lot

-- What a cube holds, it holds with a wider lot.
pub wider_holds : (old lot : LotView) (f : Form) (mode : Mode) (h : History) (set : List Entry) (done : ℕ) (stopped : Bool) (s : DiskState) → IsWider old lot
    → AreHomes (lot_places old) set → HasNewGroups old lot s → Holds f mode h (record { lot = old; set = set; done = done; stopped = stopped }) s
    → Holds f mode h (record { lot = lot; set = set; done = done; stopped = stopped }) s
wider_holds old lot f mode h set done stopped s w homes = subst (λ (x : LotView). IsLot x → HasNewGroups old x s
    → Holds f mode h (record { lot = old; set = set; done = done; stopped = stopped }) s
    → Holds f mode h (record { lot = x; set = set; done = done; stopped = stopped }) s)
    (wide_is old lot w) (λ l new holds. cube_more old w.more l s new f mode h set done stopped homes holds) w.is_lot

-- What a cube holds back has addresses of a wider lot.
pub wider_homes : (old lot : LotView) (set : List Entry) → IsWider old lot → AreHomes (lot_places old) set → AreHomes (lot_places lot) set
wider_homes old lot set w = subst (λ (x : LotView). IsLot x → AreHomes (lot_places old) set → AreHomes (lot_places x) set) (wide_is old lot w)
    (λ l homes a held. address_more old w.more l a (homes a held)) w.is_lot
