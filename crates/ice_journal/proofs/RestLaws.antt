-- A lot at rest, and one whose journal is open, by their effective blocks.
use Rattle.std.proofs.Common.{◌≡◌, ◌⊎◌, inl, inr, ⊎_elim, ◌≤◌, ◌==◌, ℕ, Bool, true, false, List, [], ◌∷◌, length, slice_index, Option, Some, None, refl, sym, ◌∙◌, ap, subst, arith}
use Rattle.std.specs.Prelude.{if◌then◌else◌, ◌&&◌, unwrap_or}
use Rattle.std.specs.List.{list_all}
use Rattle.std.proofs.lemmas.Bool.Decides.{nat_tests}
use Rattle.std.specs.Option.{option_map}
use Rattle.std.proofs.Math.Path.{fun_ext}
use Rattle.std.proofs.lemmas.Bool.{cases_Bool}
use Rattle.ice_base.specs.Disk.{Image, block}
use Rattle.ice_base.specs.Frames.{RestsOn}
use Rattle.ice_base.specs.Lots.{LotView, is_address, place, inside, inside_out, homes, extent, gate_place, header_place}
use Rattle.ice_base.proofs.LotLaws.{inside_at, inside_same, place-in, gate_in}
use Rattle.ice_base.specs.Fields.{word_at}
use Rattle.ice_layout.specs.Headers.{is_open, all_differ, slot_magic, slot_targets, targets_in, targets_of}
use Rattle.ice_layout.specs.Geometry.{between}
use Rattle.ice_layout.proofs.HeaderLaws.{targets-length}
use Rattle.ice_tables.specs.Journals.{effective, effective_of, lot_places, replayed}
use Rattle.ice_txn.specs.declared.set.Entry.{Entry}
use Rattle.ice_txn.specs.Sets.{holds, over}
use Rattle.ice_txn.proofs.SetLaws.{over_free}
use Rattle.ice_journal.specs.Blocks.{AreHomes}
use Rattle.ice_journal.specs.Phases.{BeforeOrAfter, Idle, IsPending}
use Rattle.ice_journal.specs.Rests.{BlocksEither, LotAtRest, RestsLot}
use Rattle.ice_journal.specs.Shown.{are_some, shown, targets_now}
use Rattle.ice_journal.proofs.JournalLaws.{effective_shown}
use Rattle.ice_journal.proofs.PhaseLaws.{idle_rests, idle_stands}
use Rattle.ice_journal.proofs.StandLaws.{idle_closed, lot_effective, effective_stands}

-- ---- maps of the lot's addresses

inside-twice : (lot : LotView) (m : ℕ → List ℕ) → inside lot (inside lot m) ≡ inside lot m
inside-twice lot m = fun_ext (λ a. inside_same lot m (inside lot m) a (λ is. inside_at lot m a is))

some-of : (m n : ℕ → List ℕ) → Some m ≡ Some n → n ≡ m
some-of m n e = sym (ap (λ o. unwrap_or o m) e)

-- Effective blocks have none outside the lot.
pub effective_inside : (lot : LotView) (map : ℕ → List ℕ) (i : Image) → effective_of lot i ≡ Some map → inside lot map ≡ map
unfolding effective_of
effective_inside lot map i e = go (effective (slot_targets lot) (lot_places lot) i) e
  where
    go : (o : Option (ℕ → List ℕ)) → option_map (λ m. inside lot m) o ≡ Some map → inside lot map ≡ map
    go None e = absurd (cc e)
    go (Some m) e = let is : map ≡ inside lot m = some-of (inside lot m) map e in ap (inside lot) is ∙ inside-twice lot m ∙ sym is

-- Nor has such a map with entries of the lot in place.
pub over_inside : (lot : LotView) (entries : List Entry) (map : ℕ → List ℕ) → AreHomes (lot_places lot) entries → inside lot map ≡ map
    → inside lot (over entries map) ≡ over entries map
over_inside lot entries map homes is = fun_ext (λ a. by a (cases_Bool (is_address lot a)))
  where
    by : (a : ℕ) → (is_address lot a ≡ true) ⊎ (is_address lot a ≡ false) → inside lot (over entries map) a ≡ over entries map a
    by a (inl here) = inside_at lot (over entries map) a here
    by a (inr out) = elim (cases_Bool (holds entries a)) [
      | inl held ↦ absurd (let t : is_address lot a ≡ true = homes a held in cc)
      | inr free ↦
          inside_out lot (over entries map) a out ∙ sym (over_free entries map a free ∙ sym (ap (λ (m : ℕ → List ℕ). m a) is) ∙ inside_out lot map a out)
    ]

-- ---- at rest

-- A lot at rest has its journal at rest with this map,
pub rest_idle : (lot : LotView) (map : ℕ → List ℕ) (i : Image) → LotAtRest lot map i → Idle (lot_places lot) map i
rest_idle lot map i rest = idle_closed (slot_targets lot) (lot_places lot) map i rest.gate (effective_stands lot map i rest.blocks)

-- and the other way round.
pub idle_rest : (lot : LotView) (map : ℕ → List ℕ) (i : Image) → inside lot map ≡ map → Idle (lot_places lot) map i → LotAtRest lot map i
idle_rest lot map i is idle = record {
  gate = idle.gate;
  blocks = lot_effective lot map i (idle_stands (slot_targets lot) (lot_places lot) [] map i idle) ∙ ap (λ (m : ℕ → List ℕ). Some m) is;
}

-- Its effective blocks are its homes.
pub rest_homes : (lot : LotView) (map : ℕ → List ℕ) (i : Image) → LotAtRest lot map i → inside lot (homes lot i) ≡ map
rest_homes lot map i rest =
    fun_ext (λ a. inside_same lot map (homes lot i) a (λ is. (rest_idle lot map i rest).homes a is)) ∙ effective_inside lot map i rest.blocks

-- That it is at rest rests on the gate and the homes, which are blocks of the lot.
pub rest_rests : (lot : LotView) (map : ℕ → List ℕ) → RestsOn (RestsLot lot) (LotAtRest lot map)
rest_rests lot map i j same rest =
    idle_rest lot map j (effective_inside lot map i rest.blocks) (idle_rests (slot_targets lot) (lot_places lot) [] map i j same (rest_idle lot map i rest))

-- the blocks on which a lot at rest rests are of its extent
pub rests_lot : (lot : LotView) (k : ℕ) → RestsLot lot k → extent lot k
rests_lot lot k (inl gate) = subst (extent lot) (sym gate) (gate_in lot)
rests_lot lot k (inr home) = subst (extent lot) (sym home.2) (place-in lot home.0 home.1)

-- What a commit to it leaves are its effective blocks, or these with the entries in place.
pub either_blocks : (lot : LotView) (entries : List Entry) (map : ℕ → List ℕ) (i : Image) → AreHomes (lot_places lot) entries → inside lot map ≡ map
    → BeforeOrAfter (slot_targets lot) (lot_places lot) entries map i → BlocksEither lot entries map i
either_blocks lot entries map i homes is both = ⊎_elim
    (λ before. inl (lot_effective lot map i before ∙ ap (λ (m : ℕ → List ℕ). Some m) is))
    (λ after. inr (lot_effective lot (over entries map) i after ∙ ap (λ (m : ℕ → List ℕ). Some m) (over_inside lot entries map homes is)))
    both

-- ---- open

-- The targets that count give the effective blocks.
pub read_blocks : (lot : LotView) (i : Image) (ts : List ℕ) → targets_now lot i ≡ Some ts → effective_of lot i ≡ Some (shown ts lot i)
read_blocks lot i ts e = effective_shown lot i ts e

-- Where the targets that count are some, the journal is open with them,
pub some_pending : (lot : LotView) (ts : List ℕ) (i : Image) → targets_now lot i ≡ Some ts → are_some ts ≡ true
    → IsPending (slot_targets lot) (lot_places lot) ts i
unfolding targets_now
some_pending lot ts i e some = elim (cases_Bool (is_open (block i (gate_place lot)))) [
  | inl on ↦ record { gate = on; header = let h : slot_targets lot (block i (header_place lot)) ≡ Some ts = rw on at e in h }
  | inr off ↦ absurd (
      let none : Some [] ≡ Some ts = rw off at e in
      let f : are_some ts ≡ false = ap are_some (sym (ap (λ o. unwrap_or o ts) none)) in cc)
]

-- and the other way round.
pub pending_targets : (lot : LotView) (ts : List ℕ) (i : Image) → IsPending (slot_targets lot) (lot_places lot) ts i → targets_now lot i ≡ Some ts
unfolding targets_now
pending_targets lot ts i pending = let on = pending.gate in rw on pending.header

if-some : (b : Bool) (o : Option (List ℕ)) (ts : List ℕ) → (if b then o else None) ≡ Some ts → (b ≡ true) × (o ≡ Some ts)
if-some true o ts e = (refl, e)
if-some false o ts e = absurd (cc e)

first-of : (a b : Bool) → (a && b) ≡ true → a ≡ true
first-of true b h = refl
first-of false b h = absurd (cc h)

some-long : (ts : List ℕ) → 1 ≤ length ts → are_some ts ≡ true
some-long [] less = absurd (omega (arith, less))
some-long (t ∷ ts) less = refl

-- a header that is not refused has targets
header-some : (lot : LotView) (header ts : List ℕ) → slot_targets lot header ≡ Some ts → are_some ts ≡ true
unfolding slot_targets
header-some lot header ts e =
    let n = word_at header 8 in let us = targets_in header n in
    let i = if-some (word_at header 0 == slot_magic && slice_index header 4 == lot.slot) (targets_of 240 (is_address lot) header n) ts e in
    let j = if-some (between 1 240 n && (list_all (is_address lot) us && all_differ us)) (Some us) ts i.1 in
    let number : between 1 240 n ≡ true = first-of (between 1 240 n) (list_all (is_address lot) us && all_differ us) j.0 in
    let same : ts ≡ us = sym (ap (λ o. unwrap_or o ts) j.1) in
    let long : length ts ≡ n = ap (λ (xs : List ℕ). length xs) same ∙ targets-length header n in
    let low : 1 ≤ n = grind (arith, nat_tests) in
    some-long ts (omega (arith, low, long))

-- A lot that has effective blocks is at rest with them, or its journal is open with targets.
pub rest_or_open : (lot : LotView) (map : ℕ → List ℕ) (i : Image) → effective_of lot i ≡ Some map
    → LotAtRest lot map i ⊎ ((ts : List ℕ) × (targets_now lot i ≡ Some ts) × (are_some ts ≡ true))
unfolding effective_of targets_now
rest_or_open lot map i e = elim (cases_Bool (is_open (block i (gate_place lot)))) [
  | inr off ↦ inl (record { gate = off; blocks = e })
  | inl on ↦
      let has : option_map (λ m. inside lot m)
      (option_map (λ ts. replayed (place lot) ts (lot_places lot).body i) (slot_targets lot (block i (header_place lot)))) ≡ Some map = rw on at e in
      let named = some-read (slot_targets lot (block i (header_place lot))) has in
      inr (named.0, rw on named.1, header-some lot (block i (header_place lot)) named.0 named.1)
]
  where
    some-read : (o : Option (List ℕ))
        → option_map (λ m. inside lot m) (option_map (λ ts. replayed (place lot) ts (lot_places lot).body i) o) ≡ Some map
        → (ts : List ℕ) × (o ≡ Some ts)
    some-read None f = absurd (cc f)
    some-read (Some ts) f = (ts, refl)
