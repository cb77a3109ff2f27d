-- Where journals lie, and which blocks an open one shows.
use Rattle.std.proofs.Common.{◌≡◌, ◌≤◌, ◌<◌, ◌+◌, ◌*◌, ℕ, zero, suc, Bool, true, false, List, [], ◌∷◌, length, slice_index, Option, Some, None, refl, sym, ap, ◌∙◌, subst, arith}
use Rattle.std.specs.Prelude.{◌≢◌, if◌then◌else◌, unwrap_or}
use Rattle.std.specs.Option.{option_map}
use Rattle.std.proofs.Math.Path.{fun_ext}
use Rattle.std.proofs.lemmas.Bool.Decides.{nat_tests}
use Rattle.ice_base.specs.Disk.{Image, DiskState, block}
use Rattle.ice_base.specs.Looks.{LookedBy}
use Rattle.ice_base.specs.Still.{Still}
use Rattle.ice_base.specs.Lots.{LotView, is_address, is_sited, place, gate_place, header_place, inside}
use Rattle.ice_base.proofs.LotLaws.{sited-below, area_below, inside_at}
use Rattle.ice_layout.specs.Headers.{is_open, slot_targets}
use Rattle.ice_tables.specs.Journals.{lot_places, replayed, effective_of}
use Rattle.ice_journal.specs.Shown.{targets_now, shown, source, SameAll, same_then}

pub sited_area : (lot : LotView) (n : ℕ) → is_sited lot n ≡ true → 32 + 256 * lot.slot + 256 ≤ n
sited_area lot n h = area_below lot n (sited-below lot n h)

pub ruleset site_laws = (sited_area)

-- ---- what gate and header say

first-some : (x y : List ℕ) → Some x ≡ Some y → y ≡ x
first-some x y e = sym (ap (λ o. unwrap_or o x) e)

-- the targets that count give the effective blocks, and where there are none there are no such blocks
pub effective_shown : (lot : LotView) (i : Image) (ts : List ℕ) → targets_now lot i ≡ Some ts → effective_of lot i ≡ Some (shown ts lot i)
unfolding effective_of targets_now
effective_shown lot i ts e = by (is_open (block i (gate_place lot))) (slot_targets lot (block i (header_place lot))) e
  where
    by : (b : Bool) (o : Option (List ℕ)) → (if b then o else Some []) ≡ Some ts
        → option_map (λ m. inside lot m) (if b then option_map (λ us. replayed (place lot) us (lot_places lot).body i) o else Some (λ a. block i (place lot a))) ≡ Some (shown ts lot i)
    by true None e = absurd (cc e)
    by true (Some us) e = ap (λ (xs : List ℕ). Some (shown xs lot i)) (sym (first-some us ts e))
    by false o e = ap (λ (xs : List ℕ). Some (shown xs lot i)) (sym (first-some [] ts e))

pub effective_none : (lot : LotView) (i : Image) → targets_now lot i ≡ None → effective_of lot i ≡ None
unfolding effective_of targets_now
effective_none lot i e = by (is_open (block i (gate_place lot))) (slot_targets lot (block i (header_place lot))) e
  where
    by : (b : Bool) (o : Option (List ℕ)) → (if b then o else Some []) ≡ None
        → option_map (λ m. inside lot m) (if b then option_map (λ us. replayed (place lot) us (lot_places lot).body i) o else Some (λ a. block i (place lot a))) ≡ None
    by true None e = refl
    by true (Some us) e = absurd (cc e)
    by false o e = absurd (cc e)

-- a closed gate leaves no targets, and an open one those of the header
pub read_closed : (lot : LotView) (i : Image) (gate : List ℕ) (at : ℕ) → at ≡ gate_place lot → gate ≡ block i at → is_open gate ≡ false
    → targets_now lot i ≡ Some []
unfolding targets_now
read_closed lot i gate at is e closed =
    let shut : is_open (block i (gate_place lot)) ≡ false = subst (λ (k : ℕ). is_open (block i k) ≡ false) is
    (subst (λ (b : List ℕ). is_open b ≡ false) e closed) in rw shut refl

pub read_open : (lot : LotView) (i j : Image) (gate header : List ℕ) (at next : ℕ) → ((k : ℕ) → block j k ≡ block i k)
    → at ≡ gate_place lot → gate ≡ block i at → is_open gate ≡ true → next ≡ header_place lot → header ≡ block j next
    → targets_now lot i ≡ slot_targets lot header
unfolding targets_now
read_open lot i j gate header at next same is e up there f =
    let on : is_open (block i (gate_place lot)) ≡ true = subst (λ (k : ℕ). is_open (block i k) ≡ true) is (subst (λ (b : List ℕ). is_open b ≡ true) e up) in
    let h : header ≡ block i (header_place lot) = f ∙ same next ∙ ap (λ (k : ℕ). block i k) there in
    rw (on, h) refl

-- ---- the block from which an address is read

pub source_none : (place : ℕ → ℕ) (ts : List ℕ) (body a : ℕ) → ((j : ℕ) → j < length ts → slice_index ts j ≢ a) → source place ts body a ≡ place a
source_none place [] body a none = refl
source_none place (t ∷ ts) body a none =
    let r : source place ts (body + 1) a ≡ place a = source_none place ts (body + 1) a (λ j less. none (suc j) (omega (arith, less))) in
    let f : t ≢ a = none zero (omega arith) in
    grind (arith, nat_tests)

pub source_first : (place : ℕ → ℕ) (ts : List ℕ) (body a j : ℕ) → j < length ts → slice_index ts j ≡ a
    → ((i : ℕ) → i < j → slice_index ts i ≢ a) → source place ts body a ≡ body + j
source_first place [] body a j less is first = absurd (omega arith)
source_first place (t ∷ ts) body a zero less is first = let f : t ≡ a = is in grind (arith, nat_tests)
source_first place (t ∷ ts) body a (suc j) less is first =
    let r : source place ts (body + 1) a ≡ body + 1 + j = source_first place ts (body + 1) a j (omega arith) is (λ i l. first (suc i) (omega (arith, l))) in
    let f : t ≢ a = first zero (omega arith) in
    grind (arith, nat_tests)

pub replayed_source : (place : ℕ → ℕ) (ts : List ℕ) (body : ℕ) (i : Image) (a : ℕ) → replayed place ts body i a ≡ block i (source place ts body a)
replayed_source place [] body i a = refl
replayed_source place (t ∷ ts) body i a = let r = replayed_source place ts (body + 1) i a in grind (arith, nat_tests)

replayed-same : (place : ℕ → ℕ) (ts : List ℕ) (body : ℕ) (i j : Image) → ((k : ℕ) → block j k ≡ block i k) → replayed place ts body j ≡ replayed place ts body i
replayed-same place ts body i j same =
    fun_ext (λ a. replayed_source place ts body j a ∙ same (source place ts body a) ∙ sym (replayed_source place ts body i a))

-- images of equal blocks show the same
pub shown_same : (ts : List ℕ) (lot : LotView) (i j : Image) → ((k : ℕ) → block j k ≡ block i k) → shown ts lot j ≡ shown ts lot i
shown_same ts lot i j same = ap (λ (m : ℕ → List ℕ). inside lot m) (replayed-same (place lot) ts (lot_places lot).body i j same)

-- what stands at an address is the block of its source
pub shown_at : (ts : List ℕ) (lot : LotView) (i : Image) (a : ℕ) → is_address lot a ≡ true
    → block i (source (place lot) ts (lot_places lot).body a) ≡ shown ts lot i a
shown_at ts lot i a is =
    sym (replayed_source (place lot) ts (lot_places lot).body i a) ∙ sym (inside_at lot (replayed (place lot) ts (lot_places lot).body i) a is)

-- what a look at the disk leaves of the view
pub looked_still : {D : Type 0} (state : D → DiskState) (left : D → ℕ → Image → List ℕ → Type 0) (lot : LotView) (v : List ℕ) (e f : D) → Still state left e f
    → LookedBy state (λ v d lot. shown v lot (state d).now) (λ lot v d. (state d).tells ≡ true) (λ v a. false) (λ v. 0) (λ lot v d w e. SameAll state left v d w e) lot v e v f
looked_still state left lot v e f still = record {
  map = shown_same v lot (state e).now (state f).now (λ k. still.within.same k (λ n. n));
  shows = λ told. still.within.tells ∙ told;
  held = refl;
  room = refl;
  size = still.within.size;
  tells = still.within.tells;
  streams = still.within.streams;
  later = still.within.faults;
  steady = λ u d s. same_then state left u d v e v f s (record { view = refl; still = still });
}
