-- What a journal stands for is what the effective blocks of a lot or of the tables are, and rests on the journal's blocks.
use Rattle.std.proofs.Common.{◌≡◌, ◌⊎◌, inl, inr, ◌≤◌, ℕ, Bool, true, false, List, [], length, Option, Some, None, IsSomeAnd, refl, sym, ◌∙◌, ap}
use Rattle.std.specs.Prelude.{if◌then◌else◌, unwrap_or}
use Rattle.std.specs.Option.{option_map}
use Rattle.std.proofs.Math.Path.{fun_ext}
use Rattle.ice_base.specs.Disk.{Image, block}
use Rattle.ice_base.specs.Frames.{RestsOn}
use Rattle.ice_base.specs.Lots.{LotView, inside}
use Rattle.ice_base.proofs.LotLaws.{inside_at, inside_same}
use Rattle.ice_layout.specs.Headers.{is_open, slot_targets, system_targets}
use Rattle.ice_tables.specs.Journals.{Places, effective, effective_of, lot_places, system_places, in_tables, table_blocks}
use Rattle.ice_tables.proofs.JournalLaws.{effective-same}
use Rattle.ice_journal.specs.Blocks.{JournalExtent}
use Rattle.ice_journal.specs.Phases.{Idle, IsPending, StandsFor}

-- ---- a map that is cut to the addresses

some-of : (m n : ℕ → List ℕ) → Some m ≡ Some n → n ≡ m
some-of m n e = sym (ap (λ o. unwrap_or o m) e)

module _ (reads : List ℕ → Option (List ℕ)) (at : Places) (keep : (ℕ → List ℕ) → ℕ → List ℕ)
    (here : (m : ℕ → List ℕ) (a : ℕ) → at.home a ≡ true → keep m a ≡ m a)
    (keeps : (m n : ℕ → List ℕ) → ((a : ℕ) → at.home a ≡ true → n a ≡ m a) → keep n ≡ keep m) (map : ℕ → List ℕ) (i : Image) where
  cut-of : StandsFor reads at map i → option_map (λ m. keep m) (effective reads at i) ≡ Some (keep map)
  cut-of stands = go (effective reads at i) stands
    where
      go : (o : Option (ℕ → List ℕ)) → IsSomeAnd o (λ m. (a : ℕ) → at.home a ≡ true → m a ≡ map a) → option_map (λ m. keep m) o ≡ Some (keep map)
      go None never = absurd never
      go (Some m) same = ap (λ (f : ℕ → List ℕ). Some f) (keeps map m same)

  stands-of : option_map (λ m. keep m) (effective reads at i) ≡ Some map → StandsFor reads at map i
  stands-of e = go (effective reads at i) e
    where
      go : (o : Option (ℕ → List ℕ)) → option_map (λ m. keep m) o ≡ Some map → IsSomeAnd o (λ m. (a : ℕ) → at.home a ≡ true → m a ≡ map a)
      go None e = absurd (cc e)
      go (Some m) e = λ a is. sym (here m a is) ∙ sym (ap (λ (f : ℕ → List ℕ). f a) (some-of (keep m) map e))

-- with no block at other numbers
abbrev cut : Places → (ℕ → List ℕ) → ℕ → List ℕ
cut at m a = if at.home a then m a else []

cut-here : (at : Places) (m : ℕ → List ℕ) (a : ℕ) → at.home a ≡ true → cut at m a ≡ m a
cut-here at m a is = rw is refl

cut-same : (at : Places) (m n : ℕ → List ℕ) → ((a : ℕ) → at.home a ≡ true → n a ≡ m a) → cut at n ≡ cut at m
cut-same at m n same = fun_ext (λ a. by a (at.home a) refl)
  where
    by : (a : ℕ) (b : Bool) → at.home a ≡ b → (if b then n a else []) ≡ (if b then m a else [])
    by a true is = same a is
    by a false is = refl

-- ---- what it rests on

module _ (reads : List ℕ → Option (List ℕ)) (at : Places) (most : ℕ)
    (few : (header targets : List ℕ) → reads header ≡ Some targets → length targets ≤ most) where
  -- What an image stands for rests on gate, header, bodies and homes of the journal,
  pub stands_rests : (map : ℕ → List ℕ) → RestsOn (JournalExtent at most) (StandsFor reads at map)
  stands_rests map i j same stands =
      let equal = effective-same reads at most few (cut at) (cut-same at) i j (same at.gate (inl refl))
      (λ a is. same (at.place a) (inr (inr (a, is, refl)))) (same at.header (inr (inl (inl refl))))
      (λ k low high. same k (inr (inl (inr (low, high))))) in
      let kept : option_map (λ m. cut at m) (effective reads at j) ≡ Some (cut at map) = equal
      ∙ cut-of reads at (cut at) (cut-here at) (cut-same at) map i stands in
      let there = stands-of reads at (cut at) (cut-here at) (cut-same at) (cut at map) j kept in
      back (effective reads at j) there
    where
      back : (o : Option (ℕ → List ℕ)) → IsSomeAnd o (λ m. (a : ℕ) → at.home a ≡ true → m a ≡ cut at map a)
          → IsSomeAnd o (λ m. (a : ℕ) → at.home a ≡ true → m a ≡ map a)
      back None never = never
      back (Some m) h = λ a is. h a is ∙ cut-here at map a is

-- That a journal is open with these targets rests on its gate and its header.
pub pending_rests : (reads : List ℕ → Option (List ℕ)) (at : Places) (targets : List ℕ)
    → RestsOn (λ k. (k ≡ at.gate) ⊎ (k ≡ at.header)) (IsPending reads at targets)
pending_rests reads at targets i j same pending = record {
  gate = ap is_open (same at.gate (inl refl)) ∙ pending.gate;
  header = ap reads (same at.header (inr refl)) ∙ pending.header;
}

-- A journal that stands for a map and whose gate is closed is at rest with this map.
pub idle_closed : (reads : List ℕ → Option (List ℕ)) (at : Places) (map : ℕ → List ℕ) (i : Image) → is_open (block i at.gate) ≡ false
    → StandsFor reads at map i → Idle at map i
idle_closed reads at map i closed stands =
    record { gate = closed; homes = let each : (a : ℕ) → at.home a ≡ true → block i (at.place a) ≡ map a = rw closed at stands in each }

-- ---- the journal of a lot

-- What a lot's journal stands for are its effective blocks,
pub lot_effective : (lot : LotView) (map : ℕ → List ℕ) (i : Image) → StandsFor (slot_targets lot) (lot_places lot) map i
    → effective_of lot i ≡ Some (inside lot map)
unfolding effective_of
lot_effective lot map i stands =
    cut-of (slot_targets lot) (lot_places lot) (inside lot) (λ m a is. inside_at lot m a is)
    (λ m n same. fun_ext (λ a. inside_same lot m n a (same a))) map i stands

-- and the other way round.
pub effective_stands : (lot : LotView) (map : ℕ → List ℕ) (i : Image) → effective_of lot i ≡ Some map → StandsFor (slot_targets lot) (lot_places lot) map i
unfolding effective_of
effective_stands lot map i e =
    stands-of (slot_targets lot) (lot_places lot) (inside lot) (λ m a is. inside_at lot m a is)
    (λ m n same. fun_ext (λ a. inside_same lot m n a (same a))) map i e

-- ---- the journal of the tables

-- What the tables' journal stands for are the effective blocks of the tables,
pub tables_effective : (map : ℕ → List ℕ) (i : Image) → StandsFor system_targets system_places map i → table_blocks i ≡ Some (in_tables map)
unfolding table_blocks
tables_effective map i stands = cut-of system_targets system_places in_tables (cut-here system_places) (cut-same system_places) map i stands

-- At rest with a map the tables are its blocks.
pub tables_idle_blocks : (map : ℕ → List ℕ) (i : Image) → Idle system_places map i → table_blocks i ≡ Some (in_tables map)
tables_idle_blocks map i idle = tables_effective map i (let closed = idle.gate in rw closed idle.homes)
