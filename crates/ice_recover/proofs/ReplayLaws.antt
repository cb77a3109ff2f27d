-- What a replay of a lot's journal leaves, by the lot's effective blocks.
use Rattle.std.proofs.Common.{◌≡◌, ◌∙◌, ◌⊎◌, inl, inr, ⊎_elim, ℕ, List, Some, true, Result, Ok, Err, OnOk, OnErr, sym, ap}
use Rattle.ice_base.specs.Disk.{Image, DiskState}
use Rattle.ice_base.specs.Frames.{CrashStep, Settled, Sure}
use Rattle.ice_base.specs.Lots.{LotView, extent, inside}
use Rattle.ice_base.proofs.Frame.{step_more}
use Rattle.ice_layout.specs.Headers.{slot_targets}
use Rattle.ice_tables.specs.Journals.{effective_of, lot_places}
use Rattle.ice_journal.specs.Blocks.{JournalExtent}
use Rattle.ice_journal.specs.Phases.{Idle, IsPending, RestsIdle, StandsFor}
use Rattle.ice_journal.specs.Rests.{LotAtRest, RestsLot}
use Rattle.ice_journal.specs.Shown.{are_some, shown}
use Rattle.ice_journal.proofs.AreaLaws.{lot_extent}
use Rattle.ice_journal.proofs.RestLaws.{effective_inside, idle_rest, pending_targets, read_blocks, some_pending}
use Rattle.ice_journal.proofs.StandLaws.{effective_stands, lot_effective}
use Rattle.ice_recover.specs.Reads.{ReadsAs}

-- a lot of which no block is loose has none in its journal
pub journal_settled : (lot : LotView) (s : DiskState) → Settled (extent lot) s → Settled (JournalExtent (lot_places lot) 240) s
journal_settled lot s all = record { told = all.told; settled = λ k here. all.settled k (lot_extent lot k here) }

-- a map that an image stands for is that of its effective blocks
stands-blocks : (lot : LotView) (map : ℕ → List ℕ) (i : Image) → inside lot map ≡ map → StandsFor (slot_targets lot) (lot_places lot) map i
    → effective_of lot i ≡ Some map
stands-blocks lot map i is stands = lot_effective lot map i stands ∙ ap (λ (m : ℕ → List ℕ). Some m) is

module _ {D : Type 0} (state : D → DiskState) (left : D → ℕ → Image → List ℕ → Type 0) (lot : LotView) (ts : List ℕ)
    (some : are_some ts ≡ true) (a b : D) (sure : Sure (extent lot) (ReadsAs lot ts) (state a)) where
  pub was_pending : IsPending (slot_targets lot) (lot_places lot) ts (state a).now
  was_pending = some_pending lot ts (state a).now sure.now some

  pub was_settled : Settled (JournalExtent (lot_places lot) 240) (state a)
  was_settled = journal_settled lot (state a) sure.settled

  pub was_blocks : effective_of lot (state a).now ≡ Some (shown ts lot (state a).now)
  was_blocks = read_blocks lot (state a).now ts sure.now

  pub was_standing : StandsFor (slot_targets lot) (lot_places lot) (shown ts lot (state a).now) (state a).now
  was_standing = effective_stands lot (shown ts lot (state a).now) (state a).now was_blocks

  same-blocks : (i : Image) → StandsFor (slot_targets lot) (lot_places lot) (shown ts lot (state a).now) i → effective_of lot i ≡ effective_of lot (state a).now
  same-blocks i stands =
      stands-blocks lot (shown ts lot (state a).now) i (effective_inside lot (shown ts lot (state a).now) (state a).now was_blocks) stands ∙ sym was_blocks

  pub blocks_stay : CrashStep state left (JournalExtent (lot_places lot) 240) (StandsFor (slot_targets lot) (lot_places lot) (shown ts lot (state a).now)) a b
      → CrashStep state left (JournalExtent (lot_places lot) 240) (λ i. effective_of lot i ≡ effective_of lot (state a).now) a b
  blocks_stay step =
      step_more state left (JournalExtent (lot_places lot) 240)
      (StandsFor (slot_targets lot) (lot_places lot) (shown ts lot (state a).now)) (λ i. effective_of lot i ≡ effective_of lot (state a).now) a b
      same-blocks step

  -- at rest with them
  pub blocks_rest : {T X : Type 0} (r : Result T X) (map : ℕ → List ℕ) → effective_of lot (state a).now ≡ Some map
      → OnOk r (Sure (RestsIdle (lot_places lot)) (Idle (lot_places lot) map) (state b)) → OnOk r (Sure (RestsLot lot) (LotAtRest lot map) (state b))
  blocks_rest (Ok x) map e idle = record { settled = idle.settled; now = idle_rest lot map (state b).now (effective_inside lot map (state a).now e) idle.now }
  blocks_rest (Err x) map e idle = tt

-- After a fault the gate is loose or the journal reads as before.
pub reads_late : {T X : Type 0} (r : Result T X) (loose : Type 0) (lot : LotView) (ts : List ℕ) (i : Image)
    → OnErr r (loose ⊎ IsPending (slot_targets lot) (lot_places lot) ts i) → OnErr r (loose ⊎ ReadsAs lot ts i)
reads_late (Ok x) loose lot ts i late = tt
reads_late (Err x) loose lot ts i late = ⊎_elim (λ l. inl l) (λ pending. inr (pending_targets lot ts i pending)) late
