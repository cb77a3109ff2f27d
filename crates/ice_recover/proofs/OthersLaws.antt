-- What holds of a lot outlasts calls that keep its blocks.
use Rattle.std.proofs.Common.{◌≡◌, ℕ, List, Some, ap}
use Rattle.ice_base.specs.Disk.{Image, DiskState, block}
use Rattle.ice_base.specs.Frames.{Every, Kept, RestsOn, Sure}
use Rattle.ice_base.specs.Lots.{LotView, extent, gate_place, header_place}
use Rattle.ice_base.proofs.Kept.{every_kept, kept_fewer, sure_kept}
use Rattle.ice_base.proofs.LotLaws.{gate_in, header_in}
use Rattle.ice_layout.specs.Headers.{is_open, slot_targets}
use Rattle.ice_tables.specs.Journals.{effective_of, lot_places}
use Rattle.ice_txn.specs.declared.set.Entry.{Entry}
use Rattle.ice_journal.specs.Blocks.{JournalExtent}
use Rattle.ice_journal.specs.Rests.{BlocksEither, LotAtRest, RestsLot}
use Rattle.ice_journal.specs.Shown.{targets_now}
use Rattle.ice_journal.proofs.AreaLaws.{lot_extent}
use Rattle.ice_journal.proofs.RestLaws.{rest_rests, rests_lot}
use Rattle.ice_recover.specs.Reads.{ReadsAs}

pub rest_kept : (lot : LotView) (map : ℕ → List ℕ) (s t : DiskState) → Kept (extent lot) s t → Sure (RestsLot lot) (LotAtRest lot map) s
    → Sure (RestsLot lot) (LotAtRest lot map) t
rest_kept lot map s t kept sure =
    sure_kept (RestsLot lot) (LotAtRest lot map) s t (rest_rests lot map) (kept_fewer (extent lot) (RestsLot lot) s t (rests_lot lot) kept) sure

-- what the journal reads as rests on its gate and its header
reads_rests : (lot : LotView) (view : List ℕ) → RestsOn (extent lot) (ReadsAs lot view)
unfolding targets_now
reads_rests lot view i j same reads =
    let gate : is_open (block j (gate_place lot)) ≡ is_open (block i (gate_place lot)) = ap is_open (same (gate_place lot) (gate_in lot)) in
    let header : slot_targets lot (block j (header_place lot)) ≡ slot_targets lot (block i (header_place lot)) = ap (slot_targets lot)
    (same (header_place lot) (header_in lot)) in
    rw (gate, header) reads

pub reads_kept : (lot : LotView) (view : List ℕ) (s t : DiskState) → Kept (extent lot) s t → Sure (extent lot) (ReadsAs lot view) s
    → Sure (extent lot) (ReadsAs lot view) t
reads_kept lot view s t kept sure = sure_kept (extent lot) (ReadsAs lot view) s t (reads_rests lot view) kept sure

journal_kept : (lot : LotView) (P : Image → Type 0) (s t : DiskState) → Kept (extent lot) s t → Every (JournalExtent (lot_places lot) 240) s P
    → Every (JournalExtent (lot_places lot) 240) t P
journal_kept lot P s t kept every =
    every_kept (JournalExtent (lot_places lot) 240) P s t (kept_fewer (extent lot) (JournalExtent (lot_places lot) 240) s t (lot_extent lot) kept) every

pub either_kept : (lot : LotView) (entries : List Entry) (map : ℕ → List ℕ) (s t : DiskState) → Kept (extent lot) s t
    → Every (JournalExtent (lot_places lot) 240) s (BlocksEither lot entries map) → Every (JournalExtent (lot_places lot) 240) t (BlocksEither lot entries map)
either_kept lot entries map s t kept every = journal_kept lot (BlocksEither lot entries map) s t kept every

pub blocks_kept : (lot : LotView) (map : ℕ → List ℕ) (s t : DiskState) → Kept (extent lot) s t
    → Every (JournalExtent (lot_places lot) 240) s (λ i. effective_of lot i ≡ Some map)
    → Every (JournalExtent (lot_places lot) 240) t (λ i. effective_of lot i ≡ Some map)
blocks_kept lot map s t kept every = journal_kept lot (λ i. effective_of lot i ≡ Some map) s t kept every
