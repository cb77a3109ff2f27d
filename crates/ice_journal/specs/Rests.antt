-- A lot between two commits, by its effective blocks.
use Rattle.std.specs.Prelude.{◌≡◌, ◌⊎◌, ℕ, false, List, Some}
use Rattle.ice_base.specs.Disk.{Image, block}
use Rattle.ice_base.specs.Lots.{LotView, gate_place}
use Rattle.ice_layout.specs.Headers.{is_open}
use Rattle.ice_tables.specs.Journals.{effective_of, lot_places}
use Rattle.ice_txn.specs.declared.set.Entry.{Entry}
use Rattle.ice_txn.specs.Sets.{over}
use Rattle.ice_journal.specs.Phases.{RestsIdle}

-- the gate of the lot's journal is closed, and the effective blocks, which are then the homes, are those of the map
pub record LotAtRest (lot : LotView) (map : ℕ → List ℕ) (image : Image) : Type 0 where
  pub gate : is_open (block image (gate_place lot)) ≡ false
  pub blocks : effective_of lot image ≡ Some map

-- the blocks that this looks at: the gate and the homes
abbrev pub RestsLot : LotView → ℕ → Type 0
RestsLot lot k = RestsIdle (lot_places lot) k

-- the effective blocks are those of the map, or of the map with the entries in place
abbrev pub BlocksEither : LotView → List Entry → (ℕ → List ℕ) → Image → Type 0
BlocksEither lot entries map image = (effective_of lot image ≡ Some map) ⊎ (effective_of lot image ≡ Some (over entries map))
