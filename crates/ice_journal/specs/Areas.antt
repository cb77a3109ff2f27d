-- Where journals lie, and what an area may hold.
use Rattle.std.specs.Prelude.{◌≡◌, ◌⊎◌, ◌<◌, ◌+◌, ◌*◌, ℕ, Bool, true, List, Option, None, Some}
use Rattle.std.specs.List.{list_all}
use Rattle.ice_base.specs.Lots.{LotView, is_address}
use Rattle.ice_layout.specs.Headers.{is_table, may_be_address, slot_targets, system_targets}
use Rattle.ice_tables.specs.Journals.{Places, lot_places}
use Rattle.ice_journal.specs.Blocks.{AreApart}
use Rattle.ice_journal.specs.declared.area.Area.{Area}

-- the journal of the tables
abbrev pub tables_area : Area
tables_area = record { gate = 1; header = 2; body = 3; slot = None }

-- the journal of a slot
abbrev pub area_for : (slot : ℕ) → Area
area_for slot = record { gate = 33 + 256 * slot; header = 34 + 256 * slot; body = 35 + 256 * slot; slot = Some slot }

-- the journal of a lot
abbrev pub slot_area : LotView → Area
slot_area lot = record { gate = (lot_places lot).gate; header = (lot_places lot).header; body = (lot_places lot).body; slot = Some lot.slot }

-- an area is that of the tables or of one of the 16 slots
abbrev pub IsArea : Area → Type 0
IsArea area = (area ≡ tables_area) ⊎ ((s : ℕ) × (s < 16) × (area ≡ area_for s))

abbrev pub bodies_for : (slot : Option ℕ) → ℕ
bodies_for None = 8
bodies_for (Some s) = 240

-- how many bodies an area has
abbrev pub most_bodies : Area → ℕ
most_bodies area = bodies_for area.slot

abbrev pub target_for : (slot : Option ℕ) → ℕ → Bool
target_for None a = is_table a
target_for (Some s) a = may_be_address a

-- whether a header of the area may name the address
abbrev pub may_be_target : Area → ℕ → Bool
may_be_target area a = target_for area.slot a

-- the block is a header that names these targets: that of the tables, or that of each lot of the slot which has them
abbrev pub NamesTargets : (slot : Option ℕ) → List ℕ → List ℕ → Type 0
NamesTargets None targets header = system_targets header ≡ Some targets
NamesTargets (Some s) targets header = (lot : LotView) → lot.slot ≡ s → list_all (is_address lot) targets ≡ true → slot_targets lot header ≡ Some targets

-- The area is where a journal of these places lies, whose headers are read so and name so many targets at most.
pub record IsAreaOf (area : Area) (reads : List ℕ → Option (List ℕ)) (at : Places) (most : ℕ) : Type 0 where
  pub gate : area.gate ≡ at.gate
  pub header : area.header ≡ at.header
  pub body : area.body ≡ at.body
  pub is_area : IsArea area
  pub bodies : most ≡ most_bodies area
  pub targets : (a : ℕ) → at.home a ≡ true → may_be_target area a ≡ true
  pub apart : AreApart at most
  pub names : (targets header : List ℕ) → NamesTargets area.slot targets header → list_all at.home targets ≡ true → reads header ≡ Some targets
