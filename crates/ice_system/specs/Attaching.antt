-- How the tables of an image are opened.
use Rattle.std.specs.Prelude.{◌≡◌, ◌≤◌, ◌<◌, ◌+◌, ◌⊎◌, ℕ, true, false, List, Option, None, Some, ⊤}
use Rattle.ice_base.specs.Disk.{Image, DiskState, block, Everywhere, Rose}
use Rattle.ice_base.specs.Frames.{Settled, Sure}
use Rattle.ice_layout.specs.Geometry.{total_blocks}
use Rattle.ice_layout.specs.Supers.{super_fault, super_of}
use Rattle.ice_layout.specs.Headers.{is_open, system_targets, targets_said}
use Rattle.ice_layout.specs.declared.superblock.Super.{Super}
use Rattle.ice_layout.specs.declared.superblock.LayoutFault.{LayoutFault}
use Rattle.ice_layout.specs.declared.superblock.LayoutFault.TheVariants.{Names, Owners, Header as HeaderFault}
use Rattle.ice_layout.specs.declared.header.Header.{Header}
use Rattle.ice_tables.specs.Journals.{system_places, table_blocks}
use Rattle.ice_tables.specs.Tables.{Tables, HasTables, FirstFault, AreNames, AreOwners, tables_in, blocks_from}
use Rattle.ice_tables.specs.Lots.{IsTable, AtRest}
use Rattle.ice_journal.specs.Phases.{IsPending}
use Rattle.ice_system.specs.Systems.{SystemView, tables_of}
use Rattle.ice_system.specs.declared.fault.TablesFault.{TablesFault}
use Rattle.ice_system.specs.declared.fault.TablesFault.TheVariants.{Small, Layout, Disk, Memory}

-- the blocks that a replay of the tables' journal may write
abbrev pub IsReplayed : ℕ → Type 0
IsReplayed k = (k ≡ 1) ⊎ ((11 ≤ k) × (k < 19))

-- the superblock is accepted, and names more blocks than there are
abbrev pub TooSmall : ℕ → Image → Type 0
TooSmall size image = (super_fault (block image 0) ≡ None) × (size < total_blocks (super_of (block image 0)).slots (super_of (block image 0)).groups)

-- why a disk is not opened, from old to new
abbrev pub RefusesDisk : TablesFault → DiskState → DiskState → Type 0
RefusesDisk Small old new = (old.size ≡ 0) ⊎ (old.tells ≡ true → TooSmall old.size old.now)
RefusesDisk (Layout f) old new = old.tells ≡ true → FirstFault old.now f × ¬ TooSmall old.size old.now
RefusesDisk Disk old new = Rose old.faults new.faults
RefusesDisk Memory old new = ⊤

-- the volume is that of the image, and its tables are at rest on a disk with nothing loose
pub record Attaches (v : SystemView) (old new : DiskState) : Type 0 where
  pub has : HasTables old.now (tables_of v)
  pub settled : Settled Everywhere new
  pub rest : Sure IsTable (AtRest (tables_of v)) new

-- ---- the steps

-- the gate of the tables is closed, or it is open and the header is this
abbrev pub SaysPending : Option Header → Image → Type 0
SaysPending None image = is_open (block image 1) ≡ false
SaysPending (Some header) image = IsPending system_targets system_places (targets_said header) image

-- why an open journal of the tables is not finished, from old to new
abbrev pub RefusesJournal : TablesFault → DiskState → DiskState → Type 0
RefusesJournal (Layout f) old new = (f ≡ HeaderFault) × (old.tells ≡ true → table_blocks old.now ≡ None)
RefusesJournal Disk old new = Rose old.faults new.faults
RefusesJournal fault old new = ⊥

-- The gate of the tables is closed, their effective blocks are what they were, and nothing is loose.
pub record Finishes (old new : DiskState) : Type 0 where
  pub closed : is_open (block new.now 1) ≡ false
  pub same : table_blocks new.now ≡ table_blocks old.now
  pub settled : Settled Everywhere new

-- four blocks that follow one another are those of the map
abbrev pub AreFour : (first : ℕ) → List (List ℕ) → (ℕ → List ℕ) → Type 0
AreFour first blocks m = (k : ℕ) → first ≤ k → k < first + 4 → m k ≡ blocks_from first blocks k

-- the tables are what the blocks say in an image of this geometry, and are accepted
pub record Accepts (sup : Super) (m : ℕ → List ℕ) (t : Tables) : Type 0 where
  pub says : t ≡ tables_in sup m
  pub names : AreNames t.slots m
  pub owners : AreOwners t m

-- why the blocks of the tables are not accepted, in the order of names and owners
abbrev pub RefusesBlocks : LayoutFault → Super → (ℕ → List ℕ) → Type 0
RefusesBlocks Names sup m = ¬ AreNames sup.slots m
RefusesBlocks Owners sup m = AreNames sup.slots m × ¬ AreOwners (tables_in sup m) m
RefusesBlocks fault sup m = ⊥

-- why tables are not read, from old to new
abbrev pub RefusesTables : TablesFault → Super → (ℕ → List ℕ) → DiskState → DiskState → Type 0
RefusesTables (Layout f) sup m old new = old.tells ≡ true → RefusesBlocks f sup m
RefusesTables Disk sup m old new = Rose old.faults new.faults
RefusesTables fault sup m old new = ⊥
