-- A volume and its disk: the world that they stand for.
use Rattle.std.specs.Prelude.{◌≡◌, ◌≤◌, ◌<◌, ◌⊎◌, ℕ, false, List, length}
use Rattle.ice_base.specs.Disk.{DiskState}
use Rattle.ice_base.specs.Frames.{Sure}
use Rattle.tree_spec.specs.World.{World}
use Rattle.ice_tables.specs.Lots.{IsTable, AtRest, total, lot_of}
use Rattle.ice_images.specs.Fitting.{ShowCubes}
use Rattle.ice_system.specs.Says.{IsChange}
use Rattle.ice_system.specs.Systems.{SystemView, tables_of}
use Rattle.ice_volume.specs.Cells.{Carries, IsSession, cell_at}
use Rattle.ice_volume.specs.declared.cell.Cell.{Cell}

-- the tables of a volume, and what the session has of each slot
pub record VolumeView : Type 0 where
  pub system : SystemView
  pub cells : List Cell

-- a cell for each of 16 slots, and each open cube has the lot of its slot
pub record AreSessions (v : VolumeView) : Type 0 where
  pub count : length v.cells ≡ 16
  pub each : (x : ℕ) → IsSession (tables_of v.system) x (cell_at v.cells x)

-- No change of the tables failed late, the tables are at rest and show the cubes, and each cell and lot carry their cube's record.
pub record StandsFor (v : VolumeView) (s : DiskState) (w : World) : Type 0 where
  pub live : v.system.failed ≡ false
  pub tables : Sure IsTable (AtRest (tables_of v.system)) s
  pub room : total (tables_of v.system) ≤ s.size
  pub shows : ShowCubes (tables_of v.system) w
  pub cubes : (x : ℕ) → Carries (cell_at v.cells x) (lot_of (tables_of v.system) x) s (w.cube x)

-- the disk has all blocks of the volume
abbrev pub HasRoom : VolumeView → DiskState → Type 0
HasRoom v s = total (tables_of v.system) ≤ s.size

-- the blocks that a session may write: the journal of the tables and the tables, the slots' areas and the groups
abbrev pub IsWritable : VolumeView → ℕ → Type 0
IsWritable v k = IsChange k ⊎ ((32 ≤ k) × (k < total (tables_of v.system)))
