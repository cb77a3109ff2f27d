-- The places below a directory, for a look at how high a tree is.
use Rattle.std.specs.Prelude.{◌≡◌, ℕ, ◌+◌, List, slice_get, Some}
use Rattle.std.specs.FinMap.{find}
use Rattle.ice_base.specs.Lots.{LotView}
use Rattle.ice_base.specs.declared.fault.OpFault.{OpFault}
use Rattle.ice_base.specs.declared.fault.OpFault.TheVariants.{Disk, Damaged}
use Rattle.ice_base.specs.declared.fault.Rule.TheVariants.{Kind, Pointer, InodeTwice, Name}
use Rattle.tree_spec.specs.Trees.{Tree, Entries, rows, by_bytes, Found}
use Rattle.tree_spec.specs.Costs.{Form}
use Rattle.ice_reads.specs.Tables.{Table, rows_in}
use Rattle.ice_reads.specs.Reads.{Reads}
use Rattle.ice_look.specs.declared.place.Place.{Place}
use Rattle.ice_look.specs.Places.{place_by, PlaceOf, PlaceIs, PlaceReached}
use Rattle.ice_dir.specs.Rows.{dir_rows_of}

-- the place of the tree that row k of a directory names, which inode i stands for, reached by h names
pub record IsChild (f : Form) (lot : LotView) (o : Table) (i h k : ℕ) (es : Entries) (place : Place) : Type 0 where
  pub name : List ℕ
  pub inode : ℕ
  pub tree : Tree
  pub row : slice_get (rows_in f (o i)) k ≡ Some (name, inode)
  pub entry : find by_bytes name (rows es) ≡ Some tree
  pub reads : Reads f lot o inode (h + 1) tree
  pub at : place ≡ place_by inode (Found tree)

-- the place of the inode that row k of a directory names
pub record IsEntry (form : Form) (lot : LotView) (m : ℕ → List ℕ) (dir k : ℕ) (place : Place) : Type 0 where
  pub name : List ℕ
  pub inode : ℕ
  pub row : slice_get (dir_rows_of form m dir) k ≡ Some (name, inode)
  pub is : PlaceIs m place
  pub reached : PlaceReached form lot m place
  pub at : PlaceOf inode place

-- the faults of a look at the height of a tree
abbrev pub IsHeightFault : OpFault → Type 0
IsHeightFault Disk = Unit {0}
IsHeightFault (Damaged Kind) = Unit {0}
IsHeightFault (Damaged Pointer) = Unit {0}
IsHeightFault (Damaged InodeTwice) = Unit {0}
IsHeightFault (Damaged Name) = Unit {0}
IsHeightFault _ = ⊥
