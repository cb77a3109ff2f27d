-- Where walks end.
use Rattle.std.specs.Prelude.{◌≡◌, ◌≤◌, ◌<◌, ◌⊎◌, ℕ, ◌*◌, List, length, Contains, Some, ⊤}
use Rattle.ice_base.specs.Lots.{LotView}
use Rattle.ice_base.specs.declared.fault.OpFault.{OpFault}
use Rattle.ice_base.specs.declared.fault.OpFault.TheVariants.{Disk, Damaged}
use Rattle.ice_base.specs.declared.fault.Rule.TheVariants.{Kind, Pointer, InodeTwice}
use Rattle.ice_map.specs.declared.codec.Inode.{Inode}
use Rattle.ice_map.specs.Inodes.{inode_of}
use Rattle.ice_dir.specs.Rows.{dir_rows_of, look_up, IsDirectory}
use Rattle.tree_spec.specs.Trees.{Tree, Walk, Found, NotFound, NotDir, walk, rows}
use Rattle.tree_spec.specs.Trees as tree
use Rattle.tree_spec.specs.Costs.{Form, form_one}
use Rattle.ice_reads.specs.Tables.{Table}
use Rattle.ice_reads.specs.Reads.{inode_on}
use Rattle.ice_look.specs.declared.place.Place.{Place}
use Rattle.ice_look.specs.declared.place.Place.TheVariants.{File, Dir, Missing, Blocked}

-- the place of a walk's end, where the walk came to inode i
abbrev pub place_by : ℕ → Walk → Place
place_by i (Found (tree.File bytes)) = File i (length bytes)
place_by i (Found (tree.Dir es)) = Dir i (length (rows es))
place_by i NotFound = Missing
place_by i NotDir = Blocked

-- the place where a walk of these names ends, in a tree that inode 0 stands for
abbrev pub place_at : Form → Table → List (List ℕ) → Tree → Place
place_at f o names t = place_by (inode_on f o 0 names) (walk names t)

-- an inode that a lot can have: a file or a directory of a size that it may have
abbrev pub IsNode : LotView → Inode → Type 0
IsNode lot inode = ((inode.kind ≡ 1) × (inode.size ≤ form_one.longest_file)) ⊎ IsDirectory lot inode

-- an inode to which the directories of a lot lead, whose entries have so many bytes: the root, or one that a row of such a directory names
pub data Reached (form : Form) (lot : LotView) (m : ℕ → List ℕ) : ℕ → Type 0 where
  Root : Reached form lot m 0
  Named : (dir number : ℕ) (name : List ℕ) → Reached form lot m dir → IsDirectory lot (inode_of m dir)
      → Contains (dir_rows_of form m dir) (name, number) → Reached form lot m number

-- an inode of the lot to which the directories lead
pub record IsReached (form : Form) (lot : LotView) (m : ℕ → List ℕ) (number : ℕ) : Type 0 where
  pub below : number < 64 * length lot.groups
  pub by : Reached form lot m number

-- a place's numbers are those of an inode that the lot can have
abbrev pub PlaceFits : LotView → Place → Type 0
PlaceFits lot (File number size) = (number < 64 * length lot.groups) × (size ≤ form_one.longest_file)
PlaceFits lot (Dir number size) = (number < 64 * length lot.groups) × (size < 64 * length lot.groups)
PlaceFits lot Missing = ⊤
PlaceFits lot Blocked = ⊤

-- a file or a directory stands at a place, and this is its inode
abbrev pub PlaceOf : ℕ → Place → Type 0
PlaceOf i (File number size) = number ≡ i
PlaceOf i (Dir number size) = number ≡ i
PlaceOf i Missing = ⊥
PlaceOf i Blocked = ⊥

-- the inode of a place is a file or a directory of that size
abbrev pub PlaceIs : (ℕ → List ℕ) → Place → Type 0
PlaceIs m (File number size) = ((inode_of m number).kind ≡ 1) × ((inode_of m number).size ≡ size)
PlaceIs m (Dir number size) = ((inode_of m number).kind ≡ 2) × ((inode_of m number).size ≡ size)
PlaceIs m Missing = ⊤
PlaceIs m Blocked = ⊤

-- an inode in hand agrees with a place: it is a file, or a directory that the lot can have, of the place's size
abbrev pub NodeFits : LotView → Place → Inode → Type 0
NodeFits lot (File number size) node = (node.kind ≡ 1) × (node.size ≡ size)
NodeFits lot (Dir number size) node = IsDirectory lot node × (node.size ≡ size)
NodeFits lot Missing node = ⊤
NodeFits lot Blocked node = ⊤

-- the inode in hand is that of a place
abbrev pub NodeIs : (ℕ → List ℕ) → Place → Inode → Type 0
NodeIs m (File number size) node = node ≡ inode_of m number
NodeIs m (Dir number size) node = node ≡ inode_of m number
NodeIs m Missing node = ⊤
NodeIs m Blocked node = ⊤

-- the directories lead to the inode of a place
abbrev pub PlaceReached : Form → LotView → (ℕ → List ℕ) → Place → Type 0
PlaceReached form lot m (File number size) = IsReached form lot m number
PlaceReached form lot m (Dir number size) = IsReached form lot m number
PlaceReached form lot m Missing = ⊤
PlaceReached form lot m Blocked = ⊤

-- a place that the directories lead to, with its inode in hand
pub record PlaceInHand (form : Form) (lot : LotView) (m : ℕ → List ℕ) (place : Place) (node : Inode) : Type 0 where
  pub is : PlaceIs m place
  pub reached : PlaceReached form lot m place
  pub node_is : NodeIs m place node

-- what stands at a place is what a directory at the other place names so
abbrev pub PlaceNamed : Form → (ℕ → List ℕ) → Place → List ℕ → Place → Type 0
PlaceNamed form m (Dir dir entries) name (File number size) = look_up name (dir_rows_of form m dir) ≡ Some number
PlaceNamed form m (Dir dir entries) name (Dir number size) = look_up name (dir_rows_of form m dir) ≡ Some number
PlaceNamed form m _ name (File number size) = ⊥
PlaceNamed form m _ name (Dir number size) = ⊥
PlaceNamed form m _ name _ = ⊤

-- the faults of a walk
abbrev pub IsWalkFault : OpFault → Type 0
IsWalkFault Disk = Unit {0}
IsWalkFault (Damaged Kind) = Unit {0}
IsWalkFault (Damaged Pointer) = Unit {0}
IsWalkFault (Damaged InodeTwice) = Unit {0}
IsWalkFault _ = ⊥
