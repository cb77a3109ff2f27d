-- Where a path and its directory end.
use Rattle.std.specs.Prelude.{◌≡◌, ◌<◌, ◌*◌, ℕ, List, length}
use Rattle.ice_base.specs.Lots.{LotView}
use Rattle.tree_spec.specs.Trees.{Tree, Entries, Found, walk, parent, rows}
use Rattle.tree_spec.specs.Trees as tree
use Rattle.tree_spec.specs.Costs.{Form}
use Rattle.ice_reads.specs.Tables.{Table}
use Rattle.ice_reads.specs.Reads.{inode_on}
use Rattle.ice_look.specs.declared.ends.Ends.{Ends}
use Rattle.ice_look.specs.declared.looks.DirAt.{DirAt}
use Rattle.ice_look.specs.Places.{place_at, PlaceFits, IsReached, PlaceInHand, NodeFits}
use Rattle.ice_map.specs.Inodes.{inode_of}
use Rattle.ice_dir.specs.Rows.{IsDirectory}

-- the places where the walks to a path's directory and to the path itself end
pub record IsEnds (f : Form) (o : Table) (names : List (List ℕ)) (t : Tree) (ends : Ends) : Type 0 where
  pub at_parent : ends.parent ≡ place_at f o (parent names) t
  pub at_end : ends.end ≡ place_at f o names t

-- both fit the lot, and their inodes agree with them
pub record EndsFit (lot : LotView) (ends : Ends) : Type 0 where
  pub at_parent : PlaceFits lot ends.parent
  pub at_end : PlaceFits lot ends.end
  pub above : NodeFits lot ends.parent ends.above
  pub node : NodeFits lot ends.end ends.node

-- a directory of the tree: its inode and the number of its entries
pub record IsDirAt (f : Form) (o : Table) (names : List (List ℕ)) (t : Tree) (spot : DirAt) : Type 0 where
  pub inside : Entries
  pub there : walk names t ≡ Found (tree.Dir inside)
  pub number : spot.number ≡ inode_on f o 0 names
  pub count : spot.entries ≡ length (rows inside)

-- its numbers fit the lot, and its inode agrees with them
pub record DirFits (lot : LotView) (spot : DirAt) : Type 0 where
  pub number : spot.number < 64 * length lot.groups
  pub count : spot.entries < 64 * length lot.groups
  pub dir : IsDirectory lot spot.node
  pub size : spot.node.size ≡ spot.entries

-- the directories lead to the ends of a path, whose inodes are in hand
pub record EndsAre (form : Form) (lot : LotView) (m : ℕ → List ℕ) (ends : Ends) : Type 0 where
  pub parent : PlaceInHand form lot m ends.parent ends.above
  pub end : PlaceInHand form lot m ends.end ends.node

-- a directory to which the directories lead, and how many entries it has
pub record DirIs (form : Form) (lot : LotView) (m : ℕ → List ℕ) (spot : DirAt) : Type 0 where
  pub reached : IsReached form lot m spot.number
  pub dir : IsDirectory lot (inode_of m spot.number)
  pub entries : (inode_of m spot.number).size ≡ spot.entries
  pub node_is : spot.node ≡ inode_of m spot.number
