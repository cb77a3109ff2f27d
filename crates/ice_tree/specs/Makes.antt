-- New files and directories.
use Rattle.std.specs.Prelude.{◌≡◌, ◌≤◌, ◌<◌, ◌+◌, ◌*◌, ℕ, Bool, true, false, List, length, Option, Some, None, if◌then◌else◌}
use Rattle.ice_base.specs.Lots.{LotView}
use Rattle.tree_spec.specs.Why.{Why}
use Rattle.tree_spec.specs.Why as why
use Rattle.tree_spec.specs.Trees.{Tree, walk, parent, last_name, parent_walk}
use Rattle.tree_spec.specs.Costs.{Form}
use Rattle.tree_spec.specs.Names.{is_name}
use Rattle.tree_spec.specs.Operations.{Operation, Mkdir, Make}
use Rattle.tree_spec.specs.Answers.{is_root, is_found, refusal}
use Rattle.ice_map.specs.declared.codec.Inode.{Inode}
use Rattle.ice_map.specs.Inodes.{empty_inode, inode_of}
use Rattle.ice_reads.specs.Tables.{Map}
use Rattle.ice_map.specs.Own.{own}
use Rattle.ice_reads.specs.Recovers.{MapRecovers}
use Rattle.ice_look.specs.declared.looks.DirAt.{DirAt}
use Rattle.ice_look.specs.Stages.{or_else, walk_refusal}
use Rattle.ice_base.specs.Used.{free_count}
use Rattle.ice_map.specs.Moves.{uses_of}
use Rattle.ice_dir.specs.Changes.{entry_blocks}
use Rattle.ice_look.specs.Ends.{IsDirAt, DirIs}
use Rattle.ice_tree.specs.Quotas.{CanCount}

-- what is made: an empty directory, or an empty file
abbrev pub new_operation : Bool → List (List ℕ) → Operation
new_operation true p = Mkdir p
new_operation false p = Make p

-- the inode of an empty directory, or of an empty file
abbrev pub new_inode : Bool → Inode
new_inode dir = empty_inode (if dir then 2 else 1)

-- the refusal of the place where something is made
abbrev pub new_refusal : List (List ℕ) → Tree → Option Why
new_refusal p t =
    or_else (walk_refusal (parent_walk p t)) (or_else (if is_root p then Some why.IsRoot else None) (if is_found (walk p t) then Some why.Exists else None))

-- the map recovers a tree that takes the new directory or file, the spot is the directory of its path with its inode, and the name is the path's last one
pub record Takes (f : Form) (mode : ℕ) (lot : LotView) (m : Map) (t : Tree) (k : ℕ) (p : List (List ℕ)) (dir : Bool) (spot : DirAt)
    (name : List ℕ) : Type 0 where
  pub recovers : MapRecovers f mode lot m t k
  pub spot_is : IsDirAt f (own f m) (parent p) t spot
  pub node_is : spot.node ≡ inode_of m spot.number
  pub name_is : name ≡ last_name p
  pub proper : is_name name ≡ true
  pub accepted : refusal t k (length lot.groups) f (new_operation dir p) ≡ None

-- such a directory, with what a new entry for a new inode needs
pub record NewFits (form : Form) (lot : LotView) (m : ℕ → List ℕ) (spot : DirAt) : Type 0 where
  pub spot_is : DirIs form lot m spot
  pub room : spot.entries + 1 < 64 * length lot.groups
  pub node : 1 ≤ free_count true lot m
  pub blocks : uses_of (entry_blocks form (spot.entries + 1)) ≤ uses_of (entry_blocks form spot.entries) + free_count false lot m
  pub done : CanCount m
