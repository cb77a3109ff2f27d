-- Changes of the bytes of files.
use Rattle.std.specs.Prelude.{◌≡◌, ◌≤◌, ◌<◌, ◌+◌, ◌*◌, ℕ, false, List, [], ◌∷◌, length, nat_lt, Option, Some, None, if◌then◌else◌}
use Rattle.ice_base.specs.Lots.{LotView}
use Rattle.tree_spec.specs.Why.{Why}
use Rattle.tree_spec.specs.Why as why
use Rattle.tree_spec.specs.Trees.{Tree, Found, walk}
use Rattle.tree_spec.specs.Trees as tree
use Rattle.tree_spec.specs.Costs.{Form, form_one}
use Rattle.tree_spec.specs.Operations.{Operation}
use Rattle.tree_spec.specs.Answers.{bytes_found, refusal}
use Rattle.ice_file.specs.Files.{ReachesTo}
use Rattle.ice_reads.specs.Tables.{Map, Table}
use Rattle.ice_map.specs.Own.{own, blocks_for}
use Rattle.ice_reads.specs.Reads.{inode_on}
use Rattle.ice_reads.specs.Recovers.{MapRecovers}
use Rattle.ice_look.specs.declared.looks.FileAt.{FileAt}
use Rattle.ice_look.specs.Places.{IsReached}
use Rattle.ice_look.specs.Stages.{or_else, file_refusal, paths_refusal}
use Rattle.ice_base.specs.Used.{free_count}
use Rattle.ice_map.specs.declared.codec.Inode.{Inode}
use Rattle.ice_map.specs.Inodes.{inode_of}
use Rattle.ice_map.specs.Moves.{uses_of}
use Rattle.ice_file.specs.Writes.{blocks_with}
use Rattle.ice_tree.specs.Quotas.{CanCount}

-- a file of the tree that reaches to a place: its inode, and its bytes
pub record IsFile (f : Form) (o : Table) (names : List (List ℕ)) (t : Tree) (at : ℕ) (file : FileAt) : Type 0 where
  pub bytes : List ℕ
  pub there : walk names t ≡ Found (tree.File bytes)
  pub number : file.number ≡ inode_on f o 0 names
  pub size : file.size ≡ length bytes
  pub reaches : at ≤ length bytes

-- its numbers fit the lot, and its inode agrees with them
pub record FileFits (lot : LotView) (at : ℕ) (file : FileAt) : Type 0 where
  pub number : file.number < 64 * length lot.groups
  pub size : file.size ≤ form_one.longest_file
  pub reaches : at ≤ file.size
  pub kind : file.node.kind ≡ 1
  pub node_size : file.node.size ≡ file.size

-- the refusal of a path that has to end at a file that reaches to a place
abbrev pub reach_refusal : Form → List (List ℕ) → ℕ → Tree → Option Why
reach_refusal f p at t =
    or_else (paths_refusal f (p ∷ [])) (or_else (file_refusal (walk p t)) (if nat_lt (length (bytes_found (walk p t))) at then Some why.BeyondEnd else None))

-- the map recovers a tree that takes the operation, and the number and the inode are those of the path's file
pub record TakesAt (f : Form) (mode : ℕ) (lot : LotView) (m : Map) (t : Tree) (k : ℕ) (p : List (List ℕ)) (op : Operation) (number : ℕ)
    (node : Inode) : Type 0 where
  pub recovers : MapRecovers f mode lot m t k
  pub number_is : number ≡ inode_on f (own f m) 0 p
  pub node_is : node ≡ inode_of m number
  pub accepted : refusal t k (length lot.groups) f op ≡ None

-- a file to which the directories lead, which reaches to a place, and its inode
pub record FileIs (form : Form) (lot : LotView) (m : ℕ → List ℕ) (at number : ℕ) (node : Inode) : Type 0 where
  pub reached : IsReached form lot m number
  pub reaches : ReachesTo form at (inode_of m number)
  pub node_is : node ≡ inode_of m number

-- such a file, with what bytes up to `end` need
pub record BytesFit (form : Form) (lot : LotView) (m : ℕ → List ℕ) (at end number : ℕ) (node : Inode) : Type 0 where
  pub file_is : FileIs form lot m at number node
  pub blocks : uses_of (blocks_with (inode_of m number).size end) ≤ uses_of (blocks_for (inode_of m number).size) + free_count false lot m
  pub done : CanCount m
