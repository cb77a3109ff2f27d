-- Files and empty directories that are taken away.
use Rattle.std.specs.Prelude.{◌≡◌, ◌≤◌, ◌<◌, ℕ, ◌*◌, false, List, length, Option, Some, None, if◌then◌else◌, ◌⊎◌, true}
use Rattle.ice_base.specs.Lots.{LotView}
use Rattle.ice_base.specs.declared.fault.Rule.TheVariants.{Pointer}
use Rattle.ice_base.specs.Inodes.{inode_address, inode_index}
use Rattle.ice_map.specs.declared.codec.Inode.{Inode}
use Rattle.ice_map.specs.Inodes.{inode_of, empty_inode, Blank}
use Rattle.ice_file.specs.Files.{ReachesTo}
use Rattle.tree_spec.specs.Why.{Why}
use Rattle.tree_spec.specs.Why as why
use Rattle.tree_spec.specs.Trees.{Tree, Found, walk, parent, last_name}
use Rattle.tree_spec.specs.Costs.{Form, form_one}
use Rattle.tree_spec.specs.Operations.{Remove}
use Rattle.tree_spec.specs.Answers.{refusal, is_root, is_full_found, bytes_of, bytes_found}
use Rattle.ice_reads.specs.Tables.{Map, Table}
use Rattle.ice_map.specs.Own.{own, blocks_for}
use Rattle.ice_reads.specs.Reads.{Reads, inode_on, used_blocks, used_inodes}
use Rattle.ice_reads.specs.Recovers.{MapRecovers}
use Rattle.ice_steps.specs.Beside.{Beside}
use Rattle.ice_look.specs.Places.{IsReached}
use Rattle.ice_tree.specs.declared.removes.Removal.{Removal}
use Rattle.ice_look.specs.Ends.{IsDirAt, DirFits, DirIs}
use Rattle.ice_look.specs.Stages.{or_else, walk_refusal}
use Rattle.ice_base.specs.Used.{is_data, used_inode, counted}
use Rattle.ice_base.specs.declared.fault.Rule.{Rule}
use Rattle.ice_base.specs.declared.fault.Rule.TheVariants as rule
use Rattle.ice_map.specs.Maps.{uses, Misleads, UsesUnmarked, HasTwice}
use Rattle.ice_map.specs.Moves.{uses_of}
use Rattle.ice_dir.specs.Rows.{dir_rows_of, look_up}

-- the refusal of a removal by what stands at the path
abbrev pub removal_refusal : List (List ℕ) → Tree → Option Why
removal_refusal p t =
    or_else (walk_refusal (walk p t)) (or_else (if is_root p then Some why.IsRoot else None) (if is_full_found (walk p t) then Some why.NotEmpty else None))

-- the inode of nothing
abbrev pub free_inode : Inode
free_inode = empty_inode 0

-- all 128 bytes of an inode are 0, those of its fields and those in which no field stands
pub record Freed (m : Map) (number : ℕ) : Type 0 where
  pub value : inode_of m number ≡ free_inode
  pub blank : Blank (m (inode_address number)) (inode_index number)

-- what stands at a path: its directory, its inode, and the bytes of a file
pub record IsRemoval (f : Form) (o : Table) (p : List (List ℕ)) (t : Tree) (gone : Removal) : Type 0 where
  pub spot_is : IsDirAt f o (parent p) t gone.spot
  pub number_is : gone.number ≡ inode_on f o 0 p
  pub bytes_are : gone.bytes ≡ length (bytes_found (walk p t))

-- its numbers fit the lot, and the inode of a file agrees with them
pub record RemovalFits (lot : LotView) (gone : Removal) : Type 0 where
  pub spot : DirFits lot gone.spot
  pub number : gone.number < 64 * length lot.groups
  pub bytes : gone.bytes ≤ form_one.longest_file
  pub file : 0 < gone.bytes → ReachesTo form_one 0 gone.node

-- the map recovers a tree that loses what stands at the path, the inodes are those of the map, and the name is the path's last one
pub record Loses (f : Form) (mode : ℕ) (lot : LotView) (m : Map) (t : Tree) (k : ℕ) (p : List (List ℕ)) (gone : Removal) (name : List ℕ) : Type 0 where
  pub recovers : MapRecovers f mode lot m t k
  pub gone_is : IsRemoval f (own f m) p t gone
  pub spot_node : gone.spot.node ≡ inode_of m gone.spot.number
  pub node_is : gone.node ≡ inode_of m gone.number
  pub name_is : name ≡ last_name p
  pub accepted : refusal t k (length lot.groups) f (Remove p) ≡ None

-- beside a tree stands a file or an empty directory, at an inode that no directory names, and it has so many bytes
pub record StandsLoose (f : Form) (mode : ℕ) (lot : LotView) (m : Map) (t : Tree) (k number bytes : ℕ) : Type 0 where
  pub tree : Tree
  pub level : ℕ
  pub beside : Beside f mode lot m t k (used_blocks f (own f m) number tree) (used_inodes f (own f m) number tree)
  pub reads : Reads f lot (own f m) number level tree
  pub empty : is_full_found (Found tree) ≡ false
  pub bytes_are : bytes ≡ length (bytes_of tree)

-- what is removed: a directory names it so, this is its inode, and a file has its bytes
pub record RemovalIs (form : Form) (lot : LotView) (m : ℕ → List ℕ) (name : List ℕ) (gone : Removal) : Type 0 where
  pub spot_is : DirIs form lot m gone.spot
  pub named : look_up name (dir_rows_of form m gone.spot.number) ≡ Some gone.number
  pub reached : IsReached form lot m gone.number
  pub node_is : gone.node ≡ inode_of m gone.number
  pub file : 0 < gone.bytes → ReachesTo form_one 0 (inode_of m gone.number)

-- what is damaged of a file or an empty directory at an inode, whether or not a directory names it, by the rule on counts, pointers or bitmaps
abbrev pub LooseBroken : LotView → (ℕ → List ℕ) → ℕ → Rule → Type 0
LooseBroken lot m number rule.Counts =
    (((inode_of m number).kind ≡ 1) × ((inode_of m number).size ≤ form_one.longest_file) × (counted false m
    < uses_of (blocks_for (inode_of m number).size))) ⊎ (counted true m ≡ 0)
LooseBroken lot m number rule.Pointer =
    ((inode_of m number).kind ≡ 1) × ((inode_of m number).size ≤ form_one.longest_file) × Misleads lot m (inode_of m number)
    (blocks_for (inode_of m number).size)
LooseBroken lot m number rule.Bitmap =
    (((inode_of m number).kind ≡ 1) × ((inode_of m number).size ≤ form_one.longest_file)
    × (12 < blocks_for (inode_of m number).size → is_data lot (inode_of m number).single ≡ true)
    × (UsesUnmarked m (inode_of m number) (blocks_for (inode_of m number).size) ⊎ HasTwice
    (uses m (inode_of m number) (blocks_for (inode_of m number).size)))) ⊎ (used_inode m number ≡ false)
LooseBroken lot m number _ = ⊥
