-- Trees that are moved.
use Rattle.std.specs.Prelude.{◌≡◌, ◌≤◌, ◌<◌, ℕ, ◌*◌, Bool, true, false, List, length, Some, ◌||◌, Option, None, if◌then◌else◌, ◌≢◌, ◌+◌, ◌-◌}
use Rattle.ice_base.specs.Lots.{LotView}
use Rattle.ice_dir.specs.Rows.{dir_rows_of, look_up}
use Rattle.tree_spec.specs.Trees.{Tree, walk, parent, last_name, parent_walk}
use Rattle.tree_spec.specs.Costs.{Form}
use Rattle.ice_reads.specs.Tables.{Table, Map}
use Rattle.ice_map.specs.Inodes.{inode_of}
use Rattle.ice_map.specs.Own.{own}
use Rattle.ice_look.specs.declared.place.Place.{Place}
use Rattle.ice_look.specs.declared.place.Place.TheVariants.{File, Dir}
use Rattle.tree_spec.specs.Why.{Why}
use Rattle.tree_spec.specs.Why as why
use Rattle.tree_spec.specs.Routes.{is_same_path}
use Rattle.tree_spec.specs.Operations.{Rename}
use Rattle.tree_spec.specs.Answers.{refusal, is_root, is_not_found, is_not_dir, is_taken, moves_too_deep, moves_into_itself}
use Rattle.ice_reads.specs.Recovers.{MapRecovers}
use Rattle.ice_tree.specs.declared.renames.Move.{Move}
use Rattle.ice_look.specs.Ends.{IsDirAt, DirFits, DirIs}
use Rattle.ice_look.specs.Stages.{or_else}
use Rattle.ice_base.specs.Used.{free_count}
use Rattle.ice_map.specs.Moves.{uses_of}
use Rattle.ice_dir.specs.Changes.{entry_blocks}
use Rattle.ice_tree.specs.Quotas.{CanCount}

-- whether a file or a directory stands at a place
abbrev pub is_place : Place → Bool
is_place (File number size) = true
is_place (Dir number size) = true
is_place _ = false

-- whether a directory does
abbrev pub is_dir_place : Place → Bool
is_dir_place (Dir number size) = true
is_dir_place _ = false

-- the refusal of a rename by how high the tree is that it moves
abbrev pub height_refusal : List (List ℕ) → List (List ℕ) → Tree → Option Why
height_refusal p q t = if moves_too_deep (Rename p q) t then Some why.TooDeep else None

-- by what stands at the two paths
abbrev pub ends_refusal : List (List ℕ) → List (List ℕ) → Tree → Option Why
ends_refusal p q t =
    or_else (if is_not_found (walk p t) || is_not_found (parent_walk q t) then Some why.NotFound else None) (
    or_else (if is_not_dir (walk p t) || is_not_dir (parent_walk q t) then Some why.NotDir else None) (
    or_else (if is_root p || is_root q then Some why.IsRoot else None) (
    or_else (if is_taken (Rename p q) t then Some why.Exists else None) (if moves_into_itself (Rename p q) then Some why.IntoItself else None))))

-- by both
abbrev pub move_refusal : List (List ℕ) → List (List ℕ) → Tree → Option Why
move_refusal p q t = or_else (height_refusal p q t) (ends_refusal p q t)

-- the directories of both paths, and whether the paths are one
pub record IsMove (f : Form) (o : Table) (p q : List (List ℕ)) (t : Tree) (step : Move) : Type 0 where
  pub from_is : IsDirAt f o (parent p) t step.from
  pub to_is : IsDirAt f o (parent q) t step.to
  pub same_is : step.same ≡ is_same_path p q

-- their numbers fit the lot
pub record MoveFits (lot : LotView) (step : Move) : Type 0 where
  pub from : DirFits lot step.from
  pub to : DirFits lot step.to

-- the map recovers a tree that takes the rename, the inodes are those of the map, and the names are the last ones of the paths
pub record Renames (f : Form) (mode : ℕ) (lot : LotView) (m : Map) (t : Tree) (k : ℕ) (p q : List (List ℕ)) (step : Move) (name new : List ℕ) : Type 0 where
  pub recovers : MapRecovers f mode lot m t k
  pub move_is : IsMove f (own f m) p q t step
  pub from_node : step.from.node ≡ inode_of m step.from.number
  pub to_node : step.to.node ≡ inode_of m step.to.number
  pub name_is : name ≡ last_name p
  pub new_is : new ≡ last_name q
  pub accepted : refusal t k (length lot.groups) f (Rename p q) ≡ None

-- what is renamed: a directory names it so, and another one is to take it
pub record MoveIs (form : Form) (lot : LotView) (m : ℕ → List ℕ) (name : List ℕ) (step : Move) : Type 0 where
  pub from_is : DirIs form lot m step.from
  pub to_is : DirIs form lot m step.to
  pub number : ℕ
  pub below : number < 64 * length lot.groups
  pub named : look_up name (dir_rows_of form m step.from.number) ≡ Some number

-- as many inodes and blocks are there as a rename needs, and one more operation can be counted
pub record RowFits (form : Form) (lot : LotView) (m : ℕ → List ℕ) (step : Move) : Type 0 where
  pub room : step.from.number ≢ step.to.number → step.from.entries + step.to.entries < 64 * length lot.groups
  pub blocks : step.same ≡ false → step.from.number ≢ step.to.number
      → uses_of (entry_blocks form (step.to.entries + 1)) + uses_of (entry_blocks form (step.from.entries - 1))
      ≤ uses_of (entry_blocks form step.to.entries) + uses_of (entry_blocks form step.from.entries) + free_count false lot m
  pub done : CanCount m
