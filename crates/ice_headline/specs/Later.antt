-- What a later session finds of a cube, and how the cube serves from there on.
use Rattle.std.specs.Prelude.{◌≡◌, ◌⊎◌, ◌≤◌, ℕ, ◌+◌, ⊤, false, List, [], ◌∷◌, ◌++◌, Option, None, Some, Ok, Err, IsOk}
use Rattle.ice_base.specs.Disk.{Image}
use Rattle.tree_spec.specs.Why as why
use Rattle.tree_spec.specs.Trees.{Tree}
use Rattle.tree_spec.specs.Lines.{Asks}
use Rattle.tree_spec.specs.Lines as line
use Rattle.tree_spec.specs.Replies.{Response, Because, Number}
use Rattle.tree_spec.specs.Answers.{tree_after}
use Rattle.tree_spec.specs.Records.{Cube, Sound, History, floor, done, fresh, is_offline}
use Rattle.tree_spec.specs.Own.{Order, Mount, Grow}
use Rattle.tree_spec.specs.Alone.{IsClean}
use Rattle.tree_spec.specs.World.{World, At, aim}
use Rattle.tree_spec.specs.declared.reply.StateWord.TheVariants.{Mounted, Offline}
use Rattle.ice_tables.specs.Tables.{Tables, HasTables}
use Rattle.ice_tables.specs.Lots.{lot_of}
use Rattle.ice_images.specs.Recovering.{Recovers}
use Rattle.ice_images.specs.Fitting.{entry_at, cube_entry}
use Rattle.ice_images.specs.Opening.{closed_state}
use Rattle.ice_run.specs.Runs.{Answered, Runs, end}
use Rattle.ice_run.specs.Alone.{Told, told, AllClean, orders_of, replies_of, said}
use Rattle.ice_headline.specs.Acknowledged.{LivesOn, acknowledged_from, first_commands, Includes}

-- ---- mounts

-- a mount that was answered Ok
abbrev pub IsMounting : Order → Response → Type 0
IsMounting Mount r = IsOk r
IsMounting _ r = ⊥

-- no mount was answered Ok
abbrev pub NoneMounted : List Told → Type 0
NoneMounted [] = ⊤
NoneMounted (t ∷ ts) = (¬ IsMounting t.order t.reply) × NoneMounted ts

-- the groups that a line added
abbrev pub added_by : Order → Response → ℕ
added_by (Grow n) (Ok x) = n
added_by _ r = 0

-- the groups that were added to the cube
abbrev pub added : List Told → ℕ
added [] = 0
added (t ∷ ts) = added_by t.order t.reply + added ts

-- the slot's cube is offline
abbrev pub IsOff : Option Cube → Type 0
IsOff None = ⊥
IsOff (Some c) = c.state ≡ Offline

-- ---- what is found

-- the tree after the first k accepted commands, of which the base has the first ones
pub record FirstAccepted (h : History) (k : ℕ) (t : Tree) : Type 0 where
  pub base : h.from ≤ k
  pub few : k ≤ done h
  pub tree : t ≡ tree_after (first_commands h k) h.base

-- the record of a cube that a session finds unmounted, with this tree and count
pub record IsFound (c : Cube) (t : Tree) (k : ℕ) (d : Cube) : Type 0 where
  pub path : d.path ≡ c.path
  pub groups : d.groups ≡ c.groups
  pub form : d.form ≡ c.form
  pub state : d.state ≡ closed_state (is_offline c.state)
  pub content : d.content ≡ Sound (fresh t k)

-- ---- how it serves

-- the record of a cube that was found, after it was mounted, with so many groups more
pub record IsMountedAs (d : Cube) (t : Tree) (k more : ℕ) (e : Cube) : Type 0 where
  pub path : e.path ≡ d.path
  pub groups : e.groups ≡ d.groups + more
  pub form : e.form ≡ d.form
  pub mode : e.mode ≡ d.mode
  pub state : e.state ≡ Mounted
  pub content : e.content ≡ Sound (fresh t k)

-- The mount answers the count. Unless a later line of the cube meets a fault or want of memory, its replies are those that the record
-- gives by itself.
pub record MountsAs (x k : ℕ) (t : Tree) (d : Cube) (more : ℕ) (a : Answered) (rest : List Answered) : Type 0 where
  pub reply : a.reply ≡ Ok (Number k)
  pub cube : Cube
  pub there : a.then.cube x ≡ Some cube
  pub mounted : IsMountedAs d t k more cube
  pub alone : AllClean (told x a.then rest) → replies_of (told x a.then rest) ≡ said (Some cube) (orders_of (told x a.then rest))

-- In a run from a world that has the cube d in the slot, with this tree and count: each mount before and up to the first that is answered Ok
-- is answered with the count, unless it meets a fault or want of memory, or the cube is offline then.
pub record Serves (x k : ℕ) (t : Tree) (d : Cube) (u : World) (steps : List Answered) : Type 0 where
  pub mounts : (before rest : List Answered) (a : Answered) → steps ≡ before ++ a ∷ rest → LivesOn x u before → NoneMounted (told x u before)
      → aim (end u before) a.line ≡ At x Mount → IsClean a.reply
      → (IsOff ((end u before).cube x) × (a.reply ≡ Err (Because why.Offline))) ⊎ MountsAs x k t d (added (told x u before)) a rest

-- A sound cube after a crash and damage to another one. Its row stands in the image. The image records a count, which includes what was
-- acknowledged in the lines that were answered, and the tree after so many of the cube's first accepted commands. A later session finds it
-- so in the world that the image opens, and it serves from there on.
pub record Survives (x : ℕ) (w : World) (steps : List Answered) (c : Cube) (h : History) (image : Image) (u : World) : Type 0 where
  pub tables : Tables
  pub has : HasTables image tables
  pub row : entry_at tables x ≡ Some (cube_entry c)
  pub count : ℕ
  pub tree : Tree
  pub first : FirstAccepted h count tree
  pub floor : floor h ≤ count
  pub covers : acknowledged_from 0 x w steps ≤ count
  pub includes : Includes x w steps h count
  pub cube : Cube
  pub records : Recovers (lot_of tables x) image c.form cube.mode tree count
  pub there : u.cube x ≡ Some cube
  pub found : IsFound c tree count cube
  pub told : aim u (Asks (line.Mount c.path)) ≡ At x Mount
  pub mounts : (a : Answered) (rest : List Answered) → Runs u (a ∷ rest) → a.line ≡ Asks (line.Mount c.path) → is_offline c.state ≡ false
      → IsClean a.reply → MountsAs x count tree cube 0 a rest
  pub serves : (steps : List Answered) → Runs u steps → Serves x count tree cube u steps
