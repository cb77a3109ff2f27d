-- What a line of a volume does: its answer, the blocks that it may write, and what a crash within it leaves.
use Rattle.std.specs.Prelude.{◌≡◌, ◌⊎◌, ℕ, ◌+◌, ◌*◌, false, true, ⊤, List, ◌++◌, take, Result, Ok, Err, IfOk, OnOk, OnErr, IsOk, Option, Some, None}
use Rattle.ice_base.specs.Disk.{Image, DiskState, Outside, Rose, RoseBy}
use Rattle.ice_base.specs.Frames.{Within, LeavesOnly, With}
use Rattle.ice_base.specs.Lots.{LotView, extent}
use Rattle.tree_spec.specs.Costs.{Form, blocks, nodes}
use Rattle.tree_spec.specs.Held.{RoomContent}
use Rattle.tree_spec.specs.Lines.{Line}
use Rattle.tree_spec.specs.Operations.{is_change}
use Rattle.tree_spec.specs.Own.{Order, OnTree, Sync, Unmount, Mount, Check, SetOffline, SetOnline, Delete, Grow, Create}
use Rattle.tree_spec.specs.Records.{Cube, Content, Broken, History, Mode, Sound, Unread, tree_now}
use Rattle.tree_spec.specs.Replies.{Response, Accepted, Because, Number, Checked, Tallies, meant}
use Rattle.tree_spec.specs.Replies as reply
use Rattle.tree_spec.specs.Trees.{Tree}
use Rattle.tree_spec.specs.Why as why
use Rattle.tree_spec.specs.World.{World, Aim, Refuse, Listing, At, Step, aim}
use Rattle.tree_spec.specs.declared.reply.Refusal.{Refusal}
use Rattle.tree_spec.specs.declared.reply.StateWord.{StateWord}
use Rattle.tree_spec.specs.declared.reply.StateWord.TheVariants.{Mounted}
use Rattle.tree_spec.specs.declared.reply.Value.{Value}
use Rattle.ice_tables.specs.Tables.{Tables}
use Rattle.ice_tables.specs.Lots.{lot_of, groups_of, total}
use Rattle.ice_images.specs.Fitting.{Fits}
use Rattle.ice_images.specs.Recovering.{Recovers, RecoversNothing}
use Rattle.ice_cube.specs.Wider.{IsNewBlock}
use Rattle.ice_system.specs.Plans.{free_groups}
use Rattle.ice_system.specs.Says.{IsChange}
use Rattle.ice_system.specs.Systems.{tables_of}
use Rattle.ice_volume.specs.Volumes.{VolumeView, StandsFor, IsWritable}

-- ---- faults

-- whether a reply is a fault, as a number
abbrev pub fault_in : Response → ℕ
fault_in (Ok x) = 0
fault_in (Err reply.Fault) = 1
fault_in (Err refused) = 0

-- the line is an order that changes the tables
abbrev pub IsTableOrder : Aim → Type 0
IsTableOrder (At s (Create p n)) = ⊤
IsTableOrder (At s Delete) = ⊤
IsTableOrder (At s (Grow n)) = ⊤
IsTableOrder (At s SetOffline) = ⊤
IsTableOrder (At s SetOnline) = ⊤
IsTableOrder _ = ⊥

-- ---- the blocks that a line may write

-- the lot of a slot with n groups more, the least free ones
abbrev pub planned_lot : Tables → ℕ → ℕ → LotView
planned_lot t s n = record { slot = s; base = 32 + 256 * t.slots; groups = groups_of t s ++ take n (free_groups t) }

-- where the reply is no refusal that has a cause, a block is one of these
abbrev pub UnlessRefused : Response → (ℕ → Type 0) → ℕ → Type 0
UnlessRefused (Err (Because why)) P k = ⊥
UnlessRefused _ P k = P k

-- The blocks that an order to a slot may write, by its reply: those of the cube's lot, those of the tables and their journal, and with
-- these those of the groups that a cube gets.
abbrev pub OrderWrites : Tables → ℕ → Order → Response → ℕ → Type 0
OrderWrites t s (OnTree op) r k = (is_change op ≡ true) × extent (lot_of t s) k
OrderWrites t s Sync r k = UnlessRefused r (extent (lot_of t s)) k
OrderWrites t s Unmount r k = UnlessRefused r (extent (lot_of t s)) k
OrderWrites t s Mount r k = UnlessRefused r (extent (lot_of t s)) k
OrderWrites t s Check r k = ⊥
OrderWrites t s SetOffline r k = UnlessRefused r IsChange k
OrderWrites t s SetOnline r k = UnlessRefused r IsChange k
OrderWrites t s Delete r k = IsChange k
OrderWrites t s (Grow n) r k = IsChange k ⊎ IsNewBlock (lot_of t s) (planned_lot t s n) k
OrderWrites t s (Create p n) r k = IsChange k ⊎ extent (planned_lot t s n) k

-- the blocks that a line may write, by what it is meant for and its reply
abbrev pub LineWrites : Tables → Aim → Response → ℕ → Type 0
LineWrites t (Refuse why) r k = ⊥
LineWrites t Listing r k = ⊥
LineWrites t (At s o) r k = OrderWrites t s o r k

-- ---- what a mount and a check find

-- the tree and the count that a mount found are those that the lot recovers, and where it found damage, the lot recovers nothing
abbrev pub MountFound : LotView → Image → Response → Option Cube → Type 0
MountFound lot image (Ok (Number k)) (Some c) = (h : History) × (c.content ≡ Sound h) × Recovers lot image c.form c.mode (tree_now h) k
MountFound lot image (Err (Because (why.Damaged rule))) c = RecoversNothing lot image
MountFound lot image r c = ⊤

-- the lot recovers a tree of this cost and so many nodes, with k accepted operations
pub record RecoversOf (lot : LotView) (image : Image) (cost count k : ℕ) : Type 0 where
  pub form : Form
  pub mode : Mode
  pub tree : Tree
  pub recovers : Recovers lot image form mode tree k
  pub cost_is : cost ≡ blocks form tree
  pub nodes_are : count ≡ nodes tree

-- likewise a check of a cube that is not mounted
abbrev pub CheckFound : StateWord → LotView → Image → Response → Type 0
CheckFound Mounted lot image r = ⊤
CheckFound state lot image (Ok (Checked cost count k)) = RecoversOf lot image cost count k
CheckFound state lot image (Err (Because (why.Damaged rule))) = RecoversNothing lot image
CheckFound state lot image r = ⊤

-- what an order found in the lot of its cube, whose record was c and is d
abbrev pub OrderFound : LotView → Image → Order → Response → (c d : Option Cube) → Type 0
OrderFound lot image Mount r c d = MountFound lot image r d
OrderFound lot image Check r (Some c) d = CheckFound c.state lot image r
OrderFound lot image o r c d = ⊤

-- the same of what a line is meant for, from a world to the next one
abbrev pub LineFound : Tables → Image → Aim → Response → (w z : World) → Type 0
LineFound t image (At s o) r w z = OrderFound (lot_of t s) image o r (w.cube s) (z.cube s)
LineFound t image a r w z = ⊤

-- ---- cubes that recover nothing

-- the content of a record whose lot recovers nothing
abbrev pub IsBrokenContent : Content → Type 0
IsBrokenContent (Sound h) = ⊥
IsBrokenContent (Broken rules) = ⊤
IsBrokenContent Unread = ⊥

-- the record of a broken cube
abbrev pub SaysBroken : Option Cube → Type 0
SaysBroken None = ⊥
SaysBroken (Some c) = IsBrokenContent c.content

-- the blocks of the lots of all broken cubes
abbrev pub IsOfBroken : Tables → World → ℕ → Type 0
IsOfBroken t u k = (x : ℕ) × SaysBroken (u.cube x) × extent (lot_of t x) k

-- ---- lines

-- the image fits the world, or one that an Ok reply to the line may lead to
abbrev pub MayFit : World → Line → Image → Type 0
MayFit w line image = Fits w image ⊎ ((r : Response) × (v : World) × Step w line r v × IsOk r × Fits v image)

-- A reply of the line, the world after it, for which the volume and the disk stand then, and what was found on the way. A cube that stays
-- broken keeps its lot.
pub record Answers (v w : VolumeView) (old new : DiskState) (line : Line) (u : World) (r : Response) : Type 0 where
  pub then : World
  pub step : Step u line r then
  pub stands : StandsFor w new then
  pub found : LineFound (tables_of v.system) old.now (aim u line) r u then
  pub lots : (x : ℕ) → SaysBroken (u.cube x) → SaysBroken (then.cube x) → lot_of (tables_of w.system) x ≡ lot_of (tables_of v.system) x

-- A line, answered or, where a change of the tables failed late, not. Each crash leaves an image that fits the world before, or one after
-- an Ok reply. The reply and the world after it follow by a step, and only the blocks of the line's order are written, none of them a
-- broken cube's.
pub record AnswersLine {D X : Type 0} (state : D → DiskState) (left : D → ℕ → Image → List ℕ → Type 0)
    (line : Line) (v w : VolumeView) (room : RoomContent) (result : Result (Result Value Refusal) X) (old new : D) : Type 0 where
  pub within : Within state left (IsWritable v) old new
  pub size : total (tables_of w.system) ≡ total (tables_of v.system)
  pub cause : OnErr result (v.system.failed ≡ false → Rose (state old).faults (state new).faults)
  pub live : OnOk result (w.system.failed ≡ v.system.failed)
  pub faults : IfOk result (λ r. RoseBy (fault_in (meant r room)) (state old).faults (state new).faults)
  pub tallies : IfOk result (λ r. Tallies r room)
  pub leaves : (u : World) → StandsFor v (state old) u → LeavesOnly left old new (With (state old).streams.aside (MayFit u line))
  pub goes : (u : World) → StandsFor v (state old) u → IfOk result (λ r. Answers v w (state old) (state new) line u (meant r room))
  pub frame : (u : World) → StandsFor v (state old) u
      → IfOk result (λ r. Within state left (LineWrites (tables_of v.system) (aim u line) (meant r room)) old new)
  pub spares : (u : World) → StandsFor v (state old) u → Within state left (Outside (IsOfBroken (tables_of v.system) u)) old new
  pub stops : (u : World) → StandsFor v (state old) u → OnErr result (IsTableOrder (aim u line))
