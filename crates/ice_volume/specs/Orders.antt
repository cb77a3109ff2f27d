-- An order to the cube of one slot that leaves the tables as they are.
use Rattle.std.specs.Prelude.{◌≡◌, ◌≤◌, ℕ, Bool, true, false, ⊤, List, length, Result, Ok, Err, Option, None, Some}
use Rattle.ice_base.specs.Disk.{Image, DiskState, Nowhere, RoseBy}
use Rattle.ice_base.specs.Frames.{Within, LeavesOnly, With}
use Rattle.ice_base.specs.Lots.{LotView, extent, is_sited}
use Rattle.tree_spec.specs.Held.{RoomContent}
use Rattle.tree_spec.specs.Operations.{is_change}
use Rattle.tree_spec.specs.Own.{Order, OnTree, Sync, Unmount, Mount, Own}
use Rattle.tree_spec.specs.Records.{Cube, is_offline}
use Rattle.tree_spec.specs.Replies.{Response, Tallies, meant}
use Rattle.tree_spec.specs.declared.reply.Refusal.{Refusal}
use Rattle.tree_spec.specs.declared.reply.Refusal.TheVariants as code
use Rattle.tree_spec.specs.declared.reply.StateWord.{StateWord}
use Rattle.tree_spec.specs.declared.reply.StateWord.TheVariants as word
use Rattle.tree_spec.specs.declared.reply.Value.{Value}
use Rattle.tree_spec.specs.declared.reply.Value.TheVariants as given
use Rattle.ice_rules.specs.Rules.{rule_number}
use Rattle.ice_check.specs.declared.fault.CheckFault.{CheckFault}
use Rattle.ice_check.specs.declared.fault.CheckFault.TheVariants as check
use Rattle.ice_check.specs.declared.fault.Summary.{Summary}
use Rattle.ice_cube.specs.Cubes.{CubeView}
use Rattle.ice_cube.specs.declared.fault.CubeFault.{CubeFault}
use Rattle.ice_cube.specs.declared.fault.CubeFault.TheVariants as cube
use Rattle.ice_images.specs.Fitting.{Has, cube_entry}
use Rattle.ice_volume.specs.Cells.{Carries}
use Rattle.ice_volume.specs.Lines.{IsBrokenContent, OrderFound, UnlessRefused, fault_in}
use Rattle.ice_volume.specs.declared.cell.Cell.{Cell}
use Rattle.ice_volume.specs.declared.cell.Cell.TheVariants.{Closed, Stopped, Open}

-- an open cube has this lot
abbrev pub IsCellOf : LotView → Cell → Type 0
IsCellOf lot Closed = ⊤
IsCellOf lot Stopped = ⊤
IsCellOf lot (Open e) = e.lot ≡ lot

-- the lot of an open cube has a group and lies on a disk of so many blocks
abbrev pub IsSited : Cell → ℕ → Type 0
IsSited Closed n = ⊤
IsSited Stopped n = ⊤
IsSited (Open e) n = (is_sited e.lot n ≡ true) × (1 ≤ length e.lot.groups)

-- the blocks of the lot that an order may write, by its reply
abbrev pub WritesIn : LotView → Order → Response → ℕ → Type 0
WritesIn lot (OnTree op) r k = (is_change op ≡ true) × extent lot k
WritesIn lot Sync r k = UnlessRefused r (extent lot) k
WritesIn lot Unmount r k = UnlessRefused r (extent lot) k
WritesIn lot Mount r k = UnlessRefused r (extent lot) k
WritesIn lot _ r k = ⊥

-- the cell and the lot carry the record of a cube with this mark, on a disk that tells all its blocks
pub record IsRecord (lot : LotView) (offline : Bool) (cell : Cell) (s : DiskState) (c : Cube) : Type 0 where
  pub told : s.tells ≡ true
  pub whole : length s.now ≡ s.size
  pub mark : is_offline c.state ≡ offline
  pub groups : c.groups ≡ length lot.groups
  pub carries : Carries cell lot s (Some c)

-- The record after an order: the reply is the record's own, the cell and the lot carry the one after it, and the tables still show it.
-- Each crash leaves the record as it was, and only the blocks of the order are written, none where the cube is broken.
pub record Becomes {D : Type 0} (state : D → DiskState) (left : D → ℕ → Image → List ℕ → Type 0) (lot : LotView) (o : Order) (after : Cell)
    (old new : D) (c : Cube) (r : Response) : Type 0 where
  pub then : Cube
  pub own : Own (Some c) o r (Some then)
  pub carries : Carries after lot (state new) (Some then)
  pub entry : cube_entry then ≡ cube_entry c
  pub found : OrderFound lot (state old).now o r (Some c) (Some then)
  pub leaves : LeavesOnly left old new (With (state old).streams.aside (λ i. Has lot i (Some c)))
  pub frame : Within state left (WritesIn lot o r) old new
  pub spares : IsBrokenContent c.content → Within state left Nowhere old new

-- An order to the cube of a lot, from one cell to another: what it does to each record that they carry.
pub record AnswersOrder {D : Type 0} (state : D → DiskState) (left : D → ℕ → Image → List ℕ → Type 0) (lot : LotView) (o : Order) (offline : Bool)
    (before after : Cell) (room : RoomContent) (result : Result Value Refusal) (old new : D) : Type 0 where
  pub cell : IsCellOf lot after
  pub within : Within state left (extent lot) old new
  pub faults : RoseBy (fault_in (meant result room)) (state old).faults (state new).faults
  pub tallies : Tallies result room
  pub each : (c : Cube) → IsRecord lot offline before (state old) c → Becomes state left lot o after old new c (meant result room)

-- ---- replies

-- the refusal of a cube that no session has mounted, by its mark
abbrev pub closed_refusal : Bool → Refusal
closed_refusal true = code.Offline
closed_refusal false = code.Unmounted

-- why a cube in this state is not mounted
abbrev pub mount_refusal : StateWord → Option Refusal
mount_refusal word.Mounted = Some code.Mounted
mount_refusal word.Unmounted = None
mount_refusal word.Stopped = None
mount_refusal word.Offline = Some code.Offline

-- the reply that says a count
abbrev pub told_number : Result ℕ Refusal → Result Value Refusal
told_number (Ok n) = Ok (given.Number n)
told_number (Err r) = Err r

-- the reply to a check
abbrev pub told_check : Result Summary CheckFault → Result Value Refusal
told_check (Ok s) = Ok (given.Checked s.blocks s.nodes s.done)
told_check (Err check.Disk) = Err code.Fault
told_check (Err (check.Damaged rule)) = Err (code.Damaged (rule_number rule))

-- the refusal of a mount that failed
abbrev pub fault_refusal : CubeFault → Refusal
fault_refusal cube.Memory = code.Memory
fault_refusal cube.Disk = code.Fault
fault_refusal (cube.Damaged rule) = code.Damaged (rule_number rule)

-- the reply to a mount
abbrev pub told_mount : Result CubeView CubeFault → Result Value Refusal
told_mount (Ok e) = Ok (given.Number e.done)
told_mount (Err fault) = Err (fault_refusal fault)

-- ---- cells

-- the cell after an unmount
abbrev pub cell_without : Result ℕ Refusal → Cell
cell_without (Ok n) = Closed
cell_without (Err r) = Stopped

-- the cell after a mount: that which was there, where it failed
abbrev pub cell_with : Cell → Result CubeView CubeFault → Cell
cell_with cell (Ok e) = Open e
cell_with cell (Err fault) = cell
