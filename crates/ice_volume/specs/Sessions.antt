-- The start and the end of a session.
use Rattle.std.specs.Prelude.{◌≡◌, ◌⊎◌, ◌<◌, ◌≤◌, ℕ, Bool, true, cond, nat_lt, List, Option}
use Rattle.ice_base.specs.Disk.{DiskState, Everywhere, Image}
use Rattle.ice_base.specs.Lots.{LotView}
use Rattle.ice_base.specs.Frames.{Settled}
use Rattle.std.specs.Option.{option_map}
use Rattle.tree_spec.specs.Records.{Cube, Content, Sound, settled}
use Rattle.tree_spec.specs.World.{World, with_slot}
use Rattle.tree_spec.specs.declared.reply.StateWord.{StateWord}
use Rattle.tree_spec.specs.declared.reply.StateWord.TheVariants.{Mounted, Stopped, Unmounted}
use Rattle.ice_images.specs.Fitting.{Has, cube_entry}
use Rattle.ice_images.specs.Opening.{Opens}
use Rattle.ice_system.specs.declared.fault.TablesFault.{TablesFault}
use Rattle.ice_system.specs.declared.fault.TablesFault.TheVariants.{Disk, Memory}
use Rattle.ice_volume.specs.Cells.{cell_at}
use Rattle.ice_volume.specs.Lines.{SaysBroken}
use Rattle.ice_volume.specs.Volumes.{VolumeView, StandsFor}
use Rattle.ice_volume.specs.declared.cell.Cell.{Cell}
use Rattle.ice_volume.specs.declared.cell.Cell.TheVariants.{Closed}

-- ---- the start

-- the disk tells and is settled, and what reads give opens the world
pub record Starts (s : DiskState) (w : World) : Type 0 where
  pub settled : Settled Everywhere s
  pub opens : Opens s.now w

-- no cube is open
abbrev pub AllClosed : List Cell → Type 0
AllClosed cells = (x : ℕ) → cell_at cells x ≡ Closed

-- the disk failed, or there was no memory
abbrev pub IsOfHost : TablesFault → Type 0
IsOfHost fault = (fault ≡ Disk) ⊎ (fault ≡ Memory)

-- ---- the end

-- a cube that is mounted is unmounted at the end, with all that was accepted
abbrev pub put_away : StateWord → Content → Cube → Cube
put_away Mounted (Sound h) c = record c { state = Unmounted; content = Sound (settled h) }
put_away _ x c = c

-- the record of a slot at the end, where it has one
abbrev pub away_at : Option Cube → Option Cube
away_at o = option_map (λ (c : Cube). put_away c.state c.content c) o

-- a mounted cube whose unmount failed is stopped, with what it had accepted
abbrev pub give_up : StateWord → Cube → Cube
give_up Mounted c = record c { state = Stopped }
give_up _ c = c

-- the record of a slot whose unmount failed at the end, where it has one
abbrev pub stopped_at : Option Cube → Option Cube
stopped_at o = option_map (λ (c : Cube). give_up c.state c) o

-- the record after an unmount was tried: that of a cube that was put away, or of one that is stopped
abbrev pub IsTried : Option Cube → Option Cube → Type 0
IsTried c d = (d ≡ away_at c) ⊎ (d ≡ stopped_at c)

-- The volume and the disk stand for a world in which an unmount of every cube was tried.
pub record TriesAll (v : VolumeView) (s : DiskState) (w : World) : Type 0 where
  pub next : World
  pub stands : StandsFor v s next
  pub tried : (x : ℕ) → IsTried (w.cube x) (next.cube x)

-- the world after a session whose end was good
abbrev pub finished : World → World
finished w = record w { cube = λ s. away_at (w.cube s) }

-- the tables show the second record like the first, and a lot that holds the second holds the first
pub record IsAsGood (c d : Option Cube) : Type 0 where
  pub entry : option_map cube_entry d ≡ option_map cube_entry c
  pub has : (lot : LotView) (image : Image) → Has lot image d → Has lot image c

-- The slot has a record that is as good, that of a cube that was put away, or of one that is stopped where the unmount failed.
pub record PutsAway (x : ℕ) (ok : Bool) (v : VolumeView) (s : DiskState) (w : World) : Type 0 where
  pub next : Option Cube
  pub stands : StandsFor v s (with_slot w x next)
  pub good : IsAsGood (w.cube x) next
  pub away : ok ≡ true → next ≡ away_at (w.cube x)
  pub tried : IsTried (w.cube x) next
  pub broken : SaysBroken (w.cube x) → SaysBroken next

-- the first n slots' cubes were put away, or an unmount failed, and the others are as they were
abbrev pub away_below : ℕ → (ℕ → Option Cube) → ℕ → Option Cube
away_below n cube x = cond (nat_lt x n) (away_at (cube x)) (cube x)

-- The volume and the disk stand for a world that is as good, in which an unmount of the cubes of these slots was tried, and where none failed,
-- for the one in which they are put away.
pub record HasPutAway (n : ℕ) (ok : Bool) (v : VolumeView) (s : DiskState) (w : World) : Type 0 where
  pub next : World
  pub stands : StandsFor v s next
  pub slots : next.slots ≡ w.slots
  pub groups : next.groups ≡ w.groups
  pub good : (x : ℕ) → IsAsGood (w.cube x) (next.cube x)
  pub away : ok ≡ true → (x : ℕ) → next.cube x ≡ away_below n w.cube x
  pub tried : (x : ℕ) → x < n → IsTried (w.cube x) (next.cube x)
  pub ahead : (x : ℕ) → n ≤ x → next.cube x ≡ w.cube x
  pub broken : (x : ℕ) → SaysBroken (w.cube x) → SaysBroken (next.cube x)
