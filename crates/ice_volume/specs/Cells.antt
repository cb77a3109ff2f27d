-- What the session has of each slot, and when a cell and a lot carry what a record says.
use Rattle.std.specs.Prelude.{◌≡◌, ℕ, Bool, ⊤, List, Option, None, Some, IsSome, slice_index_or}
use Rattle.ice_base.specs.Disk.{Image, DiskState}
use Rattle.ice_base.specs.Frames.{Every}
use Rattle.ice_base.specs.Lots.{LotView, extent}
use Rattle.tree_spec.specs.Costs.{form_one}
use Rattle.tree_spec.specs.Records.{Cube, Content, Sound, Broken, Unread, Plain, is_offline}
use Rattle.tree_spec.specs.declared.reply.StateWord.{StateWord}
use Rattle.tree_spec.specs.declared.reply.StateWord.TheVariants as word
use Rattle.ice_tables.specs.Tables.{Tables}
use Rattle.ice_tables.specs.Lots.{lot_of}
use Rattle.ice_images.specs.Fitting.{Has}
use Rattle.ice_images.specs.Opening.{OpensBroken, closed_state}
use Rattle.ice_cube.specs.Cubes.{CubeView}
use Rattle.ice_cube.specs.Commands.{HoldsRecord, open_state}
use Rattle.ice_volume.specs.declared.cell.Cell.{Cell}
use Rattle.ice_volume.specs.declared.cell.Cell.TheVariants.{Closed, Stopped, Open}

-- what the session has of a slot
abbrev pub cell_at : List Cell → ℕ → Cell
cell_at cells s = slice_index_or cells s Closed

-- an open cube has the lot of its slot, which has a row
abbrev pub IsSession : Tables → ℕ → Cell → Type 0
IsSession t s Closed = ⊤
IsSession t s Stopped = ⊤
IsSession t s (Open e) = (e.lot ≡ lot_of t s) × IsSome (t.row s)

-- the state of a cube with this mark
abbrev pub cell_state : Cell → Bool → StateWord
cell_state Closed offline = closed_state offline
cell_state Stopped offline = word.Stopped
cell_state (Open e) offline = open_state e.stopped

-- every image that a crash leaves holds this record in the lot
abbrev pub EachHas : LotView → DiskState → Option Cube → Type 0
EachHas lot s c = Every (extent lot) s (λ i. Has lot i c)

-- what is known of a lot that recovers nothing, or whose blocks are not known: its record is one of version 1
abbrev pub IsKnown : LotView → Image → Cube → Content → Type 0
IsKnown lot image c (Sound h) = ⊤
IsKnown lot image c (Broken rules) = OpensBroken lot image c rules
IsKnown lot image c Unread = (c.form ≡ form_one) × (c.mode ≡ Plain)

-- A cube that no session has in this state: each image has its record, and what is known of it is so.
pub record Rests (lot : LotView) (s : DiskState) (state : StateWord) (c : Cube) : Type 0 where
  pub each : EachHas lot s (Some c)
  pub known : IsKnown lot s.now c c.content
  pub is : c.state ≡ state

-- an open cube has this lot, and holds the record
pub record HasOpen (lot : LotView) (s : DiskState) (e : CubeView) (c : Cube) : Type 0 where
  pub lot_is : e.lot ≡ lot
  pub record_is : HoldsRecord e s c

-- the cell and the lot carry the record of their slot, where it has one
abbrev pub Carries : Cell → LotView → DiskState → Option Cube → Type 0
Carries Closed lot s None = ⊤
Carries Closed lot s (Some c) = Rests lot s (closed_state (is_offline c.state)) c
Carries Stopped lot s None = ⊥
Carries Stopped lot s (Some c) = Rests lot s word.Stopped c
Carries (Open e) lot s None = ⊥
Carries (Open e) lot s (Some c) = HasOpen lot s e c
