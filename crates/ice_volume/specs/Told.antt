-- How a change of the tables is told, and the cells after it.
use Rattle.std.specs.Prelude.{◌≡◌, ◌≢◌, ℕ, ⊤, List, Result, Ok, Err}
use Rattle.ice_base.specs.Disk.{DiskState}
use Rattle.ice_base.specs.Lots.{LotView}
use Rattle.tree_spec.specs.Costs.{Form}
use Rattle.tree_spec.specs.Records.{History, Mode}
use Rattle.tree_spec.specs.declared.reply.Refusal.{Refusal}
use Rattle.tree_spec.specs.declared.reply.Refusal.TheVariants.{Fault}
use Rattle.tree_spec.specs.declared.reply.Value.{Value}
use Rattle.tree_spec.specs.declared.reply.Value.TheVariants.{Plain}
use Rattle.ice_system.specs.declared.fault.SystemFault.{SystemFault}
use Rattle.ice_system.specs.declared.fault.SystemFault.TheVariants.{Before, After}
use Rattle.ice_cube.specs.Cubes.{Holds}
use Rattle.ice_cube.specs.Wider.{HasNewGroups, IsWider}
use Rattle.ice_volume.specs.Cells.{cell_at}
use Rattle.ice_volume.specs.declared.cell.Cell.{Cell}
use Rattle.ice_volume.specs.declared.cell.Cell.TheVariants.{Closed, Stopped, Open}
use Rattle.ice_volume.specs.declared.fault.AreaFault.{AreaFault}
use Rattle.ice_volume.specs.declared.fault.AreaFault.TheVariants.{Failed}

-- the reply to a change of the tables: a failure before its gate was written is answered, and one from there on is not
abbrev pub told_of : {A : Type 0} → Result A SystemFault → Result (Result Value Refusal) AreaFault
told_of (Ok x) = Ok (Ok Plain)
told_of (Err Before) = Ok (Err Fault)
told_of (Err After) = Err Failed

-- one slot gets this cell, and the other slots keep theirs
pub record CellBecomes (x : ℕ) (cell : Cell) (old new : List Cell) : Type 0 where
  pub here : cell_at new x ≡ cell
  pub others : (y : ℕ) → y ≢ x → cell_at new y ≡ cell_at old y

-- an open cube has a lot that this one is wider than
abbrev pub MayWiden : LotView → Cell → Type 0
MayWiden lot Closed = ⊤
MayWiden lot Stopped = ⊤
MayWiden lot (Open e) = IsWider e.lot lot

-- an open cube with the further groups of a wider lot, which holds what it held where these are fresh; no other cell changes
abbrev pub IsWidened : LotView → DiskState → (old new : Cell) → Type 0
IsWidened lot s Closed new = new ≡ Closed
IsWidened lot s Stopped new = new ≡ Stopped
IsWidened lot s (Open e) new = (new ≡ Open (record e { lot = lot }))
    × ((f : Form) (mode : Mode) (h : History) → HasNewGroups e.lot lot s → Holds f mode h e s → Holds f mode h (record e { lot = lot }) s)
