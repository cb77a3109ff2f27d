-- The lines to the cube of a slot, by what the session has of the slot.
use Rattle.std.proofs.Common.{◌≡◌, ◌∙◌, inl, inr, ◌≤◌, ◌<◌, ℕ, zero, suc, Bool, true, List, [], ◌∷◌, length, Option, Some, None, Ok, Result, refl, sym, ap, subst, arith}
use Rattle.std.specs.Prelude.{slice_index_or, slice_set, IsSome}
use Rattle.std.proofs.lemmas.List.{get_or-set_same, get_or-set_other, length-set}
use Rattle.std.proofs.lemmas.Bool.{cases_eq}
use Rattle.ice_base.specs.Disk.{Image, DiskState}
use Rattle.ice_base.specs.Lots.{LotView, is_sited}
use Rattle.tree_spec.specs.Held.{RoomContent}
use Rattle.tree_spec.specs.Lines.{Line}
use Rattle.tree_spec.specs.Own.{Order}
use Rattle.tree_spec.specs.World.{World, aim, to_cube, slot_with_path}
use Rattle.tree_spec.specs.declared.reply.Refusal.{Refusal}
use Rattle.tree_spec.specs.declared.reply.Value.{Value}
use Rattle.ice_tables.specs.Tables.{Tables, Row}
use Rattle.ice_tables.specs.Lots.{lot_of}
use Rattle.ice_names.specs.Names.{row_at, path_at, path_of}
use Rattle.ice_system.specs.Systems.{tables_of}
use Rattle.ice_volume.specs.Cells.{IsSession, cell_at}
use Rattle.ice_volume.specs.Lines.{AnswersLine}
use Rattle.ice_volume.specs.Orders.{AnswersOrder, IsCellOf, IsSited}
use Rattle.ice_volume.specs.Rows.{is_marked}
use Rattle.ice_volume.specs.Volumes.{VolumeView, AreSessions, StandsFor}
use Rattle.ice_volume.specs.declared.cell.Cell.{Cell}
use Rattle.ice_volume.specs.declared.cell.Cell.TheVariants.{Closed, Stopped, Open}
use Rattle.ice_volume.proofs.Aiming.{meant_path}
use Rattle.ice_volume.proofs.Sited.{lot_within}
use Rattle.ice_volume.proofs.Slots.{IsMeant, order_line}

-- ---- cells

-- a cell of the list, whatever stands for none
pub any_default : (cells : List Cell) (x : ℕ) (r : Cell) → x < length cells → slice_index_or cells x r ≡ cell_at cells x
any_default [] x r low = absurd (omega (arith, low))
any_default (c ∷ cells) zero r low = refl
any_default (c ∷ cells) (suc x) r low = any_default cells x r (omega (arith, low))

cell_of : (t : Tables) (x : ℕ) (cell : Cell) → IsSession t x cell → IsCellOf (lot_of t x) cell
cell_of t x Closed session = tt
cell_of t x Stopped session = tt
cell_of t x (Open e) session = session.0

session_of : (t : Tables) (x : ℕ) (cell : Cell) → IsSome (t.row x) → IsCellOf (lot_of t x) cell → IsSession t x cell
session_of t x Closed row at = tt
session_of t x Stopped row at = tt
session_of t x (Open e) row at = (at, row)

sited_cell : (lot : LotView) (cell : Cell) (n : ℕ) → IsCellOf lot cell → is_sited lot n ≡ true → 1 ≤ length lot.groups → IsSited cell n
sited_cell lot Closed n at sited some = tt
sited_cell lot Stopped n at sited some = tt
sited_cell lot (Open e) n at sited some = (ap (λ (l : LotView). is_sited l n) at ∙ sited, subst (λ (l : LotView). 1 ≤ length l.groups) (sym at) some)

-- the volume with another cell in a slot
abbrev pub with_cell : VolumeView → ℕ → Cell → VolumeView
with_cell v x after = record { system = v.system; cells = slice_set v.cells x after }

pub path_row : (o : Option Row) (p : List (List ℕ)) → path_of o ≡ Some p → IsSome o
path_row None p is = absurd (cc is)
path_row (Some r) p is = refl

module _ (v : VolumeView) (sessions : AreSessions v) (x : ℕ) (low : x < 16) where
  short : x < length v.cells
  short = omega (arith, low, sessions.count)

  -- the cell of a slot, as an index gives it
  pub here_of : (r : Cell) → slice_index_or v.cells x r ≡ cell_at v.cells x
  here_of r = any_default v.cells x r short

  -- its cube has the slot's lot
  pub here_lot : (r : Cell) → IsCellOf (lot_of (tables_of v.system) x) (slice_index_or v.cells x r)
  here_lot r = subst (IsCellOf (lot_of (tables_of v.system) x)) (sym (here_of r)) (cell_of (tables_of v.system) x (cell_at v.cells x) (sessions.each x))

  -- and the lot lies on the disk
  pub here_sited : (r : Cell) (l : LotView) (n : ℕ) → l ≡ lot_of (tables_of v.system) x → is_sited l n ≡ true → 1 ≤ length l.groups
      → IsSited (slice_index_or v.cells x r) n
  here_sited r l n is sited some =
      sited_cell l (slice_index_or v.cells x r) n (subst (λ (y : LotView). IsCellOf y (slice_index_or v.cells x r)) (sym is) (here_lot r)) sited some

  -- another cell of the slot's lot makes sessions again
  pub set_sessions : (after : Cell) → IsSome (row_at v.system.names x) → IsCellOf (lot_of (tables_of v.system) x) after → AreSessions (with_cell v x after)
  set_sessions after row at = record {
    count = length-set v.cells x after ∙ sessions.count;
    each = λ y. elim (cases_eq y x) as (λ _. IsSession (tables_of v.system) y (cell_at (slice_set v.cells x after) y)) [
      | inl same ↦ subst (λ z. IsSession (tables_of v.system) z (cell_at (slice_set v.cells x after) z)) (sym same)
          (subst (IsSession (tables_of v.system) x) (sym (get_or-set_same v.cells x after Closed short)) (session_of (tables_of v.system) x after row at))
      | inr other ↦ subst (IsSession (tables_of v.system) y) (sym (get_or-set_other v.cells x y after Closed other)) (sessions.each y)
    ];
  }

-- ---- lines

module _ {D : Type 0} (state : D → DiskState) (left : D → ℕ → Image → List ℕ → Type 0) (inner v : VolumeView) (same : inner ≡ v)
    (sessions : AreSessions inner) (x : ℕ) (low : x < 16) (less : x < v.system.names.slots)
    (line : Line) (o : Order) (offline : Bool) (r after : Cell) (room : RoomContent) (result : Result Value Refusal) (a b : D)
    (whole : (state a).tells ≡ true → length (state a).now ≡ (state a).size)
    (answers : AnswersOrder state left (lot_of (tables_of v.system) x) o offline (slice_index_or inner.cells x r) after room result a b) where
  outer : AreSessions v
  outer = subst AreSessions same sessions

  here : slice_index_or inner.cells x r ≡ cell_at v.cells x
  here = ap (λ (y : VolumeView). slice_index_or y.cells x r) same ∙ here_of v outer x low r

  -- a line that is meant for the cube of a slot
  pub slot_line : {X : Type 0} → ((u : World) → StandsFor v (state a) u → IsMeant v x line o offline u)
      → AnswersLine {X = X} state left line v (with_cell inner x after) room (Ok result) a b
  slot_line {X} meant_for = subst (λ (y : VolumeView). AnswersLine {X = X} state left line v (with_cell y x after) room (Ok result) a b) (sym same)
      (order_line state left v x line o offline after room result a b less (short v outer x low)
      (λ k own. lot_within (tables_of v.system) x k less own) whole meant_for
      (subst (λ (y : Cell). AnswersOrder state left (lot_of (tables_of v.system) x) o offline y after room result a b) here answers))

  -- a line to the cube of a path
  pub path_line : {X : Type 0} → (p : List (List ℕ)) → path_at v.system.names x ≡ Some p → is_marked (row_at v.system.names x) ≡ offline
      → ((u : World) → aim u line ≡ to_cube (slot_with_path u p) o)
      → AnswersLine {X = X} state left line v (with_cell inner x after) room (Ok result) a b
  path_line {X} p at mark aims = slot_line {X = X} (λ u stands. meant_path v (state a) u stands p x less at line o offline (aims u) mark)
