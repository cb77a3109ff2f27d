-- A change of the tables: what it leaves of the cells and the lots, and the world that is stood for after it.
use Rattle.std.proofs.Common.{◌≡◌, ◌≢◌, ◌∙◌, inl, inr, ⊎_elim, ◌<◌, ◌≤◌, ◌+◌, ◌*◌, ℕ, false, List, length, Option, Some, None, option_map, Result, Ok, Err, OnOk, OnErr, IfOk, refl, sym, ap, subst, arith}
use Rattle.std.specs.Prelude.{◌⊎◌, IsSome}
use Rattle.std.proofs.lemmas.Bool.{cases_eq}
use Rattle.ice_base.specs.Disk.{Image, DiskState, AgreesOn, Outside, Rose, RoseBy, Streams}
use Rattle.ice_base.specs.Frames.{Within, LeavesOnly, With, Sure, Kept}
use Rattle.ice_base.specs.FrameLaws.{within_refl, within_more, within_next}
use Rattle.ice_base.specs.Lots.{LotView, extent}
use Rattle.ice_base.proofs.Kept.{sure_kept, kept_within}
use Rattle.tree_spec.specs.Held.{RoomContent}
use Rattle.tree_spec.specs.Lines.{Line}
use Rattle.tree_spec.specs.Records.{Cube}
use Rattle.tree_spec.specs.Replies.{Response, Tallies, meant}
use Rattle.tree_spec.specs.Replies as reply
use Rattle.tree_spec.specs.Own.{Order, Own}
use Rattle.tree_spec.specs.World.{World, Aim, At, aim, Step, Goes, with_slot}
use Rattle.tree_spec.specs.declared.reply.Refusal.{Refusal}
use Rattle.tree_spec.specs.declared.reply.Refusal.TheVariants as code
use Rattle.tree_spec.specs.declared.reply.Value.{Value}
use Rattle.ice_tables.specs.Tables.{Tables, Row, HasTables}
use Rattle.ice_tables.specs.Lots.{IsTable, AtRest, total, lot_of, groups_of}
use Rattle.ice_tables.proofs.TableLaws.{at_rest_rests}
use Rattle.ice_tables.proofs.LotSites.{lot_high}
use Rattle.ice_images.specs.Fitting.{Entry, entry_at, cube_entry, ShowCubes, Has, Fits}
use Rattle.ice_system.specs.Systems.{SystemView, tables_of}
use Rattle.ice_system.specs.Says.{IsChange, EitherTables}
use Rattle.ice_system.specs.Changes.{SlotBecomes, Changes}
use Rattle.ice_system.specs.declared.fault.SystemFault.{SystemFault}
use Rattle.ice_system.specs.declared.fault.SystemFault.TheVariants.{Before, After}
use Rattle.ice_volume.specs.Cells.{cell_at, IsSession, EachHas, Carries}
use Rattle.ice_volume.specs.Volumes.{VolumeView, AreSessions, StandsFor, IsWritable}
use Rattle.ice_volume.specs.Lines.{AnswersLine, Answers, IsTableOrder, LineFound, LineWrites, MayFit, OrderFound, OrderWrites, IsOfBroken, SaysBroken, fault_in}
use Rattle.ice_volume.specs.Told.{told_of, CellBecomes}
use Rattle.ice_volume.specs.declared.cell.Cell.{Cell}
use Rattle.ice_volume.specs.declared.cell.Cell.TheVariants.{Closed, Stopped, Open}
use Rattle.ice_volume.proofs.Slots.{carries_has, carries_kept, carries_none, each_slot, with_here}

-- ---- what a cell and its lot carry

-- the cell and the lot carry the record still, where the blocks of the lot are kept
pub carries_where : (cell : Cell) (lot : LotView) (a b : DiskState) (c : Option Cube) → (IsSome c → Kept (extent lot) a b)
    → Carries cell lot a c → Carries cell lot b c
carries_where cell lot a b None kept is = carries_none cell lot a b is
carries_where cell lot a b (Some c) kept is = carries_kept lot a b (kept refl) cell (Some c) is

-- where a slot has no record, nothing is said of its lot
has_where : (lot : LotView) (i : Image) (c : Option Cube) → (IsSome c → Has lot i c) → Has lot i c
has_where lot i None has = tt
has_where lot i (Some c) has = has refl

-- ---- a record in its slot

-- the world with the record of a slot put there again
pub put_again : (v : VolumeView) (s : DiskState) (w : World) (x : ℕ) → StandsFor v s w → StandsFor v s (with_slot w x (w.cube x))
put_again v s w x stands = record {
  live = stands.live;
  tables = stands.tables;
  room = stands.room;
  shows = record {
    slots = stands.shows.slots;
    groups = stands.shows.groups;
    entries =
        each_slot w x (w.cube x) (λ y c. entry_at (tables_of v.system) y ≡ option_map cube_entry c) (stands.shows.entries x)
        (λ y other. stands.shows.entries y);
  };
  cubes = each_slot w x (w.cube x) (λ y c. Carries (cell_at v.cells y) (lot_of (tables_of v.system) y) s c) (stands.cubes x) (λ y other. stands.cubes y);
}

-- ---- the lots after a change

-- the lot of a slot with other groups
abbrev pub lot_with : Tables → ℕ → List ℕ → LotView
lot_with t x groups = record { slot = x; base = 32 + 256 * t.slots; groups = groups }

abbrev lot_at : ℕ → ℕ → List ℕ → LotView
lot_at y n gs = record { slot = y; base = 32 + 256 * n; groups = gs }

lot_as : (y n : ℕ) (m : ℕ) (gs hs : List ℕ) → n ≡ m → gs ≡ hs → lot_at y n gs ≡ lot_at y m hs
lot_as y n m gs hs slots groups = ap (λ (k : ℕ). lot_at y k gs) slots ∙ ap (λ (xs : List ℕ). lot_at y m xs) groups

-- the entry of a row with so many groups
abbrev pub entry_with : List ℕ → Option Row → Option Entry
entry_with groups o = option_map (λ (r : Row). record { path = r.path; groups = length groups; offline = r.offline }) o

-- no block of a lot is one of the tables or of their journal
pub low_apart : (t : Tables) (x k : ℕ) → extent (lot_of t x) k → ¬ IsChange k
low_apart t x k own low = let high = lot_high t x k own in omega (arith, high, low.1)

-- nor is one past them one of the tables
table_low : (k : ℕ) → IsTable k → ¬ (32 ≤ k)
table_low k (inl low) high = omega (arith, low, high)
table_low k (inr low) high = omega (arith, low.1, high)

module _ (t u : Tables) (x : ℕ) (row : Option Row) (groups : List ℕ) (becomes : SlotBecomes x row groups t u) where
  -- the other slots keep their lots
  pub lot_else : (y : ℕ) → y ≢ x → lot_of u y ≡ lot_of t y
  lot_else y other = lot_as y u.slots t.slots (groups_of u y) (groups_of t y) becomes.slots (becomes.groups_else y other)

  -- the slot has the lot with its new groups
  pub lot_here : lot_of u x ≡ lot_with t x groups
  lot_here = lot_as x u.slots t.slots (groups_of u x) groups becomes.slots becomes.groups_here

  -- the image has as many blocks
  pub total_same : total u ≡ total t
  total_same = ap (λ (n : ℕ). 32 + 256 * n + 256 * u.groups) becomes.slots ∙ ap (λ (n : ℕ). 32 + 256 * t.slots + 256 * n) becomes.image

  shows_slot : (w : World) (d : Option Cube) → ShowCubes t w → entry_with groups row ≡ option_map cube_entry d → ShowCubes u (with_slot w x d)
  shows_slot w d shows same = record {
    slots = becomes.slots ∙ shows.slots;
    groups = becomes.image ∙ shows.groups;
    entries = each_slot w x d (λ y c. entry_at u y ≡ option_map cube_entry c)
        (ap (entry_with (groups_of u x)) becomes.row_here ∙ ap (λ (gs : List ℕ). entry_with gs row) becomes.groups_here ∙ same)
        (λ y other. ap (entry_with (groups_of u y)) (becomes.row_else y other)
        ∙ ap (λ (gs : List ℕ). entry_with gs (t.row y)) (becomes.groups_else y other) ∙ shows.entries y);
  }

-- ---- writes before the tables change

-- blocks that are none of the tables, and none of a cube's lot
pub record IsSpare (v : VolumeView) (w : World) (P : ℕ → Type 0) : Type 0 where
  pub high : (k : ℕ) → P k → 32 ≤ k
  pub lots : (y : ℕ) → IsSome (w.cube y) → (k : ℕ) → extent (lot_of (tables_of v.system) y) k → P k → ⊥

-- a broken cube is one
pub broken_some : (c : Option Cube) → SaysBroken c → IsSome c
broken_some None broken = absurd broken
broken_some (Some c) broken = refl

-- no block is spare
pub none_spare : (v : VolumeView) (w : World) → IsSpare v w (λ k. ⊥)
none_spare v w = record { high = λ k here. absurd here; lots = λ y live k own here. here }

module _ {D : Type 0} (state : D → DiskState) (left : D → ℕ → Image → List ℕ → Type 0) (v : VolumeView) (w : World) (P : ℕ → Type 0) (a b : D)
    (stands : StandsFor v (state a) w) (spare : IsSpare v w P) (early : Within state left P a b) where
  table_kept : Kept IsTable (state a) (state b)
  table_kept = kept_within state left IsTable P a b (λ k low here. table_low k low (spare.high k here)) early

  -- the volume stands for the world still
  pub early_stands : StandsFor v (state b) w
  early_stands = record {
    live = stands.live;
    tables = sure_kept IsTable (AtRest (tables_of v.system)) (state a) (state b) (at_rest_rests (tables_of v.system)) table_kept stands.tables;
    room = subst (λ n. total (tables_of v.system) ≤ n) (sym early.size) stands.room;
    shows = stands.shows;
    cubes = λ y. carries_where (cell_at v.cells y) (lot_of (tables_of v.system) y) (state a) (state b) (w.cube y)
        (λ live. kept_within state left (extent (lot_of (tables_of v.system) y)) P a b (spare.lots y live) early) (stands.cubes y);
  }

  early_fits : (i : Image) → AgreesOn (Outside P) (state a) i → Fits w i
  early_fits i agrees = record {
    tables = tables_of v.system;
    has = (at_rest_rests (tables_of v.system) (state a).now i
        (λ k low. agrees.same k (λ here. table_low k low (spare.high k here)) (stands.tables.settled.settled k low)) stands.tables.now).has;
    room = subst (λ n. total (tables_of v.system) ≤ n) (sym agrees.count) stands.room;
    shows = stands.shows;
    cubes = λ y here. has_where (lot_of (tables_of v.system) y) i (w.cube y)
        (λ live. carries_has (cell_at v.cells y) (lot_of (tables_of v.system) y) (state a) (w.cube y) (stands.cubes y) i
        (record { count = agrees.count; same = λ k own. agrees.same k (spare.lots y live k own) }));
  }

  -- each crash leaves an image that fits the world
  pub early_leaves : (line : Line) → LeavesOnly left a b (With (state a).streams.aside (MayFit w line))
  early_leaves line = record { each = λ m i out l. ⊎_elim (λ before. inl before) (λ here. inr (inl (early_fits i here.0), here.1)) (early.left_new m i out l) }

-- ---- a change of the tables

-- What an accepted order to the cube of a slot makes of the world: the record after it, which the new row and groups show and each crash leaves in the new lot.
-- Where the change is done, the cell and the lot carry the record as well.
pub record Becomes (v : VolumeView) (x : ℕ) (row : Option Row) (groups : List ℕ) (cell : Cell) (Done : Type 0) (line : Line) (o : Order)
    (s t : DiskState) (u : World) : Type 0 where
  pub aims : aim u line ≡ At x o
  pub then : Option Cube
  pub says : Own (u.cube x) o (Ok reply.Plain) then
  pub faulty : Own (u.cube x) o (Err reply.Fault) (u.cube x)
  pub shows : entry_with groups row ≡ option_map cube_entry then
  pub each : EachHas (lot_with (tables_of v.system) x groups) s then
  pub carries : Done → Carries cell (lot_with (tables_of v.system) x groups) t then
  pub same : SaysBroken (u.cube x) → SaysBroken then → groups ≡ groups_of (tables_of v.system) x

-- nothing is to be found by the order
abbrev pub FindsNothing : Order → Type 0
FindsNothing o = (lot : LotView) (i : Image) (r : Response) (c d : Option Cube) → OrderFound lot i o r c d

module _ {D : Type 0} (state : D → DiskState) (left : D → ℕ → Image → List ℕ → Type 0) (v : VolumeView) (x : ℕ) (row : Option Row)
    (groups : List ℕ) (cell : Cell) (Done : Type 0) (line : Line) (o : Order)
    (finds : FindsNothing o) (w : World) (P : ℕ → Type 0) (a b c : D) (stands : StandsFor v (state a) w) (spare : IsSpare v w P)
    (early : Within state left P a b)
    (to : Becomes v x row groups cell Done line o (state b) (state c) w) (within : Within state left IsChange b c) where
  mid : StandsFor v (state b) w
  mid = early_stands state left v w P a b stands spare early

  step_by : (r : Response) (d : Option Cube) → Own (w.cube x) o r d → Step w line r (with_slot w x d)
  step_by r d own = subst (λ (z : Aim). Goes w z r (with_slot w x d)) (sym to.aims) (d, own, refl)

  found_by : (r : Response) (u : World) → LineFound (tables_of v.system) (state a).now (aim w line) r w u
  found_by r u =
      subst (λ (z : Aim). LineFound (tables_of v.system) (state a).now z r w u) (sym to.aims)
      (finds (lot_of (tables_of v.system) x) (state a).now r (w.cube x) (u.cube x))

  -- an image that agrees outside of the journal and the tables, with these tables
  fits_with : (t : Tables) (z : World) (i : Image) → AgreesOn (Outside IsChange) (state b) i → HasTables i t → total t ≤ (state b).size → ShowCubes t z
      → ((y : ℕ) → EachHas (lot_of t y) (state b) (z.cube y)) → Fits z i
  fits_with t z i agrees has room shows each = record {
    tables = t;
    has = has;
    room = subst (λ n. total t ≤ n) (sym agrees.count) room;
    shows = shows;
    cubes = λ y here. each y i (record { count = agrees.count; same = λ k own. agrees.same k (low_apart t y k own) });
  }

  each_old : (y : ℕ) → EachHas (lot_of (tables_of v.system) y) (state b) (w.cube y)
  each_old y = carries_has (cell_at v.cells y) (lot_of (tables_of v.system) y) (state b) (w.cube y) (mid.cubes y)

  -- each lot holds its record before the change under the tables after it
  each_new : (t : Tables) → SlotBecomes x row groups (tables_of v.system) t → (y : ℕ) → EachHas (lot_of t y) (state b) ((with_slot w x to.then).cube y)
  each_new t becomes = each_slot w x to.then (λ y d. EachHas (lot_of t y) (state b) d)
      (subst (λ (lot : LotView). EachHas lot (state b) to.then) (sym (lot_here (tables_of v.system) t x row groups becomes)) to.each)
      (λ y other. subst (λ (lot : LotView). EachHas lot (state b) (w.cube y)) (sym (lot_else (tables_of v.system) t x row groups becomes y other)) (each_old y))

  room_new : (t : Tables) → SlotBecomes x row groups (tables_of v.system) t → total t ≤ (state b).size
  room_new t becomes = subst (λ n. n ≤ (state b).size) (sym (total_same (tables_of v.system) t x row groups becomes)) mid.room

  shows_new : (t : Tables) → SlotBecomes x row groups (tables_of v.system) t → ShowCubes t (with_slot w x to.then)
  shows_new t becomes = shows_slot (tables_of v.system) t x row groups becomes w to.then stands.shows to.shows

  aside_same : (state b).streams.aside ≡ (state a).streams.aside
  aside_same = ap (λ (y : Streams). y.aside) early.streams

  -- each crash before the change or in it leaves the one or the other world
  change_leaves : (t : Tables) → SlotBecomes x row groups (tables_of v.system) t
      → LeavesOnly left b c (With (state b).streams.aside (EitherTables (tables_of v.system) t))
      → LeavesOnly left a c (With (state a).streams.aside (MayFit w line))
  change_leaves t becomes leaves = record {
    each = λ m i out l. ⊎_elim (λ before. (early_leaves state left v w P a b stands spare early line).each m i out before) (λ here.
        ⊎_elim (λ before. (early_leaves state left v w P a b stands spare early line).each m i out before) (λ there. inr (
          ⊎_elim
              (λ old. inl (fits_with (tables_of v.system) w i here.0 old mid.room stands.shows each_old))
              (λ new. inr (
                Ok reply.Plain,
                with_slot w x to.then,
                step_by (Ok reply.Plain) to.then to.says,
                refl,
                fits_with t (with_slot w x to.then) i here.0 new (room_new t becomes) (shows_new t becomes) (each_new t becomes),
              ))
              there.0,
          there.1 ∙ aside_same,
        )) (leaves.each m i out l)) (within.left_new m i out l);
  }

  kept_lot : (t : Tables) (y : ℕ) → Kept (extent (lot_of t y)) (state b) (state c)
  kept_lot t y = kept_within state left (extent (lot_of t y)) IsChange b c (λ k own low. low_apart t y k own low) within

  -- the volume after it stands for the world after it
  change_stands : (z : VolumeView) → z.system.failed ≡ false → SlotBecomes x row groups (tables_of v.system) (tables_of z.system)
      → CellBecomes x cell v.cells z.cells
      → Done → Sure IsTable (AtRest (tables_of z.system)) (state c) → StandsFor z (state c) (with_slot w x to.then)
  change_stands z live becomes cells done sure = record {
    live = live;
    tables = sure;
    room = subst (λ n. total (tables_of z.system) ≤ n) (sym within.size) (room_new (tables_of z.system) becomes);
    shows = shows_new (tables_of z.system) becomes;
    cubes = each_slot w x to.then (λ y d. Carries (cell_at z.cells y) (lot_of (tables_of z.system) y) (state c) d)
        (subst (λ (e : Cell). Carries e (lot_of (tables_of z.system) x) (state c) to.then) (sym cells.here)
        (subst (λ (lot : LotView). Carries cell lot (state c) to.then)
        (sym (lot_here (tables_of v.system) (tables_of z.system) x row groups becomes)) (to.carries done)))
        (λ y other. subst (λ (e : Cell). Carries e (lot_of (tables_of z.system) y) (state c) (w.cube y)) (sym (cells.others y other))
        (carries_where (cell_at v.cells y) (lot_of (tables_of z.system) y) (state b) (state c) (w.cube y) (λ live. kept_lot (tables_of z.system) y)
        (subst (λ (lot : LotView). Carries (cell_at v.cells y) lot (state b) (w.cube y))
        (sym (lot_else (tables_of v.system) (tables_of z.system) x row groups becomes y other)) (mid.cubes y))));
  }

  -- a change that came to nothing leaves the world
  rest_stands : Sure IsTable (AtRest (tables_of v.system)) (state c) → StandsFor v (state c) w
  rest_stands sure = record {
    live = stands.live;
    tables = sure;
    room = subst (λ n. total (tables_of v.system) ≤ n) (sym within.size) mid.room;
    shows = stands.shows;
    cubes =
        λ y. carries_where (cell_at v.cells y) (lot_of (tables_of v.system) y) (state b) (state c) (w.cube y)
        (λ live. kept_lot (tables_of v.system) y) (mid.cubes y);
  }

-- ---- lines

-- blocks that are written before the tables change are those of the volume past the tables
pub record IsEarly (v : VolumeView) (P : ℕ → Type 0) : Type 0 where
  pub high : (k : ℕ) → P k → 32 ≤ k
  pub below : (k : ℕ) → P k → k < total (tables_of v.system)

-- no block
pub none_early : (v : VolumeView) → IsEarly v (λ k. ⊥)
none_early v = record { high = λ k here. absurd here; below = λ k here. absurd here }

-- the blocks that the line writes are those of its order
pub record OrderMayWrite (t : Tables) (x : ℕ) (o : Order) (P : ℕ → Type 0) : Type 0 where
  pub done : (k : ℕ) → IsChange k ⊎ P k → OrderWrites t x o (Ok reply.Plain) k
  pub faulty : (k : ℕ) → IsChange k ⊎ P k → OrderWrites t x o (Err reply.Fault) k

-- a volume with the same tables and cells stands for the same
stands_same : (v z : VolumeView) (s : DiskState) (w : World) → z.system ≡ v.system → z.cells ≡ v.cells → StandsFor v s w → StandsFor z s w
stands_same v z s w system cells stands =
    subst (λ (y : SystemView). StandsFor (record { system = y; cells = z.cells }) s w) (sym system)
    (subst (λ (cs : List Cell). StandsFor (record { system = v.system; cells = cs }) s w) (sym cells) stands)

-- an answer to a change of the tables
module _ {D : Type 0} (state : D → DiskState) (left : D → ℕ → Image → List ℕ → Type 0) (x : ℕ) (row : Option Row) (groups : List ℕ)
    (cell : Cell) (Done : Type 0) (line : Line) (o : Order)
    (order : IsTableOrder (At x o)) (finds : FindsNothing o) (room : RoomContent) (v z : VolumeView) (P : ℕ → Type 0) (a b c : D)
    (early : Within state left P a b) where
  change_within : (S : ℕ → Type 0) → ((k : ℕ) → IsChange k ⊎ P k → S k) → Within state left IsChange b c → Within state left S a c
  change_within S sub within = within_more state left (λ k. IsChange k ⊎ P k) S a c sub
      (within_next state left (within_more state left P (λ k. IsChange k ⊎ P k) a b (λ k here. inr here) early) within (λ k here. inl here))

  change_size : {A : Type 0} (r : Result A SystemFault) → Changes state left x row groups v.system z.system r b c
      → total (tables_of z.system) ≡ total (tables_of v.system)
  change_size (Ok y) ch = total_same (tables_of v.system) (tables_of z.system) x row groups ch.done
  change_size (Err Before) ch = ap (λ (s : SystemView). total (tables_of s)) (ch.before refl).0
  change_size (Err After) ch = ap (λ (s : SystemView). total (tables_of s)) (ch.after refl).0

  rose_after : Rose (state b).faults (state c).faults → Rose (state a).faults (state c).faults
  rose_after rose = let more = early.faults in omega (arith, more, rose)

  change_cause : {A : Type 0} (r : Result A SystemFault) → Changes state left x row groups v.system z.system r b c
      → OnErr (told_of r) (v.system.failed ≡ false → Rose (state a).faults (state c).faults)
  change_cause (Ok y) ch = tt
  change_cause (Err Before) ch = tt
  change_cause (Err After) ch = λ live. ⊎_elim (λ late. absurd (cc (sym late ∙ live))) (λ rose. rose_after rose) (ch.after refl).1

  change_live : {A : Type 0} (r : Result A SystemFault) → Changes state left x row groups v.system z.system r b c
      → OnOk (told_of r) (z.system.failed ≡ v.system.failed)
  change_live (Ok y) ch = ch.ready.1 ∙ sym ch.ready.0
  change_live (Err Before) ch = ap (λ (s : SystemView). s.failed) (ch.before refl).0
  change_live (Err After) ch = tt

  change_faults : {A : Type 0} (r : Result A SystemFault) → Changes state left x row groups v.system z.system r b c
      → IfOk (told_of r) (λ q. RoseBy (fault_in (meant q room)) (state a).faults (state c).faults)
  change_faults (Ok y) ch = let more = ch.within.faults in let first = early.faults in omega (arith, more, first)
  change_faults (Err Before) ch = rose_after (ch.before refl).2
  change_faults (Err After) ch = tt

  change_tallies : {A : Type 0} (r : Result A SystemFault) → IfOk (told_of r) (λ q. Tallies q room)
  change_tallies (Ok y) = tt
  change_tallies (Err Before) = tt
  change_tallies (Err After) = tt

  module _ (to : (w : World) → StandsFor v (state a) w → Becomes v x row groups cell Done line o (state b) (state c) w)
      (spare : (w : World) → StandsFor v (state a) w → IsSpare v w P) where
    -- a cube that stays broken keeps its lot
    change_lots : (w : World) (stands : StandsFor v (state a) w) → SlotBecomes x row groups (tables_of v.system) (tables_of z.system)
        → (y : ℕ) → SaysBroken (w.cube y) → SaysBroken ((with_slot w x (to w stands).then).cube y)
        → lot_of (tables_of z.system) y ≡ lot_of (tables_of v.system) y
    change_lots w stands becomes y broken still =
        ⊎_elim here (λ other. lot_else (tables_of v.system) (tables_of z.system) x row groups becomes y other) (cases_eq y x)
      where
        here : y ≡ x → lot_of (tables_of z.system) y ≡ lot_of (tables_of v.system) y
        here same =
            let was : SaysBroken (w.cube x) = subst SaysBroken (ap w.cube same) broken in
            let is : SaysBroken (to w stands).then = subst SaysBroken
            (ap (with_slot w x (to w stands).then).cube same ∙ with_here w x (to w stands).then) still in
            let lot : lot_of (tables_of z.system) x ≡ lot_of (tables_of v.system) x = lot_here (tables_of v.system) (tables_of z.system) x row groups becomes
            ∙ ap (λ (gs : List ℕ). lot_with (tables_of v.system) x gs) ((to w stands).same was is) in
            ap (lot_of (tables_of z.system)) same ∙ lot ∙ sym (ap (lot_of (tables_of v.system)) same)

    -- no block of a broken cube is written
    change_spares : Within state left IsChange b c → (w : World) → StandsFor v (state a) w → Within state left (Outside (IsOfBroken (tables_of v.system) w)) a c
    change_spares within w stands = change_within (Outside (IsOfBroken (tables_of v.system) w))
        (λ k here broken. ⊎_elim
        (λ low. low_apart (tables_of v.system) broken.0 k broken.2 low)
        (λ early. (spare w stands).lots broken.0 (broken_some (w.cube broken.0) broken.1) k broken.2 early) here) within

    change_goes : {A : Type 0} (r : Result A SystemFault) → Changes state left x row groups v.system z.system r b c
        → OnOk r (CellBecomes x cell v.cells z.cells) → OnErr r (z.cells ≡ v.cells)
        → OnOk r Done → (w : World) → StandsFor v (state a) w → IfOk (told_of r) (λ q. Answers v z (state a) (state c) line w (meant q room))
    change_goes (Ok y) ch cells same done w stands =
        let m = ch.moves stands.live (early_stands state left v w P a b stands (spare w stands) early).tables in
        let t = to w stands in record {
          then = with_slot w x t.then;
          step = step_by state left v x row groups cell Done line o finds w P a b c stands (spare w stands) early t ch.within (Ok reply.Plain) t.then t.says;
          stands =
              change_stands state left v x row groups cell Done line o finds w P a b c stands (spare w stands) early t ch.within z ch.ready.1 ch.done cells done
              (subst (λ (u : Tables). Sure IsTable (AtRest u) (state c)) (sym m.2) m.3.done);
          found =
              found_by state left v x row groups cell Done line o finds w P a b c stands
              (spare w stands) early t ch.within (Ok reply.Plain) (with_slot w x t.then);
          lots = change_lots w stands ch.done;
        }
    change_goes (Err Before) ch cells same done w stands =
        let m = ch.moves stands.live (early_stands state left v w P a b stands (spare w stands) early).tables in
        let t = to w stands in record {
          then = with_slot w x (w.cube x);
          step =
              step_by state left v x row groups cell Done line o finds w P a b c stands
              (spare w stands) early t ch.within (Err reply.Fault) (w.cube x) t.faulty;
          stands = stands_same v z (state c) (with_slot w x (w.cube x)) (ch.before refl).0 same
              (put_again v (state c) w x
              (rest_stands state left v x row groups cell Done line o finds w P a b c stands (spare w stands) early t ch.within (m.3.before refl)));
          found =
              found_by state left v x row groups cell Done line o finds w P a b c stands
              (spare w stands) early t ch.within (Err reply.Fault) (with_slot w x (w.cube x));
          lots = λ y broken still. ap (λ (sys : SystemView). lot_of (tables_of sys) y) (ch.before refl).0;
        }
    change_goes (Err After) ch cells same done w stands = tt

    change_stops : {A : Type 0} (r : Result A SystemFault) → (w : World) → StandsFor v (state a) w → OnErr (told_of r) (IsTableOrder (aim w line))
    change_stops (Ok y) w stands = tt
    change_stops (Err Before) w stands = tt
    change_stops (Err After) w stands = subst IsTableOrder (sym (to w stands).aims) order

    change_frame : ((w : World) → StandsFor v (state a) w → OrderMayWrite (tables_of v.system) x o P)
        → {A : Type 0} (r : Result A SystemFault) → Within state left IsChange b c → (w : World) → StandsFor v (state a) w
        → IfOk (told_of r) (λ q. Within state left (LineWrites (tables_of v.system) (aim w line) (meant q room)) a c)
    change_frame may (Ok y) within w stands =
        subst (λ (z : Aim). Within state left (LineWrites (tables_of v.system) z (Ok reply.Plain)) a c) (sym (to w stands).aims)
        (change_within (OrderWrites (tables_of v.system) x o (Ok reply.Plain)) (may w stands).done within)
    change_frame may (Err Before) within w stands =
        subst (λ (z : Aim). Within state left (LineWrites (tables_of v.system) z (Err reply.Fault)) a c) (sym (to w stands).aims)
        (change_within (OrderWrites (tables_of v.system) x o (Err reply.Fault)) (may w stands).faulty within)
    change_frame may (Err After) within w stands = tt

    -- the line, whose blocks before the change lie past the tables and are no cube's
    pub changed : IsEarly v P → ((w : World) → StandsFor v (state a) w → OrderMayWrite (tables_of v.system) x o P)
        → {A : Type 0} (r : Result A SystemFault) → Changes state left x row groups v.system z.system r b c
        → OnOk r (CellBecomes x cell v.cells z.cells) → OnErr r (z.cells ≡ v.cells)
        → OnOk r Done → AnswersLine state left line v z room (told_of r) a c
    changed past may r ch cells same done = record {
      within = change_within (IsWritable v) (λ k here. ⊎_elim (λ low. inl low) (λ own. inr (past.high k own, past.below k own)) here) ch.within;
      size = change_size r ch;
      cause = change_cause r ch;
      live = change_live r ch;
      faults = change_faults r ch;
      tallies = change_tallies r;
      leaves = λ w stands.
          let m = ch.moves stands.live (early_stands state left v w P a b stands (spare w stands) early).tables in
          change_leaves state left v x row groups cell Done line o finds w P a b c stands (spare w stands) early
          (to w stands) ch.within m.0 m.1 m.3.crash.leaves;
      goes = change_goes r ch cells same done;
      frame = change_frame may r ch.within;
      spares = change_spares ch.within;
      stops = change_stops r;
    }

-- ---- lines that change no table

-- a line that is answered without a call on the disk, by a reply that is no fault
pub unchanged : {D X : Type 0} (state : D → DiskState) (left : D → ℕ → Image → List ℕ
    → Type 0) (line : Line) (v : VolumeView) (room : RoomContent) (r : Result Value Refusal) (a : D)
    → fault_in (meant r room) ≡ 0 → Tallies r room
    → ((w : World) → StandsFor v (state a) w → Answers v v (state a) (state a) line w (meant r room)) → AnswersLine {X = X} state left line v v room (Ok r) a a
unchanged state left line v room r a none tallies goes = record {
  within = within_refl state left (IsWritable v) a;
  size = refl;
  cause = tt;
  live = refl;
  faults = omega (arith, none);
  tallies = tallies;
  leaves = λ w stands. record { each = λ m i out l. inl l };
  goes = goes;
  frame = λ w stands. within_refl state left (LineWrites (tables_of v.system) (aim w line) (meant r room)) a;
  spares = λ w stands. within_refl state left (Outside (IsOfBroken (tables_of v.system) w)) a;
  stops = λ w stands. tt;
}

-- a line whose writes before the tables change met a fault
pub faulted : {D X : Type 0} (state : D → DiskState) (left : D → ℕ → Image → List ℕ
    → Type 0) (x : ℕ) (line : Line) (o : Order) (finds : FindsNothing o) (v : VolumeView) (room : RoomContent) (P : ℕ → Type 0) (a b : D)
    → Within state left P a b → IsEarly v P → ((w : World) → StandsFor v (state a) w → OrderMayWrite (tables_of v.system) x o P)
    → ((w : World) → StandsFor v (state a) w → IsSpare v w P)
    → ((w : World) → StandsFor v (state a) w → (aim w line ≡ At x o) × Own (w.cube x) o (Err reply.Fault) (w.cube x))
    → Rose (state a).faults (state b).faults → AnswersLine {X = X} state left line v v room (Ok (Err code.Fault)) a b
faulted state left x line o finds v room P a b early past may spare own rose = record {
  within = within_more state left P (IsWritable v) a b (λ k here. inr (past.high k here, past.below k here)) early;
  size = refl;
  cause = tt;
  live = refl;
  faults = rose;
  tallies = tt;
  leaves = λ w stands. early_leaves state left v w P a b stands (spare w stands) early line;
  goes = λ w stands. let is = own w stands in record {
    then = with_slot w x (w.cube x);
    step = subst (λ (z : Aim). Goes w z (Err reply.Fault) (with_slot w x (w.cube x))) (sym is.0) (w.cube x, is.1, refl);
    stands = put_again v (state b) w x (early_stands state left v w P a b stands (spare w stands) early);
    found = subst (λ (z : Aim). LineFound (tables_of v.system) (state a).now z (Err reply.Fault) w (with_slot w x (w.cube x))) (sym is.0)
        (finds (lot_of (tables_of v.system) x) (state a).now (Err reply.Fault) (w.cube x) ((with_slot w x (w.cube x)).cube x));
    lots = λ y broken still. refl;
  };
  spares = λ w stands. within_more state left P (Outside (IsOfBroken (tables_of v.system) w)) a b
      (λ k here broken. (spare w stands).lots broken.0 (broken_some (w.cube broken.0) broken.1) k broken.2 here) early;
  frame = λ w stands. subst (λ (z : Aim). Within state left (LineWrites (tables_of v.system) z (Err reply.Fault)) a b) (sym (own w stands).0)
      (within_more state left P (OrderWrites (tables_of v.system) x o (Err reply.Fault)) a b (λ k here. (may w stands).faulty k (inr here)) early);
  stops = λ w stands. tt;
}

-- ---- the sessions after a change

-- the sessions of the other slots stay, and the cell of the slot has its new lot
pub sessions_become : (v z : VolumeView) (x : ℕ) (row : Option Row) (groups : List ℕ) (cell : Cell) → AreSessions v
    → SlotBecomes x row groups (tables_of v.system) (tables_of z.system)
    → CellBecomes x cell v.cells z.cells → length z.cells ≡ 16 → IsSession (tables_of z.system) x cell → AreSessions z
sessions_become v z x row groups cell are becomes cells count is = record { count = count; each = λ y. ⊎_elim here (others y) (cases_eq y x) }
  where
    here : {y : ℕ} → y ≡ x → IsSession (tables_of z.system) y (cell_at z.cells y)
    here {y} same =
        subst (λ (q : ℕ). IsSession (tables_of z.system) q (cell_at z.cells q)) (sym same)
        (subst (λ (e : Cell). IsSession (tables_of z.system) x e) (sym cells.here) is)

    moved : (y : ℕ) → y ≢ x → (e : Cell) → IsSession (tables_of v.system) y e → IsSession (tables_of z.system) y e
    moved y other Closed was = tt
    moved y other Stopped was = tt
    moved y other (Open e) was = (
      was.0 ∙ sym (lot_else (tables_of v.system) (tables_of z.system) x row groups becomes y other),
      subst (λ (o : Option Row). IsSome o) (sym (becomes.row_else y other)) was.1,
    )

    others : (y : ℕ) → y ≢ x → IsSession (tables_of z.system) y (cell_at z.cells y)
    others y other = subst (λ (e : Cell). IsSession (tables_of z.system) y e) (sym (cells.others y other)) (moved y other (cell_at v.cells y) (are.each y))

-- sessions over the same tables stay
pub sessions_same : (v z : VolumeView) → tables_of z.system ≡ tables_of v.system → z.cells ≡ v.cells → AreSessions v → AreSessions z
sessions_same v z tables cells are = record {
  count = ap (λ (xs : List Cell). length xs) cells ∙ are.count;
  each =
      λ y. subst (λ (t : Tables). IsSession t y (cell_at z.cells y)) (sym tables)
      (subst (λ (xs : List Cell). IsSession (tables_of v.system) y (cell_at xs y)) (sym cells) (are.each y));
}
