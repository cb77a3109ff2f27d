-- What an order to the cube of one slot does to the world that a volume and its disk stand for.
use Rattle.std.proofs.Common.{◌≡◌, ◌≢◌, ◌∙◌, inl, inr, ⊎_elim, ◌≤◌, ◌<◌, ℕ, Bool, true, false, cond, nat_eq, List, length, Option, Some, None, option_map, Result, Ok, Err, refl, sym, ap, subst, arith}
use Rattle.std.specs.Prelude.{slice_set}
use Rattle.std.proofs.lemmas.List.{get_or-set_same, get_or-set_other}
use Rattle.std.proofs.lemmas.Bool.{cases_eq, cases_lt}
use Rattle.ice_base.specs.Disk.{Image, DiskState, AgreesOn, Nowhere, Outside}
use Rattle.ice_base.specs.Frames.{Within, LeavesOnly, With, Kept}
use Rattle.ice_base.specs.FrameLaws.{within_refl, within_more}
use Rattle.ice_base.specs.Lots.{LotView, extent}
use Rattle.ice_base.proofs.Kept.{sure_kept, every_kept, kept_within}
use Rattle.tree_spec.specs.Held.{RoomContent}
use Rattle.tree_spec.specs.Lines.{Line}
use Rattle.tree_spec.specs.Records.{Cube, Content, Sound, Broken, Unread, is_offline}
use Rattle.tree_spec.specs.Replies.{Response, meant}
use Rattle.tree_spec.specs.Own as order
use Rattle.tree_spec.specs.Own.{Order, Own}
use Rattle.tree_spec.specs.World.{World, Aim, At, aim, Goes, with_slot}
use Rattle.tree_spec.specs.declared.reply.Refusal.{Refusal}
use Rattle.tree_spec.specs.declared.reply.Value.{Value}
use Rattle.ice_rules.specs.Rules.{LotMayName}
use Rattle.ice_tables.specs.Journals.{effective_of}
use Rattle.ice_tables.specs.Tables.{Tables}
use Rattle.ice_tables.specs.Lots.{IsTable, AtRest, total, groups_of, lot_of}
use Rattle.ice_tables.proofs.JournalLaws.{lot_blocks_rest}
use Rattle.ice_tables.proofs.TableLaws.{at_rest_rests}
use Rattle.ice_tables.proofs.LotSites.{lots_apart, lot_high}
use Rattle.ice_images.specs.Fitting.{entry_at, cube_entry, HasContent, Has, Fits}
use Rattle.ice_images.proofs.FittingLaws.{no_cube}
use Rattle.ice_cube.specs.Commands.{HoldsRecord}
use Rattle.ice_cube.specs.Cubes.{CubeView}
use Rattle.ice_cube.proofs.CubeLaws.{holds_kept}
use Rattle.ice_system.specs.Systems.{tables_of}
use Rattle.ice_volume.specs.Cells.{Carries, EachHas, IsKnown, Rests, HasOpen, cell_at}
use Rattle.ice_volume.specs.Lines.{AnswersLine, Answers, OrderFound, LineFound, LineWrites, OrderWrites, MayFit, IsBrokenContent, IsOfBroken, SaysBroken, fault_in}
use Rattle.ice_volume.specs.Orders.{AnswersOrder, Becomes, WritesIn}
use Rattle.ice_volume.specs.Volumes.{VolumeView, StandsFor, IsWritable}
use Rattle.ice_volume.specs.declared.cell.Cell.{Cell}
use Rattle.ice_volume.specs.declared.cell.Cell.TheVariants.{Closed, Stopped, Open}

-- ---- a record in its slot

-- the slot has the record that was put there, and another one its own
pub with_here : (w : World) (x : ℕ) (d : Option Cube) → (with_slot w x d).cube x ≡ d
with_here w x d = let is : nat_eq x x ≡ true = grind arith in ap (λ b. cond b d (w.cube x)) is

with_other : (w : World) (x : ℕ) (d : Option Cube) (y : ℕ) → y ≢ x → (with_slot w x d).cube y ≡ w.cube y
with_other w x d y other = let is : nat_eq y x ≡ false = grind arith in ap (λ b. cond b d (w.cube y)) is

-- what holds of the record in the slot, and of the other slots' records, holds of all
pub each_slot : (w : World) (x : ℕ) (d : Option Cube) (P : ℕ → Option Cube → Type 0) → P x d → ((y : ℕ) → y ≢ x → P y (w.cube y)) → (y : ℕ)
    → P y ((with_slot w x d).cube y)
each_slot w x d P here others y = elim (cases_eq y x) as (λ _. P y ((with_slot w x d).cube y)) [
  | inl same ↦ subst (λ z. P z ((with_slot w x d).cube z)) (sym same) (subst (P x) (sym (with_here w x d)) here)
  | inr other ↦ subst (P y) (sym (with_other w x d y other)) (others y other)
]

-- ---- what a cell carries

record_has : (lot : LotView) (e : CubeView) (s : DiskState) (c : Cube) → e.lot ≡ lot → HoldsRecord e s c → EachHas lot s (Some c)
record_has lot e s c at holds =
    subst (λ (l : LotView). EachHas l s (Some c)) at (λ i agrees. subst (HasContent e.lot i c.form c.mode) (sym holds.sound) (holds.holds.lasts i agrees))

-- each image that a crash leaves has the record
pub carries_has : (cell : Cell) (lot : LotView) (s : DiskState) (c : Option Cube) → Carries cell lot s c → EachHas lot s c
carries_has cell lot s None carries = λ i agrees. tt
carries_has Closed lot s (Some c) carries = carries.each
carries_has Stopped lot s (Some c) carries = carries.each
carries_has (Open e) lot s (Some c) carries = record_has lot e s c carries.lot_is carries.record_is

-- what is known of the lot
pub carries_known : (cell : Cell) (lot : LotView) (s : DiskState) (c : Cube) → Carries cell lot s (Some c) → IsKnown lot s.now c c.content
carries_known Closed lot s c carries = carries.known
carries_known Stopped lot s c carries = carries.known
carries_known (Open e) lot s c carries = subst (λ (x : Content). IsKnown lot s.now c x) (sym carries.record_is.sound) tt

-- what is known of a lot outlasts calls that keep its blocks
pub known_kept : (lot : LotView) (a b : Image) (c : Cube) (x : Content) → effective_of lot b ≡ effective_of lot a → IsKnown lot a c x → IsKnown lot b c x
known_kept lot a b c (Sound h) same known = tt
known_kept lot a b c (Broken rules) same known = record {
  nothing = λ f mode t k r. known.nothing f mode t k (record { form = r.form; blocks = r.blocks; effective = sym same ∙ r.effective; recovers = r.recovers });
  named = record {
    may = λ n has. let y = known.named.may n has in (y.0, y.1, subst (λ o. LotMayName lot o y.0) (sym same) y.2);
    all = λ r may. known.named.all r (subst (λ o. LotMayName lot o r) same may);
  };
  form = known.form;
  mode = known.mode;
}
known_kept lot a b c Unread same known = known

module _ (lot : LotView) (a b : DiskState) (kept : Kept (extent lot) a b) where
  blocks_kept : effective_of lot b.now ≡ effective_of lot a.now
  blocks_kept = lot_blocks_rest lot a.now b.now kept.same

  rests_kept : (state : _) (c : Cube) → Rests lot a state c → Rests lot b state c
  rests_kept state c rests = record {
    each = every_kept (extent lot) (λ i. Has lot i (Some c)) a b kept rests.each;
    known = known_kept lot a.now b.now c c.content blocks_kept rests.known;
    is = rests.is;
  }

  open_kept : (e : CubeView) (c : Cube) → HasOpen lot a e c → HasOpen lot b e c
  open_kept e c has = let r = has.record_is in record {
    lot_is = has.lot_is;
    record_is = record {
      groups = r.groups;
      state = r.state;
      history = r.history;
      sound = r.sound;
      holds = holds_kept c.form c.mode r.history e a b (subst (λ (l : LotView). Kept (extent l) a b) (sym has.lot_is) kept) r.holds;
    };
  }

  -- what a cell carries outlasts calls that keep the lot's blocks
  pub carries_kept : (cell : Cell) (c : Option Cube) → Carries cell lot a c → Carries cell lot b c
  carries_kept Closed None carries = tt
  carries_kept Closed (Some c) carries = rests_kept _ c carries
  carries_kept Stopped None carries = carries
  carries_kept Stopped (Some c) carries = rests_kept _ c carries
  carries_kept (Open e) None carries = carries
  carries_kept (Open e) (Some c) carries = open_kept e c carries

-- a slot without a cube carries nothing
pub carries_none : (cell : Cell) (lot : LotView) (a b : DiskState) → Carries cell lot a None → Carries cell lot b None
carries_none Closed lot a b carries = tt
carries_none Stopped lot a b carries = carries
carries_none (Open e) lot a b carries = carries

-- ---- an order to the cube of one slot

table_low : (k : ℕ) → IsTable k → k < 19
table_low k (inl low) = omega (arith, low)
table_low k (inr low) = low.1

table_apart : (t : Tables) (x k : ℕ) → IsTable k → extent (lot_of t x) k → ⊥
table_apart t x k low own = let high = lot_high t x k own in let below = table_low k low in omega (arith, high, below)

module _ {D : Type 0} (state : D → DiskState) (left : D → ℕ → Image → List ℕ → Type 0) (v : VolumeView) (x : ℕ)
    (inside : x < (tables_of v.system).slots) (a b : D)
    (u : World) (stands : StandsFor v (state a) u) (within : Within state left (extent (lot_of (tables_of v.system) x)) a b) where
  -- another slot's lot lies apart, where it has a cube
  other_lot : (y : ℕ) → y ≢ x → y < (tables_of v.system).slots → (k : ℕ) → extent (lot_of (tables_of v.system) y) k
      → extent (lot_of (tables_of v.system) x) k → ⊥
  other_lot y other low k own mine = other (lots_apart (tables_of v.system) y x k low inside own mine)

  none_beyond : (y : ℕ) → (tables_of v.system).slots ≤ y → u.cube y ≡ None
  none_beyond y high = no_cube (state a).now (tables_of v.system) u y stands.tables.now.has stands.shows high

  other_has : (i : Image) → AgreesOn (Outside (extent (lot_of (tables_of v.system) x))) (state a) i → (y : ℕ) → y ≢ x
      → Has (lot_of (tables_of v.system) y) i (u.cube y)
  other_has i agrees y other = ⊎_elim
      (λ low. carries_has (cell_at v.cells y) (lot_of (tables_of v.system) y) (state a) (u.cube y) (stands.cubes y) i
      (record { count = agrees.count; same = λ k own. agrees.same k (λ mine. other_lot y other low k own mine) }))
      (λ high. subst (Has (lot_of (tables_of v.system) y) i) (sym (none_beyond y high)) tt)
      (cases_lt y (tables_of v.system).slots)

  -- an image of a crash in which the lot has the record as it was fits the world
  old_fits : (i : Image) → AgreesOn (Outside (extent (lot_of (tables_of v.system) x))) (state a) i → Has (lot_of (tables_of v.system) x) i (u.cube x) → Fits u i
  old_fits i agrees has = record {
    tables = tables_of v.system;
    has =
        (at_rest_rests (tables_of v.system) (state a).now i
        (λ k low. agrees.same k (table_apart (tables_of v.system) x k low) (stands.tables.settled.settled k low)) stands.tables.now).has;
    room = subst (λ n. total (tables_of v.system) ≤ n) (sym agrees.count) stands.room;
    shows = stands.shows;
    cubes = λ y here. ⊎_elim
        (λ same. subst (λ z. Has (lot_of (tables_of v.system) z) i (u.cube z)) (sym same) has)
        (other_has i agrees y)
        (cases_eq y x);
  }

  -- each crash leaves an image that fits the world
  pub order_leaves : (line : Line)
      → LeavesOnly left a b (With (state a).streams.aside (λ i. Has (lot_of (tables_of v.system) x) i (u.cube x)))
      → LeavesOnly left a b (With (state a).streams.aside (MayFit u line))
  order_leaves line leaves = record {
    each = λ m i out l. ⊎_elim (λ before. inl before) (λ here. ⊎_elim (λ before. inl before) (λ there. inr (inl (old_fits i here.0 there.0), there.1))
        (leaves.each m i out l)) (within.left_new m i out l);
  }

  other_carries : (y : ℕ) → y ≢ x → Carries (cell_at v.cells y) (lot_of (tables_of v.system) y) (state b) (u.cube y)
  other_carries y other = ⊎_elim
      (λ low. carries_kept (lot_of (tables_of v.system) y) (state a) (state b)
      (kept_within state left (extent (lot_of (tables_of v.system) y)) (extent (lot_of (tables_of v.system) x)) a b (other_lot y other low) within)
      (cell_at v.cells y) (u.cube y) (stands.cubes y))
      (λ high. subst (Carries (cell_at v.cells y) (lot_of (tables_of v.system) y) (state b)) (sym (none_beyond y high))
      (carries_none (cell_at v.cells y) (lot_of (tables_of v.system) y) (state a) (state b)
      (subst (Carries (cell_at v.cells y) (lot_of (tables_of v.system) y) (state a)) (none_beyond y high) (stands.cubes y))))
      (cases_lt y (tables_of v.system).slots)

  -- the volume with another cell in the slot stands for the world with another record there
  pub order_stands : (after : Cell) (d : Option Cube) → x < length v.cells → option_map cube_entry d ≡ option_map cube_entry (u.cube x)
      → Carries after (lot_of (tables_of v.system) x) (state b) d
      → StandsFor (record { system = v.system; cells = slice_set v.cells x after }) (state b) (with_slot u x d)
  order_stands after d less entry carries = record {
    live = stands.live;
    tables = sure_kept IsTable (AtRest (tables_of v.system)) (state a) (state b) (at_rest_rests (tables_of v.system))
        (kept_within state left IsTable (extent (lot_of (tables_of v.system) x)) a b (table_apart (tables_of v.system) x) within) stands.tables;
    room = subst (λ n. total (tables_of v.system) ≤ n) (sym within.size) stands.room;
    shows = record {
      slots = stands.shows.slots;
      groups = stands.shows.groups;
      entries =
          each_slot u x d (λ y c. entry_at (tables_of v.system) y ≡ option_map cube_entry c) (stands.shows.entries x ∙ sym entry)
          (λ y other. stands.shows.entries y);
    };
    cubes = each_slot u x d (λ y c. Carries (cell_at (slice_set v.cells x after) y) (lot_of (tables_of v.system) y) (state b) c)
        (subst (λ (z : Cell). Carries z (lot_of (tables_of v.system) x) (state b) d) (sym (get_or-set_same v.cells x after Closed less)) carries)
        (λ y other. subst (λ (z : Cell). Carries z (lot_of (tables_of v.system) y) (state b) (u.cube y))
        (sym (get_or-set_other v.cells x y after Closed other)) (other_carries y other));
  }

-- ---- the line of an order

writes_in : (t : Tables) (x : ℕ) (o : Order) (r : Response) (k : ℕ) → WritesIn (lot_of t x) o r k → OrderWrites t x o r k
writes_in t x (order.OnTree op) r k is = is
writes_in t x order.Sync r k is = is
writes_in t x order.Unmount r k is = is
writes_in t x order.Mount r k is = is
writes_in t x order.Check r k is = is
writes_in t x order.SetOffline r k is = absurd is
writes_in t x order.SetOnline r k is = absurd is
writes_in t x order.Delete r k is = absurd is
writes_in t x (order.Grow n) r k is = absurd is
writes_in t x (order.Create p n) r k is = absurd is

-- the blocks of a slot's lot are blocks that a session may write
lot_writable : (v : VolumeView) (x k : ℕ) → k < total (tables_of v.system) → extent (lot_of (tables_of v.system) x) k → IsWritable v k
lot_writable v x k below own = inr (lot_high (tables_of v.system) x k own, below)

-- a line that is meant for a slot whose cube's record is this one
pub record IsMeant (v : VolumeView) (x : ℕ) (line : Line) (o : Order) (offline : Bool) (u : World) : Type 0 where
  pub aims : aim u line ≡ At x o
  pub cube : Cube
  pub is : u.cube x ≡ Some cube
  pub mark : is_offline cube.state ≡ offline
  pub groups : cube.groups ≡ length (groups_of (tables_of v.system) x)

module _ {D : Type 0} (state : D → DiskState) (left : D → ℕ → Image → List ℕ → Type 0) (v : VolumeView) (x : ℕ) (line : Line) (o : Order)
    (offline : Bool) (after : Cell) (room : RoomContent) (result : Result Value Refusal) (a b : D)
    (inside : x < (tables_of v.system).slots) (less : x < length v.cells)
    (below : (k : ℕ) → extent (lot_of (tables_of v.system) x) k → k < total (tables_of v.system))
    (whole : (state a).tells ≡ true → length (state a).now ≡ (state a).size)
    (meant_for : (u : World) → StandsFor v (state a) u → IsMeant v x line o offline u)
    (answers : AnswersOrder state left (lot_of (tables_of v.system) x) o offline (cell_at v.cells x) after room result a b) where
  module _ (u : World) (stands : StandsFor v (state a) u) where
    for : IsMeant v x line o offline u
    for = meant_for u stands

    becomes : Becomes state left (lot_of (tables_of v.system) x) o after a b for.cube (meant result room)
    becomes = answers.each for.cube (record {
      told = stands.tables.settled.told;
      whole = whole stands.tables.settled.told;
      mark = for.mark;
      groups = for.groups;
      carries = subst (Carries (cell_at v.cells x) (lot_of (tables_of v.system) x) (state a)) for.is (stands.cubes x);
    })

    line_goes : Answers v (record { system = v.system; cells = slice_set v.cells x after }) (state a) (state b) line u (meant result room)
    line_goes = record {
      then = with_slot u x (Some becomes.then);
      step = subst (λ (z : Aim). Goes u z (meant result room) (with_slot u x (Some becomes.then))) (sym for.aims)
          (Some becomes.then, subst (λ c. Own c o (meant result room) (Some becomes.then)) (sym for.is) becomes.own, refl);
      stands = order_stands state left v x inside a b u stands answers.within after (Some becomes.then) less
          (ap (λ y. Some y) becomes.entry ∙ sym (ap (option_map cube_entry) for.is)) becomes.carries;
      found = subst (λ (z : Aim). LineFound (tables_of v.system) (state a).now z (meant result room) u (with_slot u x (Some becomes.then))) (sym for.aims)
          (subst (λ c. OrderFound (lot_of (tables_of v.system) x) (state a).now o (meant result room) c ((with_slot u x (Some becomes.then)).cube x))
          (sym for.is)
          (subst (λ d. OrderFound (lot_of (tables_of v.system) x) (state a).now o (meant result room) (Some for.cube) d)
          (sym (with_here u x (Some becomes.then))) becomes.found));
      lots = λ y broken still. refl;
    }

    line_leaves : LeavesOnly left a b (With (state a).streams.aside (MayFit u line))
    line_leaves = order_leaves state left v x inside a b u stands answers.within line
        (subst (λ c. LeavesOnly left a b (With (state a).streams.aside (λ i. Has (lot_of (tables_of v.system) x) i c))) (sym for.is) becomes.leaves)

    -- no block of a broken cube is written
    line_spares : Within state left (Outside (IsOfBroken (tables_of v.system) u)) a b
    line_spares = by for.cube.content refl
      where
        spared : (IsBrokenContent for.cube.content → ⊥) → (k : ℕ) → extent (lot_of (tables_of v.system) x) k → ¬ IsOfBroken (tables_of v.system) u k
        spared sound k mine broken = ⊎_elim
            (λ same. sound (subst SaysBroken (ap u.cube same ∙ for.is) broken.1))
            (λ differs. ⊎_elim
            (λ low. other_lot state left v x inside a b u stands answers.within broken.0 differs low k broken.2 mine)
            (λ high. absurd (subst SaysBroken (none_beyond state left v x inside a b u stands answers.within broken.0 high) broken.1))
            (cases_lt broken.0 (tables_of v.system).slots))
            (cases_eq broken.0 x)

        live : (IsBrokenContent for.cube.content → ⊥) → Within state left (Outside (IsOfBroken (tables_of v.system) u)) a b
        live sound =
            within_more state left (extent (lot_of (tables_of v.system) x)) (Outside (IsOfBroken (tables_of v.system) u)) a b (spared sound) answers.within

        by : (y : Content) → for.cube.content ≡ y → Within state left (Outside (IsOfBroken (tables_of v.system) u)) a b
        by (Sound h) is = live (λ broken. absurd (subst IsBrokenContent is broken))
        by (Broken rules) is =
            within_more state left Nowhere (Outside (IsOfBroken (tables_of v.system) u)) a b (λ k never. absurd never)
            (becomes.spares (subst IsBrokenContent (sym is) tt))
        by Unread is = live (λ broken. absurd (subst IsBrokenContent is broken))

    line_frame : Within state left (LineWrites (tables_of v.system) (aim u line) (meant result room)) a b
    line_frame = subst (λ (z : Aim). Within state left (LineWrites (tables_of v.system) z (meant result room)) a b) (sym for.aims)
        (within_more state left (WritesIn (lot_of (tables_of v.system) x) o (meant result room)) (OrderWrites (tables_of v.system) x o (meant result room)) a b
        (writes_in (tables_of v.system) x o (meant result room)) becomes.frame)

  -- what an order to a slot's cube does is what a line does that is meant for it
  pub order_line : {X : Type 0} → AnswersLine {X = X} state left line v (record { system = v.system; cells = slice_set v.cells x after }) room (Ok result) a b
  order_line {X} = record {
    within = within_more state left (extent (lot_of (tables_of v.system) x)) (IsWritable v) a b (λ k own. lot_writable v x k (below k own) own) answers.within;
    size = refl;
    cause = tt;
    live = refl;
    faults = answers.faults;
    tallies = answers.tallies;
    leaves = line_leaves;
    goes = line_goes;
    frame = line_frame;
    spares = line_spares;
    stops = λ u stands. tt;
  }

-- ---- refusals without a call of the disk

-- A line that is refused before the cube is asked: the reply and the world follow by a step.
pub refused_line : {D X : Type 0} (state : D → DiskState) (left : D → ℕ → Image → List ℕ
    → Type 0) (line : Line) (v : VolumeView) (room : RoomContent) (r : Refusal) (a : D)
    → fault_in (meant (Err r) room) ≡ 0 → ((u : World) → StandsFor v (state a) u → Answers v v (state a) (state a) line u (meant (Err r) room))
    → AnswersLine {X = X} state left line v v room (Ok (Err r)) a a
refused_line state left line v room r a none goes = record {
  within = within_refl state left (IsWritable v) a;
  size = refl;
  cause = tt;
  live = refl;
  faults = omega (arith, none);
  tallies = tt;
  leaves = λ u stands. record { each = λ m i out l. inl l };
  goes = goes;
  frame = λ u stands. within_refl state left (LineWrites (tables_of v.system) (aim u line) (meant (Err r) room)) a;
  spares = λ u stands. within_refl state left (Outside (IsOfBroken (tables_of v.system) u)) a;
  stops = λ u stands. tt;
}
