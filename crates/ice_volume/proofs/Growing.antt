-- Further groups of a cube: the order, its refusals, and what the cell and the lot carry then.
use Rattle.std.proofs.Common.{◌≡◌, ◌∙◌, inl, inr, ⊎_elim, ◌<◌, ◌+◌, ◌*◌, ℕ, List, length, length-append, Option, Some, None, option_map, Ok, Err, refl, sym, ap, subst, arith}
use Rattle.std.specs.Prelude.{IsSome, take}
use Rattle.std.proofs.lemmas.Bool.{cases_eq}
use Rattle.std.proofs.lemmas.List.{length-take-le}
use Rattle.ice_base.specs.Disk.{DiskState}
use Rattle.ice_base.specs.Frames.{Every, Kept}
use Rattle.ice_base.specs.Lots.{LotView, IsLot, extent, place}
use Rattle.ice_base.proofs.LotLaws.{is_address_at, place-in}
use Rattle.tree_spec.specs.Costs.{Form}
use Rattle.tree_spec.specs.Lines.{Asks, Grow}
use Rattle.tree_spec.specs.Own as order
use Rattle.tree_spec.specs.Own.{Own, Yes}
use Rattle.tree_spec.specs.Records.{Cube, Content, Sound, Broken, Unread, History, Mode, grown, mended}
use Rattle.tree_spec.specs.Replies.{Because, refused_of}
use Rattle.tree_spec.specs.Replies as reply
use Rattle.tree_spec.specs.Why as why
use Rattle.tree_spec.specs.World as world
use Rattle.tree_spec.specs.World.{World, Refuse, At, aim, to_grow, with_groups}
use Rattle.tree_spec.specs.declared.reply.Refusal.{Refusal}
use Rattle.tree_spec.specs.declared.reply.StateWord.{StateWord}
use Rattle.ice_tables.specs.Tables.{Tables, Row}
use Rattle.ice_tables.specs.Lots.{groups_of, lot_of}
use Rattle.ice_images.specs.Fitting.{Entry, cube_entry, HasContent}
use Rattle.ice_names.specs.Names.{path_at, row_at}
use Rattle.ice_cube.specs.Cubes.{CubeView, HasHistory, Holds}
use Rattle.ice_cube.specs.Fresh.{IsHeadFrom}
use Rattle.ice_cube.specs.Wider.{HasNewGroups, IsNewBlock, IsWider}
use Rattle.ice_cube.proofs.FreshLots.{new_heads_apart}
use Rattle.ice_system.specs.Plans.{PlansGrow, RefusesGroups, free_groups}
use Rattle.ice_system.specs.Systems.{tables_of}
use Rattle.ice_volume.specs.Cells.{cell_at, Carries, EachHas, HasOpen, IsKnown, IsSession, Rests}
use Rattle.ice_volume.specs.Lines.{IsBrokenContent, planned_lot}
use Rattle.ice_volume.specs.Told.{IsWidened}
use Rattle.ice_volume.specs.Volumes.{VolumeView, StandsFor}
use Rattle.ice_volume.specs.declared.cell.Cell.{Cell}
use Rattle.ice_volume.specs.declared.cell.Cell.TheVariants.{Closed, Stopped, Open}
use Rattle.ice_volume.proofs.Lookups.{slot_found}
use Rattle.ice_volume.proofs.Changing.{Becomes, FindsNothing, IsSpare, OrderMayWrite, entry_with, lot_with}
use Rattle.ice_volume.proofs.Slots.{carries_has}
use Rattle.ice_volume.proofs.Counting.{free_shown, groups_shown}
use Rattle.ice_volume.proofs.Making.{can_aim, cannot_aim, slot_of_cube}
use Rattle.ice_volume.proofs.TableOrders.{here, entry_here}
use Rattle.ice_volume.proofs.Planned.{IsPlanned, planned_apart, planned_high, planned_is}

-- ---- the blocks of further groups

-- the bitmaps and the inode blocks of groups are blocks of the lot
pub head_extent : (lot : LotView) (from k : ℕ) → IsHeadFrom lot from k → extent lot k
head_extent lot from k is = subst (extent lot) (sym is.3.2)
    (place-in lot (256 * is.0 + is.3.0) (is_address_at lot (256 * is.0 + is.3.0) (let less = is.2 in let low = is.3.1 in omega (arith, less, low))))

-- those of further groups are no blocks of the lot without these
pub head_new : (old lot : LotView) (wider : IsWider old lot) (k : ℕ) → IsHeadFrom lot (length old.groups) k → IsNewBlock old lot k
head_new old lot wider k is =
    (head_extent lot (length old.groups) k is, new_heads_apart old lot wider.more k wider.is_lot wider.slot wider.base wider.groups is)

-- fresh groups outlast calls that keep the lot's blocks
pub new_groups_kept : (old lot : LotView) (a b : DiskState) → Kept (extent lot) a b → HasNewGroups old lot a → HasNewGroups old lot b
new_groups_kept old lot a b kept h = record {
  settled = record { told = kept.tells ∙ h.settled.told; settled = λ k here. kept.settled k here.0 (h.settled.settled k here) };
  fresh = λ o from less p low.
      kept.same (place lot (256 * o + p)) (head_extent lot (length old.groups) (place lot (256 * o + p)) (o, from, less, (p, low, refl)))
      ∙ h.fresh o from less p low;
}

-- ---- the record with further groups

-- the law of wider lots
abbrev pub WiderHas : Type 0
WiderHas = (old lot : LotView) (f : Form) (mode : Mode) (h : History) (s : DiskState) → IsWider old lot
    → HasNewGroups old lot s → Every (extent old) s (HasHistory old f mode h) → Every (extent lot) s (HasHistory lot f mode h)

module _ (law : WiderHas) (old lot : LotView) (s : DiskState) (wider : IsWider old lot) (new : HasNewGroups old lot s) (n : ℕ)
    (more : length lot.groups ≡ length old.groups + n) where
  each_mended : (f : Form) (mode : Mode) (x : Content) → Every (extent old) s (λ i. HasContent old i f mode x)
      → Every (extent lot) s (λ i. HasContent lot i f mode (mended x))
  each_mended f mode (Sound h) each = law old lot f mode h s wider new each
  each_mended f mode (Broken rules) each = λ i agrees. tt
  each_mended f mode Unread each = λ i agrees. tt

  -- each crash leaves the record with further groups in the wider lot
  pub each_grown : (c : Cube) → EachHas old s (Some c) → EachHas lot s (Some (grown n c))
  each_grown c each = each_mended c.form c.mode c.content each

  known_grown : (c : Cube) (x : Content) → IsKnown old s.now c x → IsKnown lot s.now (grown n c) (mended x)
  known_grown c (Sound h) known = tt
  known_grown c (Broken rules) known = (known.form, known.mode)
  known_grown c Unread known = known

  rests_grown : (state : StateWord) (c : Cube) → Rests old s state c → Rests lot s state (grown n c)
  rests_grown state c r = record { each = each_grown c r.each; known = known_grown c c.content r.known; is = r.is }

  open_grown : (e : CubeView) (c : Cube)
      → ((f : Form) (mode : Mode) (h : History) → HasNewGroups e.lot lot s → Holds f mode h e s → Holds f mode h (record e { lot = lot }) s)
      → HasOpen old s e c → HasOpen lot s (record e { lot = lot }) (grown n c)
  open_grown e c widened o = record {
    lot_is = refl;
    record_is = record {
      groups =
          let same : length e.lot.groups ≡ length old.groups = ap (λ (l : LotView). length l.groups) o.lot_is in
          let groups = o.record_is.groups in omega (arith, same, groups, more);
      state = o.record_is.state;
      history = o.record_is.history;
      sound = ap mended o.record_is.sound;
      holds = widened c.form c.mode o.record_is.history (subst (λ (l : LotView). HasNewGroups l lot s) (sym o.lot_is) new) o.record_is.holds;
    };
  }

  -- the widened cell carries the record with further groups
  pub carries_grown : (cell after : Cell) (c : Cube) → IsWidened lot s cell after → Carries cell old s (Some c) → Carries after lot s (Some (grown n c))
  carries_grown Closed after c is carries = subst (λ (e : Cell). Carries e lot s (Some (grown n c))) (sym is) (rests_grown _ c carries)
  carries_grown Stopped after c is carries = subst (λ (e : Cell). Carries e lot s (Some (grown n c))) (sym is) (rests_grown _ c carries)
  carries_grown (Open e) after c is carries = subst (λ (e : Cell). Carries e lot s (Some (grown n c))) (sym is.0) (open_grown e c is.1 carries)

shown_grown : (gs hs : List ℕ) (n : ℕ) (o : Option Row) (c : Cube) → length hs ≡ length gs + n → entry_with gs o ≡ Some (cube_entry c)
    → entry_with hs o ≡ Some (cube_entry (grown n c))
shown_grown gs hs n None c more e = absurd (cc e)
shown_grown gs hs n (Some r) c more e =
    ap (λ (k : ℕ). Some (record { path = r.path; groups = k; offline = r.offline })) more
    ∙ ap (option_map (λ (y : Entry). record y { groups = y.groups + n })) e

-- ---- the order

pub grow_finds : (n : ℕ) → FindsNothing (order.Grow n)
grow_finds n lot i r c d = tt

-- the planned lot is wider than that of the slot
pub plan_wider : (t : Tables) (x n : ℕ) (lot : LotView) → IsLot lot → PlansGrow t x n lot → IsWider (lot_of t x) lot
plan_wider t x n lot is plan = record { is_lot = is; slot = plan.slot; base = plan.base; more = take n (free_groups t); groups = plan.groups }

pub plan_more : (t : Tables) (x n : ℕ) (lot : LotView) → PlansGrow t x n lot → length lot.groups ≡ length (groups_of t x) + n
plan_more t x n lot plan =
    ap (λ (gs : List ℕ). length gs) plan.groups ∙ length-append (groups_of t x) (take n (free_groups t))
    ∙ ap (λ (k : ℕ). length (groups_of t x) + k) (length-take-le n (free_groups t) plan.can.enough)

-- it is the lot of the slot with its new groups, and the one that the frame has
pub plan_lot : (t : Tables) (x n : ℕ) (lot : LotView) → PlansGrow t x n lot → lot ≡ lot_with t x lot.groups
plan_lot t x n lot plan =
    ap (λ (q : ℕ). record { slot = q; base = lot.base; groups = lot.groups }) plan.slot
    ∙ ap (λ (b : ℕ). record { slot = x; base = b; groups = lot.groups }) plan.base

plan_same : (t : Tables) (x n : ℕ) (lot : LotView) → PlansGrow t x n lot → lot ≡ planned_lot t x n
plan_same t x n lot plan = plan_lot t x n lot plan ∙ ap (λ (gs : List ℕ). lot_with t x gs) plan.groups

pub grow_may : (t : Tables) (x n : ℕ) (lot : LotView) → PlansGrow t x n lot → OrderMayWrite t x (order.Grow n) (IsNewBlock (lot_of t x) lot)
grow_may t x n lot plan = record {
  done = λ k here. ⊎_elim (λ low. inl low) (λ own. inr (subst (λ (l : LotView). IsNewBlock (lot_of t x) l k) (plan_same t x n lot plan) own)) here;
  faulty = λ k here. ⊎_elim (λ low. inl low) (λ own. inr (subst (λ (l : LotView). IsNewBlock (lot_of t x) l k) (plan_same t x n lot plan) own)) here;
}

-- more groups may mend a broken cube
grown_unbroken : (x : Content) → IsBrokenContent (mended x) → ⊥
grown_unbroken (Sound h) still = absurd still
grown_unbroken (Broken rules) still = absurd still
grown_unbroken Unread still = absurd still

-- and is a session of the slot then
pub widened_session : (t : Tables) (x : ℕ) (lot : LotView) (s : DiskState) (cell after : Cell) → lot ≡ lot_of t x → (IsSome (t.row x))
    → IsWidened lot s cell after → IsSession t x after
widened_session t x lot s Closed after same live is = subst (λ (e : Cell). IsSession t x e) (sym is) tt
widened_session t x lot s Stopped after same live is = subst (λ (e : Cell). IsSession t x e) (sym is) tt
widened_session t x lot s (Open e) after same live is = subst (λ (e : Cell). IsSession t x e) (sym is.0) (same, live)

module _ (v : VolumeView) (s : DiskState) (w : World) (stands : StandsFor v s w) (p : List (List ℕ)) (n x : ℕ)
    (less : x < v.system.names.slots) (at : path_at v.system.names x ≡ Some p) where
  to_slot : aim w (Asks (Grow p n)) ≡ with_groups w (length (groups_of (tables_of v.system) x)) n (At x (order.Grow n))
  to_slot =
      ap (λ (o : Option ℕ). to_grow w n o) (slot_found v s w stands p x less at)
      ∙ ap (λ (k : ℕ). with_groups w k n (At x (order.Grow n))) (groups_shown s.now (tables_of v.system) stands.tables.now.has w stands.shows x)

  count : world.free_groups w ≡ length (free_groups (tables_of v.system))
  count = free_shown s.now (tables_of v.system) stands.tables.now.has w stands.shows

  -- why there are no further groups
  pub grow_refused : (r : Refusal) (y : why.Why) → RefusesGroups (tables_of v.system) (length (groups_of (tables_of v.system) x)) n r
      → refused_of r ≡ Because y → aim w (Asks (Grow p n)) ≡ Refuse y
  grow_refused r y is same = to_slot ∙ cannot_aim (tables_of v.system) w (length (groups_of (tables_of v.system) x)) n count (At x (order.Grow n)) r y is same

  module _ (lot : LotView) (plan : PlansGrow (tables_of v.system) x n lot) where
    grow_aim : aim w (Asks (Grow p n)) ≡ At x (order.Grow n)
    grow_aim = to_slot ∙ can_aim (tables_of v.system) w (length (groups_of (tables_of v.system) x)) n count (At x (order.Grow n)) plan.can

    own_fault : Own (w.cube x) (order.Grow n) (Err reply.Fault) (w.cube x)
    own_fault = subst (λ c. Own c (order.Grow n) (Err reply.Fault) c) (sym (here v s w stands p x less at).1) (inr (inl (refl, refl, refl)))

    -- a fault leaves the cube
    pub grow_fault : (aim w (Asks (Grow p n)) ≡ At x (order.Grow n)) × Own (w.cube x) (order.Grow n) (Err reply.Fault) (w.cube x)
    grow_fault = (grow_aim, own_fault)

    plan_is : IsPlanned (tables_of v.system) lot
    plan_is = planned_is (tables_of v.system) x n lot less plan.slot plan.base plan.groups

    -- no cube has a block of the further groups
    pub grow_spare : IsSpare v w (IsNewBlock (lot_of (tables_of v.system) x) lot)
    grow_spare = record {
      high = λ k own. planned_high (tables_of v.system) lot k plan_is.of_image own.0;
      lots = λ y live k there own. ⊎_elim
          (λ same. own.1 (subst (λ (q : ℕ). extent (lot_of (tables_of v.system) q) k) same there))
          (λ other. planned_apart (tables_of v.system) lot y k plan_is (slot_of_cube v s w stands y live) (λ same. other (same ∙ plan.slot)) there own.0)
          (cases_eq y x);
    }

    -- A cube gets further groups, where those are fresh at b, and its widened cell carries its record at t.
    pub grows : (law : WiderHas) (is : IsLot lot) (b t : DiskState) (after : Cell) → StandsFor v b w → HasNewGroups (lot_of (tables_of v.system) x) lot b
        → Carries (cell_at v.cells x) (lot_of (tables_of v.system) x) t (w.cube x) → HasNewGroups (lot_of (tables_of v.system) x) lot t
        → Becomes v x (row_at v.system.names x) lot.groups after (IsWidened lot t (cell_at v.cells x) after) (Asks (Grow p n)) (order.Grow n) b t w
    grows law is b t after mid new carries new_then =
        let c = here v s w stands p x less at in
        let wider = plan_wider (tables_of v.system) x n lot is plan in
        let more = plan_more (tables_of v.system) x n lot plan in
        let each : EachHas (lot_of (tables_of v.system) x) b (Some c.0) =
        subst (λ (d : Option Cube). EachHas (lot_of (tables_of v.system) x) b d) c.1
        (carries_has (cell_at v.cells x) (lot_of (tables_of v.system) x) b (w.cube x) (mid.cubes x)) in
        record {
          aims = grow_aim;
          then = Some (grown n c.0);
          says =
              subst (λ (d : Option Cube). Own d (order.Grow n) (Ok reply.Plain) (Some (grown n c.0))) (sym c.1)
              (inl (Yes reply.Plain (Some (grown n c.0)), refl, (refl, refl)));
          faulty = own_fault;
          shows = shown_grown (groups_of (tables_of v.system) x) lot.groups n (row_at v.system.names x) c.0 more (entry_here v s w stands p x less at);
          each = subst (λ (l : LotView). EachHas l b (Some (grown n c.0))) (plan_lot (tables_of v.system) x n lot plan)
              (each_grown law (lot_of (tables_of v.system) x) lot b wider new n more c.0 each);
          carries = λ widened. subst (λ (l : LotView). Carries after l t (Some (grown n c.0))) (plan_lot (tables_of v.system) x n lot plan)
              (carries_grown law (lot_of (tables_of v.system) x) lot t wider new_then n more (cell_at v.cells x) after c.0 widened
              (subst (λ (o : Option Cube). Carries (cell_at v.cells x) (lot_of (tables_of v.system) x) t o) c.1 carries));
          same = λ broken still. absurd (grown_unbroken c.0.content still);
        }
