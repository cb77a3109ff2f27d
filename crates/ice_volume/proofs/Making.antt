-- A new cube: the order, its refusals, and the cell that has the cube.
use Rattle.std.proofs.Common.{◌≡◌, ◌≢◌, ◌∙◌, inl, inr, ⊎_elim, ◌≤◌, ◌<◌, ◌+◌, ◌*◌, ℕ, zero, suc, Bool, true, false, cond, List, ◌++◌, length, Option, Some, None, option_map, Ok, Err, refl, sym, ap, subst, arith}
use Rattle.std.specs.Prelude.{⊤, nat_lt, not, is_some, IsSome, take}
use Rattle.std.specs.List.{range_with_len, find}
use Rattle.std.proofs.lemmas.Bool.{cases_eq, cases_lt}
use Rattle.std.proofs.lemmas.Bool.Decides.{nat_tests}
use Rattle.std.proofs.lemmas.List.{length-take-le}
use Rattle.ice_base.specs.Disk.{DiskState}
use Rattle.ice_base.specs.Frames.{Kept}
use Rattle.ice_base.specs.Lots.{LotView, extent}
use Rattle.tree_spec.specs.Costs.{form_one}
use Rattle.tree_spec.specs.Lines.{Line, Asks, Create}
use Rattle.tree_spec.specs.Own as order
use Rattle.tree_spec.specs.Own.{Own, Yes}
use Rattle.tree_spec.specs.Records.{Cube, Plain, fresh, new_cube}
use Rattle.tree_spec.specs.Replies.{Because, refused_of}
use Rattle.tree_spec.specs.Replies as reply
use Rattle.tree_spec.specs.Trees.{Dir, Nil}
use Rattle.tree_spec.specs.Why as why
use Rattle.tree_spec.specs.World as world
use Rattle.tree_spec.specs.World.{World, Aim, Refuse, At, aim, Goes, refuse_if, to_free, with_groups, slot_with_path, free_slot, with_slot}
use Rattle.tree_spec.specs.declared.reply.Refusal.{Refusal}
use Rattle.tree_spec.specs.declared.reply.Refusal.TheVariants as code
use Rattle.ice_tables.specs.Tables.{Tables, Row}
use Rattle.ice_tables.specs.Lots.{groups_of}
use Rattle.ice_tables.proofs.TableLaws.{row_low}
use Rattle.ice_images.specs.Fitting.{cube_entry}
use Rattle.ice_images.proofs.FittingLaws.{no_cube}
use Rattle.ice_names.specs.Names.{path_of}
use Rattle.ice_cube.specs.Cubes.{CubeView, Holds}
use Rattle.ice_cube.specs.Commands.{open_state}
use Rattle.ice_system.specs.Plans.{CanHave, HasPath, IsFreeSlot, NoneFree, PlansCreate, RefusesCreate, RefusesGroups, free_groups}
use Rattle.ice_system.specs.Systems.{tables_of}
use Rattle.ice_volume.specs.Cells.{Carries, EachHas}
use Rattle.ice_volume.specs.Lines.{Answers, LineFound, planned_lot}
use Rattle.ice_volume.specs.Volumes.{VolumeView, StandsFor}
use Rattle.ice_volume.specs.declared.cell.Cell.TheVariants.{Open}
use Rattle.ice_volume.proofs.Lookups.{slot_found, slot_none}
use Rattle.ice_volume.proofs.Changing.{Becomes, FindsNothing, IsSpare, OrderMayWrite, carries_where, lot_with, put_again}
use Rattle.ice_volume.proofs.Slots.{carries_has}
use Rattle.ice_volume.proofs.Counting.{free_shown, none_has}
use Rattle.ice_volume.proofs.Planned.{IsPlanned, free_is, planned_apart, planned_high}

-- ---- groups that can be had

module _ (t : Tables) (w : World) (has n : ℕ) (free : world.free_groups w ≡ length (free_groups t)) (a : Aim) where
  -- so many groups can be had
  pub can_aim : CanHave t has n → with_groups w has n a ≡ a
  can_aim can =
      let few = can.few in let enough = can.enough in
      let full : nat_lt 64 (has + n) ≡ false = grind (arith, nat_tests) in
      let lack : nat_lt (world.free_groups w) n ≡ false = grind (arith, nat_tests) in
      ap (λ b. refuse_if b why.CubeFull (refuse_if (nat_lt (world.free_groups w) n) why.NoGroups a)) full ∙ ap (λ b. refuse_if b why.NoGroups a) lack

  -- or not, and then this is why
  pub cannot_aim : (r : Refusal) (y : why.Why) → RefusesGroups t has n r → refused_of r ≡ Because y → with_groups w has n a ≡ Refuse y
  cannot_aim code.CubeFull y is same =
      let full : nat_lt 64 (has + n) ≡ true = grind (arith, nat_tests, is) in
      ap (λ b. refuse_if b why.CubeFull (refuse_if (nat_lt (world.free_groups w) n) why.NoGroups a)) full ∙ ap (λ z. Refuse z) (cc same)
  cannot_aim code.NoGroups y is same =
      let few = is.0 in let less = is.1 in
      let full : nat_lt 64 (has + n) ≡ false = grind (arith, nat_tests) in
      let lack : nat_lt (world.free_groups w) n ≡ true = grind (arith, nat_tests) in
      ap (λ b. refuse_if b why.CubeFull (refuse_if (nat_lt (world.free_groups w) n) why.NoGroups a)) full
      ∙ ap (λ b. refuse_if b why.NoGroups a) lack ∙ ap (λ z. Refuse z) (cc same)
  cannot_aim r y is same = absurd is

-- each has a cause
pub groups_because : (t : Tables) (has n : ℕ) (r : Refusal) → RefusesGroups t has n r → (y : why.Why) × (refused_of r ≡ Because y)
groups_because t has n code.CubeFull is = (why.CubeFull, refl)
groups_because t has n code.NoGroups is = (why.NoGroups, refl)
groups_because t has n r is = absurd is

pub create_because : (t : Tables) (p : List (List ℕ)) (n : ℕ) (r : Refusal) → RefusesCreate t p n r → (y : why.Why) × (refused_of r ≡ Because y)
create_because t p n code.Exists is = (why.Exists, refl)
create_because t p n code.NoSlot is = (why.NoSlot, refl)
create_because t p n code.CubeFull is = (why.CubeFull, refl)
create_because t p n code.NoGroups is = (why.NoGroups, refl)
create_because t p n r is = absurd is.2

-- ---- the least free slot

module _ (test : ℕ → Bool) where
  find_now : (a n s : ℕ) → a ≡ s → test s ≡ true → find test (range_with_len a (suc n)) ≡ Some s
  find_now a n s same here = ap (λ b. cond b (Some a) (find test (range_with_len (a + 1) n))) (ap test same ∙ here) ∙ ap (λ (k : ℕ). Some k) same

  find_later : (a n s : ℕ) → test a ≡ false → find test (range_with_len (a + 1) n) ≡ Some s → find test (range_with_len a (suc n)) ≡ Some s
  find_later a n s fails rest = ap (λ b. cond b (Some a) (find test (range_with_len (a + 1) n))) fails ∙ rest

  find_least : (a n s : ℕ) → a ≤ s → s < a + n → test s ≡ true → ((k : ℕ) → k < s → test k ≡ false) → find test (range_with_len a n) ≡ Some s
  find_least a zero s low high here least = absurd (omega (arith, low, high))
  find_least a (suc n) s low high here least = ⊎_elim
      (λ same. find_now a n s same here)
      (λ other. find_later a n s (least a (omega (arith, low, other))) (find_least (a + 1) n s (omega (arith, low, other)) (omega (arith, high)) here least))
      (cases_eq a s)

  find_rest : (a n : ℕ) (b : Bool) → test a ≡ b → cond b (Some a) (find test (range_with_len (a + 1) n)) ≡ None
      → (test a ≡ false) × (find test (range_with_len (a + 1) n) ≡ None)
  find_rest a n true is fails = absurd (cc fails)
  find_rest a n false is fails = (is, fails)

  find_fails : (a n : ℕ) → find test (range_with_len a n) ≡ None → (k : ℕ) → a ≤ k → k < a + n → test k ≡ false
  find_fails a zero none k low high = absurd (omega (arith, low, high))
  find_fails a (suc n) none k low high =
      let rest = find_rest a n (test a) refl none in
      ⊎_elim (λ same. ap test same ∙ rest.0) (λ other. find_fails (a + 1) n rest.1 k (omega (arith, low, other)) (omega (arith, high))) (cases_eq k a)

  find_never : (a n : ℕ) → ((k : ℕ) → k < a + n → test k ≡ false) → find test (range_with_len a n) ≡ None
  find_never a zero none = refl
  find_never a (suc n) none =
      ap (λ b. cond b (Some a) (find test (range_with_len (a + 1) n))) (none a (omega arith)) ∙ find_never (a + 1) n (λ k less. none k (omega (arith, less)))

is_none_by : (o : Option Row) (c : Option Cube) (gs : ℕ)
    → option_map (λ (r : Row). record { path = r.path; groups = gs; offline = r.offline }) o ≡ option_map cube_entry c → o ≡ None → c ≡ None
is_none_by None None gs e is = refl
is_none_by None (Some c) gs e is = absurd (cc e)
is_none_by (Some r) c gs e is = absurd (cc is)

is_some_by : (o : Option Row) (c : Option Cube) (gs : ℕ)
    → option_map (λ (r : Row). record { path = r.path; groups = gs; offline = r.offline }) o ≡ option_map cube_entry c → o ≢ None → not (is_some c) ≡ false
is_some_by None c gs e is = absurd (is refl)
is_some_by (Some r) None gs e is = absurd (cc e)
is_some_by (Some r) (Some c) gs e is = refl

-- ---- the order

pub create_finds : (p : List (List ℕ)) (n : ℕ) → FindsNothing (order.Create p n)
create_finds p n lot i r c d = tt

-- a path of a row
path_row : (o : Option Row) (r : Row) (p : List (List ℕ)) → o ≡ Some r → r.path ≡ p → path_of o ≡ Some p
path_row o r p is same = ap path_of is ∙ ap (λ (q : List (List ℕ)). Some q) same

row_some : (o : Option Row) (r : Row) → o ≡ Some r → IsSome o
row_some None r e = absurd (cc e)
row_some (Some q) r e = refl

-- the path of a row that a cube has
row_of_path : (o : Option Row) (p : List (List ℕ)) → path_of o ≡ Some p → (r : Row) × (o ≡ Some r) × (r.path ≡ p)
row_of_path None p e = absurd (cc e)
row_of_path (Some r) p e = (r, refl, cc e)

none_not_some : (c : Option Cube) → c ≡ None → IsSome c → ⊥
none_not_some None is live = absurd (cc live)
none_not_some (Some c) is live = absurd (cc is)

-- the slot of a cube is one of the image's
pub slot_of_cube : (v : VolumeView) (s : DiskState) (w : World) → StandsFor v s w → (y : ℕ) → IsSome (w.cube y) → y < v.system.names.slots
slot_of_cube v s w stands y live = ⊎_elim (λ less. less)
    (λ beyond. absurd (none_not_some (w.cube y) (no_cube s.now (tables_of v.system) w y stands.tables.now.has stands.shows beyond) live))
    (cases_lt y v.system.names.slots)

module _ (v : VolumeView) (s : DiskState) (w : World) (stands : StandsFor v s w) (p : List (List ℕ)) (n : ℕ) where
  free_count : world.free_groups w ≡ length (free_groups (tables_of v.system))
  free_count = free_shown s.now (tables_of v.system) stands.tables.now.has w stands.shows

  no_path : ¬ HasPath (tables_of v.system) p → slot_with_path w p ≡ None
  no_path never = slot_none v s w stands p (λ x at. let found = row_of_path ((tables_of v.system).row x) p at in never (x, found.0, found.1, found.2))

  a_path : HasPath (tables_of v.system) p → is_some (slot_with_path w p) ≡ true
  a_path has =
      let low = row_low s.now (tables_of v.system) has.0 stands.tables.now.has (row_some ((tables_of v.system).row has.0) has.1 has.2) in
      ap (λ (o : Option ℕ). is_some o) (slot_found v s w stands p has.0 low (path_row ((tables_of v.system).row has.0) has.1 p has.2 has.3))

  free_at : (x : ℕ) → IsFreeSlot (tables_of v.system) x → free_slot w ≡ Some x
  unfolding free_slot
  free_at x is = find_least (λ y. not (is_some (w.cube y))) 0 w.slots x (omega arith) (let low = is.low in omega (arith, low, stands.shows.slots))
      (ap (λ (c : Option Cube). not (is_some c))
      (is_none_by ((tables_of v.system).row x) (w.cube x) (length (groups_of (tables_of v.system) x)) (stands.shows.entries x) is.free))
      (λ k less. is_some_by ((tables_of v.system).row k) (w.cube k) (length (groups_of (tables_of v.system) k)) (stands.shows.entries k) (is.least k less))

  free_none : NoneFree (tables_of v.system) → free_slot w ≡ None
  unfolding free_slot
  free_none all = find_never (λ y. not (is_some (w.cube y))) 0 w.slots
      (λ k less. is_some_by ((tables_of v.system).row k) (w.cube k) (length (groups_of (tables_of v.system) k)) (stands.shows.entries k)
      (all k (omega (arith, less, stands.shows.slots))))

  fresh_aim : ¬ HasPath (tables_of v.system) p → aim w (Asks (Create p n)) ≡ to_free w p n (free_slot w)
  fresh_aim never = ap (λ (o : Option ℕ). refuse_if (is_some o) why.Exists (to_free w p n (free_slot w))) (no_path never)

  none_free : free_slot w ≡ None → NoneFree (tables_of v.system)
  unfolding free_slot
  none_free none x less row =
      let cube = is_none_by ((tables_of v.system).row x) (w.cube x) (length (groups_of (tables_of v.system) x)) (stands.shows.entries x) row in
      absurd (cc (find_fails (λ y. not (is_some (w.cube y))) 0 w.slots none x (omega arith) (omega (arith, less, stands.shows.slots)), cube))

  -- a slot is free, where not every one has a cube
  free_some : ¬ NoneFree (tables_of v.system) → (x : ℕ) × (free_slot w ≡ Some x)
  free_some some = by (free_slot w) refl
    where
      by : (o : Option ℕ) → free_slot w ≡ o → (x : ℕ) × (free_slot w ≡ Some x)
      by (Some x) is = (x, is)
      by None is = absurd (some (none_free is))

  -- why there is no new cube
  pub refused_aim : (r : Refusal) (y : why.Why) → RefusesCreate (tables_of v.system) p n r → refused_of r ≡ Because y → aim w (Asks (Create p n)) ≡ Refuse y
  refused_aim code.Exists y is same = ap (λ b. refuse_if b why.Exists (to_free w p n (free_slot w))) (a_path is) ∙ ap (λ z. Refuse z) (cc same)
  refused_aim code.NoSlot y is same = fresh_aim is.0 ∙ ap (λ (o : Option ℕ). to_free w p n o) (free_none is.1) ∙ ap (λ z. Refuse z) (cc same)
  refused_aim code.CubeFull y is same =
      let x = free_some is.1 in
      fresh_aim is.0 ∙ ap (λ (o : Option ℕ). to_free w p n o) x.1
      ∙ cannot_aim (tables_of v.system) w 0 n free_count (At x.0 (order.Create p n)) code.CubeFull y is.2 same
  refused_aim code.NoGroups y is same =
      let x = free_some is.1 in
      fresh_aim is.0 ∙ ap (λ (o : Option ℕ). to_free w p n o) x.1
      ∙ cannot_aim (tables_of v.system) w 0 n free_count (At x.0 (order.Create p n)) code.NoGroups y is.2 same
  refused_aim r y is same = absurd is.2

  -- a line that is refused
  pub answers_refused : (line : Line) (y : why.Why) → aim w line ≡ Refuse y → Answers v v s s line w (Err (Because y))
  answers_refused line y is = record {
    then = w;
    step = subst (λ (z : Aim). Goes w z (Err (Because y)) w) (sym is) (refl, refl);
    stands = stands;
    found = subst (λ (z : Aim). LineFound (tables_of v.system) s.now z (Err (Because y)) w w) (sym is) tt;
    lots = λ x broken still. refl;
  }

  module _ (lot : LotView) (plan : PlansCreate (tables_of v.system) p n lot) where
    pub makes_aim : aim w (Asks (Create p n)) ≡ At lot.slot (order.Create p n)
    makes_aim =
        fresh_aim plan.fresh ∙ ap (λ (o : Option ℕ). to_free w p n o) (free_at lot.slot plan.slot)
        ∙ can_aim (tables_of v.system) w 0 n free_count (At lot.slot (order.Create p n)) plan.can

    plan_is : IsPlanned (tables_of v.system) lot
    plan_is = free_is (tables_of v.system) n lot plan.slot.low plan.base plan.groups

    pub slot_free : w.cube lot.slot ≡ None
    slot_free =
        is_none_by ((tables_of v.system).row lot.slot) (w.cube lot.slot) (length (groups_of (tables_of v.system) lot.slot))
        (stands.shows.entries lot.slot) plan.slot.free

    -- the planned lot, as the frame has it
    lot_planned : (k : ℕ) → extent lot k → extent (planned_lot (tables_of v.system) lot.slot n) k
    lot_planned k own = subst (λ (gs : List ℕ). extent (record { slot = lot.slot; base = 32 + 256 * v.system.names.slots; groups = gs }) k) groups
        (subst (λ (b : ℕ). extent (record { slot = lot.slot; base = b; groups = lot.groups }) k) plan.base own)
      where
        groups : lot.groups ≡ groups_of (tables_of v.system) lot.slot ++ take n (free_groups (tables_of v.system))
        groups =
            plan.groups ∙ ap (λ (gs : List ℕ). gs ++ take n (free_groups (tables_of v.system)))
            (sym (none_has s.now (tables_of v.system) stands.tables.now.has lot.slot plan.slot.free))

    pub create_may : OrderMayWrite (tables_of v.system) lot.slot (order.Create p n) (extent lot)
    create_may = record {
      done = λ k here. ⊎_elim (λ low. inl low) (λ own. inr (lot_planned k own)) here;
      faulty = λ k here. ⊎_elim (λ low. inl low) (λ own. inr (lot_planned k own)) here;
    }

    -- no cube has a block of the planned lot
    pub create_spare : IsSpare v w (extent lot)
    create_spare = record {
      high = λ k own. planned_high (tables_of v.system) lot k plan_is.of_image own;
      lots = λ y live k there here. planned_apart (tables_of v.system) lot y k plan_is (slot_of_cube v s w stands y live)
          (λ same. none_not_some (w.cube y) (ap (λ (q : ℕ). w.cube q) same ∙ slot_free) live) there here;
    }

    pub own_create : (r : reply.Response) (d : Option Cube) → Own None (order.Create p n) r d → Own (w.cube lot.slot) (order.Create p n) r d
    own_create r d own = subst (λ (c : Option Cube). Own c (order.Create p n) r d) (sym slot_free) own

    own_stays : (r : reply.Response) → Own None (order.Create p n) r None → Own (w.cube lot.slot) (order.Create p n) r (w.cube lot.slot)
    own_stays r own = subst (λ (c : Option Cube). Own c (order.Create p n) r c) (sym slot_free) own

    -- a fault, and want of memory, leave the slot free
    pub create_fault : Own (w.cube lot.slot) (order.Create p n) (Err reply.Fault) (w.cube lot.slot)
    create_fault = own_stays (Err reply.Fault) (inr (inl (refl, refl, refl)))

    pub create_memory : Answers v v s s (Asks (Create p n)) w (Err reply.Memory)
    create_memory = record {
      then = with_slot w lot.slot (w.cube lot.slot);
      step =
          subst (λ (z : Aim). Goes w z (Err reply.Memory) (with_slot w lot.slot (w.cube lot.slot))) (sym makes_aim)
          (w.cube lot.slot, own_stays (Err reply.Memory) (inr (inr (refl, refl, refl))), refl);
      stands = put_again v s w lot.slot stands;
      found = subst (λ (z : Aim). LineFound (tables_of v.system) s.now z (Err reply.Memory) w (with_slot w lot.slot (w.cube lot.slot))) (sym makes_aim) tt;
      lots = λ x broken still. refl;
    }

    count_is : length lot.groups ≡ n
    count_is = ap (λ (gs : List ℕ). length gs) plan.groups ∙ length-take-le n (free_groups (tables_of v.system)) plan.can.enough

    -- the lot as one with its groups
    pub made_lot : lot ≡ lot_with (tables_of v.system) lot.slot lot.groups
    made_lot = ap (λ (b : ℕ). record { slot = lot.slot; base = b; groups = lot.groups }) plan.base

    -- a cube that was made in the lot carries its record
    pub made_carries : (b : DiskState) (e : CubeView) → e.lot ≡ lot → e.stopped ≡ false → Holds form_one Plain (fresh (Dir Nil) 0) e b
        → Carries (Open e) lot b (Some (new_cube p n))
    made_carries b e same live holds = record {
      lot_is = same;
      record_is = record {
        groups = sym (ap (λ (l : LotView). length l.groups) same ∙ count_is);
        state = ap open_state (sym live);
        history = fresh (Dir Nil) 0;
        sound = refl;
        holds = holds;
      };
    }

    -- a new cube is made
    pub makes : (b t : DiskState) (e : CubeView) → Kept (extent lot) b t → Carries (Open e) lot b (Some (new_cube p n))
        → Becomes v lot.slot (Some (record { path = p; offline = false })) lot.groups (Open e) ⊤ (Asks (Create p n)) (order.Create p n) b t w
    makes b t e kept carries = record {
      aims = makes_aim;
      then = Some (new_cube p n);
      says = own_create (Ok reply.Plain) (Some (new_cube p n)) (inl (Yes reply.Plain (Some (new_cube p n)), refl, (refl, refl)));
      faulty = create_fault;
      shows = ap (λ (k : ℕ). Some (record { path = p; groups = k; offline = false })) count_is;
      each = subst (λ (l : LotView). EachHas l b (Some (new_cube p n))) made_lot (carries_has (Open e) lot b (Some (new_cube p n)) carries);
      carries =
          λ done. subst (λ (l : LotView). Carries (Open e) l t (Some (new_cube p n))) made_lot
          (carries_where (Open e) lot b t (Some (new_cube p n)) (λ live. kept) carries);
      same = λ broken still. absurd still;
    }
