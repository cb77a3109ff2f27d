-- The lines that make a cube and give one further groups, from what the calls that they make promise.
use Rattle.std.proofs.Common.{◌≡◌, ◌∙◌, ◌<◌, ◌≤◌, ℕ, true, false, List, length, Option, Some, Result, Ok, Err, OnOk, OnErr, refl, sym, ap, subst, arith}
use Rattle.std.specs.Prelude.{⊤, IsSome, is_some}
use Rattle.std.proofs.lemmas.List.{length-take-le}
use Rattle.ice_base.specs.Disk.{Image, DiskState, Everywhere, Rose}
use Rattle.ice_base.specs.Frames.{Kept, Settled, Within}
use Rattle.ice_base.specs.FrameLaws.{within_more}
use Rattle.ice_base.specs.Lots.{LotView, IsLot, extent, is_sited}
use Rattle.ice_base.proofs.Kept.{kept_within}
use Rattle.tree_spec.specs.Costs.{form_one}
use Rattle.tree_spec.specs.Held.{RoomContent}
use Rattle.tree_spec.specs.Lines.{Line, Asks, Create, Grow}
use Rattle.tree_spec.specs.Own as order
use Rattle.tree_spec.specs.Records.{Plain, fresh}
use Rattle.tree_spec.specs.Replies.{Because, Refused, refused_of}
use Rattle.tree_spec.specs.Trees.{Dir, Nil}
use Rattle.tree_spec.specs.Why as why
use Rattle.tree_spec.specs.World.{World, Refuse, aim, to_grow}
use Rattle.tree_spec.specs.declared.reply.Refusal.{Refusal}
use Rattle.tree_spec.specs.declared.reply.Refusal.TheVariants as code
use Rattle.ice_tables.specs.Tables.{Tables, Row}
use Rattle.ice_tables.specs.Lots.{groups_of, lot_of, total}
use Rattle.ice_names.specs.Names.{NoneHas, path_at, row_at}
use Rattle.ice_cube.specs.Cubes.{CubeView, Holds}
use Rattle.ice_cube.specs.Fresh.{HasFreshGroups, IsHeadFrom}
use Rattle.ice_cube.specs.Wider.{HasNewGroups, IsNewBlock}
use Rattle.ice_system.specs.Changes.{Changes, SlotBecomes}
use Rattle.ice_system.specs.Plans.{PlansCreate, PlansGrow, RefusesCreate, RefusesGroups, free_groups}
use Rattle.ice_system.specs.Says.{IsChange}
use Rattle.ice_system.specs.Systems.{tables_of}
use Rattle.ice_system.specs.declared.fault.SystemFault.{SystemFault}
use Rattle.ice_volume.specs.Cells.{IsSession, cell_at}
use Rattle.ice_volume.specs.Volumes.{StandsFor, VolumeView}
use Rattle.ice_volume.specs.Lines.{AnswersLine, Answers, fault_in}
use Rattle.ice_volume.specs.Told.{CellBecomes, IsWidened, told_of}
use Rattle.ice_volume.specs.declared.cell.Cell.{Cell}
use Rattle.ice_volume.specs.declared.cell.Cell.TheVariants.{Open}
use Rattle.ice_volume.proofs.Lookups.{slot_none}
use Rattle.ice_volume.proofs.Changing.{IsEarly, carries_where, changed, early_stands, faulted, lot_here, unchanged}
use Rattle.ice_volume.proofs.Making.{answers_refused, create_because, create_fault, create_finds, create_may, create_memory, create_spare, groups_because, made_carries, makes, makes_aim, refused_aim}
use Rattle.ice_volume.proofs.Growing.{WiderHas, grow_fault, grow_finds, grow_may, grow_refused, grow_spare, grows, head_new, new_groups_kept, plan_lot, plan_more, plan_wider, widened_session}
use Rattle.ice_volume.proofs.Planned.{IsPlanned, free_is, planned_below, planned_high, planned_is, planned_sited}
use Rattle.ice_volume.proofs.TableLines.{always, lot_kept}

-- ---- refusals

-- the reply of a refusal that has a cause is no fault
no_fault : (r : Refusal) (y : why.Why) → refused_of r ≡ Because y → fault_in (Err (refused_of r)) ≡ 0
no_fault r y is = subst (λ (q : Refused). fault_in (Err q) ≡ 0) (sym is) refl

module _ {D X : Type 0} (state : D → DiskState) (left : D → ℕ → Image → List ℕ → Type 0) (v : VolumeView) (p : List (List ℕ)) (n : ℕ)
    (room : RoomContent) (a : D) where
  refused_line : (line : Line) (r : Refusal) (y : why.Why) → refused_of r ≡ Because y
      → ((w : World) → StandsFor v (state a) w → aim w line ≡ Refuse y) → AnswersLine {X = X} state left line v v room (Ok (Err r)) a a
  refused_line line r y same aims = unchanged state left line v room (Err r) a (no_fault r y same) tt
      (λ w stands. subst (λ (q : Refused). Answers v v (state a) (state a) line w (Err q)) (sym same)
      (answers_refused v (state a) w stands p n line y (aims w stands)))

  -- a planned cube is refused
  pub create_refused : (r : Refusal) → RefusesCreate (tables_of v.system) p n r → AnswersLine {X = X} state left (Asks (Create p n)) v v room (Ok (Err r)) a a
  create_refused r is =
      let y = create_because (tables_of v.system) p n r is in
      refused_line (Asks (Create p n)) r y.0 y.1 (λ w stands. refused_aim v (state a) w stands p n r y.0 is y.1)

  -- no cube has the path
  pub grow_none : NoneHas v.system.names p → AnswersLine {X = X} state left (Asks (Grow p n)) v v room (Ok (Err code.NoCube)) a a
  grow_none none =
      refused_line (Asks (Grow p n)) code.NoCube why.NoCube refl (λ w stands. ap (λ (o : Option ℕ). to_grow w n o) (slot_none v (state a) w stands p none))

  -- further groups are refused
  pub grow_refuses : (x : ℕ) → x < v.system.names.slots → path_at v.system.names x ≡ Some p → (r : Refusal)
      → RefusesGroups (tables_of v.system) (length (groups_of (tables_of v.system) x)) n r
      → AnswersLine {X = X} state left (Asks (Grow p n)) v v room (Ok (Err r)) a a
  grow_refuses x less at r is =
      let y = groups_because (tables_of v.system) (length (groups_of (tables_of v.system) x)) n r is in
      refused_line (Asks (Grow p n)) r y.0 y.1 (λ w stands. grow_refused v (state a) w stands p n x less at r y.0 is y.1)

-- ---- a new cube

-- the planned lot of a new cube
pub create_planned : (t : Tables) (p : List (List ℕ)) (n : ℕ) (lot : LotView) → PlansCreate t p n lot → IsPlanned t lot
create_planned t p n lot plan = free_is t n lot plan.slot.low plan.base plan.groups

-- is sited in the image
pub create_sited : (t : Tables) (p : List (List ℕ)) (n : ℕ) (lot : LotView) (size : ℕ) → PlansCreate t p n lot → 1 ≤ n → total t ≤ size
    → is_sited lot size ≡ true
create_sited t p n lot size plan some room =
    let count : length lot.groups ≡ n = ap (λ (gs : List ℕ). length gs) plan.groups ∙ length-take-le n (free_groups t) plan.can.enough in
    let few = plan.can.few in
    planned_sited t lot size (create_planned t p n lot plan).of_image room (omega (arith, some, count)) (omega (arith, few, count))

module _ {D : Type 0} (state : D → DiskState) (left : D → ℕ → Image → List ℕ → Type 0) (v : VolumeView) (p : List (List ℕ)) (n : ℕ)
    (room : RoomContent) (lot : LotView) (plan : PlansCreate (tables_of v.system) p n lot) where
  create_early : IsEarly v (extent lot)
  create_early = record {
    high = λ k own. planned_high (tables_of v.system) lot k (create_planned (tables_of v.system) p n lot plan).of_image own;
    below = λ k own. planned_below (tables_of v.system) lot k (create_planned (tables_of v.system) p n lot plan).of_image own;
  }

  -- there was no memory
  pub create_lacks : {X : Type 0} (a b : D) → b ≡ a → AnswersLine {X = X} state left (Asks (Create p n)) v v room (Ok (Err code.Memory)) a b
  create_lacks {X} a b same = subst (λ (d : D). AnswersLine {X = X} state left (Asks (Create p n)) v v room (Ok (Err code.Memory)) a d) (sym same)
      (unchanged state left (Asks (Create p n)) v room (Err code.Memory) a refl tt (λ w stands. create_memory v (state a) w stands p n lot plan))

  -- the lot could not be made
  pub create_faulted : {X : Type 0} (a b : D) → Within state left (extent lot) a b → Rose (state a).faults (state b).faults
      → AnswersLine {X = X} state left (Asks (Create p n)) v v room (Ok (Err code.Fault)) a b
  create_faulted a b made rose = faulted state left lot.slot (Asks (Create p n)) (order.Create p n) (create_finds p n) v room (extent lot) a b made create_early
      (λ w stands. create_may v (state a) w stands p n lot plan) (λ w stands. create_spare v (state a) w stands p n lot plan)
      (λ w stands. (makes_aim v (state a) w stands p n lot plan, create_fault v (state a) w stands p n lot plan)) rose

  create_kept : (b c : D) → Within state left IsChange b c → Kept (extent lot) (state b) (state c)
  create_kept b c within =
      kept_within state left (extent lot) IsChange b c (λ k own low. let high = create_early.high k own in omega (arith, high, low.1)) within

  -- the lot was made, and the tables were to name it
  pub create_answers : {A : Type 0} (z : VolumeView) (a b c : D) (e : CubeView) → e.lot ≡ lot → e.stopped ≡ false
      → ((state a).tells ≡ true → Holds form_one Plain (fresh (Dir Nil) 0) e (state b))
      → Within state left (extent lot) a b → (r : Result A SystemFault)
      → Changes state left lot.slot (Some (record { path = p; offline = false })) lot.groups v.system z.system r b c
      → OnOk r (CellBecomes lot.slot (Open e) v.cells z.cells) → OnErr r (z.cells ≡ v.cells)
      → AnswersLine state left (Asks (Create p n)) v z room (told_of r) a c
  create_answers z a b c e same live holds made r ch cells others =
      changed state left lot.slot (Some (record { path = p; offline = false })) lot.groups (Open e) ⊤ (Asks (Create p n))
      (order.Create p n) tt (create_finds p n) room v z (extent lot) a b c made
      (λ w stands. makes v (state a) w stands p n lot plan (state b) (state c) e (create_kept b c ch.within)
      (made_carries v (state a) w stands p n lot plan (state b) e same live (holds stands.tables.settled.told)))
      (λ w stands. create_spare v (state a) w stands p n lot plan) create_early
      (λ w stands. create_may v (state a) w stands p n lot plan) r ch cells others (always r)

-- ---- further groups

-- the planned lot of a cube with further groups is sited in the image
pub grow_sited : (t : Tables) (x n : ℕ) (lot : LotView) (size : ℕ) → x < t.slots → PlansGrow t x n lot → 1 ≤ n → total t ≤ size → is_sited lot size ≡ true
grow_sited t x n lot size less plan some room =
    let count = plan_more t x n lot plan in
    let few = plan.can.few in
    planned_sited t lot size (planned_is t x n lot less plan.slot plan.base plan.groups).of_image room (omega (arith, some, count)) (omega (arith, few, count))

-- the writes of further groups are those of new blocks
pub grow_within : {D : Type 0} (state : D → DiskState) (left : D → ℕ → Image → List ℕ → Type 0) (t : Tables) (x n : ℕ) (lot : LotView) (first : ℕ) (a b : D)
    → IsLot lot → PlansGrow t x n lot → first ≡ length (groups_of t x)
    → Within state left (IsHeadFrom lot first) a b → Within state left (IsNewBlock (lot_of t x) lot) a b
grow_within state left t x n lot first a b is plan same within = within_more state left (IsHeadFrom lot first) (IsNewBlock (lot_of t x) lot) a b
    (λ k here. head_new (lot_of t x) lot (plan_wider t x n lot is plan) k (subst (λ (q : ℕ). IsHeadFrom lot q k) same here)) within

-- what the writes of further groups leave
pub grow_new : (old lot : LotView) (first : ℕ) (s : DiskState) → first ≡ length old.groups → Settled Everywhere s
    → HasFreshGroups lot first s.now → HasNewGroups old lot s
grow_new old lot first s same settled new = record {
  settled = record { told = settled.told; settled = λ k here. settled.settled k tt };
  fresh = subst (λ (k : ℕ). HasFreshGroups lot k s.now) same new;
}

module _ {D : Type 0} (state : D → DiskState) (left : D → ℕ → Image → List ℕ → Type 0) (v : VolumeView) (p : List (List ℕ)) (n : ℕ)
    (room : RoomContent) (x : ℕ) (less : x < v.system.names.slots)
    (at : path_at v.system.names x ≡ Some p) (lot : LotView) (is : IsLot lot) (plan : PlansGrow (tables_of v.system) x n lot) where
  grow_early : IsEarly v (IsNewBlock (lot_of (tables_of v.system) x) lot)
  grow_early =
      let planned = planned_is (tables_of v.system) x n lot less plan.slot plan.base plan.groups in record {
        high = λ k own. planned_high (tables_of v.system) lot k planned.of_image own.0;
        below = λ k own. planned_below (tables_of v.system) lot k planned.of_image own.0;
      }

  -- the further groups could not be made
  pub grow_faulted : {X : Type 0} (a b : D) → Within state left (IsNewBlock (lot_of (tables_of v.system) x) lot) a b
      → Rose (state a).faults (state b).faults → AnswersLine {X = X} state left (Asks (Grow p n)) v v room (Ok (Err code.Fault)) a b
  grow_faulted a b early rose =
      faulted state left x (Asks (Grow p n)) (order.Grow n) (grow_finds n) v room (IsNewBlock (lot_of (tables_of v.system) x) lot) a b early grow_early
      (λ w stands. grow_may (tables_of v.system) x n lot plan) (λ w stands. grow_spare v (state a) w stands p n x less at lot plan)
      (λ w stands. grow_fault v (state a) w stands p n x less at lot plan) rose

  wide_kept : (b c : D) → Within state left IsChange b c → Kept (extent lot) (state b) (state c)
  wide_kept b c within = kept_within state left (extent lot) IsChange b c
      (λ k own low. let high = planned_high (tables_of v.system) lot k
      (planned_is (tables_of v.system) x n lot less plan.slot plan.base plan.groups).of_image own in omega (arith, high, low.1)) within

  -- the further groups were made, and the tables were to name them
  pub grow_answers : {A : Type 0} (law : WiderHas) (z : VolumeView) (a b c : D) → Within state left (IsNewBlock (lot_of (tables_of v.system) x) lot) a b
      → ((state a).tells ≡ true → HasNewGroups (lot_of (tables_of v.system) x) lot (state b)) → (r : Result A SystemFault)
      → Changes state left x (row_at v.system.names x) lot.groups v.system z.system r b c → OnOk r (CellBecomes x (cell_at z.cells x) v.cells z.cells)
      → OnOk r (IsWidened lot (state c) (cell_at v.cells x) (cell_at z.cells x)) → OnErr r (z.cells ≡ v.cells)
      → AnswersLine state left (Asks (Grow p n)) v z room (told_of r) a c
  grow_answers law z a b c early new r ch cells widened others =
      changed state left x (row_at v.system.names x) lot.groups (cell_at z.cells x)
      (IsWidened lot (state c) (cell_at v.cells x) (cell_at z.cells x)) (Asks (Grow p n)) (order.Grow n) tt (grow_finds n) room v z
      (IsNewBlock (lot_of (tables_of v.system) x) lot) a b c early
      (λ w stands.
      let mid = early_stands state left v w (IsNewBlock (lot_of (tables_of v.system) x) lot) a b stands
      (grow_spare v (state a) w stands p n x less at lot plan) early in
      let has = new stands.tables.settled.told in
      grows v (state a) w stands p n x less at lot plan law is (state b) (state c) (cell_at z.cells x) mid has
      (carries_where (cell_at v.cells x) (lot_of (tables_of v.system) x) (state b) (state c) (w.cube x)
      (λ live. lot_kept state left (tables_of v.system) x b c ch.within) (mid.cubes x))
      (new_groups_kept (lot_of (tables_of v.system) x) lot (state b) (state c) (wide_kept b c ch.within) has))
      (λ w stands. grow_spare v (state a) w stands p n x less at lot plan) grow_early
      (λ w stands. grow_may (tables_of v.system) x n lot plan) r ch cells others widened

-- ---- sessions

-- the cell of a new cube is a session of its slot
pub create_session : (t u : Tables) (p : List (List ℕ)) (n : ℕ) (lot : LotView) (row : Row) (e : CubeView) → PlansCreate t p n lot → e.lot ≡ lot
    → SlotBecomes lot.slot (Some row) lot.groups t u → IsSession u lot.slot (Open e)
create_session t u p n lot row e plan same becomes = (
  same ∙ ap (λ (b : ℕ). record { slot = lot.slot; base = b; groups = lot.groups }) plan.base ∙ sym (lot_here t u lot.slot (Some row) lot.groups becomes),
  ap (λ (o : Option Row). is_some o) becomes.row_here,
)

-- and the widened cell of a cube with further groups
pub grow_session : (t u : Tables) (x n : ℕ) (lot : LotView) (row : Option Row) (s : DiskState) (cell after : Cell) → PlansGrow t x n lot
    → IsSome row → IsWidened lot s cell after
    → SlotBecomes x row lot.groups t u → IsSession u x after
grow_session t u x n lot row s cell after plan live widened becomes =
    widened_session u x lot s cell after (plan_lot t x n lot plan ∙ sym (lot_here t u x row lot.groups becomes))
    (subst (λ (o : Option Row). IsSome o) (sym becomes.row_here) live) widened

-- where the change came to its end
pub grow_session_on : {A : Type 0} (r : Result A SystemFault) (t u : Tables) (x n : ℕ) (lot : LotView) (row : Option Row) (s : DiskState) (cell after : Cell)
    → PlansGrow t x n lot → IsSome row → OnOk r (IsWidened lot s cell after)
    → OnOk r (SlotBecomes x row lot.groups t u → IsSession u x after)
grow_session_on (Ok y) t u x n lot row s cell after plan live widened = λ becomes. grow_session t u x n lot row s cell after plan live widened becomes
grow_session_on (Err e) t u x n lot row s cell after plan live widened = tt
