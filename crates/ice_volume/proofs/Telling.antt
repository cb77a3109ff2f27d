-- What a cube answers to an order, and its record after it.
use Rattle.std.proofs.Common.{◌≡◌, ◌∙◌, inl, inr, ◌≤◌, ℕ, Bool, true, false, List, length, Option, Some, Result, Ok, Err, OnOk, OnErr, IfOk, refl, sym, ap, subst, arith}
use Rattle.std.specs.Prelude.{⊤, IfErr, IsErrOf}
use Rattle.ice_base.specs.Disk.{Image, DiskState, Nowhere, Rose, RoseBy, Caused}
use Rattle.ice_base.specs.Frames.{CrashStep, Within, LeavesOnly, With, Every}
use Rattle.ice_base.specs.FrameLaws.{within_refl}
use Rattle.ice_base.specs.Lots.{LotView, extent}
use Rattle.tree_spec.specs.Costs.{Form}
use Rattle.tree_spec.specs.Held.{RoomContent}
use Rattle.tree_spec.specs.Why as why
use Rattle.tree_spec.specs.Why.{Why}
use Rattle.tree_spec.specs.Own as order
use Rattle.tree_spec.specs.Own.{Order, Own, Verdict, No, Yes, Plainly, IfMounted, OfSound, on_sync, on_tree}
use Rattle.tree_spec.specs.Records.{Cube, Content, Sound, History, Mode, done, settled, is_mounted, is_offline, with_history, with_state}
use Rattle.tree_spec.specs.Replies.{Response, Because, Tallies, meant, refused_of}
use Rattle.tree_spec.specs.Replies as reply
use Rattle.tree_spec.specs.declared.reply.Refusal.{Refusal}
use Rattle.tree_spec.specs.declared.reply.Refusal.TheVariants as code
use Rattle.tree_spec.specs.declared.reply.StateWord.{StateWord}
use Rattle.tree_spec.specs.declared.reply.StateWord.TheVariants as word
use Rattle.tree_spec.specs.declared.reply.Value.{Value}
use Rattle.ice_images.specs.Fitting.{Has, HasContent, cube_entry}
use Rattle.ice_images.specs.Opening.{closed_state}
use Rattle.ice_cube.specs.Commands.{HoldsRecord, open_state}
use Rattle.ice_cube.specs.Cubes.{CubeView, HasHistory, Holds}
use Rattle.ice_volume.specs.Cells.{EachHas, IsKnown, Rests}
use Rattle.ice_volume.specs.Lines.{IsBrokenContent, OrderFound, fault_in}
use Rattle.ice_volume.specs.Orders.{AnswersOrder, Becomes, IsCellOf, IsRecord, WritesIn, closed_refusal, told_number, cell_without}
use Rattle.ice_volume.specs.declared.cell.Cell.{Cell}
use Rattle.ice_volume.specs.declared.cell.Cell.TheVariants.{Closed, Stopped, Open}

-- ---- faults

-- what a reply counts of faults, where a fault has its cause
pub faults_said : (r : Result Value Refusal) (room : RoomContent) (m n : ℕ) → m ≤ n → (IsErrOf r code.Fault → Rose m n) → RoseBy (fault_in (meant r room)) m n
faults_said (Ok x) room m n le cause = omega (arith, le)
faults_said (Err code.NameLong) room m n le cause = omega (arith, le)
faults_said (Err code.TooDeep) room m n le cause = omega (arith, le)
faults_said (Err code.NotFound) room m n le cause = omega (arith, le)
faults_said (Err code.NotDir) room m n le cause = omega (arith, le)
faults_said (Err code.IsDir) room m n le cause = omega (arith, le)
faults_said (Err code.IsRoot) room m n le cause = omega (arith, le)
faults_said (Err code.Exists) room m n le cause = omega (arith, le)
faults_said (Err code.NotEmpty) room m n le cause = omega (arith, le)
faults_said (Err code.IntoItself) room m n le cause = omega (arith, le)
faults_said (Err code.BeyondEnd) room m n le cause = omega (arith, le)
faults_said (Err code.FileBig) room m n le cause = omega (arith, le)
faults_said (Err code.NoNodes) room m n le cause = omega (arith, le)
faults_said (Err code.NoSpace) room m n le cause = omega (arith, le)
faults_said (Err code.Spent) room m n le cause = omega (arith, le)
faults_said (Err (code.Damaged x)) room m n le cause = omega (arith, le)
faults_said (Err code.Fault) room m n le cause = cause refl
faults_said (Err code.Memory) room m n le cause = omega (arith, le)
faults_said (Err code.Word) room m n le cause = omega (arith, le)
faults_said (Err code.Args) room m n le cause = omega (arith, le)
faults_said (Err code.Number) room m n le cause = omega (arith, le)
faults_said (Err code.Hex) room m n le cause = omega (arith, le)
faults_said (Err code.Long) room m n le cause = omega (arith, le)
faults_said (Err code.Path) room m n le cause = omega (arith, le)
faults_said (Err code.NoCube) room m n le cause = omega (arith, le)
faults_said (Err code.CrossCube) room m n le cause = omega (arith, le)
faults_said (Err code.Offline) room m n le cause = omega (arith, le)
faults_said (Err code.Stopped) room m n le cause = omega (arith, le)
faults_said (Err code.Unmounted) room m n le cause = omega (arith, le)
faults_said (Err code.Mounted) room m n le cause = omega (arith, le)
faults_said (Err code.State) room m n le cause = omega (arith, le)
faults_said (Err code.NoSlot) room m n le cause = omega (arith, le)
faults_said (Err code.CubeFull) room m n le cause = omega (arith, le)
faults_said (Err code.NoGroups) room m n le cause = omega (arith, le)

-- ---- refusals without a call

-- a refusal that leaves the cell and the disk
pub refused_order : {D : Type 0} (state : D → DiskState) (left : D → ℕ → Image → List ℕ
    → Type 0) (lot : LotView) (o : Order) (offline : Bool) (cell : Cell) (room : RoomContent) (r : Refusal) (y : Why) (a : D)
    → refused_of r ≡ Because y → IsCellOf lot cell
    → ((c : Cube) → IsRecord lot offline cell (state a) c → Plainly (Some c) o (No y) × OrderFound lot (state a).now o (Err (Because y)) (Some c) (Some c))
    → AnswersOrder state left lot o offline cell cell room (Err r) a a
refused_order state left lot o offline cell room r y a is at refuses = record {
  cell = at;
  within = within_refl state left (extent lot) a;
  faults = subst (λ (x : reply.Refused). RoseBy (fault_in (Err x)) (state a).faults (state a).faults) (sym is) (omega arith);
  tallies = tt;
  each = λ c rec. subst (λ (x : reply.Refused). Becomes state left lot o cell a a c (Err x)) (sym is) (record {
    then = c;
    own = inl (No y, (refuses c rec).0, (refl, refl));
    carries = rec.carries;
    entry = refl;
    found = (refuses c rec).1;
    leaves = record { each = λ m i out l. inl l };
    frame = within_refl state left (WritesIn lot o (Err (Because y))) a;
    spares = λ broken. within_refl state left Nowhere a;
  });
}

-- why a cube that no session has mounted refuses
closed_why : Bool → Why
closed_why true = why.Offline
closed_why false = why.Unmounted

closed_because : (offline : Bool) → refused_of (closed_refusal offline) ≡ Because (closed_why offline)
unfolding closed_why
closed_because true = refl
closed_because false = refl

closed_refuses : (offline : Bool) (P : Verdict → Type 0) → IfMounted (closed_state offline) P (No (closed_why offline))
unfolding closed_why
closed_refuses true P = refl
closed_refuses false P = refl

closed_is : (lot : LotView) (offline : Bool) (s : DiskState) (c : Cube) → IsRecord lot offline Closed s c → c.state ≡ closed_state offline
closed_is lot offline s c rec = rec.carries.is ∙ ap closed_state rec.mark

-- an order to a mounted cube
abbrev pub IsInner : Order → Type 0
IsInner (order.OnTree op) = ⊤
IsInner order.Sync = ⊤
IsInner order.Unmount = ⊤
IsInner _ = ⊥

inner_refuses : (o : Order) → IsInner o → (c : Cube) (s : StateWord) (y : Why) → c.state ≡ s
    → ((P : Verdict → Type 0) → IfMounted s P (No y)) → Plainly (Some c) o (No y)
inner_refuses (order.OnTree op) is c s y at refuses =
    subst (λ (z : StateWord). IfMounted z (OfSound c.content (on_tree c op)) (No y)) (sym at) (refuses (OfSound c.content (on_tree c op)))
inner_refuses order.Sync is c s y at refuses =
    subst (λ (z : StateWord). IfMounted z (OfSound c.content (on_sync c word.Mounted)) (No y)) (sym at) (refuses (OfSound c.content (on_sync c word.Mounted)))
inner_refuses order.Unmount is c s y at refuses =
    subst (λ (z : StateWord). IfMounted z (OfSound c.content (on_sync c word.Unmounted)) (No y)) (sym at)
    (refuses (OfSound c.content (on_sync c word.Unmounted)))
inner_refuses order.Mount is c s y at refuses = absurd is
inner_refuses order.Check is c s y at refuses = absurd is
inner_refuses order.SetOffline is c s y at refuses = absurd is
inner_refuses order.SetOnline is c s y at refuses = absurd is
inner_refuses order.Delete is c s y at refuses = absurd is
inner_refuses (order.Grow n) is c s y at refuses = absurd is
inner_refuses (order.Create p n) is c s y at refuses = absurd is

inner_found : (lot : LotView) (i : Image) (o : Order) (r : Response) (c d : Option Cube) → IsInner o → OrderFound lot i o r c d
inner_found lot i (order.OnTree op) r c d is = tt
inner_found lot i order.Sync r c d is = tt
inner_found lot i order.Unmount r c d is = tt
inner_found lot i order.Mount r c d is = absurd is
inner_found lot i order.Check r c d is = absurd is
inner_found lot i order.SetOffline r c d is = absurd is
inner_found lot i order.SetOnline r c d is = absurd is
inner_found lot i order.Delete r c d is = absurd is
inner_found lot i (order.Grow n) r c d is = absurd is
inner_found lot i (order.Create p n) r c d is = absurd is

module _ {D : Type 0} (state : D → DiskState) (left : D → ℕ → Image → List ℕ → Type 0) (lot : LotView) (o : Order) (inner : IsInner o)
    (offline : Bool) (room : RoomContent) (a : D) where
  -- a cube that no session has mounted refuses
  pub closed_order : AnswersOrder state left lot o offline Closed Closed room (Err (closed_refusal offline)) a a
  closed_order = refused_order state left lot o offline Closed room (closed_refusal offline) (closed_why offline) a (closed_because offline) tt
      (λ c rec. (inner_refuses o inner c (closed_state offline) (closed_why offline) (closed_is lot offline (state a) c rec) (closed_refuses offline), inner_found lot (state a).now o (Err (Because (closed_why offline))) (Some c) (Some c) inner))

  -- so does one that a failed unmount gave up
  pub stopped_order : AnswersOrder state left lot o offline Stopped Stopped room (Err code.Stopped) a a
  stopped_order = refused_order state left lot o offline Stopped room code.Stopped why.Stopped a refl tt
      (λ c rec. (inner_refuses o inner c word.Stopped why.Stopped rec.carries.is (λ P. refl), inner_found lot (state a).now o (Err (Because why.Stopped)) (Some c) (Some c) inner))

-- ---- a cube that is open

-- its history, where it is open in this lot
pub record IsOpen (e : CubeView) (s : DiskState) (c : Cube) : Type 0 where
  pub record_is : HoldsRecord e s c
  pub history : History
  pub sound : c.content ≡ Sound history
  pub state : c.state ≡ open_state e.stopped
  pub holds : Holds c.form c.mode history e s

pub open_record : (e : CubeView) (offline : Bool) (s : DiskState) (c : Cube) → IsRecord e.lot offline (Open e) s c → IsOpen e s c
open_record e offline s c rec =
    let r = rec.carries.record_is in record { record_is = r; history = r.history; sound = r.sound; state = r.state; holds = r.holds }

-- a mounted cube has this verdict
mounted_plain : (c : Cube) (h : History) (P : History → Verdict) → c.state ≡ word.Mounted → c.content ≡ Sound h → IfMounted c.state (OfSound c.content P) (P h)
mounted_plain c h P state sound =
    subst (λ (z : StateWord). IfMounted z (OfSound c.content P) (P h)) (sym state) (subst (λ (x : Content). OfSound x P (P h)) (sym sound) refl)

-- a mounted cube that is unmounted or stopped has the same entry
entry_with_state : (c : Cube) (s : StateWord) → is_offline s ≡ false → c.state ≡ word.Mounted → cube_entry (with_state s c) ≡ cube_entry c
entry_with_state c s on state = ap (λ (b : Bool). record { path = c.path; groups = c.groups; offline = b }) (on ∙ sym (ap is_offline state))

-- a sound cube isn't broken
pub sound_unbroken : (x : Content) (h : History) → x ≡ Sound h → IsBrokenContent x → ⊥
sound_unbroken x h is broken = absurd (subst IsBrokenContent is broken)

-- what the lot has is the record's content
module _ {D : Type 0} (state : D → DiskState) (left : D → ℕ → Image → List ℕ → Type 0) (lot : LotView) (c : Cube) (h : History)
    (sound : c.content ≡ Sound h) (a b : D)
    (step : CrashStep state left (extent lot) (HasHistory lot c.form c.mode h) a b) where
  pub sound_leaves : LeavesOnly left a b (With (state a).streams.aside (λ i. Has lot i (Some c)))
  sound_leaves = subst (λ (x : Content). LeavesOnly left a b (With (state a).streams.aside (λ i. HasContent lot i c.form c.mode x))) (sym sound) step.leaves

  pub sound_each : EachHas lot (state b) (Some c)
  sound_each = subst (λ (x : Content). Every (extent lot) (state b) (λ i. HasContent lot i c.form c.mode x)) (sym sound) step.after

  pub sound_rests : (s : StateWord) → Rests lot (state b) s (with_state s c)
  sound_rests s = record { each = sound_each; known = subst (λ (x : Content). IsKnown lot (state b).now (with_state s c) x) (sym sound) tt; is = refl }

-- an error is the one that it is said to be
err_is : (x y : Refusal) → IsErrOf {T = ℕ} (Err x) y → x ≡ y
err_is x y is = cc is

-- ---- a sync

-- what a sync of a cube says
pub record Synced {D : Type 0} (state : D → DiskState) (left : D → ℕ → Image → List ℕ → Type 0) (e f : CubeView) (r : Result ℕ Refusal) (a b : D) : Type 0 where
  pub lot : f.lot ≡ e.lot
  pub answer : IfOk r (λ k. k ≡ e.done)
  pub stopped : e.stopped ≡ true → IsErrOf r code.Stopped
  pub untouched : e.stopped ≡ true → b ≡ a
  pub only : e.stopped ≡ false → IfErr r (λ x. x ≡ code.Fault)
  pub failed : Caused state code.Fault r a b
  pub goes_on : OnOk r (f.stopped ≡ false)
  pub stops : OnErr r (f.stopped ≡ true)
  pub within : Within state left (extent e.lot) a b
  pub crash : (g : Form) (mode : Mode) (h : History) → Holds g mode h e (state a) → CrashStep state left (extent e.lot) (HasHistory e.lot g mode h) a b
  pub settled : (g : Form) (mode : Mode) (h : History) → Holds g mode h e (state a) → OnOk r (Holds g mode (settled h) f (state b))
  pub kept : (g : Form) (mode : Mode) (h : History) → Holds g mode h e (state a) → OnErr r (Holds g mode h f (state b))

again : (x : Refusal) → IsErrOf {T = Value} (Err x) code.Fault → IsErrOf {T = ℕ} (Err x) code.Fault
again x is = let same : x ≡ code.Fault = cc is in ap (λ (y : Refusal). Err y) same

number_faults : (r : Result ℕ Refusal) (room : RoomContent) (m n : ℕ) → m ≤ n → (IsErrOf r code.Fault → Rose m n)
    → RoseBy (fault_in (meant (told_number r) room)) m n
number_faults (Ok k) room m n le cause = omega (arith, le)
number_faults (Err x) room m n le cause = faults_said (Err x) room m n le (λ is. cause (again x is))

number_tallies : (r : Result ℕ Refusal) (room : RoomContent) → Tallies (told_number r) room
number_tallies (Ok k) room = tt
number_tallies (Err x) room = tt

module _ {D : Type 0} (state : D → DiskState) (left : D → ℕ → Image → List ℕ → Type 0) (e f : CubeView) (a b : D) (offline : Bool) (room : RoomContent) where
  sync_each : (r : Result ℕ Refusal) (p : Bool) → e.stopped ≡ p → Synced state left e f r a b → (c : Cube) → IsOpen e (state a) c
      → Becomes state left e.lot order.Sync (Open f) a b c (meant (told_number r) room)
  sync_each (Ok k) true is s c at = absurd (cc (s.stopped is))
  sync_each (Ok k) false is s c at =
      let h = at.history in
      let mounted : c.state ≡ word.Mounted = at.state ∙ ap open_state is in
      let count : k ≡ done h = s.answer ∙ (at.holds.runs is).count in
      let step = s.crash c.form c.mode h at.holds in record {
        then = with_state word.Mounted (with_history (settled h) c);
        own = inl (on_sync c word.Mounted h, mounted_plain c h (on_sync c word.Mounted) mounted at.sound, (ap (λ (n : ℕ). Ok (reply.Number n)) count, refl));
        carries = record {
          lot_is = s.lot;
          record_is = record {
            groups = at.record_is.groups ∙ ap (λ (l : LotView). length l.groups) (sym s.lot);
            state = sym (ap open_state s.goes_on);
            history = settled h;
            sound = refl;
            holds = s.settled c.form c.mode h at.holds;
          };
        };
        entry = entry_with_state c word.Mounted refl mounted;
        found = tt;
        leaves = sound_leaves state left e.lot c h at.sound a b step;
        frame = s.within;
        spares = λ broken. absurd (sound_unbroken c.content h at.sound broken);
      }
  sync_each (Err x) true is s c at =
      let h = at.history in
      let stopped : c.state ≡ word.Stopped = at.state ∙ ap open_state is in
      let step = s.crash c.form c.mode h at.holds in
      subst (λ (y : Refusal). Becomes state left e.lot order.Sync (Open f) a b c (Err (refused_of y))) (sym (err_is x code.Stopped (s.stopped is))) (record {
        then = c;
        own = inl (No why.Stopped, inner_refuses order.Sync tt c word.Stopped why.Stopped stopped (λ P. refl), (refl, refl));
        carries = record {
          lot_is = s.lot;
          record_is = record {
            groups = at.record_is.groups ∙ ap (λ (l : LotView). length l.groups) (sym s.lot);
            state = stopped ∙ sym (ap open_state s.stops);
            history = h;
            sound = at.sound;
            holds = s.kept c.form c.mode h at.holds;
          };
        };
        entry = refl;
        found = tt;
        leaves = sound_leaves state left e.lot c h at.sound a b step;
        frame =
            subst (λ (d : D). Within state left (WritesIn e.lot order.Sync (Err (Because why.Stopped))) a d) (sym (s.untouched is))
            (within_refl state left (WritesIn e.lot order.Sync (Err (Because why.Stopped))) a);
        spares = λ broken. absurd (sound_unbroken c.content h at.sound broken);
      })
  sync_each (Err x) false is s c at =
      let h = at.history in
      let mounted : c.state ≡ word.Mounted = at.state ∙ ap open_state is in
      let step = s.crash c.form c.mode h at.holds in
      subst (λ (y : Refusal). Becomes state left e.lot order.Sync (Open f) a b c (Err (refused_of y))) (sym (s.only is)) (record {
        then = with_state word.Stopped c;
        own = inr (inl (ap is_mounted mounted, refl, refl));
        carries = record {
          lot_is = s.lot;
          record_is = record {
            groups = at.record_is.groups ∙ ap (λ (l : LotView). length l.groups) (sym s.lot);
            state = sym (ap open_state s.stops);
            history = h;
            sound = at.sound;
            holds = s.kept c.form c.mode h at.holds;
          };
        };
        entry = entry_with_state c word.Stopped refl mounted;
        found = tt;
        leaves = sound_leaves state left e.lot c h at.sound a b step;
        frame = s.within;
        spares = λ broken. absurd (sound_unbroken c.content h at.sound broken);
      })

  -- a sync of an open cube
  pub sync_order : (r : Result ℕ Refusal) → Synced state left e f r a b
      → AnswersOrder state left e.lot order.Sync offline (Open e) (Open f) room (told_number r) a b
  sync_order r s = record {
    cell = s.lot;
    within = s.within;
    faults = number_faults r room (state a).faults (state b).faults s.within.faults s.failed;
    tallies = number_tallies r room;
    each = λ c rec. sync_each r e.stopped refl s c (open_record e offline (state a) c rec);
  }

-- ---- an unmount

-- what an unmount of a cube says
pub record UnmountSays {D : Type 0} (state : D → DiskState) (left : D → ℕ → Image → List ℕ → Type 0) (e : CubeView) (r : Result ℕ Refusal)
    (a b : D) : Type 0 where
  pub answer : IfOk r (λ k. k ≡ e.done)
  pub stopped : e.stopped ≡ true → IsErrOf r code.Stopped
  pub untouched : e.stopped ≡ true → b ≡ a
  pub only : e.stopped ≡ false → IfErr r (λ x. x ≡ code.Fault)
  pub failed : Caused state code.Fault r a b
  pub within : Within state left (extent e.lot) a b
  pub crash : (g : Form) (mode : Mode) (h : History) → Holds g mode h e (state a) → CrashStep state left (extent e.lot) (HasHistory e.lot g mode h) a b
  pub settled : (g : Form) (mode : Mode) (h : History) → Holds g mode h e (state a)
      → OnOk r (Every (extent e.lot) (state b) (HasHistory e.lot g mode (settled h)))

cell_left : (lot : LotView) (r : Result ℕ Refusal) → IsCellOf lot (cell_without r)
cell_left lot (Ok k) = tt
cell_left lot (Err x) = tt

module _ {D : Type 0} (state : D → DiskState) (left : D → ℕ → Image → List ℕ → Type 0) (e : CubeView) (a b : D) (offline : Bool) (room : RoomContent) where
  unmount_each : (r : Result ℕ Refusal) (p : Bool) → e.stopped ≡ p → UnmountSays state left e r a b → (c : Cube) → IsOpen e (state a) c
      → Becomes state left e.lot order.Unmount (cell_without r) a b c (meant (told_number r) room)
  unmount_each (Ok k) true is s c at = absurd (cc (s.stopped is))
  unmount_each (Ok k) false is s c at =
      let h = at.history in
      let mounted : c.state ≡ word.Mounted = at.state ∙ ap open_state is in
      let count : k ≡ done h = s.answer ∙ (at.holds.runs is).count in
      let step = s.crash c.form c.mode h at.holds in record {
        then = with_state word.Unmounted (with_history (settled h) c);
        own =
            inl (on_sync c word.Unmounted h, mounted_plain c h (on_sync c word.Unmounted) mounted at.sound, (ap (λ (n : ℕ). Ok (reply.Number n)) count, refl));
        carries = record { each = s.settled c.form c.mode h at.holds; known = tt; is = refl };
        entry = entry_with_state c word.Unmounted refl mounted;
        found = tt;
        leaves = sound_leaves state left e.lot c h at.sound a b step;
        frame = s.within;
        spares = λ broken. absurd (sound_unbroken c.content h at.sound broken);
      }
  unmount_each (Err x) true is s c at =
      let h = at.history in
      let stopped : c.state ≡ word.Stopped = at.state ∙ ap open_state is in
      let step = s.crash c.form c.mode h at.holds in
      let rests = sound_rests state left e.lot c h at.sound a b step word.Stopped in
      subst (λ (y : Refusal). Becomes state left e.lot order.Unmount Stopped a b c (Err (refused_of y))) (sym (err_is x code.Stopped (s.stopped is))) (record {
        then = c;
        own = inl (No why.Stopped, inner_refuses order.Unmount tt c word.Stopped why.Stopped stopped (λ P. refl), (refl, refl));
        carries = record { each = rests.each; known = subst (λ (y : Content). IsKnown e.lot (state b).now c y) (sym at.sound) tt; is = stopped };
        entry = refl;
        found = tt;
        leaves = sound_leaves state left e.lot c h at.sound a b step;
        frame =
            subst (λ (d : D). Within state left (WritesIn e.lot order.Unmount (Err (Because why.Stopped))) a d) (sym (s.untouched is))
            (within_refl state left (WritesIn e.lot order.Unmount (Err (Because why.Stopped))) a);
        spares = λ broken. absurd (sound_unbroken c.content h at.sound broken);
      })
  unmount_each (Err x) false is s c at =
      let h = at.history in
      let mounted : c.state ≡ word.Mounted = at.state ∙ ap open_state is in
      let step = s.crash c.form c.mode h at.holds in
      subst (λ (y : Refusal). Becomes state left e.lot order.Unmount Stopped a b c (Err (refused_of y))) (sym (s.only is)) (record {
        then = with_state word.Stopped c;
        own = inr (inl (ap is_mounted mounted, refl, refl));
        carries = sound_rests state left e.lot c h at.sound a b step word.Stopped;
        entry = entry_with_state c word.Stopped refl mounted;
        found = tt;
        leaves = sound_leaves state left e.lot c h at.sound a b step;
        frame = s.within;
        spares = λ broken. absurd (sound_unbroken c.content h at.sound broken);
      })

  -- an unmount of an open cube
  pub unmount_order : (r : Result ℕ Refusal) → UnmountSays state left e r a b
      → AnswersOrder state left e.lot order.Unmount offline (Open e) (cell_without r) room (told_number r) a b
  unmount_order r s = record {
    cell = cell_left e.lot r;
    within = s.within;
    faults = number_faults r room (state a).faults (state b).faults s.within.faults s.failed;
    tallies = number_tallies r room;
    each = λ c rec. unmount_each r e.stopped refl s c (open_record e offline (state a) c rec);
  }

-- the same of cells, lots and replies that are these
pub order_as : {D : Type 0} (state : D → DiskState) (left : D → ℕ → Image → List ℕ
    → Type 0) (l lot : LotView) (o : Order) (offline : Bool) (x y before after : Cell) (room : RoomContent) (q r : Result Value Refusal) (a b : D)
    → l ≡ lot → before ≡ x → after ≡ y → r ≡ q → AnswersOrder state left l o offline x y room q a b
    → AnswersOrder state left lot o offline before after room r a b
order_as state left l lot o offline x y before after room q r a b at from to said answers =
    subst (λ (z : LotView). AnswersOrder state left z o offline before after room r a b) at
    (subst (λ (z : Cell). AnswersOrder state left l o offline z after room r a b) (sym from)
    (subst (λ (z : Cell). AnswersOrder state left l o offline x z room r a b) (sym to)
    (subst (λ (z : Result Value Refusal). AnswersOrder state left l o offline x y room z a b) (sym said) answers)))
