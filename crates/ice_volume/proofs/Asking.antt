-- What a command of a tree and a check do to the record of their cube.
use Rattle.std.proofs.Common.{◌≡◌, ◌∙◌, inl, inr, ◌≤◌, ◌+◌, ℕ, Bool, true, false, List, length, Some, None, Result, Ok, Err, refl, sym, ap, subst, arith}
use Rattle.std.specs.Prelude.{⊤, IfOk, IfErr, IsErr, IsErrOf}
use Rattle.ice_base.specs.Disk.{Image, DiskState, Nowhere, Rose, RoseBy, Caused}
use Rattle.ice_base.specs.Frames.{CrashStep, Within, LeavesOnly, With, Kept}
use Rattle.ice_base.specs.FrameLaws.{within_more}
use Rattle.ice_base.specs.Lots.{LotView, extent}
use Rattle.ice_base.specs.Still.{Still}
use Rattle.ice_base.specs.declared.fault.Rule.{Rule}
use Rattle.ice_base.proofs.Frame.{leaves_apart}
use Rattle.ice_base.proofs.Kept.{kept_within}
use Rattle.tree_spec.specs.Costs.{Form, form_of, blocks, nodes}
use Rattle.tree_spec.specs.Held.{RoomContent}
use Rattle.tree_spec.specs.Operations.{Operation, is_change}
use Rattle.tree_spec.specs.Trees.{Tree}
use Rattle.tree_spec.specs.Why as why
use Rattle.tree_spec.specs.Own as order
use Rattle.tree_spec.specs.Own.{Own, Verdict, No, CheckFinds, on_check}
use Rattle.tree_spec.specs.Records.{Cube, Content, Sound, Broken, Unread, History, Mode, floor, tree_at}
use Rattle.tree_spec.specs.Replies.{Response, Accepted, Because, Checked, Tallies, meant}
use Rattle.tree_spec.specs.Replies as reply
use Rattle.tree_spec.specs.declared.reply.Refusal.{Refusal}
use Rattle.tree_spec.specs.declared.reply.Refusal.TheVariants as code
use Rattle.tree_spec.specs.declared.reply.StateWord.{StateWord}
use Rattle.tree_spec.specs.declared.reply.StateWord.TheVariants as word
use Rattle.tree_spec.specs.declared.reply.Value.{Value}
use Rattle.ice_tables.specs.Journals.{effective_of}
use Rattle.ice_reads.specs.Recovers.{MapRecovers}
use Rattle.ice_rules.specs.Rules.{LotMayName, rule_number}
use Rattle.ice_check.specs.Shown.{IsDisk, LotNamed, Sums}
use Rattle.ice_check.specs.declared.fault.CheckFault.{CheckFault}
use Rattle.ice_check.specs.declared.fault.CheckFault.TheVariants as check
use Rattle.ice_check.specs.declared.fault.Summary.{Summary}
use Rattle.ice_images.specs.Fitting.{Has, HasContent}
use Rattle.ice_images.specs.Opening.{closed_state}
use Rattle.ice_images.specs.Recovering.{RecoversNothing}
use Rattle.ice_cube.specs.Commands.{AnswersOwn, HoldsRecord, meant_check, open_state}
use Rattle.ice_cube.specs.Cubes.{CubeView, HasHistory, Holds}
use Rattle.ice_volume.specs.Cells.{Carries, IsKnown}
use Rattle.ice_volume.specs.Lines.{CheckFound, RecoversOf, fault_in}
use Rattle.ice_volume.specs.Orders.{AnswersOrder, Becomes, IsCellOf, IsRecord, WritesIn, told_check}
use Rattle.ice_volume.specs.declared.cell.Cell.{Cell}
use Rattle.ice_volume.specs.declared.cell.Cell.TheVariants.{Closed, Stopped, Open}
use Rattle.ice_volume.proofs.Entries.{tree_entry, check_entry}
use Rattle.ice_volume.proofs.Found.{recovers_alike, recovers_first, check_some, check_none}
use Rattle.ice_volume.proofs.Slots.{carries_has, carries_kept, carries_known}
use Rattle.ice_volume.proofs.Telling.{IsOpen, open_record, sound_leaves, sound_unbroken, faults_said}

-- ---- a command of a tree

-- what a command of a cube says
pub record CommandSays {D : Type 0} (state : D → DiskState) (left : D → ℕ → Image → List ℕ → Type 0) (e f : CubeView) (op : Operation)
    (room : RoomContent) (r : Result Value Refusal) (a b : D) : Type 0 where
  pub lot : f.lot ≡ e.lot
  pub failed : Caused state code.Fault r a b
  pub tallies : Tallies r room
  pub within : Within state left (extent e.lot) a b
  pub looks : is_change op ≡ false → Still state left a b
  pub own : (c : Cube) → HoldsRecord e (state a) c → AnswersOwn f (state b) c (order.OnTree op) (meant r room)
  pub crash : (g : Form) (mode : Mode) (h : History) → Holds g mode h e (state a) → CrashStep state left (extent e.lot) (HasHistory e.lot g mode h) a b

module _ {D : Type 0} (state : D → DiskState) (left : D → ℕ → Image → List ℕ → Type 0) (e f : CubeView) (op : Operation) (a b : D)
    (offline : Bool) (room : RoomContent) (r : Result Value Refusal) (s : CommandSays state left e f op room r a b) where
  command_frame : (p : Bool) → is_change op ≡ p → Within state left (WritesIn e.lot (order.OnTree op) (meant r room)) a b
  command_frame true is = within_more state left (extent e.lot) (WritesIn e.lot (order.OnTree op) (meant r room)) a b (λ k own. (is, own)) s.within
  command_frame false is = within_more state left Nowhere (WritesIn e.lot (order.OnTree op) (meant r room)) a b (λ k never. absurd never) (s.looks is).within

  command_each : (c : Cube) → IsOpen e (state a) c → Becomes state left e.lot (order.OnTree op) (Open f) a b c (meant r room)
  command_each c at = let own = s.own c at.record_is in record {
    then = own.0;
    own = own.1;
    carries = record { lot_is = s.lot; record_is = own.2 };
    entry = tree_entry c own.0 op (meant r room) own.1;
    found = tt;
    leaves = sound_leaves state left e.lot c at.history at.sound a b (s.crash c.form c.mode at.history at.holds);
    frame = command_frame (is_change op) refl;
    spares = λ broken. absurd (sound_unbroken c.content at.history at.sound broken);
  }

  -- a command of an open cube
  pub command_order : AnswersOrder state left e.lot (order.OnTree op) offline (Open e) (Open f) room r a b
  command_order = record {
    cell = s.lot;
    within = s.within;
    faults = faults_said r room (state a).faults (state b).faults s.within.faults s.failed;
    tallies = s.tallies;
    each = λ c rec. command_each c (open_record e offline (state a) c rec);
  }

-- ---- a check of a mounted cube

check_meant : (r : Result Summary CheckFault) (room : RoomContent) → meant_check r ≡ meant (told_check r) room
check_meant (Ok s) room = refl
check_meant (Err check.Disk) room = refl
check_meant (Err (check.Damaged x)) room = refl

check_faults : (r : Result Summary CheckFault) (room : RoomContent) (m n : ℕ) → m ≤ n → (IsErrOf r check.Disk → Rose m n)
    → RoseBy (fault_in (meant (told_check r) room)) m n
check_faults (Ok s) room m n le cause = omega (arith, le)
check_faults (Err check.Disk) room m n le cause = cause refl
check_faults (Err (check.Damaged x)) room m n le cause = omega (arith, le)

check_tallies : (r : Result Summary CheckFault) (room : RoomContent) → Tallies (told_check r) room
check_tallies (Ok s) room = tt
check_tallies (Err check.Disk) room = tt
check_tallies (Err (check.Damaged x)) room = tt

-- what a check of a cube says
pub record CheckSays {D : Type 0} (state : D → DiskState) (left : D → ℕ → Image → List ℕ → Type 0) (e f : CubeView)
    (r : Result Summary CheckFault) (a b : D) : Type 0 where
  pub lot : f.lot ≡ e.lot
  pub still : Still state left a b
  pub failed : Caused state check.Disk r a b
  pub own : (c : Cube) → HoldsRecord e (state a) c → AnswersOwn f (state b) c order.Check (meant_check r)

module _ {D : Type 0} (state : D → DiskState) (left : D → ℕ → Image → List ℕ → Type 0) (lot : LotView) (a b : D) (still : Still state left a b) where
  still_within : (S : ℕ → Type 0) → Within state left S a b
  still_within S = within_more state left Nowhere S a b (λ k never. absurd never) still.within

  still_kept : Kept (extent lot) (state a) (state b)
  still_kept = kept_within state left (extent lot) Nowhere a b (λ k own never. never) still.within

  still_leaves : (cell : Cell) (c : Cube) → Carries cell lot (state a) (Some c) → LeavesOnly left a b (With (state a).streams.aside (λ i. Has lot i (Some c)))
  still_leaves cell c carries =
      leaves_apart state left (extent lot) Nowhere a b (λ i. Has lot i (Some c))
      (λ k own never. never) still.within (carries_has cell lot (state a) (Some c) carries)

module _ {D : Type 0} (state : D → DiskState) (left : D → ℕ → Image → List ℕ → Type 0) (e f : CubeView) (live : e.stopped ≡ false)
    (a b : D) (offline : Bool) (room : RoomContent) (r : Result Summary CheckFault) (s : CheckSays state left e f r a b) where
  check_each : (c : Cube) → IsRecord e.lot offline (Open e) (state a) c → Becomes state left e.lot order.Check (Open f) a b c (meant (told_check r) room)
  check_each c rec =
      let at = open_record e offline (state a) c rec in
      let own = s.own c at.record_is in
      let mounted : c.state ≡ word.Mounted = at.state ∙ ap open_state live in record {
        then = own.0;
        own = subst (λ (q : Response). Own (Some c) order.Check q (Some own.0)) (check_meant r room) own.1;
        carries = record { lot_is = s.lot; record_is = own.2 };
        entry = check_entry c own.0 (meant_check r) own.1;
        found = subst (λ (z : StateWord). CheckFound z e.lot (state a).now (meant (told_check r) room)) (sym mounted) tt;
        leaves = still_leaves state left e.lot a b s.still (Open e) c rec.carries;
        frame = still_within state left e.lot a b s.still (WritesIn e.lot order.Check (meant (told_check r) room));
        spares = λ broken. s.still.within;
      }

  -- a check of a mounted cube
  pub check_order : AnswersOrder state left e.lot order.Check offline (Open e) (Open f) room (told_check r) a b
  check_order = record {
    cell = s.lot;
    within = still_within state left e.lot a b s.still (extent e.lot);
    faults = check_faults r room (state a).faults (state b).faults s.still.within.faults s.failed;
    tallies = check_tallies r room;
    each = check_each;
  }

-- ---- a check of a lot

-- no mounted cube
abbrev pub IsIdle : Cell → Type 0
IsIdle Closed = ⊤
IsIdle Stopped = ⊤
IsIdle (Open e) = e.stopped ≡ true

abbrev IsIdleState : StateWord → Type 0
IsIdleState word.Mounted = ⊥
IsIdleState _ = ⊤

closed_idle : (offline : Bool) → IsIdleState (closed_state offline)
closed_idle true = tt
closed_idle false = tt

idle_state : (lot : LotView) (offline : Bool) (cell : Cell) (s : DiskState) (c : Cube) → IsIdle cell → IsRecord lot offline cell s c → IsIdleState c.state
idle_state lot offline Closed s c idle rec = subst IsIdleState (sym (rec.carries.is ∙ ap closed_state rec.mark)) (closed_idle offline)
idle_state lot offline Stopped s c idle rec = subst IsIdleState (sym rec.carries.is) tt
idle_state lot offline (Open e) s c idle rec = subst IsIdleState (sym (rec.carries.record_is.state ∙ ap open_state idle)) tt

-- what reads give is an image of the lot
pub record_now : (lot : LotView) (offline : Bool) (cell : Cell) (s : DiskState) (c : Cube) → IsRecord lot offline cell s c → Has lot s.now (Some c)
record_now lot offline cell s c rec = carries_has cell lot s (Some c) rec.carries s.now (record { count = rec.whole; same = λ k own settled. refl })

check_sound : (c : Cube) (h : History) (j : ℕ) (s : StateWord) → IsIdleState s → j ≤ length h.since
    → CheckFinds c (Sound h) s (on_check c (tree_at h j) (floor h + j))
check_sound c h j word.Mounted idle few = absurd idle
check_sound c h j word.Unmounted idle few = (j, few, refl)
check_sound c h j word.Stopped idle few = (j, few, refl)
check_sound c h j word.Offline idle few = (j, few, refl)

found_tree : (lot : LotView) (i : Image) (s : StateWord) (cost n k : ℕ) → RecoversOf lot i cost n k → CheckFound s lot i (Ok (Checked cost n k))
found_tree lot i word.Mounted cost n k of = tt
found_tree lot i word.Unmounted cost n k of = of
found_tree lot i word.Stopped cost n k of = of
found_tree lot i word.Offline cost n k of = of

found_damage : (lot : LotView) (i : Image) (s : StateWord) (rule : ℕ) → RecoversNothing lot i → CheckFound s lot i (Err (Because (why.Damaged rule)))
found_damage lot i word.Mounted rule nothing = tt
found_damage lot i word.Unmounted rule nothing = nothing
found_damage lot i word.Stopped rule nothing = nothing
found_damage lot i word.Offline rule nothing = nothing

found_fault : (lot : LotView) (i : Image) (s : StateWord) → CheckFound s lot i (Err reply.Fault)
found_fault lot i word.Mounted = tt
found_fault lot i word.Unmounted = tt
found_fault lot i word.Stopped = tt
found_fault lot i word.Offline = tt

-- what a check of a lot says
pub record LotCheckSays {D : Type 0} (state : D → DiskState) (left : D → ℕ → Image → List ℕ → Type 0) (lot : LotView)
    (r : Result Summary CheckFault) (a b : D) : Type 0 where
  pub recovers : (m : ℕ → List ℕ) → (state a).tells ≡ true → effective_of lot (state a).now ≡ Some m → IfOk r (Sums lot m)
  pub refused : (state a).tells ≡ true → effective_of lot (state a).now ≡ None → IsErr r
  pub exact : (f : Form) (mode k : ℕ) (t : Tree) (m : ℕ → List ℕ) → f ≡ form_of f.version → (state a).tells ≡ true
      → effective_of lot (state a).now ≡ Some m → MapRecovers f mode lot m t k → IfErr r IsDisk
  pub named : (state a).tells ≡ true → IfErr r (LotNamed lot (effective_of lot (state a).now))
  pub still : Still state left a b
  pub failed : Caused state check.Disk r a b

module _ {D : Type 0} (state : D → DiskState) (left : D → ℕ → Image → List ℕ → Type 0) (lot : LotView) (cell : Cell) (idle : IsIdle cell)
    (a b : D) (offline : Bool) (room : RoomContent) (r : Result Summary CheckFault) (s : LotCheckSays state left lot r a b) where
  module _ (c : Cube) (rec : IsRecord lot offline cell (state a) c) where
    some_tree : (q : Summary) → r ≡ Ok q → RecoversOf lot (state a).now q.blocks q.nodes q.done
    some_tree =
        check_some lot (state a).now r (λ m e. s.recovers m rec.told e) (s.refused rec.told)
        (λ f mode k t m g e v. s.exact f mode k t m g rec.told e v) (s.named rec.told)

    no_tree : (x : Rule) → r ≡ Err (check.Damaged x) → RecoversNothing lot (state a).now × LotMayName lot (effective_of lot (state a).now) x
    no_tree =
        check_none lot (state a).now r (λ m e. s.recovers m rec.told e) (s.refused rec.told)
        (λ f mode k t m g e v. s.exact f mode k t m g rec.told e v) (s.named rec.told)

    finds_tree : (q : Summary) → RecoversOf lot (state a).now q.blocks q.nodes q.done → (x : Content)
        → HasContent lot (state a).now c.form c.mode x → IsKnown lot (state a).now c x
        → (t : Tree) × (k : ℕ) × CheckFinds c x c.state (on_check c t k) × (Checked q.blocks q.nodes q.done ≡ Checked (blocks c.form t) (nodes t) k)
    finds_tree q of (Sound h) has known =
        let j = has.0 in
        let one = recovers_alike lot (state a).now of.form c.form of.mode c.mode of.tree (tree_at h j) q.done (floor h + j) of.recovers has.2 in (
          tree_at h j,
          floor h + j,
          check_sound c h j c.state (idle_state lot offline cell (state a) c idle rec) has.1,
          let cost : q.blocks ≡ blocks c.form (tree_at h j) = of.cost_is ∙ ap (λ (g : Form). blocks g of.tree) one.0
              ∙ ap (λ (t : Tree). blocks c.form t) one.1 in
              let number : q.nodes ≡ nodes (tree_at h j) = of.nodes_are ∙ ap nodes one.1 in
              ap (λ (n : ℕ). Checked n q.nodes q.done) cost ∙ ap (λ (n : ℕ). Checked (blocks c.form (tree_at h j)) n q.done) number
              ∙ ap (λ (n : ℕ). Checked (blocks c.form (tree_at h j)) (nodes (tree_at h j)) n) one.2,
        )
    finds_tree q of (Broken rules) has known = absurd (known.nothing of.form of.mode of.tree q.done of.recovers)
    finds_tree q of Unread has known =
        let form : of.form ≡ c.form = (recovers_first lot (state a).now of.form of.mode of.tree q.done of.recovers).0 ∙ sym known.0 in (
          of.tree,
          q.done,
          inr (of.tree, q.done, refl),
          ap (λ (n : ℕ). Checked n q.nodes q.done) (of.cost_is ∙ ap (λ (g : Form). blocks g of.tree) form)
              ∙ ap (λ (n : ℕ). Checked (blocks c.form of.tree) n q.done) of.nodes_are,
        )

    finds_damage : (y : Rule) → RecoversNothing lot (state a).now × LotMayName lot (effective_of lot (state a).now) y → (x : Content)
        → HasContent lot (state a).now c.form c.mode x → IsKnown lot (state a).now c x
        → CheckFinds c x c.state (No (why.Damaged (rule_number y)))
    finds_damage y damage (Sound h) has known = absurd (damage.0 c.form c.mode (tree_at h has.0) (floor h + has.0) has.2)
    finds_damage y damage (Broken rules) has known = (rule_number y, known.named.all y damage.1, refl)
    finds_damage y damage Unread has known = inl (rule_number y, refl)

    abbrev Same : Response → Type 0
    Same q = Becomes state left lot order.Check cell a b c q

    same_record : (q : Response) → Own (Some c) order.Check q (Some c) → CheckFound c.state lot (state a).now q → Same q
    same_record q own found = record {
      then = c;
      own = own;
      carries = carries_kept lot (state a) (state b) (still_kept state left lot a b s.still) cell (Some c) rec.carries;
      entry = refl;
      found = found;
      leaves = still_leaves state left lot a b s.still cell c rec.carries;
      frame = still_within state left lot a b s.still (WritesIn lot order.Check q);
      spares = λ broken. s.still.within;
    }

    lot_check_each : (p : Result Summary CheckFault) → r ≡ p → Same (meant (told_check p) room)
    lot_check_each (Ok q) is =
        let of = some_tree q is in
        let found = finds_tree q of c.content (record_now lot offline cell (state a) c rec) (carries_known cell lot (state a) c rec.carries) in
        same_record (Ok (Checked q.blocks q.nodes q.done))
        (inl (on_check c found.0 found.1, found.2, (ap (λ (y : Accepted). Ok y) found.3, refl)))
        (found_tree lot (state a).now c.state q.blocks q.nodes q.done of)
    lot_check_each (Err check.Disk) is = same_record (Err reply.Fault) (inr (inl (refl, refl, refl))) (found_fault lot (state a).now c.state)
    lot_check_each (Err (check.Damaged y)) is =
        let damage = no_tree y is in
        same_record (Err (Because (why.Damaged (rule_number y))))
        (inl (No (why.Damaged (rule_number y)), finds_damage y damage c.content (record_now lot offline cell (state a) c rec) (carries_known cell lot (state a) c rec.carries), (refl, refl)))
        (found_damage lot (state a).now c.state (rule_number y) damage.0)

  -- a check of the lot of a cube that isn't mounted
  pub lot_check_order : IsCellOf lot cell → AnswersOrder state left lot order.Check offline cell cell room (told_check r) a b
  lot_check_order at = record {
    cell = at;
    within = still_within state left lot a b s.still (extent lot);
    faults = check_faults r room (state a).faults (state b).faults s.still.within.faults s.failed;
    tallies = check_tallies r room;
    each = λ c rec. lot_check_each c rec r refl;
  }
