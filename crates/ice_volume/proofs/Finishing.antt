-- Cubes that are unmounted at the end of a session.
use Rattle.std.proofs.Common.{◌≡◌, ◌≢◌, ◌∙◌, inl, inr, ⊎_elim, ◌<◌, ◌≤◌, ◌+◌, ◌++◌, ℕ, Bool, true, false, cond, nat_lt, List, length, Option, None, Some, option_map, Result, Ok, Err, OnOk, OnErr, refl, sym, ap, subst, length-append, arith}
use Rattle.std.specs.Prelude.{◌&&◌, ◌⊎◌, IsErrOf, is_ok}
use Rattle.std.proofs.lemmas.Bool.{cases_lt}
use Rattle.std.proofs.lemmas.Bool.Decides.{nat_tests}
use Rattle.std.proofs.Math.Seq.{take-length}
use Rattle.ice_base.specs.Disk.{Image, DiskState, Outside, Rose, RoseBy, Streams}
use Rattle.ice_base.specs.FrameLaws.{within_more, within_then}
use Rattle.ice_base.specs.Frames.{LeavesOnly, With, Within}
use Rattle.ice_base.specs.Lots.{LotView, extent}
use Rattle.ice_base.specs.declared.disk.DiskFault.{DiskFault}
use Rattle.tree_spec.specs.Why.{Why}
use Rattle.tree_spec.specs.Trees.{Tree}
use Rattle.tree_spec.specs.Costs.{Form}
use Rattle.tree_spec.specs.Operations.{Operation}
use Rattle.tree_spec.specs.Answers.{tree_after}
use Rattle.tree_spec.specs.Held.{RoomContent}
use Rattle.tree_spec.specs.Replies.{Response, meant}
use Rattle.tree_spec.specs.Replies as reply
use Rattle.tree_spec.specs.Records.{Cube, Content, Sound, Broken, Unread, History, Mode, floor, is_mounted, is_offline, settled, tree_at, with_state, with_history, mode_after}
use Rattle.tree_spec.specs.Own.{Unmount, Verdict, No, Says, Own, IfMounted, OfSound, on_sync}
use Rattle.tree_spec.specs.Lines.{Asks}
use Rattle.tree_spec.specs.Lines as line
use Rattle.tree_spec.specs.World.{World, Aim, At, Goes, Step, aim, to_cube, with_slot}
use Rattle.tree_spec.specs.declared.reply.Refusal.{Refusal}
use Rattle.tree_spec.specs.declared.reply.Refusal.TheVariants as code
use Rattle.tree_spec.specs.declared.reply.Value.{Value}
use Rattle.tree_spec.specs.declared.reply.StateWord.{StateWord}
use Rattle.tree_spec.specs.declared.reply.StateWord.TheVariants as word
use Rattle.ice_images.specs.Fitting.{Fits, Has, HasContent, cube_entry, entry_at}
use Rattle.ice_images.proofs.FittingLaws.{no_cube}
use Rattle.ice_images.specs.Recovering.{Recovers}
use Rattle.ice_tables.specs.Lots.{lot_of, total}
use Rattle.ice_names.specs.Names.{path_at}
use Rattle.ice_system.specs.Systems.{tables_of}
use Rattle.ice_cube.specs.Cubes.{HasHistory}
use Rattle.ice_volume.specs.Cells.{Carries, cell_at}
use Rattle.ice_volume.specs.Sessions.{HasPutAway, IsAsGood, IsTried, PutsAway, TriesAll, away_at, away_below, finished, give_up, put_away}
use Rattle.ice_volume.specs.Lines.{Answers, MayFit, IsOfBroken, SaysBroken, fault_in}
use Rattle.ice_volume.specs.Volumes.{VolumeView, StandsFor, IsWritable}
use Rattle.ice_volume.proofs.Lookups.{slot_found}
use Rattle.ice_volume.proofs.Mounting.{after_append}
use Rattle.ice_volume.proofs.Slots.{each_slot}
use Rattle.ice_volume.proofs.Telling.{faults_said, sound_unbroken}

-- ---- histories

-- a lot that has all that was accepted has the history before it was settled
settled_has : (lot : LotView) (f : Form) (mode : Mode) (h : History) (i : Image) → HasHistory lot f mode (settled h) i → HasHistory lot f mode h i
settled_has lot f mode h i has =
    let none : has.0 ≡ 0 = omega (arith, has.1) in
    let at_none : Recovers lot i f mode (tree_after (h.sure ++ h.since) h.base) (floor (settled h) + 0) = subst
    (λ (n : ℕ). Recovers lot i f (mode_after mode (settled h) n) (tree_at (settled h) n) (floor (settled h) + n)) none has.2 in
    let tree : tree_after (h.sure ++ h.since) h.base ≡ tree_at h (length h.since) = after_append h.sure h.since h.base
    ∙ ap (λ (ops : List Operation). tree_after ops (tree_after h.sure h.base)) (sym (take-length h.since)) in
    let count : floor (settled h) + 0 ≡ floor h + length h.since = omega (arith, length-append h.sure h.since) in
    (length h.since, omega arith, subst (λ (t : Tree). Recovers lot i f mode t (floor h + length h.since)) tree (subst (λ (k : ℕ). Recovers lot i f mode (tree_after (h.sure ++ h.since) h.base) k) count at_none))

-- ---- records

same_good : (c d : Option Cube) → d ≡ c → IsAsGood c d
same_good c d is = record { entry = ap (option_map cube_entry) is; has = λ lot i h. subst (Has lot i) is h }

pub good_then : (a b c : Option Cube) → IsAsGood a b → IsAsGood b c → IsAsGood a c
good_then a b c p q = record { entry = q.entry ∙ p.entry; has = λ lot i h. p.has lot i (q.has lot i h) }

-- a cube that isn't mounted is left as it is
away_other : (c : Cube) → c.state ≢ word.Mounted → put_away c.state c.content c ≡ c
away_other c other = by c.state refl
  where
    by : (s : StateWord) → c.state ≡ s → put_away s c.content c ≡ c
    by word.Mounted is = absurd (other is)
    by word.Unmounted is = refl
    by word.Stopped is = refl
    by word.Offline is = refl

away_mounted : (c : Cube) (h : History) → c.state ≡ word.Mounted → c.content ≡ Sound h
    → put_away c.state c.content c ≡ record c { state = word.Unmounted; content = Sound (settled h) }
away_mounted c h mounted sound = ap (λ s. put_away s c.content c) mounted ∙ ap (λ x. put_away word.Mounted x c) sound

stopped_mounted : (c : Cube) → c.state ≡ word.Mounted → give_up c.state c ≡ with_state word.Stopped c
stopped_mounted c mounted = ap (λ s. give_up s c) mounted

-- ---- the cube of a slot

-- the record after an unmount is as good, that of a cube that was put away, or where it was a fault, of one that is stopped
pub record GoesAway (c : Option Cube) (r : Response) (d : Option Cube) : Type 0 where
  pub good : IsAsGood c d
  pub away : r ≢ Err reply.Fault → d ≡ away_at c
  pub tried : IsTried c d
  pub broken : SaysBroken c → SaysBroken d

same_away : (c : Cube) (d : Option Cube) (r : Response) → d ≡ Some c → c.state ≢ word.Mounted → GoesAway (Some c) r d
same_away c d r same other = record {
  good = same_good (Some c) d same;
  away = λ none. same ∙ ap (λ (x : Cube). Some x) (sym (away_other c other));
  tried = inl (same ∙ ap (λ (x : Cube). Some x) (sym (away_other c other)));
  broken = λ was. subst SaysBroken (sym same) was;
}

settled_good : (c : Cube) (h : History) → c.state ≡ word.Mounted → c.content ≡ Sound h
    → IsAsGood (Some c) (Some (with_state word.Unmounted (with_history (settled h) c)))
settled_good c h mounted sound = record {
  entry = ap (λ s. Some (record { path = c.path; groups = c.groups; offline = is_offline s })) (sym mounted);
  has = λ lot i had. subst (HasContent lot i c.form c.mode) (sym sound) (settled_has lot c.form c.mode h i had);
}

stopped_good : (c : Cube) → c.state ≡ word.Mounted → IsAsGood (Some c) (Some (with_state word.Stopped c))
stopped_good c mounted = record {
  entry = ap (λ s. Some (record { path = c.path; groups = c.groups; offline = is_offline s })) (sym mounted);
  has = λ lot i had. had;
}

goes_as : (c d e : Option Cube) (r : Response) → d ≡ e → GoesAway c r e → GoesAway c r d
goes_as c d e r same goes = record {
  good = good_then c e d goes.good (same_good e d same);
  away = λ none. same ∙ goes.away none;
  tried = ⊎_elim (λ is. inl (same ∙ is)) (λ is. inr (same ∙ is)) goes.tried;
  broken = λ was. subst SaysBroken (sym same) (goes.broken was);
}

-- a refusal leaves the record
refused_away : (c : Cube) (d : Option Cube) (r : Response) (why : Why) (v : Verdict) → v ≡ No why → c.state ≢ word.Mounted
    → Says v (Some c) r d → GoesAway (Some c) r d
refused_away c d r why v is other says = same_away c d r (subst (λ (x : Verdict). Says x (Some c) r d) is says).1 other

plain_away : (c : Cube) (d : Option Cube) (r : Response) (v : Verdict) (s : StateWord) (x : Content) → c.state ≡ s → c.content ≡ x
    → IfMounted s (OfSound x (on_sync c word.Unmounted)) v → Says v (Some c) r d → GoesAway (Some c) r d
plain_away c d r v word.Unmounted x state content is says = refused_away c d r _ v is (λ mounted. absurd (cc (sym mounted ∙ state))) says
plain_away c d r v word.Stopped x state content is says = refused_away c d r _ v is (λ mounted. absurd (cc (sym mounted ∙ state))) says
plain_away c d r v word.Offline x state content is says = refused_away c d r _ v is (λ mounted. absurd (cc (sym mounted ∙ state))) says
plain_away c d r v word.Mounted (Sound h) state content is says =
    goes_as (Some c) d (Some (with_state word.Unmounted (with_history (settled h) c))) r (subst (λ (x : Verdict). Says x (Some c) r d) is says).1
    (record {
      good = settled_good c h state content;
      away = λ none. ap (λ (x : Cube). Some x) (sym (away_mounted c h state content));
      tried = inl (ap (λ (x : Cube). Some x) (sym (away_mounted c h state content)));
      broken = λ was. absurd (sound_unbroken c.content h content was);
    })
plain_away c d r v word.Mounted (Broken rules) state content is says = absurd is
plain_away c d r v word.Mounted Unread state content is says = absurd is

fault_away : (c : Cube) (d : Option Cube) (r : Response) → c.state ≡ word.Mounted → r ≡ Err reply.Fault
    → d ≡ Some (with_state word.Stopped c) → GoesAway (Some c) r d
fault_away c d r mounted fault same = goes_as (Some c) d (Some (with_state word.Stopped c)) r same (record {
  good = stopped_good c mounted;
  away = λ none. absurd (none fault);
  tried = inr (ap (λ (x : Cube). Some x) (sym (stopped_mounted c mounted)));
  broken = λ was. was;
})

mounted_if : (s : StateWord) → is_mounted s ≡ true → s ≡ word.Mounted
mounted_if word.Mounted p = refl
mounted_if word.Unmounted p = absurd (cc p)
mounted_if word.Stopped p = absurd (cc p)
mounted_if word.Offline p = absurd (cc p)

-- what an unmount answers and leaves of a record
own_away : (c d : Option Cube) (r : Response) → Own c Unmount r d → GoesAway c r d
own_away None d r own = ⊎_elim (λ p. absurd p.1) (λ q. ⊎_elim (λ f. absurd (cc f.0)) (λ m. absurd (cc m.0)) q) own
own_away (Some c) d r own = ⊎_elim
    (λ p. plain_away c d r p.0 c.state c.content refl refl p.1 p.2)
    (λ q. ⊎_elim (λ f. fault_away c d r (mounted_if c.state f.0) f.1 f.2) (λ m. absurd (cc m.0)) q)
    own

-- ---- faults

-- a reply that is no fault means none
pub fine_said : (r : Result Value Refusal) (room : RoomContent) → ¬ IsErrOf r code.Fault → meant r room ≢ Err reply.Fault
fine_said r room fine same =
    let none = faults_said r room 0 0 (omega arith) (λ is. absurd (fine is)) in
    let one : fault_in (meant r room) ≡ 1 = ap fault_in same in
    omega (arith, none, one)

-- a reply that is a fault has its cause
pub rose_said : (r : Result Value Refusal) (room : RoomContent) (m n : ℕ) → IsErrOf r code.Fault → RoseBy (fault_in (meant r room)) m n → Rose m n
rose_said r room m n is rose = let one : fault_in (meant r room) ≡ 1 = ap (λ (x : Result Value Refusal). fault_in (meant x room)) is in omega (arith, rose, one)

-- an answer that is good is no fault, and another one is
pub fine_of : (r : Result (Unit {0}) DiskFault) (refusal : Refusal) → OnOk r (refusal ≢ code.Fault) → is_ok r ≡ true → refusal ≢ code.Fault
fine_of (Ok x) refusal other is = other
fine_of (Err e) refusal other is = absurd (cc is)

pub failed_of : (r : Result (Unit {0}) DiskFault) (refusal : Refusal) → OnErr r (refusal ≡ code.Fault) → is_ok r ≡ false → refusal ≡ code.Fault
failed_of (Ok x) refusal failed is = absurd (cc is)
failed_of (Err e) refusal failed is = failed

-- ---- one slot

-- an image that fits the world with a record that is as good fitted the world
pub good_fits : (w : World) (x : ℕ) (d : Option Cube) (i : Image) → IsAsGood (w.cube x) d → Fits (with_slot w x d) i → Fits w i
good_fits w x d i good fits = record {
  tables = fits.tables;
  has = fits.has;
  room = fits.room;
  shows = record { slots = fits.shows.slots; groups = fits.shows.groups; entries = λ y. fits.shows.entries y ∙ (alike y).entry };
  cubes = λ y here. (alike y).has (lot_of fits.tables y) i (fits.cubes y here);
}
  where
    alike : (y : ℕ) → IsAsGood (w.cube y) ((with_slot w x d).cube y)
    alike = each_slot w x d (λ y c. IsAsGood (w.cube y) c) good (λ y other. same_good (w.cube y) (w.cube y) refl)

-- a free slot has nothing to put away
pub puts_none : (v : VolumeView) (s : DiskState) (w : World) (x : ℕ) → w.cube x ≡ None → StandsFor v s w → PutsAway x true v s w
puts_none v s w x free stands = record {
  next = w.cube x;
  stands = record {
    live = stands.live;
    tables = stands.tables;
    room = stands.room;
    shows =
        record { slots = stands.shows.slots; groups = stands.shows.groups; entries = each_slot w x (w.cube x) (λ y c. entry_at (tables_of v.system) y ≡ option_map cube_entry c) (stands.shows.entries x) (λ y other. stands.shows.entries y) };
    cubes = each_slot w x (w.cube x) (λ y c. Carries (cell_at v.cells y) (lot_of (tables_of v.system) y) s c) (stands.cubes x) (λ y other. stands.cubes y);
  };
  good = same_good (w.cube x) (w.cube x) refl;
  away = λ ok. free ∙ sym (ap away_at free);
  tried = inl (free ∙ sym (ap away_at free));
  broken = λ was. was;
}

-- the slot of a path is put away by the line that unmounts its cube
module _ (v : VolumeView) (s : DiskState) (w : World) (stands : StandsFor v s w) (p : List (List ℕ)) (x : ℕ)
    (less : x < v.system.names.slots) (at : path_at v.system.names x ≡ Some p) where
  -- the world after the line
  pub record StepsAway (r : Response) (u : World) : Type 0 where
    pub next : Option Cube
    pub is : u ≡ with_slot w x next
    pub goes : GoesAway (w.cube x) r next

  pub step_away : (r : Response) (u : World) → Step w (Asks (line.Unmount p)) r u → StepsAway r u
  step_away r u step =
      let aims : aim w (Asks (line.Unmount p)) ≡ At x Unmount = ap (λ (q : Option ℕ). to_cube q Unmount) (slot_found v s w stands p x less at) in
      let g : Goes w (At x Unmount) r u = subst (λ (a : Aim). Goes w a r u) aims step in
      record { next = g.0; is = g.2; goes = own_away (w.cube x) g.0 r g.1 }

  -- each crash leaves an image that fits the world
  pub leaves_fit : {D : Type 0} (left : D → ℕ → Image → List ℕ → Type 0) (a b : D) (aside : List ℕ)
      → LeavesOnly left a b (With aside (MayFit w (Asks (line.Unmount p)))) → LeavesOnly left a b (With aside (Fits w))
  leaves_fit left a b aside leaves = record {
    each = λ m i out l. ⊎_elim (λ before. inl before)
        (λ here. inr
        (⊎_elim (λ fits. fits) (λ gone. let away = step_away gone.0 gone.1 gone.2 in good_fits w x away.next i away.goes.good (subst (λ (z : World). Fits z i) away.is gone.4)) here.0, here.1))
        (leaves.each m i out l);
  }

  -- the cube was put away, or its unmount failed
  pub line_puts : (z : VolumeView) (new : DiskState) (r : Response) (ok : Bool) → (ok ≡ true → r ≢ Err reply.Fault)
      → Answers v z s new (Asks (line.Unmount p)) w r → PutsAway x ok z new w
  line_puts z new r ok fine answers =
      let away = step_away r answers.then answers.step in record {
        next = away.next;
        stands = subst (StandsFor z new) away.is answers.stands;
        good = away.goes.good;
        away = λ is. away.goes.away (fine is);
        tried = away.goes.tried;
        broken = away.goes.broken;
      }

  -- a cube that stays broken keeps its lot
  pub line_lots : (z : VolumeView) (new : DiskState) (r : Response) → Answers v z s new (Asks (line.Unmount p)) w r → (y : ℕ) → SaysBroken (w.cube y)
      → lot_of (tables_of z.system) y ≡ lot_of (tables_of v.system) y
  line_lots z new r answers y broken =
      let away = step_away r answers.then answers.step in
      answers.lots y broken (subst (λ (u : World). SaysBroken (u.cube y)) (sym away.is)
      (each_slot w x away.next (λ q c. SaysBroken (w.cube q) → SaysBroken c) away.goes.broken (λ q other was. was) y broken))

-- ---- all slots

and_true : (a b : Bool) → (a && b) ≡ true → (a ≡ true) × (b ≡ true)
and_true true b is = (refl, is)
and_true false b is = absurd (cc is)

-- one slot more was put away
pub away_more : (v z : VolumeView) (s t : DiskState) (w : World) (n : ℕ) (a b : Bool) (so : HasPutAway n a v s w)
    → PutsAway n b z t so.next → HasPutAway (n + 1) (a && b) z t w
away_more v z s t w n a b so puts = record {
  next = with_slot so.next n puts.next;
  stands = puts.stands;
  slots = so.slots;
  groups = so.groups;
  good =
      each_slot so.next n puts.next (λ y c. IsAsGood (w.cube y) c) (good_then (w.cube n) (so.next.cube n) puts.next (so.good n) puts.good)
      (λ y other. so.good y);
  away = λ is. let both = and_true a b is in
      each_slot so.next n puts.next (λ y c. c ≡ away_below (n + 1) w.cube y)
      (puts.away both.1 ∙ ap away_at (so.away both.0 n ∙ at_here) ∙ sym at_more)
      (λ y other. so.away both.0 y ∙ at_other y other);
  tried = each_slot so.next n puts.next (λ y c. y < n + 1 → IsTried (w.cube y) c)
      (λ less. subst (λ (c : Option Cube). IsTried c puts.next) (so.ahead n (omega arith)) puts.tried)
      (λ y other less. so.tried y (omega (arith, less, other)));
  ahead = each_slot so.next n puts.next (λ y c. n + 1 ≤ y → c ≡ w.cube y) (λ far. absurd (omega (arith, far))) (λ y other far. so.ahead y (omega (arith, far)));
  broken = each_slot so.next n puts.next (λ y c. SaysBroken (w.cube y) → SaysBroken c) (λ was. puts.broken (so.broken n was)) (λ y other was. so.broken y was);
}
  where
    at_here : away_below n w.cube n ≡ w.cube n
    at_here = let is : nat_lt n n ≡ false = grind (arith, nat_tests) in ap (λ b. cond b (away_at (w.cube n)) (w.cube n)) is

    at_more : away_below (n + 1) w.cube n ≡ away_at (w.cube n)
    at_more = let is : nat_lt n (n + 1) ≡ true = grind (arith, nat_tests) in ap (λ b. cond b (away_at (w.cube n)) (w.cube n)) is

    at_other : (y : ℕ) → y ≢ n → away_below n w.cube y ≡ away_below (n + 1) w.cube y
    at_other y other = let is : nat_lt y n ≡ nat_lt y (n + 1) = grind (arith, nat_tests) in ap (λ b. cond b (away_at (w.cube y)) (w.cube y)) is

-- an image that fits what was put away so far fitted before
pub away_fits : (n : ℕ) (ok : Bool) (v : VolumeView) (s : DiskState) (w : World) (so : HasPutAway n ok v s w) (i : Image) → Fits so.next i → Fits w i
away_fits n ok v s w so i fits = record {
  tables = fits.tables;
  has = fits.has;
  room = fits.room;
  shows = record { slots = fits.shows.slots ∙ so.slots; groups = fits.shows.groups ∙ so.groups; entries = λ x. fits.shows.entries x ∙ (so.good x).entry };
  cubes = λ x here. (so.good x).has (lot_of fits.tables x) i (fits.cubes x here);
}

-- every slot was put away
pub away_all : (n : ℕ) (v : VolumeView) (s : DiskState) (w : World) → v.system.names.slots ≤ n → (so : HasPutAway n true v s w) → StandsFor v s (finished w)
away_all n v s w few so = record {
  live = so.stands.live;
  tables = so.stands.tables;
  room = so.stands.room;
  shows = record {
    slots = so.stands.shows.slots ∙ so.slots;
    groups = so.stands.shows.groups ∙ so.groups;
    entries = λ x. so.stands.shows.entries x ∙ ap (option_map cube_entry) (all x);
  };
  cubes = λ x. subst (Carries (cell_at v.cells x) (lot_of (tables_of v.system) x) s) (all x) (so.stands.cubes x);
}
  where
    below : (x : ℕ) → (b : Bool) → nat_lt x n ≡ b → away_below n w.cube x ≡ away_at (w.cube x)
    below x true is = ap (λ b. cond b (away_at (w.cube x)) (w.cube x)) is
    below x false is =
        let none : so.next.cube x ≡ None = no_cube s.now (tables_of v.system) so.next x so.stands.tables.now.has so.stands.shows
        (grind (arith, nat_tests, is, few)) in
        let here : w.cube x ≡ None = sym (ap (λ b. cond b (away_at (w.cube x)) (w.cube x)) is) ∙ sym (so.away refl x) ∙ none in
        ap (λ b. cond b (away_at (w.cube x)) (w.cube x)) is ∙ here ∙ sym (ap away_at here)

    all : (x : ℕ) → so.next.cube x ≡ away_at (w.cube x)
    all x = so.away refl x ∙ below x (nat_lt x n) refl

-- an unmount of every cube was tried
pub tried_all : (n : ℕ) (ok : Bool) (v : VolumeView) (s : DiskState) (w : World) → v.system.names.slots ≤ n → (so : HasPutAway n ok v s w) → TriesAll v s w
tried_all n ok v s w few so = record { next = so.next; stands = so.stands; tried = λ x. ⊎_elim (so.tried x) (beyond x) (cases_lt x n) }
  where
    beyond : (x : ℕ) → n ≤ x → IsTried (w.cube x) (so.next.cube x)
    beyond x far =
        let none : so.next.cube x ≡ None = no_cube s.now (tables_of v.system) so.next x so.stands.tables.now.has so.stands.shows (omega (arith, few, far)) in
        inl (none ∙ sym (ap away_at (sym (so.ahead x far) ∙ none)))

-- ---- the loop over the slots

-- the blocks of a session are the same where the image has as many blocks
writable_same : (v z : VolumeView) → total (tables_of z.system) ≡ total (tables_of v.system) → (k : ℕ) → IsWritable z k → IsWritable v k
writable_same v z size k (inl low) = inl low
writable_same v z size k (inr high) = inr (high.0, subst (λ (n : ℕ). k < n) size high.1)

and_false : (a b : Bool) → (a && b) ≡ false → (a ≡ false) ⊎ (b ≡ false)
and_false true b is = inr is
and_false false b is = inl refl

module _ {D : Type 0} (state : D → DiskState) (left : D → ℕ → Image → List ℕ → Type 0) (v z : VolumeView) (a m b : D)
    (size : total (tables_of z.system) ≡ total (tables_of v.system))
    (so : Within state left (IsWritable v) a m) (more : Within state left (IsWritable z) m b) where
  -- the blocks of a session alone change
  pub finish_within : Within state left (IsWritable v) a b
  finish_within = within_then state left (IsWritable v) a m b so (within_more state left (IsWritable z) (IsWritable v) m b (writable_same v z size) more)

  -- no block of a broken cube is written
  pub finish_spares : (w u : World) → ((y : ℕ) → SaysBroken (w.cube y) → lot_of (tables_of z.system) y ≡ lot_of (tables_of v.system) y)
      → ((y : ℕ) → SaysBroken (w.cube y) → SaysBroken (u.cube y))
      → Within state left (Outside (IsOfBroken (tables_of v.system) w)) a m → Within state left (Outside (IsOfBroken (tables_of z.system) u)) m b
      → Within state left (Outside (IsOfBroken (tables_of v.system) w)) a b
  finish_spares w u lots stays first second = within_then state left (Outside (IsOfBroken (tables_of v.system) w)) a m b first
      (within_more state left (Outside (IsOfBroken (tables_of z.system) u)) (Outside (IsOfBroken (tables_of v.system) w)) m b
      (λ k other broken. other (broken.0, stays broken.0 broken.1, subst (λ (lot : LotView). extent lot k) (sym (lots broken.0 broken.1)) broken.2)) second)

  -- a fault has its cause
  pub finish_cause : (p q : Bool) → (p && q) ≡ false → (p ≡ false → Rose (state a).faults (state m).faults)
      → (q ≡ false → Rose (state m).faults (state b).faults) → Rose (state a).faults (state b).faults
  finish_cause p q is first second = let before = so.faults in let after = more.faults in
      ⊎_elim (λ f. let rose = first f in omega (arith, rose, after)) (λ f. let rose = second f in omega (arith, rose, before)) (and_false p q is)

  -- each crash leaves an image that fits the world at the start
  pub finish_leaves : (w : World) (n : ℕ) (ok : Bool) (away : HasPutAway n ok z (state m) w) → LeavesOnly left a m (With (state a).streams.aside (Fits w))
      → LeavesOnly left m b (With (state m).streams.aside (Fits away.next)) → LeavesOnly left a b (With (state a).streams.aside (Fits w))
  finish_leaves w n ok away first second = record {
    each = λ t i out l. ⊎_elim (λ before. first.each t i out before)
        (λ here. inr (away_fits n ok z (state m) w away i here.0, here.1 ∙ ap (λ (x : Streams). x.aside) so.streams))
        (second.each t i out l);
  }
