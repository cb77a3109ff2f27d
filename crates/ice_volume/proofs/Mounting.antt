-- What a mount does to the record of its cube.
use Rattle.std.proofs.Common.{◌≡◌, ◌∙◌, inl, inr, ⊎_elim, ◌≤◌, ◌+◌, ℕ, Bool, true, false, List, [], ◌∷◌, ◌++◌, length, take, Option, Some, None, Result, Ok, Err, refl, sym, ap, subst, arith}
use Rattle.std.specs.Prelude.{⊤, IfOk, IfErr, IsErrOf}
use Rattle.ice_base.specs.Disk.{Image, DiskState, Nowhere, Rose, RoseBy, Caused}
use Rattle.ice_base.specs.Frames.{CrashStep, Within, LeavesOnly, With, Every}
use Rattle.ice_base.specs.FrameLaws.{within_more}
use Rattle.ice_base.specs.Lots.{LotView, extent}
use Rattle.ice_base.specs.declared.fault.Rule.{Rule}
use Rattle.ice_base.proofs.Kept.{kept_within}
use Rattle.tree_spec.specs.Answers.{next_tree, tree_after}
use Rattle.tree_spec.specs.Costs.{Form}
use Rattle.tree_spec.specs.Held.{RoomContent}
use Rattle.tree_spec.specs.Operations.{Operation}
use Rattle.tree_spec.specs.Trees.{Tree}
use Rattle.tree_spec.specs.Why as why
use Rattle.tree_spec.specs.Why.{Why}
use Rattle.tree_spec.specs.Own as order
use Rattle.tree_spec.specs.Own.{Own, Verdict, No, MountFinds, IfMountable, on_mount}
use Rattle.tree_spec.specs.Records.{Cube, Content, Sound, Broken, Unread, History, Mode, cut_to, floor, fresh, tree_at, tree_now, is_mountable, is_offline, with_history, with_state}
use Rattle.tree_spec.specs.Replies.{Response, Because, Tallies, meant, refused_of}
use Rattle.tree_spec.specs.Replies as reply
use Rattle.tree_spec.specs.declared.reply.Refusal.{Refusal}
use Rattle.tree_spec.specs.declared.reply.Refusal.TheVariants as code
use Rattle.tree_spec.specs.declared.reply.StateWord.{StateWord}
use Rattle.tree_spec.specs.declared.reply.StateWord.TheVariants as word
use Rattle.ice_rules.specs.Rules.{rule_number}
use Rattle.ice_images.specs.Fitting.{Has, HasContent}
use Rattle.ice_images.specs.Opening.{closed_state}
use Rattle.ice_images.specs.Recovering.{Recovers, RecoversNothing}
use Rattle.ice_cube.specs.Commands.{open_state}
use Rattle.ice_cube.specs.Cubes.{CubeView, HasHistory, Holds}
use Rattle.ice_cube.specs.Mounting.{RecoversSome, TellsDamage, UnwrittenIfDamaged}
use Rattle.ice_cube.specs.declared.fault.CubeFault.{CubeFault}
use Rattle.ice_cube.specs.declared.fault.CubeFault.TheVariants as cube
use Rattle.ice_cube.proofs.CubeLaws.{holds_cut}
use Rattle.ice_volume.specs.Cells.{Carries, EachHas, IsKnown, cell_state}
use Rattle.ice_volume.specs.Lines.{IsBrokenContent, MountFound, fault_in}
use Rattle.ice_volume.specs.Orders.{AnswersOrder, Becomes, IsCellOf, IsRecord, WritesIn, cell_with, mount_refusal, told_mount}
use Rattle.ice_volume.specs.declared.cell.Cell.{Cell}
use Rattle.ice_volume.specs.declared.cell.Cell.TheVariants.{Closed, Stopped, Open}
use Rattle.ice_volume.proofs.Asking.{record_now}
use Rattle.ice_volume.proofs.Found.{recovers_first}
use Rattle.ice_volume.proofs.Slots.{carries_has, carries_kept, carries_known}
use Rattle.ice_volume.proofs.Telling.{refused_order, sound_leaves, sound_each}

-- ---- states

-- the state of a record is that of its cell
pub record_state : (lot : LotView) (offline : Bool) (cell : Cell) (s : DiskState) (c : Cube) → IsRecord lot offline cell s c → c.state ≡ cell_state cell offline
record_state lot offline Closed s c rec = rec.carries.is ∙ ap closed_state rec.mark
record_state lot offline Stopped s c rec = rec.carries.is
record_state lot offline (Open e) s c rec = rec.carries.record_is.state

mountable : (s : StateWord) → mount_refusal s ≡ None → is_mountable s ≡ true
mountable word.Mounted is = absurd (cc is)
mountable word.Unmounted is = refl
mountable word.Stopped is = refl
mountable word.Offline is = absurd (cc is)

mountable_plain : (s : StateWord) (P : Verdict → Type 0) (v : Verdict) → mount_refusal s ≡ None → P v → IfMountable s P v
mountable_plain word.Mounted P v is p = absurd (cc is)
mountable_plain word.Unmounted P v is p = p
mountable_plain word.Stopped P v is p = p
mountable_plain word.Offline P v is p = absurd (cc is)

mountable_mark : (s : StateWord) → mount_refusal s ≡ None → is_offline s ≡ false
mountable_mark word.Mounted is = absurd (cc is)
mountable_mark word.Unmounted is = refl
mountable_mark word.Stopped is = refl
mountable_mark word.Offline is = absurd (cc is)

-- why a cube in such a state is not mounted
mount_why : StateWord → Why
mount_why word.Mounted = why.Mounted
mount_why _ = why.Offline

why_because : (s : StateWord) (r : Refusal) → mount_refusal s ≡ Some r → refused_of r ≡ Because (mount_why s)
unfolding mount_why
why_because word.Mounted r is = let same : code.Mounted ≡ r = cc is in sym (ap refused_of same)
why_because word.Unmounted r is = absurd (cc is)
why_because word.Stopped r is = absurd (cc is)
why_because word.Offline r is = let same : code.Offline ≡ r = cc is in sym (ap refused_of same)

why_plain : (s : StateWord) (P : Verdict → Type 0) (r : Refusal) → mount_refusal s ≡ Some r → IfMountable s P (No (mount_why s))
unfolding mount_why
why_plain word.Mounted P r is = refl
why_plain word.Unmounted P r is = absurd (cc is)
why_plain word.Stopped P r is = absurd (cc is)
why_plain word.Offline P r is = refl

why_found : (lot : LotView) (i : Image) (s : StateWord) (d : Option Cube) → MountFound lot i (Err (Because (mount_why s))) d
unfolding mount_why
why_found lot i word.Mounted d = tt
why_found lot i word.Unmounted d = tt
why_found lot i word.Stopped d = tt
why_found lot i word.Offline d = tt

-- a cube that is mounted or offline refuses a mount
pub unmounted_order : {D : Type 0} (state : D → DiskState) (left : D → ℕ → Image → List ℕ
    → Type 0) (lot : LotView) (offline : Bool) (cell : Cell) (room : RoomContent) (r : Refusal) (s : StateWord) (a : D)
    → IsCellOf lot cell → s ≡ cell_state cell offline → mount_refusal s ≡ Some r → AnswersOrder state left lot order.Mount offline cell cell room (Err r) a a
unmounted_order state left lot offline cell room r s a at is refuses =
    refused_order state left lot order.Mount offline cell room r (mount_why s) a (why_because s r refuses) at
    (λ c rec. (
      subst (λ (z : StateWord). IfMountable z (MountFinds c c.content) (No (mount_why s)))
          (is ∙ sym (record_state lot offline cell (state a) c rec)) (why_plain s (MountFinds c c.content) r refuses),
      why_found lot (state a).now s (Some c),
    ))

-- ---- a mount

-- what a mount of a lot says
pub record MountSays {D : Type 0} (state : D → DiskState) (left : D → ℕ → Image → List ℕ → Type 0) (lot : LotView)
    (r : Result CubeView CubeFault) (a b : D) : Type 0 where
  pub starts : IfOk r (λ e. (e.lot ≡ lot) × (e.set ≡ []) × (e.stopped ≡ false))
  pub memory : IsErrOf r cube.Memory → b ≡ a
  pub failed : Caused state cube.Disk r a b
  pub within : Within state left (extent lot) a b
  pub unwritten : IfErr r (UnwrittenIfDamaged state left a b)
  pub idle : (state a).tells ≡ true → RecoversNothing lot (state a).now → Within state left Nowhere a b
  pub recovered : (state a).tells ≡ true → IfOk r (λ e. RecoversSome lot (state a).now e.done)
  pub damaged : (state a).tells ≡ true → IfErr r (TellsDamage lot (state a).now)
  pub mounted : (f : Form) (mode : Mode) (t : Tree) (k : ℕ) → (state a).tells ≡ true → Recovers lot (state a).now f mode t k
      → IfOk r (λ e. Holds f mode (fresh t k) e (state b))
  pub crash : (f : Form) (mode : Mode) (h : History) → (state a).tells ≡ true → Every (extent lot) (state a) (HasHistory lot f mode h)
      → CrashStep state left (extent lot) (HasHistory lot f mode h) a b

mount_faults : (r : Result CubeView CubeFault) (room : RoomContent) (m n : ℕ) → m ≤ n → (IsErrOf r cube.Disk → Rose m n)
    → RoseBy (fault_in (meant (told_mount r) room)) m n
mount_faults (Ok e) room m n le cause = omega (arith, le)
mount_faults (Err cube.Memory) room m n le cause = omega (arith, le)
mount_faults (Err cube.Disk) room m n le cause = cause refl
mount_faults (Err (cube.Damaged x)) room m n le cause = omega (arith, le)

mount_tallies : (r : Result CubeView CubeFault) (room : RoomContent) → Tallies (told_mount r) room
mount_tallies (Ok e) room = tt
mount_tallies (Err x) room = tt

-- the tree after two lists of operations is that of the second after that of the first
pub after_append : (xs ys : List Operation) (t : Tree) → tree_after (xs ++ ys) t ≡ tree_after ys (tree_after xs t)
after_append [] ys t = refl
after_append (op ∷ xs) ys t = after_append xs ys (next_tree op t)

-- a cell that has no mounted cube
abbrev IsIdle : Cell → Type 0
IsIdle Closed = ⊤
IsIdle Stopped = ⊤
IsIdle (Open e) = e.stopped ≡ true

stopped_by : (b : Bool) → is_mountable (open_state b) ≡ true → b ≡ true
stopped_by true is = refl
stopped_by false is = absurd (cc is)

mountable_idle : (cell : Cell) (offline : Bool) → is_mountable (cell_state cell offline) ≡ true → IsIdle cell
mountable_idle Closed offline is = tt
mountable_idle Stopped offline is = tt
mountable_idle (Open e) offline is = stopped_by e.stopped is

-- an idle cell carries what its lot has
idle_carries : (cell : Cell) (lot : LotView) (a b : DiskState) (c : Cube) → IsIdle cell → EachHas lot b (Some c)
    → IsKnown lot b.now c c.content → Carries cell lot a (Some c) → Carries cell lot b (Some c)
idle_carries Closed lot a b c idle each known carries = record { each = each; known = known; is = carries.is }
idle_carries Stopped lot a b c idle each known carries = record { each = each; known = known; is = carries.is }
idle_carries (Open e) lot a b c idle each known carries = let r = carries.record_is in record {
  lot_is = carries.lot_is;
  record_is = record {
    groups = r.groups;
    state = r.state;
    history = r.history;
    sound = r.sound;
    holds = record {
      lasts = subst (λ (l : LotView). Every (extent l) b (HasHistory l c.form c.mode r.history)) (sym carries.lot_is)
          (subst (λ (x : Content). Every (extent lot) b (λ i. HasContent lot i c.form c.mode x)) r.sound each);
      runs = λ live. absurd (cc (sym live ∙ idle));
    };
  };
}

-- the lot of a broken cube recovers nothing
broken_nothing : (lot : LotView) (i : Image) (c : Cube) (x : Content) → IsKnown lot i c x → IsBrokenContent x → RecoversNothing lot i
broken_nothing lot i c (Sound h) known broken = absurd broken
broken_nothing lot i c (Broken rules) known broken = known.nothing
broken_nothing lot i c Unread known broken = absurd broken

-- the same count, said another way
same_count : (lot : LotView) (i : Image) (f : Form) (mode : Mode) (t : Tree) (k n : ℕ) → k ≡ n → Recovers lot i f mode t k → Recovers lot i f mode t n
same_count lot i f mode t k n is r = subst (λ (x : ℕ). Recovers lot i f mode t x) is r

module _ {D : Type 0} (state : D → DiskState) (left : D → ℕ → Image → List ℕ → Type 0) (lot : LotView) (cell : Cell) (offline : Bool)
    (room : RoomContent) (r : Result CubeView CubeFault) (a b : D)
    (can : mount_refusal (cell_state cell offline) ≡ None) (s : MountSays state left lot r a b) where
  module _ (c : Cube) (rec : IsRecord lot offline cell (state a) c) where
    can_mount : mount_refusal c.state ≡ None
    can_mount = ap mount_refusal (record_state lot offline cell (state a) c rec) ∙ can

    mount_plain : (v : Verdict) → MountFinds c c.content v → IfMountable c.state (MountFinds c c.content) v
    mount_plain v finds = mountable_plain c.state (MountFinds c c.content) v can_mount finds

    idle : IsIdle cell
    idle = mountable_idle cell offline (mountable (cell_state cell offline) can)

    -- each crash leaves what the record says
    leaves_by : (x : Content) → c.content ≡ x → LeavesOnly left a b (With (state a).streams.aside (λ i. Has lot i (Some c)))
    leaves_by (Sound h) is = sound_leaves state left lot c h is a b (s.crash c.form c.mode h rec.told
        (subst (λ (x : Content). Every (extent lot) (state a) (λ i. HasContent lot i c.form c.mode x)) is
        (carries_has cell lot (state a) (Some c) rec.carries)))
    leaves_by (Broken rules) is =
        record { each = λ m i out l. ⊎_elim (λ before. inl before) (λ here. inr (subst (λ (x : Content). HasContent lot i c.form c.mode x) (sym is) tt, here.1)) (s.within.left_new m i out l) }
    leaves_by Unread is =
        record { each = λ m i out l. ⊎_elim (λ before. inl before) (λ here. inr (subst (λ (x : Content). HasContent lot i c.form c.mode x) (sym is) tt, here.1)) (s.within.left_new m i out l) }

    still_carries : Within state left Nowhere a b → Carries cell lot (state b) (Some c)
    still_carries still =
        carries_kept lot (state a) (state b) (kept_within state left (extent lot) Nowhere a b (λ k own never. never) still) cell (Some c) rec.carries

    -- a broken cube's lot is not written
    spares_broken : IsBrokenContent c.content → Within state left Nowhere a b
    spares_broken broken = s.idle rec.told (broken_nothing lot (state a).now c c.content (carries_known cell lot (state a) c rec.carries) broken)

    -- a mount that the disk failed leaves the record
    fault_carries : (x : Content) → c.content ≡ x → Carries cell lot (state b) (Some c)
    fault_carries (Sound h) is = idle_carries cell lot (state a) (state b) c idle
        (sound_each state left lot c h is a b (s.crash c.form c.mode h rec.told
        (subst (λ (x : Content). Every (extent lot) (state a) (λ i. HasContent lot i c.form c.mode x)) is
        (carries_has cell lot (state a) (Some c) rec.carries))))
        (subst (λ (x : Content). IsKnown lot (state b).now c x) (sym is) tt) rec.carries
    fault_carries (Broken rules) is =
        still_carries (s.idle rec.told (subst (λ (x : Content). IsKnown lot (state a).now c x) is (carries_known cell lot (state a) c rec.carries)).nothing)
    fault_carries Unread is = idle_carries cell lot (state a) (state b) c idle
        (λ i agrees. subst (λ (x : Content). HasContent lot i c.form c.mode x) (sym is) tt)
        (subst (λ (x : Content). IsKnown lot (state b).now c x) (sym is)
        (subst (λ (x : Content). IsKnown lot (state a).now c x) is (carries_known cell lot (state a) c rec.carries))) rec.carries

    -- a cube that was mounted with the tree of one of the history's counts
    mount_found : (e : CubeView) → r ≡ Ok e → (h : History) (j : ℕ) → j ≤ length h.since
        → Recovers lot (state a).now c.form c.mode (tree_at h j) (floor h + j) → MountFinds c c.content (on_mount c h j)
        → Becomes state left lot order.Mount (Open e) a b c (meant (told_mount (Ok e)) room)
    mount_found e is h j few found finds =
        let starts : (e.lot ≡ lot) × (e.set ≡ []) × (e.stopped ≡ false) = subst
        (λ q. IfOk q (λ (x : CubeView). (x.lot ≡ lot) × (x.set ≡ []) × (x.stopped ≡ false))) is s.starts in
        let holds : Holds c.form c.mode (fresh (tree_at h j) (floor h + j)) e (state b) =
        subst (λ q. IfOk q (λ (x : CubeView). Holds c.form c.mode (fresh (tree_at h j) (floor h + j)) x (state b))) is
        (s.mounted c.form c.mode (tree_at h j) (floor h + j) rec.told found) in
        let count : e.done ≡ floor h + j = (let n = (holds.runs starts.2).count in omega (arith, n)) in
        record {
          then = with_state word.Mounted (with_history (cut_to h j) c);
          own = inl (on_mount c h j, mount_plain (on_mount c h j) finds, (ap (λ (n : ℕ). Ok (reply.Number n)) count, refl));
          carries = record {
            lot_is = starts.0;
            record_is = record {
              groups = rec.groups ∙ ap (λ (l : LotView). length l.groups) (sym starts.0);
              state = sym (ap open_state starts.2);
              history = cut_to h j;
              sound = refl;
              holds = holds_cut c.form c.mode h j e (state b) few holds;
            };
          };
          entry = ap (λ (o : Bool). record { path = c.path; groups = c.groups; offline = o }) (sym (mountable_mark c.state can_mount));
          found = (
            cut_to h j,
            refl,
            same_count lot (state a).now c.form c.mode (tree_now (cut_to h j)) (floor h + j) e.done (sym count)
                (subst (λ (t : Tree). Recovers lot (state a).now c.form c.mode t (floor h + j)) (sym (after_append h.sure (take j h.since) h.base)) found),
          );
          leaves = leaves_by c.content refl;
          frame = s.within;
          spares = spares_broken;
        }

    mount_some : (e : CubeView) → r ≡ Ok e → (x : Content) → c.content ≡ x → HasContent lot (state a).now c.form c.mode x → IsKnown lot (state a).now c x
        → Becomes state left lot order.Mount (Open e) a b c (meant (told_mount (Ok e)) room)
    mount_some e is (Sound h) content has known =
        mount_found e is h has.0 has.1 has.2 (subst (λ (x : Content). MountFinds c x (on_mount c h has.0)) (sym content) (has.0, has.1, refl))
    mount_some e is (Broken rules) content has known =
        let some : RecoversSome lot (state a).now e.done = subst (λ q. IfOk q (λ (x : CubeView). RecoversSome lot (state a).now x.done)) is
        (s.recovered rec.told) in
        absurd (known.nothing some.form some.mode some.tree e.done some.recovers)
    mount_some e is Unread content has known =
        let some : RecoversSome lot (state a).now e.done = subst (λ q. IfOk q (λ (x : CubeView). RecoversSome lot (state a).now x.done)) is
        (s.recovered rec.told) in
        let first = recovers_first lot (state a).now some.form some.mode some.tree e.done some.recovers in
        let found : Recovers lot (state a).now c.form c.mode some.tree e.done =
        subst (λ (g : Form). Recovers lot (state a).now g c.mode some.tree e.done) (first.0 ∙ sym known.0)
        (subst (λ (m : Mode). Recovers lot (state a).now some.form m some.tree e.done) (first.1 ∙ sym known.1) some.recovers) in
        let h = fresh some.tree e.done in
        let count : e.done ≡ floor h + 0 = omega arith in
        mount_found e is h 0 (omega arith) (same_count lot (state a).now c.form c.mode some.tree e.done (floor h + 0) count found)
        (subst (λ (x : Content). MountFinds c x (on_mount c h 0)) (sym content) (inr (some.tree, e.done, refl)))

    damage_finds : (y : Rule) → TellsDamage lot (state a).now (cube.Damaged y) → (x : Content)
        → HasContent lot (state a).now c.form c.mode x → IsKnown lot (state a).now c x
        → MountFinds c x (No (why.Damaged (rule_number y)))
    damage_finds y damage (Sound h) has known = absurd (damage.0 c.form c.mode (tree_at h has.0) (floor h + has.0) has.2)
    damage_finds y damage (Broken rules) has known = (rule_number y, known.named.all y damage.1, refl)
    damage_finds y damage Unread has known = inl (rule_number y, refl)

    mount_none : (fault : CubeFault) → r ≡ Err fault → Becomes state left lot order.Mount cell a b c (meant (told_mount (Err fault)) room)
    mount_none cube.Memory is =
        let same : b ≡ a = s.memory (subst (λ q. IsErrOf q cube.Memory) (sym is) refl) in record {
          then = c;
          own = inr (inr (mountable c.state can_mount, refl, refl));
          carries = subst (λ (d : D). Carries cell lot (state d) (Some c)) (sym same) rec.carries;
          entry = refl;
          found = tt;
          leaves = leaves_by c.content refl;
          frame = s.within;
          spares = spares_broken;
        }
    mount_none cube.Disk is = record {
      then = c;
      own = inr (inl (mountable c.state can_mount, refl, refl));
      carries = fault_carries c.content refl;
      entry = refl;
      found = tt;
      leaves = leaves_by c.content refl;
      frame = s.within;
      spares = spares_broken;
    }
    mount_none (cube.Damaged y) is =
        let damage : TellsDamage lot (state a).now (cube.Damaged y) = subst (λ q. IfErr q (TellsDamage lot (state a).now)) is (s.damaged rec.told) in
        let still : UnwrittenIfDamaged state left a b (cube.Damaged y) = subst (λ q. IfErr q (UnwrittenIfDamaged state left a b)) is s.unwritten in record {
          then = c;
          own = inl (
            No (why.Damaged (rule_number y)),
            mount_plain (No (why.Damaged (rule_number y)))
                (damage_finds y damage c.content (record_now lot offline cell (state a) c rec) (carries_known cell lot (state a) c rec.carries)),
            (refl, refl),
          );
          carries = still_carries still.within;
          entry = refl;
          found = damage.0;
          leaves = leaves_by c.content refl;
          frame =
              within_more state left Nowhere (WritesIn lot order.Mount (Err (Because (why.Damaged (rule_number y))))) a b
              (λ k never. absurd never) still.within;
          spares = spares_broken;
        }

    mount_each : (q : Result CubeView CubeFault) → r ≡ q → Becomes state left lot order.Mount (cell_with cell q) a b c (meant (told_mount q) room)
    mount_each (Ok e) is = mount_some e is c.content refl (record_now lot offline cell (state a) c rec) (carries_known cell lot (state a) c rec.carries)
    mount_each (Err fault) is = mount_none fault is

  cell_mounted : (q : Result CubeView CubeFault) → IfOk q (λ e. (e.lot ≡ lot) × (e.set ≡ []) × (e.stopped ≡ false)) → IsCellOf lot cell
      → IsCellOf lot (cell_with cell q)
  cell_mounted (Ok e) starts at = starts.0
  cell_mounted (Err fault) starts at = at

  -- a mount of a lot whose cube can be mounted
  pub mount_order : IsCellOf lot cell → AnswersOrder state left lot order.Mount offline cell (cell_with cell r) room (told_mount r) a b
  mount_order at = record {
    cell = cell_mounted r s.starts at;
    within = s.within;
    faults = mount_faults r room (state a).faults (state b).faults s.within.faults s.failed;
    tallies = mount_tallies r room;
    each = λ c rec. mount_each c rec r refl;
  }
