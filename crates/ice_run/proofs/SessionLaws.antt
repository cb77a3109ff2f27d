-- One more line of a session, answered whole or in part, or not at all.
use Rattle.std.proofs.Common.{Ok, Err, IsOk, ◌≡◌, ◌∙◌, ◌⊎◌, inl, inr, ⊎_elim, ◌<◌, ◌≤◌, ◌+◌, ℕ, List, [], ◌∷◌, ◌++◌, length, take, refl, sym, ap, subst, append_assoc, arith}
use Rattle.std.proofs.lemmas.List.{take_all}
use Rattle.ice_base.specs.Disk.{Image, DiskState, Everywhere, Outside, Streams, Rose, RoseBy}
use Rattle.ice_base.specs.Frames.{LeavesOnly, With, Within}
use Rattle.ice_base.proofs.Kept.{kept_same}
use Rattle.ice_base.specs.Host.{SameDisk, Leaves, FirstOf, CutOf}
use Rattle.tree_spec.specs.Lines.{Line}
use Rattle.tree_spec.specs.Replies.{Response, HasNames}
use Rattle.tree_spec.specs.World.{World, Step, aim}
use Rattle.ice_text.specs.Text.{text, closings, ended, data_lines, closing_line}
use Rattle.ice_text.proofs.Closings.{closings-part}
use Rattle.ice_images.specs.Fitting.{Fits}
use Rattle.ice_tables.specs.Lots.{lot_of}
use Rattle.ice_system.specs.Systems.{tables_of}
use Rattle.ice_volume.specs.Lines.{IsOfBroken, IsTableOrder, MayFit, SaysBroken, fault_in}
use Rattle.ice_volume.specs.Volumes.{VolumeView, StandsFor}
use Rattle.ice_volume.proofs.StandLaws.{stands_fits}
use Rattle.ice_run.specs.Crashes.{Reached, CrashLeaves, KeepsBroken, SparesBroken}
use Rattle.ice_run.specs.Runs.{Answered, Next, end, lines_of, reply_texts, faults_of, IsProperPrefix}
use Rattle.ice_run.specs.Sessions.{GaveReplies, KeepsLots, SoFar, CutShort, FailedLate, CrashesSo}
use Rattle.ice_run.proofs.Refusals.{fits_refused}
use Rattle.ice_run.proofs.Sparing.{keeps_on, keeps_push, keeps_then, kept_spares, lots_push, spares_push, work_spares}
use Rattle.ice_run.proofs.Runs.{push, named-push, closings-texts, closings-none, first-push, end-push, lines_of-push, texts-push, faults-push, front}

append_nil : (xs : List ℕ) → xs ++ [] ≡ xs
append_nil [] = refl
append_nil (x ∷ xs) = ap (λ (y : List ℕ). x ∷ y) (append_nil xs)

-- what was given, with some further bytes
shifted : (aside given mid more out : List ℕ) → mid ≡ aside ++ given ++ [] → out ≡ mid ++ more → out ≡ aside ++ (given ++ more)
shifted aside given mid more out is was = was ∙ ap (λ (x : List ℕ). x ++ more) (is ∙ append_nil (aside ++ given)) ∙ append_assoc aside given more

-- no text of a reply is empty
some_line : (xs : List (List ℕ)) (line : List ℕ) → 0 < length (ended (xs ++ line ∷ []))
some_line [] [] = omega arith
some_line [] (b ∷ line) = omega arith
some_line ([] ∷ xs) line = omega arith
some_line ((b ∷ x) ∷ xs) line = omega arith

pub part_empty : (r : Response) → IsProperPrefix [] (text r)
unfolding text
part_empty r = (text r, some_line (data_lines r) (closing_line r), refl)

-- the front of a reply has no closing line
part_none : (r : Response) (m : ℕ) → m < length (text r) → HasNames r → closings (take m (text r)) ≡ 0
part_none r m less names = let p = front (text r) m less in closings-part r (take m (text r)) p.0 names p.2 p.1

take_same : (xs : List ℕ) (n : ℕ) → n ≡ length xs → take n xs ≡ xs
take_same xs n is = grind (arith, take_all)

same_or_less : (m n : ℕ) → m ≤ n → (m < n) ⊎ (m ≡ n)
same_or_less m n le = grind arith

pub rose_more : (n m a b c : ℕ) → RoseBy n a b → RoseBy m b c → RoseBy (n + m) a c
rose_more n m a b c p q = omega (arith, p, q)

pub rose_later : (n a b c : ℕ) → RoseBy n a b → b ≤ c → RoseBy n a c
rose_later n a b c p q = omega (arith, p, q)

-- whole replies were given, and the image fits a world that is reached
pub between_lines : (w : World) (script lines : List Line) (old mid : DiskState) (image : Image) (out : List ℕ) (gave : GaveReplies w script lines [] old mid) (v : World)
    → Reached w script gave.steps [] v → Fits v image → out ≡ mid.streams.aside
    → SparesBroken old w gave.steps image → CrashLeaves old w script image out
between_lines w script lines old mid image out gave v reached fits same spares = (
  reply_texts gave.steps,
  same ∙ gave.gives ∙ append_nil (old.streams.aside ++ reply_texts gave.steps),
  record {
    steps = gave.steps;
    runs = gave.first;
    tail = [];
    gives = sym (append_nil (reply_texts gave.steps));
    count = ap closings (sym (append_nil (reply_texts gave.steps))) ∙ closings-texts gave.steps [] gave.named closings-none;
    front = inl refl;
    world = v;
    reached = reached;
    holds = fits;
    spares = spares;
  },
)

module _ (w : World) (script lines ahead : List Line) (line : Line) (old mid : DiskState) (gave : GaveReplies w script lines [] old mid)
    (is : script ≡ lines ++ line ∷ ahead) where
  first_lines : script ≡ lines_of gave.steps ++ line ∷ ahead
  first_lines = is ∙ ap (λ (x : List Line). x ++ line ∷ ahead) (sym gave.asked)

  next_to : (r : Response) (v : World) → Step (end w gave.steps) line r v → Next w script gave.steps r v
  next_to r v step = record { line = line; ahead = ahead; lines = first_lines; step = step }

  -- a crash while the line is in work
  left_in_work : (image : Image) (out : List ℕ) → MayFit (end w gave.steps) line image → out ≡ mid.streams.aside
      → SparesBroken old w gave.steps image → CrashLeaves old w script image out
  left_in_work image out may same spares = ⊎_elim
      (λ fits. between_lines w script lines old mid image out gave (end w gave.steps) (inl refl) fits same spares)
      (λ next. between_lines w script lines old mid image out gave next.1
      (inr (next.0, next_to next.0 next.1 next.2, next.3, part_empty next.0)) next.4 same spares)
      may

  module _ (r : Response) (v : World) (step : Step (end w gave.steps) line r v) (names : HasNames r) where
    more_steps : List Answered
    more_steps = push gave.steps line r v

    -- all of the reply was given
    gave_more : (at new : DiskState) → at.streams.aside ≡ mid.streams.aside → RoseBy (fault_in r) mid.faults new.faults
        → new.streams.aside ≡ at.streams.aside ++ text r → GaveReplies w script (lines ++ line ∷ []) [] old new
    unfolding more_steps
    gave_more at new still faults all = record {
      steps = more_steps;
      first = first-push w script gave.steps line ahead r v gave.first first_lines step;
      asked = lines_of-push gave.steps line r v ∙ ap (λ (x : List Line). x ++ line ∷ []) gave.asked;
      named = named-push gave.steps line r v gave.named names;
      gives =
          shifted old.streams.aside (reply_texts gave.steps) mid.streams.aside (text r) new.streams.aside gave.gives
          (all ∙ ap (λ (x : List ℕ). x ++ text r) still)
          ∙ ap (λ (x : List ℕ). old.streams.aside ++ x) (sym (texts-push gave.steps line r v)) ∙ sym (append_nil (old.streams.aside ++ reply_texts more_steps));
      faults =
          subst (λ n. RoseBy n old.faults new.faults) (sym (faults-push gave.steps line r v))
          (rose_more (faults_of gave.steps) (fault_in r) old.faults mid.faults new.faults gave.faults faults);
    }

    more_end : (at new : DiskState) (still : at.streams.aside
        ≡ mid.streams.aside) (faults : RoseBy (fault_in r) mid.faults new.faults) (all : new.streams.aside ≡ at.streams.aside ++ text r)
        → end w (gave_more at new still faults all).steps ≡ v
    unfolding more_steps gave_more
    more_end at new still faults all = end-push w gave.steps line r v

    -- a cube that stays broken keeps its lot, as it was
    more_lots : (at new : DiskState) (still : at.streams.aside
        ≡ mid.streams.aside) (faults : RoseBy (fault_in r) mid.faults new.faults) (all : new.streams.aside ≡ at.streams.aside ++ text r) (x z : VolumeView)
        → ((y : ℕ) → SaysBroken ((end w gave.steps).cube y) → SaysBroken (v.cube y) → lot_of (tables_of z.system) y ≡ lot_of (tables_of x.system) y)
        → KeepsLots x old w gave.steps → KeepsLots z old w (gave_more at new still faults all).steps
    unfolding more_steps gave_more
    more_lots at new still faults all x z same lots = lots_push x z old w gave.steps line r v same lots

    more_keeps : (at new : DiskState) (still : at.streams.aside
        ≡ mid.streams.aside) (faults : RoseBy (fault_in r) mid.faults new.faults) (all : new.streams.aside ≡ at.streams.aside ++ text r)
        → KeepsBroken old w gave.steps new → KeepsBroken old w (gave_more at new still faults all).steps new
    unfolding more_steps gave_more
    more_keeps at new still faults all keeps = keeps_push old new w gave.steps line r v keeps

    -- a front of the reply was given
    gave_part : (new : DiskState) (m : ℕ) → mid.faults ≤ new.faults → new.streams.aside ≡ mid.streams.aside ++ take m (text r)
        → GaveReplies w script lines (take m (text r)) old new
    gave_part new m more part = record {
      steps = gave.steps;
      first = gave.first;
      asked = gave.asked;
      named = gave.named;
      gives =
          shifted old.streams.aside (reply_texts gave.steps) mid.streams.aside (take m (text r)) new.streams.aside gave.gives part
          ∙ sym (append_assoc old.streams.aside (reply_texts gave.steps) (take m (text r)));
      faults = rose_later (faults_of gave.steps) old.faults mid.faults new.faults gave.faults more;
    }

    -- the world that an image fits where a front of the reply was given: after a refusal it is the one before as well
    reached_by : (q : Response) → q ≡ r → (image : Image) (tail : List ℕ) → Fits v image → IsProperPrefix tail (text r)
        → (u : World) × Reached w script gave.steps tail u × Fits u image
    reached_by (Ok x) same image tail fits part = (v, inr (r, next_to r v step, subst IsOk same refl, part), fits)
    reached_by (Err e) same image tail fits part =
        (end w gave.steps, inl refl, fits_refused (λ s. Unit {0}) (end w gave.steps) v line e image (subst (λ q. Step (end w gave.steps) line q v) (sym same) step) fits)

    left_part : (image : Image) (out : List ℕ) (m : ℕ) → Fits v image → m < length (text r) → out ≡ mid.streams.aside ++ take m (text r)
        → SparesBroken old w gave.steps image → CrashLeaves old w script image out
    left_part image out m fits less part spares =
        let at = reached_by r refl image (take m (text r)) fits (front (text r) m less) in (
          reply_texts gave.steps ++ take m (text r),
          shifted old.streams.aside (reply_texts gave.steps) mid.streams.aside (take m (text r)) out gave.gives part,
          record {
            steps = gave.steps;
            runs = gave.first;
            tail = take m (text r);
            gives = refl;
            count = closings-texts gave.steps (take m (text r)) gave.named (part_none r m less names);
            front = inr (r, v, next_to r v step, front (text r) m less);
            world = at.0;
            reached = at.1;
            holds = at.2;
            spares = spares;
          },
        )

    left_whole : (image : Image) (out : List ℕ) → Fits v image → out ≡ mid.streams.aside ++ text r → SparesBroken old w gave.steps image
        → CrashLeaves old w script image out
    unfolding more_steps
    left_whole image out fits all spares = (
      reply_texts more_steps,
      shifted old.streams.aside (reply_texts gave.steps) mid.streams.aside (text r) out gave.gives all
          ∙ ap (λ (x : List ℕ). old.streams.aside ++ x) (sym (texts-push gave.steps line r v)),
      record {
        steps = more_steps;
        runs = first-push w script gave.steps line ahead r v gave.first first_lines step;
        tail = [];
        gives = sym (append_nil (reply_texts more_steps));
        count =
            ap closings (sym (append_nil (reply_texts more_steps)))
            ∙ closings-texts more_steps [] (named-push gave.steps line r v gave.named names) closings-none;
        front = inl refl;
        world = v;
        reached = inl (sym (end-push w gave.steps line r v));
        holds = fits;
        spares = spares_push old w gave.steps line r v image spares;
      },
    )

    -- each crash while the reply is given leaves what a run may leave
    left_in_reply : (image : Image) (out : List ℕ) → Fits v image → FirstOf mid.streams.aside (text r) (length (text r)) out
        → SparesBroken old w gave.steps image → CrashLeaves old w script image out
    left_in_reply image out fits first spares = ⊎_elim
        (λ less. left_part image out first.0 fits less first.2 spares)
        (λ same. left_whole image out fits (first.2 ∙ ap (λ (x : List ℕ). mid.streams.aside ++ x) (take_same (text r) first.0 same)) spares)
        (same_or_less first.0 (length (text r)) first.1)

module _ {D : Type 0} (state : D → DiskState) (left : D → ℕ → Image → List ℕ → Type 0) (w : World) (script lines ahead : List Line)
    (line : Line) (start a b : D) (v : VolumeView)
    (so_far : SoFar state left w script v lines start a) (is : script ≡ lines ++ line ∷ ahead) (streams : (state b).streams ≡ (state a).streams)
    (leaves : LeavesOnly left a b (With (state a).streams.aside (MayFit (end w so_far.gave.steps) line)))
    (sparing : Within state left (Outside (IsOfBroken (tables_of v.system) (end w so_far.gave.steps))) a b) where
  -- each crash up to the reply
  crash_worked : CrashesSo state left w script start b
  crash_worked = record {
    each = λ t image out l. ⊎_elim (λ before. so_far.crash.each t image out before)
        (λ here. ⊎_elim (λ before. so_far.crash.each t image out before)
        (λ agrees. inr (left_in_work w script lines ahead line (state start) (state a) so_far.gave is image out here.0 here.1
        (work_spares state left w v (state start) so_far.gave.steps a b so_far.lots so_far.spares sparing image agrees.0)))
        (sparing.left_new t image out l))
        (leaves.each t image out l);
  }

  -- what was kept of broken cubes is kept up to the reply
  keeps_worked : KeepsBroken (state start) w so_far.gave.steps (state b)
  keeps_worked = keeps_on state left w v (state start) so_far.gave.steps a b so_far.lots so_far.spares sparing

  -- a change of the tables failed late
  pub failed_late : Rose (state a).faults (state b).faults → IsTableOrder (aim (end w so_far.gave.steps) line)
      → FailedLate state left w script (lines ++ line ∷ []) start b
  failed_late rose order = record {
    lines = lines;
    gave = record {
      steps = so_far.gave.steps;
      first = so_far.gave.first;
      asked = so_far.gave.asked;
      named = so_far.gave.named;
      gives = ap (λ (x : Streams). x.aside) streams ∙ so_far.gave.gives;
      faults = omega (arith, so_far.gave.faults, rose);
    };
    line = line;
    ahead = [];
    next = ap (λ (x : List Line). x ++ line ∷ []) (sym so_far.gave.asked);
    order = order;
    faults = rose_more (faults_of so_far.gave.steps) 1 (state start).faults (state a).faults (state b).faults so_far.gave.faults rose;
    crash = crash_worked;
    spares = keeps_worked;
  }

  module _ (z : VolumeView) (r : Response) (u : World) (step : Step (end w so_far.gave.steps) line r u) (stands : StandsFor z (state b) u)
      (lots : (x : ℕ) → SaysBroken ((end w so_far.gave.steps).cube x) → SaysBroken (u.cube x) → lot_of (tables_of z.system) x ≡ lot_of (tables_of v.system) x)
      (names : HasNames r) (faults : RoseBy (fault_in r) (state a).faults (state b).faults) (c : D)
      (same : SameDisk (state b) (state c)) (gives : Leaves state left (FirstOf (state b).streams.aside (text r) (length (text r))) b c)
      (on : StandsFor z (state c) u) where
    aside_same : (state b).streams.aside ≡ (state a).streams.aside
    aside_same = ap (λ (x : Streams). x.aside) streams

    crash_given : CrashesSo state left w script start c
    crash_given = record {
      each = λ t image out l. ⊎_elim (λ before. crash_worked.each t image out before)
          (λ here. inr
          (left_in_reply w script lines ahead line (state start) (state a) so_far.gave is r u step names image out
          (stands_fits z (state b) u stands image here.0)
          (subst (λ (x : List ℕ). FirstOf x (text r) (length (text r)) out) aside_same here.1)
          (kept_spares (state start) (state b) w so_far.gave.steps image keeps_worked here.0)))
          (gives.left_new t image out l);
    }

    keeps_given : KeepsBroken (state start) w so_far.gave.steps (state c)
    keeps_given = keeps_then (state start) (state b) (state c) w so_far.gave.steps keeps_worked (kept_same Everywhere (state b) (state c) same)

    faults_on : RoseBy (fault_in r) (state a).faults (state c).faults
    faults_on = subst (λ n. RoseBy (fault_in r) (state a).faults n) (sym same.faults) faults

    pub answered_more : (state c).streams.aside ≡ (state b).streams.aside ++ text r → SoFar state left w script z (lines ++ line ∷ []) start c
    answered_more all = record {
      gave = gave_more w script lines ahead line (state start) (state a) so_far.gave is r u step names (state b) (state c) aside_same faults_on all;
      stands =
          subst (λ (x : World). StandsFor z (state c) x)
          (sym (more_end w script lines ahead line (state start) (state a) so_far.gave is r u step names (state b) (state c) aside_same faults_on all)) on;
      crash = crash_given;
      lots =
          more_lots w script lines ahead line (state start) (state a) so_far.gave is r u step names (state b)
          (state c) aside_same faults_on all v z lots so_far.lots;
      spares =
          more_keeps w script lines ahead line (state start) (state a) so_far.gave is r u step names (state b) (state c) aside_same faults_on all keeps_given;
    }

    pub cut_short : (state a).faults ≤ (state b).faults → CutOf (state b).streams.aside (text r) (state c).streams.aside
        → CutShort state left w script (lines ++ line ∷ []) start c
    unfolding gave_part
    cut_short more cut = record {
      lines = lines;
      tail = take cut.0 (text r);
      gave =
          gave_part w script lines ahead line (state start) (state a) so_far.gave is r u step names (state c) cut.0
          (omega (arith, more, same.faults)) (cut.2 ∙ ap (λ (x : List ℕ). x ++ take cut.0 (text r)) aside_same);
      reply = r;
      then = u;
      next = record { line = line; ahead = []; lines = ap (λ (x : List Line). x ++ line ∷ []) (sym so_far.gave.asked); step = step };
      part = front (text r) cut.0 cut.1;
      names = names;
      crash = crash_given;
      spares = keeps_given;
    }
