-- A whole session, from the opening of its volume to its end.
use Rattle.std.proofs.Common.{◌≡◌, ◌∙◌, ◌⊎◌, inl, inr, ⊎_elim, ◌<◌, ◌≤◌, ◌+◌, ℕ, zero, suc, List, [], ◌∷◌, ◌++◌, length, refl, sym, ap, subst, length-append, arith}
use Rattle.ice_base.specs.Disk.{Image, DiskState, Streams, AgreesOn, Everywhere, Rose, RoseBy}
use Rattle.ice_base.specs.Frames.{LeavesOnly, With, Within, Every}
use Rattle.ice_base.specs.declared.status.Status.{Status}
use Rattle.ice_base.specs.declared.status.Status.TheVariants.{Done, Usage, Memory, Source, Sink, Disk, Volume, Script, Small}
use Rattle.ice_base.proofs.Frame.{since_start}
use Rattle.tree_spec.specs.Lines.{Line}
use Rattle.tree_spec.specs.World.{World}
use Rattle.ice_text.specs.Text.{closings}
use Rattle.ice_text.proofs.Closings.{closings-part}
use Rattle.ice_tables.specs.Tables.{HasTables, Tables}
use Rattle.ice_images.specs.Fitting.{Fits}
use Rattle.ice_system.specs.Attaching.{IsReplayed}
use Rattle.ice_volume.specs.Sessions.{Starts, finished}
use Rattle.ice_run.specs.Causes.{GoesOn, LoopCause}
use Rattle.ice_run.specs.Clauses.{Ends, EndsAt, EndsWell, NoneRose, fault_at}
use Rattle.ice_run.specs.Crashes.{CrashLeaves, KeepsBroken, LeftSo, SparesBroken}
use Rattle.ice_run.specs.Runs.{RunsFirst, end, reply_texts, faults_of}
use Rattle.ice_run.specs.Scripts.{script_lines, longest_script}
use Rattle.ice_run.specs.Servings.{Broken, Concluded, EndsFailed}
use Rattle.ice_run.specs.Sessions.{GaveReplies}
use Rattle.ice_run.proofs.Answering.{answers_well}
use Rattle.ice_run.proofs.ClauseLaws.{all_alone}
use Rattle.ice_run.proofs.Crashes.{after_more}
use Rattle.ice_run.proofs.Sparing.{keeps_refl, keeps_since, kept_spares, opened_kept, opened_spares, spares_since}
use Rattle.ice_run.proofs.Runs.{closings-texts, closings-none}

append_nil : (xs : List ℕ) → xs ++ [] ≡ xs
append_nil [] = refl
append_nil (x ∷ xs) = ap (λ (y : List ℕ). x ∷ y) (append_nil xs)

-- ---- the opening of a volume

-- it writes no block of a lot
replayed_low : (k : ℕ) → 32 ≤ k → ¬ IsReplayed k
replayed_low k high (inl gate) = omega (arith, high, gate)
replayed_low k high (inr table) = omega (arith, high, table.0, table.1)

-- ---- faults

none_of : (n a b : ℕ) → RoseBy n a b → ¬ Rose a b → n ≡ 0
none_of zero a b rose never = refl
none_of (suc n) a b rose never = absurd (never (omega (arith, rose)))

-- ---- a session that took and gave nothing

module _ (w : World) (old new : DiskState) (starts : Starts old w) (same : new.streams ≡ old.streams) where
  pub ends_silent : (status : Status) → EndsAt status w [] [] [] new.streams.intake → (status ≡ Done → ⊥)
      → RoseBy (fault_at status) old.faults new.faults → (NoneRose old new → EndsWell status old) → KeepsBroken old w [] new → Ends status w old new
  ends_silent status at undone rose well keeps = record {
    steps = [];
    runs = record { runs = tt; ahead = script_lines old.streams.intake; lines = refl };
    tail = [];
    gives = ap (λ (x : Streams). x.aside) same ∙ sym (append_nil (old.streams.aside ++ []) ∙ append_nil old.streams.aside);
    count = closings-none;
    taken = [];
    took = sym (ap (λ (x : Streams). x.intake) same);
    by_status = at;
    exit = λ is. absurd (undone is);
    spares = keeps;
    faults = omega (arith, rose);
    complete = λ quiet. (well quiet, refl);
    answers = tt;
    alone = all_alone old.now w [] starts.opens tt;
  }

-- before the first line
pub at_start : (w : World) (script : List Line) (start : DiskState) (image : Image) (out : List ℕ) → Fits w image
    → out ≡ start.streams.aside → SparesBroken start w [] image → CrashLeaves start w script image out
at_start w script start image out fits same spares = (
  [],
  same ∙ sym (append_nil start.streams.aside),
  record {
    steps = [];
    runs = record { runs = tt; ahead = script; lines = refl };
    tail = [];
    gives = refl;
    count = closings-none;
    front = inl refl;
    world = w;
    reached = inl refl;
    holds = fits;
    spares = spares;
  },
)

-- each crash since the start of a session
pub crash_since : {D : Type 0} (state : D → DiskState) (left : D → ℕ → Image → List ℕ → Type 0) (w : World) (old new : D)
    → ((image : Image) (out : List ℕ) → left old (state old).clock image out → AgreesOn Everywhere (state old) image × (out ≡ (state old).streams.aside))
    → Every Everywhere (state old) (Fits w) → LeavesOnly left old new (CrashLeaves (state old) w (script_lines (state old).streams.intake))
    → (image : Image) (out : List ℕ) → left new (state old).clock image out → CrashLeaves (state old) w (script_lines (state old).streams.intake) image out
crash_since state left w old new agrees fits leaves =
    since_start state left old new (CrashLeaves (state old) w (script_lines (state old).streams.intake)) agrees
    (λ i at. at_start w (script_lines (state old).streams.intake) (state old) i (state old).streams.aside (fits i at) refl
    (kept_spares (state old) (state old) w [] i (keeps_refl (state old) w []) at)) leaves

-- what each crash leaves while the volume is opened
pub crash_opened : {D : Type 0} (state : D → DiskState) (left : D → ℕ → Image → List ℕ → Type 0) (w : World) (old d : D)
    → Within state left IsReplayed old d → LeavesOnly left old d (With (state old).streams.aside (Fits w))
    → LeavesOnly left old d (CrashLeaves (state old) w (script_lines (state old).streams.intake))
crash_opened state left w old d within leaves = record {
  each = λ t image out l. ⊎_elim (λ before. inl before)
      (λ here. ⊎_elim (λ before. inl before)
      (λ agrees. inr
      (at_start w (script_lines (state old).streams.intake) (state old) image out here.0 here.1
      (opened_spares state left IsReplayed replayed_low old d within w [] image agrees.0)))
      (within.left_new t image out l))
      (leaves.each t image out l);
}

-- what the opening of a volume keeps
pub opened_keeps : {D : Type 0} (state : D → DiskState) (left : D → ℕ → Image → List ℕ → Type 0) (old d : D)
    → Within state left IsReplayed old d → (w : World) → KeepsBroken (state old) w [] (state d)
opened_keeps state left old d within w = λ t has x stays. opened_kept state left IsReplayed replayed_low old d within t x

-- ---- a session that was served

module _ {D : Type 0} (state : D → DiskState) (left : D → ℕ → Image → List ℕ → Type 0) (w : World) (old mid new : D)
    (starts : Starts (state old) w) (within : Within state left IsReplayed old mid)
    (tables : (t : Tables) → HasTables (state old).now t → HasTables (state mid).now t) where
  streams : (state mid).streams ≡ (state old).streams
  streams = within.streams

  faults : (state old).faults ≤ (state mid).faults
  faults = within.faults

  asked : List Line
  asked = script_lines (state mid).streams.intake

  script_is : script_lines (state mid).streams.intake ≡ script_lines (state old).streams.intake
  script_is = ap (λ (x : Streams). script_lines x.intake) streams

  -- what was given since the volume was open was given since the start
  module _ (status : Status) (lines : List Line) (tail : List ℕ)
      (gave : GaveReplies w (script_lines (state mid).streams.intake) lines tail (state mid) (state new)) (none : closings tail ≡ 0)
      (taken : List ℕ) (took : (state mid).streams.intake ≡ taken ++ (state new).streams.intake)
      (at : EndsAt status w gave.steps tail taken (state new).streams.intake)
      (exit : status ≡ Done → Every Everywhere (state new) (Fits (finished (end w gave.steps))))
      (rose : RoseBy (faults_of gave.steps + fault_at status) (state mid).faults (state new).faults)
      (well : NoneRose (state old) (state new) → EndsWell status (state old))
      (keeps : KeepsBroken (state mid) w gave.steps (state new)) where
    ends_so : Ends status w (state old) (state new)
    ends_so = record {
      steps = gave.steps;
      runs = subst (λ (x : List Line). RunsFirst w x gave.steps) script_is gave.first;
      tail = tail;
      gives = gave.gives ∙ ap (λ (x : Streams). x.aside ++ reply_texts gave.steps ++ tail) streams;
      count = closings-texts gave.steps tail gave.named none;
      taken = taken;
      took = ap (λ (x : Streams). x.intake) (sym streams) ∙ took;
      by_status = at;
      exit = exit;
      spares = keeps_since state left IsReplayed replayed_low old mid within tables w gave.steps (state new) keeps;
      faults = omega (arith, rose, faults);
      complete = λ quiet. (well quiet, none_of (faults_of gave.steps) (state old).faults (state new).faults (omega (arith, rose, faults)) quiet.disk);
      answers = answers_well w gave.steps gave.first.runs;
      alone = all_alone (state old).now w gave.steps starts.opens gave.first.runs;
    }

  -- how the session ended, by its status
  module _ (on : GoesOn (state mid) (state new)) where
    disk_rose : Rose (state mid).faults (state new).faults → NoneRose (state old) (state new) → ⊥
    disk_rose rose quiet = quiet.disk (omega (arith, rose, faults))

    pub ends_served : (status : Status) → (status ≡ Done) ⊎ LoopCause status (state mid) (state new)
        → Concluded state left w mid status new → Ends status w (state old) (state new)
    ends_served Done cause served =
        let r = served.concludes in
        ends_so Done _ [] r.all.gave closings-none served.taken served.took (refl, r.none, r.few, r.all.gave.asked) (λ is. r.exit)
        (omega (arith, r.all.rose)) (λ quiet. tt) r.all.spares
    ends_served Source cause served =
        let r = served.concludes.1 in let gave = r.1.gave in
        ends_so Source _ [] gave closings-none served.taken served.took (refl, r.0, gave.asked) (λ is. absurd (cc is)) (omega (arith, gave.faults))
        (λ quiet. ⊎_elim (λ is. absurd (cc is))
        (λ rose. quiet.source (subst (λ (x : Streams). Rose x.source_faults (state new).streams.source_faults) streams rose)) cause) r.1.spares
    ends_served Script cause served =
        let r = served.concludes.1 in let gave = r.1.gave in
        ends_so Script _ [] gave closings-none served.taken served.took (refl, r.0, gave.asked) (λ is. absurd (cc is))
        (omega (arith, gave.faults)) (λ quiet. longer served.taken r.0 served.took) r.1.spares
      where
        longer : (taken : List ℕ) → length taken ≡ longest_script + 1 → (state mid).streams.intake ≡ taken ++ (state new).streams.intake
            → longest_script < length (state old).streams.intake
        longer taken is took =
            omega (arith, is, ap length (ap (λ (x : Streams). x.intake) (sym streams) ∙ took), length-append taken (state new).streams.intake)
    ends_served Sink cause served =
        let r = served.concludes.1 in let cut = r.1.breaks in
        ends_so Sink cut.lines cut.tail cut.gave (closings-part cut.reply cut.tail cut.part.0 cut.names cut.part.2 cut.part.1) served.taken served.took
        (r.0, record { lines = r.1.heard; heard = r.1.all; reply = cut.reply; then = cut.then; next = cut.next; part = cut.part })
        (λ is. absurd (cc is)) (omega (arith, cut.gave.faults))
        (λ quiet. ⊎_elim (λ is. absurd (cc is))
        (λ rose. quiet.sink (subst (λ (x : Streams). Rose x.sink_faults (state new).streams.sink_faults) streams rose)) cause) cut.spares
    ends_served Disk cause served = ⊎_elim
        (λ (broken : Broken state left w mid Disk served.taken new).
        let cut = broken.breaks in
        ends_so Disk cut.lines [] cut.gave closings-none served.taken served.took
        (refl, served.concludes.0, inr (inl (record { lines = broken.heard; heard = broken.all; line = cut.line; ahead = cut.ahead; next = cut.next; order = cut.order }))) (λ is. absurd
        (cc is)) cut.faults
        (λ quiet. ⊎_elim (λ is. absurd (cc is)) (λ rose. disk_rose rose quiet) cause) cut.spares)
        (λ (failed : EndsFailed state left w mid served.taken new).
        ends_so Disk _ [] failed.all.gave closings-none served.taken served.took
        (refl, served.concludes.0, inr (inr (failed.none, failed.all.gave.asked))) (λ is. absurd (cc is)) failed.all.rose
        (λ quiet. ⊎_elim (λ is. absurd (cc is)) (λ rose. disk_rose rose quiet) cause) failed.all.spares)
        served.concludes.1
    ends_served Usage cause served = absurd served.concludes.1
    ends_served Memory cause served = absurd served.concludes.1
    ends_served Volume cause served = absurd served.concludes.1
    ends_served Small cause served = absurd served.concludes.1

  -- what each crash leaves afterwards
  crash_in : (status : Status) → Concluded state left w mid status new
      → LeavesOnly left mid new (CrashLeaves (state mid) w (script_lines (state mid).streams.intake))
  crash_in Done served = served.concludes.all.crash
  crash_in Source served = served.concludes.1.1.crash
  crash_in Script served = served.concludes.1.1.crash
  crash_in Sink served = served.concludes.1.1.breaks.crash
  crash_in Disk served =
      ⊎_elim (λ (broken : Broken state left w mid Disk served.taken new). broken.breaks.crash)
      (λ (failed : EndsFailed state left w mid served.taken new). failed.all.crash) served.concludes.1
  crash_in Usage served = absurd served.concludes.1
  crash_in Memory served = absurd served.concludes.1
  crash_in Volume served = absurd served.concludes.1
  crash_in Small served = absurd served.concludes.1

  pub crash_served : (status : Status) → Concluded state left w mid status new
      → LeavesOnly left old mid (With (state old).streams.aside (Fits w))
      → LeavesOnly left old new (CrashLeaves (state old) w (script_lines (state old).streams.intake))
  crash_served status served leaves = record {
    each =
        λ t image out l. ⊎_elim (λ before. (crash_opened state left w old mid within leaves).each t image out before)
        (λ here. inr (since image out here)) ((crash_in status served).each t image out l);
  }
    where
      -- what is left of a run since the volume is open is left of one since the start
      since : (image : Image) (out : List ℕ) → CrashLeaves (state mid) w (script_lines (state mid).streams.intake) image out
          → CrashLeaves (state old) w (script_lines (state old).streams.intake) image out
      since image out here =
          let moved : LeftSo Fits (SparesBroken (state mid) w) (state old).streams.aside w (script_lines (state old).streams.intake) image out =
          subst (λ (x : Streams). LeftSo Fits (SparesBroken (state mid) w) x.aside w (script_lines x.intake) image out) streams here in (
            moved.0,
            moved.1,
            after_more (λ v. Fits v image) (λ v. Fits v image) (λ steps. SparesBroken (state mid) w steps image)
                (λ steps. SparesBroken (state old) w steps image) w (script_lines (state old).streams.intake) moved.0
                (λ v fits. fits) (λ steps spares. spares_since state left IsReplayed replayed_low old mid within tables w steps image spares) moved.2,
          )
