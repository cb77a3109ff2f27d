-- A session under way: what a piece more does to it, and how it ends.
use Rattle.std.proofs.Common.{◌≡◌, ◌∙◌, inl, inr, ⊎_elim, ◌<◌, ◌≤◌, ◌+◌, ℕ, List, [], ◌∷◌, ◌++◌, length, take, refl, sym, ap, subst, append_assoc, length-append, arith}
use Rattle.std.proofs.Math.Seq.{take-append_seam}
use Rattle.ice_base.specs.Disk.{Image, DiskState, Everywhere, RoseBy}
use Rattle.ice_base.specs.Host.{SameDisk, Leaves}
use Rattle.ice_base.proofs.Kept.{kept_same}
use Rattle.ice_base.specs.declared.status.Status.{Status}
use Rattle.ice_base.specs.declared.status.Status.TheVariants.{Done, Usage, Memory, Source, Sink, Disk, Volume, Script, Small}
use Rattle.tree_spec.specs.Lines.{Line}
use Rattle.tree_spec.specs.World.{World}
use Rattle.ice_script.specs.Reading.{Gathered}
use Rattle.ice_volume.specs.Volumes.{VolumeView, StandsFor}
use Rattle.ice_volume.proofs.StandLaws.{stands_fits, stands_kept}
use Rattle.ice_run.specs.Clauses.{Heard}
use Rattle.ice_run.specs.Runs.{end, faults_of}
use Rattle.ice_run.specs.Scripts.{script_lines, ended_lines, longest_script, cut_of}
use Rattle.ice_run.specs.Pieces.{TookOnly, TookPiece}
use Rattle.ice_run.specs.Sessions.{SoFar, BreaksOff, Serving}
use Rattle.ice_run.specs.Servings.{Fed, Served}
use Rattle.ice_run.proofs.SessionLaws.{between_lines}
use Rattle.ice_run.proofs.Sparing.{keeps_refl, keeps_then, kept_spares, lots_none}

append_nil : (xs : List ℕ) → xs ++ [] ≡ xs
append_nil [] = refl
append_nil (x ∷ xs) = ap (λ (y : List ℕ). x ∷ y) (append_nil xs)

module _ {D : Type 0} (state : D → DiskState) (left : D → ℕ → Image → List ℕ → Type 0) (w : World) (script : List Line) (v : VolumeView) where
  -- nothing is answered yet
  pub so_far_none : (d : D) → StandsFor v (state d) w → SoFar state left w script v [] d d
  so_far_none d stands = record {
    gave = record {
      steps = [];
      first = record { runs = tt; ahead = script; lines = refl };
      asked = refl;
      named = tt;
      gives = sym (append_nil ((state d).streams.aside ++ []) ∙ append_nil (state d).streams.aside);
      faults = omega arith;
    };
    stands = stands;
    crash = record { each = λ t i o l. inl l };
    lots = lots_none v (state d) w [] stands;
    spares = keeps_refl (state d) w [];
  }

  -- a take between two lines
  pub so_far_took : (lines : List Line) (start mid new : D) → SameDisk (state mid) (state new)
      → Leaves state left (λ out. out ≡ (state mid).streams.aside) mid new
      → (state new).streams.aside ≡ (state mid).streams.aside → SoFar state left w script v lines start mid → SoFar state left w script v lines start new
  so_far_took lines start mid new disk leaves same so_far = record {
    gave = record {
      steps = so_far.gave.steps;
      first = so_far.gave.first;
      asked = so_far.gave.asked;
      named = so_far.gave.named;
      gives = same ∙ so_far.gave.gives;
      faults = subst (λ n. RoseBy (faults_of so_far.gave.steps) (state start).faults n) (sym disk.faults) so_far.gave.faults;
    };
    stands = stands_kept v (state mid) (state new) (end w so_far.gave.steps) (kept_same Everywhere (state mid) (state new) disk) so_far.stands;
    crash = record {
      each = λ t image out l. ⊎_elim
          (λ before. so_far.crash.each t image out before)
          (λ here. inr (between_lines w script lines (state start) (state mid) image out so_far.gave (end w so_far.gave.steps) (inl refl)
          (stands_fits v (state mid) (end w so_far.gave.steps) so_far.stands image here.0) here.1
          (kept_spares (state start) (state mid) w so_far.gave.steps image so_far.spares here.0)))
          (leaves.left_new t image out l);
    };
    lots = so_far.lots;
    spares = keeps_then (state start) (state mid) (state new) w so_far.gave.steps so_far.spares (kept_same Everywhere (state mid) (state new) disk);
  }

front_of : (xs ys : List ℕ) (n : ℕ) → length xs ≡ n → take n (xs ++ ys) ≡ xs
front_of xs ys n is = subst (λ m. take m (xs ++ ys) ≡ xs) is (take-append_seam xs ys)

nothing_behind : (xs ys : List ℕ) → xs ++ ys ≡ [] → ys ≡ []
nothing_behind [] ys is = is
nothing_behind (x ∷ xs) ys is = cc

-- a line ended the session: which lines are in the bytes that were taken
broke : {D : Type 0} (state : D → DiskState) (left : D → ℕ → Image → List ℕ
    → Type 0) (w : World) (start : D) (status : Status) (v : VolumeView) (taken : List ℕ) (heard : List Line) (new : D)
    → (state start).streams.intake ≡ taken ++ (state new).streams.intake → length taken ≤ longest_script → Heard taken (state new).streams.intake heard
    → BreaksOff state left w (script_lines (state start).streams.intake) status heard start new → Served state left w start status v new
broke state left w start Sink v taken heard new took few all breaks =
    record { taken = taken; took = took; reaches = (few, record { heard = heard; all = all; breaks = breaks }) }
broke state left w start Disk v taken heard new took few all breaks =
    record { taken = taken; took = took; reaches = (few, record { heard = heard; all = all; breaks = breaks }) }
broke state left w start Done v taken heard new took few all breaks = absurd breaks
broke state left w start Usage v taken heard new took few all breaks = absurd breaks
broke state left w start Memory v taken heard new took few all breaks = absurd breaks
broke state left w start Source v taken heard new took few all breaks = absurd breaks
broke state left w start Volume v taken heard new took few all breaks = absurd breaks
broke state left w start Script v taken heard new took few all breaks = absurd breaks
broke state left w start Small v taken heard new took few all breaks = absurd breaks

module _ {D : Type 0} (state : D → DiskState) (left : D → ℕ → Image → List ℕ → Type 0) (w : World) (start : D) (count : ℕ) (mid new : D)
    (v : VolumeView) (reader : Gathered) (fed : Fed state left w start count mid v reader)
    (disk : SameDisk (state mid) (state new)) (leaves : Leaves state left (λ out. out ≡ (state mid).streams.aside) mid new)
    (only : TookOnly (state mid).streams (state new).streams) where
  -- taking a piece answers nothing
  took_on : SoFar state left w (script_lines (state start).streams.intake) v (ended_lines fed.taken) start new
  took_on =
      so_far_took state left w (script_lines (state start).streams.intake) v (ended_lines fed.taken) start mid new disk leaves only.aside fed.serving.so_far

  pub took_serving : Serving state left w v (state start).streams.intake fed.taken start new reader
  took_serving = record { so_far = took_on; holds = fed.serving.holds }

  pub source_failed : count ≤ longest_script → (state new).streams.intake ≡ (state mid).streams.intake → Served state left w start Source v new
  source_failed le same =
      record { taken = fed.taken; took = fed.took ∙ ap (λ (x : List ℕ). fed.taken ++ x) (sym same); reaches = (omega (arith, fed.count_is), took_on) }

  module _ (n : ℕ) (piece : List ℕ) (took : TookPiece n piece (state mid).streams.intake (state new).streams.intake) where
    -- the input, with the piece behind what was taken
    pub took_more : (state start).streams.intake ≡ (fed.taken ++ take n piece) ++ (state new).streams.intake
    took_more = fed.took ∙ ap (λ (x : List ℕ). fed.taken ++ x) took.bytes ∙ sym (append_assoc fed.taken (take n piece) (state new).streams.intake)

    count_more : length (fed.taken ++ take n piece) ≡ count + n
    count_more = omega (arith, length-append fed.taken (take n piece), fed.count_is, took.enough)

    pub too_long : count ≡ longest_script → 0 < n → n ≤ 1 → Served state left w start Script v new
    too_long is some one = record {
      taken = fed.taken ++ take n piece;
      took = took_more;
      reaches = (
        omega (arith, count_more),
        subst (λ (x : List ℕ). SoFar state left w (script_lines (state start).streams.intake) v (ended_lines x) start new)
            (sym (front_of fed.taken (take n piece) longest_script (fed.count_is ∙ is))) took_on,
      );
    }

    ended_there : n ≡ 0 → (state new).streams.intake ≡ []
    ended_there none = nothing_behind (take n piece) (state new).streams.intake (sym took.bytes ∙ took.ended none)

    module _ (later : D) (z : VolumeView) (after : Gathered) (intake : (state later).streams.intake ≡ (state new).streams.intake) where
      took_later : (state start).streams.intake ≡ (fed.taken ++ take n piece) ++ (state later).streams.intake
      took_later = took_more ∙ ap (λ (x : List ℕ). (fed.taken ++ take n piece) ++ x) (sym intake)

      pub fed_more : Serving state left w z (state start).streams.intake (fed.taken ++ take n piece) start later after
          → Fed state left w start (count + n) later z after × (n ≡ 0 → (state later).streams.intake ≡ [])
      fed_more serving =
          (record { taken = fed.taken ++ take n piece; took = took_later; count_is = count_more; serving = serving }, λ none. intake ∙ ended_there none)

      pub broke_off : (status : Status) → count + n ≤ longest_script
          → BreaksOff state left w (script_lines (state start).streams.intake) status (ended_lines (fed.taken ++ take n piece)) start later
          → Served state left w start status z later
      broke_off status le breaks =
          broke state left w start status z (fed.taken ++ take n piece) (ended_lines (fed.taken ++ take n piece)) later took_later
          (omega (arith, count_more)) (inl refl) breaks

module _ {D : Type 0} (state : D → DiskState) (left : D → ℕ → Image → List ℕ → Type 0) (w : World) (start : D) where
  -- before the first piece
  pub fed_none : (v : VolumeView) (reader : Gathered) → StandsFor v (state start) w → reader.text ≡ [] → Fed state left w start 0 start v reader
  unfolding cut_of
  fed_none v reader stands empty = record {
    taken = [];
    took = refl;
    count_is = refl;
    serving = record { so_far = so_far_none state left w (script_lines (state start).streams.intake) v start stands; holds = empty };
  }

  module _ (count : ℕ) (mid : D) (v : VolumeView) (reader : Gathered) (fed : Fed state left w start count mid v reader)
      (le : count ≤ longest_script) (ended : (state mid).streams.intake ≡ []) where
    all_taken : fed.taken ≡ (state start).streams.intake
    all_taken = sym (fed.took ∙ ap (λ (x : List ℕ). fed.taken ++ x) ended ∙ append_nil fed.taken)

    -- the input was read to its end
    pub read_all : Serving state left w v (state start).streams.intake (state start).streams.intake start mid reader
    read_all = subst (λ (x : List ℕ). Serving state left w v (state start).streams.intake x start mid reader) all_taken fed.serving

    long_enough : length (state start).streams.intake ≤ longest_script
    long_enough = omega (arith, ap length all_taken, fed.count_is)

    module _ (new : D) (z : VolumeView) (intake : (state new).streams.intake ≡ (state mid).streams.intake) where
      took_all : (state start).streams.intake ≡ (state start).streams.intake ++ (state new).streams.intake
      took_all = sym (ap (λ (x : List ℕ). (state start).streams.intake ++ x) (intake ∙ ended) ∙ append_nil (state start).streams.intake)

      pub all_done : SoFar state left w (script_lines (state start).streams.intake) z (script_lines (state start).streams.intake) start new
          → Served state left w start Done z new
      all_done so_far = record { taken = (state start).streams.intake; took = took_all; reaches = (intake ∙ ended, long_enough, so_far) }

      pub last_broke : (status : Status)
          → BreaksOff state left w (script_lines (state start).streams.intake) status (script_lines (state start).streams.intake) start new
          → Served state left w start status z new
      last_broke status breaks =
          broke state left w start status z (state start).streams.intake
          (script_lines (state start).streams.intake) new took_all long_enough (inr (intake ∙ ended, refl)) breaks
