-- The end of a session: every cube is unmounted, or an unmount failed.
use Rattle.std.proofs.Common.{◌≡◌, ◌∙◌, inl, inr, ⊎_elim, ◌≢◌, ◌≤◌, ℕ, List, [], ◌++◌, refl, sym, ap, arith}
use Rattle.ice_base.specs.Disk.{Image, DiskState, Streams, Outside, Rose, RoseBy}
use Rattle.ice_base.specs.Frames.{LeavesOnly, With, Within}
use Rattle.ice_base.specs.declared.status.Status.{Status}
use Rattle.ice_base.specs.declared.status.Status.TheVariants.{Done, Usage, Memory, Source, Sink, Disk, Volume, Script, Small}
use Rattle.tree_spec.specs.World.{World}
use Rattle.ice_images.specs.Fitting.{Fits}
use Rattle.ice_system.specs.Systems.{tables_of}
use Rattle.ice_volume.specs.Lines.{IsOfBroken}
use Rattle.ice_volume.specs.Sessions.{finished}
use Rattle.ice_volume.specs.Volumes.{VolumeView, StandsFor}
use Rattle.ice_volume.proofs.StandLaws.{stands_fits}
use Rattle.ice_run.specs.Runs.{end}
use Rattle.ice_run.specs.Scripts.{script_lines}
use Rattle.ice_run.specs.Servings.{Served, Concluded, AllAnswered}
use Rattle.ice_run.specs.Sessions.{SoFar, CrashesSo}
use Rattle.ice_run.proofs.SessionLaws.{between_lines}
use Rattle.ice_run.proofs.Sparing.{keeps_on, work_spares}

module _ {D : Type 0} (state : D → DiskState) (left : D → ℕ → Image → List ℕ → Type 0) (w : World) (start : D) where
  -- a session that did not come to the end of its script ends as it was served
  pub concluded_as : (status : Status) (v : VolumeView) (new : D) → (status ≢ Done) → Served state left w start status v new
      → Concluded state left w start status new
  concluded_as Done v new other served = absurd (other refl)
  concluded_as Source v new other served = record { taken = served.taken; took = served.took; concludes = (v, served.reaches) }
  concluded_as Script v new other served = record { taken = served.taken; took = served.took; concludes = (v, served.reaches) }
  concluded_as Sink v new other served = record { taken = served.taken; took = served.took; concludes = (v, served.reaches) }
  concluded_as Disk v new other served = record { taken = served.taken; took = served.took; concludes = (served.reaches.0, inl served.reaches.1) }
  concluded_as Usage v new other served = absurd served.reaches
  concluded_as Memory v new other served = absurd served.reaches
  concluded_as Volume v new other served = absurd served.reaches
  concluded_as Small v new other served = absurd served.reaches

  module _ (v : VolumeView) (a b : D) (served : Served state left w start Done v a) (streams : (state b).streams ≡ (state a).streams)
      (later : (state a).faults ≤ (state b).faults)
      (leaves : (u : World) → StandsFor v (state a) u → LeavesOnly left a b (With (state a).streams.aside (Fits u)))
      (sparing : (u : World) → StandsFor v (state a) u → Within state left (Outside (IsOfBroken (tables_of v.system) u)) a b) where
    abbrev so_far : SoFar state left w (script_lines (state start).streams.intake) v (script_lines served.taken) start a
    so_far = served.reaches.2

    crash_finished : CrashesSo state left w (script_lines (state start).streams.intake) start b
    crash_finished = record {
      each = λ t image out l. ⊎_elim (λ before. so_far.crash.each t image out before)
          (λ here. ⊎_elim (λ before. so_far.crash.each t image out before)
          (λ agrees. inr
          (between_lines w (script_lines (state start).streams.intake) (script_lines served.taken) (state start)
          (state a) image out so_far.gave (end w so_far.gave.steps) (inl refl) here.0 here.1
          (work_spares state left w v (state start) so_far.gave.steps a b so_far.lots so_far.spares
          (sparing (end w so_far.gave.steps) so_far.stands) image agrees.0)))
          ((sparing (end w so_far.gave.steps) so_far.stands).left_new t image out l))
          ((leaves (end w so_far.gave.steps) so_far.stands).each t image out l);
    }

    all_answered : (more : ℕ) → RoseBy more (state a).faults (state b).faults → AllAnswered state left w start more served.taken b
    all_answered more rose = record {
      gave = record {
        steps = so_far.gave.steps;
        first = so_far.gave.first;
        asked = so_far.gave.asked;
        named = so_far.gave.named;
        gives = ap (λ (x : Streams). x.aside) streams ∙ so_far.gave.gives;
        faults = omega (arith, so_far.gave.faults, later);
      };
      rose = omega (arith, so_far.gave.faults, rose);
      crash = crash_finished;
      spares = keeps_on state left w v (state start) so_far.gave.steps a b so_far.lots so_far.spares (sparing (end w so_far.gave.steps) so_far.stands);
    }

    took_all : (state start).streams.intake ≡ served.taken ++ (state b).streams.intake
    took_all = served.took ∙ ap (λ (x : Streams). served.taken ++ x.intake) (sym streams)

    none_left : (state b).streams.intake ≡ []
    none_left = ap (λ (x : Streams). x.intake) streams ∙ served.reaches.0

    -- every cube was unmounted
    pub concluded_well : (z : VolumeView) → ((u : World) → StandsFor v (state a) u → StandsFor z (state b) (finished u)) → Concluded state left w start Done b
    unfolding all_answered
    concluded_well z closes = record {
      taken = served.taken;
      took = took_all;
      concludes = record {
        none = none_left;
        few = served.reaches.1;
        all = all_answered 0 (omega (arith, later));
        exit = stands_fits z (state b) (finished (end w so_far.gave.steps)) (closes (end w so_far.gave.steps) so_far.stands);
      };
    }

    -- an unmount failed
    pub concluded_failed : Rose (state a).faults (state b).faults → Concluded state left w start Disk b
    concluded_failed rose =
        record { taken = served.taken; took = took_all; concludes = (served.reaches.1, inr (record { none = none_left; all = all_answered 1 (omega (arith, rose)) })) }
