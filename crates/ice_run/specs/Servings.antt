-- A session under way: pieces that were taken and fed, and how it ends.
use Rattle.std.specs.Prelude.{◌≡◌, ◌⊎◌, ◌≤◌, ◌+◌, ℕ, List, [], ◌++◌, length, take, Result, Ok, Err}
use Rattle.ice_base.specs.Disk.{Image, DiskState, Everywhere, RoseBy}
use Rattle.ice_base.specs.Frames.{Every}
use Rattle.ice_base.specs.declared.status.Status.{Status}
use Rattle.ice_base.specs.declared.status.Status.TheVariants.{Done, Usage, Memory, Source, Sink, Disk, Volume, Script, Small}
use Rattle.tree_spec.specs.Lines.{Line}
use Rattle.tree_spec.specs.World.{World}
use Rattle.ice_script.specs.Reading.{Gathered}
use Rattle.ice_images.specs.Fitting.{Fits}
use Rattle.ice_volume.specs.Sessions.{finished}
use Rattle.ice_volume.specs.Volumes.{VolumeView}
use Rattle.ice_run.specs.Clauses.{Heard}
use Rattle.ice_run.specs.Crashes.{KeepsBroken}
use Rattle.ice_run.specs.Scripts.{script_lines, ended_lines, longest_script}
use Rattle.ice_run.specs.Runs.{end, faults_of}
use Rattle.ice_run.specs.Sessions.{SoFar, BreaksOff, CrashesSo, GaveReplies, Serving}

module _ {D : Type 0} (state : D → DiskState) (left : D → ℕ → Image → List ℕ → Type 0) (w : World) (start : D) where
  -- what the script asks for
  abbrev pub asked_lines : List Line
  asked_lines = script_lines (state start).streams.intake

  -- so many bytes were taken and fed
  pub record Fed (count : ℕ) (now : D) (v : VolumeView) (reader : Gathered) : Type 0 where
    pub taken : List ℕ
    pub took : (state start).streams.intake ≡ taken ++ (state now).streams.intake
    pub count_is : length taken ≡ count
    pub serving : Serving state left w v (state start).streams.intake taken start now reader

  -- the lines in the bytes that were taken are answered up to one that ends the session
  pub record Broken (status : Status) (taken : List ℕ) (new : D) : Type 0 where
    pub heard : List Line
    pub all : Heard taken (state new).streams.intake heard
    pub breaks : BreaksOff state left w asked_lines status heard start new

  -- which lines are answered, of those in the bytes that were taken
  abbrev pub Reaches : Status → VolumeView → (taken : List ℕ) → D → Type 0
  Reaches Done v taken new = ((state new).streams.intake ≡ []) × (length taken ≤ longest_script)
      × SoFar state left w asked_lines v (script_lines taken) start new
  Reaches Source v taken new = (length taken ≤ longest_script) × SoFar state left w asked_lines v (ended_lines taken) start new
  Reaches Script v taken new = (length taken ≡ longest_script + 1) × SoFar state left w asked_lines v (ended_lines (take longest_script taken)) start new
  Reaches Sink v taken new = (length taken ≤ longest_script) × Broken Sink taken new
  Reaches Disk v taken new = (length taken ≤ longest_script) × Broken Disk taken new
  Reaches Usage v taken new = ⊥
  Reaches Memory v taken new = ⊥
  Reaches Volume v taken new = ⊥
  Reaches Small v taken new = ⊥

  -- the session ended with this status
  pub record Served (status : Status) (v : VolumeView) (new : D) : Type 0 where
    pub taken : List ℕ
    pub took : (state start).streams.intake ≡ taken ++ (state new).streams.intake
    pub reaches : Reaches status v taken new

  -- a piece more, of this length; none means that all was taken
  abbrev pub Passes : ℕ → Result ℕ Status → D → VolumeView → Gathered → Type 0
  Passes count (Ok n) new v reader = Fed (count + n) new v reader × (n ≡ 0 → (state new).streams.intake ≡ [])
  Passes count (Err status) new v reader = Served status v new

  -- ---- the end

  -- all lines in these bytes are answered, and so many faults of the disk came besides
  pub record AllAnswered (more : ℕ) (taken : List ℕ) (new : D) : Type 0 where
    pub gave : GaveReplies w asked_lines (script_lines taken) [] (state start) (state new)
    pub rose : RoseBy (faults_of gave.steps + more) (state start).faults (state new).faults
    pub crash : CrashesSo state left w asked_lines start new
    pub spares : KeepsBroken (state start) w gave.steps (state new)

  -- all lines are answered, nothing is left to take, and each image fits the world in which every cube is unmounted
  pub record EndsDone (taken : List ℕ) (new : D) : Type 0 where
    pub none : (state new).streams.intake ≡ []
    pub few : length taken ≤ longest_script
    pub all : AllAnswered 0 taken new
    pub exit : Every Everywhere (state new) (Fits (finished (end w all.gave.steps)))

  -- all lines are answered, nothing is left to take, and an unmount at the end failed
  pub record EndsFailed (taken : List ℕ) (new : D) : Type 0 where
    pub none : (state new).streams.intake ≡ []
    pub all : AllAnswered 1 taken new

  -- how the session ended, with the unmounting at its end
  abbrev pub Concludes : Status → (taken : List ℕ) → D → Type 0
  Concludes Done taken new = EndsDone taken new
  Concludes Disk taken new = (length taken ≤ longest_script) × (Broken Disk taken new ⊎ EndsFailed taken new)
  Concludes status taken new = (v : VolumeView) × Reaches status v taken new

  -- the session ended with this status, and where all lines were answered, with every cube unmounted
  pub record Concluded (status : Status) (new : D) : Type 0 where
    pub taken : List ℕ
    pub took : (state start).streams.intake ≡ taken ++ (state new).streams.intake
    pub concludes : Concludes status taken new
