-- The headline: a crash in a session and damage to one cube then leave every other cube with its first accepted commands.
use Rattle.std.specs.Prelude.{◌≡◌, ◌≢◌, ◌⊎◌, ℕ, List, ◌++◌, length, Some}
use Rattle.ice_base.specs.Disk.{Image, DiskState, Everywhere}
use Rattle.ice_base.specs.Frames.{Settled}
use Rattle.ice_base.specs.declared.status.Status.{Status}
use Rattle.tree_spec.specs.Lines.{Line}
use Rattle.tree_spec.specs.Records.{Cube, Sound, History}
use Rattle.tree_spec.specs.World.{World}
use Rattle.ice_text.specs.Text.{closings}
use Rattle.ice_images.specs.Fitting.{Damages}
use Rattle.ice_images.specs.Opening.{Opens}
use Rattle.ice_volume.specs.Sessions.{Starts}
use Rattle.ice_run.specs.Clauses.{Ends}
use Rattle.ice_run.specs.Crashes.{IsFront, Reached, CrashLeaves, DamageLeaves}
use Rattle.ice_run.specs.Runs.{Answered, RunsFirst, reply_texts}
use Rattle.ice_run.specs.Scripts.{script_lines}
use Rattle.ice_headline.specs.Later.{Survives}

-- nothing was damaged, or the lot of one cube was
abbrev pub Harms : Image → Image → ℕ → Type 0
Harms image damaged s = (damaged ≡ image) ⊎ Damages image damaged s

-- What a session from a world does: how it ends, and what each crash since its start leaves, without damage and with damage to one cube.
pub record Keeps {D : Type 0} (state : D → DiskState) (left : D → ℕ → Image → List ℕ → Type 0) (status : Status) (w : World) (old new : D) : Type 0 where
  pub ends : Ends status w (state old) (state new)
  pub crash : (image : Image) (given : List ℕ) → left new (state old).clock image given
      → CrashLeaves (state old) w (script_lines (state old).streams.intake) image given
  pub damage : (image : Image) (given : List ℕ) → left new (state old).clock image given
      → DamageLeaves (state old).streams.aside w (script_lines (state old).streams.intake) image given

-- What is left of a session that began with the world w: a run of as many lines as the output has closing ones leads to a world, or the line
-- in work then does. The image opens a world, and in each one that it opens every sound cube but that of one slot survives.
pub record Contains (w : World) (script : List Line) (out : List ℕ) (s : ℕ) (image : Image) : Type 0 where
  pub steps : List Answered
  pub runs : RunsFirst w script steps
  pub tail : List ℕ
  pub gives : out ≡ reply_texts steps ++ tail
  pub count : closings out ≡ length steps
  pub front : IsFront w script steps tail
  pub world : World
  pub reached : Reached w script steps tail world
  pub opens : (u : World) × Opens image u
  pub others : (u : World) → Opens image u → (x : ℕ) → x ≢ s → (c : Cube) (h : History) → world.cube x ≡ Some c → c.content ≡ Sound h
      → Survives x w steps c h image u

-- Two sessions, of which the second begins with what a crash in the first and damage to one cube then left: whatever crash and damage
-- that was, what they left contains the damage, and the second session keeps its promises from every world that the image opens.
abbrev pub After : {D E : Type 0} (state : D → DiskState) (left : D → ℕ → Image → List ℕ → Type 0)
    (later : E → DiskState) (late : E → ℕ → Image → List ℕ → Type 0) (last : Status) (old new : D) (before after : E) → Type 0
After state left later late last old new before after =
    (w : World) → Starts (state old) w
    → (image : Image) (given : List ℕ) → left new (state old).clock image given
    → (s : ℕ) (damaged : Image) → Harms image damaged s
    → Settled Everywhere (later before) → (later before).now ≡ damaged
    → ((out : List ℕ) × (given ≡ (state old).streams.aside ++ out) × Contains w (script_lines (state old).streams.intake) out s damaged)
    × ((u : World) → Opens damaged u → Keeps later late last u before after)
