-- A session under way: what was answered and given so far, and how it breaks off.
use Rattle.std.specs.Prelude.{◌≡◌, ℕ, ◌+◌, false, List, [], ◌∷◌, ◌++◌, take}
use Rattle.ice_base.specs.Disk.{Image, DiskState, RoseBy}
use Rattle.ice_base.specs.Frames.{LeavesOnly}
use Rattle.ice_base.specs.declared.status.Status.{Status}
use Rattle.ice_base.specs.declared.status.Status.TheVariants.{Done, Usage, Memory, Source, Sink, Disk, Volume, Script, Small}
use Rattle.tree_spec.specs.Lines.{Line}
use Rattle.tree_spec.specs.Replies.{Response, HasNames}
use Rattle.tree_spec.specs.World.{World, aim}
use Rattle.ice_text.specs.Text.{text}
use Rattle.ice_script.specs.Reading.{Gathered}
use Rattle.ice_tables.specs.Tables.{HasTables, Tables}
use Rattle.ice_tables.specs.Lots.{lot_of}
use Rattle.ice_system.specs.Systems.{tables_of}
use Rattle.ice_volume.specs.Lines.{IsTableOrder}
use Rattle.ice_volume.specs.Volumes.{VolumeView, StandsFor, HasRoom}
use Rattle.ice_run.specs.Scripts.{cut_of, ended_lines, script_lines}
use Rattle.ice_run.specs.Runs.{Answered, AllNamed, RunsFirst, end, lines_of, reply_texts, faults_of, IsProperPrefix, Next}
use Rattle.ice_run.specs.Crashes.{CrashLeaves, KeepsBroken, StaysBroken}

-- no change failed late, and the disk has all blocks of the volume
pub record IsLive (v : VolumeView) (s : DiskState) : Type 0 where
  pub live : v.system.failed ≡ false
  pub room : HasRoom v s

-- and the reader's line is not ended
pub record IsReady (v : VolumeView) (s : DiskState) (reader : Gathered) : Type 0 where
  pub held : IsLive v s
  pub open_line : reader.ended ≡ false

-- what was given from one state to another: the replies to these lines, which are the first of the script, and the front of a further reply
pub record GaveReplies (w : World) (script lines : List Line) (tail : List ℕ) (old new : DiskState) : Type 0 where
  pub steps : List Answered
  pub first : RunsFirst w script steps
  pub asked : lines_of steps ≡ lines
  pub named : AllNamed steps
  pub gives : new.streams.aside ≡ old.streams.aside ++ reply_texts steps ++ tail
  pub faults : RoseBy (faults_of steps) old.faults new.faults

-- a cube that stays broken has in the volume the lot that it had at the start
abbrev pub KeepsLots : VolumeView → DiskState → World → List Answered → Type 0
KeepsLots v old w steps = (t : Tables) → HasTables old.now t → (x : ℕ) → StaysBroken x w steps → lot_of (tables_of v.system) x ≡ lot_of t x

module _ {D : Type 0} (state : D → DiskState) (left : D → ℕ → Image → List ℕ → Type 0) (w : World) (script : List Line) where
  -- each crash since the start left what a run of the script may leave
  abbrev pub CrashesSo : D → D → Type 0
  CrashesSo old new = LeavesOnly left old new (CrashLeaves (state old) w script)

  -- These first lines of the script are answered, the volume and the disk stand for the world after them, and each crash left what it may.
  -- A cube that stayed broken has its lot, as it was.
  pub record SoFar (v : VolumeView) (lines : List Line) (old new : D) : Type 0 where
    pub gave : GaveReplies w script lines [] (state old) (state new)
    pub stands : StandsFor v (state new) (end w gave.steps)
    pub crash : CrashesSo old new
    pub lots : KeepsLots v (state old) w gave.steps
    pub spares : KeepsBroken (state old) w gave.steps (state new)

  -- the reply to the next of these lines was given in part
  pub record CutShort (heard : List Line) (old new : D) : Type 0 where
    pub lines : List Line
    pub tail : List ℕ
    pub gave : GaveReplies w script lines tail (state old) (state new)
    pub reply : Response
    pub then : World
    pub next : Next w heard gave.steps reply then
    pub part : IsProperPrefix tail (text reply)
    pub names : HasNames reply
    pub crash : CrashesSo old new
    pub spares : KeepsBroken (state old) w gave.steps (state new)

  -- the next of these lines is a change of the tables, which failed late
  pub record FailedLate (heard : List Line) (old new : D) : Type 0 where
    pub lines : List Line
    pub gave : GaveReplies w script lines [] (state old) (state new)
    pub line : Line
    pub ahead : List Line
    pub next : heard ≡ lines_of gave.steps ++ line ∷ ahead
    pub order : IsTableOrder (aim (end w gave.steps) line)
    pub faults : RoseBy (faults_of gave.steps + 1) (state old).faults (state new).faults
    pub crash : CrashesSo old new
    pub spares : KeepsBroken (state old) w gave.steps (state new)

  -- a line ends the session, by the sink or by the disk
  abbrev pub BreaksOff : Status → List Line → D → D → Type 0
  BreaksOff Sink heard old new = CutShort heard old new
  BreaksOff Disk heard old new = FailedLate heard old new
  BreaksOff Done heard old new = ⊥
  BreaksOff Usage heard old new = ⊥
  BreaksOff Memory heard old new = ⊥
  BreaksOff Source heard old new = ⊥
  BreaksOff Volume heard old new = ⊥
  BreaksOff Script heard old new = ⊥
  BreaksOff Small heard old new = ⊥

-- the first bytes of the input were read: the lines that ended in them are answered, and the reader holds what follows the last LF
pub record Serving {D : Type 0} (state : D → DiskState) (left : D → ℕ → Image → List ℕ → Type 0)
    (w : World) (v : VolumeView) (input taken : List ℕ) (old new : D) (reader : Gathered) : Type 0 where
  pub so_far : SoFar state left w (script_lines input) v (ended_lines taken) old new
  pub holds : reader.text ≡ take 40001 (cut_of taken).rest
