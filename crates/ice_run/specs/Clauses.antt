-- The clauses of a whole session, for each world that the image opens at its start.
use Rattle.std.specs.Prelude.{◌≡◌, ◌⊎◌, ◌≤◌, ◌<◌, ◌+◌, ℕ, ⊤, List, [], ◌∷◌, ◌++◌, length, take, Some, Err, IsOk}
use Rattle.ice_base.specs.Disk.{DiskState, Everywhere, Rose, RoseBy}
use Rattle.ice_base.specs.Frames.{Every}
use Rattle.ice_base.specs.declared.status.Status.{Status}
use Rattle.ice_base.specs.declared.status.Status.TheVariants.{Done, Usage, Memory, Source, Sink, Disk, Volume, Script, Small}
use Rattle.tree_spec.specs.Why as why
use Rattle.tree_spec.specs.Lines.{Line}
use Rattle.tree_spec.specs.Replies.{Response, Because}
use Rattle.tree_spec.specs.Replies as reply
use Rattle.tree_spec.specs.Records.{Cube, Content, Sound}
use Rattle.tree_spec.specs.Own.{Mount, Create}
use Rattle.tree_spec.specs.World.{World, Aim, At, aim}
use Rattle.ice_text.specs.Text.{text, closings}
use Rattle.ice_images.specs.Fitting.{Fits}
use Rattle.ice_volume.specs.Lines.{IsTableOrder}
use Rattle.ice_volume.specs.Sessions.{finished}
use Rattle.ice_run.specs.Scripts.{ended_lines, script_lines, longest_script}
use Rattle.ice_run.specs.Crashes.{KeepsBroken}
use Rattle.ice_run.specs.Runs.{Answered, RunsFirst, Next, end, lines_of, reply_texts, faults_of, IsProperPrefix}
use Rattle.ice_run.specs.Alone.{told, AllClean, orders_of, replies_of, said}

-- ---- how far it came

-- the lines in the bytes that were taken: those that an LF ends, and where none were left the rest too
abbrev pub Heard : (taken left : List ℕ) → List Line → Type 0
Heard taken left lines = (lines ≡ ended_lines taken) ⊎ ((left ≡ []) × (lines ≡ script_lines taken))

-- the reply to the next of the lines that were taken was given in part
pub record IsCutShort (w : World) (steps : List Answered) (tail taken left : List ℕ) : Type 0 where
  pub lines : List Line
  pub heard : Heard taken left lines
  pub reply : Response
  pub then : World
  pub next : Next w lines steps reply then
  pub part : IsProperPrefix tail (text reply)

-- the next of the lines that were taken is a change of the tables
pub record StopsAtTables (w : World) (steps : List Answered) (taken left : List ℕ) : Type 0 where
  pub lines : List Line
  pub heard : Heard taken left lines
  pub line : Line
  pub ahead : List Line
  pub next : lines ≡ lines_of steps ++ line ∷ ahead
  pub order : IsTableOrder (aim (end w steps) line)

-- the volume did not attach; a change of the tables failed; or the end did, after all lines
abbrev pub StopsAt : World → List Answered → (taken left : List ℕ) → Type 0
StopsAt w steps taken left = ((taken ≡ []) × (steps ≡ []))
    ⊎ (StopsAtTables w steps taken left ⊎ ((left ≡ []) × (lines_of steps ≡ script_lines taken)))

-- Which lines are answered, by the status. The statuses that are missing don't come where the image opens.
abbrev pub EndsAt : Status → World → List Answered → (tail taken left : List ℕ) → Type 0
EndsAt Done w steps tail taken left = (tail ≡ []) × (left ≡ []) × (length taken ≤ longest_script) × (lines_of steps ≡ script_lines taken)
EndsAt Source w steps tail taken left = (tail ≡ []) × (length taken ≤ longest_script) × (lines_of steps ≡ ended_lines taken)
EndsAt Sink w steps tail taken left = (length taken ≤ longest_script) × IsCutShort w steps tail taken left
EndsAt Script w steps tail taken left = (tail ≡ []) × (length taken ≡ longest_script + 1) × (lines_of steps ≡ ended_lines (take longest_script taken))
EndsAt Disk w steps tail taken left = (tail ≡ []) × (length taken ≤ longest_script) × StopsAt w steps taken left
EndsAt Memory w steps tail taken left = (tail ≡ []) × (taken ≡ []) × (steps ≡ [])
EndsAt Usage w steps tail taken left = ⊥
EndsAt Volume w steps tail taken left = ⊥
EndsAt Small w steps tail taken left = ⊥

-- ---- causes and completeness

-- a status Disk takes a fault more
abbrev pub fault_at : Status → ℕ
fault_at Disk = 1
fault_at _ = 0

-- no count of faults rose
pub record NoneRose (old new : DiskState) : Type 0 where
  pub disk : ¬ Rose old.faults new.faults
  pub source : ¬ Rose old.streams.source_faults new.streams.source_faults
  pub sink : ¬ Rose old.streams.sink_faults new.streams.sink_faults

-- a session that met no fault: all lines are answered, unless there was no memory or the script is too long
abbrev pub EndsWell : Status → DiskState → Type 0
EndsWell Done old = ⊤
EndsWell Memory old = ⊤
EndsWell Script old = longest_script < length old.streams.intake
EndsWell _ old = ⊥

-- want of memory is the answer to `create` and `mount` alone
abbrev pub MayLack : Aim → Type 0
MayLack (At s (Create p n)) = ⊤
MayLack (At s Mount) = ⊤
MayLack _ = ⊥

-- an order to a sound cube
abbrev pub ToSound : Content → Type 0
ToSound (Sound h) = ⊤
ToSound _ = ⊥

abbrev pub IsToSound : World → Aim → Type 0
IsToSound w (At s o) = (c : Cube) × (w.cube s ≡ Some c) × ToSound c.content
IsToSound w _ = ⊥

-- each reply of want of memory is to `create` or `mount`, and no sound cube is damaged
abbrev pub AnswersWell : World → List Answered → Type 0
AnswersWell w [] = ⊤
AnswersWell w (a ∷ rest) =
    (a.reply ≡ Err reply.Memory → MayLack (aim w a.line))
    × ((rule : ℕ) → a.reply ≡ Err (Because (why.Damaged rule)) → ¬ IsToSound w (aim w a.line))
    × AnswersWell a.then rest

-- ---- each cube by itself

-- the replies to the cube of a slot are those of its record by itself, unless one is a fault or want of memory
abbrev pub SaysAlone : ℕ → World → List Answered → Type 0
SaysAlone s w steps = AllClean (told s w steps) → replies_of (told s w steps) ≡ said (w.cube s) (orders_of (told s w steps))

-- those that were sound at the start, and those that were made in the session, from there on
pub record AllAlone (w : World) (steps : List Answered) : Type 0 where
  pub found : (s : ℕ) (c : Cube) → w.cube s ≡ Some c → ToSound c.content → SaysAlone s w steps
  pub made : (s : ℕ) (before rest : List Answered) (a : Answered) (p : List (List ℕ)) (n : ℕ) → steps ≡ before ++ a ∷ rest
      → aim (end w before) a.line ≡ At s (Create p n) → IsOk a.reply → SaysAlone s a.then rest

-- ---- the clauses together

-- What a session gave is the text of the replies of a run of the script's first lines, and at Sink the front of a further one.
-- All that is said of its end is said of this run. No block is written of a cube that was broken at its start and stayed so.
pub record Ends (status : Status) (w : World) (old new : DiskState) : Type 0 where
  pub steps : List Answered
  pub runs : RunsFirst w (script_lines old.streams.intake) steps
  pub tail : List ℕ
  pub gives : new.streams.aside ≡ old.streams.aside ++ reply_texts steps ++ tail
  pub count : closings (reply_texts steps ++ tail) ≡ length steps
  pub taken : List ℕ
  pub took : old.streams.intake ≡ taken ++ new.streams.intake
  pub by_status : EndsAt status w steps tail taken new.streams.intake
  pub exit : status ≡ Done → Every Everywhere new (Fits (finished (end w steps)))
  pub spares : KeepsBroken old w steps new
  pub faults : RoseBy (faults_of steps + fault_at status) old.faults new.faults
  pub complete : NoneRose old new → EndsWell status old × (faults_of steps ≡ 0)
  pub answers : AnswersWell w steps
  pub alone : AllAlone w steps
