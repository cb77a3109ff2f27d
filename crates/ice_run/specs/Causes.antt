-- Why calls of a session and the making of an image end.
use Rattle.std.specs.Prelude.{◌⊎◌, ◌≤◌, ◌<◌, ℕ, ⊤}
use Rattle.ice_base.specs.Disk.{DiskState, Outside, Rose}
use Rattle.ice_base.specs.Frames.{Kept}
use Rattle.ice_base.specs.declared.status.Status.{Status}
use Rattle.ice_base.specs.declared.status.Status.TheVariants.{Done, Usage, Memory, Source, Sink, Disk, Volume, Script, Small}
use Rattle.ice_layout.specs.Geometry.{total_blocks}
use Rattle.ice_layout.specs.declared.superblock.Super.{Super}
use Rattle.ice_system.specs.Says.{IsChange}

-- the blocks that a session may write: the journal of the tables and the tables, the slots' areas and the groups
abbrev pub IsOfSession : ℕ → Type 0
IsOfSession k = IsChange k ⊎ (32 ≤ k)

-- no count of faults fell, the disk is the same one, and all other blocks are as they were
pub record GoesOn (old new : DiskState) : Type 0 where
  pub kept : Kept (Outside IsOfSession) old new
  pub faults : old.faults ≤ new.faults
  pub source : old.streams.source_faults ≤ new.streams.source_faults
  pub sink : old.streams.sink_faults ≤ new.streams.sink_faults

-- Disk, Source and Sink come only where that count rose, and what else ends the taking early is Script
abbrev pub LoopCause : Status → DiskState → DiskState → Type 0
LoopCause Source old new = Rose old.streams.source_faults new.streams.source_faults
LoopCause Sink old new = Rose old.streams.sink_faults new.streams.sink_faults
LoopCause Disk old new = Rose old.faults new.faults
LoopCause Script old new = ⊤
LoopCause Done old new = ⊥
LoopCause Usage old new = ⊥
LoopCause Memory old new = ⊥
LoopCause Volume old new = ⊥
LoopCause Small old new = ⊥

-- why the making of an image ends with its status
abbrev pub FormatCause : Super → Status → DiskState → DiskState → Type 0
FormatCause sup Done old new = ⊤
FormatCause sup Disk old new = Rose old.faults new.faults
FormatCause sup Small old new = old.size < total_blocks sup.slots sup.groups
FormatCause sup Usage old new = ⊥
FormatCause sup Memory old new = ⊥
FormatCause sup Source old new = ⊥
FormatCause sup Sink old new = ⊥
FormatCause sup Volume old new = ⊥
FormatCause sup Script old new = ⊥
