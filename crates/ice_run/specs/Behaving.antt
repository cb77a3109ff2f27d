-- What a session does on any host, whatever its image is.
use Rattle.std.specs.Prelude.{◌≡◌, ◌⊎◌, ◌≤◌, true, ⊤}
use Rattle.ice_base.specs.Disk.{DiskState, Outside, Rose}
use Rattle.ice_base.specs.Frames.{Kept}
use Rattle.ice_base.specs.declared.status.Status.{Status}
use Rattle.ice_base.specs.declared.status.Status.TheVariants.{Done, Usage, Memory, Source, Sink, Disk, Volume, Script, Small}
use Rattle.ice_layout.specs.declared.superblock.LayoutFault.{LayoutFault}
use Rattle.ice_tables.specs.Tables.{Tables, HasTables, FirstFault}
use Rattle.ice_tables.specs.Lots.{total}
use Rattle.ice_system.specs.Attaching.{TooSmall}
use Rattle.ice_run.specs.Causes.{IsOfSession}

-- why a session ends with its status
abbrev pub Cause : Status → DiskState → DiskState → Type 0
Cause Done old new = ⊤
Cause Memory old new = ⊤
Cause Source old new = Rose old.streams.source_faults new.streams.source_faults
Cause Sink old new = Rose old.streams.sink_faults new.streams.sink_faults
Cause Disk old new = Rose old.faults new.faults
Cause Volume old new = old.tells ≡ true → (fault : LayoutFault) × FirstFault old.now fault × (¬ TooSmall old.size old.now)
Cause Small old new = (old.size ≡ 0) ⊎ (old.tells ≡ true → TooSmall old.size old.now)
Cause Script old new = ⊤
Cause Usage old new = ⊥

-- the statuses of a session whose volume attached
abbrev pub HasAttached : Status → Type 0
HasAttached Done = ⊤
HasAttached Source = ⊤
HasAttached Sink = ⊤
HasAttached Script = ⊤
HasAttached _ = ⊥

-- the statuses that come before anything is taken or given
abbrev pub IsSilent : Status → Type 0
IsSilent Usage = ⊤
IsSilent Memory = ⊤
IsSilent Volume = ⊤
IsSilent Small = ⊤
IsSilent _ = ⊥

-- what is said of each session, whether the host tells or not, and whether the image opens or not
pub record Behaves (status : Status) (old new : DiskState) : Type 0 where
  pub cause : Cause status old new
  pub silent : IsSilent status → new.streams ≡ old.streams
  pub attached : old.tells ≡ true → HasAttached status → (t : Tables) × HasTables old.now t × (total t ≤ old.size)
  pub frame : Kept (Outside IsOfSession) old new
  pub faults : old.faults ≤ new.faults
