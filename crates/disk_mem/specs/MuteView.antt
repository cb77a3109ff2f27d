-- What a host tells that tells nothing of its content.
use Rattle.std.specs.Prelude.{ℕ, List, [], false}
use Rattle.ice_base.specs.Disk.{Image, DiskState, untold}
use Rattle.disk_mem.specs.declared.mute.MuteHost.{MuteHost}
use Rattle.disk_mem.specs.MemHostView.{told_by}

-- its size and its counts of faults
abbrev pub mute : MuteHost → DiskState
mute m = untold (told_by m.host).size (told_by m.host).faults (told_by m.host).streams.source_faults (told_by m.host).streams.sink_faults

-- no crash is told of
abbrev pub mute_left : MuteHost → ℕ → Image → List ℕ → Type 0
mute_left m t image out = ⊥
