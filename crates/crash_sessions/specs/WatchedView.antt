-- What a watched host tells: nothing of its content.
use Rattle.std.specs.Prelude.{ℕ, List}
use Rattle.ice_base.specs.Disk.{Image, DiskState, untold}
use Rattle.disk_mem.specs.MemHostView.{told_by}
use Rattle.crash_sessions.specs.declared.host.Watched.{Watched}

-- its size and its counts of faults
abbrev pub watched : Watched → DiskState
watched w = untold (told_by w.host).size (told_by w.host).faults (told_by w.host).streams.source_faults (told_by w.host).streams.sink_faults

-- no crash is told of
abbrev pub watched_left : Watched → ℕ → Image → List ℕ → Type 0
watched_left w t image out = ⊥
