-- What a host in memory shows.
use Rattle.std.specs.Prelude.{ℕ, List, false, slice_index_or, drop}
use Rattle.ice_base.specs.Disk.{Image, DiskState}
use Rattle.disk_mem.specs.declared.mem_host.MemHost.{MemHost}
use Rattle.disk_mem.specs.Memory.{Memory, past_of, told, LeftInMemory}

-- what the host holds
abbrev pub memory : MemHost → Memory
memory m = record {
  blocks = m.blocks.items;
  loose = λ k. slice_index_or m.loose.items k false;
  past = past_of m.first.items m.steps.items;
  remembered = m.remembered;
  output = m.output.items;
  intake = drop m.taken m.script.items;
  piece = m.piece;
  failing = m.failing.items;
  room = m.room;
  room_bytes = m.room_bytes;
  calls = m.calls;
  reads = m.reads;
  writes = m.writes;
  barriers = m.barriers;
  disk_faults = m.disk_faults;
  source_faults = m.source_faults;
  sink_faults = m.sink_faults;
}

-- what it tells
abbrev pub told_by : MemHost → DiskState
told_by m = told (memory m)

-- what its crashes may leave
abbrev pub left_by : MemHost → ℕ → Image → List ℕ → Type 0
left_by m t image out = LeftInMemory (memory m) t image out
