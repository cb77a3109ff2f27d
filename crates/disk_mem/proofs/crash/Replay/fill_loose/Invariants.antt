use Rattle.std.proofs.Common.{◌≡◌, ◌<◌, ◌≤◌, ℕ, true, false, length, slice_index_or}
use Rattle.ice_base.specs.Disk.{block}
use Rattle.disk_mem.specs.Fill.{Filled}
use Rattle.disk_mem.proofs.crash.Replay.fill_loose.Given as goal

abbrev pub invariant-loop-k : goal.invariant-loop-k
invariant-loop-k l = record {
  flags : l.self.loose.items ≡ l.initial.self.loose.items;
  old : l.self.settled.items ≡ l.initial.self.settled.items;
  count : length l.self.blocks.items ≡ length l.initial.self.blocks.items;
  settled : (j : ℕ) → slice_index_or l.initial.self.loose.items j false ≡ false → block l.self.blocks.items j ≡ block l.initial.self.blocks.items j;
  waiting : (j : ℕ) → l.k ≤ j → block l.self.blocks.items j ≡ block l.initial.self.blocks.items j;
  loose : (j : ℕ) → j < l.k → slice_index_or l.initial.self.loose.items j false ≡ true
      → Filled l.fill j (block l.initial.self.settled.items j) (block l.initial.self.blocks.items j) (block l.self.blocks.items j);
}
