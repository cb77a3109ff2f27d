use Rattle.std.proofs.Common.{◌≡◌, ◌<◌, ℕ, false, slice_index_or}
use Rattle.ice_base.specs.Disk.{block}
use Rattle.disk_mem.proofs.crash.Replay.settle.Given as goal

abbrev pub invariant-loop-k : goal.invariant-loop-k
invariant-loop-k l = record {
  blocks : l.self.blocks.items ≡ l.initial.self.blocks.items;
  cleared : (j : ℕ) → j < l.k → slice_index_or l.self.loose.items j false ≡ false;
  rest : ((j : ℕ) → slice_index_or l.initial.self.loose.items j false ≡ false → block l.initial.self.settled.items j ≡ block l.initial.self.blocks.items j)
      → (j : ℕ) → slice_index_or l.self.loose.items j false ≡ false → block l.self.settled.items j ≡ block l.self.blocks.items j;
}
