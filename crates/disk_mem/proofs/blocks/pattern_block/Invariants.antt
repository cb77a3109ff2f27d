use Rattle.std.proofs.Common.{◌≡◌, ◌<◌, ℕ, length, slice_index_or}
use Rattle.disk_mem.specs.Fill.{pattern}
use Rattle.disk_mem.proofs.blocks.pattern_block.Given as goal

abbrev pub invariant-loop-j : goal.invariant-loop-j
invariant-loop-j l = record {
  len : length l.block ≡ 1024;
  bytes : (i : ℕ) → i < l.j → slice_index_or l.block i 0 ≡ pattern l.fill l.at i;
}
