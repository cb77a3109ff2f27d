use Rattle.std.proofs.Common.{◌≡◌, ◌≤◌, replicate, vec_len, vec_capacity}
use Rattle.disk_mem.proofs.blocks.zero_blocks.Given as goal

abbrev pub invariant-loop-i : goal.invariant-loop-i
invariant-loop-i l = record {
  items : l.blocks.items ≡ replicate l._i (replicate 1024 0);
  len : vec_len l.blocks ≡ l._i;
  room : l.n ≤ vec_capacity l.blocks;
}
