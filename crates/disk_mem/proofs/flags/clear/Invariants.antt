use Rattle.std.proofs.Common.{◌≡◌, ◌<◌, ℕ, false, length, slice_index_or}
use Rattle.disk_mem.proofs.flags.clear.Given as goal

abbrev pub invariant-loop-i : goal.invariant-loop-i
invariant-loop-i l = record {
  all : (k : ℕ) → k < l.i → slice_index_or l.flags.items k false ≡ false;
  len : length l.flags.items ≡ length l.initial.flags.items;
}
