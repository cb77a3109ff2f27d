use Rattle.std.proofs.Common.{◌≡◌, ◌<◌, ◌+◌, ◌/◌, ◌%◌, ℕ, length}
use Rattle.std.specs.Prelude.{slice_index}
use Rattle.ice_owner.specs.Places.{mark_byte}
use Rattle.ice_owner.proofs.marks.entries.Given as goal

abbrev pub invariant-loop-k : goal.invariant-loop-k
invariant-loop-k l = record {
  long : length l.block ≡ 1024;
  bytes : (j : ℕ) → j < l.k → slice_index l.block j ≡ mark_byte (slice_index l.marks (l.first + j / 4)) (j % 4);
}
