use Rattle.std.proofs.Common.{◌≡◌, ◌≤◌, ◌<◌, ℕ, slice_index}
use Rattle.ice_dir.proofs.rows.clear.Given as goal

abbrev pub invariant-loop-k : goal.invariant-loop-k
invariant-loop-k l = record {
  zeros : (j : ℕ) → l.from ≤ j → j < l.k → slice_index l.block j ≡ 0;
  before : (j : ℕ) → j < l.from → slice_index l.block j ≡ slice_index l.initial.block j;
  after : (j : ℕ) → l.k ≤ j → slice_index l.block j ≡ slice_index l.initial.block j;
}
