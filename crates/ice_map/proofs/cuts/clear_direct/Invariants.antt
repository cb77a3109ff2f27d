use Rattle.std.proofs.Common.{◌≡◌, ◌<◌, ◌≤◌, ℕ, length, slice_index}
use Rattle.ice_map.proofs.cuts.clear_direct.Given as goal

abbrev pub invariant-loop-k : goal.invariant-loop-k
invariant-loop-k l = record {
  before : length l.initial.direct ≡ 12;
  long : length l.direct ≡ 12;
  front : (j : ℕ) → j < l.first → slice_index l.direct j ≡ slice_index l.initial.direct j;
  back : (j : ℕ) → l.first ≤ j → j < l.k → slice_index l.direct j ≡ 0;
}
