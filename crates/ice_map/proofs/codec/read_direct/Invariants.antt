use Rattle.std.proofs.Common.{◌≡◌, ◌<◌, ℕ, length, slice_index}
use Rattle.ice_base.specs.Inodes.{pointer}
use Rattle.ice_map.proofs.codec.read_direct.Given as goal

abbrev pub invariant-loop-k : goal.invariant-loop-k
invariant-loop-k l = record {
  long : length l.direct ≡ 12;
  read : (j : ℕ) → j < l.k → pointer l.block l.index j ≡ slice_index l.direct j;
}
