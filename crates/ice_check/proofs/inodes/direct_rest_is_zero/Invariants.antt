use Rattle.std.proofs.Common.{◌≡◌, ◌≤◌, ◌<◌, ℕ, slice_index}
use Rattle.ice_check.proofs.inodes.direct_rest_is_zero.Given as goal

abbrev pub invariant-loop-k : goal.invariant-loop-k
invariant-loop-k l = (j : ℕ) → l.count ≤ j → j < l.k → slice_index l.inode.direct j ≡ 0
