use Rattle.std.proofs.Common.{◌≡◌, ◌<◌, ◌+◌, ◌*◌, ℕ, slice_index}
use Rattle.ice_base.specs.Fields.{SameBeside}
use Rattle.ice_base.specs.Inodes.{pointer}
use Rattle.ice_map.proofs.codec.write_direct.Given as goal

abbrev pub invariant-loop-k : goal.invariant-loop-k
invariant-loop-k l = record {
  direct : (j : ℕ) → j < l.k → pointer l.block l.index j ≡ slice_index l.direct j;
  others : SameBeside (128 * l.index + 8) 48 l.initial.block l.block;
}
