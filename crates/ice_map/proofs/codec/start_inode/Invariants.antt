use Rattle.std.proofs.Common.{◌≡◌, ◌<◌, ◌≤◌, ◌+◌, ◌*◌, ℕ, slice_index}
use Rattle.ice_base.specs.Fields.{SameBeside}
use Rattle.ice_map.proofs.codec.start_inode.Given as goal

abbrev pub invariant-loop-k : goal.invariant-loop-k
invariant-loop-k l = record {
  kind : slice_index l.block (128 * l.index) ≡ l.kind;
  blank : (j : ℕ) → 1 ≤ j → j < l.k → slice_index l.block (128 * l.index + j) ≡ 0;
  others : SameBeside (128 * l.index) 128 l.fn.block l.block;
}
