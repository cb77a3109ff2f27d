use Rattle.std.proofs.Common.{◌≡◌, ◌≤◌, ◌==◌, length}
use Rattle.std.specs.Prelude.{slice_index, filter}
use Rattle.std.specs.List.{range_with_len}
use Rattle.ice_owner.proofs.marks.count_free.Given as goal

abbrev pub invariant-loop-g : goal.invariant-loop-g
invariant-loop-g l = record {
  counted : l.free ≡ length (filter (λ h. slice_index l.marks h == 0) (range_with_len 0 l.g));
  few : l.free ≤ l.g;
}
