use Rattle.std.proofs.Common.{◌≡◌}
use Rattle.ice_base.specs.Bits.{count_below}
use Rattle.ice_check.specs.Marks.{marked}
use Rattle.ice_check.proofs.marks.count_marks.Given as goal

abbrev pub invariant-loop-k : goal.invariant-loop-k
invariant-loop-k l = l.count ≡ count_below (marked l.marks) l.k
