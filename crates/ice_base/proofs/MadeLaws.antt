-- Counts of writes and barriers add up.
use Rattle.std.proofs.Common.{◌+◌, ℕ, Bool, true, refl, arith}
use Rattle.ice_base.specs.Disk.{DiskState}
use Rattle.ice_base.specs.Counts.{Made}

-- after a good call the counts add up
pub made_then : (m n p q : ℕ) (good : Bool) (a b c : DiskState) → Made m p true a b → Made n q good b c → Made (m + n) (p + q) good a c
made_then m n p q good a b c v w = let e = v.all_writes refl in let f = v.all_barriers refl in record {
  most_writes = omega (arith, w.most_writes);
  most_barriers = omega (arith, w.most_barriers);
  all_writes = λ t. let g = w.all_writes t in omega arith;
  all_barriers = λ t. let g = w.all_barriers t in omega arith;
}
