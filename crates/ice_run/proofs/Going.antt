-- Calls of a session go on from one another: the disk stays the same one, and no count of faults falls.
use Rattle.std.proofs.Common.{arith}
use Rattle.ice_base.specs.Disk.{DiskState, Outside}
use Rattle.ice_base.proofs.Kept.{kept_refl, kept_then, kept_same}
use Rattle.ice_base.specs.Host.{SameDisk, GaveOnly}
use Rattle.ice_run.specs.Causes.{GoesOn, IsOfSession}
use Rattle.ice_run.specs.Pieces.{TookOnly}

pub goes_refl : (s : DiskState) → GoesOn s s
goes_refl s = record { kept = kept_refl (Outside IsOfSession) s; faults = omega arith; source = omega arith; sink = omega arith }

pub goes_then : (a b c : DiskState) → GoesOn a b → GoesOn b c → GoesOn a c
goes_then a b c p q = record {
  kept = kept_then (Outside IsOfSession) a b c p.kept q.kept;
  faults = omega (arith, p.faults, q.faults);
  source = omega (arith, p.source, q.source);
  sink = omega (arith, p.sink, q.sink);
}

-- a give
pub goes_gave : (a b : DiskState) → SameDisk a b → GaveOnly a.streams b.streams → GoesOn a b
goes_gave a b same only =
    record { kept = kept_same (Outside IsOfSession) a b same; faults = omega (arith, same.faults); source = omega (arith, only.source_faults); sink = only.faults }

-- a take
pub goes_took : (a b : DiskState) → SameDisk a b → TookOnly a.streams b.streams → GoesOn a b
goes_took a b same only =
    record { kept = kept_same (Outside IsOfSession) a b same; faults = omega (arith, same.faults); source = only.faults; sink = omega (arith, only.sink_faults) }
