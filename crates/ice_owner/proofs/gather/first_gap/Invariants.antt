use Rattle.std.proofs.Common.{◌≢◌, ◌<◌, ℕ}
use Rattle.std.specs.Prelude.{slice_index}
use Rattle.ice_owner.specs.Places.{nobody, IsTaken}
use Rattle.ice_owner.proofs.gather.first_gap.Given as goal

abbrev pub invariant-loop-k : goal.invariant-loop-k
invariant-loop-k l = (j : ℕ) → j < l.k → IsTaken l.counts j → slice_index l.places j ≢ nobody
