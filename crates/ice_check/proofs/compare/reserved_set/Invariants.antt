use Rattle.std.proofs.Common.{◌≡◌, ℕ, ◌<◌, true}
use Rattle.ice_base.specs.Bits.{bit_of}
use Rattle.ice_check.proofs.compare.reserved_set.Given as goal

abbrev pub invariant-loop-i : goal.invariant-loop-i
invariant-loop-i l = (j : ℕ) → j < l.i → bit_of l.block j ≡ true
