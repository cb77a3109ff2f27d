use Rattle.std.proofs.Common.{◌≡◌, ℕ, ◌<◌, true}
use Rattle.ice_base.specs.Bits.{bit_of}
use Rattle.ice_base.specs.Used.{bit_index}
use Rattle.ice_bits.proofs.first_clear.Given as goal

abbrev pub invariant-loop-i : goal.invariant-loop-i
invariant-loop-i l = (j : ℕ) → j < l.i → bit_of l.block (bit_index l.inodes j) ≡ true
