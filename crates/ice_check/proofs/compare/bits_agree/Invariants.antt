use Rattle.std.proofs.Common.{◌≡◌, ℕ, ◌+◌, ◌<◌, ◌≤◌}
use Rattle.ice_base.specs.Bits.{bit_of}
use Rattle.ice_base.specs.Used.{bit_index}
use Rattle.ice_check.specs.Marks.{marked}
use Rattle.ice_check.proofs.compare.bits_agree.Given as goal

abbrev pub invariant-loop-i : goal.invariant-loop-i
invariant-loop-i l = (j : ℕ) → l.from ≤ j → j < l.i → bit_of l.block (bit_index l.inodes j) ≡ marked l.marks (l.start + j)
