use Rattle.std.proofs.Common.{◌≡◌, ◌≤◌, ◌+◌, ◌*◌}
use Rattle.ice_base.specs.Bits.{bit_of, count_below}
use Rattle.ice_bits.proofs.count_byte.Given as goal

abbrev pub invariant-loop-i : goal.invariant-loop-i
invariant-loop-i l = record {
  counted : l.set ≡ count_below (λ j. bit_of l.block (8 * l.at + j)) l.i;
  small : l.set ≤ l.i;
}
