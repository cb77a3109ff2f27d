use Rattle.std.proofs.Common.{◌≡◌, ◌≤◌, ◌*◌}
use Rattle.ice_base.specs.Bits.{bit_of, count_below}
use Rattle.ice_base.specs.Used.{bit_index}
use Rattle.ice_bits.proofs.count.Given as goal

abbrev pub invariant-loop-byte : goal.invariant-loop-byte
invariant-loop-byte l = record {
  counted : l.set ≡ count_below (λ j. bit_of l.block (bit_index l.inodes j)) (8 * l.byte);
  small : l.set ≤ 8 * l.byte;
}
