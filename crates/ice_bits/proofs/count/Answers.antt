use Rattle.std.proofs.Common.{◌+◌, ◌*◌, ◌/◌, sym, arith}
use Rattle.ice_base.specs.Bits.{bit_of}
use Rattle.ice_base.specs.Used.{bit_index}
use Rattle.ice_base.proofs.CountLaws.{count_below-le, count_below-zero}
use Rattle.ice_bits.proofs.Bytes.{byte_here, count_more, first_byte}
use Rattle.ice_bits.proofs.count.Goals as goal

pub loop-byte-init : goal.loop-byte-init
loop-byte-init c = record { counted = sym (count_below-zero (λ j. bit_of c.args.block.now (bit_index c.args.inodes j))); small = omega arith }

pub overflow_add-set : goal.overflow_add-set
overflow_add-set c =
    let few = count_below-le (λ j. bit_of c.args.block.now (8 * (c.index-first.result / 8 + c.loop-byte.byte) + j)) 8 in
    omega (arith, few, c.count_byte-set.ensures, c.loop-byte.invariant.small, c.loop-byte-test.true, c.bits.type_inv)

pub loop-byte-preserved : goal.loop-byte-preserved
loop-byte-preserved c =
    let few = count_below-le (λ j. bit_of c.args.block.now (8 * (c.index-first.result / 8 + c.loop-byte.byte) + j)) 8 in
    let more = count_more c.args.block.now c.args.inodes (c.index-first.result / 8) c.loop-byte.byte (first_byte c.args.inodes c.index-first.result c.index-first.ensures.place) in
    record {
      counted = byte_here c.args.block.now c.args.inodes c.loop-byte.byte c.loop-byte.set c.count_byte-set.result _ c.loop-byte.invariant.counted c.count_byte-set.ensures more;
      small = omega (arith, few, c.count_byte-set.ensures, c.loop-byte.invariant.small);
    }
