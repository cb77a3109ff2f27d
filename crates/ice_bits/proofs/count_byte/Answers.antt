use Rattle.std.proofs.Common.{sym}
use Rattle.ice_bits.proofs.Bytes.{full_byte, zero_byte}
use Rattle.ice_bits.proofs.count_byte.Goals as goal

pub returns-in-0 : goal.returns-in-0
returns-in-0 c = sym (zero_byte c.args.block.now c.args.at c.in-0.is)

pub returns-in-255 : goal.returns-in-255
returns-in-255 c = sym (full_byte c.args.block.now c.args.at c.in-255.is)
