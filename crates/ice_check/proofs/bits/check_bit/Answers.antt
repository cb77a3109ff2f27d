use Rattle.std.proofs.Common.{◌∙◌, ℕ, ◌%◌, List, ap, sym, arith}
use Rattle.ice_base.specs.Bits.{bit_of}
use Rattle.ice_base.proofs.LotLaws.{sited-few, bitmap_address}
use Rattle.ice_base.proofs.UsedLaws.{used-bit, data_below}
use Rattle.ice_check.proofs.bits.check_bit.Goals as goal

pub overflow_mul-at : goal.overflow_mul-at
overflow_mul-at g c = let few = sited-few _ _ c.requires.sited in let below = data_below _ _ c.requires.data in omega arith

pub read_block-requires-clause-address : goal.read_block-requires-clause-address
read_block-requires-clause-address g c = bitmap_address _ _ (data_below _ _ c.requires.data)

pub returns-then-not-bit-clause-clear : goal.returns-then-not-bit-clause-clear
returns-then-not-bit-clause-clear g c = λ m s.
    used-bit _ m c.args.at ∙ ap (λ (b : List ℕ). bit_of b (c.args.at % 256)) (sym (c.in_ok-read_block.ensures.content m s)) ∙ sym c.bit.ensures ∙ c.if-not-bit.true
