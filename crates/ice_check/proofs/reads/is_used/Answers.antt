use Rattle.std.proofs.Common.{ℕ, ◌%◌, ◌+◌, List, ◌∙◌, ap, sym, arith}
use Rattle.ice_base.specs.Bits.{bit_of}
use Rattle.ice_base.proofs.LotLaws.{sited-few}
use Rattle.ice_base.proofs.UsedLaws.{used-bit}
use Rattle.ice_check.proofs.reads.is_used.Goals as goal

pub overflow_mul-number : goal.overflow_mul-number
overflow_mul-number g c = let few = sited-few _ _ c.requires.sited in let below = c.requires.number in omega arith

pub returns-clause-value : goal.returns-clause-value
returns-clause-value g c = λ m s. c.bit.ensures ∙ ap (λ (b : List ℕ). bit_of b (256 + c.args.number % 64)) (c.in_ok-read_block.ensures.content m s) ∙ sym (used-bit _ m c.args.number)
