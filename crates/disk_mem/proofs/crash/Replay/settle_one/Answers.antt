use Rattle.std.proofs.Common.{ℕ, List, Bool, length, ◌<◌, ◌≡◌, true, false, if◌then◌else◌, slice_index_or, ◌∙◌, sym, arith}
use Rattle.std.proofs.lemmas.List.{get_or_default}
use Rattle.std.proofs.lemmas.Bool.Decides.{nat_tests}
use Rattle.disk_mem.proofs.Past.{block_set_same, block_set_other, read_block}
use Rattle.disk_mem.proofs.crash.Replay.settle_one.Goals as goal

chosen : (b : Bool) → b ≡ true → (x y : List ℕ) → x ≡ (if b then x else y)
chosen b is x y = grind (arith, nat_tests)

flag : (flags : List Bool) (k : ℕ) (f : Bool) → k < length flags → f ≡ slice_index_or flags k f → f ≡ slice_index_or flags k false
flag flags k f less is = is ∙ get_or_default flags k f false less

pub returns-then-index-clause-settled : goal.returns-then-index-clause-settled
returns-then-index-clause-settled c = let self = c.args.self.now in
    block_set_same self.settled.items c.args.k c.index-then-index.result.now (omega (arith, c.requires, self.count, self.marks))
    ∙ read_block self.blocks.items c.args.k _ (omega (arith, c.requires, self.marks)) c.index-then-index.ensures
    ∙ chosen (slice_index_or self.loose.items c.args.k false) (sym (flag self.loose.items c.args.k c.index.result.now c.requires c.index.ensures) ∙ c.if-index.true) _ _

pub returns-then-index-clause-others : goal.returns-then-index-clause-others
returns-then-index-clause-others c = λ j other. block_set_other c.args.self.now.settled.items c.args.k c.index-then-index.result.now j other
