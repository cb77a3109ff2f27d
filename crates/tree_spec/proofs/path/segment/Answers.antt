use Rattle.std.proofs.Common.{subst, arith, length}
use Rattle.tree_spec.proofs.Texts.{IsSplitAt, split_none, split_begins, split_rest, split_end}
use Rattle.tree_spec.proofs.path.segment.Goals as goal

pub loop-i-init : goal.loop-i-init
loop-i-init c = split_none _

pub returns-then-b-eq47-clause-begins : goal.returns-then-b-eq47-clause-begins
returns-then-b-eq47-clause-begins c = split_begins c.args.text.now c.loop-i.i c.loop-i-test.true c.if-b-eq47.true

pub returns-then-b-eq47-clause-rest : goal.returns-then-b-eq47-clause-rest
returns-then-b-eq47-clause-rest c = split_rest c.args.text.now c.loop-i.i c.loop-i.invariant

pub returns-clause-begins : goal.returns-clause-begins
returns-clause-begins c = split_end c.args.text.now

pub returns-clause-rest : goal.returns-clause-rest
returns-clause-rest c = split_rest c.args.text.now (length c.args.text.now) (subst (IsSplitAt c.args.text.now) (omega arith) c.loop-i.invariant)
