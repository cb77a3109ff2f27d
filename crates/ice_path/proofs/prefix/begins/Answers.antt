use Rattle.std.proofs.Common.{[], sym, ◌∙◌, arith}
use Rattle.ice_path.proofs.Prefixes.{begins-longer, begins-step, begins-differs}
use Rattle.ice_path.proofs.prefix.begins.Goals as goal

pub returns-then-len : goal.returns-then-len
returns-then-len c = begins-longer c.args.path.now c.args.to.now c.args.depth (omega arith) (omega arith)

pub returns-then-not-same_name : goal.returns-then-not-same_name
returns-then-not-same_name c = begins-differs c.args.path.now c.args.to.now c.args.depth c.loop-i.i (omega arith) (omega arith) (omega arith) (sym (c.same_name.ensures []) ∙ c.if-not-same_name.true) c.loop-i.invariant

pub loop-i-preserved : goal.loop-i-preserved
loop-i-preserved c = begins-step c.args.path.now c.args.to.now c.args.depth c.loop-i.i (omega arith) (omega arith) (omega arith) (sym (c.same_name.ensures []) ∙ c.if-not-same_name.false) c.loop-i.invariant
