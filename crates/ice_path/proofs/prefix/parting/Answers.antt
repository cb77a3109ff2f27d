use Rattle.std.proofs.Common.{[], sym, ◌∙◌, arith}
use Rattle.ice_path.proofs.Prefixes.{same-none, same-next}
use Rattle.ice_path.proofs.prefix.parting.Goals as goal

pub loop-k-init : goal.loop-k-init
loop-k-init c = record {
  from = omega arith;
  same = same-none c.args.path.now c.args.to.now c.args.depth;
}

pub loop-k-preserved : goal.loop-k-preserved
loop-k-preserved c = record {
  from = omega (arith, c.loop-k.invariant.from);
  same = same-next c.args.path.now c.args.to.now c.args.depth c.loop-k.k c.loop-k.invariant.from (omega arith) (omega arith) (sym (c.same_name.ensures []) ∙ c.if-not-same_name.false) c.loop-k.invariant.same;
}
