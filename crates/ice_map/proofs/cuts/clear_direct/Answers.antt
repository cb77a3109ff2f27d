use Rattle.std.proofs.Common.{arith}
use Rattle.ice_map.proofs.CutLaws.{cleared}
use Rattle.ice_map.proofs.cuts.clear_direct.Goals as goal

pub returns-clause-cleared : goal.returns-clause-cleared
returns-clause-cleared c = cleared c.args.direct.now c.loop-k.direct c.args.rest c.if-rest-lt12.first c.loop-k.invariant.before c.loop-k.invariant.long (λ h. omega arith) (λ h. omega arith) c.loop-k.invariant.front
    (λ j l h. c.loop-k.invariant.back j l (omega arith))
