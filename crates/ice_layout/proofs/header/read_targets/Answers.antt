use Rattle.std.proofs.Common.{◌≡◌, ◌-◌, ◌++◌, ℕ, replicate, subst, arith}
use Rattle.ice_layout.specs.Headers.{targets_in}
use Rattle.ice_layout.proofs.HeaderLaws.{target-set, targets-filled}
use Rattle.ice_layout.proofs.header.read_targets.Goals as goal

pub loop-i-preserved : goal.loop-i-preserved
loop-i-preserved c = target-set c.args.from.now c.loop-i.i c.read_u32.result c.loop-i.targets (omega arith) c.read_u32.ensures c.loop-i.invariant

pub returns : goal.returns
returns c =
    let all : c.loop-i.i ≡ c.args.count = omega arith in
    targets-filled c.args.from.now c.args.count c.loop-i.targets (subst (λ (k : ℕ). c.loop-i.targets ≡ targets_in c.args.from.now k ++ replicate (240 - k) 0) all c.loop-i.invariant)
