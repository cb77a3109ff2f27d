use Rattle.std.proofs.Common.{◌∙◌, ap, take}
use Rattle.disk_mem.specs.Memory.{Moment, after}
use Rattle.disk_mem.proofs.Past.{after_more}
use Rattle.disk_mem.proofs.crash.given_by.Goals as goal

pub loop-step-preserved : goal.loop-step-preserved
loop-step-preserved c = λ m zero. ap (λ (x : Moment). x.given) (after_more c.args.moment m c.args.steps.now c.loop-step.step-index _ c.loop-step-test.true)
    ∙ c.given_after-given.ensures (after c.args.moment m (take c.loop-step.step-index c.args.steps.now)) (c.loop-step.invariant m zero)
