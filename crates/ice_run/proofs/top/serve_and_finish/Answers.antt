use Rattle.std.proofs.Common.{subst}
use Rattle.ice_base.specs.declared.status.Status.{Status}
use Rattle.ice_run.specs.Servings.{Served}
use Rattle.ice_run.proofs.Concluding.{concluded_as, concluded_well, concluded_failed}
use Rattle.ice_run.proofs.top.serve_and_finish.Goals as goal

pub returns-in-Ok-clause-concluded : goal.returns-in-Ok-clause-concluded
returns-in-Ok-clause-concluded g c = λ w stands empty.
    let state = g.H.Disk.state in let left = g.H.Disk.left in
    let served = subst (λ (status : Status). Served state left w c.args.host.now status c.serve.new.volume c.serve.new.host) c.in-Done.is (c.serve.ensures.served w stands empty) in
    concluded_well state left w c.args.host.now c.serve.new.volume c.serve.new.host c.finish.new.disk served c.finish.ensures.within.streams c.finish.ensures.within.faults c.finish.ensures.leaves c.finish.ensures.spares
    c.finish.new.self c.in-Ok.ensures.closes

pub returns-in-Err-clause-concluded : goal.returns-in-Err-clause-concluded
returns-in-Err-clause-concluded g c = λ w stands empty.
    let state = g.H.Disk.state in let left = g.H.Disk.left in
    let served = subst (λ (status : Status). Served state left w c.args.host.now status c.serve.new.volume c.serve.new.host) c.in-Done.is (c.serve.ensures.served w stands empty) in
    concluded_failed state left w c.args.host.now c.serve.new.volume c.serve.new.host c.finish.new.disk served c.finish.ensures.within.streams c.finish.ensures.within.faults c.finish.ensures.leaves c.finish.ensures.spares
    c.in-Err.ensures.cause.failed

pub returns-in_default-clause-concluded : goal.returns-in_default-clause-concluded
returns-in_default-clause-concluded g c = λ w stands empty.
    concluded_as g.H.Disk.state g.H.Disk.left w c.args.host.now c.serve.result c.serve.new.volume c.serve.new.host c.in_default.not-Done (c.serve.ensures.served w stands empty)
