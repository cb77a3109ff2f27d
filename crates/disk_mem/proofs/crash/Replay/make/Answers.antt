use Rattle.std.proofs.Common.{◌∙◌, sym, ap, subst, arith}
use Rattle.disk_mem.specs.Memory.{Moment, call_number, applied}
use Rattle.disk_mem.specs.Crash.{ShowsMoment}
use Rattle.disk_mem.specs.declared.step.Step.{Step}
use Rattle.disk_mem.proofs.Past.{made}
use Rattle.disk_mem.proofs.crash.Replay.make.Goals as goal

pub returns-in-Failed : goal.returns-in-Failed
returns-in-Failed c = λ m s. let r = c.loosen.new.self in
    subst (λ (x : Moment). ShowsMoment x r.blocks.items r.settled.items r.loose.items)
    (sym (made c.args.moment (call_number c.args.step.now) m (applied m c.args.step.now) (omega (arith, c.number.ensures, c.if-moment-number.false)) ∙ ap (λ (x : Step). applied m x) c.in-Failed.is))
    (c.loosen.ensures.shows m s)

pub returns-in-Barrier : goal.returns-in-Barrier
returns-in-Barrier c = λ m s. let r = c.settle.new.self in
    subst (λ (x : Moment). ShowsMoment x r.blocks.items r.settled.items r.loose.items)
    (sym (made c.args.moment (call_number c.args.step.now) m (applied m c.args.step.now) (omega (arith, c.number.ensures, c.if-moment-number.false)) ∙ ap (λ (x : Step). applied m x) c.in-Barrier.is))
    (c.settle.ensures m s)
