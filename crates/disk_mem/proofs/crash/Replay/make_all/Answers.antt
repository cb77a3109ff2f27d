use Rattle.std.proofs.Common.{take, sym, subst, arith, length, List, ℕ, ◌≤◌, ◌≡◌}
use Rattle.std.proofs.lemmas.List.{take_all}
use Rattle.disk_mem.specs.Memory.{Moment, after}
use Rattle.disk_mem.specs.Crash.{ShowsMoment}
use Rattle.disk_mem.specs.declared.step.Step.{Step}
use Rattle.disk_mem.proofs.Past.{after_more}
use Rattle.disk_mem.proofs.crash.Replay.make_all.Goals as goal

pub loop-step-preserved : goal.loop-step-preserved
loop-step-preserved c = λ m s. let r = c.make.new.self in
    subst (λ (x : Moment). ShowsMoment x r.blocks.items r.settled.items r.loose.items) (sym (after_more c.args.moment m c.args.steps.now c.loop-step.step-index _ c.loop-step-test.true))
    (c.make.ensures (after c.args.moment m (take c.loop-step.step-index c.args.steps.now)) (c.loop-step.invariant m s))

pub returns : goal.returns
returns c = λ m s. let r = c.loop-step.self in
    subst (λ (x : List Step). ShowsMoment (after c.args.moment m x) r.blocks.items r.settled.items r.loose.items) (all c.args.steps.now c.loop-step.step-index (omega (arith, c.loop-step-test.false))) (c.loop-step.invariant m s)
  where
    all : (steps : List Step) (n : ℕ) → length steps ≤ n → take n steps ≡ steps
    all steps n le = grind (arith, take_all)
