use Rattle.std.proofs.Common.{◌∙◌, Option, IfSome, subst}
use Rattle.ice_layout.specs.Headers.{is_table, targets_said, AreTargets}
use Rattle.ice_layout.specs.declared.header.Header.{Header}
use Rattle.ice_system.specs.Attaching.{SaysPending}
use Rattle.ice_system.proofs.Finishing.{still_crash, still_finishes, replay_finishes, replay_crash}
use Rattle.ice_system.proofs.replay.finish_change.Goals as goal

pub returns-in_err-pending-clause-crash : goal.returns-in_err-pending-clause-crash
returns-in_err-pending-clause-crash g c = λ t told has.
    still_crash g.D.Disk.state g.D.Disk.left c.args.disk.now c.pending.new.disk c.pending.ensures.within t (c.requires.settled told) has

pub returns-in-None-clause-done : goal.returns-in-None-clause-done
returns-in-None-clause-done g c = λ told.
    let closed = subst (λ (o : Option Header). SaysPending o (g.D.Disk.state c.args.disk.now).now) c.in-None.is (c.in_ok-pending.ensures.reads told) in
    still_finishes g.D.Disk.state g.D.Disk.left c.args.disk.now c.pending.new.disk c.pending.ensures.within closed (c.requires.settled told)

pub returns-in-None-clause-crash : goal.returns-in-None-clause-crash
returns-in-None-clause-crash g c = λ t told has.
    still_crash g.D.Disk.state g.D.Disk.left c.args.disk.now c.pending.new.disk c.pending.ensures.within t (c.requires.settled told) has

pub returns-in-Ok-clause-done : goal.returns-in-Ok-clause-done
returns-in-Ok-clause-done g c = λ told.
    let targets = subst (λ (o : Option Header). IfSome o (λ h. AreTargets 8 is_table (targets_said h))) c.in-Some.is c.in_ok-pending.ensures.targets in
    let said = subst (λ (o : Option Header). SaysPending o (g.D.Disk.state c.args.disk.now).now) c.in-Some.is (c.in_ok-pending.ensures.reads told) in
    replay_finishes g.D.Disk.state g.D.Disk.left c.args.disk.now c.pending.new.disk c.replay.new.disk c.pending.ensures.within
    (targets_said c.in-Some.header) targets
    c.replay.ensures.within (c.requires.settled told) said c.in-Ok.ensures.done (c.in-Ok.ensures.settled (c.pending.ensures.within.tells ∙ told))

pub returns-in-Ok-clause-crash : goal.returns-in-Ok-clause-crash
returns-in-Ok-clause-crash g c = λ t told has.
    let targets = subst (λ (o : Option Header). IfSome o (λ h. AreTargets 8 is_table (targets_said h))) c.in-Some.is c.in_ok-pending.ensures.targets in
    let said = subst (λ (o : Option Header). SaysPending o (g.D.Disk.state c.args.disk.now).now) c.in-Some.is (c.in_ok-pending.ensures.reads told) in
    replay_crash g.D.Disk.state g.D.Disk.left c.args.disk.now c.pending.new.disk c.replay.new.disk c.pending.ensures.within
    (targets_said c.in-Some.header) targets
    c.replay.ensures.within (c.requires.settled told) said t has c.replay.ensures.crash

pub returns-in-Err-clause-crash : goal.returns-in-Err-clause-crash
returns-in-Err-clause-crash g c = λ t told has.
    let targets = subst (λ (o : Option Header). IfSome o (λ h. AreTargets 8 is_table (targets_said h))) c.in-Some.is c.in_ok-pending.ensures.targets in
    let said = subst (λ (o : Option Header). SaysPending o (g.D.Disk.state c.args.disk.now).now) c.in-Some.is (c.in_ok-pending.ensures.reads told) in
    replay_crash g.D.Disk.state g.D.Disk.left c.args.disk.now c.pending.new.disk c.replay.new.disk c.pending.ensures.within
    (targets_said c.in-Some.header) targets
    c.replay.ensures.within (c.requires.settled told) said t has c.replay.ensures.crash
