use Rattle.std.proofs.Common.{◌≡◌, ◌∙◌, refl, inl, inr, arith}
use Rattle.ice_base.specs.FrameLaws.{within_then, within_more}
use Rattle.ice_journal.specs.Blocks.{IsTargetPlace, ReplayBlocks}
use Rattle.ice_journal.proofs.ReplayLaws.{targets_written, replay_closed, replay_crash, replay_done}
use Rattle.ice_journal.proofs.replays.replay.Goals as goal

pub settle_gate-requires : goal.settle_gate-requires
settle_gate-requires g c = omega (arith, c.requires.below (g.J.Journal.places c.args.journal.now).gate (inl refl), c.area-area.ensures.gate, c.settle_targets.ensures.within.size)

pub returns-in_err-settle_targets-clause-within : goal.returns-in_err-settle_targets-clause-within
returns-in_err-settle_targets-clause-within g c =
    let state = g.D.Disk.state in let left = g.D.Disk.left in let at = g.J.Journal.places c.args.journal.now in let most = g.J.Journal.most c.args.journal.now in
    let reads = g.J.Journal.reads c.args.journal.now in let ts = c.args.targets.now in let apart = c.area-area.ensures.apart in
    within_more state left (IsTargetPlace at ts) (ReplayBlocks at ts) c.args.disk.now c.settle_targets.new.disk (λ k is. inr is) c.settle_targets.ensures.within

pub returns-clause-within : goal.returns-clause-within
returns-clause-within g c =
    let state = g.D.Disk.state in let left = g.D.Disk.left in let at = g.J.Journal.places c.args.journal.now in let most = g.J.Journal.most c.args.journal.now in
    let reads = g.J.Journal.reads c.args.journal.now in let ts = c.args.targets.now in let apart = c.area-area.ensures.apart in
    within_then state left (ReplayBlocks at ts) c.args.disk.now c.settle_targets.new.disk c.settle_gate.new.disk
    (within_more state left (IsTargetPlace at ts) (ReplayBlocks at ts) c.args.disk.now c.settle_targets.new.disk (λ k is. inr is) c.settle_targets.ensures.within)
    (within_more state left (λ k. k ≡ c.area-area.result.gate) (ReplayBlocks at ts) c.settle_targets.new.disk c.settle_gate.new.disk (λ k e. inl (e ∙ c.area-area.ensures.gate)) c.settle_gate.ensures.within)

pub returns-in_err-settle_targets-clause-crash : goal.returns-in_err-settle_targets-clause-crash
returns-in_err-settle_targets-clause-crash g c = λ map settled pending stands.
    let state = g.D.Disk.state in let left = g.D.Disk.left in let at = g.J.Journal.places c.args.journal.now in let most = g.J.Journal.most c.args.journal.now in
    let reads = g.J.Journal.reads c.args.journal.now in let ts = c.args.targets.now in let apart = c.area-area.ensures.apart in
    let first = targets_written state left reads at most ts c.requires.targets apart c.args.disk.now c.settle_targets.new.disk c.settle_targets.result c.settle_targets.ensures.within c.settle_targets.ensures.settled c.settle_targets.ensures.homes in
    replay_crash state left reads at most ts c.requires.targets apart c.args.disk.now c.settle_targets.result c.settle_targets.new.disk map settled pending stands _ first

pub returns-clause-crash : goal.returns-clause-crash
returns-clause-crash g c = λ map settled pending stands.
    let state = g.D.Disk.state in let left = g.D.Disk.left in let at = g.J.Journal.places c.args.journal.now in let most = g.J.Journal.most c.args.journal.now in
    let reads = g.J.Journal.reads c.args.journal.now in let ts = c.args.targets.now in let apart = c.area-area.ensures.apart in
    let first = targets_written state left reads at most ts c.requires.targets apart c.args.disk.now c.settle_targets.new.disk c.settle_targets.result c.settle_targets.ensures.within c.settle_targets.ensures.settled c.settle_targets.ensures.homes in
    let all = replay_closed state left reads at most ts c.requires.targets apart c.args.disk.now (IsTargetPlace at ts) c.settle_targets.new.disk c.settle_gate.new.disk c.settle_targets.result c.in_ok-settle_targets.field-0 c.settle_gate.result
    c.area-area.result.gate c.area-area.ensures.gate c.settle_targets.ensures.within c.in_ok-settle_targets.was first c.settle_gate.ensures.within c.settle_gate.ensures.settled c.settle_gate.ensures.reads in
    replay_crash state left reads at most ts c.requires.targets apart c.args.disk.now c.settle_gate.result c.settle_gate.new.disk map settled pending stands _ all

pub returns-clause-done : goal.returns-clause-done
returns-clause-done g c = λ map settled pending stands.
    let state = g.D.Disk.state in let left = g.D.Disk.left in let at = g.J.Journal.places c.args.journal.now in let most = g.J.Journal.most c.args.journal.now in
    let reads = g.J.Journal.reads c.args.journal.now in let ts = c.args.targets.now in let apart = c.area-area.ensures.apart in
    let first = targets_written state left reads at most ts c.requires.targets apart c.args.disk.now c.settle_targets.new.disk c.settle_targets.result c.settle_targets.ensures.within c.settle_targets.ensures.settled c.settle_targets.ensures.homes in
    let all = replay_closed state left reads at most ts c.requires.targets apart c.args.disk.now (IsTargetPlace at ts) c.settle_targets.new.disk c.settle_gate.new.disk c.settle_targets.result c.in_ok-settle_targets.field-0 c.settle_gate.result
    c.area-area.result.gate c.area-area.ensures.gate c.settle_targets.ensures.within c.in_ok-settle_targets.was first c.settle_gate.ensures.within c.settle_gate.ensures.settled c.settle_gate.ensures.reads in
    replay_done state left reads at most ts c.requires.targets apart c.args.disk.now c.settle_gate.result c.settle_gate.new.disk map settled pending stands all
