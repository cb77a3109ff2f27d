use Rattle.std.proofs.Common.{sym, subst, ◌+◌, List, arith}
use Rattle.ice_base.specs.Disk.{Image}
use Rattle.disk_mem.specs.Memory.{fresh_state, past_of, after}
use Rattle.disk_mem.specs.Crash.{ShowsMoment, LeavesFilled}
use Rattle.disk_mem.specs.declared.step.Step.{Step}
use Rattle.disk_mem.proofs.Crashes.{leaves_filled, filled_left}
use Rattle.disk_mem.proofs.mem_host.MemHost.crashed.Goals as goal

pub returns-clause-filled : goal.returns-clause-filled
returns-clause-filled c = let self = c.args.self.now in let r = c.make_all.new.self in
    let start = subst (λ (x : Image). ShowsMoment (fresh_state x) c.in_ok-replay.replay.blocks.items c.in_ok-replay.replay.settled.items c.in_ok-replay.replay.loose.items) c.deref.ensures.value c.in_ok-replay.ensures in
    let shows = subst (λ (x : List Step). ShowsMoment (after c.args.moment (fresh_state self.first.items) x) r.blocks.items r.settled.items r.loose.items) c.deref-2.ensures.value (c.make_all.ensures (fresh_state self.first.items) start) in
    let there = leaves_filled c.args.fill (past_of self.first.items self.steps.items c.args.moment) r.blocks.items r.settled.items c.fill_loose.new.self.blocks.items r.loose.items shows c.fill_loose.ensures.count c.fill_loose.ensures.settled c.fill_loose.ensures.loose in
    subst (λ (x : Image). LeavesFilled c.args.fill (past_of self.first.items self.steps.items c.args.moment) x) (sym c.in_ok-host.ensures.blocks) there

pub returns-clause-left : goal.returns-clause-left
returns-clause-left c = let self = c.args.self.now in record {
  moment = c.args.moment;
  from = omega arith;
  until = c.requires;
  is = filled_left c.args.fill (past_of self.first.items self.steps.items c.args.moment) (past_of self.first.items self.steps.items (c.args.moment + 1)) c.in_ok-host.host.blocks.items self.output.items (returns-clause-filled c);
}
