use Rattle.std.proofs.Common.{take}
use Rattle.disk_mem.specs.Memory.{Moment, after}
use Rattle.disk_mem.specs.Crash.{ShowsMoment}
use Rattle.disk_mem.proofs.crash.Replay.make_all.Given as goal

abbrev pub invariant-loop-step : goal.invariant-loop-step
invariant-loop-step l = (m : Moment) → ShowsMoment m l.initial.self.blocks.items l.initial.self.settled.items l.initial.self.loose.items
    → ShowsMoment (after l.moment m (take l.step-index l.steps)) l.self.blocks.items l.self.settled.items l.self.loose.items
