use Rattle.std.proofs.Common.{◌≡◌, take}
use Rattle.disk_mem.specs.Memory.{Moment, after}
use Rattle.disk_mem.proofs.crash.given_by.Given as goal

abbrev pub invariant-loop-step : goal.invariant-loop-step
invariant-loop-step l = (m : Moment) → m.given ≡ 0 → (after l.moment m (take l.step-index l.steps)).given ≡ l.given
