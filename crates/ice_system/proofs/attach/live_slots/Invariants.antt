use Rattle.ice_system.proofs.Opening.{IsLiveTo}
use Rattle.ice_system.proofs.attach.live_slots.Given as goal

abbrev pub invariant-loop-s : goal.invariant-loop-s
invariant-loop-s l = IsLiveTo l.names l.live l.s
