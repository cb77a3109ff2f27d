use Rattle.ice_owner.proofs.Filters.{IsPushed}
use Rattle.ice_owner.proofs.owners.Owners.push_free.Given as goal

abbrev pub invariant-loop-g : goal.invariant-loop-g
invariant-loop-g l = IsPushed l.fn.self l.self l.slot l.count l.left l.g
