use Rattle.ice_tables.specs.Tables.{blocks_from}
use Rattle.ice_owner.specs.Places.{AreGathered}
use Rattle.ice_owner.proofs.gather.gather.Given as goal

abbrev pub invariant-loop-g : goal.invariant-loop-g
invariant-loop-g l = AreGathered (blocks_from 15 l.blocks) l.live l.g l.counts l.places
