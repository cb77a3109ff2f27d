use Rattle.ice_reads.proofs.Recovering.{recovers_rests}
use Rattle.ice_reads.proofs.laws.same_blocks.Goals as goal

pub returns : goal.returns
returns c = recovers_rests
