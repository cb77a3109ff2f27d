use Rattle.ice_headline.proofs.Containing.{floor_reached}
use Rattle.ice_headline.proofs.Including.{includes}
use Rattle.ice_headline.proofs.laws.acknowledged_is_kept.Goals as goal

pub returns-clause-count : goal.returns-clause-count
returns-clause-count c = floor_reached

pub returns-clause-commands : goal.returns-clause-commands
returns-clause-commands c = includes
