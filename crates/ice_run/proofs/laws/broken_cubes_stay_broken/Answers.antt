use Rattle.ice_run.proofs.Mending.{stays_broken}
use Rattle.ice_run.proofs.laws.broken_cubes_stay_broken.Goals as goal

pub returns : goal.returns
returns c = stays_broken
