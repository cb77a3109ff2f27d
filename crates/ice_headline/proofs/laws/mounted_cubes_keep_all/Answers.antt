use Rattle.ice_headline.proofs.Ending.{put_away_recovers}
use Rattle.ice_headline.proofs.laws.mounted_cubes_keep_all.Goals as goal

pub returns : goal.returns
returns c = put_away_recovers
