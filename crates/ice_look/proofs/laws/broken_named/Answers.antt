use Rattle.ice_look.proofs.SoundLaws.{broken_named}
use Rattle.ice_look.proofs.laws.broken_named.Goals as goal

pub returns : goal.returns
returns c = broken_named
