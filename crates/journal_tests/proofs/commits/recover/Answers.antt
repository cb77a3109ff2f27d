use Rattle.std.proofs.Common.{◌<◌, arith}
use Rattle.ice_journal.proofs.AreaLaws.{lot_below}
use Rattle.journal_tests.proofs.commits.recover.Goals as goal

pub replay-requires-clause-below : goal.replay-requires-clause-below
replay-requires-clause-below g c = λ k is. let low : k < 800 = lot_below c.lot-lot.result 800 k c.lot-lot.ensures.sited is in omega arith
