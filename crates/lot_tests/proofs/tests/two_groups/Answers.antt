use Rattle.std.proofs.Common.{arith, refl}
use Rattle.lot_tests.proofs.tests.two_groups.Goals as goal

pub new-lot-requires-clause-base : goal.new-lot-requires-clause-base
new-lot-requires-clause-base c = (4, omega arith, omega arith, refl)
