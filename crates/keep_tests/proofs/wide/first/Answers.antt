use Rattle.std.proofs.Common.{arith, refl}
use Rattle.keep_tests.proofs.wide.first.Goals as goal

pub new-lot-requires-clause-base : goal.new-lot-requires-clause-base
new-lot-requires-clause-base c = (2, omega arith, omega arith, refl)
