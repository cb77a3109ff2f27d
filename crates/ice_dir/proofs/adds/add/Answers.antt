use Rattle.std.proofs.Common.{arith}
use Rattle.ice_base.proofs.LotLaws.{sited-few}
use Rattle.ice_dir.proofs.adds.add.Goals as goal

pub overflow_add-dir : goal.overflow_add-dir
overflow_add-dir g c = let few = sited-few _ _ c.requires.sited in let below = c.in_ok-dir.ensures.is.few in omega arith
