use Rattle.std.proofs.Common.{take}
use Rattle.ice_layout.proofs.HeaderLaws.{differ-sorted}
use Rattle.ice_layout.proofs.header.are_different.Goals as goal

pub returns : goal.returns
returns c = differ-sorted (take c.args.count c.args.targets.now) c.sort_unstable.new.self c.rises.result c.sort_unstable.ensures.permutation c.sort_unstable.ensures.sorted c.rises.ensures.0 c.rises.ensures.1
