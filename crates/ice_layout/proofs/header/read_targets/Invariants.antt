use Rattle.std.proofs.Common.{◌≡◌, ◌-◌, ◌++◌, replicate}
use Rattle.ice_layout.specs.Headers.{targets_in}
use Rattle.ice_layout.proofs.header.read_targets.Given as goal

abbrev pub invariant-loop-i : goal.invariant-loop-i
invariant-loop-i l = l.targets ≡ targets_in l.from l.i ++ replicate (240 - l.i) 0
