use Rattle.std.proofs.Common.{◌≡◌, ◌-◌, ◌++◌, ◌≤◌, length, replicate, take}
use Rattle.ice_txn.specs.Sets.{addresses}
use Rattle.ice_journal.proofs.writes.header_of_set.Given as goal

abbrev pub invariant-loop-i : goal.invariant-loop-i
invariant-loop-i l = record { targets : l.targets ≡ take l.i (addresses l.set.entries) ++ replicate (240 - l.i) 0; within : l.i ≤ length l.set.entries }
