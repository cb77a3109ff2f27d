use Rattle.std.proofs.Common.{◌≢◌, ◌<◌, ℕ}
use Rattle.ice_txn.specs.Sets.{address}
use Rattle.ice_txn.proofs.set.WriteSet.index_of.Given as goal

abbrev pub invariant-loop-j : goal.invariant-loop-j
invariant-loop-j l = record { none : (i : ℕ) → i < l.j → address l.self.entries i ≢ l.at }
