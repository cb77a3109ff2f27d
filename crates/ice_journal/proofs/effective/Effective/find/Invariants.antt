use Rattle.std.proofs.Common.{◌≢◌, ◌<◌, ℕ, slice_index}
use Rattle.ice_journal.proofs.effective.Effective.find.Given as goal

abbrev pub invariant-loop-j : goal.invariant-loop-j
invariant-loop-j l = record { none : (i : ℕ) → i < l.j → slice_index l.self i ≢ l.at }
