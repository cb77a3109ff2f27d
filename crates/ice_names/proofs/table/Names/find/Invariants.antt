use Rattle.std.proofs.Common.{◌≢◌, ◌<◌, ℕ, Some}
use Rattle.ice_names.specs.Names.{path_at}
use Rattle.ice_names.proofs.table.Names.find.Given as goal

abbrev pub invariant-loop-s : goal.invariant-loop-s
invariant-loop-s l = record { none : (r : ℕ) → r < l.s → path_at l.self r ≢ Some l.path }
