use Rattle.std.proofs.Common.{◌≢◌, ◌<◌, ℕ, None}
use Rattle.ice_names.specs.Names.{row_at}
use Rattle.ice_names.proofs.table.Names.free_slot.Given as goal

abbrev pub invariant-loop-s : goal.invariant-loop-s
invariant-loop-s l = record { live : (r : ℕ) → r < l.s → row_at l.self r ≢ None }
