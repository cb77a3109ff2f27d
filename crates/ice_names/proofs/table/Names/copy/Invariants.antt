use Rattle.std.proofs.Common.{◌≡◌, ◌<◌, ◌≤◌, ℕ, None}
use Rattle.ice_names.specs.Names.{IsNameTable, row_at}
use Rattle.ice_names.proofs.table.Names.copy.Given as goal

abbrev pub invariant-loop-s : goal.invariant-loop-s
invariant-loop-s l = record {
  slots : l.copy.slots ≡ l.self.slots;
  same : (r : ℕ) → r < l.s → row_at l.copy r ≡ row_at l.self r;
  free : (r : ℕ) → l.s ≤ r → row_at l.copy r ≡ None;
  sound : IsNameTable l.copy;
}
