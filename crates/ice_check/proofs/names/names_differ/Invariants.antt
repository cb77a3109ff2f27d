use Rattle.std.proofs.Common.{◌≡◌, ℕ, ◌+◌, ◌<◌, [], get_or}
use Rattle.ice_check.specs.Names.{array_names}
use Rattle.ice_check.proofs.names.names_differ.Given as goal

abbrev pub invariant-loop-k : goal.invariant-loop-k
invariant-loop-k l = (j : ℕ) → j + 1 < l.k → get_or (array_names l.names) j [] ≡ get_or (array_names l.names) (j + 1) [] → ⊥
