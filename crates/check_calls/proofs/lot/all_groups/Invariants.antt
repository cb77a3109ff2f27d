use Rattle.std.proofs.Common.{◌≡◌, map}
use Rattle.std.specs.List.{range_with_len}
use Rattle.check_calls.proofs.lot.all_groups.Given as goal

abbrev pub invariant-loop-group : goal.invariant-loop-group
invariant-loop-group l = l.lot ≡ record { slot = 0; base = 288; groups = map (λ k. k) (range_with_len 0 l.group) }
