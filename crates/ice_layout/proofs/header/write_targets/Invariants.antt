use Rattle.std.proofs.Common.{◌≡◌, ◌<◌, ◌+◌, ◌*◌, ℕ, slice_index}
use Rattle.ice_base.specs.Fields.{word_at, SameBeside}
use Rattle.ice_layout.proofs.header.write_targets.Given as goal

abbrev pub invariant-loop-i : goal.invariant-loop-i
invariant-loop-i l = record {
  targets : (j : ℕ) → j < l.i → word_at l.into (16 + 4 * j) ≡ slice_index l.header.targets j;
  others : SameBeside 16 (4 * l.i) l.initial.into l.into;
}
