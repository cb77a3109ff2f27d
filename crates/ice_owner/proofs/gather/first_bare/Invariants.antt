use Rattle.std.proofs.Common.{◌≡◌, ◌<◌, ℕ, true}
use Rattle.std.specs.Prelude.{slice_index}
use Rattle.ice_owner.specs.Owners.{is_live}
use Rattle.ice_owner.proofs.gather.first_bare.Given as goal

abbrev pub invariant-loop-s : goal.invariant-loop-s
invariant-loop-s l = (r : ℕ) → r < l.s → is_live l.live r ≡ true → 0 < slice_index l.counts r
