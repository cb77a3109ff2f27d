use Rattle.std.proofs.Common.{◌≡◌, ◌<◌, ℕ, true}
use Rattle.ice_base.specs.Used.{is_data}
use Rattle.ice_map.specs.Maps.{nth_block}
use Rattle.ice_check.proofs.inodes.lead_to_data.Given as goal

abbrev pub invariant-loop-n : goal.invariant-loop-n
invariant-loop-n l = (j : ℕ) → j < l.n → is_data l.lot (nth_block (λ _. l.pointers) l.inode j) ≡ true
