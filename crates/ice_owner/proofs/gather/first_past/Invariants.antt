use Rattle.std.proofs.Common.{◌≡◌, ◌≤◌, ◌<◌, ℕ}
use Rattle.ice_tables.specs.Tables.{blocks_from, owner_byte}
use Rattle.ice_owner.proofs.gather.first_past.Given as goal

abbrev pub invariant-loop-g : goal.invariant-loop-g
invariant-loop-g l = (k : ℕ) → l.groups ≤ k → k < l.g → owner_byte (blocks_from 15 l.blocks) k ≡ 0
