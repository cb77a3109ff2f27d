use Rattle.std.proofs.Common.{◌≡◌, ◌≤◌, ◌<◌, ◌+◌, ◌⊎◌, ℕ, List, true, length}
use Rattle.ice_tables.specs.Tables.{blocks_from}
use Rattle.ice_txn.specs.Sets.{holds, over}
use Rattle.ice_system.proofs.gather.put_changed.Given as goal

-- of the first i blocks those that differ were put, and nothing else changed
abbrev pub invariant-loop-i : goal.invariant-loop-i
invariant-loop-i l = record {
  here : (m : ℕ → List ℕ) (k : ℕ) → l.first ≤ k → k < l.first + l.i
      → (over l.set.entries m k ≡ blocks_from l.first l.new k)
      ⊎ ((over l.set.entries m k ≡ over l.initial.set.entries m k) × (blocks_from l.first l.old k ≡ blocks_from l.first l.new k));
  elsewhere : (m : ℕ → List ℕ) (k : ℕ) → ((k < l.first) ⊎ (l.first + l.i ≤ k)) → over l.set.entries m k ≡ over l.initial.set.entries m k;
  addresses : (a : ℕ) → holds l.set.entries a ≡ true → (holds l.initial.set.entries a ≡ true) ⊎ ((l.first ≤ a) × (a < l.first + l.i));
  count : length l.set.entries ≤ length l.initial.set.entries + l.i;
  most : l.set.most ≡ l.initial.set.most;
}
