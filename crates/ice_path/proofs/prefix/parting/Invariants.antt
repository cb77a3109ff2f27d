use Rattle.std.proofs.Common.{◌≡◌, ◌≤◌, ◌-◌, take, drop}
use Rattle.ice_path.proofs.prefix.parting.Given as goal

-- the names so far are the same
abbrev pub invariant-loop-k : goal.invariant-loop-k
invariant-loop-k l = record {
  from : l.depth ≤ l.k;
  same : take (l.k - l.depth) (drop l.depth l.path) ≡ take (l.k - l.depth) (drop l.depth l.to);
}
