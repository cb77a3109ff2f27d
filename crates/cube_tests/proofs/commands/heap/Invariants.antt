use Rattle.std.proofs.Common.{◌≡◌, ◌≤◌, true, length}
use Rattle.ice_base.specs.Lots.{is_sited}
use Rattle.cube_tests.proofs.commands.heap.Given as goal

-- the cube stays that of its lot
abbrev pub invariant-loop-k : goal.invariant-loop-k
invariant-loop-k g l = record {
  sited : is_sited l.cube.lot 800 ≡ true;
  some : 1 ≤ length l.cube.lot.groups;
  lot : l.cube.lot ≡ l.lot;
}
