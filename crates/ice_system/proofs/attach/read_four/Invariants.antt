use Rattle.std.proofs.Common.{◌≡◌, ◌<◌, ◌+◌, ℕ, true, [], length, slice_index_or}
use Rattle.ice_base.specs.Disk.{Nowhere, block}
use Rattle.ice_base.specs.Frames.{Within}
use Rattle.ice_system.proofs.attach.read_four.Given as goal

abbrev pub invariant-loop-i : goal.invariant-loop-i
invariant-loop-i g l = record {
  room : length l.into ≡ 4;
  within : Within g.D.Disk.state g.D.Disk.left Nowhere l.initial.disk l.disk;
  calm : (g.D.Disk.state l.disk).faults ≡ (g.D.Disk.state l.initial.disk).faults;
  bytes : (g.D.Disk.state l.initial.disk).tells ≡ true → (j : ℕ) → j < l.i
      → slice_index_or l.into j [] ≡ block (g.D.Disk.state l.initial.disk).now (l.first + j);
}
