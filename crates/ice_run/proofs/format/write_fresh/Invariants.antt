use Rattle.std.proofs.Common.{◌≡◌, ◌<◌, true, ℕ}
use Rattle.ice_base.specs.Disk.{Below, block}
use Rattle.ice_base.specs.Frames.{Within}
use Rattle.ice_layout.specs.Supers.{IsFreshBlock}
use Rattle.ice_run.proofs.format.write_fresh.Given as goal

abbrev pub invariant-loop-at : goal.invariant-loop-at
invariant-loop-at g l = record {
  frame : Within g.D.Disk.state g.D.Disk.left (Below 32) l.initial.disk l.disk;
  fresh : (g.D.Disk.state l.initial.disk).tells ≡ true → (k : ℕ) → k < l.at → IsFreshBlock l.sup k (block (g.D.Disk.state l.disk).now k);
}
