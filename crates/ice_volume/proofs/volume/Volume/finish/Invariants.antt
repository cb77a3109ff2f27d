use Rattle.std.proofs.Common.{◌≡◌, ℕ, false}
use Rattle.ice_base.specs.Disk.{Outside, Rose}
use Rattle.ice_base.specs.Frames.{LeavesOnly, With, Within}
use Rattle.tree_spec.specs.World.{World}
use Rattle.ice_images.specs.Fitting.{Fits}
use Rattle.ice_tables.specs.Lots.{lot_of, total}
use Rattle.ice_system.specs.Systems.{tables_of}
use Rattle.ice_volume.specs.Lines.{IsOfBroken, SaysBroken}
use Rattle.ice_volume.specs.Sessions.{HasPutAway}
use Rattle.ice_volume.specs.Volumes.{IsWritable, StandsFor}
use Rattle.ice_volume.proofs.volume.Volume.finish.Given as goal

abbrev pub invariant-loop-slot : goal.invariant-loop-slot
invariant-loop-slot g l = record {
  size : total (tables_of l.self.system) ≡ total (tables_of l.initial.self.system);
  within : Within g.D.Disk.state g.D.Disk.left (IsWritable l.initial.self) l.initial.disk l.disk;
  cause : l.ok ≡ false → Rose (g.D.Disk.state l.initial.disk).faults (g.D.Disk.state l.disk).faults;
  leaves : (w : World) → StandsFor l.initial.self (g.D.Disk.state l.initial.disk) w
      → LeavesOnly g.D.Disk.left l.initial.disk l.disk (With (g.D.Disk.state l.initial.disk).streams.aside (Fits w));
  lots : (w : World) → StandsFor l.initial.self (g.D.Disk.state l.initial.disk) w → (x : ℕ) → SaysBroken (w.cube x)
      → lot_of (tables_of l.self.system) x ≡ lot_of (tables_of l.initial.self.system) x;
  spares : (w : World) → StandsFor l.initial.self (g.D.Disk.state l.initial.disk) w
      → Within g.D.Disk.state g.D.Disk.left (Outside (IsOfBroken (tables_of l.initial.self.system) w)) l.initial.disk l.disk;
  away : (w : World) → StandsFor l.initial.self (g.D.Disk.state l.initial.disk) w → HasPutAway l.slot l.ok l.self (g.D.Disk.state l.disk) w;
}
