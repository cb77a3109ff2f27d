use Rattle.std.proofs.Common.{◌≡◌, ◌++◌, ℕ, List, take}
use Rattle.tree_spec.specs.World.{World}
use Rattle.ice_run.specs.Causes.{GoesOn}
use Rattle.ice_run.specs.Sessions.{IsReady, Serving}
use Rattle.ice_run.proofs.session.feed_all.Given as goal

abbrev pub invariant-loop-byte : goal.invariant-loop-byte
invariant-loop-byte g l = record {
  on : GoesOn (g.H.Disk.state l.initial.host) (g.H.Disk.state l.host);
  intake : (g.H.Disk.state l.host).streams.intake ≡ (g.H.Disk.state l.initial.host).streams.intake;
  ready : IsReady l.volume (g.H.Disk.state l.host) l.session.reader;
  served : (w : World) (input taken ahead : List ℕ) (start : _) → input ≡ taken ++ l.piece ++ ahead
      → Serving g.H.Disk.state g.H.Disk.left w l.initial.volume input taken start l.initial.host l.initial.session.reader
      → Serving g.H.Disk.state g.H.Disk.left w l.volume input (taken ++ take l.byte-index l.piece) start l.host l.session.reader;
}
