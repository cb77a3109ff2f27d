use Rattle.std.proofs.Common.{◌≡◌, ◌≤◌, ◌-◌, ◌+◌, []}
use Rattle.tree_spec.specs.World.{World}
use Rattle.ice_run.specs.Causes.{GoesOn}
use Rattle.ice_run.specs.Scripts.{longest_script}
use Rattle.ice_run.specs.Servings.{Fed}
use Rattle.ice_run.specs.Sessions.{IsReady}
use Rattle.ice_volume.specs.Volumes.{StandsFor}
use Rattle.ice_run.proofs.serve.serve.Given as goal

abbrev pub invariant-loop-count : goal.invariant-loop-count
invariant-loop-count g l = record {
  on : GoesOn (g.H.Disk.state l.initial.host) (g.H.Disk.state l.host);
  limit : l.taken ≤ longest_script;
  ready : IsReady l.volume (g.H.Disk.state l.host) l.session.reader;
  fed : (w : World) → StandsFor l.initial.volume (g.H.Disk.state l.initial.host) w → l.initial.session.reader.text ≡ []
      → Fed g.H.Disk.state g.H.Disk.left w l.initial.host l.taken l.host l.volume l.session.reader;
}

abbrev pub decreases-loop-count : goal.decreases-loop-count
decreases-loop-count g l = longest_script + 1 - l.taken
