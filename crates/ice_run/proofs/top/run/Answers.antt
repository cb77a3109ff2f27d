use Rattle.ice_run.specs.Scripts.{script_lines}
use Rattle.ice_run.proofs.Crashes.{damaged}
use Rattle.ice_run.proofs.top.run.Goals as goal

pub returns-in-Some-Run-clause-damage : goal.returns-in-Some-Run-clause-damage
returns-in-Some-Run-clause-damage g c = λ image w is starts crashed out l. let s = g.H.Disk.state c.args.host.now in
    damaged s w (script_lines s.streams.intake) crashed out (c.run_session.ensures.crash w starts crashed out l)
