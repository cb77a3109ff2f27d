use Rattle.std.proofs.Common.{[], refl, arith}
use Rattle.ice_base.specs.declared.status.Status.TheVariants.{Memory}
use Rattle.ice_run.specs.Crashes.{CrashLeaves}
use Rattle.ice_run.specs.Scripts.{script_lines}
use Rattle.ice_base.proofs.Frame.{leaves_refl}
use Rattle.ice_volume.proofs.StandLaws.{starts_fit}
use Rattle.ice_run.proofs.Sparing.{keeps_refl}
use Rattle.ice_run.proofs.Whole.{ends_silent, crash_since}
use Rattle.ice_run.proofs.top.run_session.Goals as goal

pub returns-in-Ok-clause-crash : goal.returns-in-Ok-clause-crash
returns-in-Ok-clause-crash g c = λ w starts image out l. let old = c.args.host.now in
    crash_since g.H.Disk.state g.H.Disk.left w old c.open_and_serve.new.host (λ i o at. g.met.H.Disk.agrees_now old i o at) (starts_fit (g.H.Disk.state old) w (λ told. g.met.H.Disk.whole old told) starts)
    (c.open_and_serve.ensures.crash w starts) image out l

pub returns-in-Err-clause-ends : goal.returns-in-Err-clause-ends
returns-in-Err-clause-ends g c = λ w starts. let s = g.H.Disk.state c.args.host.now in
    ends_silent w s s starts refl Memory (refl, refl, refl) (λ is. absurd (cc is)) (omega arith) (λ quiet. tt) (keeps_refl s w [])

pub returns-in-Err-clause-crash : goal.returns-in-Err-clause-crash
returns-in-Err-clause-crash g c = λ w starts image out l. let old = c.args.host.now in let s = g.H.Disk.state old in
    crash_since g.H.Disk.state g.H.Disk.left w old old (λ i o at. g.met.H.Disk.agrees_now old i o at) (starts_fit s w (λ told. g.met.H.Disk.whole old told) starts)
    (leaves_refl g.H.Disk.state g.H.Disk.left (CrashLeaves s w (script_lines s.streams.intake)) old) image out l
