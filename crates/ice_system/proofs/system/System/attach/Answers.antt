use Rattle.std.proofs.Common.{◌∙◌}
use Rattle.ice_system.proofs.Opening.{err_more, ok_more, refuses_back, attaches_back, then_crash}
use Rattle.ice_system.proofs.system.System.attach.Goals as goal

pub returns-in-Ok-barrier-clause-attaches : goal.returns-in-Ok-barrier-clause-attaches
returns-in-Ok-barrier-clause-attaches g c = λ told.
    let state = g.D.Disk.state in let w = c.in-Ok-barrier.ensures.within in
    ok_more c.open_settled.result _ _ (λ v is. attaches_back state g.D.Disk.left c.args.disk.now c.barrier.new.self w v (state c.open_settled.new.disk) is)
    (c.open_settled.ensures.attaches (w.tells ∙ told))

pub returns-in-Ok-barrier-clause-refused : goal.returns-in-Ok-barrier-clause-refused
returns-in-Ok-barrier-clause-refused g c =
    let state = g.D.Disk.state in let w = c.in-Ok-barrier.ensures.within in
    err_more c.open_settled.result _ _ (λ fault why. refuses_back state g.D.Disk.left c.args.disk.now c.barrier.new.self w fault
    (state c.open_settled.new.disk) c.in-Ok-barrier.ensures.calm why)
    c.open_settled.ensures.refused

pub returns-in-Ok-barrier-clause-crash : goal.returns-in-Ok-barrier-clause-crash
returns-in-Ok-barrier-clause-crash g c = λ t told every.
    let state = g.D.Disk.state in let w = c.in-Ok-barrier.ensures.within in
    then_crash state g.D.Disk.left c.args.disk.now c.barrier.new.self w t c.open_settled.new.disk every (g.met.D.Disk.whole c.barrier.new.self (w.tells ∙ told))
    (c.open_settled.ensures.crash t (w.tells ∙ told))
