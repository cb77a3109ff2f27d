use Rattle.std.proofs.Common.{◌∙◌}
use Rattle.ice_system.proofs.Opening.{handed, err_more, ok_more, refuses_journal, refuses_tables, attaches, finish_crash, read_crash}
use Rattle.ice_system.proofs.Finishing.{still_crash}
use Rattle.ice_system.proofs.attach.open_settled.Goals as goal

pub returns-in_err-sup-clause-crash : goal.returns-in_err-sup-clause-crash
returns-in_err-sup-clause-crash g c = λ t told has.
    still_crash g.D.Disk.state g.D.Disk.left c.args.disk.now c.read_geometry.new.disk c.read_geometry.ensures.within t (c.requires.settled told) has

pub returns-in_err-finish_change-clause-refused : goal.returns-in_err-finish_change-clause-refused
returns-in_err-finish_change-clause-refused g c =
    let state = g.D.Disk.state in let left = g.D.Disk.left in let read = c.in_ok-sup.ensures in
    handed c.from_residual-in_err-finish_change.result c.in_err-finish_change.field-0.0 _ c.from_residual-in_err-finish_change.ensures
    (refuses_journal state left c.args.disk.now c.read_geometry.new.disk read.within c.in_ok-sup.sup read.reads read.room
    c.in_err-finish_change.field-0.0 (state c.finish_change.new.disk) (read.calm (λ is. cc is))
    c.in_err-finish_change.ensures.refused)

pub returns-in_err-finish_change-clause-crash : goal.returns-in_err-finish_change-clause-crash
returns-in_err-finish_change-clause-crash g c = λ t told has.
    finish_crash g.D.Disk.state g.D.Disk.left c.args.disk.now c.read_geometry.new.disk c.finish_change.new.disk c.read_geometry.ensures.within t
    (c.requires.settled told) has
    (c.finish_change.ensures.crash t (c.read_geometry.ensures.within.tells ∙ told))

pub returns-clause-attaches : goal.returns-clause-attaches
returns-clause-attaches g c = λ told.
    let state = g.D.Disk.state in let left = g.D.Disk.left in let read = c.in_ok-sup.ensures in
    ok_more c.read_tables.result _ _
    (λ v accepts. attaches state left c.args.disk.now c.read_geometry.new.disk c.finish_change.new.disk read.within c.finish_change.ensures.within
    c.in_ok-sup.sup read.reads c.in_ok-finish_change.ensures.done
    c.read_tables.new.disk c.read_tables.ensures.within v told accepts)
    (c.read_tables.ensures.accepted (c.finish_change.ensures.within.tells ∙ read.within.tells ∙ told))

pub returns-clause-refused : goal.returns-clause-refused
returns-clause-refused g c =
    let state = g.D.Disk.state in let left = g.D.Disk.left in let read = c.in_ok-sup.ensures in
    err_more c.read_tables.result _ _
    (λ fault why. refuses_tables state left c.args.disk.now c.read_geometry.new.disk c.finish_change.new.disk read.within
    c.finish_change.ensures.within c.in_ok-sup.sup read.reads c.in_ok-finish_change.ensures.done
    read.room fault (state c.read_tables.new.disk) (c.in_ok-finish_change.ensures.calm (λ is. cc is) ∙ read.calm (λ is. cc is)) why)
    c.read_tables.ensures.refused

pub returns-clause-crash : goal.returns-clause-crash
returns-clause-crash g c = λ t told has.
    let read = c.in_ok-sup.ensures in
    read_crash g.D.Disk.state g.D.Disk.left c.args.disk.now c.read_geometry.new.disk c.finish_change.new.disk read.within t (c.requires.settled told) has
    (c.finish_change.ensures.crash t (read.within.tells ∙ told)) c.read_tables.new.disk (c.finish_change.ensures.within.streams
    ∙ read.within.streams) c.read_tables.ensures.within
