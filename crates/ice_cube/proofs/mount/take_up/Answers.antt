use Rattle.std.proofs.Common.{rules, ◌≡◌, ◌∙◌, true, false, None, sym}
use Rattle.ice_tables.specs.Journals.{effective_of}
use Rattle.ice_cube.proofs.MountLaws.{check_damage, look_same, look_settled, look_step, look_then, none_damage, some_recovers}
use Rattle.ice_cube.proofs.mount.take_up.Goals as goal

pub returns-in-Err-Disk-clause-crash : goal.returns-in-Err-Disk-clause-crash
returns-in-Err-Disk-clause-crash g c = λ s. look_step g.D.Disk.state g.D.Disk.left c.args.lot.now c.args.disk.now c.check_lot.new.disk c.check_lot.ensures.still.within s

pub returns-in-Err-Damaged-clause-crash : goal.returns-in-Err-Damaged-clause-crash
returns-in-Err-Damaged-clause-crash g c = λ s. look_step g.D.Disk.state g.D.Disk.left c.args.lot.now c.args.disk.now c.check_lot.new.disk c.check_lot.ensures.still.within s

pub returns-in-Err-Damaged-clause-damaged : goal.returns-in-Err-Damaged-clause-damaged
returns-in-Err-Damaged-clause-damaged g c = λ told.
    check_damage c.args.lot.now (g.D.Disk.state c.args.disk.now).now c.in-Err-Damaged.field-0 c.in-Err-Damaged.rule (cc c.in-Err-Damaged.field-0-is)
    (λ f mode k t m form e r. c.in-Err-Damaged.ensures.exact f mode k t m form told e r) (c.in-Err-Damaged.ensures.named told)

pub returns-in-Ok-recover-clause-recovered : goal.returns-in-Ok-recover-clause-recovered
returns-in-Ok-recover-clause-recovered g c = λ told.
    some_recovers c.args.lot.now (g.D.Disk.state c.args.disk.now).now c.in-Ok.summary (λ m e. c.in-Ok.ensures.recovers m told e) (λ e. let never : false ≡ true = c.in-Ok.ensures.refused told e in absurd (cc never))

pub returns-in-Ok-recover-clause-crash : goal.returns-in-Ok-recover-clause-crash
returns-in-Ok-recover-clause-crash g c = λ s.
    let state = g.D.Disk.state in let left = g.D.Disk.left in let lot = c.args.lot.now in let a = c.args.disk.now in let b = c.check_lot.new.disk in let w = c.check_lot.ensures.still.within in
    look_then state left lot a b c.recover.new.disk w s (c.recover.ensures.crash (look_settled state left lot a b w s))

pub returns-in-Err-Disk-recover-clause-crash : goal.returns-in-Err-Disk-recover-clause-crash
returns-in-Err-Disk-recover-clause-crash g c = λ s.
    let state = g.D.Disk.state in let left = g.D.Disk.left in let lot = c.args.lot.now in let a = c.args.disk.now in let b = c.check_lot.new.disk in let w = c.check_lot.ensures.still.within in
    look_then state left lot a b c.recover.new.disk w s (c.recover.ensures.crash (look_settled state left lot a b w s))

pub returns-in-Err-Header-clause-crash : goal.returns-in-Err-Header-clause-crash
returns-in-Err-Header-clause-crash g c = λ s.
    let state = g.D.Disk.state in let left = g.D.Disk.left in let lot = c.args.lot.now in let a = c.args.disk.now in let b = c.check_lot.new.disk in let w = c.check_lot.ensures.still.within in
    look_then state left lot a b c.recover.new.disk w s (c.recover.ensures.crash (look_settled state left lot a b w s))

pub returns-in-Ok-recover-clause-rest : goal.returns-in-Ok-recover-clause-rest
returns-in-Ok-recover-clause-rest g c = λ map s e.
    let state = g.D.Disk.state in let left = g.D.Disk.left in let lot = c.args.lot.now in let a = c.args.disk.now in let b = c.check_lot.new.disk in let w = c.check_lot.ensures.still.within in
    c.in-Ok-recover.ensures.rest map (look_settled state left lot a b w s) (look_same state left lot a b w ∙ e)

pub returns-in-Err-Header-clause-damaged : goal.returns-in-Err-Header-clause-damaged
returns-in-Err-Header-clause-damaged g c = λ told.
    let state = g.D.Disk.state in let left = g.D.Disk.left in let lot = c.args.lot.now in let a = c.args.disk.now in let b = c.check_lot.new.disk in let w = c.check_lot.ensures.still.within in
    let none : effective_of lot (state b).now ≡ None = c.recover.ensures.refused (w.tells ∙ told) (search rules) in
    none_damage lot (state a).now (sym (look_same state left lot a b w) ∙ none)

pub returns-in-Ok-recover-clause-idle : goal.returns-in-Ok-recover-clause-idle
returns-in-Ok-recover-clause-idle g c = λ told nothing.
    let some = some_recovers c.args.lot.now (g.D.Disk.state c.args.disk.now).now c.in-Ok.summary (λ m e. c.in-Ok.ensures.recovers m told e) (λ e. let never : false ≡ true = c.in-Ok.ensures.refused told e in absurd (cc never)) in
    absurd (nothing some.form some.mode some.tree c.in-Ok.summary.done some.recovers)

pub returns-in-Err-Disk-recover-clause-idle : goal.returns-in-Err-Disk-recover-clause-idle
returns-in-Err-Disk-recover-clause-idle g c = λ told nothing.
    let some = some_recovers c.args.lot.now (g.D.Disk.state c.args.disk.now).now c.in-Ok.summary (λ m e. c.in-Ok.ensures.recovers m told e) (λ e. let never : false ≡ true = c.in-Ok.ensures.refused told e in absurd (cc never)) in
    absurd (nothing some.form some.mode some.tree c.in-Ok.summary.done some.recovers)

pub returns-in-Err-Header-clause-idle : goal.returns-in-Err-Header-clause-idle
returns-in-Err-Header-clause-idle g c = λ told nothing.
    let some = some_recovers c.args.lot.now (g.D.Disk.state c.args.disk.now).now c.in-Ok.summary (λ m e. c.in-Ok.ensures.recovers m told e) (λ e. let never : false ≡ true = c.in-Ok.ensures.refused told e in absurd (cc never)) in
    absurd (nothing some.form some.mode some.tree c.in-Ok.summary.done some.recovers)
