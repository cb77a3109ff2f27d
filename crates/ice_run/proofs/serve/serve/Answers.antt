use Rattle.std.proofs.Common.{◌+◌, arith}
use Rattle.ice_run.proofs.Going.{goes_refl}
use Rattle.ice_run.proofs.Servings.{fed_none, read_all, all_done, last_broke}
use Rattle.ice_run.proofs.serve.serve.Goals as goal

pub loop-count-init : goal.loop-count-init
loop-count-init g c = record {
  on = goes_refl (g.H.Disk.state c.args.host.now);
  limit = omega arith;
  ready = c.requires;
  fed = λ w stands empty. fed_none g.H.Disk.state g.H.Disk.left w c.args.host.now c.args.volume.now c.args.session.now.reader stands empty;
}

pub returns-in-Ok-close-clause-served : goal.returns-in-Ok-close-clause-served
returns-in-Ok-close-clause-served g c = λ w stands empty.
    let state = g.H.Disk.state in let left = g.H.Disk.left in let start = c.args.host.now in let count = c.loop-count.taken + c.in-Ok-eq0.field-0 in
    let p = c.in-Ok-eq0.ensures.passes w start (c.loop-count.invariant.fed w stands empty) in
    all_done state left w start count c.pass.new.host c.pass.new.volume c.pass.new.session.reader p.0 c.in-Ok-eq0.ensures.count (p.1 c.in-Ok-eq0.field-0-test) c.close.new.host c.close.new.volume c.close.ensures.intake
    (c.in-Ok-close.ensures.served w (state start).streams.intake start (read_all state left w start count c.pass.new.host c.pass.new.volume c.pass.new.session.reader p.0 c.in-Ok-eq0.ensures.count (p.1 c.in-Ok-eq0.field-0-test)))

pub returns-in-Err-close-clause-served : goal.returns-in-Err-close-clause-served
returns-in-Err-close-clause-served g c = λ w stands empty.
    let state = g.H.Disk.state in let left = g.H.Disk.left in let start = c.args.host.now in let count = c.loop-count.taken + c.in-Ok-eq0.field-0 in
    let p = c.in-Ok-eq0.ensures.passes w start (c.loop-count.invariant.fed w stands empty) in
    last_broke state left w start count c.pass.new.host c.pass.new.volume c.pass.new.session.reader p.0 c.in-Ok-eq0.ensures.count (p.1 c.in-Ok-eq0.field-0-test) c.close.new.host c.close.new.volume c.close.ensures.intake c.in-Err-close.status
    (c.in-Err-close.ensures.broken w (state start).streams.intake start (read_all state left w start count c.pass.new.host c.pass.new.volume c.pass.new.session.reader p.0 c.in-Ok-eq0.ensures.count (p.1 c.in-Ok-eq0.field-0-test)))
