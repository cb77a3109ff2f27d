use Rattle.std.proofs.Common.{◌∙◌, sym}
use Rattle.ice_run.specs.Scripts.{script_lines, ended_lines}
use Rattle.ice_run.proofs.Feeding.{fed_line, fed_cut, fed_byte}
use Rattle.ice_run.proofs.session.feed.Goals as goal

pub returns-then-push-clause-served : goal.returns-then-push-clause-served
returns-then-push-clause-served g c = λ w input taken ahead start is serving.
    fed_line g.H.Disk.state g.H.Disk.left w input taken ahead c.args.byte start c.args.host.now c.answer.new.host c.args.volume.now c.answer.new.volume c.args.session.now.reader c.push.new.self c.answer.new.session.reader c.answer.result
    serving is c.push.ensures.text (sym c.push.ensures.ended ∙ c.if-push.true) c.answer.ensures.text (λ more next. c.answer.ensures.answered w (script_lines input) (ended_lines taken) more start next serving.so_far)

pub returns-then-push-clause-broken : goal.returns-then-push-clause-broken
returns-then-push-clause-broken g c = λ w input taken ahead start is serving.
    fed_cut g.H.Disk.state g.H.Disk.left w input taken ahead c.args.byte start c.args.host.now c.answer.new.host c.args.volume.now c.answer.new.volume c.args.session.now.reader c.push.new.self c.answer.new.session.reader c.answer.result
    serving is c.push.ensures.text (sym c.push.ensures.ended ∙ c.if-push.true) (λ more next. c.answer.ensures.broken w (script_lines input) (ended_lines taken) more start next serving.so_far)

pub returns-else-push-clause-served : goal.returns-else-push-clause-served
returns-else-push-clause-served g c = λ w input taken ahead start is serving.
    fed_byte g.H.Disk.state g.H.Disk.left w input taken c.args.byte start c.args.host.now c.args.volume.now c.args.session.now.reader c.push.new.self serving c.push.ensures.text (sym c.push.ensures.ended ∙ c.if-push.false)
