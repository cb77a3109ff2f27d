use Rattle.std.proofs.Common.{◌≡◌, ◌∙◌, sym, refl, ap, not, Bool, true, false}
use Rattle.std.specs.Prelude.{◌&&◌}
use Rattle.ice_run.specs.Scripts.{script_lines, ended_lines}
use Rattle.ice_run.proofs.Feeding.{closed_ok, closed_err, closed_none}
use Rattle.ice_run.proofs.session.close.Goals as goal

-- no LF has ended the line, so whether it has bytes decides
open_line : (ended b t : Bool) → ended ≡ false → t ≡ (not ended && not b) → t ≡ not b
open_line ended b t h is = is ∙ ap (λ x. not x && not b) h

true_of : (b t : Bool) → t ≡ not b → t ≡ true → b ≡ false
true_of true t is was = sym was ∙ is
true_of false t is was = refl

false_of : (b t : Bool) → t ≡ not b → t ≡ false → b ≡ true
false_of true t is was = refl
false_of false t is was = sym was ∙ is

pub returns-then-finish-clause-served : goal.returns-then-finish-clause-served
returns-then-finish-clause-served g c = λ w input start serving.
    closed_ok g.H.Disk.state g.H.Disk.left w input start c.args.host.now c.answer.new.host c.args.volume.now c.answer.new.volume c.args.session.now.reader c.finish.new.self c.answer.result serving c.finish.ensures.same
    (true_of _ c.finish.result (open_line _ _ _ c.requires.open_line c.finish.ensures.some) c.if-finish.true)
    (λ more next. c.answer.ensures.answered w (script_lines input) (ended_lines input) more start next serving.so_far)

pub returns-then-finish-clause-broken : goal.returns-then-finish-clause-broken
returns-then-finish-clause-broken g c = λ w input start serving.
    closed_err g.H.Disk.state g.H.Disk.left w input start c.args.host.now c.answer.new.host c.args.volume.now c.answer.new.volume c.args.session.now.reader c.finish.new.self c.answer.result serving c.finish.ensures.same
    (true_of _ c.finish.result (open_line _ _ _ c.requires.open_line c.finish.ensures.some) c.if-finish.true)
    (λ more next. c.answer.ensures.broken w (script_lines input) (ended_lines input) more start next serving.so_far)

pub returns-else-finish-clause-served : goal.returns-else-finish-clause-served
returns-else-finish-clause-served g c = λ w input start serving.
    closed_none g.H.Disk.state g.H.Disk.left w input start c.args.host.now c.args.volume.now c.args.session.now.reader serving
    (false_of _ c.finish.result (open_line _ _ _ c.requires.open_line c.finish.ensures.some) c.if-finish.false)
