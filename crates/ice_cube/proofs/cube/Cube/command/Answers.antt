use Rattle.std.proofs.Common.{rules, ◌≡◌, ◌∙◌, not, sym, ap, true}
use Rattle.tree_spec.specs.Lines.{asked}
use Rattle.ice_cube.specs.Called.{is_look}
use Rattle.ice_cube.proofs.CommandLaws.{look_or_change, stopped_own}
use Rattle.ice_cube.proofs.cube.Cube.command.Goals as goal

pub returns-then-self-clause-own : goal.returns-then-self-clause-own
returns-then-self-clause-own g c = λ r op e holds.
    let dead : c.args.self.now.stopped ≡ true = search rules in
    stopped_own c.args.self.now (g.D.Disk.state c.args.disk.now) op dead r holds

pub returns-then-looks-clause-names : goal.returns-then-looks-clause-names
returns-then-looks-clause-names g c = λ op why e change refused.
    let look : is_look (asked c.args.command.now) ≡ true = search rules in
    absurd (cc (sym change ∙ look_or_change c.args.depth (asked c.args.command.now) op e ∙ ap not look))

pub returns-in-Ok-clause-names : goal.returns-in-Ok-clause-names
returns-in-Ok-clause-names g c = λ op why e change refused. c.change.ensures.names op why e refused

pub returns-in-Err-clause-names : goal.returns-in-Err-clause-names
returns-in-Err-clause-names g c = λ op why e change refused. c.change.ensures.names op why e refused
