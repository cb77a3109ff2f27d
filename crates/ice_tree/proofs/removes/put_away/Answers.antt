use Rattle.std.proofs.Common.{ap, Err, length, refl}
use Rattle.std.proofs.lemmas.Result.{err_from_is_err_and}
use Rattle.ice_base.proofs.LotLaws.{sited-few}
use Rattle.tree_spec.specs.Costs.{form_of}
use Rattle.tree_spec.specs.Answers.{next_tree}
use Rattle.tree_spec.specs.Operations.{Remove}
use Rattle.ice_tree.proofs.CountLaws.{counts_up, count_room}
use Rattle.ice_tree.proofs.RemoveDamage.{freed-counted}
use Rattle.ice_tree.proofs.Sets.{count-in}
use Rattle.ice_tree.proofs.removes.put_away.Goals as goal

pub returns-in_err-take_away-clause-sound : goal.returns-in_err-take_away-clause-sound
returns-in_err-take_away-clause-sound g c = λ mode k t p s l.
    let x = err_from_is_err_and c.from_residual.result c.from_residual.ensures.1 in
    rw (x.1, x.2) (c.in_err-take_away.ensures.sound mode k t p s l)

pub returns-in_err-count_up-clause-sound : goal.returns-in_err-count_up-clause-sound
returns-in_err-count_up-clause-sound g c = λ mode k t p s l.
    let x = err_from_is_err_and c.from_residual-in_err-count_up.result c.from_residual-in_err-count_up.ensures.1 in
    let e = c.in_err-count_up.ensures in
    let shown = c.take_away.ensures.spent.shows s in
    rw (x.1, x.2)
    (count_room (form_of g.F.Form.VERSION) (ap form_of g.F.Form.is_one.0) mode c.args.lot.now (g.K.View.map c.take_away.new.keep c.take_away.new.disk c.args.lot.now) (next_tree (Remove p) t) k
    (c.in_ok-take_away.ensures.taken mode k t p s l)
    t (length c.args.lot.now.groups) (form_of g.F.Form.VERSION) (Remove p) refl l.accepted _ e.faults (λ q. e.full (ap (λ y. Err y) q) shown))

pub returns-clause-taken : goal.returns-clause-taken
returns-clause-taken g c = λ mode k t p s l.
    counts_up (form_of g.F.Form.VERSION) (ap form_of g.F.Form.is_one.0) mode c.args.lot.now (g.K.View.map c.take_away.new.keep c.take_away.new.disk c.args.lot.now) _ k
    (c.in_ok-take_away.ensures.taken mode k t p s l)
    (sited-few c.args.lot.now _ c.requires.sited)
    (g.K.View.map c.count_up.new.keep c.count_up.new.disk c.args.lot.now)
    (c.in_ok-count_up.ensures.counted (c.take_away.ensures.spent.shows s))

pub returns-in_err-count_up-clause-faults : goal.returns-in_err-count_up-clause-faults
returns-in_err-count_up-clause-faults g c =
    let x = err_from_is_err_and c.from_residual-in_err-count_up.result c.from_residual-in_err-count_up.ensures.1 in
    rw (x.1, x.2) (count-in _ c.in_err-count_up.ensures.faults)

pub returns-clause-freed : goal.returns-clause-freed
returns-clause-freed g c = λ s.
    let lot = c.args.lot.now in
    freed-counted (g.K.View.map c.take_away.new.keep c.take_away.new.disk lot) (g.K.View.map c.count_up.new.keep c.count_up.new.disk lot) c.args.gone.now.number _
    (c.in_ok-count_up.ensures.counted (c.take_away.ensures.spent.shows s)) (c.in_ok-take_away.ensures.freed s)
