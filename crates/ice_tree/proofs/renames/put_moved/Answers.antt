use Rattle.std.proofs.Common.{◌+◌, Err, length, refl, sym, ap, ◌∙◌, subst, cond}
use Rattle.std.proofs.lemmas.Result.{err_from_is_err_and}
use Rattle.ice_base.proofs.LotLaws.{sited-few}
use Rattle.tree_spec.specs.Costs.{form_of}
use Rattle.tree_spec.specs.Operations.{Rename}
use Rattle.tree_spec.specs.Answers.{next_tree, moved_tree}
use Rattle.tree_spec.specs.Trees.{Tree}
use Rattle.ice_reads.specs.Recovers.{MapRecovers}
use Rattle.ice_tree.proofs.CountLaws.{counts_up, count_room}
use Rattle.ice_tree.proofs.renames.put_moved.Goals as goal

pub returns-then-step-clause-moved : goal.returns-then-step-clause-moved
returns-then-step-clause-moved g c = λ mode k t p q s x.
    let f = form_of g.F.Form.VERSION in
    let m' = g.K.View.map c.count_up.new.keep c.count_up.new.disk c.args.lot.now in
    subst (λ (u : Tree). MapRecovers f mode c.args.lot.now m' u (k + 1)) (sym (ap (λ b. cond b t (moved_tree p q t)) (sym x.move_is.same_is ∙ c.if-step.true)))
    (counts_up f (ap form_of g.F.Form.is_one.0) mode c.args.lot.now (g.K.View.map c.args.keep.now c.args.disk.now c.args.lot.now) t k x.recovers (sited-few c.args.lot.now _ c.requires.sited) m' (c.in_ok-count_up.ensures.counted s))

pub returns-in_err-count_up-clause-sound : goal.returns-in_err-count_up-clause-sound
returns-in_err-count_up-clause-sound g c = λ mode k t p q s x.
    let f = form_of g.F.Form.VERSION in
    let y = err_from_is_err_and c.from_residual.result c.from_residual.ensures.1 in
    let e = c.in_err-count_up.ensures in
    rw (y.1, y.2)
    (count_room f (ap form_of g.F.Form.is_one.0) mode c.args.lot.now (g.K.View.map c.args.keep.now c.args.disk.now c.args.lot.now) t k x.recovers
    t (length c.args.lot.now.groups) f (Rename p q) refl x.accepted _ e.faults (λ z. e.full (ap (λ y. Err y) z) s))

pub returns-in_err-move_row-clause-sound : goal.returns-in_err-move_row-clause-sound
returns-in_err-move_row-clause-sound g c = λ mode k t p q s x.
    let y = err_from_is_err_and c.from_residual-in_err-move_row.result c.from_residual-in_err-move_row.ensures.1 in
    rw (y.1, y.2) (c.in_err-move_row.ensures.sound mode k t p q s x c.if-step.false)

pub returns-in_err-count_up-2-clause-sound : goal.returns-in_err-count_up-2-clause-sound
returns-in_err-count_up-2-clause-sound g c = λ mode k t p q s x.
    let f = form_of g.F.Form.VERSION in
    let y = err_from_is_err_and c.from_residual-in_err-count_up-2.result c.from_residual-in_err-count_up-2.ensures.1 in
    let e = c.in_err-count_up-2.ensures in
    let s1 = c.move_row.ensures.spent.shows s in
    rw (y.1, y.2)
    (count_room f (ap form_of g.F.Form.is_one.0) mode c.args.lot.now (g.K.View.map c.move_row.new.keep c.move_row.new.disk c.args.lot.now) (next_tree (Rename p q) t) k (c.in_ok-move_row.ensures.moved mode k t p q s x c.if-step.false)
    t (length c.args.lot.now.groups) f (Rename p q) refl x.accepted _ e.faults (λ z. e.full (ap (λ y. Err y) z) s1))

pub returns-clause-moved : goal.returns-clause-moved
returns-clause-moved g c = λ mode k t p q s x.
    let f = form_of g.F.Form.VERSION in
    counts_up f (ap form_of g.F.Form.is_one.0) mode c.args.lot.now (g.K.View.map c.move_row.new.keep c.move_row.new.disk c.args.lot.now) (next_tree (Rename p q) t) k
    (c.in_ok-move_row.ensures.moved mode k t p q s x c.if-step.false) (sited-few c.args.lot.now _ c.requires.sited)
    (g.K.View.map c.count_up-2.new.keep c.count_up-2.new.disk c.args.lot.now) (c.in_ok-count_up-2.ensures.counted (c.move_row.ensures.spent.shows s))
