use Rattle.std.proofs.Common.{ap, Err, length, refl, arith}
use Rattle.std.proofs.lemmas.Result.{err_from_is_err_and}
use Rattle.ice_base.proofs.LotLaws.{sited-few}
use Rattle.tree_spec.specs.Costs.{form_of}
use Rattle.tree_spec.specs.Answers.{next_tree}
use Rattle.tree_spec.specs.Operations.{Trunc}
use Rattle.ice_base.specs.Fields.{long_at}
use Rattle.ice_base.specs.Lots.{sub_address}
use Rattle.ice_tree.proofs.FaultLaws.{count-broken, done-beside}
use Rattle.ice_tree.proofs.FileDamage.{cut-loose, loose-blamed}
use Rattle.ice_tree.proofs.Sets.{cut-in, count-in}
use Rattle.ice_tree.proofs.CountLaws.{counts_up, count_room}
use Rattle.ice_tree.proofs.FileLaws.{cut-made, cut-recovers, cut-sound}
use Rattle.ice_tree.proofs.writes.put_cut.Goals as goal

pub returns-in_err-cut_in-clause-sound : goal.returns-in_err-cut_in-clause-sound
returns-in_err-cut_in-clause-sound g c = λ mode k t p s takes.
    let x = err_from_is_err_and c.from_residual.result c.from_residual.ensures.1 in
    let e = c.in_err-cut_in.ensures in
    rw (x.1, x.2)
    (cut-sound (form_of g.F.Form.VERSION) (ap form_of g.F.Form.is_one.0) (form_of g.F.Form.VERSION) (ap form_of g.F.Form.is_one.0) mode c.args.lot.now (g.K.View.map c.args.keep.now c.args.disk.now c.args.lot.now) t k p c.args.file.now.number c.args.file.now.node (sited-few c.args.lot.now _ c.requires.sited)
    c.args.len takes _ e.faults (λ q. let z = e.zero (ap (λ y. Err y) q) s in omega arith) (λ q. e.misled (ap (λ y. Err y) q) s) (λ q. e.unused (ap (λ y. Err y) q) s))

pub returns-in_err-count_up-clause-sound : goal.returns-in_err-count_up-clause-sound
returns-in_err-count_up-clause-sound g c = λ mode k t p s takes.
    let x = err_from_is_err_and c.from_residual-in_err-count_up.result c.from_residual-in_err-count_up.ensures.1 in
    let e = c.in_err-count_up.ensures in
    let f = form_of g.F.Form.VERSION in
    let one = ap form_of g.F.Form.is_one.0 in
    let lot = c.args.lot.now in
    let few = sited-few lot _ c.requires.sited in
    let m = g.K.View.map c.args.keep.now c.args.disk.now lot in
    let m' = g.K.View.map c.cut_in.new.keep c.cut_in.new.disk lot in
    let well = cut-made f one (form_of g.F.Form.VERSION) (ap form_of g.F.Form.is_one.0) mode lot m t k p c.args.file.now.number c.args.file.now.node few c.args.len takes in
    rw (x.1, x.2)
    (count_room f one mode lot m' (next_tree (Trunc p c.args.len) t) k
    (cut-recovers f one (form_of g.F.Form.VERSION) (ap form_of g.F.Form.is_one.0) mode lot m t k p c.args.file.now.number c.args.file.now.node few c.args.len takes m' (c.in_ok-cut_in.ensures.cut s takes.node_is well))
    t (length lot.groups) f (Trunc p c.args.len) refl takes.accepted _ e.faults (λ q. e.full (ap (λ y. Err y) q) (c.cut_in.ensures.spent.shows s)))

pub returns-clause-set : goal.returns-clause-set
returns-clause-set g c = λ mode k t p s takes.
    let f = form_of g.F.Form.VERSION in
    let one = ap form_of g.F.Form.is_one.0 in
    let lot = c.args.lot.now in
    let few = sited-few lot _ c.requires.sited in
    let m = g.K.View.map c.args.keep.now c.args.disk.now lot in
    let m' = g.K.View.map c.cut_in.new.keep c.cut_in.new.disk lot in
    let well = cut-made f one (form_of g.F.Form.VERSION) (ap form_of g.F.Form.is_one.0) mode lot m t k p c.args.file.now.number c.args.file.now.node few c.args.len takes in
    counts_up f one mode lot m' (next_tree (Trunc p c.args.len) t) k
    (cut-recovers f one (form_of g.F.Form.VERSION) (ap form_of g.F.Form.is_one.0) mode lot m t k p c.args.file.now.number c.args.file.now.node few c.args.len takes m' (c.in_ok-cut_in.ensures.cut s takes.node_is well))
    few (g.K.View.map c.count_up.new.keep c.count_up.new.disk lot) (c.in_ok-count_up.ensures.counted (c.cut_in.ensures.spent.shows s))

pub returns-in_err-cut_in-clause-broken : goal.returns-in_err-cut_in-clause-broken
returns-in_err-cut_in-clause-broken g c = λ s is room.
    let x = err_from_is_err_and c.from_residual.result c.from_residual.ensures.1 in
    let e = c.in_err-cut_in.ensures in
    let m0 = g.K.View.map c.args.keep.now c.args.disk.now c.args.lot.now in
    rw (x.1, x.2)
    (loose-blamed (form_of g.F.Form.VERSION) c.args.lot.now m0 c.args.file.now.number is.reached _
    (cut-loose (form_of g.F.Form.VERSION) (ap form_of g.F.Form.is_one.0) c.args.lot.now m0 c.args.len c.args.file.now.number c.args.file.now.node is.node_is is.reaches _ e.faults (λ q. e.zero (ap (λ y. Err y) q) s) (λ q. e.unused (ap (λ y. Err y) q) s)
    (λ q. e.single_placed (ap (λ y. Err y) q)) (λ q. e.misled (ap (λ y. Err y) q) s)))

pub returns-in_err-count_up-clause-broken : goal.returns-in_err-count_up-clause-broken
returns-in_err-count_up-clause-broken g c = λ s is room.
    let x = err_from_is_err_and c.from_residual-in_err-count_up.result c.from_residual-in_err-count_up.ensures.1 in
    let e = c.in_err-count_up.ensures in
    let m0 = g.K.View.map c.args.keep.now c.args.disk.now c.args.lot.now in
    let m1 = g.K.View.map c.cut_in.new.keep c.cut_in.new.disk c.args.lot.now in
    let stays = done-beside (m0 sub_address) (m1 sub_address) (c.in_ok-cut_in.ensures.sub s) in
    rw (x.1, x.2) (count-broken _ (long_at (m1 sub_address) 16) _ e.faults (λ q. e.full (ap (λ y. Err y) q) (c.cut_in.ensures.spent.shows s)) (omega (arith, stays, room)))

pub returns-in_err-cut_in-clause-faults : goal.returns-in_err-cut_in-clause-faults
returns-in_err-cut_in-clause-faults g c =
    let x = err_from_is_err_and c.from_residual.result c.from_residual.ensures.1 in
    rw (x.1, x.2) (cut-in _ c.in_err-cut_in.ensures.faults)

pub returns-in_err-count_up-clause-faults : goal.returns-in_err-count_up-clause-faults
returns-in_err-count_up-clause-faults g c =
    let x = err_from_is_err_and c.from_residual-in_err-count_up.result c.from_residual-in_err-count_up.ensures.1 in
    rw (x.1, x.2) (count-in _ c.in_err-count_up.ensures.faults)
