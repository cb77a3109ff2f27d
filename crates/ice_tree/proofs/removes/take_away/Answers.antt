use Rattle.std.proofs.Common.{◌∙◌, sym, ap, Err, ℕ, List}
use Rattle.std.specs.Prelude.{is_some}
use Rattle.std.proofs.lemmas.Result.{err_from_is_err_and, IfErr-weaker, on_ok_weaker}
use Rattle.ice_base.proofs.LotLaws.{sited-few}
use Rattle.ice_base.specs.Lots.{sub_address}
use Rattle.tree_spec.specs.Costs.{form_of}
use Rattle.tree_spec.specs.Answers.{next_tree}
use Rattle.tree_spec.specs.Operations.{Remove}
use Rattle.ice_tree.proofs.RemoveLaws.{spot-made, spot-has, spot-takes, spot-left}
use Rattle.ice_tree.proofs.HandLaws.{take-fault, take-kind, hand-dir, hand-low, hand-free, hand-confused, hand-stays}
use Rattle.ice_tree.proofs.FaultLaws.{done-beside}
use Rattle.ice_tree.proofs.TakeDamage.{take-blamed}
use Rattle.ice_tree.proofs.LooseDamage.{loose-before}
use Rattle.ice_tree.proofs.Sets.{cut-in}
use Rattle.ice_tree.proofs.WellLaws.{dir-confused, dir-free}
use Rattle.ice_look.specs.Broken.{IsBrokenBy, IsFaultBy}
use Rattle.ice_tree.specs.Removes.{LooseBroken}
use Rattle.ice_tree.proofs.removes.take_away.Goals as goal

pub returns-in_err-take_in-clause-sound : goal.returns-in_err-take_in-clause-sound
returns-in_err-take_in-clause-sound g c = λ mode k t p s l.
    let x = err_from_is_err_and c.from_residual.result c.from_residual.ensures.1 in
    let e = c.in_err-take_in.ensures in
    let lot = c.args.lot.now in
    let form = form_of g.F.Form.VERSION in
    let one = ap form_of g.F.Form.is_one.0 in
    let m : ℕ → List ℕ = g.K.View.map c.args.keep.now c.args.disk.now lot in
    let number = c.args.gone.now.spot.number in
    let node = c.args.gone.now.spot.node in
    rw (x.1, x.2)
    (spot-takes (form_of g.F.Form.VERSION) (ap form_of g.F.Form.is_one.0) mode c.args.lot.now (sited-few c.args.lot.now _ c.requires.sited) (g.K.View.map c.args.keep.now c.args.disk.now c.args.lot.now) t k p c.args.gone.now c.args.name.now (form_of g.F.Form.VERSION) (ap form_of g.F.Form.is_one.0) l
    _ (take-fault _ e.faults) (λ q. hand-low lot form m number node l.spot_node (e.zero (ap (λ y. Err y) q) s)) (λ q. absurd (take-kind _ e.faults q))
    (λ q. dir-confused lot form one m number (hand-dir lot form m number node l.spot_node c.requires.fits.spot.dir) (hand-confused lot form m number node l.spot_node (e.misled (ap (λ y. Err y) q) s)))
    (λ q. dir-free lot form one m number (hand-dir lot form m number node l.spot_node c.requires.fits.spot.dir) (hand-free lot form m number node l.spot_node (e.unused (ap (λ y. Err y) q) s))))

pub returns-in-None-clause-sound : goal.returns-in-None-clause-sound
returns-in-None-clause-sound g c = λ mode k t p s l.
    absurd (spot-has (form_of g.F.Form.VERSION) (ap form_of g.F.Form.is_one.0) mode c.args.lot.now (sited-few c.args.lot.now _ c.requires.sited) (g.K.View.map c.args.keep.now c.args.disk.now c.args.lot.now) t k p c.args.gone.now c.args.name.now (form_of g.F.Form.VERSION) (ap form_of g.F.Form.is_one.0) l
    (sym (c.in_ok-take_in.ensures.found s l.spot_node) ∙ c.in-None.is))

pub returns-in-Some-clause-taken : goal.returns-in-Some-clause-taken
returns-in-Some-clause-taken g c = λ mode k t p s l.
    let f = form_of g.F.Form.VERSION in
    let one = ap form_of g.F.Form.is_one.0 in
    let lot = c.args.lot.now in
    let few = sited-few lot _ c.requires.sited in
    let m = g.K.View.map c.args.keep.now c.args.disk.now lot in
    let set = c.in_ok-take_in.ensures.taken s l.spot_node (spot-made f one mode lot few m t k p c.args.gone.now c.args.name.now (form_of g.F.Form.VERSION) (ap form_of g.F.Form.is_one.0) l) (ap is_some c.in-Some.is) in
    c.clear.ensures.cleared mode k (next_tree (Remove p) t) (c.take_in.ensures.spent.shows s)
    (hand-stays f lot m (g.K.View.map c.take_in.new.keep c.take_in.new.disk lot) c.args.gone.now c.requires.fits l.spot_node l.node_is (c.in_ok-take_in.ensures.left s l.spot_node (ap is_some c.in-Some.is)))
    (spot-left f one mode lot few m t k p c.args.gone.now c.args.name.now (form_of g.F.Form.VERSION) (ap form_of g.F.Form.is_one.0) l (g.K.View.map c.take_in.new.keep c.take_in.new.disk lot) set)

pub returns-in-Some-clause-sound : goal.returns-in-Some-clause-sound
returns-in-Some-clause-sound g c = λ mode k t p s l.
    let f = form_of g.F.Form.VERSION in
    let one = ap form_of g.F.Form.is_one.0 in
    let lot = c.args.lot.now in
    let few = sited-few lot _ c.requires.sited in
    let m = g.K.View.map c.args.keep.now c.args.disk.now lot in
    let set = c.in_ok-take_in.ensures.taken s l.spot_node (spot-made f one mode lot few m t k p c.args.gone.now c.args.name.now (form_of g.F.Form.VERSION) (ap form_of g.F.Form.is_one.0) l) (ap is_some c.in-Some.is) in
    c.clear.ensures.sound mode k (next_tree (Remove p) t) (c.take_in.ensures.spent.shows s)
    (hand-stays f lot m (g.K.View.map c.take_in.new.keep c.take_in.new.disk lot) c.args.gone.now c.requires.fits l.spot_node l.node_is (c.in_ok-take_in.ensures.left s l.spot_node (ap is_some c.in-Some.is)))
    (spot-left f one mode lot few m t k p c.args.gone.now c.args.name.now (form_of g.F.Form.VERSION) (ap form_of g.F.Form.is_one.0) l (g.K.View.map c.take_in.new.keep c.take_in.new.disk lot) set)

pub returns-in_err-take_in-clause-broken : goal.returns-in_err-take_in-clause-broken
returns-in_err-take_in-clause-broken g c = λ s is.
    let lot = c.args.lot.now in
    let m : ℕ → List ℕ = g.K.View.map c.args.keep.now c.args.disk.now lot in
    let x = err_from_is_err_and c.from_residual.result c.from_residual.ensures.1 in
    let e = c.in_err-take_in.ensures in
    let form = form_of g.F.Form.VERSION in
    let number = c.args.gone.now.spot.number in
    let node = c.args.gone.now.spot.node in
    rw (x.1, x.2)
    (take-blamed form lot m number is.spot_is.reached is.spot_is.dir _ (take-fault _ e.faults) (λ q. hand-low lot form m number node is.spot_is.node_is (e.zero (ap (λ y. Err y) q) s)) (λ q. absurd (take-kind _ e.faults q))
    (λ q. hand-free lot form m number node is.spot_is.node_is (e.unused (ap (λ y. Err y) q) s)) (λ q. hand-confused lot form m number node is.spot_is.node_is (e.misled (ap (λ y. Err y) q) s)))

pub returns-in-Some-clause-broken : goal.returns-in-Some-clause-broken
returns-in-Some-clause-broken g c = λ s is.
    let form = (form_of g.F.Form.VERSION) in
    let lot = c.args.lot.now in
    let m0 : ℕ → List ℕ = g.K.View.map c.args.keep.now c.args.disk.now lot in
    let m1 : ℕ → List ℕ = g.K.View.map c.take_in.new.keep c.take_in.new.disk lot in
    let left = c.in_ok-take_in.ensures.left s is.spot_is.node_is (ap is_some c.in-Some.is) in
    IfErr-weaker c.clear.result (IsFaultBy (LooseBroken lot m1 c.args.gone.now.number)) (IsBrokenBy form lot m0)
    (λ e h. loose-before form lot m0 m1 c.args.gone.now.spot.number is.spot_is.reached is.spot_is.dir left c.args.gone.now.number is.reached e h)
    (c.clear.ensures.broken (c.take_in.ensures.spent.shows s) (hand-stays form lot m0 m1 c.args.gone.now c.requires.fits is.spot_is.node_is is.node_is left))

pub returns-in_err-take_in-clause-faults : goal.returns-in_err-take_in-clause-faults
returns-in_err-take_in-clause-faults g c =
    let x = err_from_is_err_and c.from_residual.result c.from_residual.ensures.1 in
    rw (x.1, x.2) (cut-in _ c.in_err-take_in.ensures.faults)

pub returns-in-Some-clause-done : goal.returns-in-Some-clause-done
returns-in-Some-clause-done g c = λ s.
    let lot = c.args.lot.now in
    let m0 : ℕ → List ℕ = g.K.View.map c.args.keep.now c.args.disk.now lot in
    let m1 : ℕ → List ℕ = g.K.View.map c.take_in.new.keep c.take_in.new.disk lot in
    on_ok_weaker c.clear.result (λ e. e ∙ done-beside (m0 sub_address) (m1 sub_address) (c.in_ok-take_in.ensures.sub s)) (c.clear.ensures.done (c.take_in.ensures.spent.shows s))
