use Rattle.std.proofs.Common.{◌≡◌, ◌-◌, take, drop, sym, subst, IfOk, IfErr}
use Rattle.std.proofs.lemmas.Result.{err_from_is_err_and}
use Rattle.tree_spec.specs.Costs.{form_of}
use Rattle.ice_reads.specs.Tables.{Map}
use Rattle.ice_reads.specs.Recovers.{MapRecovers}
use Rattle.ice_look.specs.Broken.{IsBrokenBy}
use Rattle.ice_look.specs.Calls.{place_on}
use Rattle.ice_look.specs.Places.{Root, NodeIs, PlaceIs, PlaceReached, PlaceInHand}
use Rattle.ice_look.proofs.PlaceLaws.{root-begun, if-is, if-reached, if-node}
use Rattle.ice_look.proofs.place.walk.Goals as goal

pub returns-in_err-root-clause-broken : goal.returns-in_err-root-clause-broken
returns-in_err-root-clause-broken g c = λ s.
    let p = err_from_is_err_and c.from_residual.result c.from_residual.ensures.1 in
    rw (p.1, p.2) (c.in_err-root.ensures.broken s Root)

pub returns-clause-place : goal.returns-clause-place
returns-clause-place g c = λ mode k t s recovers.
    let f = form_of g.F.Form.VERSION in
    let lot = c.args.lot.now in
    let e = c.in_ok-root.ensures in
    let looked = c.look.ensures.looked in
    let names = drop c.args.depth c.args.path.now in
    subst (λ (m : Map). IfOk c.walk_on.result (λ p. p ≡ place_on g.F.Form.VERSION m (take (c.args.end - c.args.depth) names) t)) looked.map
    (c.walk_on.ensures.place mode k t (looked.shows s)
    (subst (λ (m : Map). MapRecovers f mode lot m t k) (sym looked.map) recovers)
    (subst (λ (m : Map). PlaceInHand f lot m c.in_ok-root.root c.look.new.node) (sym looked.map) (record { is = e.is s; reached = e.reached s Root; node_is = e.node_is s }))
    (subst (λ (m : Map). c.in_ok-root.root ≡ place_on g.F.Form.VERSION m (take (c.args.depth - c.args.depth) names) t) (sym looked.map)
    (root-begun g.F.Form.VERSION (g.V.View.map c.args.view.now c.args.disk.now lot) names c.args.depth t c.in_ok-root.root (e.place 0 t s recovers.holds.reads))))

pub returns-clause-sound : goal.returns-clause-sound
returns-clause-sound g c = λ mode k t s recovers.
    let f = form_of g.F.Form.VERSION in
    let lot = c.args.lot.now in
    let e = c.in_ok-root.ensures in
    let looked = c.look.ensures.looked in
    let names = drop c.args.depth c.args.path.now in
    c.walk_on.ensures.sound mode k t (looked.shows s)
    (subst (λ (m : Map). MapRecovers f mode lot m t k) (sym looked.map) recovers)
    (subst (λ (m : Map). PlaceInHand f lot m c.in_ok-root.root c.look.new.node) (sym looked.map) (record { is = e.is s; reached = e.reached s Root; node_is = e.node_is s }))
    (subst (λ (m : Map). c.in_ok-root.root ≡ place_on g.F.Form.VERSION m (take (c.args.depth - c.args.depth) names) t) (sym looked.map)
    (root-begun g.F.Form.VERSION (g.V.View.map c.args.view.now c.args.disk.now lot) names c.args.depth t c.in_ok-root.root (e.place 0 t s recovers.holds.reads)))

pub returns-clause-node_is : goal.returns-clause-node_is
returns-clause-node_is g c = λ s.
    let f = form_of g.F.Form.VERSION in
    let e = c.in_ok-root.ensures in
    let looked = c.look.ensures.looked in
    subst (λ (m : Map). IfOk c.walk_on.result (λ p. NodeIs m p c.walk_on.new.node)) looked.map
    (if-node f c.args.lot.now _ c.walk_on.new.node c.walk_on.result (c.walk_on.ensures.in_hand (looked.shows s)
    (subst (λ (m : Map). PlaceInHand f c.args.lot.now m c.in_ok-root.root c.look.new.node) (sym looked.map) (record { is = e.is s; reached = e.reached s Root; node_is = e.node_is s }))))

pub returns-clause-is : goal.returns-clause-is
returns-clause-is g c = λ s.
    let f = form_of g.F.Form.VERSION in
    let e = c.in_ok-root.ensures in
    let looked = c.look.ensures.looked in
    subst (λ (m : Map). IfOk c.walk_on.result (PlaceIs m)) looked.map
    (if-is f c.args.lot.now _ c.walk_on.new.node c.walk_on.result (c.walk_on.ensures.in_hand (looked.shows s)
    (subst (λ (m : Map). PlaceInHand f c.args.lot.now m c.in_ok-root.root c.look.new.node) (sym looked.map) (record { is = e.is s; reached = e.reached s Root; node_is = e.node_is s }))))

pub returns-clause-reached : goal.returns-clause-reached
returns-clause-reached g c = λ s.
    let f = form_of g.F.Form.VERSION in
    let e = c.in_ok-root.ensures in
    let looked = c.look.ensures.looked in
    subst (λ (m : Map). IfOk c.walk_on.result (PlaceReached f c.args.lot.now m)) looked.map
    (if-reached f c.args.lot.now _ c.walk_on.new.node c.walk_on.result (c.walk_on.ensures.in_hand (looked.shows s)
    (subst (λ (m : Map). PlaceInHand f c.args.lot.now m c.in_ok-root.root c.look.new.node) (sym looked.map) (record { is = e.is s; reached = e.reached s Root; node_is = e.node_is s }))))

pub returns-clause-broken : goal.returns-clause-broken
returns-clause-broken g c = λ s.
    let f = form_of g.F.Form.VERSION in
    let e = c.in_ok-root.ensures in
    let looked = c.look.ensures.looked in
    subst (λ (m : Map). IfErr c.walk_on.result (IsBrokenBy f c.args.lot.now m)) looked.map
    (c.walk_on.ensures.broken (looked.shows s)
    (subst (λ (m : Map). PlaceInHand f c.args.lot.now m c.in_ok-root.root c.look.new.node) (sym looked.map) (record { is = e.is s; reached = e.reached s Root; node_is = e.node_is s })))
