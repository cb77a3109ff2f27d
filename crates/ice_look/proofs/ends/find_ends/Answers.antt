use Rattle.std.proofs.Common.{◌≡◌, ◌-◌, take, drop, sym, subst, IfOk, IfErr}
use Rattle.std.proofs.lemmas.Result.{err_from_is_err_and}
use Rattle.tree_spec.specs.Trees.{last_name}
use Rattle.tree_spec.specs.Costs.{form_of}
use Rattle.ice_reads.specs.Tables.{Map}
use Rattle.ice_reads.specs.Recovers.{MapRecovers}
use Rattle.ice_map.specs.Own.{own}
use Rattle.ice_look.specs.Broken.{IsBrokenBy}
use Rattle.ice_look.specs.Calls.{place_on}
use Rattle.ice_look.specs.Ends.{IsEnds, EndsAre}
use Rattle.ice_look.specs.Places.{PlaceInHand, PlaceNamed}
use Rattle.ice_look.proofs.ends.find_ends.Goals as goal

pub returns-in_err-root-clause-sound : goal.returns-in_err-root-clause-sound
returns-in_err-root-clause-sound g c = λ mode k t s r.
    let p = err_from_is_err_and c.from_residual.result c.from_residual.ensures.1 in
    rw (p.1, p.2) (c.in_err-root.ensures.sound mode k t s r)

pub returns-in_err-root-clause-broken : goal.returns-in_err-root-clause-broken
returns-in_err-root-clause-broken g c = λ s.
    let p = err_from_is_err_and c.from_residual.result c.from_residual.ensures.1 in
    rw (p.1, p.2) (c.in_err-root.ensures.broken s)

pub returns-clause-found : goal.returns-clause-found
returns-clause-found g c = λ mode k t s r.
    let f = form_of g.F.Form.VERSION in
    let lot = c.args.lot.now in
    let at = c.in_ok-root.ensures in
    let looked = c.walk.ensures.looked in
    let names = drop c.args.depth c.args.path.now in
    subst (λ (m : Map). IfOk c.ends_from.result (IsEnds f (own f m) names t)) looked.map
    (c.ends_from.ensures.found mode k t (looked.shows s) (subst (λ (m : Map). MapRecovers f mode lot m t k) (sym looked.map) r)
    (subst (λ (m : Map). PlaceInHand f lot m c.in_ok-root.root c.walk.new.node) (sym looked.map) (record { is = at.is s; reached = at.reached s; node_is = at.node_is s }))
    (subst (λ (m : Map). c.in_ok-root.root ≡ place_on g.F.Form.VERSION m (take (c.args.depth - c.args.depth) names) t) (sym looked.map) (at.place mode k t s r)))

pub returns-clause-sound : goal.returns-clause-sound
returns-clause-sound g c = λ mode k t s r.
    let f = form_of g.F.Form.VERSION in
    let lot = c.args.lot.now in
    let at = c.in_ok-root.ensures in
    let looked = c.walk.ensures.looked in
    let names = drop c.args.depth c.args.path.now in
    c.ends_from.ensures.sound mode k t (looked.shows s) (subst (λ (m : Map). MapRecovers f mode lot m t k) (sym looked.map) r)
    (subst (λ (m : Map). PlaceInHand f lot m c.in_ok-root.root c.walk.new.node) (sym looked.map) (record { is = at.is s; reached = at.reached s; node_is = at.node_is s }))
    (subst (λ (m : Map). c.in_ok-root.root ≡ place_on g.F.Form.VERSION m (take (c.args.depth - c.args.depth) names) t) (sym looked.map) (at.place mode k t s r))

pub returns-clause-are : goal.returns-clause-are
returns-clause-are g c = λ s.
    let f = form_of g.F.Form.VERSION in
    let at = c.in_ok-root.ensures in
    let looked = c.walk.ensures.looked in
    subst (λ (m : Map). IfOk c.ends_from.result (EndsAre f c.args.lot.now m)) looked.map
    (c.ends_from.ensures.are (looked.shows s)
    (subst (λ (m : Map). PlaceInHand f c.args.lot.now m c.in_ok-root.root c.walk.new.node) (sym looked.map) (record { is = at.is s; reached = at.reached s; node_is = at.node_is s })))

pub returns-clause-named : goal.returns-clause-named
returns-clause-named g c = λ s below.
    let f = form_of g.F.Form.VERSION in
    let at = c.in_ok-root.ensures in
    let looked = c.walk.ensures.looked in
    subst (λ (m : Map). IfOk c.ends_from.result (λ ends. PlaceNamed f m ends.parent (last_name (drop c.args.depth c.args.path.now)) ends.end)) looked.map
    (c.ends_from.ensures.named (looked.shows s)
    (subst (λ (m : Map). PlaceInHand f c.args.lot.now m c.in_ok-root.root c.walk.new.node) (sym looked.map) (record { is = at.is s; reached = at.reached s; node_is = at.node_is s })) below)

pub returns-clause-broken : goal.returns-clause-broken
returns-clause-broken g c = λ s.
    let f = form_of g.F.Form.VERSION in
    let at = c.in_ok-root.ensures in
    let looked = c.walk.ensures.looked in
    subst (λ (m : Map). IfErr c.ends_from.result (IsBrokenBy f c.args.lot.now m)) looked.map
    (c.ends_from.ensures.broken (looked.shows s)
    (subst (λ (m : Map). PlaceInHand f c.args.lot.now m c.in_ok-root.root c.walk.new.node) (sym looked.map) (record { is = at.is s; reached = at.reached s; node_is = at.node_is s })))
