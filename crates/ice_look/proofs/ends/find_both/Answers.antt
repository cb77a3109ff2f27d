use Rattle.std.proofs.Common.{◌≡◌, ◌-◌, take, drop, sym, ap, ◌∙◌, subst}
use Rattle.std.proofs.lemmas.Result.{err_from_is_err_and}
use Rattle.tree_spec.specs.Trees.{last_name}
use Rattle.tree_spec.specs.Costs.{form_of}
use Rattle.ice_reads.specs.Tables.{Map}
use Rattle.ice_reads.specs.Recovers.{MapRecovers}
use Rattle.ice_map.specs.Own.{own}
use Rattle.ice_look.specs.Broken.{IsBrokenBy}
use Rattle.ice_look.specs.Calls.{place_on}
use Rattle.ice_look.specs.Ends.{IsEnds, EndsAre}
use Rattle.ice_look.specs.Places.{PlaceInHand, PlaceNamed}
use Rattle.ice_look.proofs.ends.find_both.Goals as goal

pub returns-in_err-place-clause-sound : goal.returns-in_err-place-clause-sound
returns-in_err-place-clause-sound g c = λ mode k t s r.
    let p = err_from_is_err_and c.from_residual.result c.from_residual.ensures.1 in
    rw (p.1, p.2) (c.in_err-place.ensures.sound mode k t s r)

pub returns-in_err-from-clause-sound : goal.returns-in_err-from-clause-sound
returns-in_err-from-clause-sound g c = λ mode k t s r.
    let p = err_from_is_err_and c.from_residual-in_err-from.result c.from_residual-in_err-from.ensures.1 in
    let f = form_of g.F.Form.VERSION in
    let lot = c.args.lot.now in
    let at = c.in_ok-place.ensures in
    let back = sym c.walk.ensures.looked.map in
    rw (p.1, p.2)
    (c.in_err-from.ensures.sound mode k t (c.walk.ensures.looked.shows s) (subst (λ (m : Map). MapRecovers f mode lot m t k) back r)
    (subst (λ (m : Map). PlaceInHand f lot m c.in_ok-place.place c.walk.new.node) back (record { is = at.is s; reached = at.reached s; node_is = at.node_is s }))
    (subst (λ (m : Map). c.in_ok-place.place ≡ place_on g.F.Form.VERSION m (take (c.parting-part.result - c.args.depth) (drop c.args.depth c.args.path.now)) t) back (at.place mode k t s r)))

pub returns-in_err-into-clause-sound : goal.returns-in_err-into-clause-sound
returns-in_err-into-clause-sound g c = λ mode k t s r.
    let p = err_from_is_err_and c.from_residual-in_err-into.result c.from_residual-in_err-into.ensures.1 in
    let f = form_of g.F.Form.VERSION in
    let lot = c.args.lot.now in
    let at = c.in_ok-place.ensures in
    let back = sym (c.ends_from.ensures.looked.map ∙ c.walk.ensures.looked.map) in
    let begun = at.place mode k t s r ∙ ap (λ ns. place_on g.F.Form.VERSION (g.V.View.map c.args.view.now c.args.disk.now lot) ns t) c.parting-part.ensures.same in
    rw (p.1, p.2)
    (c.in_err-into.ensures.sound mode k t (c.ends_from.ensures.looked.shows (c.walk.ensures.looked.shows s)) (subst (λ (m : Map). MapRecovers f mode lot m t k) back r)
    (subst (λ (m : Map). PlaceInHand f lot m c.in_ok-place.place c.walk.new.node) back (record { is = at.is s; reached = at.reached s; node_is = at.node_is s }))
    (subst (λ (m : Map). c.in_ok-place.place ≡ place_on g.F.Form.VERSION m (take (c.parting-part.result - c.args.depth) (drop c.args.depth c.args.to.now)) t) back begun))

pub returns-clause-found : goal.returns-clause-found
returns-clause-found g c = λ mode k t s r.
    let f = form_of g.F.Form.VERSION in
    let lot = c.args.lot.now in
    let at = c.in_ok-place.ensures in
    let one = c.walk.ensures.looked.map in
    let two = c.ends_from.ensures.looked.map ∙ one in
    let hand : PlaceInHand f lot (g.V.View.map c.args.view.now c.args.disk.now lot) c.in_ok-place.place c.walk.new.node = record { is = at.is s; reached = at.reached s; node_is = at.node_is s } in
    let begun = at.place mode k t s r in
    let too = begun ∙ ap (λ ns. place_on g.F.Form.VERSION (g.V.View.map c.args.view.now c.args.disk.now lot) ns t) c.parting-part.ensures.same in (
      subst (λ (m : Map). IsEnds f (own f m) (drop c.args.depth c.args.path.now) t c.in_ok-from.from) one
          (c.in_ok-from.ensures.found mode k t (c.walk.ensures.looked.shows s) (subst (λ (m : Map). MapRecovers f mode lot m t k) (sym one) r)
          (subst (λ (m : Map). PlaceInHand f lot m c.in_ok-place.place c.walk.new.node) (sym one) hand)
          (subst (λ (m : Map). c.in_ok-place.place ≡ place_on g.F.Form.VERSION m (take (c.parting-part.result - c.args.depth) (drop c.args.depth c.args.path.now)) t) (sym one) begun)),
      subst (λ (m : Map). IsEnds f (own f m) (drop c.args.depth c.args.to.now) t c.in_ok-into.into) two
          (c.in_ok-into.ensures.found mode k t (c.ends_from.ensures.looked.shows (c.walk.ensures.looked.shows s)) (subst (λ (m : Map). MapRecovers f mode lot m t k) (sym two) r)
          (subst (λ (m : Map). PlaceInHand f lot m c.in_ok-place.place c.walk.new.node) (sym two) hand)
          (subst (λ (m : Map). c.in_ok-place.place ≡ place_on g.F.Form.VERSION m (take (c.parting-part.result - c.args.depth) (drop c.args.depth c.args.to.now)) t) (sym two) too)),
    )

pub returns-clause-are : goal.returns-clause-are
returns-clause-are g c = λ s.
    let f = form_of g.F.Form.VERSION in
    let lot = c.args.lot.now in
    let at = c.in_ok-place.ensures in
    let one = c.walk.ensures.looked.map in
    let two = c.ends_from.ensures.looked.map ∙ one in
    let hand : PlaceInHand f lot (g.V.View.map c.args.view.now c.args.disk.now lot) c.in_ok-place.place c.walk.new.node = record { is = at.is s; reached = at.reached s; node_is = at.node_is s } in (
      subst (λ (m : Map). EndsAre f lot m c.in_ok-from.from) one
          (c.in_ok-from.ensures.are (c.walk.ensures.looked.shows s) (subst (λ (m : Map). PlaceInHand f lot m c.in_ok-place.place c.walk.new.node) (sym one) hand)),
      subst (λ (m : Map). EndsAre f lot m c.in_ok-into.into) two
          (c.in_ok-into.ensures.are (c.ends_from.ensures.looked.shows (c.walk.ensures.looked.shows s)) (subst (λ (m : Map). PlaceInHand f lot m c.in_ok-place.place c.walk.new.node) (sym two) hand)),
    )

pub returns-clause-named : goal.returns-clause-named
returns-clause-named g c = λ s below.
    let f = form_of g.F.Form.VERSION in
    let lot = c.args.lot.now in
    let at = c.in_ok-place.ensures in
    let one = c.walk.ensures.looked.map in
    subst (λ (m : Map). PlaceNamed f m c.in_ok-from.from.parent (last_name (drop c.args.depth c.args.path.now)) c.in_ok-from.from.end) one
    (c.in_ok-from.ensures.named (c.walk.ensures.looked.shows s)
    (subst (λ (m : Map). PlaceInHand f lot m c.in_ok-place.place c.walk.new.node) (sym one) (record { is = at.is s; reached = at.reached s; node_is = at.node_is s })) below)

pub returns-in_err-place-clause-broken : goal.returns-in_err-place-clause-broken
returns-in_err-place-clause-broken g c = λ s.
    let p = err_from_is_err_and c.from_residual.result c.from_residual.ensures.1 in
    rw (p.1, p.2) (c.in_err-place.ensures.broken s)

pub returns-in_err-from-clause-broken : goal.returns-in_err-from-clause-broken
returns-in_err-from-clause-broken g c = λ s.
    let p = err_from_is_err_and c.from_residual-in_err-from.result c.from_residual-in_err-from.ensures.1 in
    let f = form_of g.F.Form.VERSION in
    let lot = c.args.lot.now in
    let at = c.in_ok-place.ensures in
    let one = c.walk.ensures.looked.map in
    rw (p.1, p.2)
    (subst (λ (m : Map). IsBrokenBy f lot m c.in_err-from.field-0.0) one
    (c.in_err-from.ensures.broken (c.walk.ensures.looked.shows s)
    (subst (λ (m : Map). PlaceInHand f lot m c.in_ok-place.place c.walk.new.node) (sym one) (record { is = at.is s; reached = at.reached s; node_is = at.node_is s }))))

pub returns-in_err-into-clause-broken : goal.returns-in_err-into-clause-broken
returns-in_err-into-clause-broken g c = λ s.
    let p = err_from_is_err_and c.from_residual-in_err-into.result c.from_residual-in_err-into.ensures.1 in
    let f = form_of g.F.Form.VERSION in
    let lot = c.args.lot.now in
    let at = c.in_ok-place.ensures in
    let two = c.ends_from.ensures.looked.map ∙ c.walk.ensures.looked.map in
    rw (p.1, p.2)
    (subst (λ (m : Map). IsBrokenBy f lot m c.in_err-into.field-0.0) two
    (c.in_err-into.ensures.broken (c.ends_from.ensures.looked.shows (c.walk.ensures.looked.shows s))
    (subst (λ (m : Map). PlaceInHand f lot m c.in_ok-place.place c.walk.new.node) (sym two) (record { is = at.is s; reached = at.reached s; node_is = at.node_is s }))))
