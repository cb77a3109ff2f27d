use Rattle.std.proofs.Common.{ℕ, ◌≡◌, [], ◌-◌, take, drop, ap, sym, ◌∙◌, arith, subst, rules}
use Rattle.std.proofs.lemmas.Result.{err_from_is_err_and}
use Rattle.ice_base.specs.declared.fault.OpFault.TheVariants.{Disk as FaultDisk}
use Rattle.tree_spec.specs.Trees.{Tree, Found, child}
use Rattle.tree_spec.specs.Costs.{form_of}
use Rattle.ice_path.proofs.Prefixes.{names-next}
use Rattle.ice_map.specs.Own.{own}
use Rattle.ice_reads.specs.Tables.{Map, rows_in, inode_named}
use Rattle.ice_reads.specs.Reads.{Reads}
use Rattle.ice_look.specs.Broken.{BadEntry, IsBrokenBy}
use Rattle.ice_look.specs.Calls.{place_on}
use Rattle.ice_look.specs.Places.{place_by, PlaceInHand}
use Rattle.ice_look.proofs.SoundLaws.{no-bad-entry}
use Rattle.ice_look.proofs.PlaceLaws.{next-place, next-fault}
use Rattle.ice_look.proofs.place.walk_on.Goals as goal

pub returns-in_err-place-clause-sound : goal.returns-in_err-place-clause-sound
returns-in_err-place-clause-sound g c = λ mode k t s recovers hand begun.
    let p = err_from_is_err_and c.from_residual.result c.from_residual.ensures.1 in
    let e = c.in_err-place.ensures in
    let f = form_of g.F.Form.VERSION in
    let lot = c.args.lot.now in
    let i = c.loop-k.invariant in
    let here = subst (λ (m : Map). PlaceInHand f lot m c.loop-k.place c.loop-k.node) (sym i.looked.map) (i.in_hand s hand) in
    rw (p.1, p.2)
    (next-fault f lot (own f (g.V.View.map c.args.view.now c.args.disk.now lot)) (take (c.loop-k.k - c.args.depth) (drop c.args.depth c.args.path.now)) t c.loop-k.place _
    recovers.holds.reads (i.place mode k t s recovers hand begun)
    (subst (λ (m : Map). (i h : ℕ) (u : Tree) → Reads f lot (own f m) i h u → c.loop-k.place ≡ place_by i (Found u) → c.in_err-place.field-0.0 ≡ FaultDisk) i.looked.map
    (λ j h u r is. e.sound j h u (i.looked.shows s) here.node_is r is here.reached
    (λ b. no-bad-entry f (ap form_of g.F.Form.is_one.0) f (ap form_of g.F.Form.is_one.0) mode lot (g.V.View.map c.args.view.now c.args.disk.now lot) t k recovers (subst (BadEntry f lot) i.looked.map b))))
    e.missing e.blocked)

pub returns-in_err-place-clause-broken : goal.returns-in_err-place-clause-broken
returns-in_err-place-clause-broken g c = λ s hand.
    let p = err_from_is_err_and c.from_residual.result c.from_residual.ensures.1 in
    let f = form_of g.F.Form.VERSION in
    let lot = c.args.lot.now in
    let i = c.loop-k.invariant in
    let here = subst (λ (m : Map). PlaceInHand f lot m c.loop-k.place c.loop-k.node) (sym i.looked.map) (i.in_hand s hand) in
    rw (p.1, p.2)
    (subst (λ (m : Map). IsBrokenBy f lot m c.in_err-place.field-0.0) i.looked.map
    (c.in_err-place.ensures.broken (i.looked.shows s) here.node_is here.is here.reached))

pub loop-k-init : goal.loop-k-init
loop-k-init g c = record {
  looked = search rules;
  fits = c.requires.fits;
  node = c.requires.in_hand;
  in_hand = λ s hand. hand;
  from = omega arith;
  place = λ mode done t s recovers hand begun. begun;
}

pub loop-k-preserved : goal.loop-k-preserved
loop-k-preserved g c =
    let i = c.loop-k.invariant in
    let e = c.in_ok-place.ensures in
    let f = form_of g.F.Form.VERSION in
    let lot = c.args.lot.now in
    record {
      looked = search rules;
      fits = e.fits;
      node = e.node;
      in_hand = λ s hand.
          let here = subst (λ (m : Map). PlaceInHand f lot m c.loop-k.place c.loop-k.node) (sym i.looked.map) (i.in_hand s hand) in
          subst (λ (m : Map). PlaceInHand f lot m c.in_ok-place.place c.step.new.node) i.looked.map
          (record {
            is = e.is (i.looked.shows s);
            reached = e.reached (i.looked.shows s) here.node_is here.reached;
            node_is = e.node_is (i.looked.shows s);
          });
      from = omega (arith, i.from);
      place = λ mode done t s recovers hand begun.
          let here = subst (λ (m : Map). PlaceInHand f lot m c.loop-k.place c.loop-k.node) (sym i.looked.map) (i.in_hand s hand) in
          next-place f lot (own f (g.V.View.map c.args.view.now c.args.disk.now lot)) (take (c.loop-k.k - c.args.depth) (drop c.args.depth c.args.path.now)) c.name-name.result t c.loop-k.place c.in_ok-place.place
          recovers.holds.reads (i.place mode done t s recovers hand begun)
          (subst (λ (m : Map). (i h : ℕ) (u : Tree) → Reads f lot (own f m) i h u → c.loop-k.place ≡ place_by i (Found u) → c.in_ok-place.place ≡ place_by (inode_named c.name-name.result (rows_in f (own f m i))) (child c.name-name.result u)) i.looked.map
          (λ j h u r is. e.place j h u (i.looked.shows s) here.node_is r is here.reached
          (λ b. no-bad-entry f (ap form_of g.F.Form.is_one.0) f (ap form_of g.F.Form.is_one.0) mode lot (g.V.View.map c.args.view.now c.args.disk.now lot) t done recovers (subst (BadEntry f lot) i.looked.map b))))
          e.missing e.blocked
          ∙ ap (λ n. place_on g.F.Form.VERSION (g.V.View.map c.args.view.now c.args.disk.now lot) n t) (sym (names-next c.args.path.now c.args.depth c.loop-k.k c.name-name.result i.from (omega arith) (c.name-name.ensures [])));
    }

pub returns-clause-place : goal.returns-clause-place
returns-clause-place g c = λ mode k t s recovers hand begun.
    let end : c.loop-k.k ≡ c.args.end = omega arith in
    c.loop-k.invariant.place mode k t s recovers hand begun
    ∙ ap (λ n. place_on g.F.Form.VERSION (g.V.View.map c.args.view.now c.args.disk.now c.args.lot.now) (take (n - c.args.depth) (drop c.args.depth c.args.path.now)) t) end
