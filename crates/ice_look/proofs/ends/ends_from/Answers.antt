use Rattle.std.proofs.Common.{ap, ℕ, ◌≡◌, List, [], ◌-◌, take, drop, sym, ◌∙◌, arith, subst}
use Rattle.std.proofs.lemmas.Result.{err_from_is_err_and}
use Rattle.ice_base.specs.declared.fault.OpFault.TheVariants.{Disk as FaultDisk}
use Rattle.tree_spec.specs.Trees.{Tree, Found, child}
use Rattle.tree_spec.specs.Costs.{form_of}
use Rattle.ice_reads.specs.Tables.{Map, rows_in, inode_named}
use Rattle.ice_map.specs.Own.{own}
use Rattle.ice_reads.specs.Reads.{Reads}
use Rattle.ice_look.specs.Broken.{BadEntry, IsBrokenBy}
use Rattle.ice_look.proofs.SoundLaws.{no-bad-entry}
use Rattle.ice_look.specs.Places.{place_by, PlaceInHand, PlaceNamed}
use Rattle.ice_look.proofs.EndLaws.{names-last, ends-root, ends-more, last-is}
use Rattle.ice_look.proofs.PlaceLaws.{next-place, next-fault}
use Rattle.ice_look.proofs.ends.ends_from.Goals as goal

pub returns-then-len-depth-clause-found : goal.returns-then-len-depth-clause-found
returns-then-len-depth-clause-found g c = λ mode k t s r hand begun.
    let f = form_of g.F.Form.VERSION in
    ends-root f (own f (g.V.View.map c.args.view.now c.args.disk.now c.args.lot.now)) t c.args.path.now c.args.depth (c.args.from - c.args.depth) c.args.place c.args.at.now (sym c.len.ensures ∙ c.if-len-depth.true) begun

pub returns-then-len-depth-clause-are : goal.returns-then-len-depth-clause-are
returns-then-len-depth-clause-are g c = λ s hand. record { parent = hand; end = hand }

pub returns-in_err-parent-clause-sound : goal.returns-in_err-parent-clause-sound
returns-in_err-parent-clause-sound g c = λ mode k t s r hand begun.
    let p = err_from_is_err_and c.from_residual.result c.from_residual.ensures.1 in
    rw (p.1, p.2) (c.in_err-parent.ensures.sound mode k t s r hand begun)

pub returns-in_err-end-clause-sound : goal.returns-in_err-end-clause-sound
returns-in_err-end-clause-sound g c = λ mode k t s r hand begun.
    let p = err_from_is_err_and c.from_residual-in_err-end.result c.from_residual-in_err-end.ensures.1 in
    let f = form_of g.F.Form.VERSION in
    let lot = c.args.lot.now in
    let e = c.in_err-end.ensures in
    let looked = c.walk_on.ensures.looked in
    let above = subst (λ (m : Map). PlaceInHand f lot m c.in_ok-parent.parent c.walk_on.new.node) (sym looked.map) (c.in_ok-parent.ensures.in_hand s hand) in
    rw (p.1, p.2)
    (next-fault f lot (own f (g.V.View.map c.args.view.now c.args.disk.now lot)) (take (c.len-last.result - 1 - c.args.depth) (drop c.args.depth c.args.path.now)) t c.in_ok-parent.parent _
    r.holds.reads (c.in_ok-parent.ensures.place mode k t s r hand begun)
    (subst (λ (m : Map). (i h : ℕ) (u : Tree) → Reads f lot (own f m) i h u → c.in_ok-parent.parent ≡ place_by i (Found u) → c.in_err-end.field-0.0 ≡ FaultDisk) looked.map
    (λ i h u q is. e.sound i h u (looked.shows s) above.node_is q is above.reached
    (λ b. no-bad-entry f (ap form_of g.F.Form.is_one.0) f (ap form_of g.F.Form.is_one.0) mode lot (g.V.View.map c.args.view.now c.args.disk.now lot) t k r (subst (BadEntry f lot) looked.map b))))
    e.missing e.blocked)

pub returns-clause-found : goal.returns-clause-found
returns-clause-found g c = λ mode k t s r hand begun.
    let f = form_of g.F.Form.VERSION in
    let lot = c.args.lot.now in
    let e = c.in_ok-end.ensures in
    let looked = c.walk_on.ensures.looked in
    let o = own f (g.V.View.map c.args.view.now c.args.disk.now lot) in
    let last = c.len-last.result - 1 in
    let names = take (last - c.args.depth) (drop c.args.depth c.args.path.now) in
    let at = c.in_ok-parent.ensures.place mode k t s r hand begun in
    let above = subst (λ (m : Map). PlaceInHand f lot m c.in_ok-parent.parent c.walk_on.new.node) (sym looked.map) (c.in_ok-parent.ensures.in_hand s hand) in
    ends-more f o t names (drop c.args.depth c.args.path.now) c.name-name.result c.in_ok-parent.parent c.in_ok-end.end c.walk_on.new.node c.step.new.node
    (names-last c.args.path.now c.args.depth last c.name-name.result (omega arith) (omega arith) (c.name-name.ensures []))
    at
    (next-place f lot o names c.name-name.result t c.in_ok-parent.parent c.in_ok-end.end r.holds.reads at
    (subst (λ (m : Map). (i h : ℕ) (u : Tree) → Reads f lot (own f m) i h u → c.in_ok-parent.parent ≡ place_by i (Found u) → c.in_ok-end.end ≡ place_by (inode_named c.name-name.result (rows_in f (own f m i))) (child c.name-name.result u)) looked.map
    (λ i h u q is. e.place i h u (looked.shows s) above.node_is q is above.reached
    (λ b. no-bad-entry f (ap form_of g.F.Form.is_one.0) f (ap form_of g.F.Form.is_one.0) mode lot (g.V.View.map c.args.view.now c.args.disk.now lot) t k r (subst (BadEntry f lot) looked.map b))))
    e.missing e.blocked)

pub returns-in_err-parent-clause-broken : goal.returns-in_err-parent-clause-broken
returns-in_err-parent-clause-broken g c = λ s hand.
    let p = err_from_is_err_and c.from_residual.result c.from_residual.ensures.1 in
    rw (p.1, p.2) (c.in_err-parent.ensures.broken s hand)

pub returns-in_err-end-clause-broken : goal.returns-in_err-end-clause-broken
returns-in_err-end-clause-broken g c = λ s hand.
    let p = err_from_is_err_and c.from_residual-in_err-end.result c.from_residual-in_err-end.ensures.1 in
    let f = form_of g.F.Form.VERSION in
    let looked = c.walk_on.ensures.looked in
    let above = subst (λ (m : Map). PlaceInHand f c.args.lot.now m c.in_ok-parent.parent c.walk_on.new.node) (sym looked.map) (c.in_ok-parent.ensures.in_hand s hand) in
    rw (p.1, p.2)
    (subst (λ (m : Map). IsBrokenBy f c.args.lot.now m c.in_err-end.field-0.0) looked.map
    (c.in_err-end.ensures.broken (looked.shows s) above.node_is above.is above.reached))

pub returns-clause-are : goal.returns-clause-are
returns-clause-are g c = λ s hand.
    let f = form_of g.F.Form.VERSION in
    let e = c.in_ok-end.ensures in
    let looked = c.walk_on.ensures.looked in
    let above = c.in_ok-parent.ensures.in_hand s hand in
    let later = subst (λ (m : Map). PlaceInHand f c.args.lot.now m c.in_ok-parent.parent c.walk_on.new.node) (sym looked.map) above in
    record {
      parent = above;
      end = subst (λ (m : Map). PlaceInHand f c.args.lot.now m c.in_ok-end.end c.step.new.node) looked.map
          (record {
            is = e.is (looked.shows s);
            reached = e.reached (looked.shows s) later.node_is later.reached;
            node_is = e.node_is (looked.shows s);
          });
    }

pub returns-clause-named : goal.returns-clause-named
returns-clause-named g c = λ s hand below.
    let f = form_of g.F.Form.VERSION in
    let looked = c.walk_on.ensures.looked in
    let above = subst (λ (m : Map). PlaceInHand f c.args.lot.now m c.in_ok-parent.parent c.walk_on.new.node) (sym looked.map) (c.in_ok-parent.ensures.in_hand s hand) in
    subst (λ (name : List ℕ). PlaceNamed f (g.V.View.map c.args.view.now c.args.disk.now c.args.lot.now) c.in_ok-parent.parent name c.in_ok-end.end)
    (last-is c.args.path.now c.args.depth (c.len-last.result - 1) c.name-name.result (omega arith) (omega arith) (c.name-name.ensures []))
    (subst (λ (m : Map). PlaceNamed f m c.in_ok-parent.parent c.name-name.result c.in_ok-end.end) looked.map (c.in_ok-end.ensures.named (looked.shows s) above.node_is))
