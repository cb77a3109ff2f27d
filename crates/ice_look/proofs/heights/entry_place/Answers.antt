use Rattle.std.proofs.Common.{inr, false, ◌/◌, IfSome, Some, IfOk, IfErr, Err, ℕ, List, ◌+◌, ◌≡◌, ap, sym, subst}
use Rattle.std.specs.Prelude.{slice_get}
use Rattle.std.proofs.lemmas.Result.{err_from_is_err_and, IfOk-weaker}
use Rattle.tree_spec.specs.Costs.{form_of}
use Rattle.tree_spec.specs.Trees.{Found}
use Rattle.ice_map.specs.Own.{own}
use Rattle.ice_map.specs.declared.codec.Inode.{Inode}
use Rattle.ice_map.specs.Maps.{leads}
use Rattle.ice_dir.specs.Rows.{HasEntry, per_block, rows_at}
use Rattle.tree_spec.specs.Names.{is_name}
use Rattle.ice_reads.specs.Reads.{Reads}
use Rattle.ice_look.specs.Heights.{IsChild}
use Rattle.ice_look.specs.Broken.{BadEntry, IsBrokenBy}
use Rattle.ice_look.specs.Places.{place_by, Reached, PlaceIs, PlaceReached}
use Rattle.ice_look.proofs.BrokenLaws.{entry-broken, row-broken, row-reached, entry-is}
use Rattle.ice_look.proofs.HeightLaws.{entry-fails, entry-child, entry-row}
use Rattle.ice_look.proofs.heights.entry_place.Goals as goal

pub returns-in_err-next-clause-sound : goal.returns-in_err-next-clause-sound
returns-in_err-next-clause-sound g c = λ number h es s hand r below.
    let p = err_from_is_err_and c.from_residual.result c.from_residual.ensures.1 in
    let e = c.in_err-next.ensures in
    rw (p.1, p.2)
    (entry-fails (form_of g.F.Form.VERSION) (ap form_of g.F.Form.is_one.0) c.args.lot.now (g.V.View.map c.args.view.now c.args.disk.now c.args.lot.now) number h es r (form_of g.F.Form.VERSION) (ap form_of g.F.Form.is_one.0) c.args.k below
    _ e.faults (λ q. subst (λ (i : Inode). HasEntry c.args.lot.now c.args.k i → ⊥) hand (e.kind (ap (λ y. Err y) q))) (λ q. subst (λ (i : Inode). leads c.args.lot.now (g.V.View.map c.args.view.now c.args.disk.now c.args.lot.now) i (c.args.k / per_block (form_of g.F.Form.VERSION)) ≡ false) hand (e.pointer (ap (λ y. Err y) q) s)) (λ q. subst (λ (i : Inode). IfSome (slice_get (rows_at (form_of g.F.Form.VERSION) (g.V.View.map c.args.view.now c.args.disk.now c.args.lot.now) i) c.args.k) (λ row. is_name row.0 ≡ false)) hand (e.name (ap (λ y. Err y) q) s)))

pub returns-clause-place : goal.returns-clause-place
returns-clause-place g c = λ number h es s hand r below.
    let f = form_of g.F.Form.VERSION in
    let looked = c.entry_in.ensures.looked in
    let row = subst (λ (i : Inode). slice_get (rows_at (form_of g.F.Form.VERSION) (g.V.View.map c.args.view.now c.args.disk.now c.args.lot.now) i) c.args.k ≡ Some (c.entry_in.new.into, c.in_ok-next.next)) hand (c.in_ok-next.ensures.row s) in
    let x = entry-child f (ap form_of g.F.Form.is_one.0) c.args.lot.now (g.V.View.map c.args.view.now c.args.disk.now c.args.lot.now) number h es r (form_of g.F.Form.VERSION) (ap form_of g.F.Form.is_one.0) c.args.k below c.entry_in.new.into c.in_ok-next.next row in
    let is = entry-row f (ap form_of g.F.Form.is_one.0) c.args.lot.now (g.V.View.map c.args.view.now c.args.disk.now c.args.lot.now) number h es r (form_of g.F.Form.VERSION) (ap form_of g.F.Form.is_one.0) c.args.k below c.entry_in.new.into c.in_ok-next.next row in
    IfOk-weaker c.enter.result (λ p. p ≡ place_by c.in_ok-next.next (Found x.there)) (IsChild f c.args.lot.now (own f (g.V.View.map c.args.view.now c.args.disk.now c.args.lot.now)) number h c.args.k es)
    (λ p at. record { name = c.entry_in.new.into; inode = c.in_ok-next.next; tree = x.there; row = is; entry = x.entry; reads = x.reads; at = at })
    (c.enter.ensures.place (h + 1) x.there (looked.shows s) (subst (λ m. Reads f c.args.lot.now (own f m) c.in_ok-next.next (h + 1) x.there) (sym looked.map) x.reads))

pub returns-clause-sound : goal.returns-clause-sound
returns-clause-sound g c = λ number h es s hand r below.
    let f = form_of g.F.Form.VERSION in
    let looked = c.entry_in.ensures.looked in
    let x = entry-child f (ap form_of g.F.Form.is_one.0) c.args.lot.now (g.V.View.map c.args.view.now c.args.disk.now c.args.lot.now) number h es r (form_of g.F.Form.VERSION) (ap form_of g.F.Form.is_one.0) c.args.k below c.entry_in.new.into c.in_ok-next.next (subst (λ (i : Inode). slice_get (rows_at (form_of g.F.Form.VERSION) (g.V.View.map c.args.view.now c.args.disk.now c.args.lot.now) i) c.args.k ≡ Some (c.entry_in.new.into, c.in_ok-next.next)) hand (c.in_ok-next.ensures.row s)) in
    c.enter.ensures.sound (h + 1) x.there (looked.shows s) (subst (λ m. Reads f c.args.lot.now (own f m) c.in_ok-next.next (h + 1) x.there) (sym looked.map) x.reads)

pub returns-in_err-next-clause-broken : goal.returns-in_err-next-clause-broken
returns-in_err-next-clause-broken g c = λ number s hand reached has0.
    let has = subst (HasEntry c.args.lot.now c.args.k) hand has0 in
    let p = err_from_is_err_and c.from_residual.result c.from_residual.ensures.1 in
    let e = c.in_err-next.ensures in
    rw (p.1, p.2)
    (entry-broken (form_of g.F.Form.VERSION) (ap form_of g.F.Form.is_one.0) c.args.lot.now (g.V.View.map c.args.view.now c.args.disk.now c.args.lot.now) number reached c.args.k has _ e.faults
    (λ q. subst (λ (i : Inode). HasEntry c.args.lot.now c.args.k i → ⊥) hand (e.kind (ap (λ y. Err y) q))) (λ q. subst (λ (i : Inode). leads c.args.lot.now (g.V.View.map c.args.view.now c.args.disk.now c.args.lot.now) i (c.args.k / per_block (form_of g.F.Form.VERSION)) ≡ false) hand (e.pointer (ap (λ y. Err y) q) s)) (λ q. subst (λ (i : Inode). IfSome (slice_get (rows_at (form_of g.F.Form.VERSION) (g.V.View.map c.args.view.now c.args.disk.now c.args.lot.now) i) c.args.k) (λ row. is_name row.0 ≡ false)) hand (e.name (ap (λ y. Err y) q) s)))

pub returns-clause-broken : goal.returns-clause-broken
returns-clause-broken g c = λ number s hand reached has0.
    let has = subst (HasEntry c.args.lot.now c.args.k) hand has0 in
    let m : ℕ → List ℕ = g.V.View.map c.args.view.now c.args.disk.now c.args.lot.now in
    let looked = c.entry_in.ensures.looked in
    let row = subst (λ (i : Inode). slice_get (rows_at (form_of g.F.Form.VERSION) (g.V.View.map c.args.view.now c.args.disk.now c.args.lot.now) i) c.args.k ≡ Some (c.entry_in.new.into, c.in_ok-next.next)) hand (c.in_ok-next.ensures.row s) in
    subst (λ (n : ℕ → List ℕ). IfErr c.enter.result (IsBrokenBy (form_of g.F.Form.VERSION) c.args.lot.now n)) looked.map
    (c.enter.ensures.broken (looked.shows s)
    (subst (λ (n : ℕ → List ℕ). Reached (form_of g.F.Form.VERSION) c.args.lot.now n c.in_ok-next.next) (sym looked.map) (row-reached (form_of g.F.Form.VERSION) c.args.lot.now m number c.args.k c.entry_in.new.into c.in_ok-next.next reached has.is row))
    (λ low.
    subst (λ (n : ℕ → List ℕ). BadEntry (form_of g.F.Form.VERSION) c.args.lot.now n) (sym looked.map)
    (row-broken (form_of g.F.Form.VERSION) (ap form_of g.F.Form.is_one.0) c.args.lot.now m number reached has.is c.args.k c.entry_in.new.into c.in_ok-next.next row (inr low))))

pub returns-clause-child : goal.returns-clause-child
returns-clause-child g c = λ number s hand reached has0.
    let has = subst (HasEntry c.args.lot.now c.args.k) hand has0 in
    let m : ℕ → List ℕ = g.V.View.map c.args.view.now c.args.disk.now c.args.lot.now in
    let looked = c.entry_in.ensures.looked in
    let row = subst (λ (i : Inode). slice_get (rows_at (form_of g.F.Form.VERSION) (g.V.View.map c.args.view.now c.args.disk.now c.args.lot.now) i) c.args.k ≡ Some (c.entry_in.new.into, c.in_ok-next.next)) hand (c.in_ok-next.ensures.row s) in
    let there = subst (λ (n : ℕ → List ℕ). Reached (form_of g.F.Form.VERSION) c.args.lot.now n c.in_ok-next.next) (sym looked.map) (row-reached (form_of g.F.Form.VERSION) c.args.lot.now m number c.args.k c.entry_in.new.into c.in_ok-next.next reached has.is row) in
    entry-is (form_of g.F.Form.VERSION) c.args.lot.now m number c.args.k c.entry_in.new.into c.in_ok-next.next row c.enter.result c.enter.ensures.at
    (subst (λ (n : ℕ → List ℕ). IfOk c.enter.result (PlaceIs n)) looked.map (c.enter.ensures.is (looked.shows s)))
    (subst (λ (n : ℕ → List ℕ). IfOk c.enter.result (PlaceReached (form_of g.F.Form.VERSION) c.args.lot.now n)) looked.map (c.enter.ensures.reached (looked.shows s) there))
