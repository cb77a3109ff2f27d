use Rattle.std.proofs.Common.{IfOk, IfErr, Err, Some, ℕ, List, ◌+◌, ◌≡◌, ap, sym, ◌∙◌, subst, arith, inl, inr}
use Rattle.std.proofs.lemmas.Result.{err_from_is_err_and, IfOk-weaker}
use Rattle.tree_spec.specs.Costs.{form_of}
use Rattle.ice_map.specs.Own.{own}
use Rattle.ice_reads.specs.Reads.{Reads}
use Rattle.ice_look.specs.Broken.{BadEntry, IsBrokenBy}
use Rattle.ice_dir.specs.Rows.{look_up, dir_rows_of}
use Rattle.ice_look.specs.declared.place.Place.TheVariants.{Dir}
use Rattle.ice_look.specs.Places.{Reached, PlaceOf, PlaceFits, PlaceIs, PlaceReached, PlaceNamed}
use Rattle.ice_look.proofs.BrokenLaws.{named-broken, named-reached, find-broken, place-named}
use Rattle.ice_look.proofs.PlaceLaws.{step-none, step-some, step-fails}
use Rattle.ice_look.proofs.NodeLaws.{find-fault, not-kind, node-directory, place-directory, node-found, node-pointer}
use Rattle.ice_look.proofs.place.step.Goals as goal

pub find_in-requires-clause-is : goal.find_in-requires-clause-is
find_in-requires-clause-is g c = node-directory c.args.lot.now c.args.from c.in-Dir.number c.in-Dir.size c.args.node.now c.in-Dir.is c.requires.in_hand

pub returns-in_err-find_in-in-Dir-clause-sound : goal.returns-in_err-find_in-in-Dir-clause-sound
returns-in_err-find_in-in-Dir-clause-sound g c = λ i h t s hand r is there sound.
    let p = err_from_is_err_and c.from_residual.result c.from_residual.ensures.1 in
    let e = c.in_err-find_in-in-Dir.ensures in
    rw (p.1, p.2)
    (step-fails (form_of g.F.Form.VERSION) (ap form_of g.F.Form.is_one.0) c.args.lot.now (g.V.View.map c.args.view.now c.args.disk.now c.args.lot.now) i h t r
    _ _ (form_of g.F.Form.VERSION) (sym c.in-Dir.is ∙ is) (ap form_of g.F.Form.is_one.0) _ (find-fault _ e.faults) (λ k d. not-kind _ e.faults k) (λ k. node-pointer c.args.lot.now c.args.from c.in-Dir.number c.in-Dir.size c.args.node.now c.in-Dir.is (form_of g.F.Form.VERSION) (g.V.View.map c.args.view.now c.args.disk.now c.args.lot.now) hand (e.pointer (ap (λ y. Err y) k) s)))

pub returns-in-None-clause-place : goal.returns-in-None-clause-place
returns-in-None-clause-place g c = λ i h t s hand r is there sound.
    step-none (form_of g.F.Form.VERSION) (ap form_of g.F.Form.is_one.0) c.args.lot.now (g.V.View.map c.args.view.now c.args.disk.now c.args.lot.now) i h t r
    _ _ (form_of g.F.Form.VERSION) c.args.name.now (sym c.in-Dir.is ∙ is) (ap form_of g.F.Form.is_one.0) (sym (node-found c.args.lot.now c.args.from c.in-Dir.number c.in-Dir.size c.args.node.now c.in-Dir.is (form_of g.F.Form.VERSION) (g.V.View.map c.args.view.now c.args.disk.now c.args.lot.now) c.args.name.now _ hand (c.in_ok-find_in-in-Dir.ensures.found s)) ∙ c.in-None.is)

pub returns-in-Some-clause-place : goal.returns-in-Some-clause-place
returns-in-Some-clause-place g c = λ i h t s hand r is there sound.
    let f = form_of g.F.Form.VERSION in
    let x = step-some f (ap form_of g.F.Form.is_one.0) c.args.lot.now (g.V.View.map c.args.view.now c.args.disk.now c.args.lot.now) i h t r
    _ _ (form_of g.F.Form.VERSION) _ c.args.name.now (sym c.in-Dir.is ∙ is) (ap form_of g.F.Form.is_one.0) (sym (node-found c.args.lot.now c.args.from c.in-Dir.number c.in-Dir.size c.args.node.now c.in-Dir.is (form_of g.F.Form.VERSION) (g.V.View.map c.args.view.now c.args.disk.now c.args.lot.now) c.args.name.now _ hand (c.in_ok-find_in-in-Dir.ensures.found s)) ∙ c.in-Some.is) in
    let looked = c.find_in.ensures.looked in
    subst (λ y. IfOk c.enter_named.result (λ p. p ≡ y)) x.place
    (c.enter_named.ensures.place (h + 1) x.there (looked.shows s) (λ z. sound (named-broken (form_of g.F.Form.VERSION) (ap form_of g.F.Form.is_one.0) c.args.lot.now (g.V.View.map c.args.view.now c.args.disk.now c.args.lot.now) c.in-Dir.number (subst (PlaceReached (form_of g.F.Form.VERSION) c.args.lot.now (g.V.View.map c.args.view.now c.args.disk.now c.args.lot.now)) c.in-Dir.is there)
    (place-directory c.args.lot.now c.args.from c.in-Dir.number c.in-Dir.size c.args.node.now c.in-Dir.is (g.V.View.map c.args.view.now c.args.disk.now c.args.lot.now) c.requires.in_hand hand) c.args.name.now _ (sym (node-found c.args.lot.now c.args.from c.in-Dir.number c.in-Dir.size c.args.node.now c.in-Dir.is (form_of g.F.Form.VERSION) (g.V.View.map c.args.view.now c.args.disk.now c.args.lot.now) c.args.name.now _ hand (c.in_ok-find_in-in-Dir.ensures.found s)) ∙ c.in-Some.is) (inl z))) (subst (λ m. Reads f c.args.lot.now (own f m) c.in-Some.next (h + 1) x.there) (sym looked.map) x.reads))

pub returns-in-Some-clause-sound : goal.returns-in-Some-clause-sound
returns-in-Some-clause-sound g c = λ i h t s hand r is there sound.
    let f = form_of g.F.Form.VERSION in
    let x = step-some f (ap form_of g.F.Form.is_one.0) c.args.lot.now (g.V.View.map c.args.view.now c.args.disk.now c.args.lot.now) i h t r
    _ _ (form_of g.F.Form.VERSION) _ c.args.name.now (sym c.in-Dir.is ∙ is) (ap form_of g.F.Form.is_one.0) (sym (node-found c.args.lot.now c.args.from c.in-Dir.number c.in-Dir.size c.args.node.now c.in-Dir.is (form_of g.F.Form.VERSION) (g.V.View.map c.args.view.now c.args.disk.now c.args.lot.now) c.args.name.now _ hand (c.in_ok-find_in-in-Dir.ensures.found s)) ∙ c.in-Some.is) in
    let looked = c.find_in.ensures.looked in
    c.enter_named.ensures.sound (h + 1) x.there (looked.shows s) (λ z. sound (named-broken (form_of g.F.Form.VERSION) (ap form_of g.F.Form.is_one.0) c.args.lot.now (g.V.View.map c.args.view.now c.args.disk.now c.args.lot.now) c.in-Dir.number (subst (PlaceReached (form_of g.F.Form.VERSION) c.args.lot.now (g.V.View.map c.args.view.now c.args.disk.now c.args.lot.now)) c.in-Dir.is there)
    (place-directory c.args.lot.now c.args.from c.in-Dir.number c.in-Dir.size c.args.node.now c.in-Dir.is (g.V.View.map c.args.view.now c.args.disk.now c.args.lot.now) c.requires.in_hand hand) c.args.name.now _ (sym (node-found c.args.lot.now c.args.from c.in-Dir.number c.in-Dir.size c.args.node.now c.in-Dir.is (form_of g.F.Form.VERSION) (g.V.View.map c.args.view.now c.args.disk.now c.args.lot.now) c.args.name.now _ hand (c.in_ok-find_in-in-Dir.ensures.found s)) ∙ c.in-Some.is) (inl z))) (subst (λ m. Reads f c.args.lot.now (own f m) c.in-Some.next (h + 1) x.there) (sym looked.map) x.reads)

pub returns-in_err-find_in-in-Dir-clause-broken : goal.returns-in_err-find_in-in-Dir-clause-broken
returns-in_err-find_in-in-Dir-clause-broken g c = λ s hand is reached.
    let p = err_from_is_err_and c.from_residual.result c.from_residual.ensures.1 in
    let e = c.in_err-find_in-in-Dir.ensures in
    let m : ℕ → List ℕ = g.V.View.map c.args.view.now c.args.disk.now c.args.lot.now in
    let fits = subst (PlaceFits c.args.lot.now) c.in-Dir.is c.requires.fits in
    let here = subst (PlaceIs m) c.in-Dir.is is in
    let by = subst (PlaceReached (form_of g.F.Form.VERSION) c.args.lot.now m) c.in-Dir.is reached in
    rw (p.1, p.2)
    (find-broken (form_of g.F.Form.VERSION) (ap form_of g.F.Form.is_one.0) c.args.lot.now m c.in-Dir.number by _ (find-fault _ e.faults) (λ k d. not-kind _ e.faults k)
    (inr (record { kind = here.0; few = omega (arith, here.1, fits.1) })) here.0 (λ k. node-pointer c.args.lot.now c.args.from c.in-Dir.number c.in-Dir.size c.args.node.now c.in-Dir.is (form_of g.F.Form.VERSION) m hand (e.pointer (ap (λ y. Err y) k) s)))

pub returns-in-Some-clause-reached : goal.returns-in-Some-clause-reached
returns-in-Some-clause-reached g c = λ s hand reached.
    let m : ℕ → List ℕ = g.V.View.map c.args.view.now c.args.disk.now c.args.lot.now in
    let looked = c.find_in.ensures.looked in
    let by = subst (PlaceReached (form_of g.F.Form.VERSION) c.args.lot.now m) c.in-Dir.is reached in
    let next = named-reached (form_of g.F.Form.VERSION) c.args.lot.now m c.in-Dir.number c.args.name.now c.in-Some.next by (place-directory c.args.lot.now c.args.from c.in-Dir.number c.in-Dir.size c.args.node.now c.in-Dir.is (g.V.View.map c.args.view.now c.args.disk.now c.args.lot.now) c.requires.in_hand hand) (sym (node-found c.args.lot.now c.args.from c.in-Dir.number c.in-Dir.size c.args.node.now c.in-Dir.is (form_of g.F.Form.VERSION) (g.V.View.map c.args.view.now c.args.disk.now c.args.lot.now) c.args.name.now _ hand (c.in_ok-find_in-in-Dir.ensures.found s)) ∙ c.in-Some.is) in
    subst (λ (n : ℕ → List ℕ). IfOk c.enter_named.result (PlaceReached (form_of g.F.Form.VERSION) c.args.lot.now n)) looked.map
    (c.enter_named.ensures.reached (looked.shows s) (subst (λ (n : ℕ → List ℕ). Reached (form_of g.F.Form.VERSION) c.args.lot.now n c.in-Some.next) (sym looked.map) next))

pub returns-in-Some-clause-named : goal.returns-in-Some-clause-named
returns-in-Some-clause-named g c = λ s hand.
    let m : ℕ → List ℕ = g.V.View.map c.args.view.now c.args.disk.now c.args.lot.now in
    let there : look_up c.args.name.now (dir_rows_of (form_of g.F.Form.VERSION) m c.in-Dir.number) ≡ Some c.in-Some.next = sym (node-found c.args.lot.now c.args.from c.in-Dir.number c.in-Dir.size c.args.node.now c.in-Dir.is (form_of g.F.Form.VERSION) (g.V.View.map c.args.view.now c.args.disk.now c.args.lot.now) c.args.name.now _ hand (c.in_ok-find_in-in-Dir.ensures.found s)) ∙ c.in-Some.is in
    subst (λ p. IfOk c.enter_named.result (PlaceNamed (form_of g.F.Form.VERSION) m p c.args.name.now)) (sym c.in-Dir.is)
    (IfOk-weaker c.enter_named.result (PlaceOf c.in-Some.next) (PlaceNamed (form_of g.F.Form.VERSION) m (Dir c.in-Dir.number c.in-Dir.size) c.args.name.now) (λ p at. place-named (form_of g.F.Form.VERSION) m c.in-Dir.number c.in-Dir.size c.args.name.now c.in-Some.next there p at) c.enter_named.ensures.at)

pub returns-in-Some-clause-broken : goal.returns-in-Some-clause-broken
returns-in-Some-clause-broken g c = λ s hand is reached.
    let m : ℕ → List ℕ = g.V.View.map c.args.view.now c.args.disk.now c.args.lot.now in
    let looked = c.find_in.ensures.looked in
    let by = subst (PlaceReached (form_of g.F.Form.VERSION) c.args.lot.now m) c.in-Dir.is reached in
    let there = sym (node-found c.args.lot.now c.args.from c.in-Dir.number c.in-Dir.size c.args.node.now c.in-Dir.is (form_of g.F.Form.VERSION) (g.V.View.map c.args.view.now c.args.disk.now c.args.lot.now) c.args.name.now _ hand (c.in_ok-find_in-in-Dir.ensures.found s)) ∙ c.in-Some.is in
    let next = named-reached (form_of g.F.Form.VERSION) c.args.lot.now m c.in-Dir.number c.args.name.now c.in-Some.next by (place-directory c.args.lot.now c.args.from c.in-Dir.number c.in-Dir.size c.args.node.now c.in-Dir.is (g.V.View.map c.args.view.now c.args.disk.now c.args.lot.now) c.requires.in_hand hand) there in
    subst (λ (n : ℕ → List ℕ). IfErr c.enter_named.result (IsBrokenBy (form_of g.F.Form.VERSION) c.args.lot.now n)) looked.map
    (c.enter_named.ensures.broken (looked.shows s) (subst (λ (n : ℕ → List ℕ). Reached (form_of g.F.Form.VERSION) c.args.lot.now n c.in-Some.next) (sym looked.map) next) (λ past.
    subst (λ (n : ℕ → List ℕ). BadEntry (form_of g.F.Form.VERSION) c.args.lot.now n) (sym looked.map)
    (named-broken (form_of g.F.Form.VERSION) (ap form_of g.F.Form.is_one.0) c.args.lot.now m c.in-Dir.number by (place-directory c.args.lot.now c.args.from c.in-Dir.number c.in-Dir.size c.args.node.now c.in-Dir.is (g.V.View.map c.args.view.now c.args.disk.now c.args.lot.now) c.requires.in_hand hand) c.args.name.now _ there past)))
