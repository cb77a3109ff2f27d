use Rattle.std.proofs.Common.{ℕ, List, Option, Err, sym, ap, ◌∙◌, arith, subst, refl, IsSome}
use Rattle.std.proofs.lemmas.Result.{err_from_is_err_and}
use Rattle.ice_base.proofs.LotLaws.{sited-few}
use Rattle.ice_base.specs.Lots.{sub_address}
use Rattle.tree_spec.specs.Costs.{form_of}
use Rattle.ice_tree.proofs.RenameLawsRows.{from_well, take_sound, row_there, row_small, to_well, add_sound, row_recovers}
use Rattle.ice_tree.proofs.FaultLaws.{done-beside}
use Rattle.ice_tree.proofs.TakeDamage.{take-blamed}
use Rattle.ice_tree.proofs.MoveDamage.{add-blamed}
use Rattle.ice_tree.proofs.Sets.{cut-in, grow-in}
use Rattle.ice_tree.proofs.WellLaws.{dir-free, dir-confused, dir-misled}
use Rattle.ice_tree.proofs.HandLaws.{take-fault, take-kind, add-fault, add-kind, hand-dir, hand-low, hand-free, hand-confused, hand-few, hand-full, hand-misled, hand-gainer, gainer-room, shorter-by}
use Rattle.ice_tree.proofs.renames.move_row.Goals as goal

pub add_in-requires-clause-is : goal.add_in-requires-clause-is
add_in-requires-clause-is g c =
    let m : ℕ → List ℕ = g.K.View.map c.args.keep.now c.args.disk.now c.args.lot.now in
    gainer-room c.args.lot.now (form_of g.F.Form.VERSION) m m c.args.step.now c.take_in.new.dir c.gainer-into.result c.gainer-into.ensures.same c.gainer-into.ensures.other c.requires.fits c.in_ok-take_in.ensures.is_dir (shorter-by _ c.in-Some.number c.take_in.new.dir c.args.step.now.from.node c.in-Some.is c.in_ok-take_in.ensures.shorter) c.requires.more

pub returns-in_err-take_in-clause-sound : goal.returns-in_err-take_in-clause-sound
returns-in_err-take_in-clause-sound g c = λ mode k t p q s x differ.
    let f = form_of g.F.Form.VERSION in
    let one = ap form_of g.F.Form.is_one.0 in
    let m : ℕ → List ℕ = g.K.View.map c.args.keep.now c.args.disk.now c.args.lot.now in
    let few = sited-few c.args.lot.now _ c.requires.sited in
    let y = err_from_is_err_and c.from_residual.result c.from_residual.ensures.1 in
    let e = c.in_err-take_in.ensures in
    let lot = c.args.lot.now in
    let number = c.args.step.now.from.number in
    let node = c.args.step.now.from.node in
    rw (y.1, y.2) (take_sound f one (form_of g.F.Form.VERSION) (ap form_of g.F.Form.is_one.0) mode c.args.lot.now m t k p q c.args.step.now c.args.name.now c.args.new.now few x differ _ (take-fault _ e.faults)
    (λ z. hand-low lot f m number node x.from_node (e.zero (ap (λ y. Err y) z) s)) (λ z. absurd (take-kind _ e.faults z))
    (λ z. dir-free lot f one m number (hand-dir lot f m number node x.from_node c.requires.fits.from.dir) (hand-free lot f m number node x.from_node (e.unused (ap (λ y. Err y) z) s)))
    (λ z. dir-confused lot f one m number (hand-dir lot f m number node x.from_node c.requires.fits.from.dir) (hand-confused lot f m number node x.from_node (e.misled (ap (λ y. Err y) z) s))))

pub returns-in-None-clause-sound : goal.returns-in-None-clause-sound
returns-in-None-clause-sound g c = λ mode k t p q s x differ.
    let f = form_of g.F.Form.VERSION in
    let one = ap form_of g.F.Form.is_one.0 in
    let m : ℕ → List ℕ = g.K.View.map c.args.keep.now c.args.disk.now c.args.lot.now in
    let few = sited-few c.args.lot.now _ c.requires.sited in
    absurd (row_there f one (form_of g.F.Form.VERSION) (ap form_of g.F.Form.is_one.0) mode c.args.lot.now m t k p q c.args.step.now c.args.name.now c.args.new.now few x differ (sym c.in-None.is ∙ c.in_ok-take_in.ensures.found s x.from_node))

pub returns-then-number-len-clause-sound : goal.returns-then-number-len-clause-sound
returns-then-number-len-clause-sound g c = λ mode k t p q s x differ.
    let f = form_of g.F.Form.VERSION in
    let one = ap form_of g.F.Form.is_one.0 in
    let m : ℕ → List ℕ = g.K.View.map c.args.keep.now c.args.disk.now c.args.lot.now in
    let few = sited-few c.args.lot.now _ c.requires.sited in
    let m1 : ℕ → List ℕ = g.K.View.map c.take_in.new.keep c.take_in.new.disk c.args.lot.now in
    let found = sym c.in-Some.is ∙ c.in_ok-take_in.ensures.found s x.from_node in
    let well = from_well f one (form_of g.F.Form.VERSION) (ap form_of g.F.Form.is_one.0) mode c.args.lot.now m t k p q c.args.step.now c.args.name.now c.args.new.now few x differ in
    let set = c.in_ok-take_in.ensures.taken s x.from_node well (subst (λ (o : Option ℕ). IsSome o) (sym c.in-Some.is) refl) in
    let small = row_small f one (form_of g.F.Form.VERSION) (ap form_of g.F.Form.is_one.0) mode c.args.lot.now m t k p q c.args.step.now c.args.name.now c.args.new.now few x differ m1 c.in-Some.number found set in
    absurd (omega (arith, c.len.ensures.len, c.if-number-len.true))

pub returns-in_err-add_in-in-Some-clause-sound : goal.returns-in_err-add_in-in-Some-clause-sound
returns-in_err-add_in-in-Some-clause-sound g c = λ mode k t p q s x differ.
    let f = form_of g.F.Form.VERSION in
    let one = ap form_of g.F.Form.is_one.0 in
    let m : ℕ → List ℕ = g.K.View.map c.args.keep.now c.args.disk.now c.args.lot.now in
    let few = sited-few c.args.lot.now _ c.requires.sited in
    let m1 : ℕ → List ℕ = g.K.View.map c.take_in.new.keep c.take_in.new.disk c.args.lot.now in
    let found = sym c.in-Some.is ∙ c.in_ok-take_in.ensures.found s x.from_node in
    let well = from_well f one (form_of g.F.Form.VERSION) (ap form_of g.F.Form.is_one.0) mode c.args.lot.now m t k p q c.args.step.now c.args.name.now c.args.new.now few x differ in
    let set = c.in_ok-take_in.ensures.taken s x.from_node well (subst (λ (o : Option ℕ). IsSome o) (sym c.in-Some.is) refl) in
    let y = err_from_is_err_and c.from_residual-in_err-add_in-in-Some.result c.from_residual-in_err-add_in-in-Some.ensures.1 in
    let e = c.in_err-add_in-in-Some.ensures in
    let s1 = c.take_in.ensures.spent.shows s in
    let left = c.in_ok-take_in.ensures.left s x.from_node (subst (λ (o : Option ℕ). IsSome o) (sym c.in-Some.is) refl) in
    let hand = hand-gainer c.args.lot.now f m m1 c.args.step.now c.take_in.new.dir c.gainer-into.result c.gainer-into.ensures.same c.gainer-into.ensures.other (c.in_ok-take_in.ensures.hand s x.from_node) x.to_node left in
    let lot = c.args.lot.now in
    let number = c.args.step.now.to.number in
    let node = c.gainer-into.result in
    let room = gainer-room lot f m m1 c.args.step.now c.take_in.new.dir node c.gainer-into.ensures.same c.gainer-into.ensures.other c.requires.fits c.in_ok-take_in.ensures.is_dir (shorter-by _ c.in-Some.number c.take_in.new.dir c.args.step.now.from.node c.in-Some.is c.in_ok-take_in.ensures.shorter) c.requires.more in
    rw (y.1, y.2) (add_sound f one (form_of g.F.Form.VERSION) (ap form_of g.F.Form.is_one.0) mode c.args.lot.now m t k p q c.args.step.now c.args.name.now c.args.new.now few x differ m1 c.in-Some.number found set _ (add-fault _ e.faults)
    (λ z. hand-few lot f m1 number node hand (e.none (ap (λ y. Err y) z) s1)) (λ z. hand-full lot f m1 number node hand (e.full (ap (λ y. Err y) z) s1)) (λ z. absurd (add-kind _ e.faults z))
    (λ z. dir-misled lot f one m1 number (hand-dir lot f m1 number node hand room.is) (hand-misled lot f m1 number node hand (e.misled (ap (λ y. Err y) z) s1))) (λ z. e.unreserved (ap (λ y. Err y) z) s1))

pub returns-in_ok-add_in-in-Some-clause-moved : goal.returns-in_ok-add_in-in-Some-clause-moved
returns-in_ok-add_in-in-Some-clause-moved g c = λ mode k t p q s x differ.
    let f = form_of g.F.Form.VERSION in
    let one = ap form_of g.F.Form.is_one.0 in
    let m : ℕ → List ℕ = g.K.View.map c.args.keep.now c.args.disk.now c.args.lot.now in
    let few = sited-few c.args.lot.now _ c.requires.sited in
    let m1 : ℕ → List ℕ = g.K.View.map c.take_in.new.keep c.take_in.new.disk c.args.lot.now in
    let found = sym c.in-Some.is ∙ c.in_ok-take_in.ensures.found s x.from_node in
    let well = from_well f one (form_of g.F.Form.VERSION) (ap form_of g.F.Form.is_one.0) mode c.args.lot.now m t k p q c.args.step.now c.args.name.now c.args.new.now few x differ in
    let set = c.in_ok-take_in.ensures.taken s x.from_node well (subst (λ (o : Option ℕ). IsSome o) (sym c.in-Some.is) refl) in
    let s1 = c.take_in.ensures.spent.shows s in
    let left = c.in_ok-take_in.ensures.left s x.from_node (subst (λ (o : Option ℕ). IsSome o) (sym c.in-Some.is) refl) in
    let hand = hand-gainer c.args.lot.now f m m1 c.args.step.now c.take_in.new.dir c.gainer-into.result c.gainer-into.ensures.same c.gainer-into.ensures.other (c.in_ok-take_in.ensures.hand s x.from_node) x.to_node left in
    row_recovers f one (form_of g.F.Form.VERSION) (ap form_of g.F.Form.is_one.0) mode c.args.lot.now m t k p q c.args.step.now c.args.name.now c.args.new.now few x differ m1 c.in-Some.number found set c.bytes-bytes.ensures.name (omega (arith, c.requires.short, g.F.Form.is_one.2))
    (g.K.View.map c.add_in.new.keep c.add_in.new.disk c.args.lot.now)
    (c.in_ok-add_in-in-Some.ensures.added s1 hand (to_well f one (form_of g.F.Form.VERSION) (ap form_of g.F.Form.is_one.0) mode c.args.lot.now m t k p q c.args.step.now c.args.name.now c.args.new.now few x differ m1 c.in-Some.number found set))

pub returns-in_err-take_in-clause-broken : goal.returns-in_err-take_in-clause-broken
returns-in_err-take_in-clause-broken g c = λ s is fits differ.
    let lot = c.args.lot.now in
    let m0 : ℕ → List ℕ = g.K.View.map c.args.keep.now c.args.disk.now lot in
    let x = err_from_is_err_and c.from_residual.result c.from_residual.ensures.1 in
    let e = c.in_err-take_in.ensures in
    let form = form_of g.F.Form.VERSION in
    let number = c.args.step.now.from.number in
    let node = c.args.step.now.from.node in
    rw (x.1, x.2)
    (take-blamed form lot m0 number is.from_is.reached is.from_is.dir _ (take-fault _ e.faults) (λ q. hand-low lot form m0 number node is.from_is.node_is (e.zero (ap (λ y. Err y) q) s)) (λ q. absurd (take-kind _ e.faults q))
    (λ q. hand-free lot form m0 number node is.from_is.node_is (e.unused (ap (λ y. Err y) q) s)) (λ q. hand-confused lot form m0 number node is.from_is.node_is (e.misled (ap (λ y. Err y) q) s)))

pub returns-in_err-add_in-in-Some-clause-broken : goal.returns-in_err-add_in-in-Some-clause-broken
returns-in_err-add_in-in-Some-clause-broken g c = λ s is fits differ.
    let lot = c.args.lot.now in
    let f = form_of g.F.Form.VERSION in
    let m : ℕ → List ℕ = g.K.View.map c.args.keep.now c.args.disk.now lot in
    let m1 : ℕ → List ℕ = g.K.View.map c.take_in.new.keep c.take_in.new.disk lot in
    let few = sited-few lot _ c.requires.sited in
    let left = c.in_ok-take_in.ensures.left s is.from_is.node_is (subst (λ (o : Option ℕ). IsSome o) (sym c.in-Some.is) refl) in
    let number = c.args.step.now.to.number in
    let node = c.gainer-into.result in
    let hand = hand-gainer lot f m m1 c.args.step.now c.take_in.new.dir node c.gainer-into.ensures.same c.gainer-into.ensures.other (c.in_ok-take_in.ensures.hand s is.from_is.node_is) is.to_is.node_is left in
    let x = err_from_is_err_and c.from_residual-in_err-add_in-in-Some.result c.from_residual-in_err-add_in-in-Some.ensures.1 in
    let e = c.in_err-add_in-in-Some.ensures in
    let s1 = c.take_in.ensures.spent.shows s in
    rw (x.1, x.2)
    (add-blamed f (ap form_of g.F.Form.is_one.0) lot few m m1 c.args.name.now c.args.step.now is fits differ left _ (add-fault _ e.faults)
    (λ z. hand-few lot f m1 number node hand (e.none (ap (λ y. Err y) z) s1)) (λ z. hand-full lot f m1 number node hand (e.full (ap (λ y. Err y) z) s1)) (λ z. absurd (add-kind _ e.faults z))
    (λ z. e.unreserved (ap (λ y. Err y) z) s1) (λ z. hand-misled lot f m1 number node hand (e.misled (ap (λ y. Err y) z) s1)))

pub returns-in_ok-add_in-in-Some-clause-done : goal.returns-in_ok-add_in-in-Some-clause-done
returns-in_ok-add_in-in-Some-clause-done g c = λ s.
    let lot = c.args.lot.now in
    let m0 : ℕ → List ℕ = g.K.View.map c.args.keep.now c.args.disk.now lot in
    let m1 : ℕ → List ℕ = g.K.View.map c.take_in.new.keep c.take_in.new.disk lot in
    let m2 : ℕ → List ℕ = g.K.View.map c.add_in.new.keep c.add_in.new.disk lot in
    done-beside (m1 sub_address) (m2 sub_address) (c.in_ok-add_in-in-Some.ensures.sub (c.take_in.ensures.spent.shows s)) ∙ done-beside (m0 sub_address) (m1 sub_address) (c.in_ok-take_in.ensures.sub s)

pub returns-in_err-take_in-clause-faults : goal.returns-in_err-take_in-clause-faults
returns-in_err-take_in-clause-faults g c =
    let x = err_from_is_err_and c.from_residual.result c.from_residual.ensures.1 in
    rw (x.1, x.2) (cut-in _ c.in_err-take_in.ensures.faults)

pub returns-in_err-add_in-in-Some-clause-faults : goal.returns-in_err-add_in-in-Some-clause-faults
returns-in_err-add_in-in-Some-clause-faults g c =
    let x = err_from_is_err_and c.from_residual-in_err-add_in-in-Some.result c.from_residual-in_err-add_in-in-Some.ensures.1 in
    rw (x.1, x.2) (grow-in _ c.in_err-add_in-in-Some.ensures.faults)
