use Rattle.std.proofs.Common.{◌≡◌, ap, sym, subst, ◌∙◌, inl, Err, ℕ, List, arith}
use Rattle.std.proofs.lemmas.Result.{err_from_is_err_and}
use Rattle.ice_base.proofs.LotLaws.{sited-few}
use Rattle.ice_map.specs.declared.codec.Inode.{Inode}
use Rattle.ice_map.specs.Inodes.{InodeSet, inode_of}
use Rattle.tree_spec.specs.Costs.{form_of}
use Rattle.ice_base.specs.Fields.{long_at}
use Rattle.ice_base.specs.Inodes.{inode_address}
use Rattle.ice_base.specs.Lots.{sub_address}
use Rattle.ice_base.proofs.FieldLaws.{long-beside}
use Rattle.ice_map.proofs.GrowLaws.{inode_not_sub}
use Rattle.ice_steps.proofs.Keeps.{only-one}
use Rattle.ice_tree.proofs.FaultLaws.{done-beside}
use Rattle.ice_tree.proofs.HandLaws.{add-fault, add-kind, hand-dir, hand-few, hand-full, hand-misled}
use Rattle.ice_tree.proofs.NewDamage.{node-beside, take-blamed, add-blamed}
use Rattle.ice_tree.proofs.MakeLaws.{NodePut, take_sound, spot_apart, spot_well, add_sound, node_recovers}
use Rattle.ice_tree.proofs.Sets.{take_inode-in, grow-in}
use Rattle.ice_tree.proofs.WellLaws.{dir-misled}
use Rattle.ice_tree.proofs.makes.put_node.Goals as goal

pub add_in-requires-clause-is : goal.add_in-requires-clause-is
add_in-requires-clause-is g c = record { is = c.requires.spot.dir; room = let size = c.requires.spot.size in let more = c.requires.more in omega arith }

pub returns-in_err-number-clause-sound : goal.returns-in_err-number-clause-sound
returns-in_err-number-clause-sound g c = λ mode k t p s takes.
    let x = err_from_is_err_and c.from_residual.result c.from_residual.ensures.1 in
    let e = c.in_err-number.ensures in
    rw (x.1, x.2)
    (take_sound (form_of g.F.Form.VERSION) (ap form_of g.F.Form.is_one.0) (form_of g.F.Form.VERSION) (ap form_of g.F.Form.is_one.0) mode c.args.lot.now (g.K.View.map c.args.keep.now c.args.disk.now c.args.lot.now) t k p c.args.dir c.args.spot.now c.args.name.now
    (sited-few c.args.lot.now _ c.requires.sited) takes _ e.faults (λ q. e.none (ap (λ y. Err y) q) s) (λ q. e.full (ap (λ y. Err y) q) s))

pub returns-in_err-add_in-clause-sound : goal.returns-in_err-add_in-clause-sound
returns-in_err-add_in-clause-sound g c = λ mode k t p s takes.
    let x = err_from_is_err_and c.from_residual-in_err-add_in.result c.from_residual-in_err-add_in.ensures.1 in
    let e = c.in_err-add_in.ensures in
    let s1 = c.take_inode.ensures.spent.shows s in
    let s2 = c.put_inode.ensures.spent.shows s1 in
    let lot = c.args.lot.now in
    let form = form_of g.F.Form.VERSION in
    let one = ap form_of g.F.Form.is_one.0 in
    let few = sited-few lot _ c.requires.sited in
    let number = c.args.spot.now.number in
    let node = c.args.spot.now.node in
    let m0 : ℕ → List ℕ = g.K.View.map c.args.keep.now c.args.disk.now lot in
    let m1 : ℕ → List ℕ = g.K.View.map c.take_inode.new.keep c.take_inode.new.disk lot in
    let m2 : ℕ → List ℕ = g.K.View.map c.put_inode.new.keep c.put_inode.new.disk lot in
    let put : NodePut lot m0 m1 m2 c.in_ok-number.number c.args.dir = record {
      small = c.in_ok-number.ensures.number;
      took = c.in_ok-number.ensures.took s;
      taken = c.in_ok-number.ensures.puts.only;
      put = subst (λ (x : Inode). InodeSet m1 m2 c.in_ok-number.number x) c.new_node.ensures (c.in_ok-put_inode.ensures.written s1);
      there = c.put_inode.ensures.puts.only;
    } in
    let hand : node ≡ inode_of m2 number = takes.node_is ∙ sym (node-beside lot m0 m1 m2 c.in_ok-number.number c.args.dir number put c.if-number-spot.false) in
    rw (x.1, x.2)
    (add_sound form one form one mode lot m0 t k p c.args.dir c.args.spot.now c.args.name.now few takes m1 m2 c.in_ok-number.number put
    _ (add-fault _ e.faults) (λ q. hand-few lot form m2 number node hand (e.none (ap (λ y. Err y) q) s2)) (λ q. hand-full lot form m2 number node hand (e.full (ap (λ y. Err y) q) s2)) (λ q. absurd (add-kind _ e.faults q))
    (λ q. dir-misled lot form one m2 number (hand-dir lot form m2 number node hand c.requires.spot.dir) (hand-misled lot form m2 number node hand (e.misled (ap (λ y. Err y) q) s2))) (λ q. e.unreserved (ap (λ y. Err y) q) s2))

pub returns-clause-made : goal.returns-clause-made
returns-clause-made g c = λ mode k t p s takes.
    let s1 = c.take_inode.ensures.spent.shows s in
    let s2 = c.put_inode.ensures.spent.shows s1 in
    let m0 = g.K.View.map c.args.keep.now c.args.disk.now c.args.lot.now in
    let m1 = g.K.View.map c.take_inode.new.keep c.take_inode.new.disk c.args.lot.now in
    let m2 = g.K.View.map c.put_inode.new.keep c.put_inode.new.disk c.args.lot.now in
    let f = form_of g.F.Form.VERSION in
    let one = ap form_of g.F.Form.is_one.0 in
    let few = sited-few c.args.lot.now _ c.requires.sited in
    let n : NodePut c.args.lot.now m0 m1 m2 c.in_ok-number.number c.args.dir = record {
      small = c.in_ok-number.ensures.number;
      took = c.in_ok-number.ensures.took s;
      taken = c.in_ok-number.ensures.puts.only;
      put = subst (λ (x : Inode). InodeSet m1 m2 c.in_ok-number.number x) c.new_node.ensures (c.in_ok-put_inode.ensures.written s1);
      there = c.put_inode.ensures.puts.only;
    } in
    let hand = takes.node_is ∙ sym (node-beside c.args.lot.now m0 m1 m2 c.in_ok-number.number c.args.dir c.args.spot.now.number n c.if-number-spot.false) in
    let well = spot_well f one (form_of g.F.Form.VERSION) (ap form_of g.F.Form.is_one.0) mode c.args.lot.now m0 t k p c.args.dir c.args.spot.now c.args.name.now few takes m1 m2 c.in_ok-number.number n in
    node_recovers f one (form_of g.F.Form.VERSION) (ap form_of g.F.Form.is_one.0) mode c.args.lot.now m0 t k p c.args.dir c.args.spot.now c.args.name.now few takes m1 m2 c.in_ok-number.number n
    (let limit = g.F.Form.is_one.2 in omega (arith, c.requires.fits, limit))
    (g.K.View.map c.add_in.new.keep c.add_in.new.disk c.args.lot.now)
    (c.in_ok-add_in.ensures.added s2 hand well)

pub returns-then-number-spot-clause-sound : goal.returns-then-number-spot-clause-sound
returns-then-number-spot-clause-sound g c = λ mode k t p s takes.
    absurd (spot_apart (form_of g.F.Form.VERSION) (ap form_of g.F.Form.is_one.0) (form_of g.F.Form.VERSION) (ap form_of g.F.Form.is_one.0) mode c.args.lot.now (g.K.View.map c.args.keep.now c.args.disk.now c.args.lot.now) t k p c.args.dir c.args.spot.now c.args.name.now
    (sited-few c.args.lot.now _ c.requires.sited) takes c.in_ok-number.number (c.in_ok-number.ensures.took s).least.0 c.if-number-spot.true)

pub returns-in_err-number-clause-broken : goal.returns-in_err-number-clause-broken
returns-in_err-number-clause-broken g c = λ s fits.
    let x = err_from_is_err_and c.from_residual.result c.from_residual.ensures.1 in
    let e = c.in_err-number.ensures in
    rw (x.1, x.2)
    (take-blamed (form_of g.F.Form.VERSION) (ap form_of g.F.Form.is_one.0) c.args.lot.now (sited-few c.args.lot.now _ c.requires.sited) (g.K.View.map c.args.keep.now c.args.disk.now c.args.lot.now) c.args.spot.now fits
    _ e.faults (λ q. e.none (ap (λ y. Err y) q) s) (λ q. e.full (ap (λ y. Err y) q) s))

pub returns-in_err-add_in-clause-broken : goal.returns-in_err-add_in-clause-broken
returns-in_err-add_in-clause-broken g c = λ s fits.
    let x = err_from_is_err_and c.from_residual-in_err-add_in.result c.from_residual-in_err-add_in.ensures.1 in
    let e = c.in_err-add_in.ensures in
    let s1 = c.take_inode.ensures.spent.shows s in
    let s2 = c.put_inode.ensures.spent.shows s1 in
    let lot = c.args.lot.now in
    let form = form_of g.F.Form.VERSION in
    let one = ap form_of g.F.Form.is_one.0 in
    let few = sited-few lot _ c.requires.sited in
    let number = c.args.spot.now.number in
    let node = c.args.spot.now.node in
    let m0 : ℕ → List ℕ = g.K.View.map c.args.keep.now c.args.disk.now lot in
    let m1 : ℕ → List ℕ = g.K.View.map c.take_inode.new.keep c.take_inode.new.disk lot in
    let m2 : ℕ → List ℕ = g.K.View.map c.put_inode.new.keep c.put_inode.new.disk lot in
    let put : NodePut lot m0 m1 m2 c.in_ok-number.number c.args.dir = record {
      small = c.in_ok-number.ensures.number;
      took = c.in_ok-number.ensures.took s;
      taken = c.in_ok-number.ensures.puts.only;
      put = subst (λ (x : Inode). InodeSet m1 m2 c.in_ok-number.number x) c.new_node.ensures (c.in_ok-put_inode.ensures.written s1);
      there = c.put_inode.ensures.puts.only;
    } in
    let hand : node ≡ inode_of m2 number = fits.spot_is.node_is ∙ sym (node-beside lot m0 m1 m2 c.in_ok-number.number c.args.dir number put c.if-number-spot.false) in
    rw (x.1, x.2)
    (add-blamed form one lot few m0 c.args.spot.now fits m1 m2 c.in_ok-number.number c.args.dir put c.if-number-spot.false
    _ (add-fault _ e.faults) (λ q. hand-few lot form m2 number node hand (e.none (ap (λ y. Err y) q) s2)) (λ q. hand-full lot form m2 number node hand (e.full (ap (λ y. Err y) q) s2)) (λ q. absurd (add-kind _ e.faults q))
    (λ q. hand-misled lot form m2 number node hand (e.misled (ap (λ y. Err y) q) s2)) (λ q. e.unreserved (ap (λ y. Err y) q) s2))

pub returns-clause-done : goal.returns-clause-done
returns-clause-done g c = λ s.
    let s1 = c.take_inode.ensures.spent.shows s in
    let s2 = c.put_inode.ensures.spent.shows s1 in
    let m0 = g.K.View.map c.args.keep.now c.args.disk.now c.args.lot.now in
    let m1 = g.K.View.map c.take_inode.new.keep c.take_inode.new.disk c.args.lot.now in
    let m2 = g.K.View.map c.put_inode.new.keep c.put_inode.new.disk c.args.lot.now in
    done-beside _ _ (c.in_ok-add_in.ensures.sub s2)
    ∙ ap (λ (b : List ℕ). long_at b 16) (only-one (inode_address c.in_ok-number.number) m1 m2 c.put_inode.ensures.puts.only sub_address (λ e. inode_not_sub c.in_ok-number.number (sym e)))
    ∙ long-beside _ _ 28 4 16 (c.in_ok-number.ensures.took s).counts.others (inl (omega arith))

pub returns-in_err-number-clause-faults : goal.returns-in_err-number-clause-faults
returns-in_err-number-clause-faults g c =
    let x = err_from_is_err_and c.from_residual.result c.from_residual.ensures.1 in
    rw (x.1, x.2) (take_inode-in _ c.in_err-number.ensures.faults)

pub returns-in_err-add_in-clause-faults : goal.returns-in_err-add_in-clause-faults
returns-in_err-add_in-clause-faults g c =
    let x = err_from_is_err_and c.from_residual-in_err-add_in.result c.from_residual-in_err-add_in.ensures.1 in
    rw (x.1, x.2) (grow-in _ c.in_err-add_in.ensures.faults)
