use Rattle.std.proofs.Common.{◌∙◌, ap, Err, ℕ, List, arith, subst, sym}
use Rattle.std.proofs.lemmas.Result.{on_ok_weaker}
use Rattle.ice_base.proofs.LotLaws.{sited-few}
use Rattle.ice_base.specs.Lots.{sub_address}
use Rattle.ice_base.specs.declared.fault.OpFault.{OpFault}
use Rattle.ice_base.specs.declared.fault.OpFault.TheVariants.{Disk as FaultDisk}
use Rattle.ice_map.specs.Faults.{IsCutFault}
use Rattle.ice_file.specs.Files.{ReachesTo}
use Rattle.tree_spec.specs.Costs.{form_of, form_one, Form}
use Rattle.ice_tree.proofs.RemoveLaws.{err-is, loose-made, nothing-dropped, bytes-dropped, can-drop}
use Rattle.ice_tree.proofs.FaultLaws.{err-by, done-beside, count-beside}
use Rattle.ice_tree.proofs.FileDamage.{cut-loose}
use Rattle.ice_tree.proofs.Sets.{cut-in}
use Rattle.ice_look.specs.Broken.{IsFaultBy}
use Rattle.ice_tree.specs.Removes.{LooseBroken}
use Rattle.ice_tree.specs.Outcomes.{IsNamedIn, change_rules}
use Rattle.ice_map.specs.declared.codec.Inode.{Inode}
use Rattle.ice_map.specs.Inodes.{inode_of}
use Rattle.ice_tree.proofs.removes.drop_bytes.Goals as goal

pub cut_in-requires-clause-reaches : goal.cut_in-requires-clause-reaches
cut_in-requires-clause-reaches g c = subst (λ (x : Form). ReachesTo x 0 c.args.node.now) (sym (ap form_of g.F.Form.is_one.0)) (c.requires.file (omega arith))

pub returns-then-bytes-eq0-clause-dropped : goal.returns-then-bytes-eq0-clause-dropped
returns-then-bytes-eq0-clause-dropped g c = λ mode k t s hand l.
    nothing-dropped (form_of g.F.Form.VERSION) (ap form_of g.F.Form.is_one.0) mode c.args.lot.now (sited-few c.args.lot.now _ c.requires.sited) (g.K.View.map c.args.keep.now c.args.disk.now c.args.lot.now) t k c.args.number c.args.bytes (form_of g.F.Form.VERSION) (ap form_of g.F.Form.is_one.0)
    l c.if-bytes-eq0.true

pub returns-clause-dropped : goal.returns-clause-dropped
returns-clause-dropped g c = λ mode k t s hand l.
    let few = sited-few c.args.lot.now _ c.requires.sited in
    let m = g.K.View.map c.args.keep.now c.args.disk.now c.args.lot.now in
    on_ok_weaker c.cut_in.result
    (bytes-dropped (form_of g.F.Form.VERSION) (ap form_of g.F.Form.is_one.0) mode c.args.lot.now few m t k c.args.number c.args.bytes (form_of g.F.Form.VERSION) (ap form_of g.F.Form.is_one.0)
    (g.K.View.map c.cut_in.new.keep c.cut_in.new.disk c.args.lot.now) l c.if-bytes-eq0.false)
    (c.cut_in.ensures.cut s (hand (omega arith)) (loose-made (form_of g.F.Form.VERSION) (ap form_of g.F.Form.is_one.0) mode c.args.lot.now few m t k c.args.number c.args.bytes (form_of g.F.Form.VERSION) (ap form_of g.F.Form.is_one.0) l))

pub returns-clause-sound : goal.returns-clause-sound
returns-clause-sound g c = λ mode k t s hand l.
    let few = sited-few c.args.lot.now _ c.requires.sited in
    let m = g.K.View.map c.args.keep.now c.args.disk.now c.args.lot.now in
    let x = c.cut_in.ensures in
    err-is c.cut_in.result IsCutFault FaultDisk x.faults
    (λ e is fault.
    can-drop (form_of g.F.Form.VERSION) (ap form_of g.F.Form.is_one.0) mode c.args.lot.now few m t k c.args.number c.args.bytes (form_of g.F.Form.VERSION) (ap form_of g.F.Form.is_one.0) l c.if-bytes-eq0.false
    c.args.node.now (hand (omega arith)) e fault (λ q. let z = x.zero (is ∙ ap (λ (y : OpFault). Err y) q) s in omega arith)
    (λ q. x.unused (is ∙ ap (λ (y : OpFault). Err y) q) s) (λ q. x.misled (is ∙ ap (λ (y : OpFault). Err y) q) s))

pub returns-clause-broken : goal.returns-clause-broken
returns-clause-broken g c = λ s hand.
    let lot = c.args.lot.now in
    let m : ℕ → List ℕ = g.K.View.map c.args.keep.now c.args.disk.now lot in
    let x = c.cut_in.ensures in
    let here = hand (omega arith) in
    let file = subst (λ (i : Inode). ReachesTo form_one 0 i) here (c.requires.file (omega arith)) in
    err-by c.cut_in.result IsCutFault (IsFaultBy (LooseBroken lot m c.args.number)) x.faults
    (λ e is fault.
    cut-loose (form_of g.F.Form.VERSION) (ap form_of g.F.Form.is_one.0) lot m 0 c.args.number c.args.node.now here (subst (λ (x : Form). ReachesTo x 0 (inode_of m c.args.number)) (sym (ap form_of g.F.Form.is_one.0)) file) e fault (λ q. x.zero (is ∙ ap (λ (y : OpFault). Err y) q) s) (λ q. x.unused (is ∙ ap (λ (y : OpFault). Err y) q) s)
    (λ q. x.single_placed (is ∙ ap (λ (y : OpFault). Err y) q)) (λ q. x.misled (is ∙ ap (λ (y : OpFault). Err y) q) s))

pub returns-clause-faults : goal.returns-clause-faults
returns-clause-faults g c = err-by c.cut_in.result IsCutFault (IsNamedIn change_rules) c.cut_in.ensures.faults (λ e is fault. cut-in e fault)

pub returns-clause-count : goal.returns-clause-count
returns-clause-count g c = λ s.
    let m0 : ℕ → List ℕ = g.K.View.map c.args.keep.now c.args.disk.now c.args.lot.now in
    let m1 : ℕ → List ℕ = g.K.View.map c.cut_in.new.keep c.cut_in.new.disk c.args.lot.now in
    on_ok_weaker c.cut_in.result (λ same. count-beside (m0 sub_address) (m1 sub_address) same) (c.cut_in.ensures.sub s)

pub returns-clause-done : goal.returns-clause-done
returns-clause-done g c = λ s.
    let m0 : ℕ → List ℕ = g.K.View.map c.args.keep.now c.args.disk.now c.args.lot.now in
    let m1 : ℕ → List ℕ = g.K.View.map c.cut_in.new.keep c.cut_in.new.disk c.args.lot.now in
    on_ok_weaker c.cut_in.result (λ same. done-beside (m0 sub_address) (m1 sub_address) same) (c.cut_in.ensures.sub s)
