use Rattle.std.proofs.Common.{◌∙◌, ap, Err, ℕ, List}
use Rattle.std.proofs.lemmas.Result.{on_ok_weaker, err_from_is_err_and}
use Rattle.ice_base.proofs.LotLaws.{sited-few}
use Rattle.ice_base.specs.Faults.{IsGiveFault}
use Rattle.ice_base.specs.declared.fault.OpFault.{OpFault}
use Rattle.ice_base.specs.declared.fault.OpFault.TheVariants.{Disk as FaultDisk}
use Rattle.tree_spec.specs.Costs.{form_of}
use Rattle.ice_tree.proofs.RemoveLaws.{err-is, inode-given, can-give-inode}
use Rattle.ice_tree.proofs.RemoveDamage.{done-given, give-loose, freed-given}
use Rattle.ice_tree.proofs.FaultLaws.{err-by}
use Rattle.ice_tree.proofs.Sets.{disk-in, give-in}
use Rattle.ice_look.specs.Broken.{IsFaultBy}
use Rattle.ice_tree.specs.Removes.{LooseBroken}
use Rattle.ice_tree.specs.Outcomes.{IsNamedIn, change_rules}
use Rattle.ice_tree.proofs.removes.clear.Goals as goal

pub returns-in_err-drop_bytes-clause-sound : goal.returns-in_err-drop_bytes-clause-sound
returns-in_err-drop_bytes-clause-sound g c = λ mode k t s hand l.
    let p = err_from_is_err_and c.from_residual.result c.from_residual.ensures.1 in
    rw (p.1, p.2) (c.in_err-drop_bytes.ensures.sound mode k t s hand l)

pub returns-clause-cleared : goal.returns-clause-cleared
returns-clause-cleared g c = λ mode k t s hand l.
    let lot = c.args.lot.now in
    let b = c.in_ok-drop_bytes.ensures.dropped mode k t s hand l in
    let one = c.drop_bytes.ensures.spent.shows s in
    let two = c.put_inode.ensures.spent.shows one in
    on_ok_weaker c.give_inode.result
    (λ gave. inode-given (form_of g.F.Form.VERSION) (ap form_of g.F.Form.is_one.0) mode lot (sited-few lot _ c.requires.sited) (g.K.View.map c.drop_bytes.new.keep c.drop_bytes.new.disk lot) t k c.args.number c.args.bytes (form_of g.F.Form.VERSION) (ap form_of g.F.Form.is_one.0)
    (g.K.View.map c.put_inode.new.keep c.put_inode.new.disk lot) (g.K.View.map c.give_inode.new.keep c.give_inode.new.disk lot) c.empty.result b (c.in_ok-put_inode.ensures.written one) c.put_inode.ensures.puts.only gave c.give_inode.ensures.puts.only)
    (c.give_inode.ensures.gave two)

pub returns-clause-sound : goal.returns-clause-sound
returns-clause-sound g c = λ mode k t s hand l.
    let lot = c.args.lot.now in
    let b = c.in_ok-drop_bytes.ensures.dropped mode k t s hand l in
    let one = c.drop_bytes.ensures.spent.shows s in
    let two = c.put_inode.ensures.spent.shows one in
    let x = c.give_inode.ensures in
    err-is c.give_inode.result IsGiveFault FaultDisk x.faults
    (λ e is fault.
    can-give-inode (form_of g.F.Form.VERSION) (ap form_of g.F.Form.is_one.0) mode lot (sited-few lot _ c.requires.sited) (g.K.View.map c.drop_bytes.new.keep c.drop_bytes.new.disk lot) t k c.args.number c.args.bytes (form_of g.F.Form.VERSION) (ap form_of g.F.Form.is_one.0)
    (g.K.View.map c.put_inode.new.keep c.put_inode.new.disk lot) c.empty.result b (c.in_ok-put_inode.ensures.written one) c.put_inode.ensures.puts.only
    e fault (λ q. x.zero (is ∙ ap (λ (y : OpFault). Err y) q) two) (λ q. x.unused (is ∙ ap (λ (y : OpFault). Err y) q) two))

pub returns-clause-done : goal.returns-clause-done
returns-clause-done g c = λ s.
    let lot = c.args.lot.now in
    let m1 : ℕ → List ℕ = g.K.View.map c.drop_bytes.new.keep c.drop_bytes.new.disk lot in
    let m2 : ℕ → List ℕ = g.K.View.map c.put_inode.new.keep c.put_inode.new.disk lot in
    let m3 : ℕ → List ℕ = g.K.View.map c.give_inode.new.keep c.give_inode.new.disk lot in
    let one = c.drop_bytes.ensures.spent.shows s in
    let two = c.put_inode.ensures.spent.shows one in
    on_ok_weaker c.give_inode.result (λ gave. done-given m1 m2 m3 c.args.number _ (c.in_ok-drop_bytes.ensures.done s) c.put_inode.ensures.puts.only gave) (c.give_inode.ensures.gave two)

pub returns-clause-broken : goal.returns-clause-broken
returns-clause-broken g c = λ s hand.
    let lot = c.args.lot.now in
    let m0 : ℕ → List ℕ = g.K.View.map c.args.keep.now c.args.disk.now lot in
    let m1 : ℕ → List ℕ = g.K.View.map c.drop_bytes.new.keep c.drop_bytes.new.disk lot in
    let m2 : ℕ → List ℕ = g.K.View.map c.put_inode.new.keep c.put_inode.new.disk lot in
    let two = c.put_inode.ensures.spent.shows (c.drop_bytes.ensures.spent.shows s) in
    let x = c.give_inode.ensures in
    err-by c.give_inode.result IsGiveFault (IsFaultBy (LooseBroken lot m0 c.args.number)) x.faults
    (λ e is fault.
    give-loose lot m0 m1 m2 c.args.number (c.in_ok-drop_bytes.ensures.count s) (c.in_ok-drop_bytes.ensures.inodes s) c.put_inode.ensures.puts.only e fault
    (λ q. x.zero (is ∙ ap (λ (y : OpFault). Err y) q) two) (λ q. x.unused (is ∙ ap (λ (y : OpFault). Err y) q) two))

pub returns-clause-freed : goal.returns-clause-freed
returns-clause-freed g c = λ s.
    let lot = c.args.lot.now in
    let m1 : ℕ → List ℕ = g.K.View.map c.drop_bytes.new.keep c.drop_bytes.new.disk lot in
    let m2 : ℕ → List ℕ = g.K.View.map c.put_inode.new.keep c.put_inode.new.disk lot in
    let m3 : ℕ → List ℕ = g.K.View.map c.give_inode.new.keep c.give_inode.new.disk lot in
    let one = c.drop_bytes.ensures.spent.shows s in
    let two = c.put_inode.ensures.spent.shows one in
    on_ok_weaker c.give_inode.result (λ gave. freed-given m1 m2 m3 c.args.number c.empty.result (c.in_ok-put_inode.ensures.written one) c.empty.ensures c.give_inode.ensures.puts.only) (c.give_inode.ensures.gave two)

pub returns-in_err-put_inode-clause-faults : goal.returns-in_err-put_inode-clause-faults
returns-in_err-put_inode-clause-faults g c =
    let p = err_from_is_err_and c.from_residual-in_err-put_inode.result c.from_residual-in_err-put_inode.ensures.1 in
    rw (p.1, p.2) (disk-in change_rules _ c.in_err-put_inode.ensures.faults)

pub returns-clause-faults : goal.returns-clause-faults
returns-clause-faults g c = err-by c.give_inode.result IsGiveFault (IsNamedIn change_rules) c.give_inode.ensures.faults (λ e is fault. give-in e fault)
