use Rattle.std.proofs.Common.{drop, refl, ap}
use Rattle.tree_spec.specs.Lines.{asked}
use Rattle.tree_spec.specs.Operations.{Operation, Mkdir, Make, Write, Trunc, Remove, Rename, operation}
use Rattle.tree_spec.specs.declared.command.Command.{Command}
use Rattle.ice_keep.specs.Journaled.{held_refl}
use Rattle.ice_tree.specs.Outcomes.{make_refusals, write_refusals, trunc_refusals, remove_refusals, rename_refusals, change_rules, rename_rules}
use Rattle.ice_cube.specs.Called.{ChangedAs}
use Rattle.ice_cube.proofs.CallLaws.{for_op, if_err, tree_refusal}
use Rattle.ice_cube.proofs.tree_calls.change_in.Goals as goal

pub returns-in-Mkdir : goal.returns-in-Mkdir
returns-in-Mkdir g c =
    let state = g.D.Disk.state in let left = g.D.Disk.left in let lot = c.args.lot.now in let v = c.args.keep.now in let a = c.args.disk.now in let w = c.mkdir.new.keep in let b = c.mkdir.new.disk in
    let n = c.args.depth in let x = c.in-Mkdir in let e = c.mkdir.ensures in
    for_op (Mkdir (drop n x.path)) (operation n (asked c.args.command.now)) (ap (λ (y : Command). operation n (asked y)) x.is) (λ (op : Operation). ChangedAs state left lot op v a c.mkdir.result w b)
    (record {
      called = record {
        damaged = e.damaged;
        paths = e.paths;
        held = e.spent.steady v a (held_refl state left lot v a);
        set = if_err c.mkdir.result (tree_refusal make_refusals change_rules refl) e.set;
        failed = e.failed;
      };
      answers = e.answers;
      changed = e.changed;
      same = if_err c.mkdir.result (λ r looked few. (looked few).map) e.refused;
    })

pub returns-in-Make : goal.returns-in-Make
returns-in-Make g c =
    let state = g.D.Disk.state in let left = g.D.Disk.left in let lot = c.args.lot.now in let v = c.args.keep.now in let a = c.args.disk.now in let w = c.make.new.keep in let b = c.make.new.disk in
    let n = c.args.depth in let x = c.in-Make in let e = c.make.ensures in
    for_op (Make (drop n x.path)) (operation n (asked c.args.command.now)) (ap (λ (y : Command). operation n (asked y)) x.is) (λ (op : Operation). ChangedAs state left lot op v a c.make.result w b)
    (record {
      called = record {
        damaged = e.damaged;
        paths = e.paths;
        held = e.spent.steady v a (held_refl state left lot v a);
        set = if_err c.make.result (tree_refusal make_refusals change_rules refl) e.set;
        failed = e.failed;
      };
      answers = e.answers;
      changed = e.changed;
      same = if_err c.make.result (λ r looked few. (looked few).map) e.refused;
    })

pub returns-in-Write : goal.returns-in-Write
returns-in-Write g c =
    let state = g.D.Disk.state in let left = g.D.Disk.left in let lot = c.args.lot.now in let v = c.args.keep.now in let a = c.args.disk.now in let w = c.write.new.keep in let b = c.write.new.disk in
    let n = c.args.depth in let x = c.in-Write in let e = c.write.ensures in
    for_op (Write (drop n x.path) x.at x.bytes.now) (operation n (asked c.args.command.now)) (ap (λ (y : Command). operation n (asked y)) x.is) (λ (op : Operation). ChangedAs state left lot op v a c.write.result w b)
    (record {
      called = record {
        damaged = e.damaged;
        paths = e.paths;
        held = e.spent.steady v a (held_refl state left lot v a);
        set = if_err c.write.result (tree_refusal write_refusals change_rules refl) e.set;
        failed = e.failed;
      };
      answers = e.answers;
      changed = e.changed;
      same = if_err c.write.result (λ r looked few. (looked few).map) e.refused;
    })

pub returns-in-Trunc : goal.returns-in-Trunc
returns-in-Trunc g c =
    let state = g.D.Disk.state in let left = g.D.Disk.left in let lot = c.args.lot.now in let v = c.args.keep.now in let a = c.args.disk.now in let w = c.trunc.new.keep in let b = c.trunc.new.disk in
    let n = c.args.depth in let x = c.in-Trunc in let e = c.trunc.ensures in
    for_op (Trunc (drop n x.path) x.len) (operation n (asked c.args.command.now)) (ap (λ (y : Command). operation n (asked y)) x.is) (λ (op : Operation). ChangedAs state left lot op v a c.trunc.result w b)
    (record {
      called = record {
        damaged = e.damaged;
        paths = e.paths;
        held = e.spent.steady v a (held_refl state left lot v a);
        set = if_err c.trunc.result (tree_refusal trunc_refusals change_rules refl) e.set;
        failed = e.failed;
      };
      answers = e.answers;
      changed = e.changed;
      same = if_err c.trunc.result (λ r looked few. (looked few).map) e.refused;
    })

pub returns-in-Remove : goal.returns-in-Remove
returns-in-Remove g c =
    let state = g.D.Disk.state in let left = g.D.Disk.left in let lot = c.args.lot.now in let v = c.args.keep.now in let a = c.args.disk.now in let w = c.remove.new.keep in let b = c.remove.new.disk in
    let n = c.args.depth in let x = c.in-Remove in let e = c.remove.ensures in
    for_op (Remove (drop n x.path)) (operation n (asked c.args.command.now)) (ap (λ (y : Command). operation n (asked y)) x.is) (λ (op : Operation). ChangedAs state left lot op v a c.remove.result w b)
    (record {
      called = record {
        damaged = e.damaged;
        paths = e.paths;
        held = e.spent.steady v a (held_refl state left lot v a);
        set = if_err c.remove.result (tree_refusal remove_refusals change_rules refl) e.set;
        failed = e.failed;
      };
      answers = e.answers;
      changed = e.changed;
      same = if_err c.remove.result (λ r looked few. (looked few).map) e.refused;
    })

pub returns-in-Rename : goal.returns-in-Rename
returns-in-Rename g c =
    let state = g.D.Disk.state in let left = g.D.Disk.left in let lot = c.args.lot.now in let v = c.args.keep.now in let a = c.args.disk.now in let w = c.rename.new.keep in let b = c.rename.new.disk in
    let n = c.args.depth in let x = c.in-Rename in let e = c.rename.ensures in
    for_op (Rename (drop n x.path) (drop n x.to)) (operation n (asked c.args.command.now)) (ap (λ (y : Command). operation n (asked y)) x.is) (λ (op : Operation). ChangedAs state left lot op v a c.rename.result w b)
    (record {
      called = record {
        damaged = e.damaged;
        paths = e.paths;
        held = e.spent.steady v a (held_refl state left lot v a);
        set = if_err c.rename.result (tree_refusal rename_refusals rename_rules refl) e.set;
        failed = e.failed;
      };
      answers = e.answers;
      changed = e.changed;
      same = if_err c.rename.result (λ r looked few. (looked few).map) e.refused;
    })
