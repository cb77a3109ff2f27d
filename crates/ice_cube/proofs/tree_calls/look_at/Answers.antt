use Rattle.std.proofs.Common.{drop, refl, ap}
use Rattle.tree_spec.specs.Lines.{asked}
use Rattle.tree_spec.specs.Operations.{Operation, Read, ListDir, Stat, operation}
use Rattle.tree_spec.specs.declared.command.Command.{Command}
use Rattle.ice_keep.specs.Journaled.{held_refl}
use Rattle.ice_look.specs.Outcomes.{read_refusals, look_refusals, look_rules, list_rules}
use Rattle.ice_cube.specs.Called.{LookedAt}
use Rattle.ice_cube.proofs.CallLaws.{for_op, if_err, tree_refusal}
use Rattle.ice_cube.proofs.tree_calls.look_at.Goals as goal

pub returns-in-Read : goal.returns-in-Read
returns-in-Read g c =
    let state = g.D.Disk.state in let left = g.D.Disk.left in let lot = c.args.lot.now in let v = c.args.keep.now in let a = c.args.disk.now in let w = c.read.new.view in let b = c.read.new.disk in
    let n = c.args.depth in let x = c.in-Read in let e = c.read.ensures in let r = c.read.new.room in
    for_op (Read (drop n x.path) x.at x.len) (operation n (asked c.args.command.now)) (ap (λ (y : Command). operation n (asked y)) x.is) (λ (op : Operation). LookedAt state left lot op v a c.read.result r w b)
    (record {
      called = record {
        damaged = e.damaged;
        paths = e.paths;
        held = e.looked.steady v a (held_refl state left lot v a);
        set = if_err c.read.result (tree_refusal read_refusals look_rules refl) e.set;
        failed = e.failed;
      };
      answers = e.answers;
      tallies = e.tallies;
      same = e.looked.map;
    })

pub returns-in-List : goal.returns-in-List
returns-in-List g c =
    let state = g.D.Disk.state in let left = g.D.Disk.left in let lot = c.args.lot.now in let v = c.args.keep.now in let a = c.args.disk.now in let w = c.list.new.view in let b = c.list.new.disk in
    let n = c.args.depth in let x = c.in-List in let e = c.list.ensures in let r = c.list.new.room in
    for_op (ListDir (drop n x.path)) (operation n (asked c.args.command.now)) (ap (λ (y : Command). operation n (asked y)) x.is) (λ (op : Operation). LookedAt state left lot op v a c.list.result r w b)
    (record {
      called = record {
        damaged = e.damaged;
        paths = e.paths;
        held = e.looked.steady v a (held_refl state left lot v a);
        set = if_err c.list.result (tree_refusal look_refusals list_rules refl) e.set;
        failed = e.failed;
      };
      answers = e.answers;
      tallies = e.tallies;
      same = e.looked.map;
    })

pub returns-in-Stat : goal.returns-in-Stat
returns-in-Stat g c =
    let state = g.D.Disk.state in let left = g.D.Disk.left in let lot = c.args.lot.now in let v = c.args.keep.now in let a = c.args.disk.now in let w = c.stat.new.view in let b = c.stat.new.disk in
    let n = c.args.depth in let x = c.in-Stat in let e = c.stat.ensures in let r = c.args.room.now in
    for_op (Stat (drop n x.path)) (operation n (asked c.args.command.now)) (ap (λ (y : Command). operation n (asked y)) x.is) (λ (op : Operation). LookedAt state left lot op v a c.stat.result r w b)
    (record {
      called = record {
        damaged = e.damaged;
        paths = e.paths;
        held = e.looked.steady v a (held_refl state left lot v a);
        set = if_err c.stat.result (tree_refusal look_refusals look_rules refl) e.set;
        failed = e.failed;
      };
      answers = e.answers r;
      tallies = e.tallies r;
      same = e.looked.map;
    })
