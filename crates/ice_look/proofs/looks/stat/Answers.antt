use Rattle.std.proofs.Common.{ap, refl, drop, length}
use Rattle.tree_spec.specs.Costs.{form_of}
use Rattle.tree_spec.specs.Trees.{walk, NotFound, NotDir, Found}
use Rattle.tree_spec.specs.Trees as tree
use Rattle.tree_spec.specs.Replies as value
use Rattle.tree_spec.specs.Why as why
use Rattle.ice_map.specs.Own.{own}
use Rattle.ice_reads.specs.Reads.{inode_on}
use Rattle.ice_look.proofs.LookLaws.{ends_file, ends_dir, ends_missing, ends_blocked, whole_path, fault_model, stat-paths, stat-none, stat-value}
use Rattle.ice_look.proofs.looks.stat.Goals as goal

pub returns-in-Err-clause-answers : goal.returns-in-Err-clause-answers
returns-in-Err-clause-answers g c = λ room mode k t s recovers. stat-paths t k (length c.args.lot.now.groups) (form_of g.F.Form.VERSION) (drop c.args.depth c.args.path.now) _ c.in-Err.ensures.refusal

pub returns-in-Ok-File-clause-answers : goal.returns-in-Ok-File-clause-answers
returns-in-Ok-File-clause-answers g c = λ room mode k t s recovers.
    let f = form_of g.F.Form.VERSION in
    let o = own f (g.V.View.map c.args.view.now c.args.disk.now c.args.lot.now) in
    let names = drop c.args.depth c.args.path.now in
    let e = ends_file (inode_on f o 0 names) _ _ (walk names t) (whole_path f o c.args.path.now c.args.depth c.len.result t _ _ c.len.ensures c.in-Ok-File.field-0-is (c.in-Ok-File.ensures.place mode k t s recovers)) in
    stat-value t k (length c.args.lot.now.groups) f names c.in_default.ensures.refusal (walk names t) refl (tree.File e.0) e.1 (value.File c.in-Ok-File.size) (ap (λ n. value.File n) e.3)

pub returns-in-Ok-Dir-clause-answers : goal.returns-in-Ok-Dir-clause-answers
returns-in-Ok-Dir-clause-answers g c = λ room mode k t s recovers.
    let f = form_of g.F.Form.VERSION in
    let o = own f (g.V.View.map c.args.view.now c.args.disk.now c.args.lot.now) in
    let names = drop c.args.depth c.args.path.now in
    let e = ends_dir (inode_on f o 0 names) _ _ (walk names t) (whole_path f o c.args.path.now c.args.depth c.len.result t _ _ c.len.ensures c.in-Ok-Dir.field-0-is (c.in-Ok-Dir.ensures.place mode k t s recovers)) in
    stat-value t k (length c.args.lot.now.groups) f names c.in_default.ensures.refusal (walk names t) refl (tree.Dir e.0) e.1 (value.Dir c.in-Ok-Dir.size) (ap (λ n. value.Dir n) e.3)

pub returns-in-Ok-Missing-clause-answers : goal.returns-in-Ok-Missing-clause-answers
returns-in-Ok-Missing-clause-answers g c = λ room mode k t s recovers.
    let f = form_of g.F.Form.VERSION in
    let o = own f (g.V.View.map c.args.view.now c.args.disk.now c.args.lot.now) in
    let names = drop c.args.depth c.args.path.now in
    let e = ends_missing (inode_on f o 0 names) (walk names t) (whole_path f o c.args.path.now c.args.depth c.len.result t _ _ c.len.ensures c.in-Ok-Missing.field-0-is (c.in-Ok-Missing.ensures.place mode k t s recovers)) in
    stat-none t k (length c.args.lot.now.groups) f names c.in_default.ensures.refusal NotFound e why.NotFound refl

pub returns-in-Ok-Blocked-clause-answers : goal.returns-in-Ok-Blocked-clause-answers
returns-in-Ok-Blocked-clause-answers g c = λ room mode k t s recovers.
    let f = form_of g.F.Form.VERSION in
    let o = own f (g.V.View.map c.args.view.now c.args.disk.now c.args.lot.now) in
    let names = drop c.args.depth c.args.path.now in
    let e = ends_blocked (inode_on f o 0 names) (walk names t) (whole_path f o c.args.path.now c.args.depth c.len.result t _ _ c.len.ensures c.in-Ok-Blocked.field-0-is (c.in-Ok-Blocked.ensures.place mode k t s recovers)) in
    stat-none t k (length c.args.lot.now.groups) f names c.in_default.ensures.refusal NotDir e why.NotDir refl

pub returns-in-Err-walk-clause-answers : goal.returns-in-Err-walk-clause-answers
returns-in-Err-walk-clause-answers g c = λ room mode k t s recovers. fault_model _ c.in-Err-walk.fault _ c.refusal_of.ensures (c.in-Err-walk.ensures.sound mode k t s recovers)
