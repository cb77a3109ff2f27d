use Rattle.std.proofs.Common.{ap, drop}
use Rattle.tree_spec.specs.Costs.{form_of}
use Rattle.tree_spec.specs.Trees.{walk}
use Rattle.ice_map.specs.Own.{own}
use Rattle.ice_reads.specs.Reads.{inode_on}
use Rattle.ice_look.specs.Stages.{dir_refusal}
use Rattle.ice_look.proofs.LookLaws.{ends_file, ends_dir, ends_missing, ends_blocked, whole_path, fault_as}
use Rattle.ice_look.proofs.looks.dir_at.Goals as goal

pub returns-in-Ok-File-clause-found : goal.returns-in-Ok-File-clause-found
returns-in-Ok-File-clause-found g c = λ mode k t s recovers.
    let f = form_of g.F.Form.VERSION in
    let o = own f (g.V.View.map c.args.view.now c.args.disk.now c.args.lot.now) in
    ap dir_refusal (ends_file (inode_on f o 0 (drop c.args.depth c.args.path.now)) _ _ (walk (drop c.args.depth c.args.path.now) t) (whole_path f o c.args.path.now c.args.depth c.len.result t _ _ c.len.ensures c.in-Ok-File.field-0-is (c.in-Ok-File.ensures.place mode k t s recovers))).1

pub returns-in-Ok-Dir-clause-found : goal.returns-in-Ok-Dir-clause-found
returns-in-Ok-Dir-clause-found g c = λ mode k t s recovers.
    let f = form_of g.F.Form.VERSION in
    let o = own f (g.V.View.map c.args.view.now c.args.disk.now c.args.lot.now) in
    let e = ends_dir (inode_on f o 0 (drop c.args.depth c.args.path.now)) _ _ (walk (drop c.args.depth c.args.path.now) t) (whole_path f o c.args.path.now c.args.depth c.len.result t _ _ c.len.ensures c.in-Ok-Dir.field-0-is (c.in-Ok-Dir.ensures.place mode k t s recovers)) in
    record { inside = e.0; there = e.1; number = e.2; count = e.3 }

pub returns-in-Ok-Missing-clause-found : goal.returns-in-Ok-Missing-clause-found
returns-in-Ok-Missing-clause-found g c = λ mode k t s recovers.
    let f = form_of g.F.Form.VERSION in
    let o = own f (g.V.View.map c.args.view.now c.args.disk.now c.args.lot.now) in
    ap dir_refusal (ends_missing (inode_on f o 0 (drop c.args.depth c.args.path.now)) (walk (drop c.args.depth c.args.path.now) t) (whole_path f o c.args.path.now c.args.depth c.len.result t _ _ c.len.ensures c.in-Ok-Missing.field-0-is (c.in-Ok-Missing.ensures.place mode k t s recovers)))

pub returns-in-Ok-Blocked-clause-found : goal.returns-in-Ok-Blocked-clause-found
returns-in-Ok-Blocked-clause-found g c = λ mode k t s recovers.
    let f = form_of g.F.Form.VERSION in
    let o = own f (g.V.View.map c.args.view.now c.args.disk.now c.args.lot.now) in
    ap dir_refusal (ends_blocked (inode_on f o 0 (drop c.args.depth c.args.path.now)) (walk (drop c.args.depth c.args.path.now) t) (whole_path f o c.args.path.now c.args.depth c.len.result t _ _ c.len.ensures c.in-Ok-Blocked.field-0-is (c.in-Ok-Blocked.ensures.place mode k t s recovers)))

pub returns-in-Err-clause-found : goal.returns-in-Err-clause-found
returns-in-Err-clause-found g c = λ mode k t s recovers. fault_as _ c.in-Err.fault _ c.refusal_of.ensures (c.in-Err.ensures.sound mode k t s recovers)
