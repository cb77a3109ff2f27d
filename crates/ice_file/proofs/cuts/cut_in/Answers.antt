use Rattle.std.proofs.Common.{rules, ◌≤◌, ◌*◌, ℕ, List, true, ap, refl, sym, ◌∙◌, arith}
use Rattle.tree_spec.specs.Costs.{form_of}
use Rattle.ice_map.proofs.GrowLaws.{inode_not_bitmap}
use Rattle.ice_map.proofs.MarkLaws.{used-same}
use Rattle.std.proofs.lemmas.Bool.Decides.{nat_tests}
use Rattle.ice_map.proofs.PutsLaws.{spent-then}
use Rattle.ice_map.specs.Maps.{cut_room}
use Rattle.ice_map.proofs.ShrinkLaws.{cut-sub}
use Rattle.ice_file.proofs.FileLaws.{cut-all, cut-most}
use Rattle.ice_file.proofs.cuts.cut_in.Goals as goal

few-cut : (count rest : ℕ) → cut_room count rest ≤ 66
few-cut count rest = grind (arith, nat_tests)

pub returns-in_err-put_inode-clause-spent : goal.returns-in_err-put_inode-clause-spent
returns-in_err-put_inode-clause-spent g c =
    let few = few-cut c.map_length-count.result c.map_length-rest.result in
    spent-then g.D.Disk g.K.View c.args.lot.now _ 1 72 _ _ _ _ _ _ c.cut.ensures.spent c.put_inode.ensures.spent (omega arith)

pub returns-clause-spent : goal.returns-clause-spent
returns-clause-spent g c =
    let few = few-cut c.map_length-count.result c.map_length-rest.result in
    spent-then g.D.Disk g.K.View c.args.lot.now _ 1 72 _ _ _ _ _ _ c.cut.ensures.spent c.put_inode.ensures.spent (omega arith)

pub returns-clause-cut : goal.returns-clause-cut
returns-clause-cut g c = λ s is made.
    let lot = c.args.lot.now in
    let m = g.K.View.map c.args.keep.now c.args.disk.now lot in
    cut-all lot m (g.K.View.map c.cut.new.keep c.cut.new.disk lot) (g.K.View.map c.put_inode.new.keep c.put_inode.new.disk lot)
    c.args.inode.now c.cut.new.inode (form_of g.F.Form.VERSION) (ap form_of g.F.Form.is_one.0) c.args.number c.args.len c.map_length-count.result c.map_length-rest.result is c.requires.reaches (omega arith) (omega arith)
    (c.in_ok-cut.ensures.cut s) c.cut.ensures.stays c.in_ok-cut.ensures.fields (c.in_ok-put_inode.ensures.written (c.cut.ensures.spent.shows s)) c.in_ok-put_inode.ensures.puts.only made

pub returns-clause-sub : goal.returns-clause-sub
returns-clause-sub g c = λ s.
    let m = g.K.View.map c.args.keep.now c.args.disk.now c.args.lot.now in
    cut-sub c.args.lot.now m m (g.K.View.map c.cut.new.keep c.cut.new.disk c.args.lot.now) (g.K.View.map c.put_inode.new.keep c.put_inode.new.disk c.args.lot.now)
    c.args.inode.now c.cut.new.inode c.args.number c.map_length-count.result c.map_length-rest.result refl (c.in_ok-cut.ensures.cut s) c.in_ok-put_inode.ensures.puts.only

pub returns-in_err-cut-clause-zero : goal.returns-in_err-cut-clause-zero
returns-in_err-cut-clause-zero g c = λ e s.
    let z = c.in_err-cut.ensures.zero (search rules) s in
    let l = cut-most (g.K.View.map c.args.keep.now c.args.disk.now c.args.lot.now) c.args.inode.now (form_of g.F.Form.VERSION) c.args.len c.map_length-count.result c.map_length-rest.result c.requires.reaches (omega arith) (omega arith) in
    omega arith

pub returns-clause-inodes : goal.returns-clause-inodes
returns-clause-inodes g c = λ s i.
    let lot = c.args.lot.now in
    let m1 : ℕ → List ℕ = g.K.View.map c.cut.new.keep c.cut.new.disk lot in
    let m2 : ℕ → List ℕ = g.K.View.map c.put_inode.new.keep c.put_inode.new.disk lot in
    used-same true m1 m2 i (λ o. c.in_ok-put_inode.ensures.puts.only (256 * o) (λ e. inode_not_bitmap c.args.number o (sym e)))
    ∙ (c.in_ok-cut.ensures.cut s).gave.inodes i
