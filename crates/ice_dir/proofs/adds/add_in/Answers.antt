use Rattle.std.proofs.Common.{ℕ, List, slice_index, ◌∙◌, sym, ap, arith}
use Rattle.ice_dir.proofs.SizeLaws.{sized}
use Rattle.tree_spec.specs.Costs.{form_of}
use Rattle.ice_base.proofs.LotLaws.{sited-few}
use Rattle.ice_base.specs.Lots.{sub_address}
use Rattle.ice_map.proofs.GrowLaws.{inode_not_sub}
use Rattle.ice_dir.proofs.PutLaws.{dir-added, text-added, made-dir}
use Rattle.ice_dir.proofs.adds.add_in.Goals as goal

pub append-requires-clause-short : goal.append-requires-clause-short
append-requires-clause-short g c = let few = sited-few _ _ c.requires.sited in let room = c.requires.is.room in omega arith

pub overflow_add-longer : goal.overflow_add-longer
overflow_add-longer g c =
    let few = sited-few _ _ c.requires.sited in
    let room = c.requires.is.room in
    let same = c.in_ok-append.ensures.size in
    omega arith

pub returns-clause-added : goal.returns-clause-added
returns-clause-added g c = λ s hand made.
    let f = form_of g.F.Form.VERSION in
    let entry = g.F.Form.ENTRY in
    let same = sized g.F.Form.VERSION g.F.Form.ENTRY g.F.Form.is_one.0 g.F.Form.is_one.1 in
    let version = ap form_of g.F.Form.is_one.0 in
    let lot = c.args.lot.now in
    let x = c.args.dir.now in
    let m0 = g.K.View.map c.args.keep.now c.args.disk.now lot in
    let m1 = g.K.View.map c.append.new.keep c.append.new.disk lot in
    let m2 = g.K.View.map c.put_inode.new.keep c.put_inode.new.disk lot in
    let is = c.requires.is.is in
    let before = sym hand in
    let put = c.in_ok-append.ensures.put s (made-dir lot f entry m0 c.args.number x version same before is.kind made) in
    let set = c.in_ok-put_inode.ensures.written (c.append.ensures.spent.shows s) in
    rw (sym c.bytes.ensures.value) (dir-added lot f entry m0 m1 m2 x c.append.new.dir c.args.number (c.bytes.result.now, c.args.inode) put.0 version same g.F.Form.is_one.1 is c.requires.is.room before put.2 put.1 set c.put_inode.ensures.puts.only)

pub returns-clause-text : goal.returns-clause-text
returns-clause-text g c = λ s hand made.
    let f = form_of g.F.Form.VERSION in
    let entry = g.F.Form.ENTRY in
    let same = sized g.F.Form.VERSION g.F.Form.ENTRY g.F.Form.is_one.0 g.F.Form.is_one.1 in
    let version = ap form_of g.F.Form.is_one.0 in
    let lot = c.args.lot.now in
    let x = c.args.dir.now in
    let m0 = g.K.View.map c.args.keep.now c.args.disk.now lot in
    let m1 = g.K.View.map c.append.new.keep c.append.new.disk lot in
    let m2 = g.K.View.map c.put_inode.new.keep c.put_inode.new.disk lot in
    let is = c.requires.is.is in
    let before = sym hand in
    let put = c.in_ok-append.ensures.put s (made-dir lot f entry m0 c.args.number x version same before is.kind made) in
    let set = c.in_ok-put_inode.ensures.written (c.append.ensures.spent.shows s) in
    rw (sym c.bytes.ensures.value) (text-added lot f entry m0 m1 m2 x c.append.new.dir c.args.number (c.bytes.result.now, c.args.inode) put.0 version same g.F.Form.is_one.1 is c.requires.is.room before put.2 put.1 set c.put_inode.ensures.puts.only)

pub returns-clause-sub : goal.returns-clause-sub
returns-clause-sub g c = λ s k h.
    ap (λ (b : List ℕ). slice_index b k) (c.put_inode.ensures.puts.only sub_address (λ e. inode_not_sub c.args.number (sym e)))
    ∙ c.in_ok-append.ensures.sub s k h
