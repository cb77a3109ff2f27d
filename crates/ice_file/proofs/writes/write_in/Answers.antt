use Rattle.std.proofs.Common.{ap, refl, arith}
use Rattle.tree_spec.specs.Costs.{form_of}
use Rattle.ice_file.proofs.FileLaws.{made-file, write-all}
use Rattle.ice_map.proofs.GrowthLaws.{sub-put}
use Rattle.ice_file.proofs.writes.write_in.Goals as goal

pub returns-clause-written : goal.returns-clause-written
returns-clause-written g c = λ s is made.
    let lot = c.args.lot.now in
    let form = form_of g.F.Form.VERSION in
    let one = ap form_of g.F.Form.is_one.0 in
    let m = g.K.View.map c.args.keep.now c.args.disk.now lot in
    let x = c.args.inode.now in
    let r = c.requires.reaches in
    let w = c.in_ok-write_blocks.ensures.written s (made-file lot m m x form one c.args.number refl is r.kind made) in
    write-all lot m (g.K.View.map c.write_blocks.new.keep c.write_blocks.new.disk lot) (g.K.View.map c.put_inode.new.keep c.put_inode.new.disk lot)
    x c.write_blocks.new.inode form one c.args.number c.args.at c.max.result c.args.bytes.now is r w (omega arith) (c.in_ok-put_inode.ensures.written (c.write_blocks.ensures.spent.shows s)) c.in_ok-put_inode.ensures.puts.only

pub returns-clause-sub : goal.returns-clause-sub
returns-clause-sub g c = λ s.
    let w = c.in_ok-write_blocks.ensures.grew s in
    sub-put c.args.lot.now (g.K.View.map c.args.keep.now c.args.disk.now c.args.lot.now) (g.K.View.map c.args.keep.now c.args.disk.now c.args.lot.now) (g.K.View.map c.write_blocks.new.keep c.write_blocks.new.disk c.args.lot.now) (g.K.View.map c.put_inode.new.keep c.put_inode.new.disk c.args.lot.now)
    _ c.args.number refl w.marked c.in_ok-put_inode.ensures.puts.only
