use Rattle.std.proofs.Common.{ap, arith}
use Rattle.tree_spec.specs.Costs.{form_of}
use Rattle.ice_file.proofs.FileLaws.{unmade}
use Rattle.ice_file.proofs.reads.read_at.Goals as goal

pub returns-clause-unmade : goal.returns-clause-unmade
returns-clause-unmade g c = λ e s.
    let p = c.read_in.ensures.pointer e (c.file_inode.ensures.looked.shows s) in
    unmade c.args.lot.now (g.V.View.map c.args.view.now c.args.disk.now c.args.lot.now) (g.V.View.map c.file_inode.new.view c.file_inode.new.disk c.args.lot.now) c.in_ok-inode.inode (form_of g.F.Form.VERSION) (ap form_of g.F.Form.is_one.0) c.args.number c.args.at p.0 c.in_ok-inode.inode.size
    c.file_inode.ensures.looked.map (c.in_ok-inode.ensures.value s) c.in_ok-inode.ensures.reaches p.1 (omega arith) p.2
