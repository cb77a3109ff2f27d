use Rattle.std.proofs.Common.{◌∙◌, ap, sym}
use Rattle.tree_spec.specs.Costs.{form_of}
use Rattle.ice_map.specs.declared.codec.Inode.{Inode}
use Rattle.ice_dir.proofs.DirLaws.{length-rows}
use Rattle.ice_dir.proofs.looks.len.Goals as goal

pub returns-clause-rows : goal.returns-clause-rows
returns-clause-rows g c = λ s. ap (λ (i : Inode). i.size) (c.in_ok-dir_inode.ensures.value s) ∙ sym (length-rows (form_of g.F.Form.VERSION) (g.V.View.map c.args.view.now c.args.disk.now c.args.lot.now) c.args.number (ap form_of g.F.Form.is_one.0))
