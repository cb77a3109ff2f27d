use Rattle.std.proofs.Common.{◌∙◌, ap, sym, Some, arith}
use Rattle.ice_dir.proofs.SizeLaws.{sized}
use Rattle.tree_spec.specs.Costs.{form_of}
use Rattle.ice_base.proofs.LotLaws.{sited-few}
use Rattle.ice_dir.specs.Rows.{row_sized}
use Rattle.ice_dir.proofs.DirLaws.{look-found, look-none, rows-at-sized}
use Rattle.ice_dir.proofs.looks.find_in.Goals as goal

pub seek-requires-clause-short : goal.seek-requires-clause-short
seek-requires-clause-short g c = let few = sited-few _ _ c.requires.sited in let below = c.requires.is.few in omega arith

pub returns-in-None-clause-found : goal.returns-in-None-clause-found
returns-in-None-clause-found g c = λ s.
    let m = g.V.View.map c.args.view.now c.args.disk.now c.args.lot.now in
    let rows = rows-at-sized (form_of g.F.Form.VERSION) g.F.Form.ENTRY m c.args.inode.now (ap form_of g.F.Form.is_one.0) (sized g.F.Form.VERSION g.F.Form.ENTRY g.F.Form.is_one.0 g.F.Form.is_one.1) c.requires.is.kind in
    let none = rw c.in-None.is at (c.in_ok-seek.ensures.found s) in
    rw rows (sym (look-none (row_sized g.F.Form.ENTRY m c.args.inode.now) c.args.name.now c.args.inode.now.size (rw c.bytes.ensures.value at none)))

pub returns-in-Some-clause-found : goal.returns-in-Some-clause-found
returns-in-Some-clause-found g c = λ s.
    let m = g.V.View.map c.args.view.now c.args.disk.now c.args.lot.now in
    let rows = rows-at-sized (form_of g.F.Form.VERSION) g.F.Form.ENTRY m c.args.inode.now (ap form_of g.F.Form.is_one.0) (sized g.F.Form.VERSION g.F.Form.ENTRY g.F.Form.is_one.0 g.F.Form.is_one.1) c.requires.is.kind in
    let found = rw c.in-Some.is at (c.in_ok-seek.ensures.found s) in
    rw rows (ap (λ x. Some x) found.1 ∙ sym (look-found (row_sized g.F.Form.ENTRY m c.args.inode.now) c.args.name.now c.args.inode.now.size c.in-Some.field-0-0 (rw c.bytes.ensures.value at found.0)))
