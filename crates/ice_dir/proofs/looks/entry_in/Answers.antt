use Rattle.std.proofs.Common.{◌∙◌, ◌/◌, ap, sym, Some, ◌≡◌, List, ℕ}
use Rattle.ice_dir.proofs.SizeLaws.{sized}
use Rattle.tree_spec.specs.Costs.{form_of}
use Rattle.tree_spec.specs.Names.{is_name}
use Rattle.ice_dir.specs.Rows.{row_at}
use Rattle.ice_dir.proofs.DirLaws.{read-row}
use Rattle.ice_dir.proofs.looks.entry_in.Goals as goal

pub returns-in-None-clause-name : goal.returns-in-None-clause-name
returns-in-None-clause-name g c = λ e s.
    let row = read-row (form_of g.F.Form.VERSION) g.F.Form.ENTRY (g.V.View.map c.args.view.now c.args.disk.now c.args.lot.now) c.args.k _ c.row_place-at.result c.args.inode.now c.read_block.new.into (ap form_of g.F.Form.is_one.0) (sized g.F.Form.VERSION g.F.Form.ENTRY g.F.Form.is_one.0 g.F.Form.is_one.1) c.requires.is.kind c.if-k-inode.false
    (ap (λ x. c.args.k / x) c.rows_per_block.ensures.value) c.row_place-at.ensures.value (c.in_ok-read_block.ensures.content s) in
    rw row (ap is_name (sym c.read_name.ensures.name) ∙ c.in-None.ensures)

pub returns-in-Some-clause-row : goal.returns-in-Some-clause-row
returns-in-Some-clause-row g c = λ s.
    let row = read-row (form_of g.F.Form.VERSION) g.F.Form.ENTRY (g.V.View.map c.args.view.now c.args.disk.now c.args.lot.now) c.args.k _ c.row_place-at.result c.args.inode.now c.read_block.new.into (ap form_of g.F.Form.is_one.0) (sized g.F.Form.VERSION g.F.Form.ENTRY g.F.Form.is_one.0 g.F.Form.is_one.1) c.requires.is.kind c.if-k-inode.false
    (ap (λ x. c.args.k / x) c.rows_per_block.ensures.value) c.row_place-at.ensures.value (c.in_ok-read_block.ensures.content s) in
    let named : c.in-Some.name ≡ (row_at g.F.Form.ENTRY c.read_block.new.into c.row_place-at.result).0 = c.in-Some.ensures.0 ∙ c.read_name.ensures.name in
    row ∙ ap (λ (x : List ℕ). Some (x, (row_at g.F.Form.ENTRY c.read_block.new.into c.row_place-at.result).1)) (sym named) ∙ ap (λ x. Some (c.in-Some.name, x)) (sym c.read_number.ensures)
