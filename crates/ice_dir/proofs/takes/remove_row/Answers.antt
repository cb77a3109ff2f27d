use Rattle.std.proofs.Common.{rules, false, slice_index, refl, List, ℕ, ◌∙◌, sym, ap, inl, arith, subst, ◌≡◌, ◌≢◌, ◌-◌, ◌/◌}
use Rattle.ice_map.specs.Maps.{nth_block}
use Rattle.ice_dir.specs.Rows.{entries_in}
use Rattle.ice_dir.specs.Changes.{blocks_sized}
use Rattle.ice_dir.proofs.SizeLaws.{sized}
use Rattle.tree_spec.specs.Costs.{form_of}
use Rattle.ice_base.proofs.LotLaws.{sited-few}
use Rattle.ice_base.specs.Fields.{word_at}
use Rattle.ice_base.specs.Used.{count_place}
use Rattle.ice_map.proofs.MarkLaws.{data_not_bitmap, data_not_sub}
use Rattle.ice_map.proofs.PutsLaws.{spent-then, bitmaps-only}
use Rattle.ice_map.proofs.ShrinkLaws.{cut-sub}
use Rattle.ice_map.specs.Moves.{uses_of}
use Rattle.ice_dir.proofs.PutLaws.{made-dir}
use Rattle.ice_dir.proofs.TakeLaws.{row-free, row-misled, dir-removed, text-removed, cut-six, off-length, beside-inode, entry-gone}
use Rattle.ice_dir.proofs.takes.remove_row.Goals as goal

pub returns-in_err-move_last-clause-kept : goal.returns-in_err-move_last-clause-kept
returns-in_err-move_last-clause-kept g c = λ rule e s. beside-inode c.args.lot.now (g.K.View.map c.args.keep.now c.args.disk.now c.args.lot.now) (g.K.View.map c.move_last.new.keep c.move_last.new.disk c.args.lot.now) c.move_last.ensures.beside c.args.number

pub returns-in_err-cut-clause-kept : goal.returns-in_err-cut-clause-kept
returns-in_err-cut-clause-kept g c = λ rule e s. c.cut.ensures.stays.inodes c.args.number ∙ beside-inode c.args.lot.now (g.K.View.map c.args.keep.now c.args.disk.now c.args.lot.now) (g.K.View.map c.move_last.new.keep c.move_last.new.disk c.args.lot.now) c.move_last.ensures.beside c.args.number

pub returns-in_err-cut-clause-zero : goal.returns-in_err-cut-clause-zero
returns-in_err-cut-clause-zero g c = λ e s.
    let one = g.F.Form.is_one in
    let z = c.in_err-cut.ensures.zero (search rules) (c.move_last.ensures.spent.shows s) in
    let l = off-length g.F.Form.ENTRY (g.K.View.map c.move_last.new.keep c.move_last.new.disk c.args.lot.now) c.args.dir.now c.blocks_for_rows-count.result c.blocks_for_rows-rest.result one.1 c.blocks_for_rows-count.ensures.value c.blocks_for_rows-rest.ensures.value in
    let n = ap (λ (b : List ℕ). word_at b (count_place false)) c.move_last.ensures.counts in
    let u = ap uses_of c.blocks_for_rows-count.ensures.value in
    let v = ap uses_of c.blocks_for_rows-rest.ensures.value in
    omega arith

pub returns-in_err-cut-clause-spent : goal.returns-in_err-cut-clause-spent
returns-in_err-cut-clause-spent g c =
    let a = c.blocks_for_rows-count.ensures.sixteenth in
    let b = c.blocks_for_rows-rest.ensures.sixteenth in
    let six = cut-six c.blocks_for_rows-count.result c.blocks_for_rows-rest.result (omega arith) in
    spent-then g.D.Disk g.K.View c.args.lot.now 1 _ 8 _ _ _ _ _ _ c.move_last.ensures.spent c.cut.ensures.spent (omega arith)

pub returns-in_err-put_inode-clause-spent : goal.returns-in_err-put_inode-clause-spent
returns-in_err-put_inode-clause-spent g c =
    let a = c.blocks_for_rows-count.ensures.sixteenth in
    let b = c.blocks_for_rows-rest.ensures.sixteenth in
    let six = cut-six c.blocks_for_rows-count.result c.blocks_for_rows-rest.result (omega arith) in
    spent-then g.D.Disk g.K.View c.args.lot.now 1 7 8 _ _ _ _ _ _ c.move_last.ensures.spent
    (spent-then g.D.Disk g.K.View c.args.lot.now _ 1 7 _ _ _ _ _ _ c.cut.ensures.spent c.put_inode.ensures.spent (omega arith)) (omega arith)

pub returns-clause-spent : goal.returns-clause-spent
returns-clause-spent g c =
    let a = c.blocks_for_rows-count.ensures.sixteenth in
    let b = c.blocks_for_rows-rest.ensures.sixteenth in
    let six = cut-six c.blocks_for_rows-count.result c.blocks_for_rows-rest.result (omega arith) in
    spent-then g.D.Disk g.K.View c.args.lot.now 1 7 8 _ _ _ _ _ _ c.move_last.ensures.spent
    (spent-then g.D.Disk g.K.View c.args.lot.now _ 1 7 _ _ _ _ _ _ c.cut.ensures.spent c.put_inode.ensures.spent (omega arith)) (omega arith)

pub returns-clause-removed : goal.returns-clause-removed
returns-clause-removed g c = λ s is made.
    let lot = c.args.lot.now in
    let one = g.F.Form.is_one in
    let put = c.in_ok-move_last.ensures.put s (made-dir lot (form_of g.F.Form.VERSION) g.F.Form.ENTRY (g.K.View.map c.args.keep.now c.args.disk.now lot) c.args.number c.args.dir.now (ap form_of g.F.Form.is_one.0) (sized g.F.Form.VERSION g.F.Form.ENTRY g.F.Form.is_one.0 g.F.Form.is_one.1) is c.requires.is.kind made) in
    let t = c.move_last.ensures.spent.shows s in
    dir-removed lot (form_of g.F.Form.VERSION) g.F.Form.ENTRY (g.K.View.map c.args.keep.now c.args.disk.now lot) (g.K.View.map c.move_last.new.keep c.move_last.new.disk lot) (g.K.View.map c.cut.new.keep c.cut.new.disk lot) (g.K.View.map c.put_inode.new.keep c.put_inode.new.disk lot)
    c.args.dir.now c.cut.new.inode c.args.number c.args.k c.blocks_for_rows-count.result c.blocks_for_rows-rest.result (ap form_of g.F.Form.is_one.0) (sized g.F.Form.VERSION g.F.Form.ENTRY g.F.Form.is_one.0 g.F.Form.is_one.1) one.1 c.requires.is c.requires.below is put c.blocks_for_rows-count.ensures.value c.blocks_for_rows-rest.ensures.value
    (c.in_ok-cut.ensures.cut t) c.cut.ensures.stays c.in_ok-cut.ensures.fields (c.in_ok-put_inode.ensures.written (c.cut.ensures.spent.shows t)) c.in_ok-put_inode.ensures.puts.only

pub returns-clause-texts : goal.returns-clause-texts
returns-clause-texts g c = λ s is made.
    let lot = c.args.lot.now in
    let one = g.F.Form.is_one in
    let put = c.in_ok-move_last.ensures.put s (made-dir lot (form_of g.F.Form.VERSION) g.F.Form.ENTRY (g.K.View.map c.args.keep.now c.args.disk.now lot) c.args.number c.args.dir.now (ap form_of g.F.Form.is_one.0) (sized g.F.Form.VERSION g.F.Form.ENTRY g.F.Form.is_one.0 g.F.Form.is_one.1) is c.requires.is.kind made) in
    let t = c.move_last.ensures.spent.shows s in
    text-removed lot (form_of g.F.Form.VERSION) g.F.Form.ENTRY (g.K.View.map c.args.keep.now c.args.disk.now lot) (g.K.View.map c.move_last.new.keep c.move_last.new.disk lot) (g.K.View.map c.cut.new.keep c.cut.new.disk lot) (g.K.View.map c.put_inode.new.keep c.put_inode.new.disk lot)
    c.args.dir.now c.cut.new.inode c.args.number c.args.k c.blocks_for_rows-count.result c.blocks_for_rows-rest.result (ap form_of g.F.Form.is_one.0) (sized g.F.Form.VERSION g.F.Form.ENTRY g.F.Form.is_one.0 g.F.Form.is_one.1) one.1 c.requires.is c.requires.below is put c.blocks_for_rows-count.ensures.value c.blocks_for_rows-rest.ensures.value
    (c.in_ok-cut.ensures.cut t) c.cut.ensures.stays c.in_ok-cut.ensures.fields (c.in_ok-put_inode.ensures.written (c.cut.ensures.spent.shows t)) c.in_ok-put_inode.ensures.puts.only

pub returns-clause-left : goal.returns-clause-left
returns-clause-left g c = λ s is.
    let one = g.F.Form.is_one in
    let t = c.move_last.ensures.spent.shows s in
    let same = sized g.F.Form.VERSION g.F.Form.ENTRY g.F.Form.is_one.0 g.F.Form.is_one.1 in
    entry-gone c.args.lot.now (form_of g.F.Form.VERSION) (g.K.View.map c.args.keep.now c.args.disk.now c.args.lot.now) (g.K.View.map c.move_last.new.keep c.move_last.new.disk c.args.lot.now) (g.K.View.map c.cut.new.keep c.cut.new.disk c.args.lot.now) (g.K.View.map c.put_inode.new.keep c.put_inode.new.disk c.args.lot.now)
    c.args.dir.now c.cut.new.inode c.args.number c.args.k c.blocks_for_rows-count.result c.blocks_for_rows-rest.result (ap form_of g.F.Form.is_one.0) (sited-few _ _ c.requires.sited) c.requires.is c.requires.below is c.move_last.ensures.beside
    (c.blocks_for_rows-count.ensures.value ∙ ap (λ n. blocks_sized n c.args.dir.now.size) (sym same)) (c.blocks_for_rows-rest.ensures.value ∙ ap (λ n. blocks_sized n (c.args.dir.now.size - 1)) (sym same)) (c.in_ok-cut.ensures.cut t) c.cut.ensures.stays (c.in_ok-cut.ensures.placed t) c.in_ok-cut.ensures.fields
    (c.in_ok-put_inode.ensures.written (c.cut.ensures.spent.shows t)) c.in_ok-put_inode.ensures.puts.only (subst (λ n. (b : ℕ) → b ≢ nth_block (g.K.View.map c.args.keep.now c.args.disk.now c.args.lot.now) c.args.dir.now (c.args.k / entries_in n) → g.K.View.map c.move_last.new.keep c.move_last.new.disk c.args.lot.now b ≡ g.K.View.map c.args.keep.now c.args.disk.now c.args.lot.now b) (sym same) (c.in_ok-move_last.ensures.within s))
    (λ b d. bitmaps-only g.K.View c.args.lot.now _ _ _ _ _ _ c.cut.ensures.bitmaps b (λ e. data_not_sub c.args.lot.now b (sited-few _ _ c.requires.sited) d (sym e)) (λ o e. data_not_bitmap c.args.lot.now b o d (sym e)))

pub returns-in_err-move_last-clause-misled : goal.returns-in_err-move_last-clause-misled
returns-in_err-move_last-clause-misled g c = λ e s. inl (c.in_err-move_last.ensures.misled (search rules) s)

pub returns-in_err-cut-clause-unused : goal.returns-in_err-cut-clause-unused
returns-in_err-cut-clause-unused g c = λ e s.
    let one = g.F.Form.is_one in
    let few = c.requires.is.few in
    row-free c.args.lot.now g.F.Form.ENTRY (g.K.View.map c.args.keep.now c.args.disk.now c.args.lot.now) (g.K.View.map c.move_last.new.keep c.move_last.new.disk c.args.lot.now) c.args.dir.now c.args.k c.blocks_for_rows-count.result c.blocks_for_rows-rest.result one.1
    c.requires.below c.move_last.ensures.beside (c.in_ok-move_last.ensures.within s) c.blocks_for_rows-count.ensures.value c.blocks_for_rows-rest.ensures.value (c.in_err-cut.ensures.unused (search rules) (c.move_last.ensures.spent.shows s))

pub returns-in_err-cut-clause-misled : goal.returns-in_err-cut-clause-misled
returns-in_err-cut-clause-misled g c = λ e s.
    let one = g.F.Form.is_one in
    row-misled c.args.lot.now g.F.Form.ENTRY (g.K.View.map c.args.keep.now c.args.disk.now c.args.lot.now) (g.K.View.map c.move_last.new.keep c.move_last.new.disk c.args.lot.now) c.args.dir.now c.args.k c.blocks_for_rows-count.result one.1
    c.requires.below (c.in_ok-move_last.ensures.within s) c.blocks_for_rows-count.ensures.value (c.in_err-cut.ensures.misled (search rules) (c.move_last.ensures.spent.shows s))

pub returns-clause-sub : goal.returns-clause-sub
returns-clause-sub g c = λ s k h.
    let m1 : ℕ → List ℕ = g.K.View.map c.move_last.new.keep c.move_last.new.disk c.args.lot.now in
    cut-sub c.args.lot.now m1 m1 (g.K.View.map c.cut.new.keep c.cut.new.disk c.args.lot.now) (g.K.View.map c.put_inode.new.keep c.put_inode.new.disk c.args.lot.now)
    c.args.dir.now c.cut.new.inode c.args.number c.blocks_for_rows-count.result c.blocks_for_rows-rest.result refl (c.in_ok-cut.ensures.cut (c.move_last.ensures.spent.shows s)) c.in_ok-put_inode.ensures.puts.only k h
    ∙ ap (λ (b : List ℕ). slice_index b k) c.move_last.ensures.counts
