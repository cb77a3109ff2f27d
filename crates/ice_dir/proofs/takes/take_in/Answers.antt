use Rattle.std.proofs.Common.{rules, ◌≡◌, ◌∙◌, ap, refl, sym, subst, Some, inl, arith, List, ℕ, [], ◌+◌, ◌-◌, ◌<◌, false}
use Rattle.ice_dir.proofs.SizeLaws.{sized}
use Rattle.tree_spec.specs.Costs.{form_of}
use Rattle.std.specs.List.{swap_remove}
use Rattle.ice_base.proofs.LotLaws.{sited-few}
use Rattle.ice_map.specs.Inodes.{inode_of}
use Rattle.ice_map.specs.Maps.{uses, FreeOrTwice}
use Rattle.ice_map.specs.Own.{WellMade, Confuses}
use Rattle.ice_dir.specs.Changes.{blocks_sized, DirSet, TextTaken}
use Rattle.ice_dir.specs.Rows.{row_sized, dir_rows_of}
use Rattle.ice_dir.proofs.DirLaws.{look-found, look-none, rows-read}
use Rattle.ice_dir.proofs.FaultLaws.{misled-block}
use Rattle.ice_dir.proofs.TakeLaws.{row-named}
use Rattle.ice_base.specs.Used.{counted}
use Rattle.ice_map.specs.Moves.{uses_of}
use Rattle.ice_dir.proofs.takes.take_in.Goals as goal

pub seek-requires-clause-short : goal.seek-requires-clause-short
seek-requires-clause-short g c = let few = sited-few _ _ c.requires.sited in let below = c.requires.is.few in omega arith

pub returns-in-None-clause-found : goal.returns-in-None-clause-found
returns-in-None-clause-found g c = λ s hand.
    let m = g.K.View.map c.args.keep.now c.args.disk.now c.args.lot.now in
    let rows = rows-read (form_of g.F.Form.VERSION) g.F.Form.ENTRY m m c.args.number c.args.dir.now (ap form_of g.F.Form.is_one.0) (sized g.F.Form.VERSION g.F.Form.ENTRY g.F.Form.is_one.0 g.F.Form.is_one.1)
    hand c.requires.is.kind refl in
    let none = rw c.in-None.is at (c.in_ok-seek.ensures.found s) in
    rw rows (sym (look-none (row_sized g.F.Form.ENTRY m c.args.dir.now) c.args.name.now c.args.dir.now.size (rw c.bytes.ensures.value at none)))

pub returns-in_ok-remove_row-in-Some-clause-found : goal.returns-in_ok-remove_row-in-Some-clause-found
returns-in_ok-remove_row-in-Some-clause-found g c = λ s hand.
    let m = g.K.View.map c.args.keep.now c.args.disk.now c.args.lot.now in
    let rows = rows-read (form_of g.F.Form.VERSION) g.F.Form.ENTRY m m c.args.number c.args.dir.now (ap form_of g.F.Form.is_one.0) (sized g.F.Form.VERSION g.F.Form.ENTRY g.F.Form.is_one.0 g.F.Form.is_one.1)
    hand c.requires.is.kind refl in
    let found = rw c.in-Some.is at (c.in_ok-seek.ensures.found s) in
    rw rows (ap (λ x. Some x) found.1 ∙ sym (look-found (row_sized g.F.Form.ENTRY m c.args.dir.now) c.args.name.now c.args.dir.now.size c.in-Some.k (rw c.bytes.ensures.value at found.0)))

pub returns-in_ok-remove_row-in-Some-clause-taken : goal.returns-in_ok-remove_row-in-Some-clause-taken
returns-in_ok-remove_row-in-Some-clause-taken g c = λ s hand made some.
    let lot = c.args.lot.now in
    let f = form_of g.F.Form.VERSION in
    let m0 = g.K.View.map c.args.keep.now c.args.disk.now lot in
    let m3 = g.K.View.map c.remove_row.new.keep c.remove_row.new.disk lot in
    let found = rw c.in-Some.is at (c.in_ok-seek.ensures.found s) in
    let at = row-named f g.F.Form.ENTRY m0 m0 c.args.number c.args.dir.now c.args.name.now c.in-Some.k (ap form_of g.F.Form.is_one.0) (sized g.F.Form.VERSION g.F.Form.ENTRY g.F.Form.is_one.0 g.F.Form.is_one.1) hand c.requires.is.kind refl
    (rw c.bytes.ensures.value at found.0) in
    let removed = subst (λ (m : ℕ → List ℕ). inode_of m c.args.number ≡ c.args.dir.now → WellMade lot f m c.args.number → DirSet lot f m m3 c.args.number (swap_remove (dir_rows_of f m c.args.number) c.in-Some.k ([], 0))) c.seek.ensures.looked.map
    (c.in_ok-remove_row-in-Some.ensures.removed (c.seek.ensures.looked.shows s)) (sym hand) made in
    subst (λ i. DirSet lot f m0 m3 c.args.number (swap_remove (dir_rows_of f m0 c.args.number) i ([], 0))) (sym at) removed

pub returns-in_ok-remove_row-in-Some-clause-texts : goal.returns-in_ok-remove_row-in-Some-clause-texts
returns-in_ok-remove_row-in-Some-clause-texts g c = λ s hand made some.
    let lot = c.args.lot.now in
    let f = form_of g.F.Form.VERSION in
    let m0 = g.K.View.map c.args.keep.now c.args.disk.now lot in
    let m3 = g.K.View.map c.remove_row.new.keep c.remove_row.new.disk lot in
    let found = rw c.in-Some.is at (c.in_ok-seek.ensures.found s) in
    let at = row-named f g.F.Form.ENTRY m0 m0 c.args.number c.args.dir.now c.args.name.now c.in-Some.k (ap form_of g.F.Form.is_one.0) (sized g.F.Form.VERSION g.F.Form.ENTRY g.F.Form.is_one.0 g.F.Form.is_one.1) hand c.requires.is.kind refl
    (rw c.bytes.ensures.value at found.0) in
    let removed = subst (λ (m : ℕ → List ℕ). inode_of m c.args.number ≡ c.args.dir.now → WellMade lot f m c.args.number → TextTaken f m m3 c.args.number c.in-Some.k) c.seek.ensures.looked.map
    (c.in_ok-remove_row-in-Some.ensures.texts (c.seek.ensures.looked.shows s)) (sym hand) made in
    subst (λ i. TextTaken f m0 m3 c.args.number i) (sym at) removed

pub returns-in_err-seek-clause-misled : goal.returns-in_err-seek-clause-misled
returns-in_err-seek-clause-misled g c = λ e s.
    let m = g.K.View.map c.args.keep.now c.args.disk.now c.args.lot.now in
    let p = c.in_err-seek.ensures.pointer (search rules) s in
    subst (λ n. Confuses c.args.lot.now m c.args.dir.now (blocks_sized n c.args.dir.now.size)) (sym (sized g.F.Form.VERSION g.F.Form.ENTRY g.F.Form.is_one.0 g.F.Form.is_one.1))
    (inl (misled-block c.args.lot.now g.F.Form.ENTRY m m c.args.dir.now p.0 g.F.Form.is_one.1 refl p.1 p.2))

pub returns-in_err-remove_row-in-Some-clause-unused : goal.returns-in_err-remove_row-in-Some-clause-unused
returns-in_err-remove_row-in-Some-clause-unused g c = λ e s.
    let t = c.seek.ensures.looked.shows s in
    let m = g.K.View.map c.args.keep.now c.args.disk.now c.args.lot.now in
    subst (λ n. FreeOrTwice m (uses m c.args.dir.now (blocks_sized n c.args.dir.now.size))) (sym (sized g.F.Form.VERSION g.F.Form.ENTRY g.F.Form.is_one.0 g.F.Form.is_one.1))
    (subst (λ (n : ℕ → List ℕ). FreeOrTwice n (uses n c.args.dir.now (blocks_sized g.F.Form.ENTRY c.args.dir.now.size))) c.seek.ensures.looked.map (c.in_err-remove_row-in-Some.ensures.unused (search rules) t))

pub returns-in_err-remove_row-in-Some-clause-misled : goal.returns-in_err-remove_row-in-Some-clause-misled
returns-in_err-remove_row-in-Some-clause-misled g c = λ e s.
    let t = c.seek.ensures.looked.shows s in
    let m = g.K.View.map c.args.keep.now c.args.disk.now c.args.lot.now in
    subst (λ n. Confuses c.args.lot.now m c.args.dir.now (blocks_sized n c.args.dir.now.size)) (sym (sized g.F.Form.VERSION g.F.Form.ENTRY g.F.Form.is_one.0 g.F.Form.is_one.1))
    (subst (λ (n : ℕ → List ℕ). Confuses c.args.lot.now n c.args.dir.now (blocks_sized g.F.Form.ENTRY c.args.dir.now.size)) c.seek.ensures.looked.map (c.in_err-remove_row-in-Some.ensures.misled (search rules) t))

pub returns-in_err-remove_row-in-Some-clause-zero : goal.returns-in_err-remove_row-in-Some-clause-zero
returns-in_err-remove_row-in-Some-clause-zero g c = λ e s.
    let t = c.seek.ensures.looked.shows s in
    let m = g.K.View.map c.args.keep.now c.args.disk.now c.args.lot.now in
    subst (λ n. counted false m + uses_of (blocks_sized n (c.args.dir.now.size - 1)) < uses_of (blocks_sized n c.args.dir.now.size)) (sym (sized g.F.Form.VERSION g.F.Form.ENTRY g.F.Form.is_one.0 g.F.Form.is_one.1))
    (subst (λ (n : ℕ → List ℕ). counted false n + uses_of (blocks_sized g.F.Form.ENTRY (c.args.dir.now.size - 1)) < uses_of (blocks_sized g.F.Form.ENTRY c.args.dir.now.size)) c.seek.ensures.looked.map (c.in_err-remove_row-in-Some.ensures.zero (search rules) t))
