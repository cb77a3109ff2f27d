use Rattle.std.proofs.Common.{rules, ◌-◌, ◌/◌, ◌∙◌, ℕ, List, refl, sym, ap, arith}
use Rattle.ice_map.specs.Maps.{nth_block}
use Rattle.ice_base.specs.Lots.{sub_address}
use Rattle.ice_base.proofs.LotLaws.{sited-few}
use Rattle.ice_map.proofs.MarkLaws.{data_not_sub}
use Rattle.ice_dir.proofs.FaultLaws.{misled-row}
use Rattle.ice_dir.proofs.TakeLaws.{row-moved, not-at}
use Rattle.ice_dir.proofs.takes.move_last.Goals as goal

pub returns-in_err-store-clause-beside : goal.returns-in_err-store-clause-beside
returns-in_err-store-clause-beside g c = λ b d.
    let m = c.read_block.ensures.looked.map in
    let n = c.read_block-2.ensures.looked.map in
    let o = c.store.ensures.puts.only b (not-at c.args.lot.now c.in_ok-at.at b c.in_ok-at.ensures.data d) in
    cc

pub returns-clause-beside : goal.returns-clause-beside
returns-clause-beside g c = λ b d.
    let m = c.read_block.ensures.looked.map in
    let n = c.read_block-2.ensures.looked.map in
    let o = c.store.ensures.puts.only b (not-at c.args.lot.now c.in_ok-at.at b c.in_ok-at.ensures.data d) in
    cc

pub returns-in_err-store-clause-counts : goal.returns-in_err-store-clause-counts
returns-in_err-store-clause-counts g c =
    let m = c.read_block.ensures.looked.map in
    let n = c.read_block-2.ensures.looked.map in
    let o = c.store.ensures.puts.only sub_address (data_not_sub c.args.lot.now c.in_ok-at.at (sited-few _ _ c.requires.sited) c.in_ok-at.ensures.data) in
    cc

pub returns-clause-counts : goal.returns-clause-counts
returns-clause-counts g c =
    let m = c.read_block.ensures.looked.map in
    let n = c.read_block-2.ensures.looked.map in
    let o = c.store.ensures.puts.only sub_address (data_not_sub c.args.lot.now c.in_ok-at.at (sited-few _ _ c.requires.sited) c.in_ok-at.ensures.data) in
    cc

pub returns-clause-put : goal.returns-clause-put
returns-clause-put g c = λ s made.
    let lot = c.args.lot.now in
    let one = g.F.Form.is_one in
    let t = c.read_block.ensures.looked.shows s in
    row-moved lot g.F.Form.ENTRY (g.K.View.map c.args.keep.now c.args.disk.now lot) (g.K.View.map c.read_block.new.view c.read_block.new.disk lot) (g.K.View.map c.read_block-2.new.view c.read_block-2.new.disk lot) (g.K.View.map c.store.new.keep c.store.new.disk lot)
    c.args.dir.now c.args.k c.rows_per_block-per_block.result c.in_ok-at.at c.row_place-2.result c.row_place.result c.read_block.new.into c.read_block-2.new.into c.copy_row.new.into one.1 made (sited-few _ _ c.requires.sited) c.requires.below
    c.rows_per_block-per_block.ensures.value c.read_block.ensures.looked.map c.read_block-2.ensures.looked.map (c.in_ok-read_block.ensures.content s) (c.in_ok-at.ensures.content t) (c.in_ok-at.ensures.block t)
    c.read_block-2.array_long c.copy_row.array_long c.row_place-2.ensures.value c.row_place.ensures.value c.copy_row.ensures.others c.copy_row.ensures.text
    (c.in_ok-store.ensures.content (c.read_block-2.ensures.looked.shows t)) c.store.ensures.puts.only

pub returns-in_err-read_block-clause-misled : goal.returns-in_err-read_block-clause-misled
returns-in_err-read_block-clause-misled g c = λ e s.
    let one = g.F.Form.is_one in
    misled-row c.args.lot.now g.F.Form.ENTRY (g.K.View.map c.args.keep.now c.args.disk.now c.args.lot.now) (g.K.View.map c.args.keep.now c.args.disk.now c.args.lot.now) c.args.dir.now (c.args.dir.now.size - 1) c.rows_per_block-per_block.result one.1
    refl c.rows_per_block-per_block.ensures.value (let b = c.requires.below in omega arith) (c.in_err-read_block.ensures.pointer (search rules) s)

pub returns-in_err-at-clause-misled : goal.returns-in_err-at-clause-misled
returns-in_err-at-clause-misled g c = λ e s.
    let one = g.F.Form.is_one in
    misled-row c.args.lot.now g.F.Form.ENTRY (g.K.View.map c.args.keep.now c.args.disk.now c.args.lot.now) (g.K.View.map c.read_block.new.view c.read_block.new.disk c.args.lot.now) c.args.dir.now c.args.k c.rows_per_block-per_block.result one.1
    (sym c.read_block.ensures.looked.map) c.rows_per_block-per_block.ensures.value c.requires.below (c.in_err-at.ensures.pointer (search rules) (c.read_block.ensures.looked.shows s))

pub returns-clause-within : goal.returns-clause-within
returns-clause-within g c = λ s b other.
    let m = c.read_block.ensures.looked.map in
    let n = c.read_block-2.ensures.looked.map in
    let at = c.in_ok-at.ensures.block (c.read_block.ensures.looked.shows s)
    ∙ ap (λ (m : ℕ → List ℕ). nth_block m c.args.dir.now (c.args.k / c.rows_per_block-per_block.result)) m
    ∙ ap (λ p. nth_block (g.K.View.map c.args.keep.now c.args.disk.now c.args.lot.now) c.args.dir.now (c.args.k / p)) c.rows_per_block-per_block.ensures.value in
    c.store.ensures.puts.only b (λ e. other (e ∙ at)) ∙ ap (λ (m : ℕ → List ℕ). m b) (n ∙ m)
