use Rattle.std.proofs.Common.{false, ap, ◌∙◌, sym}
use Rattle.ice_pool.proofs.EitherLaws.{gave_by, bit_used}
use Rattle.ice_pool.proofs.change.give.Goals as goal

pub returns-then-not-bit-clause-unused : goal.returns-then-not-bit-clause-unused
returns-then-not-bit-clause-unused g c = λ _ t.
    let e = c.in_ok-fetch.ensures.content t in
    bit_used c.args.inodes (g.K.View.map c.args.keep.now c.args.disk.now c.args.lot.now) c.fetch.new.into c.args.given c.place_in-place.result false
    (sym c.bit.ensures ∙ c.if-not-bit.true) c.place_in-place.ensures (e ∙ ap (g.K.View.map c.args.keep.now c.args.disk.now c.args.lot.now) c.bitmap_at-at.ensures)

pub returns-clause-gave : goal.returns-clause-gave
returns-clause-gave g c = λ t.
    let e = c.in_ok-fetch.ensures.content t in
    let s1 = c.fetch.ensures.looked.shows t in
    let s2 = c.move_count.ensures.looked.shows s1 in
    let m1 = c.fetch.ensures.looked.map in
    let m2 = c.move_count.ensures.looked.map in
    let moved = c.in_ok-move_count.ensures.counts s1 in
    gave_by c.args.inodes (g.K.View.map c.args.keep.now c.args.disk.now c.args.lot.now) (g.K.View.map c.put_both.new.keep c.put_both.new.disk c.args.lot.now)
    c.fetch.new.into c.clear.new.block c.move_count.new.sub c.args.given c.place_in-place.result
    (sym c.bit.ensures ∙ c.if-not-bit.false) c.place_in-place.ensures (e ∙ ap (g.K.View.map c.args.keep.now c.args.disk.now c.args.lot.now) c.bitmap_at-at.ensures) c.clear.ensures
    (rw (sym m1) moved)
    (rw (sym c.bitmap_at-at.ensures) (c.in_ok-put_both.ensures.bitmap s2))
    (c.in_ok-put_both.ensures.sub s2)
    (λ b p q. let o = c.in_ok-put_both.ensures.puts.only b p (λ e. q (e ∙ c.bitmap_at-at.ensures)) in cc)
