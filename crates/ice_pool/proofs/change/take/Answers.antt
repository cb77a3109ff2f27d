use Rattle.std.proofs.Common.{◌/◌, Result, Ok, Err, OnErr, false, ◌∙◌, sym}
use Rattle.ice_base.specs.Used.{bits_of}
use Rattle.ice_base.proofs.PutsLaws.{puts_after}
use Rattle.ice_base.proofs.UsedLaws.{ordinal_below}
use Rattle.ice_pool.proofs.EitherLaws.{took_by}
use Rattle.ice_pool.proofs.change.take.Goals as goal

pub returns-clause-took : goal.returns-clause-took
returns-clause-took g c = λ t.
    let s1 = c.find.ensures.looked.shows t in
    let s2 = c.move_count.ensures.looked.shows s1 in
    let m1 = c.find.ensures.looked.map in
    let m2 = c.move_count.ensures.looked.map in
    let moved = c.in_ok-move_count.ensures.counts s1 in
    took_by c.args.inodes (g.K.View.map c.args.keep.now c.args.disk.now c.args.lot.now) (g.K.View.map c.put_both.new.keep c.put_both.new.disk c.args.lot.now)
    c.find.new.block c.set.new.block c.move_count.new.sub c.in_ok-taken.taken c.place_in.result
    (c.in_ok-taken.ensures.least t) c.place_in.ensures (c.in_ok-taken.ensures.block t) c.set.ensures
    (rw (sym m1) moved)
    (rw (sym c.bitmap_at.ensures) (c.in_ok-put_both.ensures.bitmap s2))
    (c.in_ok-put_both.ensures.sub s2)
    (λ b p q. let o = c.in_ok-put_both.ensures.puts.only b p (λ e. q (e ∙ c.bitmap_at.ensures)) in cc)

on_err : {T E : Type 0} (r : Result T E) (P : Type 0) → P → OnErr r P
on_err (Ok x) P p = tt
on_err (Err e) P p = p

pub returns-in_err-put_both-clause-broken : goal.returns-in_err-put_both-clause-broken
returns-in_err-put_both-clause-broken g c = on_err c.from_residual-in_err-put_both.result _ (
  c.in_ok-taken.taken / bits_of c.args.inodes,
  ordinal_below c.args.inodes c.in_ok-taken.taken _ c.in_ok-taken.ensures.number,
  rw (sym c.bitmap_at.ensures)
      (puts_after g.D.Disk g.K.View c.args.lot.now false _ c.args.keep.now c.args.disk.now c.find.new.view c.find.new.disk c.put_both.new.keep c.put_both.new.disk c.find.ensures.looked
      (puts_after g.D.Disk g.K.View c.args.lot.now false _ c.find.new.view c.find.new.disk c.move_count.new.view c.move_count.new.disk c.put_both.new.keep c.put_both.new.disk c.move_count.ensures.looked
      c.in_err-put_both.ensures.puts)),
)
