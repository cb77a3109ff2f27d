use Rattle.std.proofs.Common.{Err, sym, subst}
use Rattle.tree_spec.specs.Own as order
use Rattle.tree_spec.specs.declared.reply.Refusal.{Refusal}
use Rattle.tree_spec.specs.declared.reply.Refusal.TheVariants as code
use Rattle.ice_base.specs.Lots.{LotView}
use Rattle.ice_volume.specs.Orders.{AnswersOrder, IsCellOf, told_number}
use Rattle.ice_volume.specs.declared.cell.Cell.{Cell}
use Rattle.ice_volume.specs.declared.cell.Cell.TheVariants.{Closed, Open}
use Rattle.ice_volume.proofs.Telling.{closed_order, stopped_order, sync_order}
use Rattle.ice_volume.proofs.orders.sync_cell.Goals as goal

pub returns-in-Closed : goal.returns-in-Closed
returns-in-Closed g c = λ lot room at.
    let state = g.D.Disk.state in let left = g.D.Disk.left in let d = c.args.disk.now in
    subst (λ (x : Cell). AnswersOrder state left lot order.Sync c.args.offline x x room (Err c.closed_refusal.result) d d) (sym c.in-Closed.is)
    (subst (λ (r : Refusal). AnswersOrder state left lot order.Sync c.args.offline Closed Closed room (Err r) d d) (sym c.closed_refusal.ensures) (closed_order state left lot order.Sync tt c.args.offline room d))

pub returns-in-Stopped : goal.returns-in-Stopped
returns-in-Stopped g c = λ lot room at.
    let state = g.D.Disk.state in let left = g.D.Disk.left in let d = c.args.disk.now in
    subst (λ (x : Cell). AnswersOrder state left lot order.Sync c.args.offline x x room (Err code.Stopped) d d) (sym c.in-Stopped.is) (stopped_order state left lot order.Sync tt c.args.offline room d)

pub returns-in-Open : goal.returns-in-Open
returns-in-Open g c = λ lot room at.
    let state = g.D.Disk.state in let left = g.D.Disk.left in let a = c.args.disk.now in let b = c.sync.new.disk in let e = c.in-Open.cube in let f = c.sync.new.self in
    subst (λ (x : Cell). AnswersOrder state left lot order.Sync c.args.offline x (Open f) room c.told_number.result a b) (sym c.in-Open.is)
    (subst (λ r. AnswersOrder state left lot order.Sync c.args.offline (Open e) (Open f) room r a b) (sym c.told_number.ensures)
    (subst (λ (l : LotView). AnswersOrder state left l order.Sync c.args.offline (Open e) (Open f) room (told_number c.sync.result) a b) (subst (IsCellOf lot) c.in-Open.is at)
    (sync_order state left e f a b c.args.offline room c.sync.result (record {
      lot = c.sync.ensures.lot;
      answer = c.sync.ensures.answer;
      stopped = c.sync.ensures.stopped;
      untouched = c.sync.ensures.untouched;
      only = c.sync.ensures.only;
      failed = c.sync.ensures.failed;
      goes_on = c.sync.ensures.goes_on;
      stops = c.sync.ensures.stops;
      within = c.sync.ensures.within;
      crash = c.sync.ensures.crash;
      settled = c.sync.ensures.settled;
      kept = c.sync.ensures.kept;
    }))))
