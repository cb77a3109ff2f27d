use Rattle.std.proofs.Common.{Err, sym, subst}
use Rattle.tree_spec.specs.Own as order
use Rattle.tree_spec.specs.declared.reply.Refusal.{Refusal}
use Rattle.tree_spec.specs.declared.reply.Refusal.TheVariants as code
use Rattle.ice_base.specs.Lots.{LotView}
use Rattle.ice_volume.specs.Orders.{AnswersOrder, IsCellOf}
use Rattle.ice_volume.specs.declared.cell.Cell.{Cell}
use Rattle.ice_volume.specs.declared.cell.Cell.TheVariants.{Closed, Open}
use Rattle.ice_volume.proofs.Telling.{closed_order, stopped_order}
use Rattle.ice_volume.proofs.Asking.{command_order}
use Rattle.ice_volume.proofs.orders.tree_cell.Goals as goal

pub returns-in-Closed : goal.returns-in-Closed
returns-in-Closed g c = λ lot op asks at.
    let state = g.D.Disk.state in let left = g.D.Disk.left in let d = c.args.disk.now in let o = order.OnTree op in let room = c.args.room.now in
    subst (λ (x : Cell). AnswersOrder state left lot o c.args.offline x x room (Err c.closed_refusal.result) d d) (sym c.in-Closed.is)
    (subst (λ (r : Refusal). AnswersOrder state left lot o c.args.offline Closed Closed room (Err r) d d) (sym c.closed_refusal.ensures) (closed_order state left lot o tt c.args.offline room d))

pub returns-in-Stopped : goal.returns-in-Stopped
returns-in-Stopped g c = λ lot op asks at.
    let state = g.D.Disk.state in let left = g.D.Disk.left in let d = c.args.disk.now in let o = order.OnTree op in let room = c.args.room.now in
    subst (λ (x : Cell). AnswersOrder state left lot o c.args.offline x x room (Err code.Stopped) d d) (sym c.in-Stopped.is) (stopped_order state left lot o tt c.args.offline room d)

pub returns-in-Open : goal.returns-in-Open
returns-in-Open g c = λ lot op asks at.
    let state = g.D.Disk.state in let left = g.D.Disk.left in let a = c.args.disk.now in let b = c.command.new.disk in let e = c.in-Open.cube in let f = c.command.new.self in let o = order.OnTree op in let room = c.command.new.room in
    subst (λ (x : Cell). AnswersOrder state left lot o c.args.offline x (Open f) room c.command.result a b) (sym c.in-Open.is)
    (subst (λ (l : LotView). AnswersOrder state left l o c.args.offline (Open e) (Open f) room c.command.result a b) (subst (IsCellOf lot) c.in-Open.is at)
    (command_order state left e f op a b c.args.offline room c.command.result (record {
      lot = c.command.ensures.lot;
      failed = c.command.ensures.failed;
      tallies = c.command.ensures.tallies;
      within = c.command.ensures.within;
      looks = c.command.ensures.looks op asks;
      own = λ x holds. c.command.ensures.own x op asks holds;
      crash = c.command.ensures.crash;
    })))
