use Rattle.std.proofs.Common.{◌∙◌, Err, refl, sym, ap, subst}
use Rattle.tree_spec.specs.Own as order
use Rattle.tree_spec.specs.declared.reply.Refusal.{Refusal}
use Rattle.tree_spec.specs.declared.reply.Refusal.TheVariants as code
use Rattle.ice_volume.specs.Orders.{IsCellOf, cell_without, closed_refusal, told_number}
use Rattle.ice_volume.specs.declared.cell.Cell.TheVariants.{Closed, Stopped, Open}
use Rattle.ice_volume.proofs.Telling.{closed_order, stopped_order, unmount_order, order_as}
use Rattle.ice_volume.proofs.orders.unmount_cell.Goals as goal

pub returns-in-Closed : goal.returns-in-Closed
returns-in-Closed g c = λ lot room at.
    let state = g.D.Disk.state in let left = g.D.Disk.left in let d = c.args.disk.now in
    order_as state left lot lot order.Unmount c.args.offline Closed Closed c.args.cell.now c.replace.new.dest room (Err (closed_refusal c.args.offline)) (Err c.closed_refusal.result) d d
    refl (sym c.replace.ensures.value ∙ c.in-Closed.is) c.replace.ensures.after (ap (λ (r : Refusal). Err r) c.closed_refusal.ensures) (closed_order state left lot order.Unmount tt c.args.offline room d)

pub returns-in-Stopped : goal.returns-in-Stopped
returns-in-Stopped g c = λ lot room at.
    let state = g.D.Disk.state in let left = g.D.Disk.left in let d = c.args.disk.now in
    order_as state left lot lot order.Unmount c.args.offline Stopped Stopped c.args.cell.now Stopped room (Err code.Stopped) (Err code.Stopped) d d
    refl (sym c.replace.ensures.value ∙ c.in-Stopped.is) refl refl (stopped_order state left lot order.Unmount tt c.args.offline room d)

pub returns-in-Open : goal.returns-in-Open
returns-in-Open g c = λ lot room at.
    let state = g.D.Disk.state in let left = g.D.Disk.left in let a = c.args.disk.now in let b = c.unmount-unmounted.new.disk in let e = c.in-Open.cube in let r = c.unmount-unmounted.result in
    order_as state left e.lot lot order.Unmount c.args.offline (Open e) (cell_without r) c.args.cell.now c.cell_without.result room (told_number r) c.told_number.result a b
    (subst (IsCellOf lot) (sym c.replace.ensures.value ∙ c.in-Open.is) at) (sym c.replace.ensures.value ∙ c.in-Open.is) c.cell_without.ensures c.told_number.ensures
    (unmount_order state left e a b c.args.offline room r (record {
      answer = c.unmount-unmounted.ensures.answer;
      stopped = c.unmount-unmounted.ensures.stopped;
      untouched = c.unmount-unmounted.ensures.untouched;
      only = c.unmount-unmounted.ensures.only;
      failed = c.unmount-unmounted.ensures.failed;
      within = c.unmount-unmounted.ensures.within;
      crash = c.unmount-unmounted.ensures.crash;
      settled = c.unmount-unmounted.ensures.settled;
    }))
