use Rattle.std.proofs.Common.{◌∙◌, refl, sym, subst}
use Rattle.tree_spec.specs.Own as order
use Rattle.ice_volume.specs.Orders.{IsCellOf, told_check}
use Rattle.ice_volume.specs.declared.cell.Cell.TheVariants.{Closed, Stopped, Open}
use Rattle.ice_volume.proofs.Telling.{order_as}
use Rattle.ice_volume.proofs.Asking.{check_order, lot_check_order}
use Rattle.ice_volume.proofs.orders.check_cell.Goals as goal

pub returns-in-Closed : goal.returns-in-Closed
returns-in-Closed g c = λ offline room at.
    let state = g.D.Disk.state in let left = g.D.Disk.left in let a = c.args.disk.now in let b = c.check_lot.new.disk in let lot = c.args.lot.now in let cell = c.args.cell.now in
    order_as state left lot lot order.Check offline Closed Closed cell cell room (told_check c.check_lot.result) c.told_check.result a b refl c.in-Closed.is c.in-Closed.is c.told_check.ensures
    (lot_check_order state left lot Closed tt a b offline room c.check_lot.result (record {
      recovers = c.check_lot.ensures.recovers;
      refused = c.check_lot.ensures.refused;
      exact = c.check_lot.ensures.exact;
      named = c.check_lot.ensures.named;
      still = c.check_lot.ensures.still;
      failed = c.check_lot.ensures.failed;
    }) tt)

pub returns-in-Stopped : goal.returns-in-Stopped
returns-in-Stopped g c = λ offline room at.
    let state = g.D.Disk.state in let left = g.D.Disk.left in let a = c.args.disk.now in let b = c.check_lot-in-Stopped.new.disk in let lot = c.args.lot.now in let cell = c.args.cell.now in
    order_as state left lot lot order.Check offline Stopped Stopped cell cell room (told_check c.check_lot-in-Stopped.result) c.told_check-in-Stopped.result a b refl c.in-Stopped.is c.in-Stopped.is c.told_check-in-Stopped.ensures
    (lot_check_order state left lot Stopped tt a b offline room c.check_lot-in-Stopped.result (record {
      recovers = c.check_lot-in-Stopped.ensures.recovers;
      refused = c.check_lot-in-Stopped.ensures.refused;
      exact = c.check_lot-in-Stopped.ensures.exact;
      named = c.check_lot-in-Stopped.ensures.named;
      still = c.check_lot-in-Stopped.ensures.still;
      failed = c.check_lot-in-Stopped.ensures.failed;
    }) tt)

pub returns-then-is_stopped : goal.returns-then-is_stopped
returns-then-is_stopped g c = λ offline room at.
    let state = g.D.Disk.state in let left = g.D.Disk.left in let a = c.args.disk.now in let b = c.check_lot-then-is_stopped.new.disk in let lot = c.args.lot.now in let cell = c.args.cell.now in let e = c.in-Open.cube in
    order_as state left lot lot order.Check offline (Open e) (Open e) cell (Open e) room (told_check c.check_lot-then-is_stopped.result) c.told_check-then-is_stopped.result a b refl c.in-Open.is refl c.told_check-then-is_stopped.ensures
    (lot_check_order state left lot (Open e) (sym c.is_stopped.ensures ∙ c.if-is_stopped.true) a b offline room c.check_lot-then-is_stopped.result (record {
      recovers = c.check_lot-then-is_stopped.ensures.recovers;
      refused = c.check_lot-then-is_stopped.ensures.refused;
      exact = c.check_lot-then-is_stopped.ensures.exact;
      named = c.check_lot-then-is_stopped.ensures.named;
      still = c.check_lot-then-is_stopped.ensures.still;
      failed = c.check_lot-then-is_stopped.ensures.failed;
    }) (subst (IsCellOf lot) c.in-Open.is at))

pub returns-else-is_stopped : goal.returns-else-is_stopped
returns-else-is_stopped g c = λ offline room at.
    let state = g.D.Disk.state in let left = g.D.Disk.left in let a = c.args.disk.now in let b = c.check.new.disk in let lot = c.args.lot.now in let e = c.in-Open.cube in let f = c.check.new.self in
    order_as state left e.lot lot order.Check offline (Open e) (Open f) c.args.cell.now (Open f) room (told_check c.check.result) c.told_check-else-is_stopped.result a b
    (subst (IsCellOf lot) c.in-Open.is at) c.in-Open.is refl c.told_check-else-is_stopped.ensures
    (check_order state left e f (sym c.is_stopped.ensures ∙ c.if-is_stopped.false) a b offline room c.check.result
    (record { lot = c.check.ensures.lot; still = c.check.ensures.still; failed = c.check.ensures.failed; own = c.check.ensures.own }))
