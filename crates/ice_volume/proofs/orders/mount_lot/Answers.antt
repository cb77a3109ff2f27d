use Rattle.std.proofs.Common.{◌∙◌, ℕ, Ok, Err, refl, sym, ap}
use Rattle.tree_spec.specs.Own as order
use Rattle.tree_spec.specs.declared.reply.Refusal.{Refusal}
use Rattle.tree_spec.specs.declared.reply.Value.TheVariants as given
use Rattle.ice_volume.specs.Orders.{cell_with, told_mount}
use Rattle.ice_volume.specs.declared.cell.Cell.TheVariants.{Open}
use Rattle.ice_volume.proofs.Telling.{order_as}
use Rattle.ice_volume.proofs.Mounting.{mount_order}
use Rattle.ice_volume.proofs.orders.mount_lot.Goals as goal

pub returns-in-Ok : goal.returns-in-Ok
returns-in-Ok g c = λ offline room at can.
    let state = g.D.Disk.state in let left = g.D.Disk.left in let a = c.args.disk.now in let b = c.mount.new.disk in let lot = c.args.lot.now in let cell = c.args.cell.now in let r = c.mount.result in
    order_as state left lot lot order.Mount offline cell (cell_with cell r) cell (Open c.in-Ok.cube) room (told_mount r) (Ok (given.Number c.done-done.result)) a b refl refl (sym (ap (cell_with cell) c.in-Ok.is))
    (ap (λ (n : ℕ). Ok (given.Number n)) c.done-done.ensures ∙ sym (ap told_mount c.in-Ok.is))
    (mount_order state left lot cell offline room r a b can (record {
      starts = c.mount.ensures.starts;
      memory = c.mount.ensures.memory;
      failed = c.mount.ensures.failed;
      within = c.mount.ensures.within;
      unwritten = c.mount.ensures.unwritten;
      idle = c.mount.ensures.idle;
      recovered = c.mount.ensures.recovered;
      damaged = c.mount.ensures.damaged;
      mounted = c.mount.ensures.mounted;
      crash = c.mount.ensures.crash;
    }) at)

pub returns-in-Err : goal.returns-in-Err
returns-in-Err g c = λ offline room at can.
    let state = g.D.Disk.state in let left = g.D.Disk.left in let a = c.args.disk.now in let b = c.mount.new.disk in let lot = c.args.lot.now in let cell = c.args.cell.now in let r = c.mount.result in
    order_as state left lot lot order.Mount offline cell (cell_with cell r) cell cell room (told_mount r) (Err c.fault_refusal.result) a b refl refl (sym (ap (cell_with cell) c.in-Err.is))
    (ap (λ (x : Refusal). Err x) c.fault_refusal.ensures ∙ sym (ap told_mount c.in-Err.is))
    (mount_order state left lot cell offline room r a b can (record {
      starts = c.mount.ensures.starts;
      memory = c.mount.ensures.memory;
      failed = c.mount.ensures.failed;
      within = c.mount.ensures.within;
      unwritten = c.mount.ensures.unwritten;
      idle = c.mount.ensures.idle;
      recovered = c.mount.ensures.recovered;
      damaged = c.mount.ensures.damaged;
      mounted = c.mount.ensures.mounted;
      crash = c.mount.ensures.crash;
    }) at)
