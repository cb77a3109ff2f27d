use Rattle.std.proofs.Common.{◌∙◌, sym, ap}
use Rattle.ice_volume.specs.Orders.{mount_refusal}
use Rattle.ice_volume.proofs.Mounting.{unmounted_order}
use Rattle.ice_volume.proofs.orders.mount_cell.Goals as goal

pub returns-in-Some : goal.returns-in-Some
returns-in-Some g c = λ offline room at is.
    unmounted_order g.D.Disk.state g.D.Disk.left c.args.lot.now offline c.args.cell.now room c.in-Some.refusal c.args.state c.args.disk.now at is (sym c.mount_refusal.ensures ∙ c.in-Some.is)

pub returns-in-None : goal.returns-in-None
returns-in-None g c = λ offline room at is. c.mount_lot.ensures offline room at (ap mount_refusal (sym is) ∙ sym c.mount_refusal.ensures ∙ c.in-None.is)
