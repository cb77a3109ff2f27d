use Rattle.std.proofs.Common.{◌∙◌, Ok, length, sym, ap, subst}
use Rattle.tree_spec.specs.Lines.{Asks, asked}
use Rattle.tree_spec.specs.declared.command.Command.{Command}
use Rattle.tree_spec.specs.declared.reply.Value.TheVariants.{Listed}
use Rattle.ice_script.specs.Bounds.{InBounds}
use Rattle.ice_volume.specs.Lines.{AnswersLine}
use Rattle.ice_volume.proofs.Listing.{listed_line}
use Rattle.ice_volume.proofs.volume.Volume.line.Goals as goal

pub returns-in-Cubes : goal.returns-in-Cubes
returns-in-Cubes g c =
    let state = g.D.Disk.state in let v = c.args.self.now in let n = length c.rows.result.now in
    subst (λ (x : Command). AnswersLine state g.D.Disk.left (Asks (asked x)) v v c.list.new.room (Ok (Ok (Listed n))) c.args.disk.now c.args.disk.now) (sym c.in-Cubes.is)
    (listed_line state g.D.Disk.left v c.list.new.room n c.args.disk.now (c.list.ensures.entries ∙ c.requires.entries) c.list.ensures.rows (ap length c.rows.ensures.value))

pub create-requires : goal.create-requires
create-requires g c = let in_bounds = subst (λ (x : Command). InBounds (asked x)) c.in-Create.is c.requires.bounds in record { room = c.requires.disk; some = in_bounds.0; short = in_bounds.2 }

pub grow-requires : goal.grow-requires
grow-requires g c = let in_bounds = subst (λ (x : Command). InBounds (asked x)) c.in-Grow.is c.requires.bounds in record { room = c.requires.disk; some = in_bounds.0 }

pub returns-in-Create : goal.returns-in-Create
returns-in-Create g c = subst (λ (x : Command). AnswersLine g.D.Disk.state g.D.Disk.left (Asks (asked x)) c.args.self.now c.create.new.self c.args.room.now c.create.result c.args.disk.now c.create.new.disk) (sym c.in-Create.is) (c.create.ensures c.args.room.now)

pub returns-in-Grow : goal.returns-in-Grow
returns-in-Grow g c = subst (λ (x : Command). AnswersLine g.D.Disk.state g.D.Disk.left (Asks (asked x)) c.args.self.now c.grow.new.self c.args.room.now c.grow.result c.args.disk.now c.grow.new.disk) (sym c.in-Grow.is) (c.grow.ensures c.args.room.now)

pub returns-in-Delete : goal.returns-in-Delete
returns-in-Delete g c = subst (λ (x : Command). AnswersLine g.D.Disk.state g.D.Disk.left (Asks (asked x)) c.args.self.now c.delete.new.self c.args.room.now c.delete.result c.args.disk.now c.delete.new.disk) (sym c.in-Delete.is) (c.delete.ensures c.args.room.now)

pub returns-in-Offline : goal.returns-in-Offline
returns-in-Offline g c = subst (λ (x : Command). AnswersLine g.D.Disk.state g.D.Disk.left (Asks (asked x)) c.args.self.now c.offline.new.self c.args.room.now c.offline.result c.args.disk.now c.offline.new.disk) (sym c.in-Offline.is) (c.offline.ensures c.args.room.now)

pub returns-in-Online : goal.returns-in-Online
returns-in-Online g c = subst (λ (x : Command). AnswersLine g.D.Disk.state g.D.Disk.left (Asks (asked x)) c.args.self.now c.online.new.self c.args.room.now c.online.result c.args.disk.now c.online.new.disk) (sym c.in-Online.is) (c.online.ensures c.args.room.now)

pub returns-in-Mount : goal.returns-in-Mount
returns-in-Mount g c = subst (λ (x : Command). AnswersLine g.D.Disk.state g.D.Disk.left (Asks (asked x)) c.args.self.now c.mount.new.self c.args.room.now (Ok c.mount.result) c.args.disk.now c.mount.new.disk) (sym c.in-Mount.is) (c.mount.ensures c.args.room.now)

pub returns-in-Unmount : goal.returns-in-Unmount
returns-in-Unmount g c = subst (λ (x : Command). AnswersLine g.D.Disk.state g.D.Disk.left (Asks (asked x)) c.args.self.now c.unmount.new.self c.args.room.now (Ok c.unmount.result) c.args.disk.now c.unmount.new.disk) (sym c.in-Unmount.is) (c.unmount.ensures c.args.room.now)

pub returns-in-Check : goal.returns-in-Check
returns-in-Check g c = subst (λ (x : Command). AnswersLine g.D.Disk.state g.D.Disk.left (Asks (asked x)) c.args.self.now c.check.new.self c.args.room.now (Ok c.check.result) c.args.disk.now c.check.new.disk) (sym c.in-Check.is) (c.check.ensures c.args.room.now)

pub returns-in-Sync : goal.returns-in-Sync
returns-in-Sync g c = subst (λ (x : Command). AnswersLine g.D.Disk.state g.D.Disk.left (Asks (asked x)) c.args.self.now c.sync.new.self c.args.room.now (Ok c.sync.result) c.args.disk.now c.sync.new.disk) (sym c.in-Sync.is) (c.sync.ensures c.args.room.now)
