use Rattle.ice_volume.proofs.Attaching.{attach_stands, attach_leaves, host_refuses}
use Rattle.ice_volume.proofs.volume.Volume.attach.Goals as goal

pub returns-in-Ok-clause-opens : goal.returns-in-Ok-clause-opens
returns-in-Ok-clause-opens g c = λ w starts.
    attach_stands g.D.Disk.state g.D.Disk.left w c.args.disk.now c.attach.new.disk (λ told. g.met.D.Disk.whole c.args.disk.now told) starts c.attach.ensures.within
    _ (c.in-Ok.ensures.attaches starts.settled.told) c.in-Ok.ensures.ready c.no_cubes.ensures

pub returns-in-Ok-clause-leaves : goal.returns-in-Ok-clause-leaves
returns-in-Ok-clause-leaves g c = λ w starts.
    attach_leaves g.D.Disk.state g.D.Disk.left w c.args.disk.now c.attach.new.disk (λ told. g.met.D.Disk.whole c.args.disk.now told) starts c.attach.ensures.within c.attach.ensures.crash

pub returns-in-Err-clause-leaves : goal.returns-in-Err-clause-leaves
returns-in-Err-clause-leaves g c = λ w starts.
    attach_leaves g.D.Disk.state g.D.Disk.left w c.args.disk.now c.attach.new.disk (λ told. g.met.D.Disk.whole c.args.disk.now told) starts c.attach.ensures.within c.attach.ensures.crash

pub returns-in-Err-clause-host : goal.returns-in-Err-clause-host
returns-in-Err-clause-host g c = λ w starts.
    host_refuses (g.D.Disk.state c.args.disk.now) w (λ told. g.met.D.Disk.whole c.args.disk.now told) starts (g.D.Disk.state c.attach.new.disk) c.in-Err.fault c.in-Err.ensures.refused
