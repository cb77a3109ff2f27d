use Rattle.std.proofs.Common.{sym, ap, ◌∙◌}
use Rattle.ice_layout.specs.Supers.{super_fault}
use Rattle.ice_system.proofs.Opening.{geometry_of, super_refused}
use Rattle.ice_system.proofs.attach.read_geometry.Goals as goal

pub returns-in-Ok-2-clause-geometry : goal.returns-in-Ok-2-clause-geometry
returns-in-Ok-2-clause-geometry g c = geometry_of c.in-Ok.sup c.look.new.into c.in-Ok.ensures.accepts

pub returns-in-Err-clause-refused : goal.returns-in-Err-clause-refused
returns-in-Err-clause-refused g c = λ told.
    super_refused (g.D.Disk.state c.args.disk.now).size (g.D.Disk.state c.args.disk.now).now c.in-Err.fault
    (ap super_fault (sym (c.in_ok-look.ensures.bytes told)) ∙ c.in-Err.ensures.refuses)
