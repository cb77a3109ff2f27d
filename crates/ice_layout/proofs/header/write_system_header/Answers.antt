use Rattle.ice_layout.specs.Headers.{system_magic}
use Rattle.ice_layout.proofs.HeaderLaws.{system_written, system_zeros}
use Rattle.ice_layout.proofs.header.write_system_header.Goals as goal

pub returns-clause-header : goal.returns-clause-header
returns-clause-header c = system_written c.args.header.now c.write_fields.new.into c.requires.proper c.write_fields.ensures

pub returns-clause-zeros : goal.returns-clause-zeros
returns-clause-zeros c = system_zeros system_magic c.args.header.now c.write_fields.new.into c.write_fields.ensures
