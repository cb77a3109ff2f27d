use Rattle.ice_layout.proofs.HeaderLaws.{slot_written}
use Rattle.ice_layout.proofs.header.write_header.Goals as goal

pub returns-clause-header : goal.returns-clause-header
returns-clause-header c = slot_written c.args.slot c.args.header.now c.write_fields.new.into c.requires.proper c.write_fields.ensures
