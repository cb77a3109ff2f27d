use Rattle.std.proofs.Common.{refl}
use Rattle.ice_layout.proofs.HeaderLaws.{fields_written}
use Rattle.ice_layout.proofs.header.write_fields.Goals as goal

pub returns : goal.returns
returns c =
    fields_written c.args.magic c.args.byte c.args.header.now c.write_u32.new.block _ c.write_u32-2.new.block c.write_targets.new.into
    c.write_u32.ensures c.write_u32.array_long refl c.from.result c.from.ensures
    c.write_u32-2.ensures c.write_targets.ensures.targets c.write_targets.ensures.others
