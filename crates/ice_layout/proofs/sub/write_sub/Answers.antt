use Rattle.std.proofs.Common.{refl}
use Rattle.ice_layout.proofs.SubLaws.{sub_written, sub_zeros}
use Rattle.ice_layout.proofs.sub.write_sub.Goals as goal

pub returns-clause-sub : goal.returns-clause-sub
returns-clause-sub c = sub_written c.args.sub.now c.write_u32.new.block c.write_u32-2.new.block _ c.write_u64.new.block c.write_u32-3.new.block c.write_u32-4.new.block c.write_u32.ensures c.write_u32-2.ensures c.write_u32-2.array_long refl c.write_u64.ensures c.write_u32-3.ensures c.write_u32-4.ensures c.requires

pub returns-clause-zeros : goal.returns-clause-zeros
returns-clause-zeros c = sub_zeros c.args.sub.now c.write_u32.new.block c.write_u32-2.new.block _ c.write_u64.new.block c.write_u32-3.new.block c.write_u32-4.new.block c.write_u32.ensures c.write_u32-2.ensures c.write_u32-2.array_long refl c.write_u64.ensures c.write_u32-3.ensures c.write_u32-4.ensures
