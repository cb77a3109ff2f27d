use Rattle.ice_layout.proofs.SuperLaws.{super_written}
use Rattle.ice_layout.proofs.superblock.write_super.Goals as goal

pub returns : goal.returns
returns c = super_written c.args.sup.now c.write_u32.new.block c.write_u32-2.new.block c.write_u32-3.new.block c.write_u32-4.new.block c.write_u32-5.new.block c.from.result c.from-2.result c.total.result c.requires c.from.ensures c.from-2.ensures c.total.ensures c.write_u32.ensures c.write_u32-2.ensures c.write_u32-3.ensures c.write_u32-4.ensures c.write_u32-5.ensures
