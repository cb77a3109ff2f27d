use Rattle.std.proofs.Common.{refl, sym}
use Rattle.ice_map.proofs.CodecLaws.{inode_at-is}
use Rattle.ice_map.proofs.codec.read_inode.Goals as goal

pub returns : goal.returns
returns c = inode_at-is _ _ _ refl (sym c.read_u32.ensures) c.read_direct.ensures.long c.read_direct.ensures.read (sym c.read_u32-2.ensures) (sym c.read_u32-3.ensures)
