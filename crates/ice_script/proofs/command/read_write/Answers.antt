use Rattle.std.proofs.Common.{◌*◌, length}
use Rattle.ice_script.proofs.command.read_write.Goals as goal

pub unhex-requires : goal.unhex-requires
unhex-requires c = rw c.in-Some.bytes-is (c.in-Some.ensures.short (2 * length c.args.buffer.now) c.requires)
