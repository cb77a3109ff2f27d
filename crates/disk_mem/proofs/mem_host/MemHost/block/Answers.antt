use Rattle.std.proofs.Common.{arith, ◌∙◌, []}
use Rattle.std.proofs.lemmas.List.{get_or_default}
use Rattle.ice_base.specs.Disk.{block}
use Rattle.disk_mem.proofs.mem_host.MemHost.block.Goals as goal

pub returns : goal.returns
unfolding block
returns c = c.index.ensures ∙ get_or_default c.args.self.now.blocks.items c.args.at c.index.result.now [] (omega (arith, c.requires))
