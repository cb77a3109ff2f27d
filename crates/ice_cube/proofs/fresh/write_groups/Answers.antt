use Rattle.std.proofs.Common.{arith}
use Rattle.ice_cube.proofs.FreshLoops.{groups_within, groups_more}
use Rattle.ice_cube.proofs.fresh.write_groups.Goals as goal

pub returns-in_err-init_group-clause-within : goal.returns-in_err-init_group-clause-within
returns-in_err-init_group-clause-within g c =
    groups_within g.D.Disk.state g.D.Disk.left c.args.lot.now c.args.from c.loop-ordinal.ordinal c.args.disk.now c.loop-ordinal.disk c.init_group.new.disk
    (omega arith) (omega arith) c.loop-ordinal.invariant c.init_group.ensures.within

pub loop-ordinal-preserved : goal.loop-ordinal-preserved
loop-ordinal-preserved g c =
    groups_more g.D.Disk.state g.D.Disk.left c.args.lot.now c.args.from c.loop-ordinal.ordinal c.args.disk.now c.loop-ordinal.disk c.init_group.new.disk
    c.len-ordinal-end.ensures.lot (omega arith) (omega arith) c.loop-ordinal.invariant c.init_group.ensures.within c.in_ok-init_group.ensures.calm
    c.in_ok-init_group.ensures.blocks c.in_ok-init_group.ensures.counts
