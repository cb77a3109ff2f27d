use Rattle.std.proofs.Common.{refl}
use Rattle.ice_layout.proofs.HeaderLaws.{write-more}
use Rattle.ice_layout.proofs.header.write_targets.Goals as goal

pub loop-i-preserved : goal.loop-i-preserved
loop-i-preserved c =
    let more = write-more c.args.header.now c.args.into.now c.loop-i.into c.write_u32.new.block c.loop-i.i _ c.loop-i.invariant.targets c.loop-i.invariant.others c.write_u32.ensures refl in
    record { targets = more.0; others = more.1 }
