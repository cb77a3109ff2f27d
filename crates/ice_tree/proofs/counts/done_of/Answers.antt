use Rattle.std.proofs.Common.{ap, arith}
use Rattle.ice_reads.proofs.Recovering.{sub_small}
use Rattle.ice_tree.proofs.FaultLaws.{sub-named}
use Rattle.ice_tree.proofs.counts.done_of.Goals as goal

pub returns-in-Ok-clause-small : goal.returns-in-Ok-clause-small
returns-in-Ok-clause-small g c =
    let says = c.in-Ok.ensures.accepts in
    omega (arith, sub_small c.slot.result c.fetch.new.into says.sound, ap (λ x. x.done) says.value)

pub returns-in-Err-clause-faults : goal.returns-in-Err-clause-faults
returns-in-Err-clause-faults g c = sub-named c.slot.result c.fetch.new.into c.in-Err.rule c.in-Err.ensures.refuses
