use Rattle.ice_map.proofs.MarkLaws.{marked-took}
use Rattle.ice_map.proofs.extends.take_counted.Goals as goal

pub returns-in-Ok-clause-marked : goal.returns-in-Ok-clause-marked
returns-in-Ok-clause-marked g c = λ s. marked-took _ _ _ _ c.in-Ok.ensures.data (c.in-Ok.ensures.took s) c.in-Ok.ensures.puts.only

pub returns-in-Ok-clause-others : goal.returns-in-Ok-clause-others
returns-in-Ok-clause-others g c = λ b s h. c.in-Ok.ensures.puts.only b s (h _)

pub returns-in-Err-NoSpace-clause-others : goal.returns-in-Err-NoSpace-clause-others
returns-in-Err-NoSpace-clause-others g c = λ b s h. let p = c.in-Err-NoSpace.ensures.broken in p.2.only b s (h p.0)

pub returns-in-Err-clause-others : goal.returns-in-Err-clause-others
returns-in-Err-clause-others g c = λ b s h. let p = c.in-Err.ensures.broken in p.2.only b s (h p.0)
