use Rattle.ice_check.proofs.WholeLaws.{unmarked_all}
use Rattle.ice_check.proofs.marks.unmarked.Goals as goal

pub returns-clause-blank : goal.returns-clause-blank
returns-clause-blank g c = unmarked_all _
