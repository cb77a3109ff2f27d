use Rattle.ice_reads.proofs.Recovering.{times_is_mark, mark_is_times}
use Rattle.ice_reads.proofs.laws.marks_as_sets.Goals as goal

pub returns-clause-sets : goal.returns-clause-sets
returns-clause-sets c = times_is_mark

pub returns-clause-counts : goal.returns-clause-counts
returns-clause-counts c = mark_is_times
