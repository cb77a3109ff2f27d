use Rattle.ice_owner.specs.Places.{AreMarks}
use Rattle.ice_owner.proofs.marks.marks_of.Given as goal

abbrev pub invariant-loop-k : goal.invariant-loop-k
invariant-loop-k l = AreMarks l.k l.counts l.places l.marks
