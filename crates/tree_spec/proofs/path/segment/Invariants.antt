use Rattle.tree_spec.proofs.Texts.{IsSplitAt}
use Rattle.tree_spec.proofs.path.segment.Given as goal

abbrev pub invariant-loop-i : goal.invariant-loop-i
invariant-loop-i l = IsSplitAt l.text l.i
