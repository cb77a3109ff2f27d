use Rattle.ice_path.proofs.Prefixes.{BeginsFrom}
use Rattle.ice_path.proofs.prefix.begins.Given as goal

abbrev pub invariant-loop-i : goal.invariant-loop-i
invariant-loop-i l = BeginsFrom l.path l.to l.depth l.i
