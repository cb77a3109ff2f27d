use Rattle.std.proofs.Common.{◌≡◌, ◌++◌, length}
use Rattle.tree_spec.specs.Names.{names_of, BeginsAtSlash}
use Rattle.ice_path.proofs.read.path_of.Given as goal

abbrev pub invariant-loop-rest : goal.invariant-loop-rest
invariant-loop-rest l = record {
  begins : BeginsAtSlash l.rest;
  names : l.path ++ names_of l.rest ≡ names_of l.fn.text;
}

abbrev pub decreases-loop-rest : goal.decreases-loop-rest
decreases-loop-rest l = length l.rest
