use Rattle.std.proofs.Common.{refl, arith}
use Rattle.tree_spec.specs.Names.{names_of, BeginsAtSlash}
use Rattle.tree_spec.proofs.path.Path.root.Goals as goal

pub invariant_of-result : goal.invariant_of-result
unfolding names_of BeginsAtSlash
invariant_of-result c = (omega arith, refl, λ k d h. absurd (omega arith), refl)

pub returns : goal.returns
unfolding names_of
returns c = refl
