use Rattle.std.proofs.Common.{◌≡◌, drop}
use Rattle.tree_spec.specs.Names.{names_of, BeginsAtSlash}
use Rattle.tree_spec.proofs.path.nth_name.Given as goal

abbrev pub invariant-loop : goal.invariant-loop
invariant-loop l = record { begins : BeginsAtSlash l.rest; left : names_of l.rest ≡ drop l.counter (names_of l.fn.text) }
