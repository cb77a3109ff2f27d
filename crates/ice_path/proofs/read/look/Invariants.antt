use Rattle.std.proofs.Common.{◌≡◌, length}
use Rattle.std.specs.Prelude.{◌||◌}
use Rattle.std.specs.List.{list_any}
use Rattle.tree_spec.specs.Names.{is_dots, names_of, BeginsAtSlash}
use Rattle.ice_path.specs.Paths.{is_empty_name, is_long_name}
use Rattle.ice_path.proofs.read.look.Given as goal

abbrev pub invariant-loop-rest : goal.invariant-loop-rest
invariant-loop-rest l = record {
  begins : BeginsAtSlash l.rest;
  empty : list_any is_empty_name (names_of l.fn.text) ≡ (l.seen.empty || list_any is_empty_name (names_of l.rest));
  dots : list_any is_dots (names_of l.fn.text) ≡ (l.seen.dots || list_any is_dots (names_of l.rest));
  long : list_any is_long_name (names_of l.fn.text) ≡ (l.seen.long || list_any is_long_name (names_of l.rest));
}

abbrev pub decreases-loop-rest : goal.decreases-loop-rest
decreases-loop-rest l = length l.rest
