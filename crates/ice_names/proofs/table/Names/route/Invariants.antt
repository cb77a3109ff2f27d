use Rattle.std.proofs.Common.{◌≡◌, ℕ}
use Rattle.std.specs.Prelude.{IfSome}
use Rattle.tree_spec.specs.Routes.{route}
use Rattle.ice_names.specs.Names.{Catches, path_at, slot_in}
use Rattle.ice_names.proofs.table.Names.route.Given as goal

abbrev pub invariant-loop-s : goal.invariant-loop-s
invariant-loop-s l = record {
  route : slot_in l.best ≡ route (λ s. path_at l.self s) l.s l.path;
  caught : IfSome l.best (λ (a : ℕ × ℕ). Catches l.self l.path a.0 a.1);
}
