use Rattle.std.proofs.Common.{◌≡◌, [], length, true, sym, ap, subst, arith}
use Rattle.tree_spec.specs.Names.{is_name}
use Rattle.tree_spec.proofs.Texts.{name_short}
use Rattle.tree_spec.proofs.path.Path.name.Goals as goal

pub keep-requires : goal.keep-requires
keep-requires c =
    let proper : is_name c.nth_name-part.result.now ≡ true = subst (λ x. is_name x ≡ true) (sym (c.nth_name-part.ensures [])) (c.self.invariant.2 c.args.i [] (omega (arith, ap length c.self.view_is))) in
    record { short = name_short c.nth_name-part.result.now proper; proper = proper }
