use Rattle.std.proofs.Common.{◌≡◌, ◌-◌, arith, rules}
use Rattle.std.specs.Ordering.{is_lt}
use Rattle.std.specs.Cmp.Lexicographic.{nat_list_cmp_total}
use Rattle.std.proofs.lemmas.List.MinMax.{ranks_by}
use Rattle.std.proofs.lemmas.Fn.{always_returns_same}
use Rattle.tree_spec.specs.Trees.{by_bytes}
use Rattle.ice_check.specs.Names.{kept_name}
use Rattle.ice_check.proofs.NameLaws.{neighbours_alike, neighbours_more, sorted_alike, sorted_names}
use Rattle.ice_check.proofs.names.names_differ.Goals as goal

pub returns-then-are_same-clause-no : goal.returns-then-are_same-clause-no
returns-then-are_same-clause-no c = λ _.
    sorted_alike c.args.names.now c.sort_unstable_by.new.self (c.loop-k.k - 1) c.sort_unstable_by.ensures.permutation (let low = c.loop-k.auto.k in omega (arith, low, c.loop-k-test.true))
    (neighbours_alike c.sort_unstable_by.new.self c.loop-k.k _ _ c.loop-k.auto.k c.loop-k-test.true (c.are_same.ensures.yes c.if-are_same.true))

pub loop-k-preserved : goal.loop-k-preserved
loop-k-preserved c = neighbours_more c.sort_unstable_by.new.self c.loop-k.k _ _ c.loop-k.auto.k c.loop-k-test.true c.loop-k.invariant (c.are_same.ensures.no c.if-are_same.false)

pub returns-clause-yes : goal.returns-clause-yes
returns-clause-yes c = λ _.
    sorted_names c.args.names.now c.sort_unstable_by.new.self c.sort_unstable_by.ensures.permutation
    (c.sort_unstable_by.ensures.sorted (λ a b. is_lt (by_bytes (kept_name a) (kept_name b))) (ranks_by nat_list_cmp_total kept_name)
    (always_returns_same _ (λ a r. is_lt r ≡ is_lt (by_bytes (kept_name a.0.now) (kept_name a.1.0.now))) _ (λ a r q k. search rules)))
    (λ j h. c.loop-k.invariant j (omega (arith, h, c.loop-k-test.false)))
