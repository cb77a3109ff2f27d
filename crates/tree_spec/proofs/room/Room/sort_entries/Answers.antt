use Rattle.std.proofs.Common.{◌≡◌, rules}
use Rattle.std.specs.Ordering.{is_lt}
use Rattle.std.specs.Cmp.Lexicographic.{nat_list_cmp_total}
use Rattle.std.proofs.lemmas.List.MinMax.{ranks_by}
use Rattle.std.proofs.lemmas.Fn.{always_returns_same}
use Rattle.tree_spec.specs.Held.{by_name}
use Rattle.tree_spec.specs.declared.reply.Entry.{Entry}
use Rattle.tree_spec.proofs.room.Room.sort_entries.Goals as goal

pub returns-clause-sorted : goal.returns-clause-sorted
returns-clause-sorted c =
    c.sort_unstable_by.ensures.sorted (λ a b. is_lt (by_name a b)) (ranks_by nat_list_cmp_total (λ (e : Entry). e.name))
    (always_returns_same _ (λ a r. is_lt r ≡ is_lt (by_name a.0.now a.1.0.now)) _ (λ a r q k. search rules))
