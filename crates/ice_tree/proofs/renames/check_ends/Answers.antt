use Rattle.std.proofs.Common.{sym, ◌∙◌}
use Rattle.tree_spec.specs.Trees.{walk, parent, parent_walk}
use Rattle.tree_spec.specs.Answers.{is_root, is_found, is_not_found, is_not_dir}
use Rattle.tree_spec.specs.Routes.{is_prefix, is_same_path}
use Rattle.std.specs.Prelude.{◌||◌}
use Rattle.ice_reads.specs.Reads.{inode_on}
use Rattle.ice_tree.proofs.RenameLaws.{ends-same}
use Rattle.ice_tree.proofs.RenameDamage.{place-there, dir-there}
use Rattle.ice_tree.proofs.renames.check_ends.Goals as goal

pub returns-then-same-clause-ends : goal.returns-then-same-clause-ends
returns-then-same-clause-ends c = λ f o p q t a b root begins same.
    let i = inode_on f o 0 p in
    let j = inode_on f o 0 (parent q) in
    ends-same (is_not_found (walk p t) || is_not_found (parent_walk q t)) (is_not_dir (walk p t) || is_not_dir (parent_walk q t)) (is_root p || is_root q) (is_found (walk q t)) (is_same_path p q) (is_prefix p q)
    (sym (c.is_one_missing.ensures.walks i j (walk p t) (walk (parent q) t) a.at_end b.at_parent) ∙ c.if-is_one_missing.false)
    (sym (c.is_one_blocked.ensures.walks i j (walk p t) (walk (parent q) t) a.at_end b.at_parent) ∙ c.if-is_one_blocked.false)
    (sym root ∙ c.if-root.false) (sym same ∙ c.if-same.true)

pub returns-then-same-clause-there : goal.returns-then-same-clause-there
returns-then-same-clause-there c =
    let missing = c.is_one_missing.ensures.there c.if-is_one_missing.false in
    let blocked = c.is_one_blocked.ensures.there c.if-is_one_blocked.false in
    (place-there _ missing.0 blocked.0, dir-there _ missing.1 blocked.1 blocked.2)

pub returns-clause-there : goal.returns-clause-there
returns-clause-there c =
    let missing = c.is_one_missing.ensures.there c.if-is_one_missing.false in
    let blocked = c.is_one_blocked.ensures.there c.if-is_one_blocked.false in
    (place-there _ missing.0 blocked.0, dir-there _ missing.1 blocked.1 blocked.2)
