use Rattle.std.proofs.Common.{sym, ap, ◌∙◌, length, ◌∷◌, ◌≤◌}
use Rattle.tree_spec.specs.Names.{names_of}
use Rattle.tree_spec.proofs.Texts.{has_byte, first_name}
use Rattle.tree_spec.proofs.path.split_name.Goals as goal

pub split_at-requires : goal.split_at-requires
split_at-requires c = has_byte c.args.text.now c.requires.has_name

pub returns-clause-name : goal.returns-clause-name
returns-clause-name c =
    let bound : 1 ≤ length c.args.text.now = has_byte c.args.text.now c.requires.has_name in
    let front = sym (c.split_at-2.ensures.front ∙ c.segment.ensures.front) in
    let back = sym (ap names_of c.split_at-2.ensures.back ∙ c.segment.ensures.rest) in
    first_name _ _ c.split_at.ensures.back c.requires.begins bound ∙ (λ i. front i ∷ back i)
