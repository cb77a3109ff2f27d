use Rattle.std.proofs.Common.{◌≡◌, get_or, ◌∙◌}
use Rattle.std.specs.Cmp.Lexicographic.{texts_ties}
use Rattle.tree_spec.specs.Routes.{is_same_name}
use Rattle.ice_path.proofs.prefix.same_name.Goals as goal

pub returns : goal.returns
returns c = λ d.
    let a : c.bytes.result.now ≡ get_or c.args.short.now c.args.i d = c.bytes.ensures.value ∙ c.name-a.ensures d in
    let b : c.bytes-2.result.now ≡ get_or c.args.long.now c.args.i d = c.bytes-2.ensures.value ∙ c.name-b.ensures d in
    c.eq.ensures ∙ texts_ties c.bytes.result.now c.bytes-2.result.now ∙ (λ k. is_same_name (a k) (b k))
