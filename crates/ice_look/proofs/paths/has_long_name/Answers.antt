use Rattle.std.proofs.Common.{◌≡◌, ℕ, Bool, [], List, length, get_or, nat_lt, sym, ap, ◌∙◌, arith}
use Rattle.tree_spec.specs.Costs.{form_of}
use Rattle.ice_look.proofs.Names.{any-here, any-later, is_long, is_short}
use Rattle.ice_look.proofs.paths.has_long_name.Goals as goal

pub returns-then-bytes-NAME : goal.returns-then-bytes-NAME
returns-then-bytes-NAME g c =
    let one = g.F.Form.is_one in
    let test : List ℕ → Bool = λ x. nat_lt (form_of g.F.Form.VERSION).longest_name (length x) in
    let size : length c.bytes.result.now ≡ length (get_or c.args.path.now c.loop-k.k []) = ap length (c.bytes.ensures.value ∙ c.name-name.ensures []) in
    sym (c.loop-k.invariant ∙ any-here test c.args.path.now c.loop-k.k [] (omega arith) (is_long _ g.F.Form.NAME _ _ one.0 one.2 size (omega arith)))

pub loop-k-preserved : goal.loop-k-preserved
loop-k-preserved g c =
    let one = g.F.Form.is_one in
    let test : List ℕ → Bool = λ x. nat_lt (form_of g.F.Form.VERSION).longest_name (length x) in
    let size : length c.bytes.result.now ≡ length (get_or c.args.path.now c.loop-k.k []) = ap length (c.bytes.ensures.value ∙ c.name-name.ensures []) in
    c.loop-k.invariant ∙ any-later test c.args.path.now c.loop-k.k [] (omega arith) (is_short _ g.F.Form.NAME _ _ one.0 one.2 size (omega arith))
