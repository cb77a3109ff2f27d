use Rattle.std.proofs.Common.{◌≡◌, [], ◌∷◌, ◌++◌, length, take, true, sym, ap, ◌∙◌, subst, arith}
use Rattle.std.proofs.lemmas.List.Elements.{All-push}
use Rattle.std.proofs.lemmas.List.{length-append, length-take}
use Rattle.tree_spec.specs.Names.{is_name, names_of, BeginsAtSlash, IsNameList}
use Rattle.tree_spec.proofs.Texts.{names_of-more, BeginsAtSlash-more, with_slashes-names_of, length-le-with_slashes, text_grows, too_long, fits, length-with_slashes}
use Rattle.tree_spec.proofs.path.Path.push.Goals as goal

pub overflow_add-self : goal.overflow_add-self
overflow_add-self c =
    let text = take c.self.inside.len c.self.inside.text in
    omega (arith, c.self.invariant.3, length-le-with_slashes (names_of text), ap length (with_slashes-names_of text c.self.invariant.1), length-take c.self.inside.len c.self.inside.text)

pub invariant_of-self : goal.invariant_of-self
invariant_of-self c =
    let e = text_grows _ _ _ _ _ c.put_at-2.ensures.front c.put_at.ensures.front c.bytes-bytes.ensures.value in
    let text = take c.self.inside.len c.self.inside.text in (
      omega arith,
      subst BeginsAtSlash (sym e) (BeginsAtSlash-more text c.args.name.now c.bytes-bytes.ensures.name c.self.invariant.1),
      subst (λ x. IsNameList (names_of x)) (sym e) (subst IsNameList (sym (names_of-more text c.args.name.now c.bytes-bytes.ensures.name)) (All-push (λ x. is_name x ≡ true) (names_of text) c.args.name.now c.self.invariant.2 c.bytes-bytes.ensures.name)),
      omega (arith, c.self.invariant.3, ap (λ x. length (names_of x)) e, ap length (names_of-more text c.args.name.now c.bytes-bytes.ensures.name), length-append (names_of text) (c.args.name.now ∷ [])),
    )

pub returns-then-end-gt-TEXT_LIMIT-clause-fits : goal.returns-then-end-gt-TEXT_LIMIT-clause-fits
returns-then-end-gt-TEXT_LIMIT-clause-fits c =
    let is = length-with_slashes c.args.self.now c.self.inside.text c.self.inside.len c.self.view_is c.self.invariant.1 (omega arith) in
    too_long c.args.self.now c.args.name.now c.self.inside.len is (omega (arith, ap length c.bytes-bytes.ensures.value))

pub returns-clause-fits : goal.returns-clause-fits
returns-clause-fits c =
    let is = length-with_slashes c.args.self.now c.self.inside.text c.self.inside.len c.self.view_is c.self.invariant.1 (omega arith) in
    fits c.args.self.now c.args.name.now c.self.inside.len is (omega (arith, ap length c.bytes-bytes.ensures.value))

pub returns-clause-names : goal.returns-clause-names
returns-clause-names c =
    let e = text_grows _ _ _ _ _ c.put_at-2.ensures.front c.put_at.ensures.front c.bytes-bytes.ensures.value in
    ap names_of e ∙ names_of-more _ _ c.bytes-bytes.ensures.name ∙ ap (λ x. x ++ c.args.name.now ∷ []) c.self.view_is
