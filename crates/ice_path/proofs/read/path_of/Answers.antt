use Rattle.std.proofs.Common.{◌≡◌, ◌∷◌, ◌++◌, [], true, sym, ap, ◌∙◌, T, subst, arith}
use Rattle.tree_spec.specs.Names.{is_name, names_of}
use Rattle.ice_path.proofs.Texts.{some_left, none_left, has_name, behind_shorter, names_step, names_end, name_of_text, name_fits, names_pushed}
use Rattle.ice_path.proofs.read.path_of.Goals as goal

pub split_name-requires-clause-has_name : goal.split_name-requires-clause-has_name
split_name-requires-clause-has_name c = has_name c.loop-rest.rest.now c.loop-rest.invariant.begins (some_left _ _ c.is_empty.ensures c.loop-rest-test.true)

pub loop-rest-smaller-in-Some : goal.loop-rest-smaller-in-Some
loop-rest-smaller-in-Some c =
    omega (arith, behind_shorter c.loop-rest.rest.now c.split_name.result.0.now c.split_name.result.1.now c.loop-rest.invariant.begins c.split_name.ensures.begins c.split_name.ensures.name)

pub loop-rest-preserved-in-Some : goal.loop-rest-preserved-in-Some
loop-rest-preserved-in-Some c =
    let split : names_of c.loop-rest.rest.now ≡ c.in-Some.name ∷ names_of c.split_name.result.1.now = c.split_name.ensures.name ∙ ap (λ x. x ∷ names_of c.split_name.result.1.now) (sym c.in-Some.ensures.0) in
    let fits = name_fits c.loop-rest.path c.loop-rest.rest.now c.args.text.now _ _ split c.loop-rest.invariant.names c.requires.begins c.requires.short in
    let pushed : c.push.new.self ≡ c.loop-rest.path ++ c.in-Some.name ∷ [] = names_pushed c.loop-rest.path c.push.new.self c.push.result c.in-Some.name c.push.ensures.names (c.push.ensures.fits ∙ fits) in
    record { begins = c.split_name.ensures.begins; names = ap (λ x. x ++ names_of c.split_name.result.1.now) pushed ∙ names_step c.loop-rest.path (names_of c.loop-rest.rest.now) _ c.in-Some.name _ split c.loop-rest.invariant.names }

pub loop-rest-smaller : goal.loop-rest-smaller
loop-rest-smaller c =
    omega (arith, behind_shorter c.loop-rest.rest.now c.split_name.result.0.now c.split_name.result.1.now c.loop-rest.invariant.begins c.split_name.ensures.begins c.split_name.ensures.name)

pub loop-rest-preserved : goal.loop-rest-preserved
loop-rest-preserved c =
    let proper : is_name c.split_name.result.0.now ≡ true = name_of_text c.loop-rest.path (names_of c.loop-rest.rest.now) _ c.split_name.result.0.now _ c.split_name.ensures.name c.loop-rest.invariant.names c.requires.names in
    absurd (subst T (sym proper ∙ c.in-None.ensures) tt)

pub returns : goal.returns
returns c = names_end _ _ c.loop-rest.rest.now (none_left _ _ c.is_empty.ensures c.loop-rest-test.false) c.loop-rest.invariant.names
