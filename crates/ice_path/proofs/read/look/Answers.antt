use Rattle.std.proofs.Common.{arith}
use Rattle.tree_spec.specs.Names.{is_dots, names_of}
use Rattle.ice_path.specs.Paths.{is_empty_name, is_long_name}
use Rattle.ice_path.proofs.Texts.{some_left, none_left, has_name, behind_shorter, any_end}
use Rattle.ice_path.proofs.read.look.Goals as goal

pub split_name-requires-clause-has_name : goal.split_name-requires-clause-has_name
split_name-requires-clause-has_name c = has_name c.loop-rest.rest.now c.loop-rest.invariant.begins (some_left _ _ c.is_empty.ensures c.loop-rest-test.true)

pub loop-rest-smaller : goal.loop-rest-smaller
loop-rest-smaller c =
    omega (arith, behind_shorter c.loop-rest.rest.now c.split_name.result.0.now c.split_name.result.1.now c.loop-rest.invariant.begins c.split_name.ensures.begins c.split_name.ensures.name)

pub returns-clause-empty : goal.returns-clause-empty
returns-clause-empty c = any_end is_empty_name (names_of c.args.text.now) c.loop-rest.rest.now c.loop-rest.seen.empty (none_left _ _ c.is_empty.ensures c.loop-rest-test.false) c.loop-rest.invariant.empty

pub returns-clause-dots : goal.returns-clause-dots
returns-clause-dots c = any_end is_dots (names_of c.args.text.now) c.loop-rest.rest.now c.loop-rest.seen.dots (none_left _ _ c.is_empty.ensures c.loop-rest-test.false) c.loop-rest.invariant.dots

pub returns-clause-long : goal.returns-clause-long
returns-clause-long c = any_end is_long_name (names_of c.args.text.now) c.loop-rest.rest.now c.loop-rest.seen.long (none_left _ _ c.is_empty.ensures c.loop-rest-test.false) c.loop-rest.invariant.long
