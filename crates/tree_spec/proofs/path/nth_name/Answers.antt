use Rattle.std.proofs.Common.{refl, arith}
use Rattle.tree_spec.proofs.Texts.{next_left, has_left, name_at}
use Rattle.tree_spec.proofs.path.nth_name.Goals as goal

pub loop-init : goal.loop-init
loop-init c = record { begins = c.requires.begins; left = refl }

pub split_name-requires-clause-begins : goal.split_name-requires-clause-begins
split_name-requires-clause-begins c = c.loop.invariant.begins

pub split_name-requires-clause-has_name : goal.split_name-requires-clause-has_name
split_name-requires-clause-has_name c = has_left _ _ c.loop.counter c.args.i c.loop.invariant.left (omega arith) c.requires.in_range

pub loop-preserved : goal.loop-preserved
loop-preserved c = record { begins = c.split_name.ensures.begins; left = next_left _ _ _ _ c.loop.counter c.split_name.ensures.name c.loop.invariant.left }

pub split_name-requires-2-clause-begins : goal.split_name-requires-2-clause-begins
split_name-requires-2-clause-begins c = c.loop.invariant.begins

pub split_name-requires-2-clause-has_name : goal.split_name-requires-2-clause-has_name
split_name-requires-2-clause-has_name c = has_left _ _ c.loop.counter c.args.i c.loop.invariant.left (omega arith) c.requires.in_range

pub returns : goal.returns
returns c = λ d. name_at _ _ _ _ d c.loop.counter c.args.i c.split_name-2.ensures.name c.loop.invariant.left (omega arith)
