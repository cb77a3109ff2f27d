use Rattle.tree_spec.specs.Trees.{parent}
use Rattle.ice_tree.proofs.RenameLaws.{ends-dirs, spot-is, spot-there}
use Rattle.ice_tree.proofs.RenameDamage.{move-is}
use Rattle.ice_tree.proofs.renames.move_of.Goals as goal

pub returns-in-None-clause-step : goal.returns-in-None-clause-step
returns-in-None-clause-step c = λ f o p q t a b same none. spot-there f o (parent p) t _ a.at_parent (ends-dirs p q t none).0 c.in-None.ensures.is

pub returns-in-None-spot_of-clause-step : goal.returns-in-None-spot_of-clause-step
returns-in-None-spot_of-clause-step c = λ f o p q t a b same none. spot-there f o (parent q) t _ b.at_parent (ends-dirs p q t none).1 c.in-None-spot_of.ensures.is

pub returns-in-Some-spot_of-clause-step : goal.returns-in-Some-spot_of-clause-step
returns-in-Some-spot_of-clause-step c = λ f o p q t a b same none. record {
  from_is = spot-is f o (parent p) t _ _ a.at_parent c.in-Some.ensures.is;
  to_is = spot-is f o (parent q) t _ _ b.at_parent c.in-Some-spot_of.ensures.is;
  same_is = same;
}

pub returns-in-Some-spot_of-clause-is : goal.returns-in-Some-spot_of-clause-is
returns-in-Some-spot_of-clause-is c = λ form lot m name a b f g named there dir. move-is form lot m name c.args.from.now c.args.into.now _ a b f g named there c.in-Some.ensures.is c.in-Some-spot_of.ensures.is c.in-Some.ensures.node c.in-Some-spot_of.ensures.node
