use Rattle.ice_volume.proofs.Routing.{both_catch}
use Rattle.ice_volume.proofs.trees.route_two.Goals as goal

pub returns-clause-caught : goal.returns-clause-caught
returns-clause-caught c = both_catch c.args.names.now c.args.path.now c.args.to.now c.in-Some.target c.in-Some-route.target c.if-here-there.false c.in-Some.ensures.caught c.in-Some-route.ensures.caught
