use Rattle.std.proofs.Common.{◌<◌, subst, arith}
use Rattle.ice_names.specs.Names.{NamesView}
use Rattle.ice_names.proofs.TableLaws.{inside_row}
use Rattle.ice_names.proofs.RouteLaws.{step, route_none}
use Rattle.ice_names.proofs.table.Names.route.Goals as goal

pub loop-s-init : goal.loop-s-init
loop-s-init c = record { route = route_none c.args.self.now c.args.path.now; caught = tt }

pub loop-s-preserved : goal.loop-s-preserved
loop-s-preserved c =
    let low : c.loop-s.s < c.args.self.now.slots = subst (λ (x : NamesView). c.loop-s.s < x.slots) c.self.view_is c.loop-s-test.true in
    let both = step c.args.self.now c.args.path.now c.loop-s.s c.loop-s.best c.longer_one-best.result c.names_caught.result _ low
    (inside_row _ c.args.self.now c.loop-s.s c.index-self-s.result c.self.view_is c.self.invariant
    (omega (arith, c.loop-s-test.true, c.self.invariant.few)))
    c.longer_one-best.ensures c.loop-s.invariant.route c.loop-s.invariant.caught c.names_caught.ensures.caught c.names_caught.ensures.begins in
    record { route = both.0; caught = both.1 }
