use Rattle.std.proofs.Common.{◌≡◌, ◌∙◌, [], false, refl, sym, ap, subst, arith}
use Rattle.ice_base.specs.Lots.{LotView}
use Rattle.tree_spec.specs.Costs.{form_one}
use Rattle.tree_spec.specs.Records.{Plain, fresh}
use Rattle.tree_spec.specs.Trees.{Dir, Nil}
use Rattle.ice_cube.specs.Cubes.{CubeView, Holds}
use Rattle.ice_cube.proofs.CubeLaws.{rest_holds}
use Rattle.ice_cube.proofs.FreshLots.{empty_at_rest}
use Rattle.ice_cube.proofs.cube.Cube.make.Goals as goal

pub returns-in-Ok-write_fresh-clause-made : goal.returns-in-Ok-write_fresh-clause-made
returns-in-Ok-write_fresh-clause-made g c told =
    let state = g.D.Disk.state in
    let lot = c.args.lot.now in
    let sure = c.in-Ok-write_fresh.ensures.fresh told in
    let holds : Holds form_one Plain (fresh (Dir Nil) 0) (record { lot = lot; set = []; done = 0; stopped = false }) (state c.write_fresh.new.disk) =
    rest_holds lot form_one Plain (Dir Nil) 0 [] 0 sure.now.blocks (state c.write_fresh.new.disk) refl (omega arith) (empty_at_rest lot (state c.write_fresh.new.disk) sure) sure.now.recovers in
    let e : record { lot = lot; set = []; done = 0; stopped = false } ≡ c.begin.result = ap (λ (l : LotView). record { lot = l; set = []; done = 0; stopped = false }) (sym c.copy.ensures) ∙ sym c.begin.ensures in
    subst (λ (x : CubeView). Holds form_one Plain (fresh (Dir Nil) 0) x (state c.write_fresh.new.disk)) e holds
