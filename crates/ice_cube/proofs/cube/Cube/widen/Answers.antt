use Rattle.std.proofs.Common.{◌≡◌, sym, subst}
use Rattle.ice_base.specs.Lots.{LotView}
use Rattle.ice_tables.specs.Journals.{lot_places}
use Rattle.ice_journal.specs.Blocks.{AreHomes}
use Rattle.ice_cube.specs.Cubes.{CubeView, Holds}
use Rattle.ice_cube.specs.Wider.{HasNewGroups, IsWider}
use Rattle.ice_cube.proofs.WideLots.{wider_holds, wider_homes}
use Rattle.ice_cube.proofs.cube.Cube.widen.Goals as goal

pub invariant_of-self : goal.invariant_of-self
invariant_of-self g c =
    let lot = c.args.lot.now in
    let es = c.self.inside.keep.entries in
    let wider : IsWider c.self.inside.lot lot = subst (λ (x : CubeView). IsWider x.lot lot) (sym c.self.view_is) c.requires.wider in
    subst (λ (x : LotView). AreHomes (lot_places x) es) (sym c.copy-self-inside.ensures) (wider_homes c.self.inside.lot lot es wider c.self.invariant)

pub returns-clause-holds : goal.returns-clause-holds
returns-clause-holds g c = λ f mode h new holds.
    let state = g.D.Disk.state in
    let s = state c.args.disk.now in
    let lot = c.args.lot.now in
    let v : CubeView = record { lot = c.self.inside.lot; set = c.self.inside.keep.entries; done = c.self.inside.done; stopped = c.self.inside.stopped } in
    let e : v ≡ c.args.self.now = c.self.view_is in
    let wider : IsWider v.lot lot = subst (λ (x : CubeView). IsWider x.lot lot) (sym e) c.requires.wider in
    let here : HasNewGroups v.lot lot s = subst (λ (x : CubeView). HasNewGroups x.lot lot s) (sym e) new in
    let there : Holds f mode h v s = subst (λ (x : CubeView). Holds f mode h x s) (sym e) holds in
    let last : Holds f mode h (record { lot = lot; set = v.set; done = v.done; stopped = v.stopped }) s =
    wider_holds v.lot lot f mode h v.set v.done v.stopped s wider c.self.invariant here there in
    subst (λ (x : LotView). Holds f mode h (record { lot = x; set = v.set; done = v.done; stopped = v.stopped }) s) (sym c.copy-self-inside.ensures) last
