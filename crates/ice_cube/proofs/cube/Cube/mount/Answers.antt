use Rattle.std.proofs.Common.{◌≡◌, ◌∙◌, ℕ, [], false, sym, ap, subst, arith}
use Rattle.ice_base.specs.Frames.{Settled}
use Rattle.ice_base.specs.Lots.{LotView, extent}
use Rattle.tree_spec.specs.Records.{fresh}
use Rattle.ice_reads.specs.Recovers.{MapRecovers}
use Rattle.ice_images.specs.Recovering.{mode_byte, Recovers}
use Rattle.ice_cube.specs.Cubes.{CubeView, Holds}
use Rattle.ice_cube.specs.Mounting.{RecoversSome}
use Rattle.ice_cube.proofs.CubeLaws.{rest_holds, same_recovers}
use Rattle.ice_cube.proofs.MountLaws.{barrier_then, damage_same, idle_then, look_same, one_count, some_same, unwritten_then}
use Rattle.ice_cube.proofs.cube.Cube.mount.Goals as goal

pub returns-in-Ok-take_up-clause-recovered : goal.returns-in-Ok-take_up-clause-recovered
returns-in-Ok-take_up-clause-recovered g c = λ told.
    let state = g.D.Disk.state in let lot = c.args.lot.now in let a = c.args.disk.now in let b = c.barrier.new.self in let w = c.barrier.ensures.within in
    let same = look_same state g.D.Disk.left lot a b w in
    subst (λ (x : CubeView). RecoversSome lot (state a).now x.done) (sym c.begin.ensures)
    (some_same lot (state b).now (state a).now c.in-Ok-take_up.done (sym same) (c.in-Ok-take_up.ensures.recovered (w.tells ∙ told)))

pub returns-in-Ok-take_up-clause-mounted : goal.returns-in-Ok-take_up-clause-mounted
returns-in-Ok-take_up-clause-mounted g c = λ f mode t k told r.
    let state = g.D.Disk.state in let lot = c.args.lot.now in let a = c.args.disk.now in let b = c.barrier.new.self in let w = c.barrier.ensures.within in let n = c.in-Ok-take_up.done in
    let settled : Settled (extent lot) (state b) = record { told = w.tells ∙ told; settled = λ x here. (c.in-Ok-barrier.ensures.counts told).loose x } in
    let v : Recovers lot (state b).now f mode t k = same_recovers lot (state a).now (state b).now (look_same state g.D.Disk.left lot a b w) f mode t k r in
    let some = c.in-Ok-take_up.ensures.recovered (w.tells ∙ told) in
    let number : k ≡ n = one_count lot (state b).now f some.form mode some.mode t some.tree k n v some.recovers in
    let rest = c.in-Ok-take_up.ensures.rest v.blocks settled v.effective in
    let holds : Holds f mode (fresh t k) (record { lot = lot; set = []; done = n; stopped = false }) (state c.take_up.new.disk) =
    rest_holds lot f mode t k [] n v.blocks (state c.take_up.new.disk) v.form (omega (arith, number)) rest (subst (λ (x : ℕ). MapRecovers f (mode_byte mode) lot v.blocks t x) number v.recovers) in
    let e : record { lot = lot; set = []; done = n; stopped = false } ≡ c.begin.result = ap (λ (l : LotView). record { lot = l; set = []; done = n; stopped = false }) (sym c.copy.ensures) ∙ sym c.begin.ensures in
    subst (λ (x : CubeView). Holds f mode (fresh t k) x (state c.take_up.new.disk)) e holds

pub returns-in-Ok-take_up-clause-crash : goal.returns-in-Ok-take_up-clause-crash
returns-in-Ok-take_up-clause-crash g c = λ f mode h told every.
    let state = g.D.Disk.state in let lot = c.args.lot.now in let a = c.args.disk.now in let b = c.barrier.new.self in let w = c.barrier.ensures.within in
    let settled : Settled (extent lot) (state b) = record { told = w.tells ∙ told; settled = λ x here. (c.in-Ok-barrier.ensures.counts told).loose x } in
    barrier_then state g.D.Disk.left lot f mode h a b c.take_up.new.disk w settled (g.met.D.Disk.whole b (w.tells ∙ told)) (c.take_up.ensures.crash settled) every

pub returns-in-Err-take_up-clause-crash : goal.returns-in-Err-take_up-clause-crash
returns-in-Err-take_up-clause-crash g c = λ f mode h told every.
    let state = g.D.Disk.state in let lot = c.args.lot.now in let a = c.args.disk.now in let b = c.barrier.new.self in let w = c.barrier.ensures.within in
    let settled : Settled (extent lot) (state b) = record { told = w.tells ∙ told; settled = λ x here. (c.in-Ok-barrier.ensures.counts told).loose x } in
    barrier_then state g.D.Disk.left lot f mode h a b c.take_up.new.disk w settled (g.met.D.Disk.whole b (w.tells ∙ told)) (c.take_up.ensures.crash settled) every

pub returns-in-Err-take_up-clause-unwritten : goal.returns-in-Err-take_up-clause-unwritten
returns-in-Err-take_up-clause-unwritten g c = unwritten_then g.D.Disk.state g.D.Disk.left c.args.lot.now c.args.disk.now c.barrier.new.self c.take_up.new.disk c.barrier.ensures.within
    (λ told. (c.in-Ok-barrier.ensures.counts told).writes) c.in-Err-take_up.fault c.in-Err-take_up.ensures.unwritten

pub returns-in-Err-take_up-clause-damaged : goal.returns-in-Err-take_up-clause-damaged
returns-in-Err-take_up-clause-damaged g c = λ told.
    let state = g.D.Disk.state in let lot = c.args.lot.now in let a = c.args.disk.now in let b = c.barrier.new.self in let w = c.barrier.ensures.within in
    damage_same lot (state b).now (state a).now c.in-Err-take_up.fault (sym (look_same state g.D.Disk.left lot a b w)) (c.in-Err-take_up.ensures.damaged (w.tells ∙ told))

pub returns-in-Ok-take_up-clause-idle : goal.returns-in-Ok-take_up-clause-idle
returns-in-Ok-take_up-clause-idle g c = λ told nothing.
    idle_then g.D.Disk.state g.D.Disk.left c.args.lot.now c.args.disk.now c.barrier.new.self c.take_up.new.disk c.barrier.ensures.within nothing (c.take_up.ensures.idle (c.barrier.ensures.within.tells ∙ told))

pub returns-in-Err-take_up-clause-idle : goal.returns-in-Err-take_up-clause-idle
returns-in-Err-take_up-clause-idle g c = λ told nothing.
    idle_then g.D.Disk.state g.D.Disk.left c.args.lot.now c.args.disk.now c.barrier.new.self c.take_up.new.disk c.barrier.ensures.within nothing (c.take_up.ensures.idle (c.barrier.ensures.within.tells ∙ told))
