use Rattle.std.proofs.Common.{◌∙◌, ap, arith}
use Rattle.ice_system.specs.Systems.{tables_of}
use Rattle.ice_tables.specs.Lots.{lot_of}
use Rattle.ice_volume.specs.Volumes.{VolumeView}
use Rattle.ice_volume.proofs.Aiming.{free_slot}
use Rattle.ice_volume.proofs.Sited.{sited_lot}
use Rattle.ice_volume.proofs.volume.Volume.lot.Goals as goal

pub returns-then-len-eq0-clause-none : goal.returns-then-len-eq0-clause-none
returns-then-len-eq0-clause-none c = λ s w stands. free_slot c.args.self.now s w stands c.args.slot c.lot-lot.result (c.lot-lot.ensures ∙ ap (λ (v : VolumeView). lot_of (tables_of v.system) c.args.slot) c.self.view_is) (omega (arith, c.len.ensures.len, c.if-len-eq0.true))

pub returns-clause-sited : goal.returns-clause-sited
returns-clause-sited c = λ n room. sited_lot (tables_of c.args.self.now.system) c.args.slot n c.lot-lot.result (c.lot-lot.ensures ∙ ap (λ (v : VolumeView). lot_of (tables_of v.system) c.args.slot) c.self.view_is) c.requires room (omega (arith, c.len.ensures.len, c.if-len-eq0.false)) (omega (arith, c.len.ensures.len, c.len.ensures.few))
