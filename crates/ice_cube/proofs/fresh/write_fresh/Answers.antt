use Rattle.std.proofs.Common.{◌∙◌, ap}
use Rattle.ice_base.proofs.LotLaws.{sited-some}
use Rattle.ice_journal.specs.declared.area.Area.{Area}
use Rattle.ice_cube.proofs.FreshLaws.{sub_within, gate_within, heads_within, lot_made, lot_sure}
use Rattle.ice_cube.proofs.fresh.write_fresh.Goals as goal

pub returns-in_err-write_fresh_sub-clause-within :
    goal.returns-in_err-write_fresh_sub-clause-within
returns-in_err-write_fresh_sub-clause-within g c =
    sub_within g.D.Disk.state g.D.Disk.left c.args.lot.now c.args.disk.now c.write_fresh_sub.new.disk c.write_fresh_sub.ensures.within

pub returns-in_err-set_gate-clause-within : goal.returns-in_err-set_gate-clause-within
returns-in_err-set_gate-clause-within g c =
    gate_within g.D.Disk.state g.D.Disk.left c.args.lot.now c.area_of.result.gate c.args.disk.now c.write_fresh_sub.new.disk c.set_gate.new.disk
    (ap (λ (x : Area). x.gate) c.area_of.ensures.area)
    (sub_within g.D.Disk.state g.D.Disk.left c.args.lot.now c.args.disk.now c.write_fresh_sub.new.disk c.write_fresh_sub.ensures.within)
    c.set_gate.ensures.within

pub returns-clause-within : goal.returns-clause-within
returns-clause-within g c =
    heads_within g.D.Disk.state g.D.Disk.left c.args.lot.now 0 c.args.disk.now c.set_gate.new.disk c.init_groups.new.disk
    (gate_within g.D.Disk.state g.D.Disk.left c.args.lot.now c.area_of.result.gate c.args.disk.now c.write_fresh_sub.new.disk c.set_gate.new.disk
    (ap (λ (x : Area). x.gate) c.area_of.ensures.area)
    (sub_within g.D.Disk.state g.D.Disk.left c.args.lot.now c.args.disk.now c.write_fresh_sub.new.disk c.write_fresh_sub.ensures.within)
    c.set_gate.ensures.within)
    c.init_groups.ensures.within

pub returns-clause-fresh : goal.returns-clause-fresh
returns-clause-fresh g c = λ told.
    let lot = c.args.lot.now in
    let second = c.write_fresh_sub.ensures.within.tells ∙ told in
    let third = c.set_gate.ensures.within.tells ∙ second in
    lot_sure lot (g.D.Disk.state c.init_groups.new.disk) c.init_groups.result
    (λ groups. lot_made g.D.Disk.state g.D.Disk.left lot c.area_of.result.gate c.write_fresh_sub.new.disk c.set_gate.new.disk c.init_groups.new.disk
    c.write_fresh_sub.ensures.lot (sited-some lot (g.D.Disk.state c.args.disk.now).size c.requires.sited) (ap (λ (x : Area). x.gate) c.area_of.ensures.area)
    (c.in_ok-write_fresh_sub.ensures.sub told) c.set_gate.ensures.within (c.in_ok-set_gate.ensures.reads second) c.init_groups.ensures.within groups)
    (c.init_groups.ensures.settled third) (c.init_groups.ensures.blocks third)
