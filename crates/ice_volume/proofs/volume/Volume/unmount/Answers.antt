use Rattle.std.proofs.Common.{◌∙◌, [], refl, sym, ap, subst}
use Rattle.std.specs.Prelude.{slice_index_or}
use Rattle.tree_spec.specs.Lines.{Asks, Unmount}
use Rattle.tree_spec.specs.Own as order
use Rattle.ice_tables.specs.Lots.{lot_of}
use Rattle.ice_names.specs.Names.{row_at, path_at}
use Rattle.ice_system.specs.Systems.{tables_of}
use Rattle.ice_volume.specs.Orders.{IsCellOf}
use Rattle.ice_volume.specs.Volumes.{VolumeView}
use Rattle.ice_volume.specs.declared.fault.AreaFault.{AreaFault}
use Rattle.ice_volume.proofs.Aiming.{none_line, free_line}
use Rattle.ice_volume.proofs.Sessions.{here_lot, here_sited, path_row, path_line, set_sessions}
use Rattle.ice_volume.proofs.volume.Volume.unmount.Goals as goal

pub returns-in-None : goal.returns-in-None
returns-in-None g c = λ room. none_line {X = AreaFault} g.D.Disk.state g.D.Disk.left (Asks (Unmount c.args.path.now)) c.args.self.now room c.args.disk.now c.args.path.now order.Unmount (λ u. refl) c.in-None.ensures.found

pub returns-in-None-lot : goal.returns-in-None-lot
returns-in-None-lot g c = λ room. free_line {X = AreaFault} g.D.Disk.state g.D.Disk.left (Asks (Unmount c.args.path.now)) c.args.self.now room c.args.disk.now c.in-Some.slot c.args.path.now c.in-Some.ensures.slot c.in-Some.ensures.found c.in-None-lot.ensures.none

pub unmount_cell-requires : goal.unmount_cell-requires
unmount_cell-requires g c = record {
  sited = here_sited (record { system = c.self.inside.system; cells = c.self.inside.cells }) c.self.invariant c.in-Some.slot c.lot.ensures.low c.index-self-slot.result c.in-Some-lot.lot (g.D.Disk.state c.args.disk.now).size
      (c.in-Some-lot.ensures.lot ∙ sym (ap (λ (v : VolumeView). lot_of (tables_of v.system) c.in-Some.slot) c.self.view_is)) (c.in-Some-lot.ensures.sited (g.D.Disk.state c.args.disk.now).size c.requires) c.in-Some-lot.ensures.some;
}

pub invariant_of-self : goal.invariant_of-self
invariant_of-self g c =
    let v : VolumeView = record { system = c.self.inside.system; cells = c.self.inside.cells } in
    set_sessions v c.self.invariant c.in-Some.slot c.lot.ensures.low c.unmount_cell.new.cell
    (path_row (row_at v.system.names c.in-Some.slot) c.args.path.now (ap (λ (y : VolumeView). path_at y.system.names c.in-Some.slot) c.self.view_is ∙ c.in-Some.ensures.found))
    (c.unmount_cell.ensures (lot_of (tables_of v.system) c.in-Some.slot) (record { bytes = []; entries = []; rows = [] }) (here_lot v c.self.invariant c.in-Some.slot c.lot.ensures.low c.index-self-slot.result)).cell

pub returns : goal.returns
returns g c = λ room.
    let v : VolumeView = record { system = c.self.inside.system; cells = c.self.inside.cells } in let w = c.args.self.now in let x = c.in-Some.slot in
    path_line g.D.Disk.state g.D.Disk.left v w c.self.view_is c.self.invariant x c.lot.ensures.low c.in-Some.ensures.slot (Asks (Unmount c.args.path.now)) order.Unmount c.is_offline-offline.result c.index-self-slot.result c.unmount_cell.new.cell room c.unmount_cell.result
    c.args.disk.now c.unmount_cell.new.disk (λ told. g.met.D.Disk.whole c.args.disk.now told)
    (c.unmount_cell.ensures (lot_of (tables_of w.system) x) room (subst (λ (y : VolumeView). IsCellOf (lot_of (tables_of y.system) x) (slice_index_or c.self.inside.cells x c.index-self-slot.result)) c.self.view_is (here_lot v c.self.invariant x c.lot.ensures.low c.index-self-slot.result)))
    c.args.path.now c.in-Some.ensures.found (sym c.is_offline-offline.ensures) (λ u. refl)
