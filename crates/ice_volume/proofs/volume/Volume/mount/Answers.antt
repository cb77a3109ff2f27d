use Rattle.std.proofs.Common.{◌≡◌, ◌∙◌, [], refl, sym, ap, subst}
use Rattle.std.specs.Prelude.{slice_index_or}
use Rattle.tree_spec.specs.Lines.{Asks, Mount}
use Rattle.tree_spec.specs.Own as order
use Rattle.ice_base.specs.Lots.{LotView}
use Rattle.ice_tables.specs.Lots.{lot_of}
use Rattle.ice_names.specs.Names.{row_at, path_at}
use Rattle.ice_system.specs.Systems.{tables_of}
use Rattle.ice_volume.specs.Cells.{cell_at, cell_state}
use Rattle.ice_volume.specs.declared.cell.Cell.{Cell}
use Rattle.ice_volume.specs.Orders.{AnswersOrder, IsCellOf}
use Rattle.ice_volume.specs.Rows.{is_marked}
use Rattle.ice_volume.specs.Volumes.{VolumeView}
use Rattle.ice_volume.specs.declared.fault.AreaFault.{AreaFault}
use Rattle.ice_volume.proofs.Aiming.{none_line, free_line}
use Rattle.ice_volume.proofs.Sessions.{here_lot, here_of, path_row, path_line, set_sessions}
use Rattle.ice_volume.proofs.volume.Volume.mount.Goals as goal

pub returns-in-None : goal.returns-in-None
returns-in-None g c = λ room. none_line {X = AreaFault} g.D.Disk.state g.D.Disk.left (Asks (Mount c.args.path.now)) c.args.self.now room c.args.disk.now c.args.path.now order.Mount (λ u. refl) c.in-None.ensures.found

pub returns-in-None-lot : goal.returns-in-None-lot
returns-in-None-lot g c = λ room. free_line {X = AreaFault} g.D.Disk.state g.D.Disk.left (Asks (Mount c.args.path.now)) c.args.self.now room c.args.disk.now c.in-Some.slot c.args.path.now c.in-Some.ensures.slot c.in-Some.ensures.found c.in-None-lot.ensures.none

pub invariant_of-self : goal.invariant_of-self
invariant_of-self g c =
    let v : VolumeView = record { system = c.self.inside.system; cells = c.self.inside.cells } in
    let lot_is : c.in-Some-lot.lot ≡ lot_of (tables_of v.system) c.in-Some.slot = c.in-Some-lot.ensures.lot ∙ sym (ap (λ (y : VolumeView). lot_of (tables_of y.system) c.in-Some.slot) c.self.view_is) in
    let state_is : c.state-state.result ≡ cell_state (slice_index_or c.self.inside.cells c.in-Some.slot c.index-self-slot.result) (is_marked (row_at c.args.self.now.system.names c.in-Some.slot)) = c.state-state.ensures
    ∙ ap (λ (z : Cell). cell_state z (is_marked (row_at c.args.self.now.system.names c.in-Some.slot))) (sym (ap (λ (y : VolumeView). cell_at y.cells c.in-Some.slot) c.self.view_is) ∙ sym (here_of (record { system = c.self.inside.system; cells = c.self.inside.cells }) c.self.invariant c.in-Some.slot c.lot.ensures.low c.index-self-slot.result)) in
    let offline = is_marked (row_at c.args.self.now.system.names c.in-Some.slot) in
    set_sessions v c.self.invariant c.in-Some.slot c.lot.ensures.low c.mount_cell.new.cell
    (path_row (row_at v.system.names c.in-Some.slot) c.args.path.now (ap (λ (y : VolumeView). path_at y.system.names c.in-Some.slot) c.self.view_is ∙ c.in-Some.ensures.found))
    (subst (λ (l : LotView). IsCellOf l c.mount_cell.new.cell) lot_is (c.mount_cell.ensures offline (record { bytes = []; entries = []; rows = [] })
    (subst (λ (l : LotView). IsCellOf l (slice_index_or c.self.inside.cells c.in-Some.slot c.index-self-slot.result)) (sym lot_is) (here_lot v c.self.invariant c.in-Some.slot c.lot.ensures.low c.index-self-slot.result)) state_is).cell)

pub returns : goal.returns
returns g c = λ room.
    let v : VolumeView = record { system = c.self.inside.system; cells = c.self.inside.cells } in let w = c.args.self.now in let x = c.in-Some.slot in let state = g.D.Disk.state in let left = g.D.Disk.left in
    let cell = slice_index_or c.self.inside.cells x c.index-self-slot.result in let offline = is_marked (row_at w.system.names x) in
    let at : IsCellOf (lot_of (tables_of w.system) x) cell = subst (λ (y : VolumeView). IsCellOf (lot_of (tables_of y.system) x) cell) c.self.view_is (here_lot v c.self.invariant x c.lot.ensures.low c.index-self-slot.result) in
    let state_is : c.state-state.result ≡ cell_state (slice_index_or c.self.inside.cells c.in-Some.slot c.index-self-slot.result) (is_marked (row_at c.args.self.now.system.names c.in-Some.slot)) = c.state-state.ensures
    ∙ ap (λ (z : Cell). cell_state z (is_marked (row_at c.args.self.now.system.names c.in-Some.slot))) (sym (ap (λ (y : VolumeView). cell_at y.cells c.in-Some.slot) c.self.view_is) ∙ sym (here_of (record { system = c.self.inside.system; cells = c.self.inside.cells }) c.self.invariant c.in-Some.slot c.lot.ensures.low c.index-self-slot.result)) in
    path_line state left v w c.self.view_is c.self.invariant x c.lot.ensures.low c.in-Some.ensures.slot (Asks (Mount c.args.path.now)) order.Mount offline c.index-self-slot.result c.mount_cell.new.cell room c.mount_cell.result
    c.args.disk.now c.mount_cell.new.disk (λ told. g.met.D.Disk.whole c.args.disk.now told)
    (subst (λ (l : LotView). AnswersOrder state left l order.Mount offline cell c.mount_cell.new.cell room c.mount_cell.result c.args.disk.now c.mount_cell.new.disk) c.in-Some-lot.ensures.lot
    (c.mount_cell.ensures offline room (subst (λ (l : LotView). IsCellOf l cell) (sym c.in-Some-lot.ensures.lot) at) state_is))
    c.args.path.now c.in-Some.ensures.found refl (λ u. refl)
