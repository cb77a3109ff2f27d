use Rattle.std.proofs.Common.{◌≡◌, ◌∙◌, Ok, Err, map, sym, ap, subst}
use Rattle.std.specs.Prelude.{slice_index_or}
use Rattle.tree_spec.specs.Lines.{Asks, asked}
use Rattle.tree_spec.specs.Operations.{below}
use Rattle.tree_spec.specs.Own as order
use Rattle.ice_tables.specs.Lots.{lot_of}
use Rattle.ice_names.specs.Names.{NamesView}
use Rattle.ice_system.specs.Systems.{tables_of}
use Rattle.ice_volume.specs.Orders.{IsCellOf}
use Rattle.ice_volume.specs.Targets.{AllCatch, one_slot, paths_asked, routed}
use Rattle.ice_volume.specs.Volumes.{VolumeView}
use Rattle.ice_volume.specs.declared.fault.AreaFault.{AreaFault}
use Rattle.ice_volume.proofs.Aiming.{meant_slot}
use Rattle.ice_volume.proofs.Refusing.{tree_refused}
use Rattle.ice_volume.proofs.Routing.{whole, first_caught, target_cube, aims_tree}
use Rattle.ice_volume.proofs.Sessions.{here_lot, set_sessions, slot_line}
use Rattle.ice_volume.proofs.volume.Volume.tree.Goals as goal

pub returns-in-Err : goal.returns-in-Err
returns-in-Err g c =
    let names_is = c.names.ensures ∙ ap (λ (y : VolumeView). y.system.names) c.self.view_is in
    tree_refused {X = AreaFault} g.D.Disk.state g.D.Disk.left (asked c.args.command.now) c.requires.tree c.args.self.now c.args.room.now c.args.disk.now c.in-Err.refusal
    (subst (λ (m : NamesView). one_slot (map (routed m) (paths_asked (asked c.args.command.now))) ≡ Err c.in-Err.refusal) names_is (sym c.in-Err.ensures.slot))

pub invariant_of-self : goal.invariant_of-self
invariant_of-self g c =
    let v : VolumeView = record { system = c.self.inside.system; cells = c.self.inside.cells } in let x = c.in-Ok.target.0 in let n = c.in-Ok.target.1 in let req = asked c.args.command.now in
    let w = whole req c.requires.tree in
    let caught : AllCatch v.system.names x n (paths_asked req) = subst (λ (m : NamesView). AllCatch m x n (paths_asked req)) c.names.ensures c.in-Ok.ensures.caught in
    set_sessions v c.self.invariant x c.lot.ensures.low c.tree_cell.new.cell (first_caught v.system.names x n req c.requires.tree caught).1.live
    (c.tree_cell.ensures (lot_of (tables_of v.system) x) (below n w.0) (w.1.asks n) (here_lot v c.self.invariant x c.lot.ensures.low c.index-self-slot.result)).cell

pub returns : goal.returns
returns g c =
    let v : VolumeView = record { system = c.self.inside.system; cells = c.self.inside.cells } in let u = c.args.self.now in let x = c.in-Ok.target.0 in let n = c.in-Ok.target.1 in let req = asked c.args.command.now in
    let state = g.D.Disk.state in let left = g.D.Disk.left in let w = whole req c.requires.tree in let op = below n w.0 in
    let names_is = c.names.ensures ∙ ap (λ (y : VolumeView). y.system.names) c.self.view_is in
    let caught : AllCatch u.system.names x n (paths_asked req) = subst (λ (m : NamesView). AllCatch m x n (paths_asked req)) names_is c.in-Ok.ensures.caught in
    let slot : one_slot (map (routed u.system.names) (paths_asked req)) ≡ Ok x = subst (λ (m : NamesView). one_slot (map (routed m) (paths_asked req)) ≡ Ok x) names_is (sym c.in-Ok.ensures.slot) in
    let cell = slice_index_or c.self.inside.cells x c.index-self-slot.result in
    let at : IsCellOf (lot_of (tables_of u.system) x) cell = subst (λ (y : VolumeView). IsCellOf (lot_of (tables_of y.system) x) cell) c.self.view_is (here_lot v c.self.invariant x c.lot.ensures.low c.index-self-slot.result) in
    slot_line state left v u c.self.view_is c.self.invariant x c.lot.ensures.low (first_caught u.system.names x n req c.requires.tree caught).1.low (Asks req) (order.OnTree op) c.is_offline-offline.result c.index-self-slot.result c.tree_cell.new.cell
    c.tree_cell.new.room c.tree_cell.result c.args.disk.now c.tree_cell.new.disk (λ told. g.met.D.Disk.whole c.args.disk.now told)
    (c.tree_cell.ensures (lot_of (tables_of u.system) x) op (w.1.asks n) at)
    (λ z stands. let cube = target_cube u (state c.args.disk.now) z stands req c.requires.tree x n caught in
    meant_slot u (state c.args.disk.now) z stands x cube.0 (Asks req) (order.OnTree op) c.is_offline-offline.result cube.1 (sym c.is_offline-offline.ensures)
    (aims_tree u (state c.args.disk.now) z stands req c.requires.tree x n slot caught op (w.1.asks n)))
