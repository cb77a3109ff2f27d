use Rattle.std.proofs.Common.{Err, subst}
use Rattle.ice_system.specs.Changes.{HasChanges, MovesTables}
use Rattle.ice_system.specs.Systems.{SystemView, tables_of, tables_with}
use Rattle.ice_system.proofs.system.System.change.Goals as goal

-- src/change.rt:52:5
pub returns-in-Ok-clause-moves : goal.returns-in-Ok-clause-moves
returns-in-Ok-clause-moves g c sure = c.in-Ok.ensures.moves (tables_of c.args.self.now) (tables_with c.args.names c.args.owners)
    (subst (λ (x : SystemView). HasChanges (tables_of x) (tables_with c.args.names c.args.owners) c.gather.new.set.entries) c.self.view_is c.gather.ensures.changes)
    c.requires.slots c.requires.groups sure

-- src/change.rt:52:5
pub returns-in-Err-Before-clause-moves : goal.returns-in-Err-Before-clause-moves
returns-in-Err-Before-clause-moves g c sure =
    subst (λ e. MovesTables {X = Unit {0}} g.D.Disk.state g.D.Disk.left (tables_of c.args.self.now) (tables_with c.args.names c.args.owners) (Err e) c.args.disk.now c.commit_set.new.disk) c.in-Err-Before.field-0-is
    (c.in-Err-Before.ensures.moves (tables_of c.args.self.now) (tables_with c.args.names c.args.owners)
    (subst (λ (x : SystemView). HasChanges (tables_of x) (tables_with c.args.names c.args.owners) c.gather.new.set.entries) c.self.view_is c.gather.ensures.changes)
    c.requires.slots c.requires.groups sure)

-- src/change.rt:52:5
pub returns-in-Err-After-clause-moves : goal.returns-in-Err-After-clause-moves
returns-in-Err-After-clause-moves g c sure =
    subst (λ e. MovesTables {X = Unit {0}} g.D.Disk.state g.D.Disk.left (tables_of c.args.self.now) (tables_with c.args.names c.args.owners) (Err e) c.args.disk.now c.commit_set.new.disk) c.in-Err-After.field-0-is
    (c.in-Err-After.ensures.moves (tables_of c.args.self.now) (tables_with c.args.names c.args.owners)
    (subst (λ (x : SystemView). HasChanges (tables_of x) (tables_with c.args.names c.args.owners) c.gather.new.set.entries) c.self.view_is c.gather.ensures.changes)
    c.requires.slots c.requires.groups sure)
