use Rattle.std.proofs.Common.{ap, sym, subst}
use Rattle.tree_spec.specs.Lines.{Asks, Online}
use Rattle.ice_tables.specs.Lots.{groups_of}
use Rattle.ice_names.specs.Names.{marked, row_at}
use Rattle.ice_names.specs.declared.mark.Mark.TheVariants as mark
use Rattle.ice_system.specs.Changes.{Changes}
use Rattle.ice_system.specs.Systems.{tables_of}
use Rattle.ice_volume.specs.Lines.{AnswersLine}
use Rattle.ice_volume.specs.Volumes.{VolumeView}
use Rattle.ice_volume.proofs.TableLines.{online_answers, online_none, online_stays}
use Rattle.ice_volume.proofs.volume.Volume.online.Goals as goal

pub returns-in-None : goal.returns-in-None
returns-in-None g c = λ room. online_none g.D.Disk.state g.D.Disk.left c.args.self.now c.args.path.now room c.args.disk.now c.in-None.ensures.found

pub returns-in_default : goal.returns-in_default
returns-in_default g c = λ room. online_stays g.D.Disk.state g.D.Disk.left c.args.self.now c.args.path.now room c.args.disk.now c.in-Some.slot c.in-Some.ensures.slot c.in-Some.ensures.found
    c.state.result c.state.ensures c.in_default.not-Offline

pub returns : goal.returns
returns g c = λ room.
    let state = g.D.Disk.state in let left = g.D.Disk.left in let r = c.set_mark.result in let a = c.args.disk.now in let b = c.set_mark.new.disk in let x = c.in-Some.slot in
    let z : VolumeView = record { system = c.set_mark.new.self; cells = c.self.inside.cells } in
    subst (λ q. AnswersLine state left (Asks (Online c.args.path.now)) c.args.self.now z room q a b) (sym c.told.ensures)
    (online_answers state left c.args.self.now z c.args.path.now room a b x c.in-Some.ensures.slot c.in-Some.ensures.found r c.state.result c.state.ensures c.in-Offline.is
    (subst (λ (y : VolumeView). Changes state left x (marked mark.Online (row_at y.system.names x)) (groups_of (tables_of y.system) x) y.system z.system r a b) c.self.view_is c.set_mark.ensures)
    (ap (λ (y : VolumeView). y.cells) c.self.view_is))
