use Rattle.std.proofs.Common.{◌≡◌, ◌∙◌, Bool, false, Ok, Err, sym, ap, subst}
use Rattle.ice_base.specs.Lots.{homes, inside}
use Rattle.tree_spec.specs.Own.{Check}
use Rattle.tree_spec.specs.Replies.{Checked, Fault}
use Rattle.ice_check.specs.Shown.{Named}
use Rattle.ice_check.specs.declared.fault.CheckFault.{CheckFault}
use Rattle.ice_check.specs.declared.fault.CheckFault.TheVariants.{Damaged}
use Rattle.ice_keep.specs.Journaled.{HeldBack, held_refl}
use Rattle.ice_txn.specs.Sets.{over}
use Rattle.ice_cube.specs.Commands.{AnswersOwn, HoldsRecord}
use Rattle.ice_cube.specs.Cubes.{CubeView}
use Rattle.ice_cube.proofs.CommandLaws.{check_fault, check_own, check_sound}
use Rattle.ice_cube.proofs.cube.Cube.check.Goals as goal

pub invariant_of-self : goal.invariant_of-self
invariant_of-self g c = (c.check.ensures.looked.steady c.self.inside.keep c.args.disk.now (held_refl g.D.Disk.state g.D.Disk.left c.self.inside.lot c.self.inside.keep c.args.disk.now)).homes c.self.invariant

pub invariant_of-self-in-Err-Damaged : goal.invariant_of-self-in-Err-Damaged
invariant_of-self-in-Err-Damaged g c = (c.check.ensures.looked.steady c.self.inside.keep c.args.disk.now (held_refl g.D.Disk.state g.D.Disk.left c.self.inside.lot c.self.inside.keep c.args.disk.now)).homes c.self.invariant

pub invariant_of-self-in-Err-Disk : goal.invariant_of-self-in-Err-Disk
invariant_of-self-in-Err-Disk g c = (c.check.ensures.looked.steady c.self.inside.keep c.args.disk.now (held_refl g.D.Disk.state g.D.Disk.left c.self.inside.lot c.self.inside.keep c.args.disk.now)).homes c.self.invariant

pub returns-in-Ok-clause-still : goal.returns-in-Ok-clause-still
returns-in-Ok-clause-still g c = (c.check.ensures.looked.steady c.self.inside.keep c.args.disk.now (held_refl g.D.Disk.state g.D.Disk.left c.self.inside.lot c.self.inside.keep c.args.disk.now)).still

pub returns-in-Err-Disk-clause-still : goal.returns-in-Err-Disk-clause-still
returns-in-Err-Disk-clause-still g c = (c.check.ensures.looked.steady c.self.inside.keep c.args.disk.now (held_refl g.D.Disk.state g.D.Disk.left c.self.inside.lot c.self.inside.keep c.args.disk.now)).still

pub returns-in-Err-Damaged-clause-still : goal.returns-in-Err-Damaged-clause-still
returns-in-Err-Damaged-clause-still g c = (c.check.ensures.looked.steady c.self.inside.keep c.args.disk.now (held_refl g.D.Disk.state g.D.Disk.left c.self.inside.lot c.self.inside.keep c.args.disk.now)).still

pub returns-in-Err-Damaged-clause-named : goal.returns-in-Err-Damaged-clause-named
returns-in-Err-Damaged-clause-named g c = λ told.
    let state = g.D.Disk.state in let a = c.args.disk.now in
    subst (λ (x : CubeView). Named x.lot (inside x.lot (over x.set (homes x.lot (state a).now))) (Damaged c.in-Err-Damaged.rule)) c.self.view_is
    (subst (λ (x : CheckFault). Named c.self.inside.lot (inside c.self.inside.lot (over c.self.inside.keep.entries (homes c.self.inside.lot (state a).now))) x) c.in-Err-Damaged.field-0-is
    (c.in-Err-Damaged.ensures.named told))

pub returns-in-Ok-clause-own : goal.returns-in-Ok-clause-own
returns-in-Ok-clause-own g c = λ r holds.
    let state = g.D.Disk.state in let left = g.D.Disk.left in let a = c.args.disk.now in let b = c.check.new.disk in let s = c.self.inside in let w = c.check.new.view in
    let held : HeldBack state left s.lot s.keep a w b = c.check.ensures.looked.steady s.keep a (held_refl state left s.lot s.keep a) in
    let live : s.stopped ≡ false = ap (λ (x : CubeView). x.stopped) c.self.view_is ∙ c.requires.live in
    let there : HoldsRecord (record { lot = s.lot; set = s.keep.entries; done = s.done; stopped = false }) (state a) r =
    subst (λ (x : Bool). HoldsRecord (record { lot = s.lot; set = s.keep.entries; done = s.done; stopped = x }) (state a) r) live
    (subst (λ (x : CubeView). HoldsRecord x (state a) r) (sym c.self.view_is) holds) in
    let z = c.in-Ok.summary in
    subst (λ (x : Bool). AnswersOwn (record { lot = s.lot; set = w.entries; done = s.done; stopped = x }) (state b) r Check (Ok (Checked z.blocks z.nodes z.done))) (sym live)
    (check_own state left s.lot s.keep w a b held c.self.invariant s.done r there z c.in-Ok.ensures.recovers c.check.ensures.looked.map)

pub returns-in-Err-Disk-clause-own : goal.returns-in-Err-Disk-clause-own
returns-in-Err-Disk-clause-own g c = λ r holds.
    let state = g.D.Disk.state in let left = g.D.Disk.left in let a = c.args.disk.now in let b = c.check.new.disk in let s = c.self.inside in let w = c.check.new.view in
    let held : HeldBack state left s.lot s.keep a w b = c.check.ensures.looked.steady s.keep a (held_refl state left s.lot s.keep a) in
    let live : s.stopped ≡ false = ap (λ (x : CubeView). x.stopped) c.self.view_is ∙ c.requires.live in
    let there : HoldsRecord (record { lot = s.lot; set = s.keep.entries; done = s.done; stopped = false }) (state a) r =
    subst (λ (x : Bool). HoldsRecord (record { lot = s.lot; set = s.keep.entries; done = s.done; stopped = x }) (state a) r) live
    (subst (λ (x : CubeView). HoldsRecord x (state a) r) (sym c.self.view_is) holds) in
    subst (λ (x : Bool). AnswersOwn (record { lot = s.lot; set = w.entries; done = s.done; stopped = x }) (state b) r Check (Err Fault)) (sym live)
    (check_fault state left s.lot s.keep w a b held c.self.invariant s.done r there c.check.ensures.looked.map)

pub returns-in-Err-Damaged-clause-own : goal.returns-in-Err-Damaged-clause-own
returns-in-Err-Damaged-clause-own g c = λ r holds.
    let state = g.D.Disk.state in let left = g.D.Disk.left in let a = c.args.disk.now in let b = c.check.new.disk in let s = c.self.inside in let w = c.check.new.view in
    let held : HeldBack state left s.lot s.keep a w b = c.check.ensures.looked.steady s.keep a (held_refl state left s.lot s.keep a) in
    let live : s.stopped ≡ false = ap (λ (x : CubeView). x.stopped) c.self.view_is ∙ c.requires.live in
    let there : HoldsRecord (record { lot = s.lot; set = s.keep.entries; done = s.done; stopped = false }) (state a) r =
    subst (λ (x : Bool). HoldsRecord (record { lot = s.lot; set = s.keep.entries; done = s.done; stopped = x }) (state a) r) live
    (subst (λ (x : CubeView). HoldsRecord x (state a) r) (sym c.self.view_is) holds) in
    absurd (check_sound state left s.lot s.keep w a b held c.self.invariant s.done r there c.check.result c.check.ensures.exact c.in-Err-Damaged.rule
    (c.in-Err-Damaged.is ∙ ap (λ (x : CheckFault). Err x) c.in-Err-Damaged.field-0-is))
