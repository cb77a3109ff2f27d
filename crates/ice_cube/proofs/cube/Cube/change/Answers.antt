use Rattle.std.proofs.Common.{◌≡◌, ◌∙◌, ℕ, true, not, List, sym, ap, subst}
use Rattle.ice_base.specs.Frames.{Sure}
use Rattle.ice_base.specs.Lots.{LotView}
use Rattle.tree_spec.specs.Costs.{form_one}
use Rattle.tree_spec.specs.Lines.{asked}
use Rattle.tree_spec.specs.Operations.{is_change}
use Rattle.ice_journal.specs.Rests.{LotAtRest, RestsLot}
use Rattle.ice_look.specs.Broken.{IsBroken}
use Rattle.ice_txn.specs.Sets.{over}
use Rattle.ice_cube.proofs.CommandLaws.{fault_own, look_or_change, names_own, still_after}
use Rattle.ice_cube.proofs.cube.Cube.change.Goals as goal

pub returns-in-Err-clause-own : goal.returns-in-Err-clause-own
returns-in-Err-clause-own g c = λ r op e holds.
    names_own c.args.self.now (g.D.Disk.state c.args.disk.now) op c.in-Err.refusal c.in-Err.ensures.set (c.in-Err.ensures.refusal op e) c.requires.live r holds

pub returns-in-Ok-clause-names : goal.returns-in-Ok-clause-names
returns-in-Ok-clause-names g c = λ op why e refused. absurd (cc (sym (c.in_default.ensures.refusal op e) ∙ refused))

pub returns-in-Err-make_room-clause-names : goal.returns-in-Err-make_room-clause-names
returns-in-Err-make_room-clause-names g c = λ op why e refused. absurd (cc (sym (c.in_default.ensures.refusal op e) ∙ refused))

pub returns-in-Ok-clause-damaged : goal.returns-in-Ok-clause-damaged
returns-in-Ok-clause-damaged g c = λ map n sure is.
    let old = c.args.self.now in let mid = c.make_room.new.self in let s = g.D.Disk.state c.make_room.new.disk in
    let rest = c.in-Ok.ensures.rest map sure in
    let there = c.apply.ensures.damaged rest.under n (subst (λ (l : LotView). Sure (RestsLot l) (LotAtRest l rest.under) s) (sym c.in-Ok.ensures.lot) rest.rest) is in (
      there.0,
      there.1,
      subst (λ (m : ℕ → List ℕ). IsBroken form_one old.lot m there.0) rest.same
          (subst (λ (l : LotView). IsBroken form_one l (over mid.set rest.under) there.0) c.in-Ok.ensures.lot there.2),
    )

pub returns-in-Ok-clause-crash : goal.returns-in-Ok-clause-crash
returns-in-Ok-clause-crash g c = λ f mode h holds.
    still_after g.D.Disk.state g.D.Disk.left c.args.self.now.lot f mode h c.args.disk.now c.make_room.new.disk c.apply.new.disk c.make_room.ensures.within.streams
    (c.make_room.ensures.crash f mode h holds) c.apply.ensures.still.within

pub returns-in-Err-make_room-clause-own : goal.returns-in-Err-make_room-clause-own
returns-in-Err-make_room-clause-own g c = λ r op e holds.
    let change : is_change op ≡ true = look_or_change c.args.depth (asked c.args.command.now) op e ∙ ap not c.requires.change in
    fault_own c.args.self.now (g.D.Disk.state c.args.disk.now) c.make_room.new.self (g.D.Disk.state c.make_room.new.disk) op c.make_room.ensures.lot c.requires.live
    c.in-Err-make_room.ensures.stops c.make_room.ensures.holds change (c.in_default.ensures.refusal op e) r holds
