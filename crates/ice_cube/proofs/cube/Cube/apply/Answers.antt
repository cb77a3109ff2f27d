use Rattle.std.proofs.Common.{◌≡◌, ◌∙◌, ℕ, Bool, true, false, not, nat_lt, Ok, Err, sym, ap, subst}
use Rattle.std.specs.Prelude.{◌+◌, ◌-◌, ◌^◌, min}
use Rattle.ice_base.specs.Frames.{Sure}
use Rattle.ice_base.specs.declared.fault.Rule.{Rule}
use Rattle.tree_spec.specs.Costs.{form_one}
use Rattle.tree_spec.specs.Lines.{asked}
use Rattle.tree_spec.specs.Operations.{is_change}
use Rattle.tree_spec.specs.Own.{OnTree}
use Rattle.tree_spec.specs.Replies.{Plain}
use Rattle.ice_journal.specs.Rests.{LotAtRest, RestsLot}
use Rattle.ice_look.specs.Broken.{IsBroken}
use Rattle.ice_rules.specs.Rules.{rule_number}
use Rattle.ice_txn.specs.Sets.{over}
use Rattle.ice_cube.specs.Commands.{AnswersOwn, HoldsRecord}
use Rattle.ice_cube.specs.Cubes.{CubeView}
use Rattle.ice_cube.proofs.CommandLaws.{change_own, damage_there, look_or_change, refused_own, some_op}
use Rattle.ice_cube.proofs.cube.Cube.apply.Goals as goal

pub invariant_of-self : goal.invariant_of-self
invariant_of-self g c = let o = some_op c.args.depth (asked c.args.command.now) c.requires.tree in (c.change_in.ensures o.0 o.1).called.held.homes c.self.invariant

pub invariant_of-self-in-Err : goal.invariant_of-self-in-Err
invariant_of-self-in-Err g c = let o = some_op c.args.depth (asked c.args.command.now) c.requires.tree in (c.change_in.ensures o.0 o.1).called.held.homes c.self.invariant

pub returns-in-Ok-clause-still : goal.returns-in-Ok-clause-still
returns-in-Ok-clause-still g c = let o = some_op c.args.depth (asked c.args.command.now) c.requires.tree in (c.change_in.ensures o.0 o.1).called.held.still

pub returns-in-Err-clause-still : goal.returns-in-Err-clause-still
returns-in-Err-clause-still g c = let o = some_op c.args.depth (asked c.args.command.now) c.requires.tree in (c.change_in.ensures o.0 o.1).called.held.still

pub returns-in-Err-clause-set : goal.returns-in-Err-clause-set
returns-in-Err-clause-set g c = let o = some_op c.args.depth (asked c.args.command.now) c.requires.tree in (c.in-Err.ensures o.0 o.1).called.set

pub returns-in-Err-clause-failed : goal.returns-in-Err-clause-failed
returns-in-Err-clause-failed g c = let o = some_op c.args.depth (asked c.args.command.now) c.requires.tree in (c.in-Err.ensures o.0 o.1).called.failed

pub returns-in-Err-clause-damaged : goal.returns-in-Err-clause-damaged
returns-in-Err-clause-damaged g c = λ map n sure is.
    let state = g.D.Disk.state in let left = g.D.Disk.left in let a = c.args.disk.now in let b = c.change_in.new.disk in let s = c.self.inside in let w = c.change_in.new.keep in
    let o = some_op c.args.depth (asked c.args.command.now) c.requires.tree in
    let changed = c.in-Err.ensures o.0 o.1 in
    subst (λ (x : CubeView). (r : Rule) × (n ≡ rule_number r) × IsBroken form_one x.lot (over x.set map) r) c.self.view_is
    (damage_there state left s.lot s.keep w a b changed.called.held c.self.invariant o.0 (Err c.in-Err.refusal) changed.called map n
    (subst (λ (x : CubeView). Sure (RestsLot x.lot) (LotAtRest x.lot map) (state a)) (sym c.self.view_is) sure) is)

pub returns-in-Ok-clause-own : goal.returns-in-Ok-clause-own
returns-in-Ok-clause-own g c = λ r op e holds.
    let state = g.D.Disk.state in let left = g.D.Disk.left in let a = c.args.disk.now in let b = c.change_in.new.disk in let s = c.self.inside in let w = c.change_in.new.keep in
    let live : s.stopped ≡ false = ap (λ (x : CubeView). x.stopped) c.self.view_is ∙ c.requires.live in
    let there : HoldsRecord (record { lot = s.lot; set = s.keep.entries; done = s.done; stopped = false }) (state a) r =
    subst (λ (x : Bool). HoldsRecord (record { lot = s.lot; set = s.keep.entries; done = s.done; stopped = x }) (state a) r) live
    (subst (λ (x : CubeView). HoldsRecord x (state a) r) (sym c.self.view_is) holds) in
    let change : is_change op ≡ true = look_or_change c.args.depth (asked c.args.command.now) op e ∙ ap not c.requires.change in
    let changed = c.in-Ok.ensures op e in
    subst (λ (n : ℕ). AnswersOwn (record { lot = s.lot; set = w.entries; done = n; stopped = s.stopped }) (state b) r (OnTree op) (Ok Plain)) (sym c.saturating_add-self-inside.ensures)
    (subst (λ (x : Bool). AnswersOwn (record { lot = s.lot; set = w.entries; done = min (s.done + 1) (2 ^ 64 - 1); stopped = x }) (state b) r (OnTree op) (Ok Plain)) (sym live)
    (change_own state left s.lot s.keep w a b changed.called.held c.self.invariant s.done r there op change changed))

pub returns-in-Err-clause-own : goal.returns-in-Err-clause-own
returns-in-Err-clause-own g c = λ r op e holds.
    let state = g.D.Disk.state in let left = g.D.Disk.left in let a = c.args.disk.now in let b = c.change_in.new.disk in let s = c.self.inside in let w = c.change_in.new.keep in
    let live : s.stopped ≡ false = ap (λ (x : CubeView). x.stopped) c.self.view_is ∙ c.requires.live in
    let there : HoldsRecord (record { lot = s.lot; set = s.keep.entries; done = s.done; stopped = false }) (state a) r =
    subst (λ (x : Bool). HoldsRecord (record { lot = s.lot; set = s.keep.entries; done = s.done; stopped = x }) (state a) r) live
    (subst (λ (x : CubeView). HoldsRecord x (state a) r) (sym c.self.view_is) holds) in
    let change : is_change op ≡ true = look_or_change c.args.depth (asked c.args.command.now) op e ∙ ap not c.requires.change in
    let changed = c.in-Err.ensures op e in
    refused_own state left s.lot s.keep w a b changed.called.held c.self.invariant s.done r there op c.in-Err.refusal (nat_lt 14 c.number.result) change changed
    (ap (λ (x : ℕ). nat_lt 14 x) c.number.ensures)
