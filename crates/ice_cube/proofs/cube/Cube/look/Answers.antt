use Rattle.std.proofs.Common.{◌≡◌, ◌∙◌, Bool, false, not, Result, Ok, Err, IsErrOf, sym, ap, subst}
use Rattle.ice_base.specs.Frames.{Sure}
use Rattle.ice_base.specs.declared.fault.Rule.{Rule}
use Rattle.tree_spec.specs.Costs.{form_one}
use Rattle.tree_spec.specs.Lines.{asked}
use Rattle.tree_spec.specs.Operations.{is_change}
use Rattle.tree_spec.specs.Own.{OnTree}
use Rattle.tree_spec.specs.Replies.{meant}
use Rattle.tree_spec.specs.declared.reply.Refusal.{Refusal}
use Rattle.tree_spec.specs.declared.reply.Refusal.TheVariants.{Damaged}
use Rattle.tree_spec.specs.declared.reply.Value.{Value}
use Rattle.ice_journal.specs.Rests.{LotAtRest, RestsLot}
use Rattle.ice_look.specs.Broken.{IsBroken}
use Rattle.ice_rules.specs.Rules.{rule_number}
use Rattle.ice_txn.specs.Sets.{over}
use Rattle.ice_cube.specs.Commands.{AnswersOwn, HoldsRecord}
use Rattle.ice_cube.specs.Cubes.{CubeView}
use Rattle.ice_cube.proofs.CommandLaws.{damage_there, look_or_change, look_own, look_sound, some_op}
use Rattle.ice_cube.proofs.cube.Cube.look.Goals as goal

pub invariant_of-self : goal.invariant_of-self
invariant_of-self g c = let o = some_op c.args.depth (asked c.args.command.now) c.requires.tree in (c.look_at.ensures o.0 o.1).called.held.homes c.self.invariant

pub invariant_of-self-in-Err-Damaged : goal.invariant_of-self-in-Err-Damaged
invariant_of-self-in-Err-Damaged g c = let o = some_op c.args.depth (asked c.args.command.now) c.requires.tree in (c.look_at.ensures o.0 o.1).called.held.homes c.self.invariant

pub invariant_of-self-in-Err : goal.invariant_of-self-in-Err
invariant_of-self-in-Err g c = let o = some_op c.args.depth (asked c.args.command.now) c.requires.tree in (c.look_at.ensures o.0 o.1).called.held.homes c.self.invariant

pub returns-in-Ok-clause-still : goal.returns-in-Ok-clause-still
returns-in-Ok-clause-still g c = let o = some_op c.args.depth (asked c.args.command.now) c.requires.tree in (c.look_at.ensures o.0 o.1).called.held.still

pub returns-in-Err-Damaged-clause-still : goal.returns-in-Err-Damaged-clause-still
returns-in-Err-Damaged-clause-still g c = let o = some_op c.args.depth (asked c.args.command.now) c.requires.tree in (c.look_at.ensures o.0 o.1).called.held.still

pub returns-in-Err-clause-still : goal.returns-in-Err-clause-still
returns-in-Err-clause-still g c = let o = some_op c.args.depth (asked c.args.command.now) c.requires.tree in (c.look_at.ensures o.0 o.1).called.held.still

pub returns-in-Ok-clause-tallies : goal.returns-in-Ok-clause-tallies
returns-in-Ok-clause-tallies g c = let o = some_op c.args.depth (asked c.args.command.now) c.requires.tree in (c.in-Ok.ensures o.0 o.1).tallies

pub returns-in-Err-clause-set : goal.returns-in-Err-clause-set
returns-in-Err-clause-set g c = let o = some_op c.args.depth (asked c.args.command.now) c.requires.tree in (c.in-Err.ensures o.0 o.1).called.set

pub returns-in-Err-clause-failed : goal.returns-in-Err-clause-failed
returns-in-Err-clause-failed g c = let o = some_op c.args.depth (asked c.args.command.now) c.requires.tree in (c.in-Err.ensures o.0 o.1).called.failed

pub returns-in-Ok-clause-own : goal.returns-in-Ok-clause-own
returns-in-Ok-clause-own g c = λ r op e holds.
    let state = g.D.Disk.state in let left = g.D.Disk.left in let a = c.args.disk.now in let b = c.look_at.new.disk in let s = c.self.inside in let w = c.look_at.new.keep in let room = c.look_at.new.room in
    let live : s.stopped ≡ false = ap (λ (x : CubeView). x.stopped) c.self.view_is ∙ c.requires.live in
    let there : HoldsRecord (record { lot = s.lot; set = s.keep.entries; done = s.done; stopped = false }) (state a) r =
    subst (λ (x : Bool). HoldsRecord (record { lot = s.lot; set = s.keep.entries; done = s.done; stopped = x }) (state a) r) live
    (subst (λ (x : CubeView). HoldsRecord x (state a) r) (sym c.self.view_is) holds) in
    let looked = c.in-Ok.ensures op e in
    let still : is_change op ≡ false = look_or_change c.args.depth (asked c.args.command.now) op e ∙ ap not c.requires.look in
    subst (λ (x : Bool). AnswersOwn (record { lot = s.lot; set = w.entries; done = s.done; stopped = x }) (state b) r (OnTree op) (meant (Ok c.in-Ok.value) room)) (sym live)
    (look_own state left s.lot s.keep w a b looked.called.held c.self.invariant s.done r there op (Ok c.in-Ok.value) room still looked)

pub returns-in-Err-clause-own : goal.returns-in-Err-clause-own
returns-in-Err-clause-own g c = λ r op e holds.
    let state = g.D.Disk.state in let left = g.D.Disk.left in let a = c.args.disk.now in let b = c.look_at.new.disk in let s = c.self.inside in let w = c.look_at.new.keep in let room = c.look_at.new.room in
    let live : s.stopped ≡ false = ap (λ (x : CubeView). x.stopped) c.self.view_is ∙ c.requires.live in
    let there : HoldsRecord (record { lot = s.lot; set = s.keep.entries; done = s.done; stopped = false }) (state a) r =
    subst (λ (x : Bool). HoldsRecord (record { lot = s.lot; set = s.keep.entries; done = s.done; stopped = x }) (state a) r) live
    (subst (λ (x : CubeView). HoldsRecord x (state a) r) (sym c.self.view_is) holds) in
    let looked = c.in-Err.ensures op e in
    let still : is_change op ≡ false = look_or_change c.args.depth (asked c.args.command.now) op e ∙ ap not c.requires.look in
    subst (λ (x : Bool). AnswersOwn (record { lot = s.lot; set = w.entries; done = s.done; stopped = x }) (state b) r (OnTree op) (meant (Err c.in-Err.refusal) room)) (sym live)
    (look_own state left s.lot s.keep w a b looked.called.held c.self.invariant s.done r there op (Err c.in-Err.refusal) room still looked)

pub returns-in-Err-Damaged-clause-damaged : goal.returns-in-Err-Damaged-clause-damaged
returns-in-Err-Damaged-clause-damaged g c = λ map n sure is.
    let state = g.D.Disk.state in let left = g.D.Disk.left in let a = c.args.disk.now in let b = c.look_at.new.disk in let s = c.self.inside in let w = c.look_at.new.keep in let room = c.look_at.new.room in
    let o = some_op c.args.depth (asked c.args.command.now) c.requires.tree in
    let looked = c.look_at.ensures o.0 o.1 in
    subst (λ (x : CubeView). (r : Rule) × (n ≡ rule_number r) × IsBroken form_one x.lot (over x.set map) r) c.self.view_is
    (damage_there state left s.lot s.keep w a b looked.called.held c.self.invariant o.0 c.look_at.result looked.called map n
    (subst (λ (x : CubeView). Sure (RestsLot x.lot) (LotAtRest x.lot map) (state a)) (sym c.self.view_is) sure)
    (subst (λ (x : Result Value Refusal). IsErrOf x (Damaged n)) (sym (c.in-Err-Damaged.is ∙ ap (λ (x : Refusal). Err x) c.in-Err-Damaged.field-0-is)) is))

pub returns-in-Err-clause-damaged : goal.returns-in-Err-clause-damaged
returns-in-Err-clause-damaged g c = λ map n sure is.
    let state = g.D.Disk.state in let left = g.D.Disk.left in let a = c.args.disk.now in let b = c.look_at.new.disk in let s = c.self.inside in let w = c.look_at.new.keep in let room = c.look_at.new.room in
    let o = some_op c.args.depth (asked c.args.command.now) c.requires.tree in
    let looked = c.look_at.ensures o.0 o.1 in
    subst (λ (x : CubeView). (r : Rule) × (n ≡ rule_number r) × IsBroken form_one x.lot (over x.set map) r) c.self.view_is
    (damage_there state left s.lot s.keep w a b looked.called.held c.self.invariant o.0 c.look_at.result looked.called map n
    (subst (λ (x : CubeView). Sure (RestsLot x.lot) (LotAtRest x.lot map) (state a)) (sym c.self.view_is) sure)
    (subst (λ (x : Result Value Refusal). IsErrOf x (Damaged n)) (sym (c.in-Err.is)) is))

pub returns-in-Err-Damaged-clause-own : goal.returns-in-Err-Damaged-clause-own
returns-in-Err-Damaged-clause-own g c = λ r op e holds.
    let state = g.D.Disk.state in let left = g.D.Disk.left in let a = c.args.disk.now in let b = c.look_at.new.disk in let s = c.self.inside in let w = c.look_at.new.keep in let room = c.look_at.new.room in
    let live : s.stopped ≡ false = ap (λ (x : CubeView). x.stopped) c.self.view_is ∙ c.requires.live in
    let there : HoldsRecord (record { lot = s.lot; set = s.keep.entries; done = s.done; stopped = false }) (state a) r =
    subst (λ (x : Bool). HoldsRecord (record { lot = s.lot; set = s.keep.entries; done = s.done; stopped = x }) (state a) r) live
    (subst (λ (x : CubeView). HoldsRecord x (state a) r) (sym c.self.view_is) holds) in
    let looked = c.look_at.ensures op e in
    absurd (look_sound state left s.lot s.keep w a b looked.called.held c.self.invariant s.done r there op c.look_at.result room c.in-Err-Damaged.rule looked
    (c.in-Err-Damaged.is ∙ ap (λ (x : Refusal). Err x) c.in-Err-Damaged.field-0-is))
