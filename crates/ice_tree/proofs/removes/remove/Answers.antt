use Rattle.std.proofs.Common.{ℕ, List, drop, length, sym, subst, refl, ◌∙◌, [], ◌∷◌}
use Rattle.tree_spec.specs.Costs.{form_of}
use Rattle.tree_spec.specs.Answers.{answer}
use Rattle.tree_spec.specs.Operations.{Remove}
use Rattle.tree_spec.specs.Replies.{refused_of}
use Rattle.tree_spec.specs.Trees.{last_name}
use Rattle.ice_look.specs.Broken.{IsBroken, IsBrokenBy}
use Rattle.ice_tree.specs.Removes.{Freed}
use Rattle.ice_tree.specs.Quotas.{CanCount}
use Rattle.ice_look.specs.Outcomes.{RefusedAs}
use Rattle.ice_look.specs.Stages.{paths_refusal}
use Rattle.ice_look.proofs.FaultLaws.{fault-names}
use Rattle.ice_look.proofs.LookLaws.{fault_model}
use Rattle.ice_tree.proofs.RemoveDamage.{gone-after}
use Rattle.ice_tree.proofs.RemoveLaws.{loses-after, later_refusal, remove-stages}
use Rattle.ice_tree.proofs.ReplyLaws.{refused-model, accepted-model, accepted-recovers}
use Rattle.ice_tree.proofs.StageLaws.{refused-now, refused-later, none-both}
use Rattle.ice_tree.specs.Outcomes.{remove_refusals, change_rules}
use Rattle.ice_tree.proofs.Sets.{fault-set}
use Rattle.ice_tree.proofs.removes.remove.Goals as goal

pub returns-in-Err-clause-answers : goal.returns-in-Err-clause-answers
returns-in-Err-clause-answers g c = λ mode k t s r.
    let f = form_of g.F.Form.VERSION in
    let p = drop c.args.depth c.args.path.now in
    let lot = c.args.lot.now in
    let n = length lot.groups in
    let x = refused_of c.in-Err.refusal in
    refused-model t k n f (Remove p) x (subst (RefusedAs x) (sym (remove-stages t k n f p)) (refused-now x (paths_refusal f (p ∷ [])) (later_refusal n f k p t) c.in-Err.ensures.refusal))

pub returns-in-Err-may_remove-clause-answers : goal.returns-in-Err-may_remove-clause-answers
returns-in-Err-may_remove-clause-answers g c = λ mode k t s r.
    let f = form_of g.F.Form.VERSION in
    let p = drop c.args.depth c.args.path.now in
    let lot = c.args.lot.now in
    let n = length lot.groups in
    let x = refused_of c.in-Err-may_remove.refusal in
    refused-model t k n f (Remove p) x (subst (RefusedAs x) (sym (remove-stages t k n f p)) (refused-later x (paths_refusal f (p ∷ [])) (later_refusal n f k p t) c.in_default.ensures.refusal (c.in-Err-may_remove.ensures.found mode k t s r)))

pub returns-in-Err-put_away-clause-answers : goal.returns-in-Err-put_away-clause-answers
returns-in-Err-put_away-clause-answers g c = λ mode k t s r.
    let f = form_of g.F.Form.VERSION in
    let p = drop c.args.depth c.args.path.now in
    let lot = c.args.lot.now in
    let n = length lot.groups in
    let found = c.in-Ok.ensures.found mode k t s r in
    let none = remove-stages t k n f p ∙ none-both (paths_refusal f (p ∷ [])) (later_refusal n f k p t) c.in_default.ensures.refusal found.0 in
    let looked = c.may_remove.ensures.looked in
    let loses = loses-after f mode lot (g.K.View.map c.args.keep.now c.args.disk.now lot) (g.K.View.map c.may_remove.new.keep c.may_remove.new.disk lot) t k p c.in-Ok.gone c.last_of-name.result looked.map r found.1 (c.in-Ok.ensures.is s).spot_is.node_is (c.in-Ok.ensures.is s).node_is c.last_of-name.ensures.last none in
    fault_model c.refusal_of.result c.in-Err-put_away.fault (answer t k n f (Remove p)).0 c.refusal_of.ensures (c.in-Err-put_away.ensures.sound mode k t p (looked.shows s) loses)

pub returns-in-Err-put_away-clause-set : goal.returns-in-Err-put_away-clause-set
returns-in-Err-put_away-clause-set g c = fault-set remove_refusals change_rules change_rules refl c.refusal_of.result c.in-Err-put_away.fault c.refusal_of.ensures c.in-Err-put_away.ensures.faults

pub returns-in-Ok-put_away-clause-answers : goal.returns-in-Ok-put_away-clause-answers
returns-in-Ok-put_away-clause-answers g c = λ mode k t s r.
    let f = form_of g.F.Form.VERSION in
    let p = drop c.args.depth c.args.path.now in
    let lot = c.args.lot.now in
    let n = length lot.groups in
    let found = c.in-Ok.ensures.found mode k t s r in
    let none = remove-stages t k n f p ∙ none-both (paths_refusal f (p ∷ [])) (later_refusal n f k p t) c.in_default.ensures.refusal found.0 in
    accepted-model t k n f (Remove p) refl none

pub returns-in-Ok-put_away-clause-changed : goal.returns-in-Ok-put_away-clause-changed
returns-in-Ok-put_away-clause-changed g c = λ mode k t s r.
    let f = form_of g.F.Form.VERSION in
    let p = drop c.args.depth c.args.path.now in
    let lot = c.args.lot.now in
    let n = length lot.groups in
    let found = c.in-Ok.ensures.found mode k t s r in
    let none = remove-stages t k n f p ∙ none-both (paths_refusal f (p ∷ [])) (later_refusal n f k p t) c.in_default.ensures.refusal found.0 in
    let looked = c.may_remove.ensures.looked in
    let loses = loses-after f mode lot (g.K.View.map c.args.keep.now c.args.disk.now lot) (g.K.View.map c.may_remove.new.keep c.may_remove.new.disk lot) t k p c.in-Ok.gone c.last_of-name.result looked.map r found.1 (c.in-Ok.ensures.is s).spot_is.node_is (c.in-Ok.ensures.is s).node_is c.last_of-name.ensures.last none in
    accepted-recovers t k n f (Remove p) refl none mode lot (g.K.View.map c.put_away.new.keep c.put_away.new.disk lot) (c.in-Ok-put_away.ensures.taken mode k t p (looked.shows s) loses)

pub returns-in-Err-put_away-clause-damaged : goal.returns-in-Err-put_away-clause-damaged
returns-in-Err-put_away-clause-damaged g c = λ n named s.
    let lot = c.args.lot.now in
    let m0 : ℕ → List ℕ = g.K.View.map c.args.keep.now c.args.disk.now lot in
    let m1 : ℕ → List ℕ = g.K.View.map c.may_remove.new.keep c.may_remove.new.disk lot in
    let looked = c.may_remove.ensures.looked in
    let last = last_name (drop c.args.depth c.args.path.now) in
    let is = gone-after (form_of g.F.Form.VERSION) lot m0 m1 last c.last_of-name.result c.in-Ok.gone looked.map c.last_of-name.ensures.last (c.in-Ok.ensures.is s) in
    let room = subst (λ (m : ℕ → List ℕ). CanCount m) (sym looked.map) (c.in-Ok.ensures.room s) in
    let broken = c.in-Err-put_away.ensures.broken (looked.shows s) is room in
    fault-names (IsBroken (form_of g.F.Form.VERSION) lot m0) c.in-Err-put_away.fault c.refusal_of.result c.refusal_of.ensures
    (subst (λ (m : ℕ → List ℕ). IsBrokenBy (form_of g.F.Form.VERSION) lot m c.in-Err-put_away.fault) looked.map broken) n named

pub returns-in-Ok-put_away-clause-freed : goal.returns-in-Ok-put_away-clause-freed
returns-in-Ok-put_away-clause-freed g c = λ mode k t s r.
    let lot = c.args.lot.now in
    let found = c.in-Ok.ensures.found mode k t s r in
    subst (λ i. Freed (g.K.View.map c.put_away.new.keep c.put_away.new.disk lot) i) found.1.number_is (c.in-Ok-put_away.ensures.freed (c.may_remove.ensures.looked.shows s))
