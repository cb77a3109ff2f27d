use Rattle.std.proofs.Common.{drop, length, refl, sym, subst}
use Rattle.tree_spec.specs.Costs.{form_of}
use Rattle.tree_spec.specs.Answers.{answer}
use Rattle.tree_spec.specs.Replies.{refused_of}
use Rattle.ice_tree.specs.Makes.{new_operation, NewFits}
use Rattle.ice_look.proofs.LookLaws.{fault_model}
use Rattle.ice_tree.proofs.MakeLaws.{new-changes}
use Rattle.ice_tree.proofs.ReplyLaws.{refused-model, accepted-model, accepted-recovers}
use Rattle.ice_tree.proofs.SpotLaws.{takes-after}
use Rattle.ice_reads.specs.Tables.{Map}
use Rattle.ice_look.specs.Broken.{IsBroken, IsBrokenBy}
use Rattle.ice_look.proofs.FaultLaws.{fault-names}
use Rattle.ice_tree.specs.Outcomes.{make_refusals, change_rules}
use Rattle.ice_tree.proofs.Sets.{fault-set}
use Rattle.ice_tree.proofs.makes.make_node.Goals as goal

pub returns-in-Err-clause-answers : goal.returns-in-Err-clause-answers
returns-in-Err-clause-answers g c = λ mode k t s r.
    refused-model t k (length c.args.lot.now.groups) (form_of g.F.Form.VERSION) (new_operation c.args.dir (drop c.args.depth c.args.path.now)) (refused_of c.in-Err.refusal) (c.in-Err.ensures.spot c.args.dir mode k t s r)

pub returns-in-Ok-put_new-clause-answers : goal.returns-in-Ok-put_new-clause-answers
returns-in-Ok-put_new-clause-answers g c = λ mode k t s r.
    let p = drop c.args.depth c.args.path.now in
    accepted-model t k (length c.args.lot.now.groups) (form_of g.F.Form.VERSION) (new_operation c.args.dir p) (new-changes c.args.dir p) (c.in-Ok.ensures.spot c.args.dir mode k t s r).0

pub returns-in-Ok-put_new-clause-changed : goal.returns-in-Ok-put_new-clause-changed
returns-in-Ok-put_new-clause-changed g c = λ mode k t s r.
    let f = form_of g.F.Form.VERSION in
    let p = drop c.args.depth c.args.path.now in
    let lot = c.args.lot.now in
    let spot = c.in-Ok.ensures.spot c.args.dir mode k t s r in
    let looked = c.check_new.ensures.looked in
    let takes = takes-after f mode lot (g.K.View.map c.args.keep.now c.args.disk.now lot) (g.K.View.map c.check_new.new.keep c.check_new.new.disk lot) t k p c.args.dir c.in-Ok.spot c.last_of-name.result looked.map r spot.1 (c.in-Ok.ensures.ready s).spot_is.node_is c.last_of-name.ensures.last c.last_of-name.ensures.name spot.0 in
    accepted-recovers t k (length lot.groups) f (new_operation c.args.dir p) (new-changes c.args.dir p) spot.0 mode lot (g.K.View.map c.put_new.new.keep c.put_new.new.disk lot) (c.in-Ok-put_new.ensures.made mode k t p (looked.shows s) takes)

pub returns-in-Err-put_new-clause-answers : goal.returns-in-Err-put_new-clause-answers
returns-in-Err-put_new-clause-answers g c = λ mode k t s r.
    let f = form_of g.F.Form.VERSION in
    let p = drop c.args.depth c.args.path.now in
    let lot = c.args.lot.now in
    let spot = c.in-Ok.ensures.spot c.args.dir mode k t s r in
    let looked = c.check_new.ensures.looked in
    let takes = takes-after f mode lot (g.K.View.map c.args.keep.now c.args.disk.now lot) (g.K.View.map c.check_new.new.keep c.check_new.new.disk lot) t k p c.args.dir c.in-Ok.spot c.last_of-name.result looked.map r spot.1 (c.in-Ok.ensures.ready s).spot_is.node_is c.last_of-name.ensures.last c.last_of-name.ensures.name spot.0 in
    fault_model c.refusal_of.result c.in-Err-put_new.fault (answer t k (length lot.groups) f (new_operation c.args.dir p)).0 c.refusal_of.ensures (c.in-Err-put_new.ensures.sound mode k t p (looked.shows s) takes)

pub returns-in-Err-put_new-clause-set : goal.returns-in-Err-put_new-clause-set
returns-in-Err-put_new-clause-set g c = fault-set make_refusals change_rules change_rules refl c.refusal_of.result c.in-Err-put_new.fault c.refusal_of.ensures c.in-Err-put_new.ensures.faults

pub returns-in-Err-put_new-clause-damaged : goal.returns-in-Err-put_new-clause-damaged
returns-in-Err-put_new-clause-damaged g c = λ n named s.
    let lot = c.args.lot.now in
    let m0 = g.K.View.map c.args.keep.now c.args.disk.now lot in
    let looked = c.check_new.ensures.looked in
    let fits = subst (λ (m : Map). NewFits (form_of g.F.Form.VERSION) lot m c.in-Ok.spot) (sym looked.map) (c.in-Ok.ensures.ready s) in
    fault-names (IsBroken (form_of g.F.Form.VERSION) lot m0) c.in-Err-put_new.fault c.refusal_of.result c.refusal_of.ensures
    (subst (λ (m : Map). IsBrokenBy (form_of g.F.Form.VERSION) lot m c.in-Err-put_new.fault) looked.map (c.in-Err-put_new.ensures.broken (looked.shows s) fits)) n named
