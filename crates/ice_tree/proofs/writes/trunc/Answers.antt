use Rattle.std.proofs.Common.{drop, length, refl, sym, subst}
use Rattle.tree_spec.specs.Costs.{form_of}
use Rattle.tree_spec.specs.Answers.{answer}
use Rattle.tree_spec.specs.Operations.{Trunc}
use Rattle.tree_spec.specs.Replies.{refused_of}
use Rattle.ice_tree.proofs.FileLaws.{takes_at-after}
use Rattle.ice_look.proofs.LookLaws.{fault_model}
use Rattle.ice_tree.proofs.ReplyLaws.{refused-model, accepted-model, accepted-recovers}
use Rattle.ice_reads.specs.Tables.{Map}
use Rattle.ice_look.specs.Broken.{IsBroken, IsBrokenBy}
use Rattle.ice_tree.specs.Writes.{FileIs}
use Rattle.ice_tree.specs.Quotas.{CanCount}
use Rattle.ice_tree.proofs.FaultLaws.{broke-too}
use Rattle.ice_look.proofs.FaultLaws.{fault-names}
use Rattle.ice_tree.specs.Outcomes.{trunc_refusals, change_rules}
use Rattle.ice_tree.proofs.Sets.{fault-set}
use Rattle.ice_tree.proofs.writes.trunc.Goals as goal

pub returns-in-Err-clause-answers : goal.returns-in-Err-clause-answers
returns-in-Err-clause-answers g c = λ mode k t s r.
    refused-model t k (length c.args.lot.now.groups) (form_of g.F.Form.VERSION) (Trunc (drop c.args.depth c.args.path.now) c.args.len) (refused_of c.in-Err.refusal) (c.in-Err.ensures.file mode k t s r)

pub returns-in-Ok-put_cut-clause-answers : goal.returns-in-Ok-put_cut-clause-answers
returns-in-Ok-put_cut-clause-answers g c = λ mode k t s r.
    accepted-model t k (length c.args.lot.now.groups) (form_of g.F.Form.VERSION) (Trunc (drop c.args.depth c.args.path.now) c.args.len) refl (c.in-Ok.ensures.file mode k t s r).0

pub returns-in-Ok-put_cut-clause-changed : goal.returns-in-Ok-put_cut-clause-changed
returns-in-Ok-put_cut-clause-changed g c = λ mode k t s r.
    let f = form_of g.F.Form.VERSION in
    let p = drop c.args.depth c.args.path.now in
    let lot = c.args.lot.now in
    let file = c.in-Ok.ensures.file mode k t s r in
    let looked = c.check_trunc.ensures.looked in
    let takes = takes_at-after f mode lot (g.K.View.map c.args.keep.now c.args.disk.now lot) (g.K.View.map c.check_trunc.new.keep c.check_trunc.new.disk lot) t k p (Trunc p c.args.len) c.in-Ok.file.number c.in-Ok.file.node looked.map r file.1 (c.in-Ok.ensures.ready s).node_is file.0 in
    accepted-recovers t k (length lot.groups) f (Trunc p c.args.len) refl file.0 mode lot (g.K.View.map c.put_cut.new.keep c.put_cut.new.disk lot) (c.in-Ok-put_cut.ensures.set mode k t p (looked.shows s) takes)

pub returns-in-Err-put_cut-clause-answers : goal.returns-in-Err-put_cut-clause-answers
returns-in-Err-put_cut-clause-answers g c = λ mode k t s r.
    let f = form_of g.F.Form.VERSION in
    let p = drop c.args.depth c.args.path.now in
    let lot = c.args.lot.now in
    let file = c.in-Ok.ensures.file mode k t s r in
    let looked = c.check_trunc.ensures.looked in
    let takes = takes_at-after f mode lot (g.K.View.map c.args.keep.now c.args.disk.now lot) (g.K.View.map c.check_trunc.new.keep c.check_trunc.new.disk lot) t k p (Trunc p c.args.len) c.in-Ok.file.number c.in-Ok.file.node looked.map r file.1 (c.in-Ok.ensures.ready s).node_is file.0 in
    fault_model c.refusal_of.result c.in-Err-put_cut.fault (answer t k (length lot.groups) f (Trunc p c.args.len)).0 c.refusal_of.ensures (c.in-Err-put_cut.ensures.sound mode k t p (looked.shows s) takes)

pub returns-in-Err-put_cut-clause-set : goal.returns-in-Err-put_cut-clause-set
returns-in-Err-put_cut-clause-set g c = fault-set trunc_refusals change_rules change_rules refl c.refusal_of.result c.in-Err-put_cut.fault c.refusal_of.ensures c.in-Err-put_cut.ensures.faults

pub returns-in-Err-clause-damaged : goal.returns-in-Err-clause-damaged
returns-in-Err-clause-damaged g c = λ n named s. broke-too _ _ (λ r h. h) c.in-Err.refusal (λ i is. c.in-Err.ensures.damaged i is s) n named

pub returns-in-Err-put_cut-clause-damaged : goal.returns-in-Err-put_cut-clause-damaged
returns-in-Err-put_cut-clause-damaged g c = λ n named s.
    let lot = c.args.lot.now in
    let m0 = g.K.View.map c.args.keep.now c.args.disk.now lot in
    let looked = c.check_trunc.ensures.looked in
    let broken = c.in-Err-put_cut.ensures.broken (looked.shows s) (subst (λ (m : Map). FileIs (form_of g.F.Form.VERSION) lot m c.args.len c.in-Ok.file.number c.in-Ok.file.node) (sym looked.map) (c.in-Ok.ensures.ready s)) (subst (λ (m : Map). CanCount m) (sym looked.map) (c.in-Ok.ensures.room s)) in
    fault-names (IsBroken (form_of g.F.Form.VERSION) lot m0) c.in-Err-put_cut.fault c.refusal_of.result c.refusal_of.ensures
    (subst (λ (m : Map). IsBrokenBy (form_of g.F.Form.VERSION) lot m c.in-Err-put_cut.fault) looked.map broken) n named
