use Rattle.std.proofs.Common.{drop, length, refl, ◌+◌, sym, subst}
use Rattle.tree_spec.specs.Costs.{form_of}
use Rattle.tree_spec.specs.Answers.{answer}
use Rattle.tree_spec.specs.Operations.{Write}
use Rattle.tree_spec.specs.Replies.{refused_of}
use Rattle.ice_tree.proofs.FileLaws.{takes_at-after}
use Rattle.ice_look.proofs.LookLaws.{fault_model}
use Rattle.ice_tree.proofs.ReplyLaws.{refused-model, accepted-model, accepted-recovers}
use Rattle.ice_reads.specs.Tables.{Map}
use Rattle.ice_look.specs.Broken.{IsBroken, IsBrokenBy}
use Rattle.ice_tree.specs.Writes.{BytesFit}
use Rattle.ice_tree.proofs.FaultLaws.{broke-too}
use Rattle.ice_look.proofs.FaultLaws.{fault-names}
use Rattle.ice_tree.specs.Outcomes.{write_refusals, change_rules}
use Rattle.ice_tree.proofs.Sets.{fault-set}
use Rattle.ice_tree.proofs.writes.write.Goals as goal

pub returns-in-Err-clause-answers : goal.returns-in-Err-clause-answers
returns-in-Err-clause-answers g c = λ mode k t s r.
    refused-model t k (length c.args.lot.now.groups) (form_of g.F.Form.VERSION) (Write (drop c.args.depth c.args.path.now) c.args.at c.args.bytes.now) (refused_of c.in-Err.refusal) (c.in-Err.ensures.file mode k t s r)

pub returns-in-Ok-put_bytes-clause-answers : goal.returns-in-Ok-put_bytes-clause-answers
returns-in-Ok-put_bytes-clause-answers g c = λ mode k t s r.
    accepted-model t k (length c.args.lot.now.groups) (form_of g.F.Form.VERSION) (Write (drop c.args.depth c.args.path.now) c.args.at c.args.bytes.now) refl (c.in-Ok.ensures.file mode k t s r).0

pub returns-in-Ok-put_bytes-clause-changed : goal.returns-in-Ok-put_bytes-clause-changed
returns-in-Ok-put_bytes-clause-changed g c = λ mode k t s r.
    let f = form_of g.F.Form.VERSION in
    let p = drop c.args.depth c.args.path.now in
    let lot = c.args.lot.now in
    let file = c.in-Ok.ensures.file mode k t s r in
    let looked = c.check_write.ensures.looked in
    let takes = takes_at-after f mode lot (g.K.View.map c.args.keep.now c.args.disk.now lot) (g.K.View.map c.check_write.new.keep c.check_write.new.disk lot) t k p (Write p c.args.at c.args.bytes.now) c.in-Ok.file.number c.in-Ok.file.node looked.map r file.1 (c.in-Ok.ensures.ready s).file_is.node_is file.0 in
    accepted-recovers t k (length lot.groups) f (Write p c.args.at c.args.bytes.now) refl file.0 mode lot (g.K.View.map c.put_bytes.new.keep c.put_bytes.new.disk lot) (c.in-Ok-put_bytes.ensures.set mode k t p (looked.shows s) takes)

pub returns-in-Err-put_bytes-clause-answers : goal.returns-in-Err-put_bytes-clause-answers
returns-in-Err-put_bytes-clause-answers g c = λ mode k t s r.
    let f = form_of g.F.Form.VERSION in
    let p = drop c.args.depth c.args.path.now in
    let lot = c.args.lot.now in
    let file = c.in-Ok.ensures.file mode k t s r in
    let looked = c.check_write.ensures.looked in
    let takes = takes_at-after f mode lot (g.K.View.map c.args.keep.now c.args.disk.now lot) (g.K.View.map c.check_write.new.keep c.check_write.new.disk lot) t k p (Write p c.args.at c.args.bytes.now) c.in-Ok.file.number c.in-Ok.file.node looked.map r file.1 (c.in-Ok.ensures.ready s).file_is.node_is file.0 in
    fault_model c.refusal_of.result c.in-Err-put_bytes.fault (answer t k (length lot.groups) f (Write p c.args.at c.args.bytes.now)).0 c.refusal_of.ensures (c.in-Err-put_bytes.ensures.sound mode k t p (looked.shows s) takes)

pub returns-in-Err-put_bytes-clause-set : goal.returns-in-Err-put_bytes-clause-set
returns-in-Err-put_bytes-clause-set g c = fault-set write_refusals change_rules change_rules refl c.refusal_of.result c.in-Err-put_bytes.fault c.refusal_of.ensures c.in-Err-put_bytes.ensures.faults

pub returns-in-Err-clause-damaged : goal.returns-in-Err-clause-damaged
returns-in-Err-clause-damaged g c = λ n named s. broke-too _ _ (λ r h. h) c.in-Err.refusal (λ i is. c.in-Err.ensures.damaged i is s) n named

pub returns-in-Err-put_bytes-clause-damaged : goal.returns-in-Err-put_bytes-clause-damaged
returns-in-Err-put_bytes-clause-damaged g c = λ n named s.
    let lot = c.args.lot.now in
    let m0 = g.K.View.map c.args.keep.now c.args.disk.now lot in
    let looked = c.check_write.ensures.looked in
    let broken = c.in-Err-put_bytes.ensures.broken (looked.shows s) (subst (λ (m : Map). BytesFit (form_of g.F.Form.VERSION) lot m c.args.at (c.args.at + length c.args.bytes.now) c.in-Ok.file.number c.in-Ok.file.node) (sym looked.map) (c.in-Ok.ensures.ready s)) in
    fault-names (IsBroken (form_of g.F.Form.VERSION) lot m0) c.in-Err-put_bytes.fault c.refusal_of.result c.refusal_of.ensures
    (subst (λ (m : Map). IsBrokenBy (form_of g.F.Form.VERSION) lot m c.in-Err-put_bytes.fault) looked.map broken) n named
