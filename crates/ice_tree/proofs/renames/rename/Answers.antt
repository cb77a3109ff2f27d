use Rattle.std.proofs.Common.{◌≡◌, ℕ, ◌+◌, ◌-◌, List, [], ◌∷◌, Err, length, drop, take, get_or, sym, ap, ◌∙◌, arith, subst, refl}
use Rattle.tree_spec.specs.Costs.{form_of}
use Rattle.tree_spec.specs.Operations.{Rename}
use Rattle.tree_spec.specs.Answers.{next_tree, refusal}
use Rattle.tree_spec.specs.Replies.{refused_of}
use Rattle.tree_spec.specs.Trees.{Tree}
use Rattle.tree_spec.specs.declared.reply.Refusal.TheVariants.{Damaged}
use Rattle.ice_reads.specs.Tables.{Map}
use Rattle.ice_reads.specs.Recovers.{MapRecovers}
use Rattle.ice_tree.specs.Renames.{move_refusal, MoveIs, RowFits}
use Rattle.ice_look.specs.Stages.{or_else, paths_refusal}
use Rattle.ice_tree.specs.Quotas.{quota_refusal}
use Rattle.ice_look.proofs.EndLaws.{names-last, last-is}
use Rattle.ice_look.proofs.LookLaws.{as_model, as_accepted, fault_model, first_stage}
use Rattle.ice_look.proofs.Names.{name-of}
use Rattle.ice_tree.proofs.RenameLaws.{rename-stages, names-short, renames-are, answer-next}
use Rattle.ice_look.specs.Broken.{IsBroken, IsBrokenBy}
use Rattle.ice_look.proofs.FaultLaws.{fault-names}
use Rattle.ice_tree.specs.Outcomes.{rename_refusals, change_rules, rename_rules}
use Rattle.ice_tree.proofs.Sets.{fault-set}
use Rattle.ice_tree.proofs.renames.rename.Goals as goal

pub returns-in-Err-clause-answers : goal.returns-in-Err-clause-answers
returns-in-Err-clause-answers g c = λ mode k t s r.
    let f = form_of g.F.Form.VERSION in
    let p = drop c.args.depth c.args.path.now in
    let q = drop c.args.depth c.args.to.now in
    let n = length c.args.lot.now.groups in
    as_model t k n f (Rename p q) (refused_of c.in-Err.refusal) (paths_refusal f (p ∷ q ∷ [])) c.in-Err.ensures.refusal
    (λ w h. rename-stages t k n f p q ∙ first_stage (paths_refusal f (p ∷ q ∷ [])) (or_else (move_refusal p q t) (quota_refusal n f k (next_tree (Rename p q) t))) w h)

pub put_moved-requires-clause-short : goal.put_moved-requires-clause-short
put_moved-requires-clause-short g c =
    let f = form_of g.F.Form.VERSION in
    let p = drop c.args.depth c.args.path.now in
    let q = drop c.args.depth c.args.to.now in
    let last = c.len-in-Ok.result - 1 in
    let all = c.len-in-Ok.ensures in
    let below = c.in-Ok.ensures.below.1 in
    let short = names-short f p q (take (last - c.args.depth) q) c.name-new.result c.in_default.ensures.refusal
    (names-last c.args.to.now c.args.depth last c.name-new.result (omega arith) (omega arith) (c.name-new.ensures [])) in
    let limit = name-of g.F.Form.VERSION g.F.Form.NAME g.F.Form.is_one.0 g.F.Form.is_one.2 in
    omega (arith, short, limit)

pub returns-in-Err-may_move-clause-answers : goal.returns-in-Err-may_move-clause-answers
returns-in-Err-may_move-clause-answers g c = λ mode k t s r.
    let f = form_of g.F.Form.VERSION in
    let p = drop c.args.depth c.args.path.now in
    let q = drop c.args.depth c.args.to.now in
    let n = length c.args.lot.now.groups in
    as_model t k n f (Rename p q) (refused_of c.in-Err-may_move.refusal) (refusal t k n f (Rename p q)) (c.in-Err-may_move.ensures.found mode k t s r) (λ w h. h)

pub returns-in-Err-put_moved-clause-set : goal.returns-in-Err-put_moved-clause-set
returns-in-Err-put_moved-clause-set g c = fault-set rename_refusals change_rules rename_rules refl c.refusal_of.result c.in-Err-put_moved.fault c.refusal_of.ensures c.in-Err-put_moved.ensures.faults

pub returns-in-Err-put_moved-clause-answers : goal.returns-in-Err-put_moved-clause-answers
returns-in-Err-put_moved-clause-answers g c = λ mode k t s r.
    let f = form_of g.F.Form.VERSION in
    let m : Map = g.K.View.map c.args.keep.now c.args.disk.now c.args.lot.now in
    let later : Map = g.K.View.map c.may_move.new.keep c.may_move.new.disk c.args.lot.now in
    let below = c.in-Ok.ensures.below in
    let x = c.in-Ok.ensures.found mode k t s r in
    let is = renames-are f mode c.args.lot.now m later t k c.args.path.now c.args.to.now c.args.depth c.in-Ok.step c.name-name.result c.name-new.result c.may_move.ensures.looked.map r below.0 below.1
    (c.name-name.ensures [] ∙ ap (λ n. get_or c.args.path.now (n - 1) []) c.len.ensures) (c.name-new.ensures [] ∙ ap (λ n. get_or c.args.to.now (n - 1) []) c.len-in-Ok.ensures) (c.in-Ok.ensures.is s).from_is.node_is (c.in-Ok.ensures.is s).to_is.node_is x in
    fault_model _ c.in-Err-put_moved.fault _ c.refusal_of.ensures
    (c.in-Err-put_moved.ensures.sound mode k t (drop c.args.depth c.args.path.now) (drop c.args.depth c.args.to.now) (c.may_move.ensures.looked.shows s) is)

pub returns-in-Ok-put_moved-clause-answers : goal.returns-in-Ok-put_moved-clause-answers
returns-in-Ok-put_moved-clause-answers g c = λ mode k t s r.
    as_accepted t k (length c.args.lot.now.groups) (form_of g.F.Form.VERSION) (Rename (drop c.args.depth c.args.path.now) (drop c.args.depth c.args.to.now)) (c.in-Ok.ensures.found mode k t s r).0

pub returns-in-Ok-put_moved-clause-changed : goal.returns-in-Ok-put_moved-clause-changed
returns-in-Ok-put_moved-clause-changed g c = λ mode k t s r.
    let f = form_of g.F.Form.VERSION in
    let m : Map = g.K.View.map c.args.keep.now c.args.disk.now c.args.lot.now in
    let later : Map = g.K.View.map c.may_move.new.keep c.may_move.new.disk c.args.lot.now in
    let below = c.in-Ok.ensures.below in
    let x = c.in-Ok.ensures.found mode k t s r in
    let is = renames-are f mode c.args.lot.now m later t k c.args.path.now c.args.to.now c.args.depth c.in-Ok.step c.name-name.result c.name-new.result c.may_move.ensures.looked.map r below.0 below.1
    (c.name-name.ensures [] ∙ ap (λ n. get_or c.args.path.now (n - 1) []) c.len.ensures) (c.name-new.ensures [] ∙ ap (λ n. get_or c.args.to.now (n - 1) []) c.len-in-Ok.ensures) (c.in-Ok.ensures.is s).from_is.node_is (c.in-Ok.ensures.is s).to_is.node_is x in
    let p = drop c.args.depth c.args.path.now in
    let q = drop c.args.depth c.args.to.now in
    subst (λ (u : Tree). MapRecovers f mode c.args.lot.now (g.K.View.map c.put_moved.new.keep c.put_moved.new.disk c.args.lot.now) u (k + 1)) (answer-next t k (length c.args.lot.now.groups) f (Rename p q) x.0)
    (c.in-Ok-put_moved.ensures.moved mode k t p q (c.may_move.ensures.looked.shows s) is)

pub returns-in-Err-may_move-clause-damaged : goal.returns-in-Err-may_move-clause-damaged
returns-in-Err-may_move-clause-damaged g c = λ n e s.
    let same : c.in-Err-may_move.refusal ≡ Damaged n = cc in
    let x = c.in-Err-may_move.ensures.damaged n (ap (λ y. Err y) same) s in
    (x.0, x.1, x.2)

pub returns-in-Err-put_moved-clause-damaged : goal.returns-in-Err-put_moved-clause-damaged
returns-in-Err-put_moved-clause-damaged g c = λ n e s.
    let form = (form_of g.F.Form.VERSION) in
    let lot = c.args.lot.now in
    let m : Map = g.K.View.map c.args.keep.now c.args.disk.now lot in
    let step = c.in-Ok.step in
    let looked = c.may_move.ensures.looked in
    let below = c.in-Ok.ensures.below.0 in
    let name = last-is c.args.path.now c.args.depth (c.len.result - 1) c.name-name.result (omega (arith, below, c.len.ensures)) (omega (arith, below, c.len.ensures)) (c.name-name.ensures []) in
    let is = subst (λ (x : List ℕ). MoveIs form lot m x step) (sym name) (c.in-Ok.ensures.is s) in
    let broken = c.in-Err-put_moved.ensures.broken (looked.shows s) (subst (λ (x : Map). MoveIs form lot x c.name-name.result step) (sym looked.map) is) (subst (λ (x : Map). RowFits form lot x step) (sym looked.map) (c.in-Ok.ensures.room s)) in
    fault-names (IsBroken form lot m) c.in-Err-put_moved.fault _ c.refusal_of.ensures (subst (λ (x : Map). IsBrokenBy form lot x c.in-Err-put_moved.fault) looked.map broken) n e
