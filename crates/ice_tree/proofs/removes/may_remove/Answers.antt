use Rattle.std.proofs.Common.{ℕ, List, drop, length, sym, subst}
use Rattle.tree_spec.specs.Costs.{form_of}
use Rattle.tree_spec.specs.Answers.{next_tree}
use Rattle.tree_spec.specs.Operations.{Remove}
use Rattle.tree_spec.specs.Replies.{refused_of}
use Rattle.ice_reads.specs.Tables.{Map}
use Rattle.ice_map.specs.Own.{own}
use Rattle.ice_tree.specs.Removes.{removal_refusal, IsRemoval}
use Rattle.ice_tree.specs.Quotas.{quota_refusal}
use Rattle.ice_look.specs.Broken.{IsBroken}
use Rattle.ice_tree.proofs.FaultLaws.{broke-too}
use Rattle.ice_tree.proofs.StageLaws.{refused-now, refused-later, none-both, recovers-same}
use Rattle.ice_tree.proofs.removes.may_remove.Goals as goal

pub returns-in-Err-clause-found : goal.returns-in-Err-clause-found
returns-in-Err-clause-found g c = λ mode k t s r.
    let p = drop c.args.depth c.args.path.now in
    refused-now (refused_of c.in-Err.refusal) (removal_refusal p t) (quota_refusal (length c.args.lot.now.groups) (form_of g.F.Form.VERSION) k (next_tree (Remove p) t)) (c.in-Err.ensures.found mode k t s r)

pub returns-in-Err-check_removal-clause-found : goal.returns-in-Err-check_removal-clause-found
returns-in-Err-check_removal-clause-found g c = λ mode k t s r.
    let f = form_of g.F.Form.VERSION in
    let p = drop c.args.depth c.args.path.now in
    let lot = c.args.lot.now in
    let m = g.K.View.map c.args.keep.now c.args.disk.now lot in
    let found = c.in-Ok.ensures.found mode k t s r in
    let looked = c.find_removal.ensures.looked in
    let later = recovers-same f mode lot m (g.K.View.map c.find_removal.new.view c.find_removal.new.disk lot) t k looked.map r in
    let is = subst (λ (x : Map). IsRemoval f (own f x) p t c.in-Ok.gone) (sym looked.map) found.1 in
    refused-later (refused_of c.in-Err-check_removal.refusal) (removal_refusal p t) (quota_refusal (length lot.groups) f k (next_tree (Remove p) t)) found.0 (c.in-Err-check_removal.ensures.quota mode k t p (looked.shows s) later is found.0)

pub returns-in-Ok-check_removal-clause-found : goal.returns-in-Ok-check_removal-clause-found
returns-in-Ok-check_removal-clause-found g c = λ mode k t s r.
    let f = form_of g.F.Form.VERSION in
    let p = drop c.args.depth c.args.path.now in
    let lot = c.args.lot.now in
    let m = g.K.View.map c.args.keep.now c.args.disk.now lot in
    let found = c.in-Ok.ensures.found mode k t s r in
    let looked = c.find_removal.ensures.looked in
    let later = recovers-same f mode lot m (g.K.View.map c.find_removal.new.view c.find_removal.new.disk lot) t k looked.map r in
    let is = subst (λ (x : Map). IsRemoval f (own f x) p t c.in-Ok.gone) (sym looked.map) found.1 in
    (none-both (removal_refusal p t) (quota_refusal (length lot.groups) f k (next_tree (Remove p) t)) found.0 (c.in-Ok-check_removal.ensures.quota mode k t p (looked.shows s) later is found.0), found.1)

pub returns-in-Err-check_removal-clause-damaged : goal.returns-in-Err-check_removal-clause-damaged
returns-in-Err-check_removal-clause-damaged g c = λ n named s.
    let lot = c.args.lot.now in
    let m0 : ℕ → List ℕ = g.K.View.map c.args.keep.now c.args.disk.now lot in
    let m1 : ℕ → List ℕ = g.K.View.map c.find_removal.new.view c.find_removal.new.disk lot in
    let looked = c.find_removal.ensures.looked in
    broke-too (IsBroken (form_of g.F.Form.VERSION) lot m1) (IsBroken (form_of g.F.Form.VERSION) lot m0) (λ x h. subst (λ (m : ℕ → List ℕ). IsBroken (form_of g.F.Form.VERSION) lot m x) looked.map h) c.in-Err-check_removal.refusal
    (λ i is. c.in-Err-check_removal.ensures.damaged i is (looked.shows s)) n named
