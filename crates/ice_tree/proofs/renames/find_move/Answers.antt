use Rattle.std.proofs.Common.{◌≡◌, Err, drop, sym, ap, arith, subst}
use Rattle.ice_base.specs.declared.fault.Rule.{Rule}
use Rattle.std.proofs.lemmas.List.{length-drop}
use Rattle.std.proofs.lemmas.Result.{MatchResult-at_err}
use Rattle.tree_spec.specs.Trees.{last_name}
use Rattle.tree_spec.specs.Costs.{form_of}
use Rattle.tree_spec.specs.Replies.{refused_of}
use Rattle.tree_spec.specs.declared.reply.Refusal.TheVariants.{Damaged}
use Rattle.ice_reads.specs.Tables.{Map}
use Rattle.ice_map.specs.Own.{own}
use Rattle.ice_look.specs.Broken.{IsBroken}
use Rattle.ice_tree.specs.Renames.{MoveIs, height_refusal, ends_refusal, IsMove}
use Rattle.ice_rules.specs.Rules.{rule_number}
use Rattle.ice_look.specs.Places.{place_at, PlaceInHand, NodeIs}
use Rattle.ice_look.proofs.LookLaws.{fault_as}
use Rattle.ice_tree.proofs.StageLaws.{refused-now, refused-later, none-both, recovers-same}
use Rattle.ice_tree.proofs.RenameLaws.{found-move}
use Rattle.ice_tree.proofs.renames.find_move.Goals as goal

pub returns-in-Err-clause-found : goal.returns-in-Err-clause-found
returns-in-Err-clause-found g c = λ mode k t s r. fault_as _ c.in-Err.fault _ c.refusal_of.ensures (c.in-Err.ensures.sound mode k t s r)

pub returns-in-Err-check_height-clause-found : goal.returns-in-Err-check_height-clause-found
returns-in-Err-check_height-clause-found g c = λ mode k t s r.
    let f = form_of g.F.Form.VERSION in
    let p = drop c.args.depth c.args.path.now in
    let q = drop c.args.depth c.args.to.now in
    let looked = c.find_both.ensures.looked in
    let from = c.in-Ok.both.from in
    let here = length-drop c.args.depth c.args.path.now in
    let there = length-drop c.args.depth c.args.to.now in
    refused-now (refused_of c.in-Err-check_height.refusal) (height_refusal p q t) (ends_refusal p q t)
    (c.in-Err-check_height.ensures.height mode k t p q (looked.shows s) (subst (λ (m : Map). NodeIs m from.end from.node) (sym looked.map) (c.in-Ok.ensures.are s).0.end.node_is) (recovers-same f mode c.args.lot.now _ _ t k looked.map r)
    (subst (λ (m : Map). from.end ≡ place_at f (own f m) p t) (sym looked.map) (c.in-Ok.ensures.found mode k t s r).0.at_end)
    (omega (arith, c.len.ensures)) (omega (arith, c.len-2.ensures)))

pub returns-in-Err-check_ends-clause-found : goal.returns-in-Err-check_ends-clause-found
returns-in-Err-check_ends-clause-found g c = λ mode k t s r.
    let f = form_of g.F.Form.VERSION in
    let m = g.V.View.map c.args.view.now c.args.disk.now c.args.lot.now in
    let p = drop c.args.depth c.args.path.now in
    let q = drop c.args.depth c.args.to.now in
    let looked = c.find_both.ensures.looked in
    let from = c.in-Ok.both.from in
    let here = length-drop c.args.depth c.args.path.now in
    let there = length-drop c.args.depth c.args.to.now in
    let both = c.in-Ok.ensures.found mode k t s r in
    refused-later (refused_of c.in-Err-check_ends.refusal) (height_refusal p q t) (ends_refusal p q t)
    (c.in_default.ensures.height mode k t p q (looked.shows s) (subst (λ (m : Map). NodeIs m from.end from.node) (sym looked.map) (c.in-Ok.ensures.are s).0.end.node_is) (recovers-same f mode c.args.lot.now _ _ t k looked.map r)
    (subst (λ (m : Map). from.end ≡ place_at f (own f m) p t) (sym looked.map) both.0.at_end)
    (omega (arith, c.len.ensures)) (omega (arith, c.len-2.ensures)))
    (c.in-Err-check_ends.ensures.ends f (own f m) p q t both.0 both.1
    (c.has_root.ensures.root p q (omega (arith, c.len.ensures)) (omega (arith, c.len-2.ensures))) c.begins-inside.ensures c.is_one_path-same.ensures)

pub returns-clause-found : goal.returns-clause-found
returns-clause-found g c = λ mode k t s r.
    let f = form_of g.F.Form.VERSION in
    let m = g.V.View.map c.args.view.now c.args.disk.now c.args.lot.now in
    let p = drop c.args.depth c.args.path.now in
    let q = drop c.args.depth c.args.to.now in
    let looked = c.find_both.ensures.looked in
    let from = c.in-Ok.both.from in
    let here = length-drop c.args.depth c.args.path.now in
    let there = length-drop c.args.depth c.args.to.now in
    let both = c.in-Ok.ensures.found mode k t s r in
    let high = c.in_default.ensures.height mode k t p q (looked.shows s) (subst (λ (m : Map). NodeIs m from.end from.node) (sym looked.map) (c.in-Ok.ensures.are s).0.end.node_is) (recovers-same f mode c.args.lot.now _ _ t k looked.map r)
    (subst (λ (m : Map). from.end ≡ place_at f (own f m) p t) (sym looked.map) both.0.at_end)
    (omega (arith, c.len.ensures)) (omega (arith, c.len-2.ensures)) in
    let ends = c.in_default-check_ends.ensures.ends f (own f m) p q t both.0 both.1
    (c.has_root.ensures.root p q (omega (arith, c.len.ensures)) (omega (arith, c.len-2.ensures))) c.begins-inside.ensures c.is_one_path-same.ensures in
    found-move c.move_of.result _ (IsMove f (own f m) p q t) (none-both (height_refusal p q t) (ends_refusal p q t) high ends) (c.move_of.ensures.step f (own f m) p q t both.0 both.1 c.is_one_path-same.ensures ends)

pub returns-in-Err-check_height-clause-damaged : goal.returns-in-Err-check_height-clause-damaged
returns-in-Err-check_height-clause-damaged g c = λ n e s.
    let form = form_of g.F.Form.VERSION in
    let lot = c.args.lot.now in
    let looked = c.find_both.ensures.looked in
    let from = c.in-Ok.both.from in
    let same : c.in-Err-check_height.refusal ≡ Damaged n = cc in
    let is = subst (λ (m : Map). PlaceInHand form lot m from.end from.node) (sym looked.map) (c.in-Ok.ensures.are s).0.end in
    subst (λ (m : Map). (r : Rule) × (n ≡ rule_number r) × IsBroken form lot m r) looked.map
    (c.in-Err-check_height.ensures.damaged n (ap (λ x. Err x) same) (looked.shows s) is.node_is is.is is.reached)

pub returns-clause-damaged : goal.returns-clause-damaged
returns-clause-damaged g c = λ n e s.
    let form = form_of g.F.Form.VERSION in
    let lot = c.args.lot.now in
    let m : Map = g.V.View.map c.args.view.now c.args.disk.now lot in
    let name = last_name (drop c.args.depth c.args.path.now) in
    let both = c.in-Ok.ensures in
    let ends = c.in_default-check_ends.ensures in
    let below = c.has_root.ensures.below ends.rootless in
    absurd (MatchResult-at_err (MoveIs form lot m name) (λ r. ⊥) _ e
    (c.move_of.ensures.is form lot m name (both.are s).0 (both.are s).1 both.fits.0 both.fits.1
    (both.named s (omega (arith, below.0, c.len.ensures))) ends.there.0 ends.there.1))
