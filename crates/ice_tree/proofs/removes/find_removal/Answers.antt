use Rattle.std.proofs.Common.{◌∙◌, drop}
use Rattle.tree_spec.specs.Costs.{form_of}
use Rattle.ice_map.specs.Own.{own}
use Rattle.ice_tree.proofs.GoneLaws.{not-root}
use Rattle.ice_look.proofs.LookLaws.{fault_as}
use Rattle.ice_tree.proofs.removes.find_removal.Goals as goal

pub returns-in-Ok-clause-found : goal.returns-in-Ok-clause-found
returns-in-Ok-clause-found g c = λ mode k t s r.
    let f = form_of g.F.Form.VERSION in
    c.removal_of.ensures.gone f (own f (g.V.View.map c.args.view.now c.args.disk.now c.args.lot.now)) (drop c.args.depth c.args.path.now) t
    (not-root c.args.path.now c.args.depth c.requires.depth (λ e. c.if-len-depth.false (c.len.ensures ∙ e))) (c.in-Ok.ensures.found mode k t s r)

pub returns-in-Err-clause-found : goal.returns-in-Err-clause-found
returns-in-Err-clause-found g c = λ mode k t s recovers. fault_as _ c.in-Err.fault _ c.refusal_of.ensures (c.in-Err.ensures.sound mode k t s recovers)
