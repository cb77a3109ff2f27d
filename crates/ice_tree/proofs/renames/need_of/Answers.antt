use Rattle.std.proofs.Common.{◌+◌, ap, ◌∙◌}
use Rattle.tree_spec.specs.Costs.{form_of, map_cost, dir_blocks}
use Rattle.ice_tree.proofs.RenameLawsNeeds.{need-same, need-one, need-two}
use Rattle.ice_tree.proofs.renames.need_of.Goals.{then-step-via-then-step, then-step-via-else-step+then-step-2}
use Rattle.ice_tree.proofs.renames.need_of.Goals as goal

pub returns-then-step-clause-needs : goal.returns-then-step-clause-needs
returns-then-step-clause-needs g c = elim c.then-step.branch [
  | then-step-via-then-step w ↦ λ mode k lot m t p q r names ends is. need-same (form_of g.F.Form.VERSION) mode lot m t k p q c.args.step.now r names ends is w.if-step.true
  | then-step-via-else-step+then-step-2 w ↦ λ mode k lot m t p q r names ends is. need-one (form_of g.F.Form.VERSION) mode lot m t k p q c.args.step.now r names ends is w.if-step.false w.if-step-2.true
]

pub returns-clause-needs : goal.returns-clause-needs
returns-clause-needs g c = λ mode k lot m t p q r names ends is.
    need-two (form_of g.F.Form.VERSION) mode lot m t k p q c.args.step.now r names ends is c.if-step.false c.if-step-2.false _ _ _ c.saturating_sub.ensures c.two_costs.ensures c.two_costs-2.ensures

pub returns-clause-apart : goal.returns-clause-apart
returns-clause-apart g c = λ differ apart.
    let f = form_of g.F.Form.VERSION in
    (c.two_costs.ensures ∙ ap (λ n. map_cost (dir_blocks f (c.args.step.now.to.entries + 1)) + map_cost (dir_blocks f n)) c.saturating_sub.ensures, c.two_costs-2.ensures)
