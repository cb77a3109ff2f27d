-- The stages of a quota, one after another.
use Rattle.std.proofs.Common.{length}
use Rattle.tree_spec.specs.Costs.{form_of}
use Rattle.tree_spec.specs.Replies.{refused_of}
use Rattle.ice_tree.specs.Quotas.{nodes_refusal, blocks_refusal}
use Rattle.ice_tree.proofs.StageLaws.{refused-now, refused-later, finds-later, recovers-same}
use Rattle.ice_tree.proofs.quota.check_quota.Goals as goal

pub returns-in-Err-clause-quota : goal.returns-in-Err-clause-quota
returns-in-Err-clause-quota g c = λ mode k t next s r n.
    (refused-now (refused_of c.in-Err.refusal) (nodes_refusal (length c.args.lot.now.groups) next) _ (c.in-Err.ensures.nodes mode k t next s r n))

pub returns-in-Err-check_blocks-clause-quota : goal.returns-in-Err-check_blocks-clause-quota
returns-in-Err-check_blocks-clause-quota g c = λ mode k t next s r n.
    let later = recovers-same (form_of g.F.Form.VERSION) mode c.args.lot.now _ _ t k c.check_nodes.ensures.looked.map r in
    (refused-later (refused_of c.in-Err-check_blocks.refusal) (nodes_refusal (length c.args.lot.now.groups) next) _ (c.in-Ok.ensures.nodes mode k t next s r n)
    (refused-now (refused_of c.in-Err-check_blocks.refusal) (blocks_refusal (length c.args.lot.now.groups) (form_of g.F.Form.VERSION) next) _
    (c.in-Err-check_blocks.ensures.blocks mode k t next (c.check_nodes.ensures.looked.shows s) later n)))

pub returns-clause-quota : goal.returns-clause-quota
returns-clause-quota g c = λ mode k t next s r n.
    let later = recovers-same (form_of g.F.Form.VERSION) mode c.args.lot.now _ _ t k c.check_nodes.ensures.looked.map r in
    let last = recovers-same (form_of g.F.Form.VERSION) mode c.args.lot.now _ _ t k c.check_blocks.ensures.looked.map later in
    let s1 = c.check_nodes.ensures.looked.shows s in
    let none = c.in-Ok.ensures.nodes mode k t next s r n in
    let space = c.in-Ok-check_blocks.ensures.blocks mode k t next s1 later n in
    (finds-later c.check_done.result (nodes_refusal (length c.args.lot.now.groups) next) _ none
    (finds-later c.check_done.result (blocks_refusal (length c.args.lot.now.groups) (form_of g.F.Form.VERSION) next) _ space
    (c.check_done.ensures.done mode k t (c.check_blocks.ensures.looked.shows s1) last)))
