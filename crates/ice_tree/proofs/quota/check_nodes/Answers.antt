-- The nodes that a change needs are free, or not.
use Rattle.std.proofs.Common.{ap}
use Rattle.tree_spec.specs.Costs.{form_of}
use Rattle.ice_tree.proofs.QuotaLaws.{nodes_shrink, nodes_fit, nodes_lack}
use Rattle.ice_tree.proofs.quota.check_nodes.Goals as goal

pub returns-then-need-clause-nodes : goal.returns-then-need-clause-nodes
returns-then-need-clause-nodes g c = λ mode k t next s r n. nodes_shrink (form_of g.F.Form.VERSION) (ap form_of g.F.Form.is_one.0) mode c.args.lot.now (g.K.View.map c.args.keep.now c.args.disk.now c.args.lot.now) t next k c.args.need.now r n c.if-need.true

pub returns-then-free-need-clause-nodes : goal.returns-then-free-need-clause-nodes
returns-then-free-need-clause-nodes g c = λ mode k t next s r n.
    nodes_lack (form_of g.F.Form.VERSION) (ap form_of g.F.Form.is_one.0) mode c.args.lot.now (g.K.View.map c.args.keep.now c.args.disk.now c.args.lot.now) t next k c.args.need.now r n c.in-Ok.free (c.in-Ok.ensures.count s) c.if-need.false c.if-free-need.true

pub returns-else-free-need-clause-nodes : goal.returns-else-free-need-clause-nodes
returns-else-free-need-clause-nodes g c = λ mode k t next s r n.
    nodes_fit (form_of g.F.Form.VERSION) (ap form_of g.F.Form.is_one.0) mode c.args.lot.now (g.K.View.map c.args.keep.now c.args.disk.now c.args.lot.now) t next k c.args.need.now r n c.in-Ok.free (c.in-Ok.ensures.count s) c.if-need.false c.if-free-need.false
