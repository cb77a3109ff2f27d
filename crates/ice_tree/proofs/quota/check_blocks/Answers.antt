-- The blocks that a change needs are free, or not.
use Rattle.std.proofs.Common.{ap}
use Rattle.ice_base.proofs.LotLaws.{sited-few}
use Rattle.tree_spec.specs.Costs.{form_of}
use Rattle.ice_tree.proofs.QuotaLaws.{blocks_shrink, blocks_fit, blocks_lack}
use Rattle.ice_tree.proofs.quota.check_blocks.Goals as goal

pub returns-then-need-clause-blocks : goal.returns-then-need-clause-blocks
returns-then-need-clause-blocks g c = λ mode k t next s r n.
    blocks_shrink (form_of g.F.Form.VERSION) (ap form_of g.F.Form.is_one.0) mode c.args.lot.now (g.K.View.map c.args.keep.now c.args.disk.now c.args.lot.now) t next k c.args.need.now r n (sited-few c.args.lot.now _ c.requires) c.if-need.true

pub returns-then-free-need-clause-blocks : goal.returns-then-free-need-clause-blocks
returns-then-free-need-clause-blocks g c = λ mode k t next s r n.
    blocks_lack (form_of g.F.Form.VERSION) (ap form_of g.F.Form.is_one.0) mode c.args.lot.now (g.K.View.map c.args.keep.now c.args.disk.now c.args.lot.now) t next k c.args.need.now r n (sited-few c.args.lot.now _ c.requires) c.in-Ok.free (c.in-Ok.ensures.count s) c.if-need.false c.if-free-need.true

pub returns-else-free-need-clause-blocks : goal.returns-else-free-need-clause-blocks
returns-else-free-need-clause-blocks g c = λ mode k t next s r n.
    blocks_fit (form_of g.F.Form.VERSION) (ap form_of g.F.Form.is_one.0) mode c.args.lot.now (g.K.View.map c.args.keep.now c.args.disk.now c.args.lot.now) t next k c.args.need.now r n (sited-few c.args.lot.now _ c.requires) c.in-Ok.free (c.in-Ok.ensures.count s) c.if-need.false c.if-free-need.false
