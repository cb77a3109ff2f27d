use Rattle.std.proofs.Common.{◌∙◌, sym, ap, below_more}
use Rattle.ice_base.specs.Used.{is_data}
use Rattle.ice_check.proofs.inodes.lead_to_data.Goals as goal

pub loop-n-preserved : goal.loop-n-preserved
loop-n-preserved c = below_more _ _ c.loop-n.invariant (ap (is_data c.args.lot.now) (sym c.pointer.ensures) ∙ sym c.is_data_place.ensures ∙ c.if-not-is_data_place.false)
