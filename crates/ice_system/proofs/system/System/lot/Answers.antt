use Rattle.std.proofs.Common.{◌∙◌, sym, ap, subst}
use Rattle.ice_owner.specs.Owners.{AreLots, groups_at}
use Rattle.ice_system.specs.Systems.{SystemView}
use Rattle.ice_system.proofs.Views.{groups_with, same_lot}
use Rattle.ice_system.proofs.system.System.lot.Goals as goal

-- src/system.rt:70:5
pub returns : goal.returns
returns c =
    let own = ap (λ (x : SystemView). x.owners) c.self.view_is in
    c.lot_of.ensures.lot ∙ same_lot c.args.slot _ _ _ _ c.base.ensures.base
    (ap (λ o. groups_at o c.args.slot) own ∙ sym (groups_with c.args.self.now.names c.args.self.now.owners (subst (λ o. AreLots o) own c.lot_of.ensures.lots) c.args.slot))
