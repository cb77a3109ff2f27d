use Rattle.std.proofs.Common.{◌∙◌, sym, ap, length}
use Rattle.ice_owner.specs.Owners.{OwnersView, groups_at}
use Rattle.ice_owner.proofs.Kept.{lot_length}
use Rattle.ice_owner.proofs.owners.Owners.len.Goals as goal

pub returns-clause-len : goal.returns-clause-len
returns-clause-len c =
    let i = c.self.inside in
    c.from.ensures ∙ sym (lot_length i.groups i.counts i.places c.self.invariant.slots c.self.invariant.all c.self.invariant.few c.args.slot)
    ∙ ap (λ (v : OwnersView). length (groups_at v c.args.slot)) c.self.view_is
