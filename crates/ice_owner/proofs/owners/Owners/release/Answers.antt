use Rattle.std.proofs.Common.{[], subst, set}
use Rattle.ice_owner.specs.Owners.{OwnersView, Changes}
use Rattle.ice_owner.specs.Places.{view_of}
use Rattle.ice_owner.proofs.Kept.{released_kept, released}
use Rattle.ice_owner.proofs.owners.Owners.release.Goals as goal

pub invariant_of-self : goal.invariant_of-self
invariant_of-self c = released_kept c.self.inside.groups c.self.inside.counts c.self.inside.places c.self.invariant c.args.slot c.requires

pub returns-clause-released : goal.returns-clause-released
returns-clause-released c =
    let i = c.self.inside in
    subst (λ (v : OwnersView). Changes v (view_of i.groups (set i.counts c.args.slot 0) i.places) c.args.slot []) c.self.view_is
    (released i.groups i.counts i.places c.self.invariant c.args.slot c.requires)

pub returns-clause-lots : goal.returns-clause-lots
returns-clause-lots c = (released_kept c.self.inside.groups c.self.inside.counts c.self.inside.places c.self.invariant c.args.slot c.requires).lots
