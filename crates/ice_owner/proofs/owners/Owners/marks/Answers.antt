use Rattle.std.proofs.Common.{◌≡◌, subst}
use Rattle.std.specs.Prelude.{slice_index}
use Rattle.ice_owner.specs.Owners.{OwnersView, AreLots, holder, ordinal}
use Rattle.ice_owner.specs.Places.{mark_slot, mark_ordinal}
use Rattle.ice_owner.proofs.Kept.{taken_small, taken_apart}
use Rattle.ice_owner.proofs.MarkLaws.{mark_holder, mark_place, mark_small}
use Rattle.ice_owner.proofs.owners.Owners.marks.Goals as goal

pub marks_of-requires : goal.marks_of-requires
marks_of-requires c =
    let i = c.self.inside in record {
      small = taken_small i.groups i.counts i.places c.self.invariant;
      apart = taken_apart i.groups i.counts i.places c.self.invariant;
    }

pub returns : goal.returns
returns c =
    let i = c.self.inside in
    let marks = c.marks_of.result in record {
      all = c.marks_of.ensures.all;
      small = mark_small i.counts i.places marks c.marks_of.ensures;
      holders = λ g. subst (λ (v : OwnersView). holder v g ≡ mark_slot (slice_index marks g)) c.self.view_is
          (mark_holder i.groups i.counts i.places marks c.self.invariant c.marks_of.ensures g);
      ordinals = λ g. subst (λ (v : OwnersView). ordinal v g ≡ mark_ordinal (slice_index marks g)) c.self.view_is
          (mark_place i.groups i.counts i.places marks c.self.invariant c.marks_of.ensures g);
      lots = subst (λ (v : OwnersView). AreLots v) c.self.view_is c.self.invariant.lots;
    }
