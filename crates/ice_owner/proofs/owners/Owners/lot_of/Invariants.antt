use Rattle.std.proofs.Common.{◌≡◌, take}
use Rattle.std.specs.Prelude.{slice_index}
use Rattle.ice_owner.specs.Owners.{groups_at}
use Rattle.ice_owner.specs.Places.{view_of}
use Rattle.ice_owner.proofs.owners.Owners.lot_of.Given as goal

abbrev pub invariant-loop-o : goal.invariant-loop-o
invariant-loop-o l = record {
  end : l.o-end ≡ slice_index l.self-inside.counts l.slot;
  slot : l.lot.slot ≡ l.slot;
  base : l.lot.base ≡ l.base;
  groups : l.lot.groups ≡ take l.o (groups_at (view_of l.self-inside.groups l.self-inside.counts l.self-inside.places) l.slot);
}
