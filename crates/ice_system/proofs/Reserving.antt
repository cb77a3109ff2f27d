-- Reserving what was planned succeeds, and gives the planned groups.
use Rattle.std.proofs.Common.{Result, Err, ◌≡◌, ◌≢◌, ◌∙◌, ◌≤◌, ◌<◌, ◌+◌, ◌-◌, ℕ, List, [], ◌++◌, length, length-append, refl, sym, ap, subst, arith}
use Rattle.std.specs.Prelude.{take, ◌↔◌}
use Rattle.std.proofs.lemmas.List.{length-take-le}
use Rattle.ice_base.specs.Lots.{LotView}
use Rattle.ice_names.specs.Names.{NamesView}
use Rattle.ice_owner.specs.Owners.{OwnersView, AreLots, groups_at}
use Rattle.ice_owner.specs.Owners.{free_groups as free_of}
use Rattle.ice_owner.specs.declared.owners.OwnerFault.{OwnerFault}
use Rattle.ice_owner.specs.declared.owners.OwnerFault.TheVariants.{CubeFull, NoGroups}
use Rattle.ice_system.specs.Systems.{AreTables, tables_with}
use Rattle.ice_system.specs.Plans.{PlansCreate, PlansGrow}
use Rattle.ice_system.proofs.Planning.{free_with, no_groups}
use Rattle.ice_system.proofs.Views.{groups_with}

-- a slot can have k groups more, and these are its groups then
pub record Gets (o : OwnersView) (s k : ℕ) (groups : List ℕ) : Type 0 where
  pub few : length (groups_at o s) + k ≤ 64
  pub enough : k ≤ length (free_of o)
  pub got : groups_at o s ++ take k (free_of o) ≡ groups

-- then the reserving isn't refused
pub never_refused : {T : Type 0} (o : OwnersView) (s k : ℕ) (groups : List ℕ) (r : Result T OwnerFault) (e : OwnerFault) → Gets o s k groups
    → ((r ≡ Err CubeFull) ↔ (64 < length (groups_at o s) + k))
    → ((r ≡ Err NoGroups) ↔ ((length (groups_at o s) + k ≤ 64) × (length (free_of o) < k))) → r ≡ Err e → ⊥
never_refused o s k groups r CubeFull gets full none is = let more = full.0 is in omega (arith, more, gets.few)
never_refused o s k groups r NoGroups gets full none is = let less = (none.0 is).1 in omega (arith, less, gets.enough)

module _ (names : NamesView) (owners : OwnersView) (lots : AreLots owners) where
  pub create_gets : (p : List (List ℕ)) (n : ℕ) (lot : LotView) → AreTables names owners → PlansCreate (tables_with names owners) p n lot
      → Gets owners lot.slot (length lot.groups) lot.groups
  create_gets p n lot tables plan =
      let empty : groups_at owners lot.slot ≡ [] = sym (groups_with names owners lots lot.slot) ∙ no_groups names owners lots tables lot.slot plan.slot.free in
      let free : lot.groups ≡ take n (free_of owners) = plan.groups ∙ ap (take n) (free_with names owners) in
      let enough : n ≤ length (free_of owners) = subst (λ (g : List ℕ). n ≤ length g) (free_with names owners) plan.can.enough in
      let count : length lot.groups ≡ n = ap (λ (g : List ℕ). length g) free ∙ length-take-le n (free_of owners) enough in
      let none : length (groups_at owners lot.slot) ≡ 0 = ap (λ (g : List ℕ). length g) empty in
      record {
        few = omega (arith, none, count, plan.can.few);
        enough = omega (arith, count, enough);
        got = ap (λ (g : List ℕ). g ++ take (length lot.groups) (free_of owners)) empty ∙ ap (λ k. take k (free_of owners)) count ∙ sym free;
      }

  -- how many groups a lot has more than its slot
  pub grow_count : (s n : ℕ) (lot : LotView) → PlansGrow (tables_with names owners) s n lot → length lot.groups ≡ length (groups_at owners s) + n
  grow_count s n lot plan =
      let enough : n ≤ length (free_of owners) = subst (λ (g : List ℕ). n ≤ length g) (free_with names owners) plan.can.enough in
      grown s n lot plan ∙ length-append (groups_at owners s) (take n (free_of owners))
      ∙ ap (λ k. length (groups_at owners s) + k) (length-take-le n (free_of owners) enough)
    where
      grown : (s n : ℕ) (lot : LotView) → PlansGrow (tables_with names owners) s n lot
          → length lot.groups ≡ length (groups_at owners s ++ take n (free_of owners))
      grown s n lot plan = ap (λ (g : List ℕ). length g) (plan.groups ∙ rw (groups_with names owners lots s, free_with names owners) refl)

  pub grow_gets : (s n : ℕ) (lot : LotView) → PlansGrow (tables_with names owners) s n lot
      → Gets owners s (length lot.groups - length (groups_at owners s)) lot.groups
  grow_gets s n lot plan =
      let enough : n ≤ length (free_of owners) = subst (λ (g : List ℕ). n ≤ length g) (free_with names owners) plan.can.enough in
      let count : length lot.groups - length (groups_at owners s) ≡ n = let all = grow_count s n lot plan in omega (arith, all) in
      let few : length (groups_at owners s) + n ≤ 64 = subst (λ (g : List ℕ). length g + n ≤ 64) (groups_with names owners lots s) plan.can.few in
      record {
        few = omega (arith, count, few);
        enough = omega (arith, count, enough);
        got =
            ap (λ k. groups_at owners s ++ take k (free_of owners)) count
            ∙ sym (plan.groups ∙ rw (groups_with names owners lots s, free_with names owners) refl);
      }

-- the same of a copy of the groups
pub gets_at : (o copy : OwnersView) (s r k j : ℕ) (groups : List ℕ) → copy ≡ o → r ≡ s → j ≡ k → Gets o s k groups → Gets copy r j groups
gets_at o copy s r k j groups same here count gets = rw (same, here, count) gets

-- a planned lot has a group
pub some_groups : (groups : List ℕ) → 1 ≤ length groups → groups ≢ []
some_groups groups some none = let empty = ap (λ (g : List ℕ). length g) none in omega (arith, some, empty)
