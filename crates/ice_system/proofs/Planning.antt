-- The lot that a cube would get, from the rows and the groups.
use Rattle.std.proofs.Common.{◌≡◌, ◌≢◌, ◌∙◌, ◌≤◌, ◌<◌, ◌+◌, ◌*◌, ℕ, Bool, true, false, List, [], ◌∷◌, ◌++◌, length, Option, Some, None, refl, sym, ap, subst, arith}
use Rattle.std.specs.Prelude.{nat_lt, take, IsSome, is_some, MatchOption, Result, Ok, Err, IfOk, IfErr}
use Rattle.std.proofs.lemmas.Bool.Decides.{nat_tests}
use Rattle.ice_base.specs.Lots.{LotView}
use Rattle.tree_spec.specs.declared.reply.Refusal.{Refusal}
use Rattle.tree_spec.specs.declared.reply.Refusal.TheVariants.{CubeFull, NoGroups}
use Rattle.ice_names.specs.Names.{NamesView, NoneHas, path_at, path_of, row_at}
use Rattle.ice_owner.specs.Owners.{OwnersView, AreLots, groups_at}
use Rattle.ice_owner.specs.Owners.{Changes as ChangesLots, free_groups as free_of}
use Rattle.ice_tables.specs.Tables.{Row}
use Rattle.ice_tables.specs.Lots.{groups_of}
use Rattle.ice_system.specs.Systems.{AreTables, tables_with}
use Rattle.ice_system.specs.Plans.{CanHave, HasPath, IsFreeSlot, NoneFree, PlansCreate, PlansGrow, RefusesCreate, RefusesGroups, free_groups}
use Rattle.ice_system.proofs.Views.{groups_with}

-- ---- the free groups

pub free_with : (names : NamesView) (owners : OwnersView) → free_groups (tables_with names owners) ≡ free_of owners
unfolding free_groups free_of
free_with names owners = refl

pub not_more : (a b : ℕ) → ¬ (a < b) → b ≤ a
not_more a b never = by (nat_lt a b) refl
  where
    by : (c : Bool) → nat_lt a b ≡ c → b ≤ a
    by true is = absurd (never (grind (arith, nat_tests)))
    by false is = grind (arith, nat_tests)

module _ (names : NamesView) (owners : OwnersView) (lots : AreLots owners) where
  can_have : (s n : ℕ) → ¬ (64 < length (groups_at owners s) + n) → ¬ ((length (groups_at owners s) + n ≤ 64) × (length (free_of owners) < n))
      → CanHave (tables_with names owners) (length (groups_of (tables_with names owners) s)) n
  can_have s n room enough =
      let few : length (groups_at owners s) + n ≤ 64 = not_more 64 (length (groups_at owners s) + n) room in
      let most : n ≤ length (free_of owners) = not_more (length (free_of owners)) n (λ less. enough (few, less)) in
      record {
        few = subst (λ (g : List ℕ). length g + n ≤ 64) (sym (groups_with names owners lots s)) few;
        enough = subst (λ (g : List ℕ). n ≤ length g) (sym (free_with names owners)) most;
      }

  -- the lot of reserved groups
  pub plans_grow : (s n base : ℕ) (owners' : OwnersView) → base ≡ 32 + 256 * names.slots
      → ¬ (64 < length (groups_at owners s) + n) → ¬ ((length (groups_at owners s) + n ≤ 64) × (length (free_of owners) < n))
      → ChangesLots owners owners' s (groups_at owners s ++ take n (free_of owners))
      → PlansGrow (tables_with names owners) s n (record { slot = s; base = base; groups = groups_at owners' s })
  plans_grow s n base owners' is room enough change = record {
    can = can_have s n room enough;
    slot = refl;
    base = is;
    groups = change.lot ∙ rw (groups_with names owners lots s, free_with names owners) refl;
  }

  pub refuses_full : (s n : ℕ) → 64 < length (groups_at owners s) + n
      → RefusesGroups (tables_with names owners) (length (groups_of (tables_with names owners) s)) n CubeFull
  refuses_full s n is = subst (λ (g : List ℕ). 64 < length g + n) (sym (groups_with names owners lots s)) is

  pub refuses_none : (s n : ℕ) → length (groups_at owners s) + n ≤ 64 → length (free_of owners) < n
      → RefusesGroups (tables_with names owners) (length (groups_of (tables_with names owners) s)) n NoGroups
  refuses_none s n few less = (
    subst (λ (g : List ℕ). length g + n ≤ 64) (sym (groups_with names owners lots s)) few,
    subst (λ (g : List ℕ). length g < n) (sym (free_with names owners)) less,
  )

  free_slot_empty : AreTables names owners → (s : ℕ) → row_at names s ≡ None → groups_at owners s ≡ []
  free_slot_empty tables s free = by (groups_at owners s) (tables.taken s)
    where
      by : (g : List ℕ) → (g ≢ [] → IsSome (row_at names s)) → g ≡ []
      by [] taken = refl
      by (h ∷ g) taken = absurd (cc (free, taken (λ e. cc e)))

  -- a free slot has no groups
  pub no_groups : AreTables names owners → (s : ℕ) → row_at names s ≡ None → groups_of (tables_with names owners) s ≡ []
  no_groups tables s free = groups_with names owners lots s ∙ free_slot_empty tables s free

-- ---- the path

pub has_path : (names : NamesView) (owners : OwnersView) (p : List (List ℕ)) (s : ℕ) → path_at names s ≡ Some p → HasPath (tables_with names owners) p
has_path names owners p s is = by (row_at names s) refl is
  where
    by : (o : Option Row) → row_at names s ≡ o → path_of o ≡ Some p → HasPath (tables_with names owners) p
    by None row is = absurd (cc is)
    by (Some r) row is = (s, r, row, some_same is)
      where
        some_same : {a b : List (List ℕ)} → Some a ≡ Some b → a ≡ b
        some_same e = cc e

pub none_path : (names : NamesView) (owners : OwnersView) (p : List (List ℕ)) → NoneHas names p → ¬ HasPath (tables_with names owners) p
none_path names owners p none has = none has.0 (ap path_of has.2 ∙ ap (λ (x : List (List ℕ)). Some x) has.3)

-- what a search for a path found
pub some_found : (names : NamesView) (owners : OwnersView) (p : List (List ℕ)) (o : Option ℕ) → is_some o ≡ true
    → MatchOption o (NoneHas names p) (λ s. path_at names s ≡ Some p) → HasPath (tables_with names owners) p
some_found names owners p None is found = absurd (cc is)
some_found names owners p (Some s) is found = has_path names owners p s found

pub none_found : (names : NamesView) (p : List (List ℕ)) (o : Option ℕ) → is_some o ≡ false
    → MatchOption o (NoneHas names p) (λ s. path_at names s ≡ Some p) → NoneHas names p
none_found names p None is found = found
none_found names p (Some s) is found = absurd (cc is)

-- ---- a new cube

pub plans_create : (names : NamesView) (owners : OwnersView) (p : List (List ℕ)) (s n : ℕ) (lot : LotView) → AreLots owners → AreTables names owners
    → NoneHas names p → IsFreeSlot (tables_with names owners) s → PlansGrow (tables_with names owners) s n lot → PlansCreate (tables_with names owners) p n lot
plans_create names owners p s n lot lots tables none free plan =
    let empty : groups_of (tables_with names owners) s ≡ [] = no_groups names owners lots tables s free.free in
    record {
      fresh = none_path names owners p none;
      slot = subst (λ r. IsFreeSlot (tables_with names owners) r) (sym plan.slot) free;
      can = subst (λ (g : List ℕ). CanHave (tables_with names owners) (length g) n) empty plan.can;
      base = plan.base;
      groups = plan.groups ∙ ap (λ (g : List ℕ). g ++ take n (free_groups (tables_with names owners))) empty;
    }

refused_free : (names : NamesView) (owners : OwnersView) (p : List (List ℕ)) (n : ℕ) (why : Refusal)
    → ¬ HasPath (tables_with names owners) p → ¬ NoneFree (tables_with names owners)
    → RefusesGroups (tables_with names owners) 0 n why → RefusesCreate (tables_with names owners) p n why
refused_free names owners p n CubeFull fresh free is = (fresh, free, is)
refused_free names owners p n NoGroups fresh free is = (fresh, free, is)
refused_free names owners p n why fresh free is = absurd is

pub refuses_create : (names : NamesView) (owners : OwnersView) (p : List (List ℕ)) (s n : ℕ) (why : Refusal) → AreLots owners → AreTables names owners
    → NoneHas names p → s < names.slots → row_at names s ≡ None
    → RefusesGroups (tables_with names owners) (length (groups_of (tables_with names owners) s)) n why → RefusesCreate (tables_with names owners) p n why
refuses_create names owners p s n why lots tables none low free is =
    let empty : groups_of (tables_with names owners) s ≡ [] = no_groups names owners lots tables s free in
    refused_free names owners p n why (none_path names owners p none) (λ full. full s low free)
    (subst (λ (g : List ℕ). RefusesGroups (tables_with names owners) (length g) n why) empty is)

-- what holds of an answer, and what follows from it
pub ok_more : {X E : Type 0} (P Q : X → Type 0) (r : Result X E) → ((x : X) → P x → Q x) → IfOk r P → IfOk r Q
ok_more P Q (Ok x) more is = more x is
ok_more P Q (Err e) more is = is

pub err_more : {X E : Type 0} (P Q : E → Type 0) (r : Result X E) → ((e : E) → P e → Q e) → IfErr r P → IfErr r Q
err_more P Q (Ok x) more is = is
err_more P Q (Err e) more is = more e is
