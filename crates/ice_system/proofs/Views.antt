-- The tables that rows and groups are: their bytes, and what a change of one slot makes of them.
use Rattle.std.proofs.Common.{◌≡◌, ◌≢◌, ◌∙◌, ◌≤◌, ◌<◌, ◌==◌, ℕ, Bool, true, false, List, [], Option, refl, sym, subst, arith}
use Rattle.std.specs.Prelude.{nat_lt, if◌then◌else◌, IsSome}
use Rattle.std.proofs.lemmas.Bool.Decides.{nat_tests}
use Rattle.ice_base.specs.Lots.{LotView}
use Rattle.ice_names.specs.Names.{NamesView, RowSet, row_at}
use Rattle.ice_owner.specs.Owners.{OwnersView, AreLots, HasOwners, groups_at, holder, ordinal}
use Rattle.ice_owner.specs.Owners.{Changes as ChangesLots}
use Rattle.ice_tables.specs.Tables.{Row, AreNames, row_in, holder_in, ordinal_in, owner_byte}
use Rattle.ice_tables.specs.Lots.{groups_of}
use Rattle.ice_system.specs.Says.{SayTables}
use Rattle.ice_system.specs.Systems.{AreTables, tables_with}
use Rattle.ice_system.specs.Changes.{SlotBecomes}
use Rattle.ice_system.proofs.Mixing.{owner_block, names_same, rows_same, same_owner, same_holder, same_ordinal}
use Rattle.ice_owner.proofs.Laws.{groups_same, owners_accepted}

-- ---- the groups of a slot

pub has_owners : (names : NamesView) (owners : OwnersView) → HasOwners owners (tables_with names owners)
has_owners names owners = record { groups = refl; holder = λ g. refl; ordinal = λ g. refl }

pub groups_with : (names : NamesView) (owners : OwnersView) → AreLots owners → (s : ℕ) → groups_of (tables_with names owners) s ≡ groups_at owners s
groups_with names owners lots s = groups_same owners (tables_with names owners) lots (has_owners names owners) s

abbrev with_parts : (s base : ℕ) (groups : List ℕ) → LotView
with_parts s base groups = record { slot = s; base = base; groups = groups }

pub same_lot : (s b c : ℕ) (g h : List ℕ) → b ≡ c → g ≡ h → with_parts s b g ≡ with_parts s c h
same_lot s b c g h base groups = rw (base, groups) refl

-- ---- the blocks of both tables

-- the blocks of the cube table, and then those of the owner table
abbrev pub joined : (ℕ → List ℕ) → (ℕ → List ℕ) → ℕ → List ℕ
joined rows owners k = if nat_lt k 15 then rows k else owners k

module _ (rows owners : ℕ → List ℕ) where
  pub joined_low : (k : ℕ) → k < 15 → joined rows owners k ≡ rows k
  joined_low k low = let is : nat_lt k 15 ≡ true = grind (arith, nat_tests) in rw is refl

  pub joined_high : (k : ℕ) → 15 ≤ k → joined rows owners k ≡ owners k
  joined_high k high = let is : nat_lt k 15 ≡ false = grind (arith, nat_tests) in rw is refl

  owner_here : (g : ℕ) → joined rows owners (owner_block g) ≡ owners (owner_block g)
  owner_here g = joined_high (owner_block g) (omega arith)

-- blocks to which rows and groups were written say the tables that they are
pub joined_says : (names : NamesView) (lots : OwnersView) (rows owners : ℕ → List ℕ) → names.slots ≤ 16 → AreLots lots → AreTables names lots
    → AreNames names.slots rows → ((s : ℕ) → row_in names.slots rows s ≡ row_at names s)
    → ((g : ℕ) → holder_in lots.groups owners g ≡ holder lots g) → ((g : ℕ) → ordinal_in lots.groups owners g ≡ ordinal lots g)
    → ((g : ℕ) → lots.groups ≤ g → g < 1024 → owner_byte owners g ≡ 0) → SayTables (tables_with names lots) (joined rows owners)
joined_says names lots rows owners few are tables accepted written holders ordinals past = record {
  rows = λ s. rows_same names.slots few rows (joined rows owners) (λ k low high. joined_low rows owners k high) s ∙ written s;
  holders = λ g. same_holder owners (joined rows owners) g (owner_here rows owners g) lots.groups ∙ holders g;
  ordinals = λ g. same_ordinal owners (joined rows owners) g (owner_here rows owners g) lots.groups ∙ ordinals g;
  names = names_same names.slots few rows (joined rows owners) (λ k low high. joined_low rows owners k high) accepted;
  owners = owners_accepted lots (tables_with names lots) (joined rows owners) are (has_owners names lots) tables.live tables.taken
      (λ g high low. same_owner owners (joined rows owners) g (owner_here rows owners g) ∙ past g high low);
}

-- ---- a change of one slot

pub slot_becomes : (names names' : NamesView) (owners owners' : OwnersView) (s : ℕ) (row : Option Row) (groups : List ℕ) → AreLots owners → AreLots owners'
    → RowSet names s row names' → ChangesLots owners owners' s groups → SlotBecomes s row groups (tables_with names owners) (tables_with names' owners')
slot_becomes names names' owners owners' s row groups lots lots' set change = record {
  slots = set.slots;
  image = change.size;
  row_here = set.here;
  groups_here = groups_with names' owners' lots' s ∙ change.lot;
  row_else = set.others;
  groups_else = λ r other. groups_with names' owners' lots' r ∙ change.others r other ∙ sym (groups_with names owners lots r);
}

-- a row that stays
pub same_rows : (names : NamesView) (s : ℕ) → RowSet names s (row_at names s) names
same_rows names s = record { here = refl; others = λ r other. refl; slots = refl }

-- groups that stay
pub same_owners : (owners : OwnersView) (s : ℕ) → ChangesLots owners owners s (groups_at owners s)
same_owners owners s = record { lot = refl; others = λ r other. refl; size = refl }

same_or_not : (s r : ℕ) (P : Type 0) → (s ≡ r → P) → (s ≢ r → P) → P
same_or_not s r P here other = by (s == r) refl
  where
    by : (b : Bool) → (s == r) ≡ b → P
    by true is = here (grind (arith, nat_tests))
    by false is = other (grind (arith, nat_tests))

-- a slot that gets both or neither leaves tables
pub still_tables : (names names' : NamesView) (owners owners' : OwnersView) (s : ℕ) (row : Option Row) (groups : List ℕ) → AreTables names owners
    → RowSet names s row names' → ChangesLots owners owners' s groups → (IsSome row → groups ≢ []) → (groups ≢ [] → IsSome row) → AreTables names' owners'
still_tables names names' owners owners' s row groups tables set change live taken = record {
  live = λ r. same_or_not r s (IsSome (row_at names' r) → groups_at owners' r ≢ [])
      (λ same. subst (λ r. IsSome (row_at names' r) → groups_at owners' r ≢ []) (sym same)
      (λ some none. live (subst (λ o. IsSome o) set.here some) (sym change.lot ∙ none)))
      (λ other some none. tables.live r (subst (λ o. IsSome o) (set.others r other) some) (sym (change.others r other) ∙ none));
  taken = λ r. same_or_not r s (groups_at owners' r ≢ [] → IsSome (row_at names' r))
      (λ same. subst (λ r. groups_at owners' r ≢ [] → IsSome (row_at names' r)) (sym same)
      (λ some. subst (λ o. IsSome o) (sym set.here) (taken (λ none. some (change.lot ∙ none)))))
      (λ other some. subst (λ o. IsSome o) (sym (set.others r other)) (tables.taken r (λ none. some (change.others r other ∙ none))));
}

-- the same of a copy of the rows
pub row_set_at : (names copy new : NamesView) (s r : ℕ) (row : Option Row) → copy ≡ names → r ≡ s → RowSet copy r row new → RowSet names s row new
row_set_at names copy new s r row same here set = subst (λ n. RowSet n s row new) same (subst (λ x. RowSet copy x row new) here set)

-- and of a copy of the groups
pub changes_at : (owners copy new : OwnersView) (s r : ℕ) (groups : List ℕ) → copy ≡ owners → r ≡ s → ChangesLots copy new r groups
    → ChangesLots owners new s groups
changes_at owners copy new s r groups same here change = subst (λ o. ChangesLots o new s groups) same (subst (λ x. ChangesLots copy new x groups) here change)
