-- The groups of an image, by the slots that have them.
use Rattle.std.specs.Prelude.{◌≡◌, ◌≢◌, ◌≤◌, ◌<◌, ℕ, ◌+◌, ◌==◌, Bool, true, false, ◌&&◌, nat_lt, cond, List, [], ◌∷◌, length, filter, slice_index, slice_index_or, Option, Some, None, is_none, IsSome}
use Rattle.std.specs.List.{range_with_len}
use Rattle.ice_base.specs.Spare.{has}
use Rattle.ice_tables.specs.Tables.{Tables, holder_in, ordinal_in}

-- ---- what an owner table says

-- the number of groups of the image, and for each of 16 slots its groups in the order of their ordinals
pub record OwnersView : Type 0 where
  pub groups : ℕ
  pub lots : List (List ℕ)

-- the groups of a slot
abbrev pub groups_at : OwnersView → ℕ → List ℕ
groups_at v s = slice_index_or v.lots s []

-- the place of a group in a list that has it
unfoldable pub place_in : List ℕ → ℕ → ℕ
place_in [] g = 0
place_in (h ∷ groups) g = cond (h == g) 0 (1 + place_in groups g)

-- the first slot, from this one on, whose list has the group
unfoldable pub slot_from : ℕ → List (List ℕ) → ℕ → Option ℕ
slot_from s [] g = None
slot_from s (lot ∷ lots) g = cond (has lot g) (Some s) (slot_from (s + 1) lots g)

-- the slot that a group belongs to
abbrev pub holder : OwnersView → ℕ → Option ℕ
holder v g = slot_from 0 v.lots g

-- the place of a group among those of its slot
abbrev pub place_of : OwnersView → Option ℕ → ℕ → ℕ
place_of v None g = 0
place_of v (Some s) g = place_in (groups_at v s) g

-- the ordinal of a group, 0 where it belongs to no slot
abbrev pub ordinal : OwnersView → ℕ → ℕ
ordinal v g = place_of v (holder v g) g

-- whether a group of the image belongs to no slot
abbrev pub is_free : OwnersView → ℕ → Bool
is_free v g = nat_lt g v.groups && is_none (holder v g)

-- the free groups, ascending
unfoldable pub free_groups : OwnersView → List ℕ
free_groups v = filter (λ g. is_free v g) (range_with_len 0 v.groups)

-- 1 to 1,024 groups, each in one place of one slot's list at most, and no list of more than 64
pub record AreLots (v : OwnersView) : Type 0 where
  pub slots : length v.lots ≡ 16
  pub some : 1 ≤ v.groups
  pub most : v.groups ≤ 1024
  pub few : (s : ℕ) → length (groups_at v s) ≤ 64
  pub below : (s o : ℕ) → o < length (groups_at v s) → slice_index (groups_at v s) o < v.groups
  pub apart : (s r o p : ℕ) → o < length (groups_at v s) → p < length (groups_at v r)
      → slice_index (groups_at v s) o ≡ slice_index (groups_at v r) p → (s ≡ r) × (o ≡ p)

-- ---- beside the bytes and the tables of an image

-- whether a slot is marked as one that is not free
abbrev pub is_live : List Bool → ℕ → Bool
is_live live s = slice_index_or live s false

-- tables that owner blocks m say, in an image of so many groups whose slots that are not free are these
pub record OwnerTables (number : ℕ) (live : List Bool) (m : ℕ → List ℕ) (t : Tables) : Type 0 where
  pub groups : t.groups ≡ number
  pub holder : (g : ℕ) → t.holder g ≡ holder_in number m g
  pub ordinal : (g : ℕ) → t.ordinal g ≡ ordinal_in number m g
  pub has_row : (s : ℕ) → is_live live s ≡ true → IsSome (t.row s)
  pub row_live : (s : ℕ) → IsSome (t.row s) → is_live live s ≡ true

-- tables whose groups belong as these do
pub record HasOwners (v : OwnersView) (t : Tables) : Type 0 where
  pub groups : t.groups ≡ v.groups
  pub holder : (g : ℕ) → t.holder g ≡ holder v g
  pub ordinal : (g : ℕ) → t.ordinal g ≡ ordinal v g

-- one slot gets these groups, and the other slots keep theirs
pub record Changes (v w : OwnersView) (slot : ℕ) (groups : List ℕ) : Type 0 where
  pub lot : groups_at w slot ≡ groups
  pub others : (s : ℕ) → s ≢ slot → groups_at w s ≡ groups_at v s
  pub size : w.groups ≡ v.groups
