-- The lot that a cube would get, and why it gets none.
use Rattle.std.specs.Prelude.{◌≡◌, ◌≢◌, ◌≤◌, ◌<◌, ◌+◌, ◌*◌, ◌&&◌, ℕ, List, ◌++◌, length, take, filter, nat_lt, Some, None, is_none}
use Rattle.std.specs.List.{range_with_len}
use Rattle.ice_base.specs.Lots.{LotView}
use Rattle.ice_tables.specs.Tables.{Tables, Row}
use Rattle.ice_tables.specs.Lots.{groups_of}
use Rattle.tree_spec.specs.declared.reply.Refusal.{Refusal}
use Rattle.tree_spec.specs.declared.reply.Refusal.TheVariants.{Exists, NoSlot, CubeFull, NoGroups}

-- as many groups as a cube may have
abbrev pub most_groups : ℕ
most_groups = 64

-- a cube has this path
abbrev pub HasPath : Tables → List (List ℕ) → Type 0
HasPath t p = (s : ℕ) × (r : Row) × (t.row s ≡ Some r) × (r.path ≡ p)

-- the least slot without a cube
pub record IsFreeSlot (t : Tables) (s : ℕ) : Type 0 where
  pub low : s < t.slots
  pub free : t.row s ≡ None
  pub least : (r : ℕ) → r < s → t.row r ≢ None

-- every slot has a cube
abbrev pub NoneFree : Tables → Type 0
NoneFree t = (s : ℕ) → s < t.slots → t.row s ≢ None

-- the groups that belong to no slot, ascending
unfoldable pub free_groups : Tables → List ℕ
free_groups t = filter (λ g. nat_lt g t.groups && is_none (t.holder g)) (range_with_len 0 t.groups)

-- a cube that has so many groups can have n more
pub record CanHave (t : Tables) (has n : ℕ) : Type 0 where
  pub few : has + n ≤ most_groups
  pub enough : n ≤ length (free_groups t)

-- the lot of a new cube of n groups: the least free slot and the least free groups
pub record PlansCreate (t : Tables) (p : List (List ℕ)) (n : ℕ) (lot : LotView) : Type 0 where
  pub fresh : ¬ HasPath t p
  pub slot : IsFreeSlot t lot.slot
  pub can : CanHave t 0 n
  pub base : lot.base ≡ 32 + 256 * t.slots
  pub groups : lot.groups ≡ take n (free_groups t)

-- the lot of a cube with n groups more: its own, and then the least free ones
pub record PlansGrow (t : Tables) (s n : ℕ) (lot : LotView) : Type 0 where
  pub can : CanHave t (length (groups_of t s)) n
  pub slot : lot.slot ≡ s
  pub base : lot.base ≡ 32 + 256 * t.slots
  pub groups : lot.groups ≡ groups_of t s ++ take n (free_groups t)

-- why a cube that has so many groups gets no n more
abbrev pub RefusesGroups : Tables → ℕ → ℕ → Refusal → Type 0
RefusesGroups t has n CubeFull = most_groups < has + n
RefusesGroups t has n NoGroups = (has + n ≤ most_groups) × (length (free_groups t) < n)
RefusesGroups t has n why = ⊥

-- why there is no new cube of n groups with this path
abbrev pub RefusesCreate : Tables → List (List ℕ) → ℕ → Refusal → Type 0
RefusesCreate t p n Exists = HasPath t p
RefusesCreate t p n NoSlot = (¬ HasPath t p) × NoneFree t
RefusesCreate t p n why = (¬ HasPath t p) × (¬ NoneFree t) × RefusesGroups t 0 n why
