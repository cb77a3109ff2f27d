-- The places of an owner table: place 64 s + o is that of ordinal o of slot s.
use Rattle.std.specs.Prelude.{◌≡◌, ◌≢◌, ◌⊎◌, ◌≤◌, ◌<◌, ℕ, zero, suc, ◌+◌, ◌*◌, ◌/◌, ◌%◌, Bool, true, false, List, [], ◌∷◌, length, take, drop, slice_index, Option, Some, None}
use Rattle.ice_tables.specs.Tables.{owner_byte, ordinal_byte}
use Rattle.ice_owner.specs.Owners.{OwnersView, AreLots, is_live}

-- the number that stands in a place without a group
abbrev pub nobody : ℕ
nobody = 65535

-- the groups of the slots from slot s on, as many of each as the counts say
unfoldable pub lots_from : ℕ → List ℕ → List ℕ → List (List ℕ)
lots_from s [] places = []
lots_from s (n ∷ counts) places = take n (drop (64 * s) places) ∷ lots_from (s + 1) counts places

-- what counts and places say
abbrev pub view_of : ℕ → List ℕ → List ℕ → OwnersView
view_of groups counts places = record { groups = groups; lots = lots_from 0 counts places }

-- 16 counts of at most 64, and 1,024 places, that say proper lots
pub record AreKept (groups : ℕ) (counts places : List ℕ) : Type 0 where
  pub slots : length counts ≡ 16
  pub all : length places ≡ 1024
  pub few : (s : ℕ) → slice_index counts s ≤ 64
  pub lots : AreLots (view_of groups counts places)

-- a place that has a group
abbrev pub IsTaken : List ℕ → ℕ → Type 0
IsTaken counts k = k % 64 < slice_index counts (k / 64)

-- ---- the places by the groups

-- for each group one more than its place among the first n, 0 for none
pub record AreMarks (n : ℕ) (counts places marks : List ℕ) : Type 0 where
  pub all : length marks ≡ 1024
  pub found : (g k : ℕ) → slice_index marks g ≡ k + 1 → (k < n) × IsTaken counts k × (slice_index places k ≡ g)
  pub marked : (k : ℕ) → k < n → IsTaken counts k → slice_index marks (slice_index places k) ≢ 0

-- the slot of a mark
abbrev pub mark_slot : ℕ → Option ℕ
mark_slot zero = None
mark_slot (suc k) = Some (k / 64)

-- the ordinal of a mark
abbrev pub mark_ordinal : ℕ → ℕ
mark_ordinal zero = 0
mark_ordinal (suc k) = k % 64

-- the owner byte of a mark
abbrev pub mark_owner : ℕ → ℕ
mark_owner zero = 0
mark_owner (suc k) = k / 64 + 1

-- byte i of the entry of a mark
abbrev pub mark_byte : ℕ → ℕ → ℕ
mark_byte mark zero = mark_owner mark
mark_byte mark (suc zero) = mark_ordinal mark
mark_byte mark (suc (suc i)) = 0

-- ---- entries put into their places

-- group g, below n, has the entry of place k
pub record IsEntryAt (m : ℕ → List ℕ) (n k g : ℕ) : Type 0 where
  pub low : g < n
  pub owner : owner_byte m g ≡ k / 64 + 1
  pub ordinal : ordinal_byte m g ≡ k % 64

-- group g stands in its place among those of slot s
pub record IsPlaced (m : ℕ → List ℕ) (live : List Bool) (counts places : List ℕ) (g s : ℕ) : Type 0 where
  pub slot : s < 16
  pub ordinal : ordinal_byte m g < 64
  pub kept : is_live live s ≡ true
  pub place : slice_index places (64 * s + ordinal_byte m g) ≡ g
  pub counted : ordinal_byte m g < slice_index counts s

-- the entries of the first n groups stand in their places, and each count is one more than the greatest ordinal
pub record AreGathered (m : ℕ → List ℕ) (live : List Bool) (n : ℕ) (counts places : List ℕ) : Type 0 where
  pub slots : length counts ≡ 16
  pub all : length places ≡ 1024
  pub few : (s : ℕ) → slice_index counts s ≤ 64
  pub owned : (k : ℕ) → slice_index places k ≢ nobody → k < 1024 → IsEntryAt m n k (slice_index places k)
  pub placed : (g s : ℕ) → g < n → owner_byte m g ≡ s + 1 → IsPlaced m live counts places g s
  pub top : (s c : ℕ) → slice_index counts s ≡ c + 1 → (g : ℕ) × (g < n) × (owner_byte m g ≡ s + 1) × (ordinal_byte m g ≡ c)

-- an entry that no table has: its slot is free, or its ordinal too great, or that of a lesser group as well
abbrev pub IsBadEntry : (ℕ → List ℕ) → List Bool → ℕ → ℕ → Type 0
IsBadEntry m live g s =
    (is_live live s ≡ false)
    ⊎ ((64 ≤ ordinal_byte m g)
    ⊎ ((h : ℕ) × (h < g) × (owner_byte m h ≡ s + 1) × (ordinal_byte m h ≡ ordinal_byte m g)))
