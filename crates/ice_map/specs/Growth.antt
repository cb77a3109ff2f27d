-- What a growth of a map does, whatever the map was.
use Rattle.std.specs.Prelude.{◌≡◌, ◌<◌, ◌≤◌, ◌⊎◌, ℕ, ◌+◌, ◌-◌, ◌^◌, true, false, List, slice_index}
use Rattle.ice_base.specs.Fields.{SameBeside}
use Rattle.ice_base.specs.Lots.{LotView, sub_address}
use Rattle.ice_base.specs.Used.{is_data, count_place, counted, free_count, Reserved}
use Rattle.ice_base.specs.declared.fault.OpFault.{OpFault}
use Rattle.ice_base.specs.declared.fault.OpFault.TheVariants.{Damaged, NoSpace}
use Rattle.ice_base.specs.declared.fault.Rule.TheVariants.{Counts, Pointer, Bitmap}
use Rattle.ice_map.specs.declared.codec.Inode.{Inode}
use Rattle.ice_map.specs.Inodes.{inode_of}
use Rattle.ice_map.specs.Maps.{leads, needs}
use Rattle.ice_map.specs.Own.{MoreMarked}
use Rattle.ice_map.specs.Moves.{uses_of}

-- A map of c blocks became one of d: the blocks that it got are marked used and counted, and the inode's pointers that it had stay.
-- An indirect block that it got is a data place.
pub record Grew (lot : LotView) (m0 m1 : ℕ → List ℕ) (x y : Inode) (c d : ℕ) : Type 0 where
  pub marked : MoreMarked lot m0 m1 (uses_of d - uses_of c)
  pub direct : (n : ℕ) → n < c → slice_index y.direct n ≡ slice_index x.direct n
  pub single : 12 < c → y.single ≡ x.single
  pub place : c ≤ 12 → 12 < d → is_data lot y.single ≡ true

-- each inode says what it said
abbrev pub InodesStay : (ℕ → List ℕ) → (ℕ → List ℕ) → Type 0
InodesStay old new = (n : ℕ) → inode_of new n ≡ inode_of old n

-- the sub-super block says what it said, but for the count of used blocks
abbrev pub SubStays : (ℕ → List ℕ) → (ℕ → List ℕ) → Type 0
SubStays old new = SameBeside (count_place false) 4 (old sub_address) (new sub_address)

-- block k of a map of c blocks can't be had: it leads to no data place, or the map has an indirect block that is none
abbrev pub Strays : LotView → (ℕ → List ℕ) → Inode → ℕ → ℕ → Type 0
Strays lot m inode c k = ((k < c) × (leads lot m inode k ≡ false)) ⊎ ((12 < c) × (is_data lot inode.single ≡ false))

-- why block k of a map of c blocks can't be had, by the fault: it is the next one and too few blocks are free, or the count of used blocks can't
-- grow so far; the least free block is no data place; or it strays
abbrev pub GrowthRefused : LotView → (ℕ → List ℕ) → Inode → ℕ → ℕ → OpFault → Type 0
GrowthRefused lot m inode c k NoSpace = (k ≡ c) × (free_count false lot m < needs c)
GrowthRefused lot m inode c k (Damaged Counts) = (k ≡ c) × (2 ^ 32 ≤ counted false m + needs c)
GrowthRefused lot m inode c k (Damaged Bitmap) = ¬ Reserved lot m
GrowthRefused lot m inode c k (Damaged Pointer) = Strays lot m inode c k
GrowthRefused lot m inode c k _ = Unit {0}
