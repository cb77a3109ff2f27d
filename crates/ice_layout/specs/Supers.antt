-- The superblock, byte by byte, and the blocks of a fresh image.
use Rattle.std.specs.Prelude.{◌≡◌, ◌<◌, ℕ, zero, suc, Bool, false, not, ◌==◌, if◌then◌else◌, List, Option, Some, None}
use Rattle.ice_base.specs.Disk.{Image, block}
use Rattle.ice_base.specs.Fields.{word_at}
use Rattle.ice_layout.specs.Geometry.{total_blocks, system_blocks, zero_block, zero_from, between}
use Rattle.ice_layout.specs.declared.superblock.Super.{Super}
use Rattle.ice_layout.specs.declared.superblock.LayoutFault.{LayoutFault}
use Rattle.ice_layout.specs.declared.superblock.LayoutFault.TheVariants.{Magic, Version, Slots, Groups, Total, Zero}

-- the bytes `IceF`
abbrev pub super_magic : ℕ
super_magic = 0x46656349

-- what is wrong with a superblock, the first that applies
unfoldable pub super_fault : List ℕ → Option LayoutFault
super_fault bytes =
    if not (word_at bytes 0 == super_magic) then Some Magic
    else if not (word_at bytes 4 == 1) then Some Version
    else if not (between 1 16 (word_at bytes 8)) then Some Slots
    else if not (between 1 1024 (word_at bytes 12)) then Some Groups
    else if not (word_at bytes 16 == total_blocks (word_at bytes 8) (word_at bytes 12)) then Some Total
    else if not (zero_from 20 bytes) then Some Zero
    else None

-- the slots and groups that a superblock names
abbrev pub super_of : List ℕ → Super
super_of bytes = record { slots = word_at bytes 8; groups = word_at bytes 12 }

-- the numbers of slots and groups that an image may have
abbrev pub is_geometry : Super → Bool
is_geometry sup = if between 1 16 sup.slots then between 1 1024 sup.groups else false

-- the bytes are the superblock of this geometry
pub record IsSuper (sup : Super) (bytes : List ℕ) : Type 0 where
  pub accepted : super_fault bytes ≡ None
  pub value : super_of bytes ≡ sup

-- the bytes are the block of this number in a fresh image: the superblock, and then zeros
abbrev pub IsFreshBlock : Super → ℕ → List ℕ → Type 0
IsFreshBlock sup zero bytes = IsSuper sup bytes
IsFreshBlock sup (suc k) bytes = bytes ≡ zero_block

-- superblock and system area are those of a fresh image
abbrev pub IsFreshImage : Super → Image → Type 0
IsFreshImage sup image = (k : ℕ) → k < system_blocks → IsFreshBlock sup k (block image k)
