-- The sub-super block of a cube, and the blocks of a fresh group, byte by byte.
use Rattle.std.specs.Prelude.{◌≡◌, ◌≤◌, ◌<◌, ◌^◌, ℕ, Bool, true, false, not, ◌==◌, ◌&&◌, nat_lt, if◌then◌else◌, List, Option, Some, None, slice_index, slice_set}
use Rattle.ice_base.specs.Fields.{word_at, long_at}
use Rattle.ice_base.specs.Used.{count_place}
use Rattle.ice_base.specs.declared.fault.Rule.{Rule}
use Rattle.ice_base.specs.declared.fault.Rule.TheVariants.{Magic, Version, Slot, Mode, Done}
use Rattle.ice_layout.specs.Geometry.{zero_block}
use Rattle.ice_layout.specs.declared.sub.SubSuper.{SubSuper}

-- the bytes `IceC`
abbrev pub sub_magic : ℕ
sub_magic = 0x43656349

-- the first of the rules 1 to 5 that a slot's sub-super block breaks
unfoldable pub sub_rule : ℕ → List ℕ → Option Rule
sub_rule slot bytes =
    if not (word_at bytes 0 == sub_magic) then Some Magic
    else if not (word_at bytes 4 == 1) then Some Version
    else if not (slice_index bytes 8 == slot) then Some Slot
    else if not (slice_index bytes 9 == 0) then Some Mode
    else if not (nat_lt (long_at bytes 16) (2 ^ 63)) then Some Done
    else None

-- what a sub-super block says
abbrev pub sub_of : List ℕ → SubSuper
sub_of bytes =
    record { version = word_at bytes 4; slot = slice_index bytes 8; mode = slice_index bytes 9; done = long_at bytes 16; blocks = word_at bytes (count_place false); nodes = word_at bytes (count_place true) }

-- the bytes break none of these rules, and say this
pub record IsSub (slot : ℕ) (sub : SubSuper) (bytes : List ℕ) : Type 0 where
  pub sound : sub_rule slot bytes ≡ None
  pub value : sub_of bytes ≡ sub

-- what may be written: version 1, mode 0, a count below 2 ^ 63
abbrev pub is_proper_sub : SubSuper → Bool
is_proper_sub sub = if sub.version == 1 then (if sub.mode == 0 then nat_lt sub.done (2 ^ 63) else false) else false

-- the bytes in which no field stands are zero
pub record SubZeros (bytes : List ℕ) : Type 0 where
  pub low : (k : ℕ) → 10 ≤ k → k < 16 → slice_index bytes k ≡ 0
  pub high : (k : ℕ) → 32 ≤ k → slice_index bytes k ≡ 0

-- the bitmap block of a fresh group: its own nine places are used, and the root's inode in the first group
abbrev pub fresh_bitmap : Bool → List ℕ
fresh_bitmap first = slice_set (slice_set (slice_set zero_block 0 255) 1 1) 32 (if first then 1 else 0)

-- an inode block of a fresh group: zeros, but the root, an empty directory
abbrev pub fresh_inodes : Bool → List ℕ
fresh_inodes root = slice_set zero_block 0 (if root then 2 else 0)

-- the block of a fresh group at a place below 9
abbrev pub fresh_place : Bool → ℕ → List ℕ
fresh_place first place = if place == 0 then fresh_bitmap first else fresh_inodes (first && place == 1)
