-- Inodes as values.
use Rattle.std.specs.Prelude.{◌≡◌, ◌≢◌, ◌≤◌, ◌<◌, ℕ, ◌+◌, ◌*◌, List, slice_index, replicate}
use Rattle.ice_base.specs.Fields.{SameBeside}
use Rattle.ice_base.specs.Inodes.{inode_address, inode_index, kind_at, size_at, pointer, direct_of}
use Rattle.ice_map.specs.declared.codec.Inode.{Inode}

-- inode i of a block
unfoldable pub inode_at : List ℕ → ℕ → Inode
inode_at block i = record {
  kind = kind_at block i;
  size = size_at block i;
  direct = direct_of block i;
  single = pointer block i 12;
  double = pointer block i 13;
}

-- an inode of a kind with nothing in it: no bytes, no entries, no blocks
abbrev pub empty_inode : ℕ → Inode
empty_inode kind = record { kind = kind; size = 0; direct = replicate 12 0; single = 0; double = 0 }

-- the inode of a number, in a lot whose addresses hold this
abbrev pub inode_of : (ℕ → List ℕ) → ℕ → Inode
inode_of map number = inode_at (map (inode_address number)) (inode_index number)

-- the bytes of inode i in which no field stands are 0
pub record Blank (block : List ℕ) (i : ℕ) : Type 0 where
  pub low : (k : ℕ) → 1 ≤ k → k < 4 → slice_index block (128 * i + k) ≡ 0
  pub high : (k : ℕ) → 64 ≤ k → k < 128 → slice_index block (128 * i + k) ≡ 0

-- the inode of a number got this value: its 128 bytes hold it, and every other byte of the block and every other inode stayed
pub record InodeSet (old new : ℕ → List ℕ) (number : ℕ) (inode : Inode) : Type 0 where
  pub value : inode_of new number ≡ inode
  pub blank : Blank (new (inode_address number)) (inode_index number)
  pub bytes : SameBeside (128 * inode_index number) 128 (old (inode_address number)) (new (inode_address number))
  pub others : (other : ℕ) → other ≢ number → inode_of new other ≡ inode_of old other
