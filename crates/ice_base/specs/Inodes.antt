-- Where the inodes of a lot stand, and their fields.
use Rattle.std.specs.Prelude.{ℕ, ◌+◌, ◌*◌, ◌/◌, ◌%◌, List, map, slice_index}
use Rattle.std.specs.List.{range_with_len}
use Rattle.ice_base.specs.Fields.{word_at}

-- the address of the block that holds an inode: eight inodes stand in each of the places 1 to 8 of a group
abbrev pub inode_address : ℕ → ℕ
inode_address number = 256 * (number / 64) + (1 + number % 64 / 8)

-- which inode of that block it is
abbrev pub inode_index : ℕ → ℕ
inode_index number = number % 8

-- the kind of inode i of a block: 0 is free, 1 a file, 2 a directory
unfoldable pub kind_at : List ℕ → ℕ → ℕ
kind_at block i = slice_index block (128 * i)

-- its size: the bytes of a file, the entries of a directory
unfoldable pub size_at : List ℕ → ℕ → ℕ
size_at block i = word_at block (128 * i + 4)

-- its pointer k: 0 to 11 are direct, 12 is the single-indirect one and 13 the double-indirect one
abbrev pub pointer : List ℕ → ℕ → ℕ → ℕ
pointer block i k = word_at block (128 * i + (8 + 4 * k))

-- its direct pointers
unfoldable pub direct_of : List ℕ → ℕ → List ℕ
direct_of block i = map (λ k. pointer block i k) (range_with_len 0 12)
