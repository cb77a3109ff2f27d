-- The forms of a cube, and what a tree costs.
use Rattle.std.specs.Prelude.{ℕ, ◌+◌, ◌-◌, ◌*◌, ◌/◌, length, nat_le, nat_eq, if◌then◌else◌}
use Rattle.tree_spec.specs.Trees.{Tree, total}

-- what a version of the cube's format fixes: the bytes of the longest file and of the longest name, and the entries of a block
pub record Form : Type 0 where
  pub version : ℕ
  pub longest_file : ℕ
  pub longest_name : ℕ
  pub entries_per_block : ℕ

-- version 1: maps of 268 blocks, entries of 64 bytes
abbrev pub form_one : Form
form_one = record { version = 1; longest_file = 274432; longest_name = 59; entries_per_block = 16 }

-- version 2: maps of 65,804 blocks, entries of 128 bytes
abbrev pub form_two : Form
form_two = record { version = 2; longest_file = 67383296; longest_name = 123; entries_per_block = 8 }

-- the form of a version
abbrev pub form_of : ℕ → Form
form_of version = if nat_eq version 2 then form_two else form_one

-- the number of parts of this size, the last one perhaps not full
abbrev pub rounded_up : ℕ → ℕ → ℕ
rounded_up size part = (size + part - 1) / part

-- the blocks of a map of d data blocks: 12 stand in the inode, 256 in the single-indirect block, and 256 in each block that the double-indirect block names
abbrev pub map_cost : ℕ → ℕ
map_cost d = if nat_le d 12 then d else (if nat_le d 268 then d + 1 else d + 2 + rounded_up (d - 268) 256)

-- the data blocks of a file of so many bytes
abbrev pub file_blocks : ℕ → ℕ
file_blocks size = rounded_up size 1024

-- the data blocks of a directory of so many entries
abbrev pub dir_blocks : Form → ℕ → ℕ
dir_blocks f entries = rounded_up entries f.entries_per_block

-- the blocks that the files and directories of a tree use
abbrev pub blocks : Form → Tree → ℕ
blocks f = total (λ bytes. map_cost (file_blocks (length bytes))) (λ entries. map_cost (dir_blocks f entries))

-- the number of files and directories, the root among them
abbrev pub nodes : Tree → ℕ
nodes = total (λ _. 1) (λ _. 1)

-- the blocks that n groups have for files and directories
abbrev pub block_quota : ℕ → ℕ
block_quota n = 247 * n

-- the files and directories that n groups have room for
abbrev pub node_quota : ℕ → ℕ
node_quota n = 64 * n
