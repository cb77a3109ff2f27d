-- Where things lie in an image, and how large they are.
use Rattle.std.specs.Prelude.{ℕ, ◌+◌, ◌*◌, Bool, ◌&&◌, nat_le, ◌==◌, List, replicate, drop}
use Rattle.std.specs.List.{list_all}

-- the blocks of an image of so many slots and groups
abbrev pub total_blocks : ℕ → ℕ → ℕ
total_blocks slots groups = 32 + 256 * slots + 256 * groups

-- the superblock and the system area
abbrev pub system_blocks : ℕ
system_blocks = 32

-- a block of zeros
abbrev pub zero_block : List ℕ
zero_block = replicate 1024 0

-- all bytes from a place on are zero
abbrev pub zero_from : ℕ → List ℕ → Bool
zero_from at bytes = list_all (λ byte. byte == 0) (drop at bytes)

-- a number of this range, both ends with it
abbrev pub between : ℕ → ℕ → ℕ → Bool
between low high n = nat_le low n && nat_le n high
