-- Worked examples: small lots of one group, each with the rules that may be named of it.
use Rattle.std.proofs.Common.{◌≡◌, ℕ, ◌+◌, ◌-◌, ◌*◌, ◌^◌, List, [], ◌∷◌, ◌++◌, refl}
use Rattle.std.specs.Prelude.{◌==◌, slice_set, map, replicate, nat_lt, if◌then◌else◌, None}
use Rattle.std.specs.List.{range_with_len, flat_map}
use Rattle.ice_base.specs.Bits.{bit_of}
use Rattle.ice_base.specs.Fields.{word_at}
use Rattle.ice_base.specs.Inodes.{kind_at, size_at, direct_of}
use Rattle.ice_base.specs.Lots.{LotView, sub_address}
use Rattle.ice_base.specs.Spare.{has}
use Rattle.ice_base.specs.Used.{used, is_data}
use Rattle.ice_base.specs.declared.fault.Rule.TheVariants as rule
use Rattle.ice_layout.specs.Subs.{sub_rule}
use Rattle.ice_map.specs.Inodes.{inode_at}
use Rattle.ice_map.specs.Maps.{nth_block}
use Rattle.ice_dir.specs.Rows.{name_in, dir_rows}
use Rattle.tree_spec.specs.Names.{is_name}
use Rattle.ice_reads.specs.Tables.{Map}
use Rattle.ice_rules.proofs.Named.{walks_from, walks, distinct, named, lot_named}

-- ---- the blocks of a lot

-- a lot of one group
abbrev lot : LotView
lot = record { slot = 0; base = 288; groups = 0 ∷ [] }

abbrev zeros : ℕ → List ℕ
zeros n = replicate n 0

-- a sub-super block of version 1 with these numbers of blocks and inodes
abbrev sub : ℕ → ℕ → List ℕ
sub blocks nodes = 0x49 ∷ 0x63 ∷ 0x65 ∷ 0x43 ∷ 1 ∷ 0 ∷ 0 ∷ 0 ∷ (zeros 16 ++ (blocks ∷ 0 ∷ 0 ∷ 0 ∷ nodes ∷ 0 ∷ 0 ∷ 0 ∷ []))

-- that of a fresh cube with another byte at a place
abbrev sub_but : ℕ → ℕ → List ℕ
sub_but at byte = slice_set (sub 0 1) at byte

-- a bitmap block: the bits of the blocks 8 to 15, and of the inodes 0 to 7; blocks 0 to 7 are marked
abbrev bits : ℕ → ℕ → List ℕ
bits blocks inodes = 255 ∷ blocks ∷ (zeros 30 ++ (inodes ∷ zeros 7))

-- an inode of this kind and size with one pointer
abbrev node : ℕ → ℕ → ℕ → List ℕ
node kind size pointer = kind ∷ 0 ∷ 0 ∷ 0 ∷ size ∷ 0 ∷ 0 ∷ 0 ∷ pointer ∷ 0 ∷ 0 ∷ 0 ∷ zeros 116

-- an entry of a name of one byte
abbrev entry : ℕ → ℕ → List ℕ
entry inode name = inode ∷ 0 ∷ 0 ∷ 0 ∷ 1 ∷ name ∷ zeros 58

-- the sub-super block, the bitmap block, the first inodes and block 9
abbrev blocks : List ℕ → List ℕ → List ℕ → List ℕ → Map
blocks sub bits inodes nine a = if a == sub_address then sub else if a == 0 then bits else if a == 1 then inodes else if a == 9 then nine else []

-- no inode but the root, an empty directory
abbrev fresh : Map
fresh = blocks (sub 0 1) (bits 1 1) (node 2 0 0) []

-- the root with the entries of block 9, which lead to these inodes
abbrev rooted : ℕ → ℕ → ℕ → ℕ → List ℕ → List ℕ → Map
rooted used nodes marks size inodes rows =
    blocks (sub used nodes) (bits marks (if nodes == 1 then 1 else if nodes == 2 then 3 else 7)) (node 2 size 9 ++ inodes) rows

-- ---- lots that hold a tree

empty_root : named lot fresh ≡ []
unfolding bit_of word_at kind_at size_at direct_of has used is_data sub_rule inode_at nth_block name_in dir_rows is_name walks_from walks distinct
empty_root = refl

one_directory : named lot (rooted 1 2 3 1 (node 2 0 0) (entry 1 97)) ≡ []
unfolding bit_of word_at kind_at size_at direct_of has used is_data sub_rule inode_at nth_block name_in dir_rows is_name walks_from walks distinct
one_directory = refl

-- ---- the sub-super block: the first rule that it breaks, alone

breaks_magic : named lot (blocks (sub_but 0 74) (bits 1 1) (node 2 0 0) []) ≡ rule.Magic ∷ []
unfolding bit_of word_at kind_at size_at direct_of has used is_data sub_rule inode_at nth_block name_in dir_rows is_name walks_from walks distinct
breaks_magic = refl

breaks_version : named lot (blocks (sub_but 4 3) (bits 1 1) (node 2 0 0) []) ≡ rule.Version ∷ []
unfolding bit_of word_at kind_at size_at direct_of has used is_data sub_rule inode_at nth_block name_in dir_rows is_name walks_from walks distinct
breaks_version = refl

breaks_slot : named lot (blocks (sub_but 8 1) (bits 1 1) (node 2 0 0) []) ≡ rule.Slot ∷ []
unfolding bit_of word_at kind_at size_at direct_of has used is_data sub_rule inode_at nth_block name_in dir_rows is_name walks_from walks distinct
breaks_slot = refl

breaks_mode : named lot (blocks (sub_but 9 1) (bits 1 1) (node 2 0 0) []) ≡ rule.Mode ∷ []
unfolding bit_of word_at kind_at size_at direct_of has used is_data sub_rule inode_at nth_block name_in dir_rows is_name walks_from walks distinct
breaks_mode = refl

breaks_done : named lot (blocks (sub_but 23 128) (bits 1 1) (node 2 0 0) []) ≡ rule.Done ∷ []
unfolding bit_of word_at kind_at size_at direct_of has used is_data sub_rule inode_at nth_block name_in dir_rows is_name walks_from walks distinct
breaks_done = refl

-- what else is broken is not named beside it
first_alone : named lot (blocks (slice_set (sub_but 4 3) 9 1) (bits 5 1) (node 1 0 0) []) ≡ rule.Version ∷ []
unfolding bit_of word_at kind_at size_at direct_of has used is_data sub_rule inode_at nth_block name_in dir_rows is_name walks_from walks distinct
first_alone = refl

-- ---- the tree

counts_an_inode_too_many : named lot (blocks (sub 0 2) (bits 1 1) (node 2 0 0) []) ≡ rule.Counts ∷ []
unfolding bit_of word_at kind_at size_at direct_of has used is_data sub_rule inode_at nth_block name_in dir_rows is_name walks_from walks distinct
counts_an_inode_too_many = refl

counts_a_block_too_few : named lot (rooted 0 2 3 1 (node 2 0 0) (entry 1 97)) ≡ rule.Counts ∷ []
unfolding bit_of word_at kind_at size_at direct_of has used is_data sub_rule inode_at nth_block name_in dir_rows is_name walks_from walks distinct
counts_a_block_too_few = refl

root_is_a_file : named lot (blocks (sub 0 1) (bits 1 1) (node 1 0 0) []) ≡ rule.Kind ∷ []
unfolding bit_of word_at kind_at size_at direct_of has used is_data sub_rule inode_at nth_block name_in dir_rows is_name walks_from walks distinct
root_is_a_file = refl

kind_of_nothing : named lot (rooted 1 2 3 1 (node 3 0 0) (entry 1 97)) ≡ rule.Kind ∷ []
unfolding bit_of word_at kind_at size_at direct_of has used is_data sub_rule inode_at nth_block name_in dir_rows is_name walks_from walks distinct
kind_of_nothing = refl

-- a directory of one group has at most 63 entries
as_many_entries_as_inodes : named lot (blocks (sub 0 1) (bits 1 1) (node 2 64 9) []) ≡ rule.Kind ∷ []
unfolding bit_of word_at kind_at size_at direct_of has used is_data sub_rule inode_at nth_block name_in dir_rows is_name walks_from walks distinct
as_many_entries_as_inodes = refl

unused_pointer : named lot (blocks (sub 0 1) (bits 1 1) (node 2 0 9) []) ≡ rule.Pointer ∷ []
unfolding bit_of word_at kind_at size_at direct_of has used is_data sub_rule inode_at nth_block name_in dir_rows is_name walks_from walks distinct
unused_pointer = refl

-- the last data place can be pointed to: the block is only not counted and not marked
the_last_data_place : named lot (rooted 1 2 3 1 (node 1 1 255) (entry 1 97)) ≡ rule.Counts ∷ rule.Bitmap ∷ []
unfolding bit_of word_at kind_at size_at direct_of has used is_data sub_rule inode_at nth_block name_in dir_rows is_name walks_from walks distinct
the_last_data_place = refl

pointer_beside_the_data : named lot (rooted 1 2 3 1 (node 1 1 8) (entry 1 97)) ≡ rule.Pointer ∷ []
unfolding bit_of word_at kind_at size_at direct_of has used is_data sub_rule inode_at nth_block name_in dir_rows is_name walks_from walks distinct
pointer_beside_the_data = refl

two_files_of_one_block : named lot (rooted 2 3 7 2 (node 1 1 10 ++ node 1 1 10) (entry 1 97 ++ entry 2 98)) ≡ rule.BlockTwice ∷ []
unfolding bit_of word_at kind_at size_at direct_of has used is_data sub_rule inode_at nth_block name_in dir_rows is_name walks_from walks distinct
two_files_of_one_block = refl

two_names_of_one_inode : named lot (rooted 1 2 3 2 (node 2 0 0) (entry 1 97 ++ entry 1 98)) ≡ rule.InodeTwice ∷ []
unfolding bit_of word_at kind_at size_at direct_of has used is_data sub_rule inode_at nth_block name_in dir_rows is_name walks_from walks distinct
two_names_of_one_inode = refl

a_name_of_the_root : named lot (rooted 1 1 3 1 [] (entry 0 97)) ≡ rule.InodeTwice ∷ []
unfolding bit_of word_at kind_at size_at direct_of has used is_data sub_rule inode_at nth_block name_in dir_rows is_name walks_from walks distinct
a_name_of_the_root = refl

a_slash_as_a_name : named lot (rooted 1 1 3 1 [] (entry 1 47)) ≡ rule.Name ∷ []
unfolding bit_of word_at kind_at size_at direct_of has used is_data sub_rule inode_at nth_block name_in dir_rows is_name walks_from walks distinct
a_slash_as_a_name = refl

one_name_twice : named lot (rooted 1 3 3 2 (node 2 0 0 ++ node 2 0 0) (entry 1 97 ++ entry 2 97)) ≡ rule.NameTwice ∷ []
unfolding bit_of word_at kind_at size_at direct_of has used is_data sub_rule inode_at nth_block name_in dir_rows is_name walks_from walks distinct
one_name_twice = refl

a_block_marked_for_nothing : named lot (blocks (sub 0 1) (bits 5 1) (node 2 0 0) []) ≡ rule.Bitmap ∷ []
unfolding bit_of word_at kind_at size_at direct_of has used is_data sub_rule inode_at nth_block name_in dir_rows is_name walks_from walks distinct
a_block_marked_for_nothing = refl

an_inode_marked_for_nothing : named lot (blocks (sub 0 1) (bits 1 3) (node 2 0 0) []) ≡ rule.Bitmap ∷ []
unfolding bit_of word_at kind_at size_at direct_of has used is_data sub_rule inode_at nth_block name_in dir_rows is_name walks_from walks distinct
an_inode_marked_for_nothing = refl

a_used_block_not_marked : named lot (rooted 1 2 1 1 (node 2 0 0) (entry 1 97)) ≡ rule.Bitmap ∷ []
unfolding bit_of word_at kind_at size_at direct_of has used is_data sub_rule inode_at nth_block name_in dir_rows is_name walks_from walks distinct
a_used_block_not_marked = refl

a_place_without_data_not_marked : named lot (blocks (sub 0 1) (bits 0 1) (node 2 0 0) []) ≡ rule.Bitmap ∷ []
unfolding bit_of word_at kind_at size_at direct_of has used is_data sub_rule inode_at nth_block name_in dir_rows is_name walks_from walks distinct
a_place_without_data_not_marked = refl

-- what an inode that is not marked says is not looked at
an_inode_not_marked : named lot (blocks (sub 1 2) (bits 3 1) (node 2 1 9 ++ node 3 0 0) (entry 1 97)) ≡ rule.Bitmap ∷ []
unfolding bit_of word_at kind_at size_at direct_of has used is_data sub_rule inode_at nth_block name_in dir_rows is_name walks_from walks distinct
an_inode_not_marked = refl

-- ---- names one below the other

-- directories each in the one before it, so many below the root: inode i is named in block 8 + i
abbrev marks : ℕ → List ℕ
marks levels = map (λ i. if nat_lt (8 * i + 7) levels then 255 else if nat_lt levels (8 * i) then 0 else 2 ^ (levels + 1 - 8 * i) - 1) (range_with_len 0 8)

abbrev nested : ℕ → Map
nested levels a =
    if a == sub_address then sub levels (levels + 1)
    else if a == 0 then 255
    ∷ map (λ i. if nat_lt (8 * i + 7) (levels + 1) then 255 else if nat_lt (levels + 1) (8 * i) then 0 else 2 ^ (levels + 1 - 8 * i) - 1)
    (range_with_len 0 31) ++ marks levels
    else if nat_lt a 9 then flat_map (λ i. if i == levels then node 2 0 0 else if nat_lt i levels then node 2 1 (9 + i) else [])
    (range_with_len (8 * (a - 1)) 8)
    else entry (a - 8) 97

names_24_deep : named lot (nested 24) ≡ []
unfolding bit_of word_at kind_at size_at direct_of has used is_data sub_rule inode_at nth_block name_in dir_rows is_name walks_from walks distinct
names_24_deep = refl

names_25_deep : named lot (nested 25) ≡ rule.Depth ∷ []
unfolding bit_of word_at kind_at size_at direct_of has used is_data sub_rule inode_at nth_block name_in dir_rows is_name walks_from walks distinct
names_25_deep = refl

-- ---- the header

header_refused : lot_named lot None ≡ rule.Header ∷ []
unfolding bit_of word_at kind_at size_at direct_of has used is_data sub_rule inode_at nth_block name_in dir_rows is_name walks_from walks distinct
header_refused = refl
