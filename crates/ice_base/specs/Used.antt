-- What the bitmap blocks of a lot and its sub-super block say is used.
use Rattle.std.specs.Prelude.{◌≡◌, ◌<◌, ℕ, ◌+◌, ◌*◌, ◌/◌, ◌%◌, Bool, true, false, cond, not, ◌&&◌, nat_lt, nat_le, List, length}
use Rattle.ice_base.specs.Bits.{bit_of, count_below}
use Rattle.ice_base.specs.Fields.{word_at}
use Rattle.ice_base.specs.Lots.{LotView, sub_address}

-- how many inodes, or blocks, a group has
abbrev pub bits_of : Bool → ℕ
bits_of inodes = cond inodes 64 256

-- the bit of an inode, or of a block, of the group: the bits of the blocks stand first
abbrev pub bit_index : Bool → ℕ → ℕ
bit_index inodes i = cond inodes (256 + i) i

-- the address of the bitmap block of an inode's, or a block's, group
abbrev pub bitmap_of : Bool → ℕ → ℕ
bitmap_of inodes i = 256 * (i / bits_of inodes)

-- its bit there
abbrev pub bit_place : Bool → ℕ → ℕ
bit_place inodes i = bit_index inodes (i % bits_of inodes)

-- whether an inode, or a block, is marked used
unfoldable pub used : Bool → (ℕ → List ℕ) → ℕ → Bool
used inodes map i = bit_of (map (bitmap_of inodes i)) (bit_place inodes i)

-- whether a block is marked used
abbrev pub used_block : (ℕ → List ℕ) → ℕ → Bool
used_block map a = used false map a

-- whether an inode is marked used
abbrev pub used_inode : (ℕ → List ℕ) → ℕ → Bool
used_inode map i = used true map i

-- each inode, or block, of the lot is marked used
abbrev pub AllUsed : Bool → LotView → (ℕ → List ℕ) → Type 0
AllUsed inodes lot map = (i : ℕ) → i < bits_of inodes * length lot.groups → used inodes map i ≡ true

-- how many inodes, or blocks, of the lot are not
abbrev pub free_count : Bool → LotView → (ℕ → List ℕ) → ℕ
free_count inodes lot map = count_below (λ i. not (used inodes map i)) (bits_of inodes * length lot.groups)

-- whether an address is a data place of the lot: the first nine places of a group hold its bitmap and its inodes
unfoldable pub is_data : LotView → ℕ → Bool
is_data lot a = nat_lt a (256 * length lot.groups) && nat_le 9 (a % 256)

-- each place that holds no data is marked used
pub record Reserved (lot : LotView) (map : ℕ → List ℕ) : Type 0 where
  pub set : (b : ℕ) → b < 256 * length lot.groups → b % 256 < 9 → used_block map b ≡ true

-- where the sub-super block counts used inodes, or used data blocks
abbrev pub count_place : Bool → ℕ
count_place inodes = cond inodes 28 24

-- that count
abbrev pub counted : Bool → (ℕ → List ℕ) → ℕ
counted inodes map = word_at (map sub_address) (count_place inodes)
