-- The blocks that one cube owns, and the addresses by which it names them.
use Rattle.std.specs.Prelude.{◌≡◌, ◌≢◌, ◌⊎◌, ℕ, ◌+◌, ◌*◌, ◌/◌, ◌%◌, ◌<◌, ◌≤◌, Bool, true, false, cond, ◌&&◌, nat_lt, nat_le, ◌==◌, List, [], length, slice_index, refl}
use Rattle.std.specs.List.{list_all, list_any}
use Rattle.ice_base.specs.Disk.{Image, block}

-- a lot: its slot, the first block of group 0 of the image, and the group of each ordinal
pub record LotView : Type 0 where
  pub slot : ℕ
  pub base : ℕ
  pub groups : List ℕ

-- what each lot has: a slot whose area lies below the groups, and at most 64 groups of the image, none twice
pub record IsLot (lot : LotView) : Type 0 where
  pub slot : lot.slot < 16
  pub low : 288 + 256 * lot.slot ≤ lot.base
  pub high : lot.base ≤ 4128
  pub few : length lot.groups ≤ 64
  pub apart : (i j : ℕ) → i < j → j < length lot.groups → slice_index lot.groups i ≢ slice_index lot.groups j
  pub small : (i : ℕ) → i < length lot.groups → slice_index lot.groups i < 1024

-- the address of the sub-super block
abbrev pub sub_address : ℕ
sub_address = 0xFFFFFFFF

-- the first block of the slot's area, which is the sub-super block
abbrev pub area : LotView → ℕ
area lot = 32 + 256 * lot.slot

-- the journal's gate block
abbrev pub gate_place : LotView → ℕ
gate_place lot = 33 + 256 * lot.slot

-- the journal's header block
abbrev pub header_place : LotView → ℕ
header_place lot = 34 + 256 * lot.slot

-- the journal's i-th body block
abbrev pub body_place : LotView → ℕ → ℕ
body_place lot i = 35 + 256 * lot.slot + i

-- whether an address is one of the lot: the sub-super block's, or one of 256 for each group
unfoldable pub is_address : LotView → ℕ → Bool
is_address lot at = cond (at == sub_address) true (nat_lt at (256 * length lot.groups))

-- the block of an address of the lot
unfoldable pub place : LotView → ℕ → ℕ
place lot at = cond (at == sub_address) (area lot) (lot.base + 256 * slice_index lot.groups (at / 256) + at % 256)

-- whether a block is one of the slot's area or of a group of the lot
unfoldable pub in_extent : LotView → ℕ → Bool
in_extent lot k =
    cond (nat_le (area lot) k && nat_lt k (area lot + 256)) true
    (list_any (λ g. nat_le (lot.base + 256 * g) k && nat_lt k (lot.base + 256 * g + 256)) lot.groups)

-- the blocks of the lot
abbrev pub extent : LotView → ℕ → Type 0
extent lot k = in_extent lot k ≡ true

-- the lot's blocks lie below a number of blocks
unfoldable pub lies_below : LotView → ℕ → Bool
lies_below lot blocks = cond (nat_le (area lot + 256) blocks) (list_all (λ g. nat_le (lot.base + 256 * g + 256) blocks) lot.groups) false

-- a lot of 1 to 64 groups whose blocks lie below a number of blocks
unfoldable pub is_sited : LotView → ℕ → Bool
is_sited lot blocks = lies_below lot blocks && (nat_le 1 (length lot.groups) && nat_le (length lot.groups) 64)

-- no group is one of both lots
abbrev pub NoneShared : List ℕ → List ℕ → Type 0
NoneShared gs hs = (i j : ℕ) → i < length gs → j < length hs → slice_index gs i ≢ slice_index hs j

-- a map of the lot's addresses: no block at any other
unfoldable pub inside : LotView → (ℕ → List ℕ) → ℕ → List ℕ
inside lot m a = cond (is_address lot a) (m a) []

pub inside_out : (lot : LotView) (m : ℕ → List ℕ) (a : ℕ) → is_address lot a ≡ false → inside lot m a ≡ []
unfolding inside
inside_out lot m a h = rw h refl

-- a block is the home of this address of the lot
abbrev pub IsHomeOf : LotView → ℕ → ℕ → Type 0
IsHomeOf lot a k = (is_address lot a ≡ true) × (k ≡ place lot a)

-- a block is the home of an address of the lot
abbrev pub IsHome : LotView → ℕ → Type 0
IsHome lot k = (a : ℕ) × IsHomeOf lot a k

-- a block is the home of one of these addresses
abbrev pub IsTarget : LotView → List ℕ → ℕ → Type 0
IsTarget lot targets k = (j : ℕ) × (j < length targets) × IsHomeOf lot (slice_index targets j) k

-- a block is the journal's gate, its header or one of its first n bodies
abbrev pub IsJournal : LotView → ℕ → ℕ → Type 0
IsJournal lot n k = (k ≡ gate_place lot) ⊎ (k ≡ header_place lot) ⊎ ((i : ℕ) × (i < n) × (k ≡ body_place lot i))

-- what the blocks of the lot's addresses hold in an image
abbrev pub homes : LotView → Image → ℕ → List ℕ
homes lot image a = block image (place lot a)
