-- The maps of the blocks of inodes.
use Rattle.std.specs.Prelude.{◌≡◌, ◌≤◌, ◌<◌, ◌⊎◌, ℕ, ◌+◌, ◌-◌, ◌*◌, Bool, true, false, cond, ◌==◌, ◌&&◌, ◌||◌, nat_lt, nat_le, List, [], ◌∷◌, ◌++◌, map, length, slice_index, slice_set, replicate, take}
use Rattle.std.specs.List.{count_by, range_with_len}
use Rattle.ice_base.specs.Bits.{bit_of, IsLeast}
use Rattle.ice_base.specs.Fields.{word_at, WordSet}
use Rattle.ice_base.specs.Lots.{LotView, sub_address}
use Rattle.ice_base.specs.Spare.{has}
use Rattle.ice_base.specs.Used.{used_block, used_inode, is_data, bitmap_of, count_place, counted, free_count}
use Rattle.ice_base.specs.Views.{Puts}
use Rattle.ice_base.specs.declared.view.View as view
use Rattle.ice_map.specs.declared.codec.Inode.{Inode}
use Rattle.ice_map.specs.Inodes.{inode_of}

-- the most blocks of a map: twelve that the inode names, and 256 that its indirect block names
abbrev pub longest : ℕ
longest = 268

-- block n of the map of an inode
unfoldable pub nth_block : (ℕ → List ℕ) → Inode → ℕ → ℕ
nth_block m inode n = cond (nat_lt n 12) (slice_index inode.direct n) (word_at (m inode.single) (4 * (n - 12)))

-- whether block n is a data place, and so is the indirect block where that names it
unfoldable pub leads : LotView → (ℕ → List ℕ) → Inode → ℕ → Bool
leads lot m inode n = is_data lot (nth_block m inode n) && (nat_lt n 12 || is_data lot inode.single)

-- the blocks of the map from block `rest` on, up to its first `count` blocks, in order
abbrev pub blocks_between : (ℕ → List ℕ) → Inode → ℕ → ℕ → List ℕ
blocks_between m inode rest count = map (nth_block m inode) (range_with_len rest (count - rest))

-- the first `count` blocks of the map, in order
abbrev pub blocks_of : (ℕ → List ℕ) → Inode → ℕ → List ℕ
blocks_of m inode count = map (nth_block m inode) (range_with_len 0 count)

-- the indirect block of a map of `count` blocks, where it has one
abbrev pub indirect_of : Inode → ℕ → List ℕ
indirect_of inode count = cond (nat_lt 12 count) (inode.single ∷ []) []

-- all that a map of `count` blocks uses
abbrev pub uses : (ℕ → List ℕ) → Inode → ℕ → List ℕ
uses m inode count = indirect_of inode count ++ blocks_of m inode count

-- how often a list has an address
abbrev pub times : List ℕ → ℕ → ℕ
times xs a = count_by (λ x. x == a) xs

-- how many blocks a growth of a map of `count` blocks takes: the new one, and with the first past the direct ones the indirect block
abbrev pub needs : ℕ → ℕ
needs count = cond (count == 12) 2 1

-- these blocks: the new one, and a new indirect block
abbrev pub growth : ℕ → ℕ → ℕ → List ℕ
growth count a single = a ∷ cond (count == 12) (single ∷ []) []

-- what a growth puts: the sub-super block, the bitmap blocks of the blocks that it takes, and the indirect block of the new map
abbrev pub growth_puts : ℕ → ℕ → ℕ → List ℕ
growth_puts count a single = sub_address ∷ bitmap_of false a ∷ cond (nat_lt count 12) [] (single ∷ cond (count == 12) (bitmap_of false single ∷ []) [])

-- the inode whose map of `count` blocks got the block a, and with the first past the direct ones the indirect block
abbrev pub widened : Inode → ℕ → ℕ → ℕ → Inode
widened inode count a single = record {
  kind = inode.kind;
  size = inode.size;
  direct = cond (nat_lt count 12) (slice_set inode.direct count a) inode.direct;
  single = cond (count == 12) single inode.single;
  double = inode.double;
}

-- These blocks were marked used and counted, or marked free and no longer counted.
-- Nothing else of the bitmap blocks and of the sub-super block changed.
pub record Marked (lot : LotView) (taken : Bool) (old new : ℕ → List ℕ) (blocks : List ℕ) : Type 0 where
  pub used : (b : ℕ) → used_block new b ≡ cond (has blocks b) taken (used_block old b)
  pub inodes : (i : ℕ) → used_inode new i ≡ used_inode old i
  pub rest : (o k : ℕ) → 320 ≤ k → bit_of (new (256 * o)) k ≡ bit_of (old (256 * o)) k
  pub counts : WordSet (old sub_address) (count_place false) (cond taken (counted false old + length blocks) (counted false old - length blocks))
      (new sub_address)
  pub free : free_count false lot new + cond taken (length blocks) 0 ≡ free_count false lot old + cond taken 0 (length blocks)

-- Each inode is as it was, and so is each data block that was marked used, but for these.
pub record Stays (lot : LotView) (old new : ℕ → List ℕ) (but : List ℕ) : Type 0 where
  pub inodes : (n : ℕ) → inode_of new n ≡ inode_of old n
  pub blocks : (b : ℕ) → is_data lot b ≡ true → used_block old b ≡ true → has but b ≡ false → new b ≡ old b

-- the least free block was taken, and then the least one left
pub record TookTwo (lot : LotView) (old new : ℕ → List ℕ) (a b : ℕ) : Type 0 where
  pub first : IsLeast (used_block old) a
  pub second : IsLeast (λ k. cond (k == a) true (used_block old k)) b
  pub took : Marked lot true old new (a ∷ b ∷ [])

-- A map of `count` blocks got one more, a, which is the least free block. A new indirect block is the least free one after that.
-- The indirect block names a as well, and has zeros past it where it is new.
pub record Grown (lot : LotView) (old new : ℕ → List ℕ) (before after : Inode) (count a : ℕ) : Type 0 where
  pub blocks : blocks_of new after (count + 1) ≡ blocks_of old before count ++ a ∷ []
  pub least : IsLeast (used_block old) a
  pub least_single : count ≡ 12 → IsLeast (λ b. cond (b == a) true (used_block old b)) after.single
  pub fresh : (b : ℕ) → has (growth count a after.single) b ≡ true → used_block old b ≡ false
  pub took : Marked lot true old new (growth count a after.single)
  pub used : (b : ℕ) → times (uses new after (count + 1)) b ≡ times (uses old before count) b + times (growth count a after.single) b
  pub named : 12 ≤ count → WordSet (cond (count == 12) (replicate 1024 0) (old after.single)) (4 * (count - 12)) a (new after.single)

-- A growth of a map of `count` blocks that failed put no more than a growth puts, for some block a and, past the direct blocks, some indirect block.
abbrev pub GrowthFailed : {V D : Type 0} → view.Ghosts V D → LotView → Inode → ℕ → V → D → V → D → Type 0
GrowthFailed k lot inode count v e w f = (a : ℕ) × (single : ℕ) × (12 < count → single ≡ inode.single) × Puts k lot false (growth_puts count a single) v e w f

-- every block that a map uses is a data place that is marked used
abbrev pub Owns : LotView → (ℕ → List ℕ) → Inode → ℕ → Type 0
Owns lot m inode count = (b : ℕ) → has (uses m inode count) b ≡ true → (is_data lot b ≡ true) × (used_block m b ≡ true)

-- a map of `count` blocks is as it was: the list of its blocks, and the bytes of each block that it uses
pub record MapStays (old new : ℕ → List ℕ) (inode : Inode) (count : ℕ) : Type 0 where
  pub blocks : blocks_of new inode count ≡ blocks_of old inode count
  pub bytes : (b : ℕ) → has (uses old inode count) b ≡ true → new b ≡ old b

-- so is each map that uses used blocks, and not the indirect block of a map of `count` blocks of this inode
abbrev pub OthersStay : LotView → (ℕ → List ℕ) → (ℕ → List ℕ) → Inode → ℕ → Type 0
OthersStay lot old new inode count =
    (other : Inode) (n : ℕ) → Owns lot old other n → (12 < count → has (uses old other n) inode.single ≡ false) → MapStays old new other n

-- the inode with the first `rest` blocks of its map alone; pointers past them are 0
abbrev pub shortened : Inode → ℕ → Inode
shortened inode rest = record {
  kind = inode.kind;
  size = inode.size;
  direct = take rest inode.direct ++ replicate (12 - rest) 0;
  single = cond (nat_lt 12 rest) inode.single 0;
  double = 0;
}

-- what a map of `count` blocks gives back where the first `rest` are to stay: the other blocks, and the indirect block where no pointer is left in it
abbrev pub cut_off : (ℕ → List ℕ) → Inode → ℕ → ℕ → List ℕ
cut_off m inode count rest = blocks_between m inode rest count ++ cond (nat_lt 12 count && nat_le rest 12) (inode.single ∷ []) []

-- what is put where these blocks are given back: the sub-super block and their bitmap blocks
abbrev pub given_puts : List ℕ → List ℕ
given_puts [] = []
given_puts (a ∷ blocks) = sub_address ∷ map (bitmap_of false) (a ∷ blocks)

-- how many further addresses a keep must be able to hold for a cut
abbrev pub cut_room : ℕ → ℕ → ℕ
cut_room count rest = cond (nat_le count (rest + 1)) 6 66

-- these blocks are marked used, and the list has none twice
pub record OwnsOnce (m : ℕ → List ℕ) (blocks : List ℕ) : Type 0 where
  pub used : (b : ℕ) → has blocks b ≡ true → used_block m b ≡ true
  pub once : (b : ℕ) → times blocks b ≤ 1

-- some block of these is marked free, or stands twice among them
pub record FreeOrTwice (m : ℕ → List ℕ) (blocks : List ℕ) : Type 0 where
  pub block : ℕ
  pub among : has blocks block ≡ true
  pub why : (used_block m block ≡ false) ⊎ (2 ≤ times blocks block)

-- some block stands twice among these
abbrev pub HasTwice : List ℕ → Type 0
HasTwice blocks = (b : ℕ) × (2 ≤ times blocks b)

-- A map of `count` blocks was cut to its first `rest`: they stayed, and what it uses no more was given back.
pub record Cut (lot : LotView) (old new : ℕ → List ℕ) (before after : Inode) (count rest : ℕ) : Type 0 where
  pub blocks : blocks_of new after rest ≡ blocks_of old before rest
  pub gave : Marked lot false old new (cut_off old before count rest)
  pub used : (b : ℕ) → times (uses old before count) b ≡ times (uses new after rest) b + times (cut_off old before count rest) b

-- some of the first `count` blocks of a map is no data place, or stands in an indirect block that is none
pub record Misleads (lot : LotView) (m : ℕ → List ℕ) (inode : Inode) (count : ℕ) : Type 0 where
  pub block : ℕ
  pub below : block < count
  pub bad : leads lot m inode block ≡ false

-- some block that a map of `count` blocks uses is not marked used
pub record UsesUnmarked (m : ℕ → List ℕ) (inode : Inode) (count : ℕ) : Type 0 where
  pub block : ℕ
  pub uses : has (uses m inode count) block ≡ true
  pub unmarked : used_block m block ≡ false
