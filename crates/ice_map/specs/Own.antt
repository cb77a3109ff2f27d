-- What each inode of a lot says by itself, in a cube of either form.
use Rattle.std.specs.Prelude.{◌≡◌, ◌≢◌, ◌≤◌, ◌<◌, ◌⊎◌, ℕ, Bool, true, false, ◌+◌, ◌-◌, ◌*◌, ◌/◌, ◌%◌, cond, ◌==◌, nat_lt, nat_eq, if◌then◌else◌, List, [], ◌∷◌, ◌++◌, map, length, slice_index, slice_index_or}
use Rattle.std.specs.List.{range_with_len}
use Rattle.ice_base.specs.Bits.{bit_of}
use Rattle.ice_base.specs.Fields.{word_at, SameBeside}
use Rattle.ice_base.specs.Lots.{LotView, sub_address}
use Rattle.ice_base.specs.Spare.{has}
use Rattle.ice_base.specs.Used.{used_block, used_inode, is_data, count_place, counted, free_count}
use Rattle.ice_map.specs.declared.codec.Inode.{Inode}
use Rattle.ice_map.specs.Inodes.{inode_of}
use Rattle.ice_map.specs.Maps.{nth_block, blocks_of, indirect_of, uses, times, longest, HasTwice, Misleads}
use Rattle.tree_spec.specs.Costs.{Form, rounded_up}

-- how many blocks hold this many bytes
abbrev pub blocks_for : ℕ → ℕ
blocks_for bytes = (bytes + 1023) / 1024

-- the bytes of a directory entry
abbrev pub entry_size : Form → ℕ
entry_size f = 1024 / f.entries_per_block

-- how many blocks the map of an inode has: its size is the bytes of a file, or the entries of a directory
abbrev pub map_length : Form → Inode → ℕ
map_length f inode = blocks_for (cond (inode.kind == 2) (entry_size f * inode.size) inode.size)

-- what an inode says by itself: its value, the blocks that its map uses, and what the blocks of its map hold, in order
pub record Own : Type 0 where
  pub inode : Inode
  pub uses : List ℕ
  pub contents : List (List ℕ)

-- what an inode says whose map has `count` blocks
abbrev pub own_of : (ℕ → List ℕ) → Inode → ℕ → Own
own_of m inode count = record { inode = inode; uses = uses m inode count; contents = map m (blocks_of m inode count) }

-- block n of a long map: past the 268 blocks of the inode and of its indirect block, the double-indirect block names blocks of 256 pointers each
abbrev pub nth_long : (ℕ → List ℕ) → Inode → ℕ → ℕ
nth_long m inode n =
    if nat_lt n longest then nth_block m inode n else word_at (m (word_at (m inode.double) (4 * ((n - longest) / 256)))) (4 * ((n - longest) % 256))

-- the blocks of pointers that a long map of `count` blocks has
abbrev pub indirects_long : (ℕ → List ℕ) → Inode → ℕ → List ℕ
indirects_long m inode count = indirect_of inode count
    ++ (if nat_lt longest count then inode.double ∷ map (λ j. word_at (m inode.double) (4 * j)) (range_with_len 0 (rounded_up (count - longest) 256)) else [])

-- what an inode says whose map is a long one of `count` blocks
abbrev pub own_long_of : (ℕ → List ℕ) → Inode → ℕ → Own
own_long_of m inode count = record {
  inode = inode;
  uses = indirects_long m inode count ++ map (nth_long m inode) (range_with_len 0 count);
  contents = map (λ n. m (nth_long m inode n)) (range_with_len 0 count);
}

-- what an inode in hand says: version 2 has long maps, version 1 has maps of at most 268 blocks
abbrev pub own_at : Form → (ℕ → List ℕ) → Inode → Own
own_at f m inode = if nat_eq f.version 2 then own_long_of m inode (map_length f inode) else own_of m inode (map_length f inode)

-- what the inode of a number says
abbrev pub own : Form → (ℕ → List ℕ) → ℕ → Own
own f m number = own_at f m (inode_of m number)

-- the bytes of a file: byte i is byte `i mod 1024` of block `i / 1024` of its map
unfoldable pub file_bytes : Own → List ℕ
file_bytes o = map (λ i. slice_index (slice_index_or o.contents (i / 1024) []) (i % 1024)) (range_with_len 0 o.inode.size)

-- each of these blocks is a data place that is marked used
abbrev pub Holds : LotView → (ℕ → List ℕ) → List ℕ → Type 0
Holds lot m blocks = (b : ℕ) → has blocks b ≡ true → (is_data lot b ≡ true) × (used_block m b ≡ true)

-- no block is of both lists
abbrev pub Apart : List ℕ → List ℕ → Type 0
Apart xs ys = (b : ℕ) → has xs b ≡ true → has ys b ≡ false

-- the pointers that a map of `count` blocks doesn't use are 0
pub record RestIsZero (inode : Inode) (count : ℕ) : Type 0 where
  pub direct : (k : ℕ) → count ≤ k → k < 12 → slice_index inode.direct k ≡ 0
  pub single : count ≤ 12 → inode.single ≡ 0
  pub double : count ≤ longest → inode.double ≡ 0

-- A map of `count` blocks that uses these is well made: they are data places that are marked used, none stands twice, and its inode's other pointers are 0.
pub record Made (lot : LotView) (m : ℕ → List ℕ) (inode : Inode) (used : List ℕ) (count : ℕ) : Type 0 where
  pub holds : Holds lot m used
  pub once : (b : ℕ) → times used b ≤ 1
  pub unused : RestIsZero inode count

-- so is a map of at most 268 blocks
abbrev pub MadeOf : LotView → (ℕ → List ℕ) → Inode → ℕ → Type 0
MadeOf lot m inode count = Made lot m inode (uses m inode count) count

-- so is the map of the inode of a number
abbrev pub WellMade : LotView → Form → (ℕ → List ℕ) → ℕ → Type 0
WellMade lot f m number = Made lot m (inode_of m number) (own f m number).uses (map_length f (inode_of m number))

-- a map of `count` blocks leads to no data place, or uses a block twice: then a block that is written may be the one that names others
abbrev pub Confuses : LotView → (ℕ → List ℕ) → Inode → ℕ → Type 0
Confuses lot m inode count = Misleads lot m inode count ⊎ HasTwice (uses m inode count)

-- Every other inode says what it said, where it uses used data places, and none that this inode used.
abbrev pub OthersSay : LotView → Form → (ℕ → List ℕ) → (ℕ → List ℕ) → ℕ → Type 0
OthersSay lot f old new number = (k : ℕ) → k ≢ number → Holds lot old (own f old k).uses → Apart (own f old k).uses (own f old number).uses
    → own f new k ≡ own f old k

-- 1 for a block that is marked used, 0 for one that isn't
abbrev pub mark : Bool → ℕ
mark true = 1
mark false = 0

-- The marks and counts follow what one inode uses, before and after: the blocks that it got are marked and counted, those that it lost no more.
-- Nothing else of the bitmap blocks and of the sub-super block changed. A count that was too small for what the inode used says nothing.
pub record MarksFollow (lot : LotView) (old new : ℕ → List ℕ) (before after : List ℕ) : Type 0 where
  pub used : (b : ℕ) → mark (used_block new b) + times before b ≡ mark (used_block old b) + times after b
  pub inodes : (i : ℕ) → used_inode new i ≡ used_inode old i
  pub rest : (o k : ℕ) → 320 ≤ k → bit_of (new (256 * o)) k ≡ bit_of (old (256 * o)) k
  pub counts : length before ≤ counted false old → counted false new + length before ≡ counted false old + length after
  pub sub : SameBeside (count_place false) 4 (old sub_address) (new sub_address)
  pub free : free_count false lot new + length after ≡ free_count false lot old + length before

-- What one inode says was set: its map is well made, the marks follow what it uses, and every other inode is as it was and says what it said.
pub record OwnSet (lot : LotView) (f : Form) (old new : ℕ → List ℕ) (number : ℕ) : Type 0 where
  pub made : WellMade lot f new number
  pub marks : MarksFollow lot old new (own f old number).uses (own f new number).uses
  pub inodes : (k : ℕ) → k ≢ number → inode_of new k ≡ inode_of old k
  pub others : OthersSay lot f old new number

-- n data blocks more are marked used and counted. No other mark, and nothing of the sub-super block but that count, changed.
pub record MoreMarked (lot : LotView) (old new : ℕ → List ℕ) (n : ℕ) : Type 0 where
  pub free : free_count false lot new + n ≡ free_count false lot old
  pub counts : counted false new ≡ counted false old + n
  pub sub : SameBeside (count_place false) 4 (old sub_address) (new sub_address)
  pub places : (b : ℕ) → is_data lot b ≡ false → used_block new b ≡ used_block old b
  pub inodes : (i : ℕ) → used_inode new i ≡ used_inode old i
