-- Changes of directories.
use Rattle.std.specs.Prelude.{◌≡◌, ◌≢◌, ◌<◌, ◌⊎◌, ℕ, ◌+◌, ◌-◌, ◌*◌, ◌/◌, ◌++◌, true, false, List, [], ◌∷◌, length, ◌≤◌, ◌^◌}
use Rattle.std.specs.List.{swap_remove}
use Rattle.ice_base.specs.Fields.{SameBeside}
use Rattle.ice_base.specs.Lots.{LotView, sub_address}
use Rattle.ice_base.specs.Spare.{has}
use Rattle.ice_base.specs.Used.{used_block, used_inode, is_data, count_place, counted, free_count}
use Rattle.ice_map.specs.declared.codec.Inode.{Inode}
use Rattle.ice_map.specs.Inodes.{inode_of}
use Rattle.ice_map.specs.Maps.{uses, HasTwice, Misleads}
use Rattle.ice_map.specs.Own.{entry_size, OwnSet, blocks_for, Confuses}
use Rattle.ice_map.specs.Moves.{Moved, uses_of}
use Rattle.ice_dir.specs.Rows.{DirRow, entries_in, entry_bytes, texts_of, dir_rows_of, IsText, IsDirectory}
use Rattle.tree_spec.specs.Costs.{Form}

-- how many blocks so many entries of this many bytes have
abbrev pub blocks_sized : ℕ → ℕ → ℕ
blocks_sized entry size = blocks_for (entry * size)

-- how many blocks a directory of so many entries has in a cube of the form
abbrev pub entry_blocks : Form → ℕ → ℕ
entry_blocks f = blocks_sized (entry_size f)

-- fewer blocks are free than a directory of so many entries needs more for one more
abbrev pub FewFree : LotView → Form → (ℕ → List ℕ) → ℕ → Type 0
FewFree lot f m size = free_count false lot m + uses_of (entry_blocks f size) < uses_of (entry_blocks f (size + 1))

-- so many blocks are counted that these can't be
abbrev pub CountFull : Form → (ℕ → List ℕ) → ℕ → Type 0
CountFull f m size = 2 ^ 32 + uses_of (entry_blocks f size) ≤ counted false m + uses_of (entry_blocks f (size + 1))

-- fewer blocks are counted than a directory of so many entries gives back with one of them
abbrev pub CountLow : Form → (ℕ → List ℕ) → ℕ → Type 0
CountLow f m size = counted false m + uses_of (entry_blocks f (size - 1)) < uses_of (entry_blocks f size)

-- an inode is a directory that can have one entry more
pub record HasEntryRoom (lot : LotView) (inode : Inode) : Type 0 where
  pub is : IsDirectory lot inode
  pub room : inode.size + 1 < 64 * length lot.groups

-- A directory's rows were set: its map is well made, the marks follow what it uses, and every other inode is as it was and says what it said.
pub record DirSet (lot : LotView) (f : Form) (old new : ℕ → List ℕ) (number : ℕ) (now : List DirRow) : Type 0 where
  pub rows : dir_rows_of f new number ≡ now
  pub is : IsDirectory lot (inode_of new number)
  pub set : OwnSet lot f old new number

-- The bytes of entry k, each entry having so many, were written where a map of c blocks became one of d, and those of every other entry of the c blocks stay.
pub record RowPut (lot : LotView) (entry : ℕ) (m0 m1 : ℕ → List ℕ) (x y : Inode) (c d k : ℕ) (bytes : List ℕ) : Type 0 where
  pub moved : Moved lot m0 m1 x y c d
  pub here : entry_bytes entry m1 y k ≡ bytes
  pub others : (j : ℕ) → j / entries_in entry < c → j ≢ k → entry_bytes entry m1 y j ≡ entry_bytes entry m0 x j

-- a directory got the text of a row behind its last entry, and the bytes of its other entries stay
abbrev pub TextAdded : Form → (ℕ → List ℕ) → (ℕ → List ℕ) → ℕ → DirRow → Type 0
TextAdded f old new number row = (bytes : List ℕ) × IsText row bytes × (texts_of f new number ≡ texts_of f old number ++ bytes ∷ [])

-- entry k was taken from a directory: the bytes of the last one stand in its place, and those of its other entries stay
abbrev pub TextTaken : Form → (ℕ → List ℕ) → (ℕ → List ℕ) → ℕ → ℕ → Type 0
TextTaken f old new number k = texts_of f new number ≡ swap_remove (texts_of f old number) k []

-- what a directory uses
abbrev pub dir_uses : Form → (ℕ → List ℕ) → ℕ → List ℕ
dir_uses f m number = uses m (inode_of m number) (entry_blocks f (inode_of m number).size)

-- An entry was taken from a directory, whatever its blocks held: the directory has one entry fewer, and as many blocks fewer as these need.
-- No other inode, no other mark, and nothing of the sub-super block but the count of used blocks, changed. What became free was free or is what
-- the directory uses, data places beside that stayed, and its map leads nowhere only where it did, but where the directory uses a block twice.
pub record EntryGone (lot : LotView) (f : Form) (old new : ℕ → List ℕ) (number : ℕ) : Type 0 where
  pub kind : (inode_of new number).kind ≡ 2
  pub size : (inode_of new number).size + 1 ≡ (inode_of old number).size
  pub others : (k : ℕ) → k ≢ number → inode_of new k ≡ inode_of old k
  pub free : free_count false lot new + uses_of (entry_blocks f (inode_of new number).size)
      ≡ free_count false lot old + uses_of (entry_blocks f (inode_of old number).size)
  pub counts : counted false new
      ≡ counted false old - (uses_of (entry_blocks f (inode_of old number).size) - uses_of (entry_blocks f (inode_of new number).size))
  pub sub : SameBeside (count_place false) 4 (old sub_address) (new sub_address)
  pub places : (b : ℕ) → is_data lot b ≡ false → used_block new b ≡ used_block old b
  pub inodes : (i : ℕ) → used_inode new i ≡ used_inode old i
  pub blocks : (b : ℕ) → is_data lot b ≡ true → has (dir_uses f old number) b ≡ false → new b ≡ old b
  pub marks : (b : ℕ) → used_block new b ≡ false → (used_block old b ≡ false) ⊎ (has (dir_uses f old number) b ≡ true) ⊎ HasTwice (dir_uses f old number)
  pub leads : Misleads lot new (inode_of new number) (entry_blocks f (inode_of new number).size)
      → Confuses lot old (inode_of old number) (entry_blocks f (inode_of old number).size)
