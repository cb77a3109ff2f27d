-- Directories as lists of rows.
use Rattle.std.specs.Prelude.{◌≡◌, ◌≢◌, ◌≤◌, ◌<◌, ℕ, ◌+◌, ◌*◌, ◌/◌, ◌%◌, Bool, cond, nat_le, List, [], map, length, take, drop, slice_index, slice_index_or, slice_range, Option}
use Rattle.std.specs.List.{range_with_len, find, position_or_len, swap_remove}
use Rattle.std.specs.Option.{option_map}
use Rattle.std.specs.Str.{bytes_eq}
use Rattle.ice_base.specs.Fields.{word_at}
use Rattle.ice_base.specs.Lots.{LotView}
use Rattle.ice_map.specs.declared.codec.Inode.{Inode}
use Rattle.ice_map.specs.Inodes.{inode_of}
use Rattle.ice_map.specs.Maps.{nth_block}
use Rattle.ice_map.specs.Own.{entry_size, Own, own_at}
use Rattle.tree_spec.specs.Costs.{Form}

-- one entry of a directory: a name, and the inode that it names
abbrev pub DirRow : Type 0
DirRow = List ℕ × ℕ

-- how many entries of this many bytes a block has
abbrev pub entries_in : ℕ → ℕ
entries_in entry = 1024 / entry

-- where entry k of a directory stands in its block
abbrev pub place_of : ℕ → ℕ → ℕ
place_of entry k = entry * (k % entries_in entry)

-- the bytes of the entry at a place of a block
abbrev pub row_bytes : ℕ → List ℕ → ℕ → List ℕ
row_bytes entry block at = slice_range block at (at + entry)

-- the name in an entry's bytes: its length at 4, the name from 5 on. A length that reaches past the entry gives no name.
unfoldable pub name_in : List ℕ → List ℕ
name_in bytes = cond (nat_le (5 + slice_index bytes 4) (length bytes)) (take (slice_index bytes 4) (drop 5 bytes)) []

-- an entry's bytes as a row: the inode's number stands at 0
abbrev pub row_in : List ℕ → DirRow
row_in bytes = (name_in bytes, word_at bytes 0)

-- the row at a place of a block
abbrev pub row_at : ℕ → List ℕ → ℕ → DirRow
row_at entry block at = row_in (row_bytes entry block at)

-- row k of the blocks of a map whose entries have this many bytes
abbrev pub row_sized : ℕ → (ℕ → List ℕ) → Inode → ℕ → DirRow
row_sized entry m inode k = row_at entry (m (nth_block m inode (k / entries_in entry))) (place_of entry k)

-- the bytes of entry k of the blocks of such a map
abbrev pub entry_bytes : ℕ → (ℕ → List ℕ) → Inode → ℕ → List ℕ
entry_bytes entry m inode k = row_bytes entry (m (nth_block m inode (k / entries_in entry))) (place_of entry k)

-- how many entries a block has in a cube of the form
abbrev pub per_block : Form → ℕ
per_block f = entries_in (entry_size f)

-- row k of the blocks of a map in such a cube
abbrev pub row_of : Form → (ℕ → List ℕ) → Inode → ℕ → DirRow
row_of f = row_sized (entry_size f)

-- the bytes of each entry of the directory of a number, in their order
abbrev pub texts_of : Form → (ℕ → List ℕ) → ℕ → List (List ℕ)
texts_of f m number = map (entry_bytes (entry_size f) m (inode_of m number)) (range_with_len 0 (inode_of m number).size)

-- an entry's bytes are the one text of a row: they read as it, and are zeros past the name
pub record IsText (row : DirRow) (bytes : List ℕ) : Type 0 where
  pub reads : row_in bytes ≡ row
  pub blank : (k : ℕ) → 5 + length row.0 ≤ k → k < length bytes → slice_index bytes k ≡ 0

-- the rows of a directory, in the order of its entries
unfoldable pub dir_rows : Form → Own → List DirRow
dir_rows f o = map (λ k. row_at (entry_size f) (slice_index_or o.contents (k / per_block f) []) (place_of (entry_size f) k)) (range_with_len 0 o.inode.size)

-- the rows of a directory's inode in hand
abbrev pub rows_at : Form → (ℕ → List ℕ) → Inode → List DirRow
rows_at f m inode = dir_rows f (own_at f m inode)

-- the rows of the directory of a number
abbrev pub dir_rows_of : Form → (ℕ → List ℕ) → ℕ → List DirRow
dir_rows_of f m number = rows_at f m (inode_of m number)

-- whether a row has this name
abbrev pub named : List ℕ → DirRow → Bool
named name row = bytes_eq row.0 name

-- the inode in the first row of this name
abbrev pub look_up : List ℕ → List DirRow → Option ℕ
look_up name rows = option_map (λ (row : DirRow). row.1) (find (named name) rows)

-- the rows without the first one of this name, which they have: the last row stands in its place
abbrev pub rows_without : List ℕ → List DirRow → List DirRow
rows_without name rows = swap_remove rows (position_or_len (named name) rows) ([], 0)

-- none of these rows has this name
abbrev pub NoneNamed : (ℕ → DirRow) → List ℕ → ℕ → ℕ → Type 0
NoneNamed row name low high = (k : ℕ) → low ≤ k → k < high → (row k).0 ≢ name

-- row k is the first of these rows that has this name
pub record FirstNamed (row : ℕ → DirRow) (name : List ℕ) (from to k : ℕ) : Type 0 where
  pub after : from ≤ k
  pub below : k < to
  pub has : (row k).0 ≡ name
  pub first : NoneNamed row name from k

-- an inode is a directory that this lot can have: one entry for each of its inodes but one, at most
pub record IsDirectory (lot : LotView) (inode : Inode) : Type 0 where
  pub kind : inode.kind ≡ 2
  pub few : inode.size < 64 * length lot.groups

-- it has an entry k
pub record HasEntry (lot : LotView) (k : ℕ) (inode : Inode) : Type 0 where
  pub is : IsDirectory lot inode
  pub below : k < inode.size
