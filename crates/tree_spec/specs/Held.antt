-- What a room holds.
use Rattle.std.specs.Prelude.{ℕ, ◌≤◌, List, length}
use Rattle.std.specs.declared.cmp.Ordering.{Ordering}
use Rattle.std.specs.Ordering.{nat_cmp}
use Rattle.std.specs.Cmp.Lexicographic.{slice_cmp}
use Rattle.tree_spec.specs.declared.reply.Entry.{Entry}
use Rattle.tree_spec.specs.declared.reply.CubeRow.{CubeRow}

-- no answer has more bytes: those of one `read`
abbrev pub most_bytes : ℕ
most_bytes = 16384

-- no answer has more entries: those of one directory
abbrev pub most_entries : ℕ
most_entries = 4095

-- no answer has more rows: one for each slot of an image
abbrev pub most_rows : ℕ
most_rows = 16

-- the bytes, entries and rows of an answer
pub record RoomContent : Type 0 where
  pub bytes : List ℕ
  pub entries : List Entry
  pub rows : List CubeRow

-- by the bytes of their names, a prefix first
abbrev pub by_name : Entry → Entry → Ordering
by_name a b = slice_cmp nat_cmp a.name b.name

-- no list is longer than the most that there may be, and there is memory for the most of each
pub record HasRoom (held : RoomContent) (bytes entries rows : ℕ) : Type 0 where
  pub bytes_few : length held.bytes ≤ most_bytes
  pub entries_few : length held.entries ≤ most_entries
  pub rows_few : length held.rows ≤ most_rows
  pub bytes_memory : most_bytes ≤ bytes
  pub entries_memory : most_entries ≤ entries
  pub rows_memory : most_rows ≤ rows
