-- What the inodes of a tree say.
use Rattle.std.specs.Prelude.{◌≡◌, ◌≤◌, ◌<◌, ℕ, ◌*◌, true, List, map, length, is_some, unwrap_or, All, T}
use Rattle.std.specs.List.{IsDistinct}
use Rattle.std.specs.Ordering.{eq_by_cmp}
use Rattle.std.specs.FinMap.{find, is_sorted}
use Rattle.ice_base.specs.Lots.{LotView}
use Rattle.ice_base.specs.Spare.{has}
use Rattle.ice_base.specs.Used.{is_data}
use Rattle.ice_map.specs.Own.{Own, map_length, file_bytes, RestIsZero}
use Rattle.ice_dir.specs.Rows.{DirRow, dir_rows}
use Rattle.tree_spec.specs.Trees.{Entries, rows, by_bytes}
use Rattle.tree_spec.specs.Costs.{Form}
use Rattle.tree_spec.specs.Names.{is_name}
use Rattle.tree_spec.specs.Answers.{deepest}

-- the blocks of a lot by their addresses
abbrev pub Map : Type 0
Map = ℕ → List ℕ

-- what each inode says
abbrev pub Table : Type 0
Table = ℕ → Own

-- the rows of a directory: names and the inodes that they name, in the order of its entries
abbrev pub rows_in : Form → Own → List DirRow
rows_in f o = dir_rows f o

-- inode i, reached by h names, can be one of a tree: its map uses data places of the lot, and its other pointers are 0
pub record IsInode (f : Form) (lot : LotView) (o : Own) (i h : ℕ) : Type 0 where
  pub depth : h ≤ deepest
  pub number : i < 64 * length lot.groups
  pub places : (b : ℕ) → has o.uses b ≡ true → is_data lot b ≡ true
  pub rest : RestIsZero o.inode (map_length f o.inode)

-- it is a file of these bytes
pub record IsFileInode (f : Form) (o : Own) (bytes : List ℕ) : Type 0 where
  pub is_file : o.inode.kind ≡ 1
  pub within : o.inode.size ≤ f.longest_file
  pub bytes_are : file_bytes o ≡ bytes

-- a name that entries of the form can have
pub record IsNameOf (f : Form) (c : List ℕ) : Type 0 where
  pub is : is_name c ≡ true
  pub short : length c ≤ f.longest_name

-- it is a directory whose rows have just the names of these entries, and each name once
pub record IsDirInode (f : Form) (lot : LotView) (o : Own) (es : Entries) : Type 0 where
  pub is_dir : o.inode.kind ≡ 2
  pub within : o.inode.size < 64 * length lot.groups
  pub fit : All (λ (row : DirRow). IsNameOf f row.0) (rows_in f o)
  pub differ : IsDistinct (eq_by_cmp by_bytes) (map (λ (row : DirRow). row.0) (rows_in f o))
  pub sorted : T (is_sorted by_bytes (rows es))
  pub maps : (c : List ℕ) → is_some (find by_bytes c (rows es)) ≡ is_some (find by_bytes c (rows_in f o))
  pub count : length (rows es) ≡ o.inode.size

-- the inode in the row of this name
abbrev pub inode_named : List ℕ → List DirRow → ℕ
inode_named c rs = unwrap_or (find by_bytes c rs) 0
