-- That an inode stands for a tree, and what the tree uses.
use Rattle.std.specs.Prelude.{ℕ, ◌+◌, ⊤, List, [], ◌∷◌, ◌++◌}
use Rattle.ice_base.specs.Lots.{LotView}
use Rattle.ice_dir.specs.Rows.{DirRow}
use Rattle.tree_spec.specs.Trees.{Tree, File, Dir, Entries, Nil, Entry}
use Rattle.tree_spec.specs.Costs.{Form}
use Rattle.ice_reads.specs.Tables.{Table, rows_in, IsInode, IsFileInode, IsDirInode, inode_named}

abbrev mutual
  -- inode i, reached by h names, stands for the tree
  pub Reads : Form → LotView → Table → ℕ → ℕ → Tree → Type 0
  Reads f lot o i h (File bytes) = IsInode f lot (o i) i h × IsFileInode f (o i) bytes
  Reads f lot o i h (Dir es) = IsInode f lot (o i) i h × IsDirInode f lot (o i) es × ReadsEach f lot o (rows_in f (o i)) (h + 1) es

  -- the tree of each name is what the inode in the name's row stands for
  pub ReadsEach : Form → LotView → Table → List DirRow → ℕ → Entries → Type 0
  ReadsEach f lot o rs h Nil = ⊤
  ReadsEach f lot o rs h (Entry c t es) = Reads f lot o (inode_named c rs) h t × ReadsEach f lot o rs h es

-- all that the tree of inode i uses, where each inode by itself uses what `mine` says
abbrev mutual
  pub tree_uses : Form → Table → (ℕ → List ℕ) → ℕ → Tree → List ℕ
  tree_uses f o mine i (File bytes) = mine i
  tree_uses f o mine i (Dir es) = mine i ++ entries_use f o mine (rows_in f (o i)) es

  pub entries_use : Form → Table → (ℕ → List ℕ) → List DirRow → Entries → List ℕ
  entries_use f o mine rs Nil = []
  entries_use f o mine rs (Entry c t es) = tree_uses f o mine (inode_named c rs) t ++ entries_use f o mine rs es

-- the blocks that the tree of inode i uses
abbrev pub used_blocks : Form → Table → ℕ → Tree → List ℕ
used_blocks f o = tree_uses f o (λ i. (o i).uses)

-- the inodes that it uses
abbrev pub used_inodes : Form → Table → ℕ → Tree → List ℕ
used_inodes f o = tree_uses f o (λ i. i ∷ [])

-- the inode to which a walk of these names from inode i comes
abbrev pub inode_on : Form → Table → ℕ → List (List ℕ) → ℕ
inode_on f o i [] = i
inode_on f o i (c ∷ cs) = inode_on f o (inode_named c (rows_in f (o i))) cs
