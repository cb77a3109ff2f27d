-- Trees of files and directories, walks through them, and changes of one place in them.
use Rattle.std.specs.Prelude.{ℕ, ◌+◌, Bool, true, not, ◌&&◌, List, [], ◌∷◌, length, Option, None, Some, max, filter, if◌then◌else◌}
use Rattle.std.specs.declared.cmp.Ordering.{Ordering}
use Rattle.std.specs.Ordering.{nat_cmp, eq_by_cmp}
use Rattle.std.specs.Cmp.Lexicographic.{slice_cmp}
use Rattle.std.specs.FinMap.{find, put, is_sorted}

-- a file is its bytes; a directory is a map from names to trees, whose entries stand in the order of their names, so that equal maps are equal trees
mutual
  pub data Tree : Type 0 where
    File : List ℕ → Tree
    Dir : Entries → Tree

  pub data Entries : Type 0 where
    Nil : Entries
    Entry : List ℕ → Tree → Entries → Entries

-- names in the order of their bytes, a prefix first
abbrev pub by_bytes : List ℕ → List ℕ → Ordering
by_bytes = slice_cmp nat_cmp

-- the entries of a directory as a list
abbrev pub rows : Entries → List (List ℕ × Tree)
rows Nil = []
rows (Entry c t es) = (c, t) ∷ rows es

-- the entries that a list has
abbrev pub from_rows : List (List ℕ × Tree) → Entries
from_rows [] = Nil
from_rows (e ∷ es) = Entry e.0 e.1 (from_rows es)

-- whether the names of each directory of a tree strictly rise
abbrev mutual
  pub is_ordered : Tree → Bool
  is_ordered (File bytes) = true
  is_ordered (Dir es) = is_sorted by_bytes (rows es) && all_ordered es

  pub all_ordered : Entries → Bool
  all_ordered Nil = true
  all_ordered (Entry c t es) = is_ordered t && all_ordered es

-- the number of names from a directory down to its deepest entry
abbrev mutual
  pub height : Tree → ℕ
  height (File bytes) = 0
  height (Dir es) = height_in es

  pub height_in : Entries → ℕ
  height_in Nil = 0
  height_in (Entry c t es) = max (height t + 1) (height_in es)

-- a sum over the files and directories of a tree: of a file by its bytes, of a directory by the number of its entries
abbrev mutual
  pub total : (List ℕ → ℕ) → (ℕ → ℕ) → Tree → ℕ
  total file dir (File bytes) = file bytes
  total file dir (Dir es) = dir (length (rows es)) + total_in file dir es

  pub total_in : (List ℕ → ℕ) → (ℕ → ℕ) → Entries → ℕ
  total_in file dir Nil = 0
  total_in file dir (Entry c t es) = total file dir t + total_in file dir es

-- ---- walks

-- where a walk ends: at a tree, at a directory without the next name, or at a file with a name left
pub data Walk : Type 0 where
  Found : Tree → Walk
  NotFound : Walk
  NotDir : Walk

-- the end of a walk by one name, by what the directory has under it
abbrev pub found_or_not : Option Tree → Walk
found_or_not None = NotFound
found_or_not (Some t) = Found t

-- the walk of one name
abbrev pub child : List ℕ → Tree → Walk
child c (File bytes) = NotDir
child c (Dir es) = found_or_not (find by_bytes c (rows es))

-- a walk that goes on from the tree that was found
abbrev pub and_on : Walk → (Tree → Walk) → Walk
and_on (Found t) go = go t
and_on NotFound go = NotFound
and_on NotDir go = NotDir

-- the walk of a list of names, from the root of the tree
abbrev pub walk : List (List ℕ) → Tree → Walk
walk [] t = Found t
walk (c ∷ cs) t = and_on (child c t) (λ u. walk cs u)

-- a path without its last name
abbrev pub parent : List (List ℕ) → List (List ℕ)
parent [] = []
parent (c ∷ []) = []
parent (c ∷ d ∷ cs) = c ∷ parent (d ∷ cs)

-- the last name of a path
abbrev pub last_name : List (List ℕ) → List ℕ
last_name [] = []
last_name (c ∷ []) = c
last_name (c ∷ d ∷ cs) = last_name (d ∷ cs)

-- a walk that ends at a file ends with NotDir
abbrev pub needs_dir : Walk → Walk
needs_dir (Found (File bytes)) = NotDir
needs_dir (Found (Dir es)) = Found (Dir es)
needs_dir NotFound = NotFound
needs_dir NotDir = NotDir

-- the walk to the directory of a path's last name
abbrev pub parent_walk : List (List ℕ) → Tree → Walk
parent_walk p t = needs_dir (walk (parent p) t)

-- ---- changes

-- the entry of the name c has what g makes of its tree
abbrev pub over_entry : List ℕ → (Tree → Tree) → Entries → Entries
over_entry c g Nil = Nil
over_entry c g (Entry d t es) = if eq_by_cmp by_bytes c d then Entry d (g t) es else Entry d t (over_entry c g es)

-- a directory's entry of the name c has what g makes of its tree
abbrev pub over_child : List ℕ → (Tree → Tree) → Tree → Tree
over_child c g (File bytes) = File bytes
over_child c g (Dir es) = Dir (over_entry c g es)

-- the tree with what g makes of the tree at a path in its place
abbrev pub at : List (List ℕ) → (Tree → Tree) → Tree → Tree
at [] g t = g t
at (c ∷ cs) g t = over_child c (λ u. at cs g u) t

-- the directory with the tree s under the name c
abbrev pub with_entry : List ℕ → Tree → Tree → Tree
with_entry c s (File bytes) = File bytes
with_entry c s (Dir es) = Dir (from_rows (put by_bytes c s (rows es)))

-- the entries of other names than c
abbrev pub without : List ℕ → Entries → Entries
without c es = from_rows (filter (λ e. not (eq_by_cmp by_bytes c e.0)) (rows es))

-- the directory with no entry of the name c
abbrev pub without_entry : List ℕ → Tree → Tree
without_entry c (File bytes) = File bytes
without_entry c (Dir es) = Dir (without c es)
