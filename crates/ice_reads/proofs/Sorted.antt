-- A tree that an inode stands for has the names of each directory in order.
use Rattle.std.proofs.Common.{ℕ, ◌+◌, Bool, true, false, T, List}
use Rattle.std.specs.Prelude.{◌&&◌}
use Rattle.ice_base.specs.Lots.{LotView}
use Rattle.ice_dir.specs.Rows.{DirRow}
use Rattle.tree_spec.specs.Trees.{Tree, File, Dir, Entries, Nil, Entry, is_ordered, all_ordered}
use Rattle.tree_spec.specs.Costs.{Form}
use Rattle.ice_reads.specs.Tables.{Table, rows_in, inode_named}
use Rattle.ice_reads.specs.Reads.{Reads, ReadsEach}

both : (a b : Bool) → T a → T b → T (a && b)
both true b p q = q
both false b p q = p

module _ (f : Form) (lot : LotView) (o : Table) where
  mutual
    -- a tree that an inode stands for has the names of each directory in order
    pub Reads-ordered : (i h : ℕ) (t : Tree) → Reads f lot o i h t → T (is_ordered t)
    Reads-ordered i h (File bytes) r = tt
    Reads-ordered i h (Dir es) r = both _ _ r.1.sorted (ReadsEach-ordered (rows_in f (o i)) (h + 1) es r.2)

    pub ReadsEach-ordered : (rs : List DirRow) (h : ℕ) (es : Entries) → ReadsEach f lot o rs h es → T (all_ordered es)
    ReadsEach-ordered rs h Nil r = tt
    ReadsEach-ordered rs h (Entry c t es) r = both _ _ (Reads-ordered (inode_named c rs) h t r.0) (ReadsEach-ordered rs h es r.1)
