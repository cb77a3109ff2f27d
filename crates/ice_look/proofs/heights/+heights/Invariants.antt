use Rattle.std.proofs.Common.{◌≡◌, ℕ, ◌+◌, ◌*◌, ◌≤◌, length, take, drop}
use Rattle.std.specs.Prelude.{All}
use Rattle.std.specs.List.{sum_by}
use Rattle.ice_base.specs.Views.{Looked}
use Rattle.ice_map.specs.Inodes.{inode_of}
use Rattle.ice_dir.specs.Rows.{DirRow, dir_rows_of}
use Rattle.tree_spec.specs.Trees.{Entries, Dir, rows}
use Rattle.tree_spec.specs.Costs.{form_of, nodes}
use Rattle.ice_reads.specs.Reads.{Reads}
use Rattle.ice_map.specs.Own.{own}
use Rattle.ice_reads.specs.Tables.{rows_in}
use Rattle.ice_look.specs.Places.{IsReached}
use Rattle.ice_look.proofs.HeightLaws.{high, many}
use Rattle.ice_look.proofs.WithinLaws.{by_row}
use Rattle.ice_look.proofs.heights.+heights.Given as goal

abbrev pub invariant-has_higher-loop-k : goal.invariant-has_higher-loop-k
invariant-has_higher-loop-k g l = record {
  looked : Looked g.D.Disk g.V.View l.lot l.initial.view l.initial.disk l.view l.disk;
  falls : l.budget ≤ l.initial.budget;
  pays : (number : ℕ) → g.V.View.shows l.lot l.initial.view l.initial.disk → l.node ≡ inode_of (g.V.View.map l.initial.view l.initial.disk l.lot) number
      → IsReached (form_of g.F.Form.VERSION) l.lot (g.V.View.map l.initial.view l.initial.disk l.lot) number
      → l.initial.budget ≤ l.budget + sum_by (by_row (form_of g.F.Form.VERSION) (g.V.View.map l.initial.view l.initial.disk l.lot) l.levels) (take l.k (dir_rows_of (form_of g.F.Form.VERSION) (g.V.View.map l.initial.view l.initial.disk l.lot) number));
  low : (number h : ℕ) (es : Entries) → g.V.View.shows l.lot l.initial.view l.initial.disk → l.node ≡ inode_of (g.V.View.map l.initial.view l.initial.disk l.lot) number → Reads (form_of g.F.Form.VERSION) l.lot (own (form_of g.F.Form.VERSION) (g.V.View.map l.initial.view l.initial.disk l.lot)) number h (Dir es)
      → l.node.size ≡ length (rows es) → nodes (Dir es) ≤ l.initial.budget + 1
      → All (λ (row : DirRow). high es row ≤ l.levels + 1) (take l.k (rows_in (form_of g.F.Form.VERSION) (own (form_of g.F.Form.VERSION) (g.V.View.map l.initial.view l.initial.disk l.lot) number)));
  spent : (number h : ℕ) (es : Entries) → g.V.View.shows l.lot l.initial.view l.initial.disk → l.node ≡ inode_of (g.V.View.map l.initial.view l.initial.disk l.lot) number → Reads (form_of g.F.Form.VERSION) l.lot (own (form_of g.F.Form.VERSION) (g.V.View.map l.initial.view l.initial.disk l.lot)) number h (Dir es)
      → l.node.size ≡ length (rows es) → nodes (Dir es) ≤ l.initial.budget + 1
      → l.initial.budget + sum_by (many es) (drop l.k (rows_in (form_of g.F.Form.VERSION) (own (form_of g.F.Form.VERSION) (g.V.View.map l.initial.view l.initial.disk l.lot) number)))
      ≤ l.budget + sum_by (many es) (rows_in (form_of g.F.Form.VERSION) (own (form_of g.F.Form.VERSION) (g.V.View.map l.initial.view l.initial.disk l.lot) number));
}

abbrev pub decreases-has_higher : goal.decreases-has_higher
decreases-has_higher g l = 2 * l.levels + 2

abbrev pub decreases-is_higher : goal.decreases-is_higher
decreases-is_higher g l = 2 * l.levels + 1
