use Rattle.std.proofs.Common.{◌≡◌, ℕ, length, take, map}
use Rattle.ice_base.specs.Views.{Looked}
use Rattle.tree_spec.specs.Trees.{Entries, Dir, rows}
use Rattle.tree_spec.specs.Costs.{form_of}
use Rattle.ice_map.specs.Inodes.{inode_of}
use Rattle.ice_map.specs.Own.{own}
use Rattle.ice_reads.specs.Tables.{rows_in}
use Rattle.ice_reads.specs.Reads.{Reads}
use Rattle.ice_look.specs.Broken.{BadEntry}
use Rattle.ice_look.specs.Places.{IsReached}
use Rattle.ice_look.specs.Listings.{listed_as}
use Rattle.ice_look.proofs.lists.add_entries.Given as goal

-- the entries so far are in the room
abbrev pub invariant-loop-k : goal.invariant-loop-k
invariant-loop-k g l = record {
  looked : Looked g.D.Disk g.V.View l.lot l.fn.view l.fn.disk l.view l.disk;
  all : length l.room.entries ≡ l.k;
  bytes : l.room.bytes ≡ l.fn.room.bytes;
  cube_rows : l.room.rows ≡ l.fn.room.rows;
  listed : (number h : ℕ) (es : Entries) → g.V.View.shows l.lot l.fn.view l.fn.disk → l.node ≡ inode_of (g.V.View.map l.fn.view l.fn.disk l.lot) number → Reads (form_of g.F.Form.VERSION) l.lot (own (form_of g.F.Form.VERSION) (g.V.View.map l.fn.view l.fn.disk l.lot)) number h (Dir es) → l.count ≡ length (rows es)
      → IsReached (form_of g.F.Form.VERSION) l.lot (g.V.View.map l.fn.view l.fn.disk l.lot) number → ¬ BadEntry (form_of g.F.Form.VERSION) l.lot (g.V.View.map l.fn.view l.fn.disk l.lot) → l.room.entries ≡ map (listed_as es) (take l.k (rows_in (form_of g.F.Form.VERSION) (own (form_of g.F.Form.VERSION) (g.V.View.map l.fn.view l.fn.disk l.lot) number)));
}
