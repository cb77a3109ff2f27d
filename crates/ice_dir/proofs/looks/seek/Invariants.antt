use Rattle.std.proofs.Common.{◌*◌, min}
use Rattle.ice_base.specs.Views.{Looked}
use Rattle.ice_dir.specs.Rows.{row_sized, entries_in, NoneNamed}
use Rattle.ice_dir.proofs.looks.seek.Given as goal

abbrev pub invariant-loop-n : goal.invariant-loop-n
invariant-loop-n g l = record {
  looked : Looked g.D.Disk g.V.View l.lot l.initial.view l.initial.disk l.view l.disk;
  none : g.V.View.shows l.lot l.initial.view l.initial.disk → NoneNamed (row_sized g.F.Form.ENTRY (g.V.View.map l.initial.view l.initial.disk l.lot) l.inode) l.name 0 (min l.inode.size (l.n * entries_in g.F.Form.ENTRY));
}
