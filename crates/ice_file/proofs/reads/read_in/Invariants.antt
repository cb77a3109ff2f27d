use Rattle.std.proofs.Common.{◌-◌, ◌≡◌, ◌≤◌, length}
use Rattle.ice_base.specs.Views.{Looked}
use Rattle.ice_file.specs.Files.{bytes_from}
use Rattle.ice_file.proofs.reads.read_in.Given as goal

abbrev pub invariant-loop-from : goal.invariant-loop-from
invariant-loop-from g l = record {
  looked : Looked g.D.Disk g.V.View l.lot l.fn.view l.fn.disk l.view l.disk;
  after : l.at ≤ l.from;
  before : l.from ≤ l.end;
  long : length l.room.bytes ≡ l.from - l.at;
  bytes : g.V.View.shows l.lot l.fn.view l.fn.disk → l.room.bytes ≡ bytes_from (g.V.View.map l.fn.view l.fn.disk l.lot) l.inode l.at (l.from - l.at);
  entries : l.room.entries ≡ l.fn.room.entries;
  rows : l.room.rows ≡ l.fn.room.rows;
}

abbrev pub decreases-loop-from : goal.decreases-loop-from
decreases-loop-from g l = l.end - l.from
