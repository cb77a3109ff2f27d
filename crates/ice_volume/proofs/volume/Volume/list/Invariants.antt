use Rattle.std.proofs.Common.{◌≡◌}
use Rattle.ice_volume.specs.Rows.{shown_rows}
use Rattle.ice_volume.proofs.volume.Volume.list.Given as goal

abbrev pub invariant-loop-slot : goal.invariant-loop-slot
invariant-loop-slot l = record {
  rows : l.room.rows ≡ shown_rows l.self l.slot;
  entries : l.room.entries ≡ l.initial.room.entries;
}
