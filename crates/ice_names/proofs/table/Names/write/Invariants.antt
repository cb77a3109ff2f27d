use Rattle.std.proofs.Common.{◌<◌, ℕ}
use Rattle.ice_tables.specs.Tables.{blocks_from}
use Rattle.ice_names.specs.Names.{row_at}
use Rattle.ice_names.specs.Bytes.{IsRowBytes, IsWhole, row_bytes}
use Rattle.ice_names.proofs.table.Names.write.Given as goal

abbrev pub invariant-loop-s : goal.invariant-loop-s
invariant-loop-s l = record {
  written : (r : ℕ) → r < l.s → IsRowBytes (row_at l.self r) (row_bytes (blocks_from 11 l.into) r);
  whole : (r : ℕ) → r < l.s → IsWhole (blocks_from 11 l.into) r;
}
