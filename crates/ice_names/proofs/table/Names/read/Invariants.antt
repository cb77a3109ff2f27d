use Rattle.std.proofs.Common.{◌≡◌}
use Rattle.ice_tables.specs.Tables.{blocks_from}
use Rattle.ice_names.specs.Names.{IsNameTable}
use Rattle.ice_names.specs.Bytes.{IsReadTo}
use Rattle.ice_names.proofs.table.Names.read.Given as goal

abbrev pub invariant-loop-s : goal.invariant-loop-s
invariant-loop-s l = record {
  slots : l.names.slots ≡ l.slots;
  read : IsReadTo (blocks_from 11 l.blocks) l.s l.names;
  sound : IsNameTable l.names;
}
