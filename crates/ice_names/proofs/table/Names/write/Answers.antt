use Rattle.std.proofs.Common.{refl, subst, arith}
use Rattle.ice_tables.specs.Tables.{blocks_from}
use Rattle.ice_names.specs.Names.{IsNameTable}
use Rattle.ice_names.proofs.TableLaws.{inside_row, inside_cube}
use Rattle.ice_names.proofs.RowLaws.{whole_blocks, whole_more, written_more, written_rows, written_names, written_zeros}
use Rattle.ice_names.proofs.table.Names.write.Goals as goal

pub write_row-requires-clause-cube : goal.write_row-requires-clause-cube
write_row-requires-clause-cube c = inside_cube _ c.args.self.now c.loop-s.s c.index-self-s.result _ c.self.view_is c.self.invariant
    c.loop-s-test.true refl

pub loop-s-preserved : goal.loop-s-preserved
loop-s-preserved c = record {
  written = written_more c.args.self.now (blocks_from 11 c.loop-s.into) (blocks_from 11 c.write_row.new.into) c.loop-s.s _
      (inside_row _ c.args.self.now c.loop-s.s c.index-self-s.result c.self.view_is c.self.invariant c.loop-s-test.true)
      c.write_row.ensures.here c.write_row.ensures.others c.loop-s.invariant.written;
  whole = whole_more (blocks_from 11 c.loop-s.into) (blocks_from 11 c.write_row.new.into) c.loop-s.s c.write_row.ensures.whole
      c.write_row.ensures.stays c.loop-s.invariant.whole;
}

pub returns-clause-accepted : goal.returns-clause-accepted
returns-clause-accepted c =
    written_names c.args.self.now (blocks_from 11 c.loop-s.into) (subst IsNameTable c.self.view_is c.self.invariant)
    (λ s less. c.loop-s.invariant.written s (omega (arith, less, c.loop-s-test.false)))

pub returns-clause-rows : goal.returns-clause-rows
returns-clause-rows c =
    written_rows c.args.self.now (blocks_from 11 c.loop-s.into) (subst IsNameTable c.self.view_is c.self.invariant)
    (λ s less. c.loop-s.invariant.written s (omega (arith, less, c.loop-s-test.false)))

pub returns-clause-zeros : goal.returns-clause-zeros
returns-clause-zeros c =
    written_zeros c.args.self.now (blocks_from 11 c.loop-s.into) (subst IsNameTable c.self.view_is c.self.invariant)
    (λ s less. c.loop-s.invariant.written s (omega (arith, less, c.loop-s-test.false)))

pub returns-clause-whole : goal.returns-clause-whole
returns-clause-whole c = whole_blocks (blocks_from 11 c.loop-s.into) (λ s less. c.loop-s.invariant.whole s (omega (arith, less, c.loop-s-test.false)))
