use Rattle.std.proofs.Common.{arith}
use Rattle.tree_spec.specs.Names.{IsNameList}
use Rattle.tree_spec.specs.declared.reply.CubeRow.{CubeRow}
use Rattle.ice_text.proofs.Items.{all_below_more}
use Rattle.ice_text.specs.Text.{row_line}
use Rattle.ice_text.proofs.Endings.{ended-step}
use Rattle.ice_text.proofs.reply.write_rows.Goals as goal

pub loop-row-preserved : goal.loop-row-preserved
loop-row-preserved c = record {
  text = ended-step row_line c.args.rows.now c.loop-row.row-index c.row-item.result c.args.out.now _ _ c.loop-row-test.true c.row-item.is c.loop-row.invariant.text c.write_row.ensures.text;
  short = omega arith;
  names = all_below_more (λ (row : CubeRow). IsNameList row.path) c.args.rows.now c.loop-row.row-index c.row-item.result c.loop-row-test.true c.row-item.is c.write_row.ensures.names c.loop-row.invariant.names;
}
