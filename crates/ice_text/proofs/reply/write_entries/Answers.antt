use Rattle.std.proofs.Common.{◌≡◌, true, [], arith}
use Rattle.tree_spec.specs.Names.{is_name}
use Rattle.tree_spec.specs.declared.reply.Entry.{Entry}
use Rattle.ice_text.proofs.Items.{all_below_more}
use Rattle.ice_text.specs.Text.{entry_line}
use Rattle.ice_text.proofs.Endings.{ended-step}
use Rattle.ice_text.proofs.reply.write_entries.Goals as goal

pub loop-entry-preserved : goal.loop-entry-preserved
loop-entry-preserved c = record {
  text = ended-step entry_line c.args.entries.now c.loop-entry.entry-index c.entry-item.result [] _ _ c.loop-entry-test.true c.entry-item.is c.loop-entry.invariant.text c.write_entry.ensures.text;
  short = omega arith;
  names = all_below_more (λ (e : Entry). is_name e.name ≡ true) c.args.entries.now c.loop-entry.entry-index c.entry-item.result c.loop-entry-test.true c.entry-item.is c.write_entry.ensures.name c.loop-entry.invariant.names;
}
