use Rattle.std.proofs.Common.{◌≡◌, ◌*◌, ◌≤◌, ◌<◌, ℕ, true, get_or, length, map, take}
use Rattle.tree_spec.specs.Names.{is_name}
use Rattle.tree_spec.specs.declared.reply.Entry.{Entry}
use Rattle.ice_text.specs.Text.{ended, entry_line, most_entry_line}
use Rattle.ice_text.proofs.reply.write_entries.Given as goal

abbrev pub invariant-loop-entry : goal.invariant-loop-entry
invariant-loop-entry l = record {
  text : l.out ≡ ended (map entry_line (take l.entry-index l.entries));
  short : length l.out ≤ most_entry_line * l.entry-index;
  names : (k : ℕ) (d : Entry) → k < l.entry-index → is_name (get_or l.entries k d).name ≡ true;
}
