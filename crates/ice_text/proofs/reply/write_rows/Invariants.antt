use Rattle.std.proofs.Common.{◌≡◌, ◌*◌, ◌+◌, ◌++◌, ◌≤◌, ◌<◌, ℕ, get_or, length, map, take}
use Rattle.tree_spec.specs.Names.{IsNameList}
use Rattle.tree_spec.specs.declared.reply.CubeRow.{CubeRow}
use Rattle.ice_text.specs.Text.{ended, most_row_line, row_line}
use Rattle.ice_text.proofs.reply.write_rows.Given as goal

abbrev pub invariant-loop-row : goal.invariant-loop-row
invariant-loop-row l = record {
  text : l.out ≡ l.initial.out ++ ended (map row_line (take l.row-index l.rows));
  short : length l.out ≤ length l.initial.out + most_row_line * l.row-index;
  names : (k : ℕ) (d : CubeRow) → k < l.row-index → IsNameList (get_or l.rows k d).path;
}
