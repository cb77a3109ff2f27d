use Rattle.std.proofs.Common.{◌*◌}
use Rattle.ice_dir.specs.Rows.{row_at, NoneNamed}
use Rattle.ice_dir.proofs.looks.seek_in.Given as goal

abbrev pub invariant-loop-k : goal.invariant-loop-k
invariant-loop-k g l = NoneNamed (λ j. row_at g.F.Form.ENTRY l.block (g.F.Form.ENTRY * j)) l.name 0 l.k
