use Rattle.std.proofs.Common.{◌+◌, length}
use Rattle.ice_txn.specs.Sets.{contents}
use Rattle.ice_journal.specs.Blocks.{IsFrom}
use Rattle.ice_journal.proofs.Loops.{Wrote}
use Rattle.ice_journal.proofs.writes.write_bodies.Given as goal

abbrev pub invariant-loop-i : goal.invariant-loop-i
invariant-loop-i g l = Wrote g.D.Disk.state g.D.Disk.left (IsFrom l.area.body (length l.set.entries)) (λ j. l.area.body + j) (λ j. contents l.set.entries j) l.i l.initial.disk l.disk
