use Rattle.ice_txn.specs.Sets.{address, contents}
use Rattle.ice_journal.specs.Blocks.{IsPut}
use Rattle.ice_journal.proofs.Loops.{Wrote}
use Rattle.ice_journal.proofs.settle.write_homes.Given as goal

abbrev pub invariant-loop-i : goal.invariant-loop-i
invariant-loop-i g l = Wrote g.D.Disk.state g.D.Disk.left (IsPut (g.J.Journal.places l.journal) l.set.entries) (λ j. (g.J.Journal.places l.journal).place (address l.set.entries j)) (λ j. contents l.set.entries j) l.i l.initial.disk l.disk
