use Rattle.std.proofs.Common.{◌+◌, slice_index}
use Rattle.ice_base.specs.Disk.{block}
use Rattle.ice_journal.specs.Blocks.{IsTargetPlace}
use Rattle.ice_journal.proofs.Loops.{Wrote}
use Rattle.ice_journal.proofs.settle.write_targets.Given as goal

abbrev pub invariant-loop-i : goal.invariant-loop-i
invariant-loop-i g l = Wrote g.D.Disk.state g.D.Disk.left (IsTargetPlace (g.J.Journal.places l.journal) l.targets) (λ j. (g.J.Journal.places l.journal).place (slice_index l.targets j))
    (λ j. block (g.D.Disk.state l.initial.disk).now ((g.J.Journal.places l.journal).body + j)) l.i l.initial.disk l.disk
