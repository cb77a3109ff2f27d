use Rattle.ice_tables.specs.Journals.{lot_places}
use Rattle.ice_journal.specs.Blocks.{AreHomes}
use Rattle.commit_calls.proofs.fill.Given as goal

-- what the keep holds has homes in the lot
abbrev pub invariant-loop-at : goal.invariant-loop-at
invariant-loop-at g l = record { homes : AreHomes (lot_places l.lot) l.keep.entries }
