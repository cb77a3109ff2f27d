use Rattle.ice_tables.specs.Journals.{lot_places}
use Rattle.ice_journal.specs.Blocks.{AreHomes}
use Rattle.keep_tests.proofs.wide.fill.Given as goal

abbrev pub invariant-loop-at : goal.invariant-loop-at
invariant-loop-at g l = AreHomes (lot_places l.lot) l.keep.entries
