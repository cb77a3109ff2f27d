use Rattle.ice_journal.proofs.AreaLaws.{lot_area_of}
use Rattle.ice_journal.proofs.journal.LotJournal.area.Goals as goal

pub returns : goal.returns
returns c = lot_area_of c.args.self.now c.area_of.result c.len.ensures.lot c.area_of.ensures.area
