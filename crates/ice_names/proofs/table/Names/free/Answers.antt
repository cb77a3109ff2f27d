use Rattle.ice_names.proofs.TableLaws.{free_is_sound, free_rows}
use Rattle.ice_names.proofs.table.Names.free.Goals as goal

pub invariant_of-result : goal.invariant_of-result
invariant_of-result c = free_is_sound c.args.slots c.no_rows.result c.no_rows.ensures c.requires.some c.requires.few

pub returns-clause-sound : goal.returns-clause-sound
returns-clause-sound c = free_is_sound c.args.slots c.no_rows.result c.no_rows.ensures c.requires.some c.requires.few

pub returns-clause-rows : goal.returns-clause-rows
returns-clause-rows c = free_rows c.no_rows.result c.no_rows.ensures
