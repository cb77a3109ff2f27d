use Rattle.std.proofs.Common.{sym, refl}
use Rattle.ice_dir.proofs.RowLaws.{name-some, name-none}
use Rattle.ice_dir.proofs.rows.read_name.Goals as goal

pub returns-then-end-row-clause-name : goal.returns-then-end-row-clause-name
returns-then-end-row-clause-name g c = rw (sym c.ENTRY.ensures) (name-some _ _ refl c.if-end-row.true)

pub returns-else-end-row-clause-name : goal.returns-else-end-row-clause-name
returns-else-end-row-clause-name g c = rw (sym c.ENTRY.ensures) (name-none _ _ refl c.if-end-row.false)
