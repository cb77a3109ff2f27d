use Rattle.std.proofs.Common.{rules, arith}
use Rattle.std.proofs.lemmas.Grind.{common_steps}
use Rattle.ice_dir.proofs.RowLaws.{bytes-same}
use Rattle.ice_dir.proofs.rows.copy_row.Goals as goal

pub returns-clause-text : goal.returns-clause-text
returns-clause-text g c = bytes-same g.F.Form.ENTRY c.args.from.now c.put_bytes.new.block c.args.at c.args.to (search rules) (search rules) (λ k h. grind (arith, common_steps))
