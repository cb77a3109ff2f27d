use Rattle.std.proofs.Common.{◌∙◌, arith}
use Rattle.ice_dir.proofs.RowLaws.{row-number}
use Rattle.ice_dir.proofs.rows.read_number.Goals as goal

pub returns : goal.returns
returns g c = let one = g.F.Form.is_one in c.read_u32.ensures ∙ row-number g.F.Form.ENTRY c.args.block.now c.args.at (omega (arith, one.1))
