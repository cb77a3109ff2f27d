use Rattle.std.proofs.Common.{rules, ◌+◌, refl, arith}
use Rattle.ice_dir.proofs.RowLaws.{row-written, text-made}
use Rattle.ice_dir.proofs.rows.write_row.Goals as goal

pub returns-clause-text : goal.returns-clause-text
returns-clause-text g c =
    text-made g.F.Form.ENTRY c.clear.new.block c.args.name.now c.args.at c.args.inode (search rules)
    (row-written g.F.Form.ENTRY c.args.block.now c.write_u32.new.block _ c.put_bytes.new.block c.clear.new.block c.args.name.now c.args.at c.args.inode (search rules) (search rules) (search rules) c.write_u32.ensures refl
    c.put_bytes.ensures.bytes c.put_bytes.ensures.others c.clear.ensures.others)
    (λ k h l. c.clear.ensures.zeros (c.args.at + k) (omega arith) (omega arith))
