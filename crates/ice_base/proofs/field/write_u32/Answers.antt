use Rattle.std.proofs.Common.{arith}
use Rattle.std.proofs.lemmas.Grind.{common_steps}
use Rattle.ice_base.proofs.FieldLaws.{put_word}
use Rattle.ice_base.proofs.field.write_u32.Goals as goal

pub returns : goal.returns
returns c = put_word _ _ _ _ _ _ (omega arith) c.write_u32.ensures (grind (arith, common_steps)) (omega arith) (omega arith)
