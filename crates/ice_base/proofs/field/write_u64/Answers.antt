use Rattle.std.proofs.Common.{arith}
use Rattle.std.proofs.lemmas.Grind.{common_steps}
use Rattle.ice_base.proofs.FieldLaws.{put_long}
use Rattle.ice_base.proofs.field.write_u64.Goals as goal

pub returns : goal.returns
returns c = put_long _ _ _ _ _ _ (omega arith) c.write_u64.ensures (grind (arith, common_steps)) (omega arith) (omega arith)
