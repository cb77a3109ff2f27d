use Rattle.ice_base.proofs.LotLaws.{is_address_at}
use Rattle.ice_base.proofs.UsedLaws.{data_below}
use Rattle.ice_check.proofs.ShownLaws.{ok-then}
use Rattle.ice_check.proofs.inodes.read_pointers.Goals as goal

pub read_block-requires-clause-address : goal.read_block-requires-clause-address
read_block-requires-clause-address g c = is_address_at _ _ (data_below _ _ (c.requires.single c.if-count-le12.false))

pub returns-clause-content : goal.returns-clause-content
returns-clause-content g c = λ m s. ok-then c.read_block.result _ _ (λ e h. e) (c.read_block.ensures.content m s)
