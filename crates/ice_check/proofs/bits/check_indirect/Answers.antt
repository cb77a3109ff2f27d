use Rattle.std.proofs.Common.{◌≡◌, true, [], sym, subst}
use Rattle.ice_base.specs.Spare.{has}
use Rattle.ice_map.proofs.ListLaws.{has-head}
use Rattle.ice_check.proofs.BitLaws.{bitmap_then, unused_single}
use Rattle.ice_check.proofs.MarkLaws.{indirect_one}
use Rattle.ice_check.proofs.ShownLaws.{err-then}
use Rattle.ice_check.proofs.bits.check_indirect.Goals as goal

pub check_bit-requires-clause-data : goal.check_bit-requires-clause-data
check_bit-requires-clause-data g c = c.requires.data c.args.inode.now.single (subst (λ xs. has xs c.args.inode.now.single ≡ true) (sym (indirect_one c.args.inode.now c.args.count c.if-count-le12.false)) (has-head c.args.inode.now.single []))

pub returns-clause-clear : goal.returns-clause-clear
returns-clause-clear g c = λ m s.
    err-then c.check_bit.result _ _ (λ e h. bitmap_then e _ _ (λ u. unused_single m c.args.inode.now c.args.count (indirect_one c.args.inode.now c.args.count c.if-count-le12.false) u) h) (c.check_bit.ensures.clear m s)
