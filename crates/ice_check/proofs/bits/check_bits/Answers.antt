use Rattle.ice_map.specs.Maps.{blocks_of, indirect_of}
use Rattle.ice_map.proofs.ListLaws.{has-left, has-right}
use Rattle.ice_check.proofs.BitLaws.{bitmap_then, unused_left, unused_right}
use Rattle.ice_check.proofs.ShownLaws.{still_shows, err-then}
use Rattle.ice_check.proofs.bits.check_bits.Goals as goal

pub check_indirect-requires-clause-data : goal.check_indirect-requires-clause-data
check_indirect-requires-clause-data g c = λ b h. c.requires.data b (has-left (indirect_of c.args.inode.now c.args.count) (blocks_of (λ _. c.args.pointers.now) c.args.inode.now c.args.count) b h)

pub check_each-requires-clause-data : goal.check_each-requires-clause-data
check_each-requires-clause-data g c = λ b h. c.requires.data b (has-right (indirect_of c.args.inode.now c.args.count) (blocks_of (λ _. c.args.pointers.now) c.args.inode.now c.args.count) b h)

pub returns-in-Ok-clause-clear : goal.returns-in-Ok-clause-clear
returns-in-Ok-clause-clear g c = λ m s.
    err-then c.check_each.result _ _ (λ e h. bitmap_then e _ _ (λ u. unused_right m (λ _. c.args.pointers.now) c.args.inode.now c.args.count u) h)
    (c.check_each.ensures.clear m (still_shows g.D.Disk g.V.View _ _ _ _ _ m c.check_indirect.ensures.looked s))

pub returns-in-Err-clause-clear : goal.returns-in-Err-clause-clear
returns-in-Err-clause-clear g c = λ m s. bitmap_then c.in-Err.fault _ _ (λ u. unused_left m (λ _. c.args.pointers.now) c.args.inode.now c.args.count u) (c.in-Err.ensures.clear m s)
