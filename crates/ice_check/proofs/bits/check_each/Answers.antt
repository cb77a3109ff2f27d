use Rattle.std.proofs.Common.{◌≡◌, true, sym, subst, arith}
use Rattle.ice_base.specs.Used.{is_data}
use Rattle.ice_map.specs.Maps.{nth_block}
use Rattle.ice_map.proofs.ListLaws.{has-range}
use Rattle.ice_check.proofs.BitLaws.{bitmap_then, unused_nth}
use Rattle.ice_check.proofs.ShownLaws.{still_shows}
use Rattle.ice_check.proofs.bits.check_each.Goals as goal

pub check_bit-requires-clause-data : goal.check_bit-requires-clause-data
check_bit-requires-clause-data g c =
    subst (λ x. is_data c.args.lot.now x ≡ true) (sym c.pointer-at.ensures) (c.requires.data _ (has-range (nth_block (λ _. c.args.pointers.now) c.args.inode.now) 0 c.args.count c.loop-n.n (omega arith) (omega (arith, c.loop-n-test.true))))

pub returns-in-Err-clause-clear : goal.returns-in-Err-clause-clear
returns-in-Err-clause-clear g c = λ m s.
    bitmap_then c.in-Err.fault _ _ (λ u. unused_nth m (λ _. c.args.pointers.now) c.args.inode.now c.args.count c.loop-n.n c.pointer-at.result c.loop-n-test.true c.pointer-at.ensures u)
    (c.in-Err.ensures.clear m (still_shows g.D.Disk g.V.View _ _ _ _ _ m c.loop-n.invariant s))
