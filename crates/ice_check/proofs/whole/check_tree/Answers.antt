use Rattle.std.proofs.Common.{[], arith}
use Rattle.ice_base.proofs.LotLaws.{sited-some, sited-few}
use Rattle.tree_spec.specs.Costs.{form_one}
use Rattle.ice_check.proofs.AgreeLaws.{agreed, holds_some, bits_broke, counts_broke}
use Rattle.ice_check.proofs.Ends.{seen_none, at_root}
use Rattle.ice_check.proofs.ShownLaws.{handed, still_shows}
use Rattle.ice_check.proofs.whole.check_tree.Goals as goal

pub check_inode-requires-clause-number : goal.check_inode-requires-clause-number
check_inode-requires-clause-number g c = let some = sited-some _ _ c.requires.sited in omega arith

pub returns-in_err-check_inode-clause-broken : goal.returns-in_err-check_inode-clause-broken
returns-in_err-check_inode-clause-broken g c = λ m s eb en.
    handed c.from_residual.result c.in_err-check_inode.field-0.0 _ c.from_residual.ensures
    (c.in_err-check_inode.ensures.broken m [] s (at_root form_one c.args.lot.now m) (seen_none form_one c.args.lot.now m _ _ c.requires.blank.0 c.requires.blank.1))

pub returns-in_err-compare_bits-clause-broken : goal.returns-in_err-compare_bits-clause-broken
returns-in_err-compare_bits-clause-broken g c = λ m s eb en.
    handed c.from_residual-in_err-compare_bits.result c.in_err-compare_bits.field-0.0 _ c.from_residual-in_err-compare_bits.ensures
    (bits_broke c.args.lot.now m _ _ _ _ c.requires.blank (c.in_ok-check_inode.ensures.checked m s) c.in_err-compare_bits.field-0.0 (c.in_err-compare_bits.ensures.disagrees m (still_shows g.D.Disk g.V.View _ _ _ _ _ m c.check_inode.ensures.looked s)))

pub returns-then-not-counts_agree-clause-broken : goal.returns-then-not-counts_agree-clause-broken
returns-then-not-counts_agree-clause-broken g c = λ m s eb en.
    counts_broke c.args.lot.now m _ _ _ _ c.requires.blank (c.in_ok-check_inode.ensures.checked m s) _ _ eb en (c.counts_agree.ensures.no c.if-not-counts_agree.true)

pub returns-clause-holds : goal.returns-clause-holds
returns-clause-holds g c = λ m s eb en.
    holds_some c.args.lot.now m _ _ _ _ c.requires.blank (c.in_ok-check_inode.ensures.checked m s)
    (agreed c.args.lot.now m _ _ _ _ eb en (c.in_ok-compare_bits.ensures.agrees m (still_shows g.D.Disk g.V.View _ _ _ _ _ m c.check_inode.ensures.looked s)) (c.counts_agree.ensures.blocks c.if-not-counts_agree.false) (c.counts_agree.ensures.inodes c.if-not-counts_agree.false))

pub counts_agree-requires-clause-few : goal.counts_agree-requires-clause-few
counts_agree-requires-clause-few g c = sited-few _ _ c.requires.sited
