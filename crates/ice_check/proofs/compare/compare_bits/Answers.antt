use Rattle.std.proofs.Common.{List, ℕ, subst, arith, below_more}
use Rattle.ice_check.specs.Marks.{GroupAgrees, GroupDisagrees}
use Rattle.ice_check.proofs.ShownLaws.{still_shows, looked_then}
use Rattle.ice_check.proofs.compare.compare_bits.Goals as goal

pub returns-then-not-group_agrees-clause-disagrees : goal.returns-then-not-group_agrees-clause-disagrees
returns-then-not-group_agrees-clause-disagrees g c = λ m s.
    let read = c.in_ok-read_block.ensures.content m (still_shows g.D.Disk g.V.View _ _ _ _ _ m c.loop-group.invariant.looked s) in
    record {
      group = c.loop-group.group;
      below = omega (arith, c.loop-group-test.true, c.len-group-end.ensures.len);
      bad = subst (λ (b : List ℕ). GroupDisagrees b c.loop-group.group c.args.inodes.now c.args.blocks.now) read (c.group_agrees.ensures.no c.if-not-group_agrees.true);
    }

pub loop-group-preserved : goal.loop-group-preserved
loop-group-preserved g c = record {
  looked = looked_then g.D.Disk g.V.View _ _ _ _ _ _ _ c.loop-group.invariant.looked c.read_block.ensures.looked;
  each = λ m s. below_more _ _ (c.loop-group.invariant.each m s)
      (subst (λ (b : List ℕ). GroupAgrees b c.loop-group.group c.args.inodes.now c.args.blocks.now) (c.in_ok-read_block.ensures.content m (still_shows g.D.Disk g.V.View _ _ _ _ _ m c.loop-group.invariant.looked s))
      (c.group_agrees.ensures.yes c.if-not-group_agrees.false));
}
