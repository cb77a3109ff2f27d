use Rattle.std.proofs.Common.{◌∙◌, arith, refl}
use Rattle.ice_map.specs.Maps.{nth_block}
use Rattle.ice_map.proofs.ListLaws.{has-range}
use Rattle.ice_check.proofs.MarkLaws.{marked_none, each_more, each_twice}
use Rattle.ice_check.proofs.marks.mark_each.Goals as goal

pub loop-n-init : goal.loop-n-init
loop-n-init c = record { wide = refl; marks = marked_none _ }

pub mark-requires : goal.mark-requires
mark-requires c =
    let low = c.requires.below (nth_block (λ _. c.args.pointers.now) c.args.inode.now c.loop-n.n) (has-range (nth_block (λ _. c.args.pointers.now) c.args.inode.now) 0 c.args.count c.loop-n.n (omega arith) (omega arith)) in
    omega (arith, low, c.pointer-at.ensures, c.loop-n.auto.blocks)

pub returns-then-not-mark-clause-twice : goal.returns-then-not-mark-clause-twice
returns-then-not-mark-clause-twice c =
    λ _. each_twice (λ _. c.args.pointers.now) c.args.inode.now c.loop-n.n c.args.count c.pointer-at.result _ _ c.loop-n-test.true c.pointer-at.ensures c.loop-n.invariant.marks (c.mark.ensures.twice c.if-not-mark.true)

pub loop-n-preserved : goal.loop-n-preserved
loop-n-preserved c = record {
  wide = c.mark.ensures.wide ∙ c.loop-n.invariant.wide;
  marks = each_more (λ _. c.args.pointers.now) c.args.inode.now c.loop-n.n c.pointer-at.result _ _ _ c.pointer-at.ensures c.loop-n.invariant.marks (c.mark.ensures.new c.if-not-mark.false);
}
