use Rattle.std.proofs.Common.{arith}
use Rattle.ice_map.specs.Maps.{blocks_of, indirect_of}
use Rattle.ice_map.proofs.ListLaws.{has-left, has-right}
use Rattle.ice_check.proofs.MarkLaws.{uses_marked, first_twice, then_twice}
use Rattle.ice_check.proofs.marks.mark_blocks.Goals as goal

pub mark_indirect-requires : goal.mark_indirect-requires
mark_indirect-requires c = λ b h. c.requires.below b (has-left (indirect_of c.args.inode.now c.args.count) (blocks_of (λ _. c.args.pointers.now) c.args.inode.now c.args.count) b h)

pub returns-then-not-mark_indirect-clause-twice : goal.returns-then-not-mark_indirect-clause-twice
returns-then-not-mark_indirect-clause-twice c = λ _. first_twice (λ _. c.args.pointers.now) c.args.inode.now c.args.count _ (c.mark_indirect.ensures.twice c.if-not-mark_indirect.true)

pub mark_each-requires-clause-below : goal.mark_each-requires-clause-below
mark_each-requires-clause-below c = λ b h.
    let low = c.requires.below b (has-right (indirect_of c.args.inode.now c.args.count) (blocks_of (λ _. c.args.pointers.now) c.args.inode.now c.args.count) b h) in
    omega (arith, low, c.mark_indirect.ensures.wide)

pub returns-clause-all : goal.returns-clause-all
returns-clause-all c = λ t. uses_marked (λ _. c.args.pointers.now) c.args.inode.now c.args.count _ _ _ (c.mark_indirect.ensures.all c.if-not-mark_indirect.false) (c.mark_each.ensures.all t)

pub returns-clause-twice : goal.returns-clause-twice
returns-clause-twice c = λ t. then_twice (λ _. c.args.pointers.now) c.args.inode.now c.args.count _ _ (c.mark_indirect.ensures.all c.if-not-mark_indirect.false) (c.mark_each.ensures.twice t)
