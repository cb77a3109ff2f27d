use Rattle.std.proofs.Common.{◌≡◌, true, [], sym, subst}
use Rattle.ice_base.specs.Spare.{has}
use Rattle.ice_map.proofs.ListLaws.{has-head}
use Rattle.ice_check.specs.Marks.{GotMarks, MarkedTwice}
use Rattle.ice_check.proofs.MarkLaws.{indirect_one, one_twice}
use Rattle.ice_check.proofs.marks.mark_indirect.Goals as goal

pub mark-requires : goal.mark-requires
mark-requires c = c.requires c.args.inode.now.single (subst (λ xs. has xs c.args.inode.now.single ≡ true) (sym (indirect_one c.args.inode.now c.args.count c.if-count-le12.false)) (has-head c.args.inode.now.single []))

pub returns-clause-all : goal.returns-clause-all
returns-clause-all c = λ t. subst (GotMarks c.args.blocks.now c.mark.new.marks) (sym (indirect_one c.args.inode.now c.args.count c.if-count-le12.false)) (c.mark.ensures.new t)

pub returns-clause-twice : goal.returns-clause-twice
returns-clause-twice c = λ t. subst (MarkedTwice c.args.blocks.now) (sym (indirect_one c.args.inode.now c.args.count c.if-count-le12.false)) (one_twice c.args.blocks.now c.args.inode.now.single (c.mark.ensures.twice t))
