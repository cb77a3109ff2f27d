use Rattle.std.proofs.Common.{◌≡◌, length}
use Rattle.ice_map.specs.Maps.{blocks_of}
use Rattle.ice_check.specs.Marks.{GotMarks}
use Rattle.ice_check.proofs.marks.mark_each.Given as goal

abbrev pub invariant-loop-n : goal.invariant-loop-n
invariant-loop-n l = record {
  wide : length l.blocks ≡ length l.initial.blocks;
  marks : GotMarks l.initial.blocks l.blocks (blocks_of (λ _. l.pointers) l.inode l.n);
}
