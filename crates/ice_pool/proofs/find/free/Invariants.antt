use Rattle.std.proofs.Common.{◌≡◌, ◌≤◌, ◌*◌, not, length}
use Rattle.ice_base.specs.Views.{Looked}
use Rattle.ice_base.specs.Bits.{count_below}
use Rattle.ice_base.specs.Used.{used, bits_of}
use Rattle.ice_pool.proofs.find.free.Given as goal

abbrev pub invariant-loop-ordinal : goal.invariant-loop-ordinal
invariant-loop-ordinal g l = record {
  looked : Looked g.D.Disk g.V.View l.lot l.initial.view l.initial.disk l.view l.disk;
  small : l.free ≤ 256 * l.ordinal;
  block : length l.block ≡ 1024;
  counted : g.V.View.shows l.lot l.initial.view l.initial.disk → l.free ≡ count_below (λ i. not (used l.inodes (g.V.View.map l.initial.view l.initial.disk l.lot) i)) (bits_of l.inodes * l.ordinal);
}
