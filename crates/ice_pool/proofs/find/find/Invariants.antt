use Rattle.std.proofs.Common.{◌≡◌, ◌<◌, ◌*◌, ℕ, true}
use Rattle.ice_base.specs.Views.{Looked}
use Rattle.ice_base.specs.Used.{used, bits_of}
use Rattle.ice_pool.proofs.find.find.Given as goal

abbrev pub invariant-loop-ordinal : goal.invariant-loop-ordinal
invariant-loop-ordinal g l = record {
  looked : Looked g.D.Disk g.V.View l.lot l.initial.view l.initial.disk l.view l.disk;
  full : g.V.View.shows l.lot l.initial.view l.initial.disk → (b : ℕ) → b < bits_of l.inodes * l.ordinal → used l.inodes (g.V.View.map l.initial.view l.initial.disk l.lot) b ≡ true;
}
