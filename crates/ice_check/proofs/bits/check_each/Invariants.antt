use Rattle.ice_base.specs.Views.{Looked}
use Rattle.ice_check.proofs.bits.check_each.Given as goal

abbrev pub invariant-loop-n : goal.invariant-loop-n
invariant-loop-n g l = Looked g.D.Disk g.V.View l.lot l.initial.view l.initial.disk l.view l.disk
