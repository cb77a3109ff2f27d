use Rattle.std.proofs.Common.{ap, arith}
use Rattle.tree_spec.specs.Costs.{form_of}
use Rattle.ice_look.proofs.PlaceLaws.{Reads-number}
use Rattle.ice_look.proofs.place.enter.Goals as goal

pub returns-then-number-len-clause-sound : goal.returns-then-number-len-clause-sound
returns-then-number-len-clause-sound g c = λ h t s r.
    let below = Reads-number (form_of g.F.Form.VERSION) (ap form_of g.F.Form.is_one.0) c.args.lot.now (g.V.View.map c.args.view.now c.args.disk.now c.args.lot.now) c.args.number h t r in
    absurd (omega arith)
