use Rattle.std.proofs.Common.{Err, ap}
use Rattle.ice_look.specs.Broken.{IsBroken}
use Rattle.ice_look.proofs.FaultLaws.{fault-names}
use Rattle.ice_tree.proofs.FaultLaws.{sub-fault}
use Rattle.tree_spec.specs.Costs.{form_of}
use Rattle.ice_tree.proofs.quota.check_done.Goals as goal

pub returns-in-Err-clause-damaged : goal.returns-in-Err-clause-damaged
returns-in-Err-clause-damaged g c = λ n e s.
    let m = g.K.View.map c.args.keep.now c.args.disk.now c.args.lot.now in
    fault-names (IsBroken (form_of g.F.Form.VERSION) c.args.lot.now m) c.in-Err.fault _ c.refusal_of.ensures
    (sub-fault (form_of g.F.Form.VERSION) c.args.lot.now m c.in-Err.fault c.in-Err.ensures.faults (λ r is. c.in-Err.ensures.rule r (ap (λ x. Err x) is) s)) n e
