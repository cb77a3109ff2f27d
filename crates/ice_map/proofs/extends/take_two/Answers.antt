use Rattle.ice_map.proofs.GrowLaws.{took-two}
use Rattle.ice_map.proofs.FailLaws.{on-err, one-failed, two-failed}
use Rattle.ice_map.proofs.extends.take_two.Goals as goal

pub returns-clause-took : goal.returns-clause-took
returns-clause-took g c = λ s. let t = c.take_counted.ensures.spent.shows s in took-two _ _ _ _ _ _ (c.in_ok-first.ensures.least s) (c.in_ok-first.ensures.marked s) (c.in_ok-second.ensures.least t) (c.in_ok-second.ensures.marked t)

pub returns-in_err-first-clause-broken : goal.returns-in_err-first-clause-broken
returns-in_err-first-clause-broken g c =
    let p = c.in_err-first.ensures.broken in
    on-err _ _ (one-failed g.K.View c.args.lot.now p.0 _ _ _ _ p.2)

pub returns-in_err-second-clause-broken : goal.returns-in_err-second-clause-broken
returns-in_err-second-clause-broken g c =
    let p = c.in_err-second.ensures.broken in
    on-err _ _ (two-failed g.K.View c.args.lot.now c.in_ok-first.first p.0 _ _ _ _ _ _ c.in_ok-first.ensures.puts p.2)
