use Rattle.std.proofs.Common.{[], ◌-◌, arith}
use Rattle.tree_spec.specs.Costs.{form_of}
use Rattle.ice_look.proofs.Names.{name-of}
use Rattle.ice_look.proofs.EndLaws.{last-is, last-short}
use Rattle.ice_look.proofs.ends.last_of.Goals as goal

pub returns-clause-last : goal.returns-clause-last
returns-clause-last g c = last-is c.args.path.now c.args.depth (c.len.result - 1) c.name-name.result (omega arith) (omega arith) (c.name-name.ensures [])

pub returns-clause-short : goal.returns-clause-short
returns-clause-short g c = λ none.
    let short = last-short (form_of g.F.Form.VERSION) c.args.path.now c.args.depth (c.len.result - 1) c.name-name.result (omega arith) (omega arith) (c.name-name.ensures []) none in
    let limit = name-of g.F.Form.VERSION g.F.Form.NAME g.F.Form.is_one.0 g.F.Form.is_one.2 in
    omega (arith, short, limit)
