use Rattle.std.proofs.Common.{drop, arith}
use Rattle.tree_spec.specs.Costs.{form_of}
use Rattle.tree_spec.specs.Replies.{refused_of}
use Rattle.ice_tree.proofs.FileLaws.{reach-walk, reach-beyond}
use Rattle.ice_tree.proofs.writes.reach_file.Goals as goal

pub returns-then-at-file-clause-found : goal.returns-then-at-file-clause-found
returns-then-at-file-clause-found g c = λ mode k t s r.
    let x = c.in-Ok.ensures.found mode k t s r in
    reach-beyond (form_of g.F.Form.VERSION) (drop c.args.depth c.args.path.now) c.args.at t c.in_default.ensures.refusal x.0 x.1 (omega (arith, x.3))

pub returns-in-Err-file_at-clause-found : goal.returns-in-Err-file_at-clause-found
returns-in-Err-file_at-clause-found g c = λ mode k t s r.
    reach-walk (form_of g.F.Form.VERSION) (drop c.args.depth c.args.path.now) c.args.at t c.in_default.ensures.refusal (refused_of c.in-Err-file_at.refusal) (c.in-Err-file_at.ensures.found mode k t s r)

pub returns-else-at-file-clause-found : goal.returns-else-at-file-clause-found
returns-else-at-file-clause-found g c = λ mode k t s r.
    let x = c.in-Ok.ensures.found mode k t s r in
    record { bytes = x.0; there = x.1; number = x.2; size = x.3; reaches = omega (arith, x.3) }
