use Rattle.std.proofs.Common.{◌∙◌, sym, arith}
use Rattle.ice_base.specs.Disk.{block}
use Rattle.ice_tables.specs.Journals.{in_tables}
use Rattle.ice_system.proofs.Crashes.{in-tables-here}
use Rattle.ice_system.proofs.Finishing.{still_block}
use Rattle.ice_system.proofs.attach.read_tables.Goals as goal

pub returns-in-Ok-clause-accepted : goal.returns-in-Ok-clause-accepted
returns-in-Ok-clause-accepted g c = λ told.
    let state = g.D.Disk.state in let old = (state c.args.disk.now).now in
    let first = c.in_ok-read_four.ensures in let next = c.in_ok-read_four-2.ensures in
    c.in-Ok.ensures.accepted (in_tables (block old))
    (λ k low high. in-tables-here (block old) k low (omega (arith, high)) ∙ first.bytes told k low high)
    (λ k low high. in-tables-here (block old) k (omega (arith, low)) high
    ∙ sym (still_block state g.D.Disk.left c.args.disk.now c.read_four.new.disk first.within k) ∙ next.bytes (first.within.tells ∙ told) k low high)

pub returns-in-Err-clause-refused : goal.returns-in-Err-clause-refused
returns-in-Err-clause-refused g c = λ told.
    let state = g.D.Disk.state in let old = (state c.args.disk.now).now in
    let first = c.in_ok-read_four.ensures in let next = c.in_ok-read_four-2.ensures in
    c.in-Err.ensures.refused (in_tables (block old))
    (λ k low high. in-tables-here (block old) k low (omega (arith, high)) ∙ first.bytes told k low high)
    (λ k low high. in-tables-here (block old) k (omega (arith, low)) high
    ∙ sym (still_block state g.D.Disk.left c.args.disk.now c.read_four.new.disk first.within k) ∙ next.bytes (first.within.tells ∙ told) k low high)
