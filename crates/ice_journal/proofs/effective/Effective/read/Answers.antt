use Rattle.std.proofs.Common.{List, ℕ, Some, ap, sym, ◌∙◌}
use Rattle.ice_journal.specs.declared.area.Area.{Area}
use Rattle.ice_layout.proofs.HeaderLaws.{said_targets, no_targets}
use Rattle.ice_journal.proofs.JournalLaws.{read_closed, read_open, effective_shown, effective_none, shown_same}
use Rattle.ice_journal.proofs.effective.Effective.read.Goals as goal

-- what is read where the gate is closed, and where it is open
pub returns-then-not-gate_is_on-clause-reads : goal.returns-then-not-gate_is_on-clause-reads
returns-then-not-gate_is_on-clause-reads g c = λ told.
    let i = (g.D.Disk.state c.args.disk.now).now in
    read_closed c.args.lot.now i c.look.new.into c.area_of-area.result.gate (ap (λ (a : Area). a.gate) c.area_of-area.ensures.area) (c.in-Ok.ensures.bytes told) (sym c.gate_is_on.ensures ∙ c.if-not-gate_is_on.true)
    ∙ ap (λ (ts : List ℕ). Some ts) (sym c.closed.ensures)

pub returns-then-not-gate_is_on-clause-effective : goal.returns-then-not-gate_is_on-clause-effective
returns-then-not-gate_is_on-clause-effective g c = λ told.
    let i = (g.D.Disk.state c.args.disk.now).now in
    effective_shown c.args.lot.now i c.closed.result (returns-then-not-gate_is_on-clause-reads g c told)
    ∙ ap (λ (m : ℕ → List ℕ). Some m) (sym (shown_same c.closed.result c.args.lot.now i (g.D.Disk.state c.look.new.disk).now (λ k. c.in-Ok.ensures.still.within.same k (λ n. n))))

pub returns-in-None-clause-refused : goal.returns-in-None-clause-refused
returns-in-None-clause-refused g c = λ told is.
    let i = (g.D.Disk.state c.args.disk.now).now in
    let still = c.in-Ok.ensures.still in
    read_open c.args.lot.now i (g.D.Disk.state c.look.new.disk).now c.look.new.into c.look-2.new.into c.area_of-area.result.gate c.area_of-area.result.header (λ k. still.within.same k (λ n. n))
    (ap (λ (a : Area). a.gate) c.area_of-area.ensures.area) (c.in-Ok.ensures.bytes told) (sym c.gate_is_on.ensures ∙ c.if-not-gate_is_on.false)
    (ap (λ (a : Area). a.header) c.area_of-area.ensures.area) (c.in-Ok-look.ensures.bytes (still.within.tells ∙ told))
    ∙ no_targets c.args.lot.now c.look-2.new.into c.in-None.ensures.header

pub returns-in-None-clause-undefined : goal.returns-in-None-clause-undefined
returns-in-None-clause-undefined g c = λ told is. effective_none c.args.lot.now (g.D.Disk.state c.args.disk.now).now (returns-in-None-clause-refused g c told is)

pub returns-in-Some-clause-reads : goal.returns-in-Some-clause-reads
returns-in-Some-clause-reads g c = λ told.
    let i = (g.D.Disk.state c.args.disk.now).now in
    let still = c.in-Ok.ensures.still in
    read_open c.args.lot.now i (g.D.Disk.state c.look.new.disk).now c.look.new.into c.look-2.new.into c.area_of-area.result.gate c.area_of-area.result.header (λ k. still.within.same k (λ n. n))
    (ap (λ (a : Area). a.gate) c.area_of-area.ensures.area) (c.in-Ok.ensures.bytes told) (sym c.gate_is_on.ensures ∙ c.if-not-gate_is_on.false)
    (ap (λ (a : Area). a.header) c.area_of-area.ensures.area) (c.in-Ok-look.ensures.bytes (still.within.tells ∙ told))
    ∙ said_targets c.args.lot.now c.look-2.new.into c.in-Some.header c.in-Some.ensures.header
    ∙ ap (λ (ts : List ℕ). Some ts) (sym c.open.ensures)

pub returns-in-Some-clause-effective : goal.returns-in-Some-clause-effective
returns-in-Some-clause-effective g c = λ told.
    let i = (g.D.Disk.state c.args.disk.now).now in
    let j = (g.D.Disk.state c.look.new.disk).now in
    let first = c.in-Ok.ensures.still in
    let second = c.in-Ok-look.ensures.still in
    effective_shown c.args.lot.now i c.open.result (returns-in-Some-clause-reads g c told)
    ∙ ap (λ (m : ℕ → List ℕ). Some m) (sym (shown_same c.open.result c.args.lot.now i (g.D.Disk.state c.look-2.new.disk).now (λ k. second.within.same k (λ n. n) ∙ first.within.same k (λ n. n))))
