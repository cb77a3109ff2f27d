use Rattle.std.proofs.Common.{◌≡◌, ◌∙◌, refl, inl, inr, arith}
use Rattle.ice_base.specs.FrameLaws.{within_then, within_more}
use Rattle.ice_base.proofs.Frame.{moves_fail}
use Rattle.ice_txn.specs.Sets.{over}
use Rattle.ice_journal.specs.Blocks.{HomeBlocks, IsPut, JournalExtent}
use Rattle.ice_journal.specs.Phases.{BeforeOrAfter, Full, Idle, Open}
use Rattle.ice_journal.proofs.StepLaws.{gate_opened, homes_written, gate_closed, opening, then_homes, then_closed}
use Rattle.ice_journal.proofs.commits.finish.Goals as goal

pub settle_gate-requires : goal.settle_gate-requires
settle_gate-requires g c = omega (arith, c.requires.below (g.J.Journal.places c.args.journal.now).gate (inl refl), c.requires.area.gate)

pub settle_homes-requires-clause-below : goal.settle_homes-requires-clause-below
settle_homes-requires-clause-below g c = λ k is. omega (arith, c.requires.below k (inr (inr is)), c.settle_gate.ensures.within.size)

pub settle_gate-requires-2 : goal.settle_gate-requires-2
settle_gate-requires-2 g c =
    omega (arith, c.requires.below (g.J.Journal.places c.args.journal.now).gate (inl refl), c.requires.area.gate, c.settle_gate.ensures.within.size, c.settle_homes.ensures.within.size)

-- only the gate and the homes change
pub returns-in_err-settle_homes-clause-within : goal.returns-in_err-settle_homes-clause-within
returns-in_err-settle_homes-clause-within g c =
    let state = g.D.Disk.state in let left = g.D.Disk.left in let at = g.J.Journal.places c.args.journal.now in let S = HomeBlocks at c.args.set.now.entries in
    let gate = c.args.area.now.gate in
    within_then state left S c.args.disk.now c.settle_gate.new.disk c.settle_homes.new.disk
    (within_more state left (λ k. k ≡ gate) S c.args.disk.now c.settle_gate.new.disk (λ k e. inl (e ∙ c.requires.area.gate)) c.settle_gate.ensures.within)
    (within_more state left (IsPut at c.args.set.now.entries) S c.settle_gate.new.disk c.settle_homes.new.disk (λ k put. inr put) c.settle_homes.ensures.within)

pub returns-clause-within : goal.returns-clause-within
returns-clause-within g c =
    let state = g.D.Disk.state in let left = g.D.Disk.left in let at = g.J.Journal.places c.args.journal.now in let S = HomeBlocks at c.args.set.now.entries in
    let gate = c.args.area.now.gate in
    within_then state left S c.args.disk.now c.settle_homes.new.disk c.settle_gate-2.new.disk
    (within_then state left S c.args.disk.now c.settle_gate.new.disk c.settle_homes.new.disk
    (within_more state left (λ k. k ≡ gate) S c.args.disk.now c.settle_gate.new.disk (λ k e. inl (e ∙ c.requires.area.gate)) c.settle_gate.ensures.within)
    (within_more state left (IsPut at c.args.set.now.entries) S c.settle_gate.new.disk c.settle_homes.new.disk (λ k put. inr put) c.settle_homes.ensures.within))
    (within_more state left (λ k. k ≡ gate) S c.settle_homes.new.disk c.settle_gate-2.new.disk (λ k e. inl (e ∙ c.requires.area.gate)) c.settle_gate-2.ensures.within)

pub returns-in_err-settle_gate-clause-moves : goal.returns-in_err-settle_gate-clause-moves
returns-in_err-settle_gate-clause-moves g c = λ map.
    let state = g.D.Disk.state in let left = g.D.Disk.left in let at = g.J.Journal.places c.args.journal.now in let most = g.J.Journal.most c.args.journal.now in
    let reads = g.J.Journal.reads c.args.journal.now in let entries = c.args.set.now.entries in
    let first = opening state left reads at most entries map c.settle_gate.result c.args.disk.now c.settle_gate.new.disk
    (gate_opened state left c.settle_gate.result c.args.disk.now c.settle_gate.new.disk reads at most entries c.requires.few c.requires.area.apart map c.settle_gate.ensures.settled
    c.args.area.now.gate c.requires.area.gate c.settle_gate.ensures.within c.settle_gate.ensures.reads) in
    moves_fail state left (JournalExtent at most) (Full reads at entries map) (BeforeOrAfter reads at entries map) (Open reads at entries map) (Idle at (over entries map))
    c.args.disk.now c.settle_gate.new.disk c.settle_gate.result c.from_residual.result c.from_residual.ensures.0 first

pub returns-in_err-settle_homes-clause-moves : goal.returns-in_err-settle_homes-clause-moves
returns-in_err-settle_homes-clause-moves g c = λ map.
    let state = g.D.Disk.state in let left = g.D.Disk.left in let at = g.J.Journal.places c.args.journal.now in let most = g.J.Journal.most c.args.journal.now in
    let reads = g.J.Journal.reads c.args.journal.now in let entries = c.args.set.now.entries in
    let first = opening state left reads at most entries map c.settle_gate.result c.args.disk.now c.settle_gate.new.disk
    (gate_opened state left c.settle_gate.result c.args.disk.now c.settle_gate.new.disk reads at most entries c.requires.few c.requires.area.apart map c.settle_gate.ensures.settled
    c.args.area.now.gate c.requires.area.gate c.settle_gate.ensures.within c.settle_gate.ensures.reads) in
    let second = then_homes state left reads at most entries map (λ k. k ≡ c.args.area.now.gate) c.args.disk.now c.settle_gate.new.disk c.settle_homes.new.disk c.settle_gate.result c.in_ok-settle_gate.field-0 c.settle_homes.result
    c.settle_gate.ensures.within c.in_ok-settle_gate.was first
    (homes_written state left c.settle_homes.result c.settle_gate.new.disk c.settle_homes.new.disk reads at most entries c.requires.few c.requires.area.apart map c.settle_homes.ensures.settled
    c.requires.homes c.settle_homes.ensures.differ c.settle_homes.ensures.within c.settle_homes.ensures.homes) in
    moves_fail state left (JournalExtent at most) (Full reads at entries map) (BeforeOrAfter reads at entries map) (Full reads at entries (over entries map)) (Idle at (over entries map))
    c.args.disk.now c.settle_homes.new.disk c.settle_homes.result c.from_residual-in_err-settle_homes.result c.from_residual-in_err-settle_homes.ensures.0 second

pub returns-clause-moves : goal.returns-clause-moves
returns-clause-moves g c = λ map.
    let state = g.D.Disk.state in let left = g.D.Disk.left in let at = g.J.Journal.places c.args.journal.now in let most = g.J.Journal.most c.args.journal.now in
    let reads = g.J.Journal.reads c.args.journal.now in let entries = c.args.set.now.entries in
    let first = opening state left reads at most entries map c.settle_gate.result c.args.disk.now c.settle_gate.new.disk
    (gate_opened state left c.settle_gate.result c.args.disk.now c.settle_gate.new.disk reads at most entries c.requires.few c.requires.area.apart map c.settle_gate.ensures.settled
    c.args.area.now.gate c.requires.area.gate c.settle_gate.ensures.within c.settle_gate.ensures.reads) in
    let second = then_homes state left reads at most entries map (λ k. k ≡ c.args.area.now.gate) c.args.disk.now c.settle_gate.new.disk c.settle_homes.new.disk c.settle_gate.result c.in_ok-settle_gate.field-0 c.settle_homes.result
    c.settle_gate.ensures.within c.in_ok-settle_gate.was first
    (homes_written state left c.settle_homes.result c.settle_gate.new.disk c.settle_homes.new.disk reads at most entries c.requires.few c.requires.area.apart map c.settle_homes.ensures.settled
    c.requires.homes c.settle_homes.ensures.differ c.settle_homes.ensures.within c.settle_homes.ensures.homes) in
    let S = HomeBlocks at entries in
    let both = within_then state left S c.args.disk.now c.settle_gate.new.disk c.settle_homes.new.disk
    (within_more state left (λ k. k ≡ c.args.area.now.gate) S c.args.disk.now c.settle_gate.new.disk (λ k e. inl (e ∙ c.requires.area.gate)) c.settle_gate.ensures.within)
    (within_more state left (IsPut at entries) S c.settle_gate.new.disk c.settle_homes.new.disk (λ k put. inr put) c.settle_homes.ensures.within) in
    then_closed state left reads at most entries map S c.args.disk.now c.settle_homes.new.disk c.settle_gate-2.new.disk c.settle_homes.result c.in_ok-settle_homes.field-0 c.settle_gate-2.result
    both c.in_ok-settle_homes.was second
    (gate_closed state left c.settle_gate-2.result c.settle_homes.new.disk c.settle_gate-2.new.disk reads at most entries c.requires.few c.requires.area.apart (over entries map) c.settle_gate-2.ensures.settled
    c.args.area.now.gate c.requires.area.gate c.settle_gate-2.ensures.within c.settle_gate-2.ensures.reads)
