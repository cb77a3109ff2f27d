use Rattle.std.proofs.Common.{◌≡◌, ◌∙◌, ◌⊎◌, ℕ, List, true, OnErr, sym, subst}
use Rattle.ice_base.specs.Disk.{Image}
use Rattle.ice_layout.specs.Headers.{slot_targets}
use Rattle.ice_tables.specs.Journals.{effective_of, lot_places}
use Rattle.ice_journal.specs.Blocks.{JournalExtent}
use Rattle.ice_journal.specs.Phases.{IsPending}
use Rattle.ice_journal.proofs.AreaLaws.{lot_below}
use Rattle.ice_journal.proofs.RestLaws.{some_pending}
use Rattle.ice_journal.proofs.StandLaws.{effective_stands}
use Rattle.ice_journal.proofs.StepLaws.{every_now}
use Rattle.ice_recover.proofs.ReplayLaws.{was_pending, was_settled, was_standing, blocks_stay, blocks_rest, reads_late}
use Rattle.ice_recover.proofs.replays.replay.Goals as goal

pub replay-requires-clause-below : goal.replay-requires-clause-below
replay-requires-clause-below g c = λ k is. lot_below c.args.lot.now (g.D.Disk.state c.args.disk.now).size k c.requires.sited is

pub returns-clause-crash : goal.returns-clause-crash
returns-clause-crash g c = λ sure.
    let state = g.D.Disk.state in let left = g.D.Disk.left in let lot = c.args.lot.now in let ts = c.args.view.now in let some = c.requires.pending in
    let a = c.args.disk.now in let b = c.replay.new.disk in
    let pending = subst (λ (x : List ℕ). IsPending (slot_targets lot) (lot_places lot) x (state a).now) (sym c.targets.ensures) (was_pending state left lot ts some a b sure) in
    blocks_stay state left lot ts some a b sure (c.replay.ensures.crash _ (was_settled state left lot ts some a b sure) pending (was_standing state left lot ts some a b sure))

pub returns-clause-same : goal.returns-clause-same
returns-clause-same g c = λ sure.
    let state = g.D.Disk.state in let lot = c.args.lot.now in
    every_now (JournalExtent (lot_places lot) 240) (λ (i : Image). effective_of lot i ≡ effective_of lot (state c.args.disk.now).now) (state c.replay.new.disk)
    (g.met.D.Disk.whole c.replay.new.disk (c.replay.ensures.within.tells ∙ sure.settled.told)) (returns-clause-crash g c sure).after

pub returns-clause-done : goal.returns-clause-done
returns-clause-done g c = λ map sure e.
    let state = g.D.Disk.state in let left = g.D.Disk.left in let lot = c.args.lot.now in let ts = c.args.view.now in let some = c.requires.pending in
    let a = c.args.disk.now in let b = c.replay.new.disk in
    let pending = subst (λ (x : List ℕ). IsPending (slot_targets lot) (lot_places lot) x (state a).now) (sym c.targets.ensures) (was_pending state left lot ts some a b sure) in
    blocks_rest state left lot ts some a b sure c.replay.result map e
    (c.replay.ensures.done map (was_settled state left lot ts some a b sure) pending (effective_stands lot map (state a).now e))

pub returns-clause-late : goal.returns-clause-late
returns-clause-late g c = λ told reads.
    let state = g.D.Disk.state in let lot = c.args.lot.now in let ts = c.args.view.now in let new = (state c.replay.new.disk).now in let loose = (state c.replay.new.disk).loose (lot_places lot).gate ≡ true in
    let pending = subst (λ (x : List ℕ). IsPending (slot_targets lot) (lot_places lot) x (state c.args.disk.now).now) (sym c.targets.ensures) (some_pending lot ts (state c.args.disk.now).now reads c.requires.pending) in
    reads_late c.replay.result loose lot ts new
    (subst (λ (x : List ℕ). OnErr c.replay.result (loose ⊎ IsPending (slot_targets lot) (lot_places lot) x new)) c.targets.ensures (c.replay.ensures.late told pending))
