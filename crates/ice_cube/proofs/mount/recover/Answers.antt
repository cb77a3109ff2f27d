use Rattle.std.proofs.Common.{rules, ◌≡◌, ◌∙◌, false, sym}
use Rattle.ice_base.specs.Disk.{Nowhere, block}
use Rattle.ice_base.specs.FrameLaws.{within_more, within_then}
use Rattle.ice_base.specs.Lots.{extent, gate_place}
use Rattle.ice_layout.specs.Headers.{is_open}
use Rattle.ice_tables.specs.Journals.{lot_places}
use Rattle.ice_journal.specs.Blocks.{ReplayBlocks}
use Rattle.ice_journal.specs.Shown.{are_some}
use Rattle.ice_cube.proofs.MountLaws.{closed_rest, look_same, look_step, reads_sure, replay_in, replay_step}
use Rattle.ice_cube.proofs.mount.recover.Goals as goal

pub returns-in-Err-clause-crash : goal.returns-in-Err-clause-crash
returns-in-Err-clause-crash g c = λ s. look_step g.D.Disk.state g.D.Disk.left c.args.lot.now c.args.disk.now c.read.new.disk c.read.ensures.still.within s

pub returns-then-not-is_pending-clause-crash : goal.returns-then-not-is_pending-clause-crash
returns-then-not-is_pending-clause-crash g c = λ s. look_step g.D.Disk.state g.D.Disk.left c.args.lot.now c.args.disk.now c.read.new.disk c.read.ensures.still.within s

pub returns-then-not-is_pending-clause-rest : goal.returns-then-not-is_pending-clause-rest
returns-then-not-is_pending-clause-rest g c = λ map s e.
    let p : are_some c.in-Ok.view ≡ is_open (block (g.D.Disk.state c.args.disk.now).now (gate_place c.args.lot.now)) = c.in-Ok.ensures.pending s.told in
    let q : are_some c.in-Ok.view ≡ false = search rules in
    closed_rest g.D.Disk.state g.D.Disk.left c.args.lot.now c.args.disk.now c.read.new.disk map c.read.ensures.still.within s (sym p ∙ q) e

pub returns-in-Ok-replay-clause-within : goal.returns-in-Ok-replay-clause-within
returns-in-Ok-replay-clause-within g c =
    let state = g.D.Disk.state in let left = g.D.Disk.left in let lot = c.args.lot.now in let a = c.args.disk.now in let b = c.read.new.disk in let d = c.replay.new.disk in
    within_then state left (extent lot) a b d (within_more state left Nowhere (extent lot) a b (λ k never. absurd never) c.read.ensures.still.within)
    (within_more state left (ReplayBlocks (lot_places lot) c.in-Ok.view) (extent lot) b d (replay_in lot c.in-Ok.view c.in-Ok.ensures.targets) c.replay.ensures.within)

pub returns-in-Err-replay-clause-within : goal.returns-in-Err-replay-clause-within
returns-in-Err-replay-clause-within g c =
    let state = g.D.Disk.state in let left = g.D.Disk.left in let lot = c.args.lot.now in let a = c.args.disk.now in let b = c.read.new.disk in let d = c.replay.new.disk in
    within_then state left (extent lot) a b d (within_more state left Nowhere (extent lot) a b (λ k never. absurd never) c.read.ensures.still.within)
    (within_more state left (ReplayBlocks (lot_places lot) c.in-Ok.view) (extent lot) b d (replay_in lot c.in-Ok.view c.in-Ok.ensures.targets) c.replay.ensures.within)

pub returns-in-Ok-replay-clause-crash : goal.returns-in-Ok-replay-clause-crash
returns-in-Ok-replay-clause-crash g c = λ s.
    let state = g.D.Disk.state in let left = g.D.Disk.left in let lot = c.args.lot.now in let a = c.args.disk.now in let b = c.read.new.disk in let w = c.read.ensures.still.within in
    replay_step state left lot a b c.replay.new.disk w s (c.replay.ensures.crash (reads_sure state left lot a b c.in-Ok.view w s (c.in-Ok.ensures.reads s.told)))

pub returns-in-Err-replay-clause-crash : goal.returns-in-Err-replay-clause-crash
returns-in-Err-replay-clause-crash g c = λ s.
    let state = g.D.Disk.state in let left = g.D.Disk.left in let lot = c.args.lot.now in let a = c.args.disk.now in let b = c.read.new.disk in let w = c.read.ensures.still.within in
    replay_step state left lot a b c.replay.new.disk w s (c.replay.ensures.crash (reads_sure state left lot a b c.in-Ok.view w s (c.in-Ok.ensures.reads s.told)))

pub returns-in-Ok-replay-clause-rest : goal.returns-in-Ok-replay-clause-rest
returns-in-Ok-replay-clause-rest g c = λ map s e.
    let state = g.D.Disk.state in let left = g.D.Disk.left in let lot = c.args.lot.now in let a = c.args.disk.now in let b = c.read.new.disk in let w = c.read.ensures.still.within in
    c.in-Ok-replay.ensures.done map (reads_sure state left lot a b c.in-Ok.view w s (c.in-Ok.ensures.reads s.told)) (look_same state left lot a b w ∙ e)
