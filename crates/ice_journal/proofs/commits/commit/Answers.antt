use Rattle.std.proofs.Common.{◌+◌, ◌-◌, ◌∙◌, refl, subst, inl, inr, length, OnOk, Result, ⊎_elim, arith}
use Rattle.ice_base.specs.Frames.{Settled}
use Rattle.ice_base.specs.FrameLaws.{within_then, within_more}
use Rattle.ice_base.proofs.Frame.{sure_after}
use Rattle.ice_txn.specs.Sets.{over}
use Rattle.ice_journal.specs.Blocks.{CommitBlocks, HomeBlocks, IsBody, IsBodyOf, JournalExtent}
use Rattle.ice_journal.specs.Phases.{BeforeOrAfter, Idle, RestsIdle}
use Rattle.ice_journal.proofs.PhaseLaws.{idle_rests, idle_outside, idle_inside}
use Rattle.ice_journal.proofs.StepLaws.{set_written, set_holds, body_of, written, then_finished, every_now, sure_at}
use Rattle.ice_journal.proofs.commits.commit.Goals as goal

pub settle_body-requires-clause-header : goal.settle_body-requires-clause-header
settle_body-requires-clause-header g c = omega (arith, c.requires.below (g.J.Journal.places c.args.journal.now).header (inr (inl (inl refl))), c.area-area.ensures.header)

pub settle_body-requires-clause-bodies : goal.settle_body-requires-clause-bodies
settle_body-requires-clause-bodies g c =
    let at = g.J.Journal.places c.args.journal.now in let n = length c.args.set.now.entries in
    let last = c.requires.below (at.body + (n - 1)) (inr (inl (inr (omega arith, omega (arith, c.requires.some, c.requires.few))))) in
    omega (arith, last, c.requires.some, c.area-area.ensures.body)

pub finish-requires-clause-below : goal.finish-requires-clause-below
finish-requires-clause-below g c = λ k is. omega (arith, c.requires.below k is, c.settle_body.ensures.within.size)

pub returns-in-Ok-finish-clause-within : goal.returns-in-Ok-finish-clause-within
returns-in-Ok-finish-clause-within g c =
    let state = g.D.Disk.state in let left = g.D.Disk.left in let at = g.J.Journal.places c.args.journal.now in let most = g.J.Journal.most c.args.journal.now in
    let reads = g.J.Journal.reads c.args.journal.now in let entries = c.args.set.now.entries in let area = c.area-area.result in let is = c.area-area.ensures in
    let w = within_more state left (IsBodyOf area.header area.body (length entries)) (IsBody at (length entries)) c.args.disk.now c.settle_body.new.disk (λ k body. body_of area reads at most (length entries) k is body) c.settle_body.ensures.within in
    within_then state left (CommitBlocks at entries) c.args.disk.now c.settle_body.new.disk c.finish.new.disk
    (within_more state left (IsBody at (length entries)) (CommitBlocks at entries) c.args.disk.now c.settle_body.new.disk (λ k body. inr (inl body)) w)
    (within_more state left (HomeBlocks at entries) (CommitBlocks at entries) c.settle_body.new.disk c.finish.new.disk (λ k home. ⊎_elim (λ gate. inl gate) (λ put. inr (inr put)) home) c.finish.ensures.within)

pub returns-in-Err-finish-clause-within : goal.returns-in-Err-finish-clause-within
returns-in-Err-finish-clause-within g c =
    let state = g.D.Disk.state in let left = g.D.Disk.left in let at = g.J.Journal.places c.args.journal.now in let most = g.J.Journal.most c.args.journal.now in
    let reads = g.J.Journal.reads c.args.journal.now in let entries = c.args.set.now.entries in let area = c.area-area.result in let is = c.area-area.ensures in
    let w = within_more state left (IsBodyOf area.header area.body (length entries)) (IsBody at (length entries)) c.args.disk.now c.settle_body.new.disk (λ k body. body_of area reads at most (length entries) k is body) c.settle_body.ensures.within in
    within_then state left (CommitBlocks at entries) c.args.disk.now c.settle_body.new.disk c.finish.new.disk
    (within_more state left (IsBody at (length entries)) (CommitBlocks at entries) c.args.disk.now c.settle_body.new.disk (λ k body. inr (inl body)) w)
    (within_more state left (HomeBlocks at entries) (CommitBlocks at entries) c.settle_body.new.disk c.finish.new.disk (λ k home. ⊎_elim (λ gate. inl gate) (λ put. inr (inr put)) home) c.finish.ensures.within)

pub returns-in-Ok-finish-clause-crash : goal.returns-in-Ok-finish-clause-crash
returns-in-Ok-finish-clause-crash g c = λ map sure.
    let state = g.D.Disk.state in let left = g.D.Disk.left in let at = g.J.Journal.places c.args.journal.now in let most = g.J.Journal.most c.args.journal.now in
    let reads = g.J.Journal.reads c.args.journal.now in let entries = c.args.set.now.entries in let area = c.area-area.result in let is = c.area-area.ensures in
    let w = within_more state left (IsBodyOf area.header area.body (length entries)) (IsBody at (length entries)) c.args.disk.now c.settle_body.new.disk (λ k body. body_of area reads at most (length entries) k is body) c.settle_body.ensures.within in
    let first = written state left reads at most entries map c.settle_body.result c.args.disk.now c.settle_body.new.disk
    (set_written state left c.settle_body.result c.args.disk.now c.settle_body.new.disk reads at most entries c.requires.few is.apart map c.settle_body.ensures.settled w
    (λ told. set_holds c.settle_body.result area reads at most entries (state c.settle_body.new.disk).now is c.requires.homes (c.settle_body.ensures.header told) (c.settle_body.ensures.bodies told))) in
    let all = then_finished state left reads at most entries map (IsBody at (length entries)) c.args.disk.now c.settle_body.new.disk c.finish.new.disk c.settle_body.result c.in-Ok.field-0 c.finish.result
    w c.in-Ok.is first (c.finish.ensures.moves map) in
    all.crash sure.settled sure.now

pub returns-in-Err-finish-clause-crash : goal.returns-in-Err-finish-clause-crash
returns-in-Err-finish-clause-crash g c = λ map sure.
    let state = g.D.Disk.state in let left = g.D.Disk.left in let at = g.J.Journal.places c.args.journal.now in let most = g.J.Journal.most c.args.journal.now in
    let reads = g.J.Journal.reads c.args.journal.now in let entries = c.args.set.now.entries in let area = c.area-area.result in let is = c.area-area.ensures in
    let w = within_more state left (IsBodyOf area.header area.body (length entries)) (IsBody at (length entries)) c.args.disk.now c.settle_body.new.disk (λ k body. body_of area reads at most (length entries) k is body) c.settle_body.ensures.within in
    let first = written state left reads at most entries map c.settle_body.result c.args.disk.now c.settle_body.new.disk
    (set_written state left c.settle_body.result c.args.disk.now c.settle_body.new.disk reads at most entries c.requires.few is.apart map c.settle_body.ensures.settled w
    (λ told. set_holds c.settle_body.result area reads at most entries (state c.settle_body.new.disk).now is c.requires.homes (c.settle_body.ensures.header told) (c.settle_body.ensures.bodies told))) in
    let all = then_finished state left reads at most entries map (IsBody at (length entries)) c.args.disk.now c.settle_body.new.disk c.finish.new.disk c.settle_body.result c.in-Ok.field-0 c.finish.result
    w c.in-Ok.is first (c.finish.ensures.moves map) in
    all.crash sure.settled sure.now

pub returns-in-Ok-finish-clause-done : goal.returns-in-Ok-finish-clause-done
returns-in-Ok-finish-clause-done g c = λ map sure.
    let state = g.D.Disk.state in let left = g.D.Disk.left in let at = g.J.Journal.places c.args.journal.now in let most = g.J.Journal.most c.args.journal.now in
    let reads = g.J.Journal.reads c.args.journal.now in let entries = c.args.set.now.entries in let area = c.area-area.result in let is = c.area-area.ensures in
    let w = within_more state left (IsBodyOf area.header area.body (length entries)) (IsBody at (length entries)) c.args.disk.now c.settle_body.new.disk (λ k body. body_of area reads at most (length entries) k is body) c.settle_body.ensures.within in
    let first = written state left reads at most entries map c.settle_body.result c.args.disk.now c.settle_body.new.disk
    (set_written state left c.settle_body.result c.args.disk.now c.settle_body.new.disk reads at most entries c.requires.few is.apart map c.settle_body.ensures.settled w
    (λ told. set_holds c.settle_body.result area reads at most entries (state c.settle_body.new.disk).now is c.requires.homes (c.settle_body.ensures.header told) (c.settle_body.ensures.bodies told))) in
    let all = then_finished state left reads at most entries map (IsBody at (length entries)) c.args.disk.now c.settle_body.new.disk c.finish.new.disk c.settle_body.result c.in-Ok.field-0 c.finish.result
    w c.in-Ok.is first (c.finish.ensures.moves map) in
    let end = subst (λ (q : Result _ _). OnOk q (Settled (JournalExtent at most) (state c.finish.new.disk) × Idle at (over entries map) (state c.finish.new.disk).now)) c.in-Ok-finish.is (all.done sure.settled sure.now) in
    sure_at (JournalExtent at most) (RestsIdle at) (Idle at (over entries map)) (state c.finish.new.disk) (idle_inside reads at entries most c.requires.few is.apart) end

pub returns-in-Err-clause-within : goal.returns-in-Err-clause-within
returns-in-Err-clause-within g c =
    let state = g.D.Disk.state in let left = g.D.Disk.left in let at = g.J.Journal.places c.args.journal.now in let most = g.J.Journal.most c.args.journal.now in
    let reads = g.J.Journal.reads c.args.journal.now in let entries = c.args.set.now.entries in let area = c.area-area.result in let is = c.area-area.ensures in
    let w = within_more state left (IsBodyOf area.header area.body (length entries)) (IsBody at (length entries)) c.args.disk.now c.settle_body.new.disk (λ k body. body_of area reads at most (length entries) k is body) c.settle_body.ensures.within in
    within_more state left (IsBody at (length entries)) (CommitBlocks at entries) c.args.disk.now c.settle_body.new.disk (λ k body. inr (inl body)) w

pub returns-in-Err-clause-crash : goal.returns-in-Err-clause-crash
returns-in-Err-clause-crash g c = λ map sure.
    let state = g.D.Disk.state in let left = g.D.Disk.left in let at = g.J.Journal.places c.args.journal.now in let most = g.J.Journal.most c.args.journal.now in
    let reads = g.J.Journal.reads c.args.journal.now in let entries = c.args.set.now.entries in let area = c.area-area.result in let is = c.area-area.ensures in
    let w = within_more state left (IsBodyOf area.header area.body (length entries)) (IsBody at (length entries)) c.args.disk.now c.settle_body.new.disk (λ k body. body_of area reads at most (length entries) k is body) c.settle_body.ensures.within in
    let first = written state left reads at most entries map c.settle_body.result c.args.disk.now c.settle_body.new.disk
    (set_written state left c.settle_body.result c.args.disk.now c.settle_body.new.disk reads at most entries c.requires.few is.apart map c.settle_body.ensures.settled w
    (λ told. set_holds c.settle_body.result area reads at most entries (state c.settle_body.new.disk).now is c.requires.homes (c.settle_body.ensures.header told) (c.settle_body.ensures.bodies told))) in
    first.crash sure.settled sure.now

pub returns-in-Err-clause-before : goal.returns-in-Err-clause-before
returns-in-Err-clause-before g c = λ map sure is-before.
    let state = g.D.Disk.state in let left = g.D.Disk.left in let at = g.J.Journal.places c.args.journal.now in let most = g.J.Journal.most c.args.journal.now in
    let reads = g.J.Journal.reads c.args.journal.now in let entries = c.args.set.now.entries in let area = c.area-area.result in let is = c.area-area.ensures in
    let w = within_more state left (IsBodyOf area.header area.body (length entries)) (IsBody at (length entries)) c.args.disk.now c.settle_body.new.disk (λ k body. body_of area reads at most (length entries) k is body) c.settle_body.ensures.within in
    sure_after state left (IsBody at (length entries)) (RestsIdle at) (Idle at map) c.args.disk.now c.settle_body.new.disk (idle_rests reads at entries map) (idle_outside reads at entries most c.requires.few is.apart) w sure

pub returns-in-Ok-finish-clause-either : goal.returns-in-Ok-finish-clause-either
returns-in-Ok-finish-clause-either g c = λ map sure.
    let at = g.J.Journal.places c.args.journal.now in
    every_now (JournalExtent at (g.J.Journal.most c.args.journal.now)) (BeforeOrAfter (g.J.Journal.reads c.args.journal.now) at c.args.set.now.entries map) (g.D.Disk.state c.finish.new.disk)
    (g.met.D.Disk.whole c.finish.new.disk (c.finish.ensures.within.tells ∙ c.settle_body.ensures.within.tells ∙ sure.settled.told)) (returns-in-Ok-finish-clause-crash g c map sure).after

pub returns-in-Err-finish-clause-either : goal.returns-in-Err-finish-clause-either
returns-in-Err-finish-clause-either g c = λ map sure.
    let at = g.J.Journal.places c.args.journal.now in
    every_now (JournalExtent at (g.J.Journal.most c.args.journal.now)) (BeforeOrAfter (g.J.Journal.reads c.args.journal.now) at c.args.set.now.entries map) (g.D.Disk.state c.finish.new.disk)
    (g.met.D.Disk.whole c.finish.new.disk (c.finish.ensures.within.tells ∙ c.settle_body.ensures.within.tells ∙ sure.settled.told)) (returns-in-Err-finish-clause-crash g c map sure).after

pub returns-in-Err-clause-either : goal.returns-in-Err-clause-either
returns-in-Err-clause-either g c = λ map sure.
    let at = g.J.Journal.places c.args.journal.now in
    every_now (JournalExtent at (g.J.Journal.most c.args.journal.now)) (BeforeOrAfter (g.J.Journal.reads c.args.journal.now) at c.args.set.now.entries map) (g.D.Disk.state c.settle_body.new.disk)
    (g.met.D.Disk.whole c.settle_body.new.disk (c.settle_body.ensures.within.tells ∙ sure.settled.told)) (returns-in-Err-clause-crash g c map sure).after
