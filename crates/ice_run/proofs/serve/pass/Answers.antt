use Rattle.std.proofs.Common.{◌≡◌, ◌⊎◌, ◌+◌, ◌<◌, ◌≤◌, ℕ, ⊎_elim, arith}
use Rattle.ice_run.specs.Scripts.{longest_script}
use Rattle.ice_run.proofs.Servings.{took_serving, source_failed, took_more, too_long, fed_more, broke_off}
use Rattle.ice_run.proofs.serve.pass.Goals as goal

pub returns-in-Err-clause-passes : goal.returns-in-Err-clause-passes
returns-in-Err-clause-passes g c = λ w start fed.
    source_failed g.H.Disk.state g.H.Disk.left w start c.args.taken c.args.host.now c.take_piece.new.host c.args.volume.now c.args.session.now.reader fed c.take_piece.ensures.disk c.take_piece.ensures.leaves c.take_piece.ensures.only
    c.requires.limit c.in-Err.ensures.none

pub returns-then-taken-eq-LIMIT-clause-passes : goal.returns-then-taken-eq-LIMIT-clause-passes
returns-then-taken-eq-LIMIT-clause-passes g c = λ w start fed.
    too_long g.H.Disk.state g.H.Disk.left w start c.args.taken c.args.host.now c.take_piece.new.host c.args.volume.now c.args.session.now.reader fed c.take_piece.ensures.disk c.take_piece.ensures.leaves c.take_piece.ensures.only
    c.in-Ok.count c.take_piece.new.piece (c.in-Ok.ensures.bytes fed.serving.so_far.stands.tables.settled.told) c.if-taken-eq-LIMIT.true c.if-count-gt0.true (c.in-Ok.ensures.count.2 c.if-taken-eq-LIMIT.true)

pub returns-in-Ok-feed_all-clause-passes : goal.returns-in-Ok-feed_all-clause-passes
returns-in-Ok-feed_all-clause-passes g c = λ w start fed.
    let state = g.H.Disk.state in let left = g.H.Disk.left in let n = c.in-Ok.count in let piece = c.take_piece.new.piece in
    let took = c.in-Ok.ensures.bytes fed.serving.so_far.stands.tables.settled.told in
    fed_more state left w start c.args.taken c.args.host.now c.take_piece.new.host c.args.volume.now c.args.session.now.reader fed c.take_piece.ensures.disk c.take_piece.ensures.leaves c.take_piece.ensures.only
    n piece took c.feed_all.new.host c.feed_all.new.volume c.feed_all.new.session.reader c.feed_all.ensures.intake
    (c.in-Ok-feed_all.ensures.served w (state start).streams.intake fed.taken (state c.take_piece.new.host).streams.intake start
    (took_more state left w start c.args.taken c.args.host.now c.take_piece.new.host c.args.volume.now c.args.session.now.reader fed c.take_piece.ensures.disk c.take_piece.ensures.leaves c.take_piece.ensures.only n piece took)
    (took_serving state left w start c.args.taken c.args.host.now c.take_piece.new.host c.args.volume.now c.args.session.now.reader fed c.take_piece.ensures.disk c.take_piece.ensures.leaves c.take_piece.ensures.only))

within_limit : (taken n : ℕ) → taken ≤ longest_script → (taken < longest_script → taken + n ≤ longest_script) → ((0 < n) × (taken ≡ 67108864 → ⊥)) ⊎ (n ≤ 0) → taken + n ≤ longest_script
within_limit taken n le below either = ⊎_elim (λ some. below (omega (arith, some.1))) (λ none. omega arith) either

pub returns-in-Err-feed_all-clause-passes : goal.returns-in-Err-feed_all-clause-passes
returns-in-Err-feed_all-clause-passes g c = λ w start fed.
    let state = g.H.Disk.state in let left = g.H.Disk.left in let n = c.in-Ok.count in let piece = c.take_piece.new.piece in
    let took = c.in-Ok.ensures.bytes fed.serving.so_far.stands.tables.settled.told in
    broke_off state left w start c.args.taken c.args.host.now c.take_piece.new.host c.args.volume.now c.args.session.now.reader fed c.take_piece.ensures.disk c.take_piece.ensures.leaves c.take_piece.ensures.only
    n piece took c.feed_all.new.host c.feed_all.new.volume c.feed_all.new.session.reader c.feed_all.ensures.intake c.in-Err-feed_all.status
    (within_limit c.args.taken n c.requires.limit c.in-Ok.ensures.count.1 c.else-count-gt0.either)
    (c.in-Err-feed_all.ensures.broken w (state start).streams.intake fed.taken (state c.take_piece.new.host).streams.intake start
    (took_more state left w start c.args.taken c.args.host.now c.take_piece.new.host c.args.volume.now c.args.session.now.reader fed c.take_piece.ensures.disk c.take_piece.ensures.leaves c.take_piece.ensures.only n piece took)
    (took_serving state left w start c.args.taken c.args.host.now c.take_piece.new.host c.args.volume.now c.args.session.now.reader fed c.take_piece.ensures.disk c.take_piece.ensures.leaves c.take_piece.ensures.only))
