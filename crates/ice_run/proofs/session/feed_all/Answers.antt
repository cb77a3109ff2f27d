use Rattle.std.proofs.Common.{◌∙◌, ◌++◌, ◌+◌, List, ℕ, sym, subst, take, drop, arith}
use Rattle.std.proofs.lemmas.List.{take_all}
use Rattle.ice_run.specs.Scripts.{script_lines}
use Rattle.ice_run.specs.Sessions.{Serving}
use Rattle.ice_run.proofs.Feeding.{breaks_more, piece_step, piece_more, piece_ended}
use Rattle.ice_run.proofs.Going.{goes_then}
use Rattle.ice_run.proofs.session.feed_all.Goals as goal

pub returns-in-Err-clause-broken : goal.returns-in-Err-clause-broken
returns-in-Err-clause-broken g c = λ w input taken ahead start is serving.
    let inv = c.loop-byte.invariant in let piece = c.args.piece.now in let i = c.loop-byte.byte-index in let more = piece_ended taken piece i (omega arith) in
    breaks_more g.H.Disk.state g.H.Disk.left w (script_lines input) _ more.0 _ start c.feed.new.host more.1 c.in-Err.status
    (c.in-Err.ensures.broken w input (taken ++ take i piece) (drop (i + 1) piece ++ ahead) start (piece_step input taken piece ahead i (omega arith) is) (inv.served w input taken ahead start is serving))

pub loop-byte-preserved : goal.loop-byte-preserved
loop-byte-preserved g c = let inv = c.loop-byte.invariant in let piece = c.args.piece.now in let i = c.loop-byte.byte-index in record {
  on = goes_then _ _ _ inv.on c.feed.ensures.on;
  intake = c.feed.ensures.intake ∙ inv.intake;
  ready = c.in-Ok.ensures.ready;
  served = λ w input taken ahead start is serving.
      subst (λ (x : List ℕ). Serving g.H.Disk.state g.H.Disk.left w c.feed.new.volume input x start c.feed.new.host c.feed.new.session.reader) (sym (piece_more taken piece i (omega arith)))
      (c.in-Ok.ensures.served w input (taken ++ take i piece) (drop (i + 1) piece ++ ahead) start (piece_step input taken piece ahead i (omega arith) is) (inv.served w input taken ahead start is serving));
}

pub returns-clause-served : goal.returns-clause-served
returns-clause-served g c = λ w input taken ahead start is serving.
    let inv = c.loop-byte.invariant in let piece = c.args.piece.now in let i = c.loop-byte.byte-index in
    subst (λ (x : List ℕ). Serving g.H.Disk.state g.H.Disk.left w c.loop-byte.volume input (taken ++ x) start c.loop-byte.host c.loop-byte.session.reader) (take_all i piece (omega arith)) (inv.served w input taken ahead start is serving)
