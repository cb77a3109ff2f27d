use Rattle.std.proofs.Common.{◌++◌, List, ℕ, ap, ◌∙◌, refl, arith}
use Rattle.ice_file.proofs.ByteLaws.{piece}
use Rattle.ice_file.proofs.reads.read_piece.Goals as goal

pub returns-clause-bytes : goal.returns-clause-bytes
returns-clause-bytes g c = λ s.
    let m = c.nth.ensures.looked.map in
    let at = c.in_ok-at.ensures.block s in
    let read = c.in_ok-fetch.ensures.content (c.nth.ensures.looked.shows s) in
    let p = piece (g.V.View.map c.args.view.now c.args.disk.now c.args.lot.now) c.args.inode.now c.fetch.new.into c.in_ok-at.at c.args.from _ c.min-n.result (cc) at c.fetch.array_long refl (omega arith) in
    c.add_bytes.ensures.bytes ∙ ap (λ (x : List ℕ). c.args.room.now.bytes ++ x) p
