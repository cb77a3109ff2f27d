use Rattle.std.proofs.Common.{◌+◌, ◌∙◌, ap, ℕ, List, max, arith}
use Rattle.std.proofs.lemmas.Bool.Decides.{nat_tests}
use Rattle.std.proofs.lemmas.Result.{err_from_is_err_and}
use Rattle.ice_base.proofs.LotLaws.{sited-few}
use Rattle.ice_map.proofs.DamageLaws.{refused-disk}
use Rattle.ice_map.proofs.DueLaws.{due-less}
use Rattle.ice_map.proofs.GrowthLaws.{grew-put, inodes-put, inodes-then}
use Rattle.ice_file.proofs.PieceLaws.{piece-put}
use Rattle.ice_file.proofs.pieces.put_piece.Goals as goal

pub returns-clause-put : goal.returns-clause-put
returns-clause-put g c = λ s made.
    let t = c.reach.ensures.spent.shows s in
    piece-put c.args.lot.now (g.K.View.map c.args.keep.now c.args.disk.now c.args.lot.now) (g.K.View.map c.reach.new.keep c.reach.new.disk c.args.lot.now) (g.K.View.map c.fill.new.keep c.fill.new.disk c.args.lot.now)
    c.args.inode.now c.reach.new.inode c.args.count c.args.k c.in_ok-at.at c.args.start c.args.bytes.now (sited-few _ _ c.requires.sited) (c.in_ok-at.ensures.reached s made)
    c.in_ok-fill.ensures.puts.only (c.in_ok-fill.ensures.here t) (λ l. c.in_ok-fill.ensures.rest t (grind (arith, nat_tests)))

pub returns-clause-pays : goal.returns-clause-pays
returns-clause-pays g c =
    let p = c.in_ok-at.ensures.pays in
    let q = c.fill.ensures.spent.room in
    let d = due-less (g.K.View.held c.reach.new.keep) (g.K.View.held c.fill.new.keep) c.reach.new.inode.single (max c.args.count (c.args.k + 1)) c.fill.ensures.spent.grows in
    omega arith

pub returns-clause-grew : goal.returns-clause-grew
returns-clause-grew g c = λ s.
    grew-put c.args.lot.now (g.K.View.map c.args.keep.now c.args.disk.now c.args.lot.now) (g.K.View.map c.reach.new.keep c.reach.new.disk c.args.lot.now) (g.K.View.map c.fill.new.keep c.fill.new.disk c.args.lot.now)
    c.args.inode.now c.reach.new.inode c.args.count (max c.args.count (c.args.k + 1)) c.in_ok-at.at (sited-few _ _ c.requires.sited) c.in_ok-at.ensures.data c.in_ok-fill.ensures.puts.only (c.in_ok-at.ensures.grew s)

pub returns-clause-stays : goal.returns-clause-stays
returns-clause-stays g c = λ s. inodes-then (g.K.View.map c.args.keep.now c.args.disk.now c.args.lot.now) (g.K.View.map c.reach.new.keep c.reach.new.disk c.args.lot.now) (g.K.View.map c.fill.new.keep c.fill.new.disk c.args.lot.now)
    (c.reach.ensures.stays s) (inodes-put c.args.lot.now (g.K.View.map c.reach.new.keep c.reach.new.disk c.args.lot.now) (g.K.View.map c.fill.new.keep c.fill.new.disk c.args.lot.now) c.in_ok-at.at c.in_ok-at.ensures.data c.in_ok-fill.ensures.puts.only)

pub returns-in_err-fill-clause-stays : goal.returns-in_err-fill-clause-stays
returns-in_err-fill-clause-stays g c = λ s. inodes-then (g.K.View.map c.args.keep.now c.args.disk.now c.args.lot.now) (g.K.View.map c.reach.new.keep c.reach.new.disk c.args.lot.now) (g.K.View.map c.fill.new.keep c.fill.new.disk c.args.lot.now)
    (c.reach.ensures.stays s) (inodes-put c.args.lot.now (g.K.View.map c.reach.new.keep c.reach.new.disk c.args.lot.now) (g.K.View.map c.fill.new.keep c.fill.new.disk c.args.lot.now) c.in_ok-at.at c.in_ok-at.ensures.data c.in_err-fill.ensures.puts.only)

pub returns-clause-within : goal.returns-clause-within
returns-clause-within g c = λ s l b other.
    let h = c.in_ok-at.ensures.had s l in
    c.in_ok-fill.ensures.puts.only b (λ e. other (e ∙ h.0)) ∙ ap (λ (m : ℕ → List ℕ). m b) h.1

pub returns-in_err-at-clause-refused : goal.returns-in_err-at-clause-refused
returns-in_err-at-clause-refused g c = λ s.
    let p = err_from_is_err_and c.from_residual.result c.from_residual.ensures.1 in
    rw (p.1, p.2) (c.in_err-at.ensures.refused s)

pub returns-in_err-fill-clause-refused : goal.returns-in_err-fill-clause-refused
returns-in_err-fill-clause-refused g c = λ s.
    let p = err_from_is_err_and c.from_residual-in_err-fill.result c.from_residual-in_err-fill.ensures.1 in
    rw (p.1, p.2)
    (refused-disk c.args.lot.now (g.K.View.map c.args.keep.now c.args.disk.now c.args.lot.now) c.args.inode.now c.args.count c.args.k _ c.in_err-fill.ensures.faults)
