use Rattle.std.proofs.Common.{◌+◌, max, ℕ, length, ◌∙◌, sym, ap, subst, refl, arith}
use Rattle.std.proofs.lemmas.Result.{err_from_is_err_and}
use Rattle.ice_map.proofs.DamageLaws.{refused-as}
use Rattle.ice_map.proofs.PutsLaws.{spent-then, spent-by}
use Rattle.ice_base.specs.declared.fault.OpFault.TheVariants.{Damaged, NoSpace}
use Rattle.ice_base.specs.declared.fault.Rule.TheVariants.{Counts, Pointer, Bitmap}
use Rattle.ice_map.specs.Own.{MadeOf, blocks_for}
use Rattle.ice_map.specs.Moves.{due}
use Rattle.ice_map.proofs.DueLaws.{due-most}
use Rattle.ice_map.proofs.GrowthLaws.{grew-at, grew-then, inodes-then, reserved-more, misled-from, unmixed-next}
use Rattle.ice_file.proofs.WriteLaws.{none-grew, full-grew, count-had, written-step, count-now, count-next, few-pieces, count-grows}
use Rattle.ice_file.proofs.writes.write_blocks.Goals as goal

pub put_piece-requires-clause-room : goal.put_piece-requires-clause-room
put_piece-requires-clause-room g c =
    let p = c.loop-k.invariant.pays in
    let d = due-most (g.K.View.held c.args.keep.now) c.args.inode.now.single (blocks_for c.args.inode.now.size) in
    let n = few-pieces c.args.at (c.args.at + length c.args.bytes.now) c.loop-k.k (omega arith) (omega arith) in
    omega arith

pub returns-in_err-put_piece-clause-spent : goal.returns-in_err-put_piece-clause-spent
returns-in_err-put_piece-clause-spent g c =
    let p = c.loop-k.invariant.pays in
    let d = due-most (g.K.View.held c.args.keep.now) c.args.inode.now.single (blocks_for c.args.inode.now.size) in
    let n = few-pieces c.args.at (c.args.at + length c.args.bytes.now) c.loop-k.k (omega arith) (omega arith) in
    let r = c.put_piece.ensures.spent.room in
    spent-by g.D.Disk g.K.View c.args.lot.now 51 44 _ _ _ _ (spent-then g.D.Disk g.K.View c.args.lot.now 44 7 51 _ _ _ _ _ _ c.loop-k.invariant.spent c.put_piece.ensures.spent (omega arith)) (omega arith)

pub returns-in_err-put_piece-clause-none : goal.returns-in_err-put_piece-clause-none
returns-in_err-put_piece-clause-none g c = λ e s.
    let why = err_from_is_err_and c.from_residual.result c.from_residual.ensures.1 in
    let p = refused-as c.args.lot.now (g.K.View.map c.loop-k.keep c.loop-k.disk c.args.lot.now) c.loop-k.inode c.map_length-count.result c.loop-k.k c.from_residual.result why.0 _ NoSpace why.1 why.2 e (c.in_err-put_piece.ensures.refused (c.loop-k.invariant.spent.shows s)) in
    let n = count-now c.args.inode.now.size c.args.at (c.args.at + length c.args.bytes.now) c.loop-k.k c.max-from.result c.map_length-count.result (omega arith) (omega arith) (omega arith) (omega arith) in
    let w = grew-at c.args.lot.now (g.K.View.map c.args.keep.now c.args.disk.now c.args.lot.now) (g.K.View.map c.loop-k.keep c.loop-k.disk c.args.lot.now) c.args.inode.now c.loop-k.inode (blocks_for c.args.inode.now.size) _ c.map_length-count.result n (c.loop-k.invariant.grew s) in
    let o = count-grows c.args.inode.now.size c.max-from.result in
    none-grew c.args.lot.now (g.K.View.map c.args.keep.now c.args.disk.now c.args.lot.now) (g.K.View.map c.loop-k.keep c.loop-k.disk c.args.lot.now) c.args.inode.now c.loop-k.inode c.args.inode.now.size (c.args.at + length c.args.bytes.now) c.loop-k.k c.map_length-count.result w (omega arith) p.0 (omega arith) p.1

pub returns-in_err-put_piece-clause-full : goal.returns-in_err-put_piece-clause-full
returns-in_err-put_piece-clause-full g c = λ e s.
    let why = err_from_is_err_and c.from_residual.result c.from_residual.ensures.1 in
    let p = refused-as c.args.lot.now (g.K.View.map c.loop-k.keep c.loop-k.disk c.args.lot.now) c.loop-k.inode c.map_length-count.result c.loop-k.k c.from_residual.result why.0 _ (Damaged Counts) why.1 why.2 e (c.in_err-put_piece.ensures.refused (c.loop-k.invariant.spent.shows s)) in
    let n = count-now c.args.inode.now.size c.args.at (c.args.at + length c.args.bytes.now) c.loop-k.k c.max-from.result c.map_length-count.result (omega arith) (omega arith) (omega arith) (omega arith) in
    let w = grew-at c.args.lot.now (g.K.View.map c.args.keep.now c.args.disk.now c.args.lot.now) (g.K.View.map c.loop-k.keep c.loop-k.disk c.args.lot.now) c.args.inode.now c.loop-k.inode (blocks_for c.args.inode.now.size) _ c.map_length-count.result n (c.loop-k.invariant.grew s) in
    let o = count-grows c.args.inode.now.size c.max-from.result in
    full-grew c.args.lot.now (g.K.View.map c.args.keep.now c.args.disk.now c.args.lot.now) (g.K.View.map c.loop-k.keep c.loop-k.disk c.args.lot.now) c.args.inode.now c.loop-k.inode c.args.inode.now.size (c.args.at + length c.args.bytes.now) c.loop-k.k c.map_length-count.result w (omega arith) p.0 (omega arith) p.1

pub returns-in_err-put_piece-clause-unreserved : goal.returns-in_err-put_piece-clause-unreserved
returns-in_err-put_piece-clause-unreserved g c = λ e s r.
    let w = c.loop-k.invariant.grew s in
    let why = err_from_is_err_and c.from_residual.result c.from_residual.ensures.1 in
    refused-as c.args.lot.now (g.K.View.map c.loop-k.keep c.loop-k.disk c.args.lot.now) c.loop-k.inode c.map_length-count.result c.loop-k.k c.from_residual.result why.0 _ (Damaged Bitmap) why.1 why.2 e (c.in_err-put_piece.ensures.refused (c.loop-k.invariant.spent.shows s)) (reserved-more c.args.lot.now (g.K.View.map c.args.keep.now c.args.disk.now c.args.lot.now) (g.K.View.map c.loop-k.keep c.loop-k.disk c.args.lot.now) _ w.marked r)

pub returns-in_err-put_piece-clause-stays : goal.returns-in_err-put_piece-clause-stays
returns-in_err-put_piece-clause-stays g c = λ s. inodes-then (g.K.View.map c.args.keep.now c.args.disk.now c.args.lot.now) (g.K.View.map c.loop-k.keep c.loop-k.disk c.args.lot.now) (g.K.View.map c.put_piece.new.keep c.put_piece.new.disk c.args.lot.now) (c.loop-k.invariant.stays s) (c.put_piece.ensures.stays (c.loop-k.invariant.spent.shows s))

pub returns-in_err-put_piece-clause-misled : goal.returns-in_err-put_piece-clause-misled
returns-in_err-put_piece-clause-misled g c = λ e s.
    let why = err_from_is_err_and c.from_residual.result c.from_residual.ensures.1 in
    let p = refused-as c.args.lot.now (g.K.View.map c.loop-k.keep c.loop-k.disk c.args.lot.now) c.loop-k.inode c.map_length-count.result c.loop-k.k c.from_residual.result why.0 _ (Damaged Pointer) why.1 why.2 e (c.in_err-put_piece.ensures.refused (c.loop-k.invariant.spent.shows s)) in
    let n = count-now c.args.inode.now.size c.args.at (c.args.at + length c.args.bytes.now) c.loop-k.k c.max-from.result c.map_length-count.result (omega arith) (omega arith) (omega arith) (omega arith) in
    let w = grew-at c.args.lot.now (g.K.View.map c.args.keep.now c.args.disk.now c.args.lot.now) (g.K.View.map c.loop-k.keep c.loop-k.disk c.args.lot.now) c.args.inode.now c.loop-k.inode (blocks_for c.args.inode.now.size) _ c.map_length-count.result n (c.loop-k.invariant.grew s) in
    misled-from c.args.lot.now (g.K.View.map c.args.keep.now c.args.disk.now c.args.lot.now) (g.K.View.map c.loop-k.keep c.loop-k.disk c.args.lot.now)
    c.args.inode.now c.loop-k.inode (blocks_for c.args.inode.now.size) c.map_length-count.result c.loop-k.k w
    (count-had c.args.inode.now.size c.args.at c.loop-k.k c.max-from.result c.map_length-count.result c.requires.reaches.reaches (omega arith) (omega arith))
    (λ l. c.loop-k.invariant.mixed s (omega arith)) p

pub loop-k-preserved : goal.loop-k-preserved
loop-k-preserved g c =
    let p = c.loop-k.invariant.pays in
    let q = c.in_ok-put_piece.ensures.pays in
    let r = c.put_piece.ensures.spent.room in
    let end : ℕ = c.args.at + length c.args.bytes.now in
    let size : ℕ = c.args.inode.now.size in
    let d = due-most (g.K.View.held c.args.keep.now) c.args.inode.now.single (blocks_for c.args.inode.now.size) in
    let few = few-pieces c.args.at (c.args.at + length c.args.bytes.now) c.loop-k.k (omega arith) (omega arith) in
    let n = count-now c.args.inode.now.size c.args.at (c.args.at + length c.args.bytes.now) c.loop-k.k c.max-from.result c.map_length-count.result (omega arith) (omega arith) (omega arith) (omega arith) in
    let m = count-next c.args.inode.now.size c.args.at (c.args.at + length c.args.bytes.now) c.loop-k.k (omega arith) (omega arith) (omega arith) in
    let before = ap (due (g.K.View.held c.loop-k.keep) c.loop-k.inode.single) n in
    let after = ap (due (g.K.View.held c.put_piece.new.keep) c.put_piece.new.inode.single) (ap (λ x. max x (c.loop-k.k + 1)) (sym n) ∙ m) in
    record {
      spent = spent-by g.D.Disk g.K.View c.args.lot.now 51 44 _ _ _ _ (spent-then g.D.Disk g.K.View c.args.lot.now 44 7 51 _ _ _ _ _ _ c.loop-k.invariant.spent c.put_piece.ensures.spent (omega arith)) (omega arith);
      pays = omega arith;
      written = λ s made.
          let w = c.loop-k.invariant.written s made in
          let made' = subst (λ d. MadeOf c.args.lot.now (g.K.View.map c.loop-k.keep c.loop-k.disk c.args.lot.now) c.loop-k.inode d) n w.moved.made in
          written-step c.args.lot.now (g.K.View.map c.args.keep.now c.args.disk.now c.args.lot.now) (g.K.View.map c.loop-k.keep c.loop-k.disk c.args.lot.now) (g.K.View.map c.put_piece.new.keep c.put_piece.new.disk c.args.lot.now)
          c.args.inode.now c.loop-k.inode c.put_piece.new.inode c.args.inode.now.size c.args.at (c.args.at + length c.args.bytes.now) c.loop-k.k c.max-from.result c.min-to.result c.map_length-count.result c.args.bytes.now _
          w (omega arith) (omega arith) (omega arith) refl refl (omega arith) (omega arith) (c.in_ok-put_piece.ensures.put (c.loop-k.invariant.spent.shows s) made');
      grew = λ s.
          let w = grew-at c.args.lot.now (g.K.View.map c.args.keep.now c.args.disk.now c.args.lot.now) (g.K.View.map c.loop-k.keep c.loop-k.disk c.args.lot.now) c.args.inode.now c.loop-k.inode (blocks_for c.args.inode.now.size) _ c.map_length-count.result n (c.loop-k.invariant.grew s) in
          let o = count-grows c.args.inode.now.size c.max-from.result in
          grew-at c.args.lot.now (g.K.View.map c.args.keep.now c.args.disk.now c.args.lot.now) (g.K.View.map c.put_piece.new.keep c.put_piece.new.disk c.args.lot.now) c.args.inode.now c.put_piece.new.inode (blocks_for c.args.inode.now.size) _ _ (ap (λ x. max x (c.loop-k.k + 1)) (sym n) ∙ m)
          (grew-then c.args.lot.now (g.K.View.map c.args.keep.now c.args.disk.now c.args.lot.now) (g.K.View.map c.loop-k.keep c.loop-k.disk c.args.lot.now) (g.K.View.map c.put_piece.new.keep c.put_piece.new.disk c.args.lot.now)
          c.args.inode.now c.loop-k.inode c.put_piece.new.inode (blocks_for c.args.inode.now.size) c.map_length-count.result (max c.map_length-count.result (c.loop-k.k + 1)) (omega arith) (omega arith) w (c.in_ok-put_piece.ensures.grew (c.loop-k.invariant.spent.shows s)));
      stays = λ s. inodes-then (g.K.View.map c.args.keep.now c.args.disk.now c.args.lot.now) (g.K.View.map c.loop-k.keep c.loop-k.disk c.args.lot.now) (g.K.View.map c.put_piece.new.keep c.put_piece.new.disk c.args.lot.now) (c.loop-k.invariant.stays s) (c.put_piece.ensures.stays (c.loop-k.invariant.spent.shows s));
      mixed = λ s l long.
          let w = grew-at c.args.lot.now (g.K.View.map c.args.keep.now c.args.disk.now c.args.lot.now) (g.K.View.map c.loop-k.keep c.loop-k.disk c.args.lot.now) c.args.inode.now c.loop-k.inode (blocks_for c.args.inode.now.size) _ c.map_length-count.result n (c.loop-k.invariant.grew s) in
          let o = count-grows c.args.inode.now.size c.max-from.result in
          unmixed-next c.args.lot.now (g.K.View.map c.args.keep.now c.args.disk.now c.args.lot.now) (g.K.View.map c.loop-k.keep c.loop-k.disk c.args.lot.now) (g.K.View.map c.put_piece.new.keep c.put_piece.new.disk c.args.lot.now)
          c.args.inode.now c.loop-k.inode (blocks_for c.args.inode.now.size) c.map_length-count.result c.loop-k.k w long (omega arith)
          (c.in_ok-put_piece.ensures.within (c.loop-k.invariant.spent.shows s) (omega arith)) (c.loop-k.invariant.mixed s (omega arith) long);
    }
