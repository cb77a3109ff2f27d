use Rattle.std.proofs.Common.{rules, inl, inr, ⊎_elim, ◌+◌, ◌*◌, ◌∙◌, subst, arith}
use Rattle.std.proofs.lemmas.Grind.{common_steps}
use Rattle.disk_file.proofs.Pieces.{written_more}
use Rattle.disk_file.proofs.whole.write_whole.Goals as goal
use Rattle.disk_file.proofs.whole.write_whole.Goals.{in-Ok, in-Err}

pub loop-preserved : goal.loop-preserved
loop-preserved g c =
    let inv = c.loop.invariant in
    let start = c.from-start.ensures in
    elim c.match-write_piece.branch [
      | in-Ok w ↦ record {
        few = omega (arith, w.done-is, w.in-Ok.ensures.count);
        written = λ t. let told = inv.still ∙ t in
            let count = w.in-Ok.ensures.count in
            let is = w.done-is in
            λ j less. written_more (g.F.Places.byte c.loop.file) (g.F.Places.byte c.write_piece.new.self) (1024 * c.args.at) c.loop.done w.in-Ok.count c.args.from.now
            (inv.written t)
            (λ i l. let h = w.in-Ok.ensures.here told i l in grind (arith, common_steps))
            (λ k s. w.in-Ok.ensures.others told k (⊎_elim (λ low. inl (omega arith)) (λ high. inr (omega arith)) s))
            j (omega arith);
        others = λ t k s. w.in-Ok.ensures.others (inv.still ∙ t) k (let count = w.in-Ok.ensures.count in let few = inv.few in ⊎_elim (λ low. inl (omega arith)) (λ high. inr (omega arith)) s) ∙ inv.others t k s;
        still = w.in-Ok.ensures.still ∙ inv.still;
      }
      | in-Err w ↦ record {
        few = omega (arith, w.done-is);
        written = λ t j less. w.in-Err.ensures.none (inv.still ∙ t) (1024 * c.args.at + j) ∙ inv.written t j (omega (arith, w.done-is));
        others = λ t k s. w.in-Err.ensures.none (inv.still ∙ t) k ∙ inv.others t k s;
        still = w.in-Err.ensures.still ∙ inv.still;
      }
    ]
