use Rattle.std.proofs.Common.{◌≡◌, ◌∙◌, ◌+◌, ◌==◌, ℕ, true, false, sym, ap, arith}
use Rattle.std.specs.Prelude.{slice_index}
use Rattle.std.proofs.lemmas.Bool.Decides.{nat_tests}
use Rattle.ice_owner.proofs.Filters.{count_next}
use Rattle.ice_owner.proofs.marks.count_free.Goals as goal
use Rattle.ice_owner.proofs.marks.count_free.Goals.{then-marks-g-eq0, else-marks-g-eq0}

pub loop-g-preserved : goal.loop-g-preserved
loop-g-preserved c =
    elim c.if-marks-g-eq0.branch [
      | then-marks-g-eq0 w ↦
          let is : (slice_index c.args.marks.now c.loop-g.g == 0) ≡ true = grind (arith, nat_tests) in record {
            counted = w.free-is ∙ ap (λ (n : ℕ). n + 1) c.loop-g.invariant.counted
                ∙ sym (count_next (λ h. slice_index c.args.marks.now h == 0) c.loop-g.g true is);
            few = omega (arith, w.free-is, c.loop-g.invariant.few);
          }
      | else-marks-g-eq0 w ↦
          let is : (slice_index c.args.marks.now c.loop-g.g == 0) ≡ false = grind (arith, nat_tests) in record {
            counted = omega (arith, w.free-is, c.loop-g.invariant.counted, count_next (λ h. slice_index c.args.marks.now h == 0) c.loop-g.g false is);
            few = omega (arith, w.free-is, c.loop-g.invariant.few);
          }
    ]
