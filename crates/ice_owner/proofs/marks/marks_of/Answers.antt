use Rattle.std.proofs.Common.{◌+◌, List, ℕ, replicate, sym, subst, arith}
use Rattle.std.proofs.lemmas.List.{length-replicate}
use Rattle.ice_owner.specs.Places.{AreMarks}
use Rattle.ice_owner.proofs.MarkLaws.{marks_none, zeros_at, marks_skip, marks_more}
use Rattle.ice_owner.proofs.marks.marks_of.Goals as goal
use Rattle.ice_owner.proofs.marks.marks_of.Goals.{then-k-counts, else-k-counts}

pub loop-k-init : goal.loop-k-init
loop-k-init c = marks_none c.args.counts.now c.args.places.now (replicate 1024 0) (length-replicate {A = ℕ} 1024 0) (zeros_at 1024)

pub loop-k-preserved : goal.loop-k-preserved
loop-k-preserved c =
    elim c.if-k-counts.branch [
      | then-k-counts w ↦ subst (λ (marks : List ℕ). AreMarks (c.loop-k.k + 1) c.args.counts.now c.args.places.now marks) (sym w.marks-is)
          (marks_more c.loop-k.k c.args.counts.now c.args.places.now c.loop-k.marks c.loop-k.invariant
          (omega arith) c.requires.small c.requires.apart w.if-k-counts.true)
      | else-k-counts w ↦ subst (λ (marks : List ℕ). AreMarks (c.loop-k.k + 1) c.args.counts.now c.args.places.now marks) (sym w.marks-is)
          (marks_skip c.loop-k.k c.args.counts.now c.args.places.now c.loop-k.marks c.loop-k.invariant w.if-k-counts.false)
    ]
