use Rattle.std.proofs.Common.{◌≡◌, ◌∙◌, ◌+◌, ◌<◌, ◌==◌, ℕ, true, false, sym, ap, subst, arith}
use Rattle.std.specs.Prelude.{slice_index}
use Rattle.std.proofs.lemmas.Bool.Decides.{nat_tests}
use Rattle.ice_owner.specs.Owners.{OwnersView}
use Rattle.ice_owner.specs.Places.{mark_slot}
use Rattle.ice_owner.proofs.Filters.{IsPushed, free_mark, pushed_none, pushed_more, pushed_full, pushed_skip, pushed_free, pushed_room, pushed_all}
use Rattle.ice_owner.proofs.owners.Owners.push_free.Goals as goal
use Rattle.ice_owner.proofs.owners.Owners.push_free.Goals.{then-left-gt0+then-marks-g-eq0, else-left-gt0, else-left-gt0-via-then-left-gt0+else-marks-g-eq0, else-left-gt0-via-else-left-gt0}

pub loop-g-init : goal.loop-g-init
loop-g-init c = pushed_none c.args.self.now c.args.slot c.args.count

pub push-requires-clause-room : goal.push-requires-clause-room
push-requires-clause-room c =
    pushed_room c.args.self.now c.loop-g.self c.args.slot c.args.count c.loop-g.left c.loop-g.g c.loop-g.invariant c.requires.room
    c.if-left-gt0.true

pub push-requires-clause-small : goal.push-requires-clause-small
push-requires-clause-small c = omega (arith, c.loop-g-test.true, ap (λ (v : OwnersView). v.groups) c.self.view_is, c.loop-g.invariant.pushed.size)

pub push-requires-clause-free : goal.push-requires-clause-free
push-requires-clause-free c =
    pushed_free c.args.self.now c.loop-g.self c.args.slot c.args.count c.loop-g.left c.loop-g.g c.loop-g.invariant
    (c.marks-marks.ensures.holders c.loop-g.g ∙ ap mark_slot c.if-marks-g-eq0.true)

pub loop-g-preserved : goal.loop-g-preserved
loop-g-preserved c =
    let v = c.args.self.now in
    let marks = c.marks-marks.result in
    let g = c.loop-g.g in
    let low : g < v.groups = omega (arith, c.loop-g-test.true, ap (λ (v : OwnersView). v.groups) c.self.view_is) in
    let mark = free_mark v marks c.marks-marks.ensures.holders g low in
    elim c.if-left-gt0.branch [
      | then-left-gt0+then-marks-g-eq0 w ↦
          let is : (slice_index marks g == 0) ≡ true = let zero : slice_index marks g ≡ 0 = w.if-marks-g-eq0.true in grind (arith, nat_tests) in
          subst (λ (u : OwnersView). IsPushed v u c.args.slot c.args.count c.if-left-gt0.left (g + 1)) (sym w.self-is)
          (pushed_more v c.loop-g.self c.args.slot c.args.count c.loop-g.left g c.loop-g.invariant w.push.new.self c.if-left-gt0.left
          (mark ∙ is) (omega (arith, w.left-is, w.if-left-gt0.true)) w.push.ensures.pushed)
      | else-left-gt0 w ↦
          subst (λ (u : OwnersView). IsPushed v u c.args.slot c.args.count c.if-left-gt0.left (g + 1)) (sym w.self-is)
          (subst (λ (left : ℕ). IsPushed v c.loop-g.self c.args.slot c.args.count left (g + 1)) (sym w.left-is)
          (elim w.else-left-gt0.branch [
            | else-left-gt0-via-then-left-gt0+else-marks-g-eq0 w' ↦
                let is : (slice_index marks g == 0) ≡ false = let other = w'.if-marks-g-eq0.false in grind (arith, nat_tests) in
                pushed_skip v c.loop-g.self c.args.slot c.args.count c.loop-g.left g c.loop-g.invariant (mark ∙ is)
            | else-left-gt0-via-else-left-gt0 w' ↦ pushed_full v c.loop-g.self c.args.slot c.args.count c.loop-g.left g c.loop-g.invariant
                (omega (arith, w'.if-left-gt0.false))
          ]))
    ]

pub returns-clause-pushed : goal.returns-clause-pushed
returns-clause-pushed c =
    pushed_all c.args.self.now c.loop-g.self c.args.slot c.args.count c.loop-g.left c.loop-g.g c.loop-g.invariant
    (omega (arith, c.loop-g-test.false, c.loop-g.auto.g-end, ap (λ (v : OwnersView). v.groups) c.self.view_is))
