use Rattle.std.proofs.Common.{rules, ◌<◌, ◌≤◌, ◌+◌, ℕ, length, slice_index, inl, inr, ap, ◌∙◌, arith}
use Rattle.ice_base.specs.Disk.{block}
use Rattle.ice_journal.specs.Blocks.{IsTargetPlace}
use Rattle.ice_journal.proofs.Loops.{wrote_more}
use Rattle.ice_journal.proofs.settle.write_targets.Goals as goal

pub copy_block-requires-clause-from : goal.copy_block-requires-clause-from
copy_block-requires-clause-from g c =
    let at = g.J.Journal.places c.args.journal.now in
    let less : c.loop-i.i < length c.args.targets.now = omega arith in
    let here = c.requires.below (at.body + c.loop-i.i) (inr (inl (inr (omega arith, omega (arith, less, c.requires.targets.few))))) in
    omega (arith, here, c.requires.area.body, c.loop-i.invariant.frame.size)

pub copy_block-requires-clause-to : goal.copy_block-requires-clause-to
copy_block-requires-clause-to g c =
    let less : c.loop-i.i < length c.args.targets.now = omega arith in
    let here = c.requires.below c.home-home.result (inr (inr (slice_index c.args.targets.now c.loop-i.i, c.requires.targets.homes c.loop-i.i less, c.home-home.ensures))) in
    omega (arith, here, c.loop-i.invariant.frame.size)

pub loop-i-preserved : goal.loop-i-preserved
loop-i-preserved g c =
    let ts = c.args.targets.now in
    let at = g.J.Journal.places c.args.journal.now in
    let old = (g.D.Disk.state c.args.disk.now).now in
    let less : c.loop-i.i < length ts = omega arith in
    let few : length ts ≤ g.J.Journal.most c.args.journal.now = c.requires.targets.few in
    let apart = c.requires.area.apart in
    wrote_more g.D.Disk.state g.D.Disk.left (IsTargetPlace at ts) (λ j. at.place (slice_index ts j)) (λ j. block old (at.body + j)) c.loop-i.i c.args.disk.now c.loop-i.disk c.copy_block.new.disk
    c.home-home.result c.home-home.ensures (c.loop-i.i, less, c.home-home.ensures) c.loop-i.invariant c.copy_block.ensures.within c.in_ok-copy_block.ensures.calm
    (λ told. c.in_ok-copy_block.ensures.bytes told ∙ ap (λ (k : ℕ). block (g.D.Disk.state c.loop-i.disk).now (k + c.loop-i.i)) c.requires.area.body
    ∙ c.loop-i.invariant.frame.same (at.body + c.loop-i.i) (λ is. apart.home_body (slice_index ts is.0) (c.requires.targets.homes is.0 is.1) (omega (arith, is.2), omega (arith, is.2, less, few))))
    (λ told. search rules)
    (λ j before e. c.requires.targets.differ j c.loop-i.i before less
    (apart.home_home (slice_index ts j) (slice_index ts c.loop-i.i) (c.requires.targets.homes j (omega (arith, before, less))) (c.requires.targets.homes c.loop-i.i less) e))
