use Rattle.std.proofs.Common.{◌+◌, ◌∙◌, false, arith}
use Rattle.ice_base.proofs.LotLaws.{sited-few}
use Rattle.ice_map.proofs.CutLaws.{between-none, length-between, next-puts, next-gave, all-puts, all-self, give-room, next-free, zero-next}
use Rattle.ice_map.proofs.DamageLaws.{placed-none, placed-next}
use Rattle.ice_map.proofs.MarkLaws.{marked-refl}
use Rattle.ice_map.proofs.PutsLaws.{puts-then, puts-widen, puts-fail, puts-none, spent-none, spent-then, bitmaps-one}
use Rattle.ice_map.proofs.cuts.give_between.Goals as goal

pub loop-k-init : goal.loop-k-init
loop-k-init g c = record {
  spent = spent-none g.D.Disk g.K.View c.args.lot.now _ _ _;
  puts = puts-none g.K.View c.args.lot.now _ _ _;
  bitmaps = puts-none g.K.View c.args.lot.now _ _ _;
  gave = λ s. rw (between-none (λ _. c.args.block.now) c.args.inode.now c.args.rest c.args.rest (omega arith)) (marked-refl c.args.lot.now false _);
  placed = placed-none c.args.lot.now (λ _. c.args.block.now) c.args.inode.now c.args.rest;
}

pub returns-in-Err-clause-puts : goal.returns-in-Err-clause-puts
returns-in-Err-clause-puts g c = puts-fail g.K.View c.args.lot.now _ _ _ _ _ _ c.loop-k.invariant.puts (all-puts g.K.View c.args.lot.now (λ _. c.args.block.now) c.args.inode.now c.args.rest c.loop-k.k c.args.count (omega arith) (omega arith))

pub returns-in-Err-clause-bitmaps : goal.returns-in-Err-clause-bitmaps
returns-in-Err-clause-bitmaps g c = puts-fail g.K.View c.args.lot.now _ _ _ _ _ _ c.loop-k.invariant.bitmaps (all-self _)

pub give_block-requires-clause-room : goal.give_block-requires-clause-room
give_block-requires-clause-room g c =
    let data_place = c.in-Ok.ensures.data in
    let same = c.in-Ok.ensures.same in
    give-room g.K.View c.args.lot.now _ _ _ _ c.args.count c.args.rest c.loop-k.k c.in-Ok.at c.requires.room c.loop-k.invariant.spent.room c.loop-k.invariant.bitmaps (omega arith) (omega arith)
    (sited-few _ _ c.requires.sited) (cc)

pub returns-in-Err-give_block-clause-puts : goal.returns-in-Err-give_block-clause-puts
returns-in-Err-give_block-clause-puts g c =
    puts-widen g.K.View c.args.lot.now _ _ _ _ _ _ _
    (next-puts g.K.View c.args.lot.now (λ _. c.args.block.now) c.args.inode.now c.args.rest c.loop-k.k _ c.in-Ok.at _ _ _ _ _ _ (omega arith) (c.in-Ok.ensures.same ∙ c.entry.ensures) c.loop-k.invariant.puts c.in-Err-give_block.ensures.puts)
    (all-puts g.K.View c.args.lot.now (λ _. c.args.block.now) c.args.inode.now c.args.rest (c.loop-k.k + 1) c.args.count (omega arith) (omega arith))

pub returns-in-Err-give_block-clause-bitmaps : goal.returns-in-Err-give_block-clause-bitmaps
returns-in-Err-give_block-clause-bitmaps g c =
    let data_place = c.in-Ok.ensures.data in
    let same = c.in-Ok.ensures.same in
    puts-then g.K.View c.args.lot.now _ _ _ _ _ _ _ _ _ _ c.loop-k.invariant.bitmaps c.in-Err-give_block.ensures.puts (all-self _) (bitmaps-one c.args.lot.now c.in-Ok.at (cc))

pub returns-in-Err-give_block-clause-zero : goal.returns-in-Err-give_block-clause-zero
returns-in-Err-give_block-clause-zero g c = λ e s.
    let z = zero-next c.args.lot.now _ _ _ (c.loop-k.invariant.gave s) (c.in-Err-give_block.ensures.zero e (c.loop-k.invariant.spent.shows s)) in
    let l = length-between (λ _. c.args.block.now) c.args.inode.now c.args.rest c.loop-k.k in
    omega arith

pub returns-in-Err-give_block-clause-unused : goal.returns-in-Err-give_block-clause-unused
returns-in-Err-give_block-clause-unused g c = λ e s.
    next-free c.args.lot.now (λ _. c.args.block.now) c.args.inode.now c.args.rest c.loop-k.k c.args.count _ _ c.in-Ok.at (omega arith) (omega arith) (c.in-Ok.ensures.same ∙ c.entry.ensures)
    (c.loop-k.invariant.gave s) (c.in-Err-give_block.ensures.unused e (c.loop-k.invariant.spent.shows s))

pub loop-k-preserved : goal.loop-k-preserved
loop-k-preserved g c =
    let same = c.in-Ok.ensures.same ∙ c.entry.ensures in
    let first = c.in-Ok.ensures.same in
    let data_place = c.in-Ok.ensures.data in
    record {
      spent = spent-then g.D.Disk g.K.View c.args.lot.now _ _ _ _ _ _ _ _ _ c.loop-k.invariant.spent c.give_block.ensures.spent (omega arith);
      puts = next-puts g.K.View c.args.lot.now (λ _. c.args.block.now) c.args.inode.now c.args.rest c.loop-k.k _ c.in-Ok.at _ _ _ _ _ _ (omega arith) same c.loop-k.invariant.puts c.in-Ok-give_block.ensures.puts;
      bitmaps = puts-then g.K.View c.args.lot.now _ _ _ _ _ _ _ _ _ _ c.loop-k.invariant.bitmaps c.in-Ok-give_block.ensures.puts (all-self _) (bitmaps-one c.args.lot.now c.in-Ok.at (cc));
      gave = λ s. next-gave c.args.lot.now (λ _. c.args.block.now) c.args.inode.now c.args.rest c.loop-k.k _ _ _ c.in-Ok.at (omega arith) same (cc) (c.loop-k.invariant.gave s) (c.in-Ok-give_block.ensures.gave (c.loop-k.invariant.spent.shows s)) c.in-Ok-give_block.ensures.puts.only;
      placed = placed-next c.args.lot.now (λ _. c.args.block.now) c.args.inode.now c.args.rest c.loop-k.k c.in-Ok.at (omega arith) same (cc) c.loop-k.invariant.placed;
    }
