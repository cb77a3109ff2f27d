use Rattle.std.proofs.Common.{rules, arith}
use Rattle.std.proofs.lemmas.Grind.{common_steps}
use Rattle.ice_pool.proofs.EitherLaws.{free_next, bits_few}
use Rattle.ice_pool.proofs.find.free.Goals as goal

pub loop-ordinal-preserved : goal.loop-ordinal-preserved
loop-ordinal-preserved g c = record {
  looked = grind (arith, common_steps);
  small = omega (arith, bits_few c.args.inodes, c.bits.ensures);
  block = search rules;
  counted = λ t.
      let m = c.loop-ordinal.invariant.looked.map in
      let e = c.in_ok-fetch.ensures.content (c.loop-ordinal.invariant.looked.shows t) in
      free_next c.args.inodes (g.V.View.map c.args.view.now c.args.disk.now c.args.lot.now) c.fetch.new.into c.loop-ordinal.ordinal c.loop-ordinal.free c.bits.result c.count.result
      (cc) (c.loop-ordinal.invariant.counted t) c.bits.ensures c.count.ensures;
}
