use Rattle.std.proofs.Common.{subst, arith, length-set}
use Rattle.ice_check.specs.declared.names.Kept.{Kept}
use Rattle.ice_check.specs.Marks.{AreRead}
use Rattle.ice_check.specs.Names.{array_names}
use Rattle.ice_check.proofs.NameLaws.{read_more}
use Rattle.ice_check.proofs.ShownLaws.{still_shows, looked_then}
use Rattle.ice_check.proofs.rows.read_names.Goals as goal

pub loop-k-preserved : goal.loop-k-preserved
loop-k-preserved g c = record {
  looked = looked_then g.D.Disk g.V.View _ _ _ _ _ _ _ c.loop-k.invariant.looked c.read_entry.ensures.looked;
  long = omega (arith, length-set {A = Kept}, c.loop-k.invariant.long);
  names = λ m number s hand. read_more m number c.loop-k.k c.in_ok-_next._next _ c.loop-k.names c.keep.result (omega (arith, c.loop-k-test.true, c.requires.room, c.loop-k.auto.names))
      (c.in_ok-_next.ensures.row m number (still_shows g.D.Disk g.V.View _ _ _ _ _ m c.loop-k.invariant.looked s) hand) c.keep.ensures c.in_ok-_next.ensures.fits (c.loop-k.invariant.names m number s hand);
}

pub returns-clause-names : goal.returns-clause-names
returns-clause-names g c = λ m number s hand. subst (λ n. AreRead m number n (array_names c.loop-k.names)) (let h = c.loop-k-test.false in let e = c.loop-k.auto.k-end in omega arith) (c.loop-k.invariant.names m number s hand)
