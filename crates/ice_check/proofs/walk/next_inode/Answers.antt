use Rattle.ice_check.proofs.VisitLaws.{good_here, number_broken}
use Rattle.ice_check.proofs.walk.next_inode.Goals as goal

pub returns-then-not-is_namable-clause-broken : goal.returns-then-not-is_namable-clause-broken
returns-then-not-is_namable-clause-broken g c = λ m w number s hand looks below.
    number_broken c.args.lot.now m number c.args.k c.in_ok-next.next _ (c.in_ok-next.ensures.row m number s hand) w looks (c.is_namable.ensures.no c.if-not-is_namable.true)

pub returns-clause-good : goal.returns-clause-good
returns-clause-good g c = λ m number s hand new.
    good_here c.args.lot.now m number c.args.k c.in_ok-next.next _ (c.in_ok-next.ensures.row m number s hand) new c.in_ok-next.ensures.fits (c.is_namable.ensures.yes c.if-not-is_namable.false)

pub returns-clause-below : goal.returns-clause-below
returns-clause-below g c = (c.is_namable.ensures.yes c.if-not-is_namable.false).below
