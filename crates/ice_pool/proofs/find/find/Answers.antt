use Rattle.std.proofs.Common.{rules, arith}
use Rattle.std.proofs.lemmas.Grind.{common_steps}
use Rattle.ice_base.proofs.UsedLaws.{group_least, group_full}
use Rattle.ice_pool.proofs.EitherLaws.{unreserved_at, not_all}
use Rattle.ice_pool.proofs.find.find.Goals as goal

pub returns-in-Some-clause-least : goal.returns-in-Some-clause-least
returns-in-Some-clause-least g c = λ t.
    let m = c.loop-ordinal.invariant.looked.map in
    let e = c.in_ok-fetch.ensures.content (c.loop-ordinal.invariant.looked.shows t) in
    rw (c.number.ensures) (group_least c.args.inodes (g.V.View.map c.args.view.now c.args.disk.now c.args.lot.now) c.fetch.new.into c.loop-ordinal.ordinal c.in-Some.i (cc)
    c.in-Some.ensures.small c.in-Some.ensures.clear c.in-Some.ensures.least (c.loop-ordinal.invariant.full t))

pub loop-ordinal-preserved : goal.loop-ordinal-preserved
loop-ordinal-preserved g c = record {
  looked = grind (arith, common_steps);
  full = λ t.
      let m = c.loop-ordinal.invariant.looked.map in
      let e = c.in_ok-fetch.ensures.content (c.loop-ordinal.invariant.looked.shows t) in
      group_full c.args.inodes (g.V.View.map c.args.view.now c.args.disk.now c.args.lot.now) c.fetch.new.into c.loop-ordinal.ordinal (cc)
      c.in_default.ensures.full (c.loop-ordinal.invariant.full t);
}

pub returns-then-i-lt9-clause-unreserved : goal.returns-then-i-lt9-clause-unreserved
returns-then-i-lt9-clause-unreserved g c = λ _ t.
    let m = c.loop-ordinal.invariant.looked.map in
    let e = c.in_ok-fetch.ensures.content (c.loop-ordinal.invariant.looked.shows t) in
    unreserved_at c.args.inodes c.args.lot.now (g.V.View.map c.args.view.now c.args.disk.now c.args.lot.now) c.fetch.new.into c.loop-ordinal.ordinal c.in-Some.i
    (search rules) (cc) (omega arith) (omega arith) c.in-Some.ensures.clear

pub returns-then-i-lt9-clause-exact : goal.returns-then-i-lt9-clause-exact
returns-then-i-lt9-clause-exact g c = λ t all.
    let m = c.loop-ordinal.invariant.looked.map in
    let e = c.in_ok-fetch.ensures.content (c.loop-ordinal.invariant.looked.shows t) in
    absurd (not_all c.args.inodes c.args.lot.now (g.V.View.map c.args.view.now c.args.disk.now c.args.lot.now) c.fetch.new.into c.loop-ordinal.ordinal c.in-Some.i
    (cc) (omega arith) c.in-Some.ensures.small c.in-Some.ensures.clear all)
