use Rattle.std.proofs.Common.{rules, ◌<◌, ℕ, List, false, refl, sym, ◌∙◌, subst, arith}
use Rattle.ice_base.specs.Used.{free_count}
use Rattle.ice_base.proofs.LotLaws.{sited-few}
use Rattle.ice_base.proofs.PutsLaws.{puts_after}
use Rattle.ice_map.specs.Maps.{needs}
use Rattle.ice_map.proofs.GrowLaws.{stays-none, stays-one, stays-own, stays-from, others-stay, grown-direct, grown-first, grown-single, grown-from, grown-twelve, two-free}
use Rattle.ice_map.proofs.FailLaws.{on-err, failed-one, failed-two, failed-first, failed-at_once}
use Rattle.ice_map.proofs.ShortLaws.{short_all, short_laws}
use Rattle.ice_map.proofs.extends.extend.Goals as goal

-- a pointer of the inode
pub returns-in_err-taken-clause-broken : goal.returns-in_err-taken-clause-broken
returns-in_err-taken-clause-broken g c =
    let p = c.in_err-taken.ensures.broken in
    on-err _ _ (failed-one g.K.View c.args.lot.now c.args.inode.now c.args.count p.0 _ _ _ _ p.2)

pub returns-in_err-taken-clause-stays : goal.returns-in_err-taken-clause-stays
returns-in_err-taken-clause-stays g c = λ s.
    let p = c.in_err-taken.ensures.broken in
    stays-none _ _ _ _ (sited-few _ _ c.requires.sited) (λ b n h. p.2.only b n (h p.0))

pub returns-in_err-taken-clause-others : goal.returns-in_err-taken-clause-others
returns-in_err-taken-clause-others g c = λ s. others-stay _ _ _ c.args.inode.now c.args.count (returns-in_err-taken-clause-stays g c s)

pub returns-in_err-taken-clause-exact : goal.returns-in_err-taken-clause-exact
returns-in_err-taken-clause-exact g c = λ s few. let e = c.in_err-taken.ensures.exact s (short_all c.args.lot.now (g.K.View.map c.args.keep.now c.args.disk.now c.args.lot.now) c.args.count (omega (arith, c.if-count-lt12.true)) few) in search (rules, short_laws)

pub returns-then-count-lt12-clause-grown : goal.returns-then-count-lt12-clause-grown
returns-then-count-lt12-clause-grown g c = λ s. grown-direct _ _ _ _ _ _ _ c.set_direct.ensures.set refl (omega (arith, c.if-count-lt12.true)) c.set_direct.ensures.long c.in_ok-taken.ensures.data (c.in_ok-taken.ensures.took s) c.in_ok-taken.ensures.puts.only

pub returns-then-count-lt12-clause-stays : goal.returns-then-count-lt12-clause-stays
returns-then-count-lt12-clause-stays g c = λ s. stays-none _ _ _ _ (sited-few _ _ c.requires.sited) (λ b n h. c.in_ok-taken.ensures.puts.only b n (h _))

pub returns-then-count-lt12-clause-others : goal.returns-then-count-lt12-clause-others
returns-then-count-lt12-clause-others g c = λ s. others-stay _ _ _ c.args.inode.now c.args.count (returns-then-count-lt12-clause-stays g c s)

-- a new indirect block
pub returns-in_err-first-clause-broken : goal.returns-in_err-first-clause-broken
returns-in_err-first-clause-broken g c =
    let p = c.in_err-first.ensures.broken in
    on-err _ _ (failed-two g.K.View c.args.lot.now c.args.inode.now c.args.count p.0 p.1 _ _ _ _ (omega (arith, c.if-count-eq12.true))
    (puts_after g.D.Disk g.K.View c.args.lot.now _ _ _ _ _ _ _ _ c.free_blocks.ensures.looked p.2))

pub returns-in_err-first-clause-stays : goal.returns-in_err-first-clause-stays
returns-in_err-first-clause-stays g c = λ s. stays-from _ _ _ _ _ c.free_blocks.ensures.looked.map (stays-none c.args.lot.now _ _ _ (sited-few _ _ c.requires.sited) c.take_two.ensures.others)

pub returns-in_err-first-clause-others : goal.returns-in_err-first-clause-others
returns-in_err-first-clause-others g c = λ s. others-stay _ _ _ c.args.inode.now c.args.count (returns-in_err-first-clause-stays g c s)

pub returns-in_err-store-clause-broken : goal.returns-in_err-store-clause-broken
returns-in_err-store-clause-broken g c =
    on-err _ _ (failed-first g.K.View c.args.lot.now c.args.inode.now c.args.count c.in_ok-first.first c.in_ok-first.indirect _ _ _ _ (omega (arith, c.if-count-eq12.true))
    (puts_after g.D.Disk g.K.View c.args.lot.now _ _ _ _ _ _ _ _ c.free_blocks.ensures.looked
    (record {
      only = λ b n h k l. c.in_err-store.ensures.puts.only b k ∙ c.in_ok-first.ensures.only b n h l;
      pays = λ wide h i k l. let p = c.in_ok-first.ensures.pays wide h i l in let q = c.in_err-store.ensures.puts.pays wide k in omega arith;
    })))

pub returns-in_err-store-clause-stays : goal.returns-in_err-store-clause-stays
returns-in_err-store-clause-stays g c = λ s. stays-from _ _ _ _ _ c.free_blocks.ensures.looked.map
    (stays-one c.args.lot.now _ _ _ c.in_ok-first.indirect (sited-few _ _ c.requires.sited) c.in_ok-first.ensures.second
    (λ h. two-free _ _ _ _ _ (c.in_ok-first.ensures.took (c.free_blocks.ensures.looked.shows s)))
    (λ b n h k. c.store.ensures.puts.only b k ∙ c.take_two.ensures.others b n h))

pub returns-in_err-store-clause-others : goal.returns-in_err-store-clause-others
returns-in_err-store-clause-others g c = λ s. others-stay _ _ _ c.args.inode.now c.args.count (returns-in_err-store-clause-stays g c s)

pub returns-then-count-eq12-clause-grown : goal.returns-then-count-eq12-clause-grown
returns-then-count-eq12-clause-grown g c = λ s.
    let t = c.free_blocks.ensures.looked.shows s in
    grown-twelve _ _ _ _ _ _ _ (omega (arith, c.if-count-eq12.true)) (grown-from _ _ _ _ _ _ _ _ c.free_blocks.ensures.looked.map
    (grown-first c.args.lot.now _ (g.K.View.map c.take_two.new.keep c.take_two.new.disk c.args.lot.now) _ _ _ _ c.write_u32.new.block _ c.in_ok-first.indirect refl refl
    (sited-few _ _ c.requires.sited) c.in_ok-first.ensures.second (c.in_ok-first.ensures.took t) refl c.write_u32.ensures
    (c.in_ok-store.ensures.content (c.take_two.ensures.spent.shows t))
    c.in_ok-store.ensures.puts.only))

pub returns-then-count-eq12-clause-stays : goal.returns-then-count-eq12-clause-stays
returns-then-count-eq12-clause-stays g c = λ s. stays-from _ _ _ _ _ c.free_blocks.ensures.looked.map
    (stays-one c.args.lot.now _ _ _ c.in_ok-first.indirect (sited-few _ _ c.requires.sited) c.in_ok-first.ensures.second
    (λ h. two-free _ _ _ _ _ (c.in_ok-first.ensures.took (c.free_blocks.ensures.looked.shows s)))
    (λ b n h k. c.store.ensures.puts.only b k ∙ c.take_two.ensures.others b n h))

pub returns-then-count-eq12-clause-others : goal.returns-then-count-eq12-clause-others
returns-then-count-eq12-clause-others g c = λ s. others-stay _ _ _ c.args.inode.now c.args.count (returns-then-count-eq12-clause-stays g c s)

-- a pointer of the indirect block
pub returns-in_err-single-clause-broken : goal.returns-in_err-single-clause-broken
returns-in_err-single-clause-broken g c = on-err _ _ (failed-at_once g.K.View c.args.lot.now c.args.inode.now c.args.count _ _)

pub returns-in_err-next-clause-broken : goal.returns-in_err-next-clause-broken
returns-in_err-next-clause-broken g c =
    let p = c.in_err-next.ensures.broken in
    on-err _ _ (failed-one g.K.View c.args.lot.now c.args.inode.now c.args.count p.0 _ _ _ _
    (puts_after g.D.Disk g.K.View c.args.lot.now _ _ _ _ _ _ _ _ c.fetch.ensures.looked p.2))

pub returns-in_err-next-clause-stays : goal.returns-in_err-next-clause-stays
returns-in_err-next-clause-stays g c = λ s.
    let p = c.in_err-next.ensures.broken in
    stays-from _ _ _ _ _ c.fetch.ensures.looked.map (stays-none c.args.lot.now _ _ _ (sited-few _ _ c.requires.sited) (λ b n h. p.2.only b n (h p.0)))

pub returns-in_err-next-clause-others : goal.returns-in_err-next-clause-others
returns-in_err-next-clause-others g c = λ s. others-stay _ _ _ c.args.inode.now c.args.count (returns-in_err-next-clause-stays g c s)

pub returns-in_err-next-clause-exact : goal.returns-in_err-next-clause-exact
returns-in_err-next-clause-exact g c = λ s few.
    let m = c.fetch.ensures.looked.map in
    let now = subst (λ (m : ℕ → List ℕ). free_count false c.args.lot.now m < needs c.args.count) (sym m) few in
    let all = short_all c.args.lot.now (g.K.View.map c.fetch.new.view c.fetch.new.disk c.args.lot.now) c.args.count (omega (arith, c.if-count-eq12.false)) now in
    let e = c.in_err-next.ensures.exact (c.fetch.ensures.looked.shows s) all in search (rules, short_laws)

pub returns-in_err-store-2-clause-stays : goal.returns-in_err-store-2-clause-stays
returns-in_err-store-2-clause-stays g c = λ s.
    let e = c.in_ok-single.ensures.same in
    stays-from _ _ _ _ _ c.fetch.ensures.looked.map
    (stays-own c.args.lot.now _ _ c.args.inode.now c.args.count (omega (arith, c.if-count-lt12.false, c.if-count-eq12.false)) (sited-few _ _ c.requires.sited) c.in_ok-single.ensures.data
    (λ b n h k. c.store-2.ensures.puts.only b (λ q. k (q ∙ e)) ∙ c.in_ok-next.ensures.puts.only b n (h _)))

pub returns-in_err-store-2-clause-others : goal.returns-in_err-store-2-clause-others
returns-in_err-store-2-clause-others g c = λ s. others-stay _ _ _ c.args.inode.now c.args.count (returns-in_err-store-2-clause-stays g c s)

pub returns-clause-grown : goal.returns-clause-grown
returns-clause-grown g c = λ s.
    let e = c.in_ok-single.ensures.same in
    let t = c.fetch.ensures.looked.shows s in
    let read = c.in_ok-fetch.ensures.content s in
    let m = c.fetch.ensures.looked.map in
    let put = c.in_ok-store-2.ensures.content (c.take_block-2.ensures.spent.shows t) in
    grown-from _ _ _ _ _ _ _ _ m
    (grown-single c.args.lot.now (g.K.View.map c.fetch.new.view c.fetch.new.disk c.args.lot.now) (g.K.View.map c.take_block-2.new.keep c.take_block-2.new.disk c.args.lot.now) (g.K.View.map c.store-2.new.keep c.store-2.new.disk c.args.lot.now)
    c.args.inode.now c.fetch.new.into c.write_u32-2.new.block c.args.count c.in_ok-next.next (omega (arith, c.if-count-lt12.false, c.if-count-eq12.false))
    (sited-few _ _ c.requires.sited) c.in_ok-single.ensures.data c.in_ok-next.ensures.data (c.in_ok-next.ensures.took t) c.in_ok-next.ensures.puts.only
    (cc) c.write_u32-2.ensures (cc)
    (λ b k. c.in_ok-store-2.ensures.puts.only b (λ q. k (q ∙ e))))

pub returns-clause-stays : goal.returns-clause-stays
returns-clause-stays g c = λ s.
    let e = c.in_ok-single.ensures.same in
    stays-from _ _ _ _ _ c.fetch.ensures.looked.map
    (stays-own c.args.lot.now _ _ c.args.inode.now c.args.count (omega (arith, c.if-count-lt12.false, c.if-count-eq12.false)) (sited-few _ _ c.requires.sited) c.in_ok-single.ensures.data
    (λ b n h k. c.store-2.ensures.puts.only b (λ q. k (q ∙ e)) ∙ c.in_ok-next.ensures.puts.only b n (h _)))

pub returns-clause-others : goal.returns-clause-others
returns-clause-others g c = λ s. others-stay _ _ _ c.args.inode.now c.args.count (returns-clause-stays g c s)
