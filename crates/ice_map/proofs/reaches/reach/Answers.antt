use Rattle.std.proofs.Common.{◌≡◌, ◌+◌, max, ℕ, Err, sym, ap, subst, inl, arith}
use Rattle.std.proofs.lemmas.Result.{err_from_is_err_and}
use Rattle.ice_map.specs.Moves.{due, HadBlock}
use Rattle.ice_map.proofs.DamageLaws.{refused-look, refused-growth}
use Rattle.ice_map.proofs.DueLaws.{due-grow, due-same}
use Rattle.ice_map.proofs.GrowthLaws.{grew-one}
use Rattle.ice_map.proofs.MoveLaws.{grown-reached, had-reached, widened-single}
use Rattle.ice_map.proofs.reaches.reach.Goals as goal

pub returns-then-k-count-clause-reached : goal.returns-then-k-count-clause-reached
returns-then-k-count-clause-reached g c = λ s made.
    let m = c.nth.ensures.looked.map in
    let seen = g.K.View.map c.args.keep.now c.args.disk.now c.args.lot.now in
    let r = had-reached c.args.lot.now seen c.args.inode.now c.args.count c.args.k c.in_ok-at.at made (omega arith) (c.in_ok-at.ensures.block s) in
    subst (λ (now : ℕ → _). HadBlock c.args.lot.now seen now c.args.inode.now c.args.inode.now c.args.count c.args.k c.in_ok-at.at) (sym m) r

pub returns-then-k-count-clause-pays : goal.returns-then-k-count-clause-pays
returns-then-k-count-clause-pays g c =
    let h = c.nth.ensures.looked.held in
    let r = c.nth.ensures.looked.room in
    let d = due-same (g.K.View.held c.args.keep.now) (g.K.View.held c.nth.new.view) c.args.inode.now.single c.args.count (max c.args.count (c.args.k + 1)) h (omega arith) in
    omega arith

pub returns-clause-reached : goal.returns-clause-reached
returns-clause-reached g c = λ s made.
    grown-reached c.args.lot.now _ _ c.args.inode.now c.extend.new.inode c.args.count c.in_ok-taken.taken made (c.in_ok-taken.ensures.grown s) (c.extend.ensures.stays s) c.in_ok-taken.ensures.data c.in_ok-taken.ensures.single c.in_ok-taken.ensures.fields c.args.k (omega arith)

pub returns-clause-pays : goal.returns-clause-pays
returns-clause-pays g c =
    let e : max c.args.count (c.args.k + 1) ≡ c.args.count + 1 = omega arith in
    let p = due-grow (g.K.View.held c.args.keep.now) (g.K.View.held c.extend.new.keep) (g.K.View.room c.args.keep.now) (g.K.View.room c.extend.new.keep) c.args.count c.in_ok-taken.taken c.args.inode.now.single c.extend.new.inode.single c.in_ok-taken.ensures.puts.pays
    (λ ne. widened-single c.args.inode.now c.extend.new.inode c.args.count c.in_ok-taken.taken c.in_ok-taken.ensures.fields ne) in
    let f = ap (due (g.K.View.held c.extend.new.keep) c.extend.new.inode.single) e in
    omega arith

pub returns-clause-grew : goal.returns-clause-grew
returns-clause-grew g c = λ s.
    grew-one c.args.lot.now _ _ c.args.inode.now c.extend.new.inode c.args.count (max c.args.count (c.args.k + 1)) c.in_ok-taken.taken (c.in_ok-taken.ensures.grown s) c.in_ok-taken.ensures.data c.in_ok-taken.ensures.single c.in_ok-taken.ensures.fields (omega arith)

pub returns-then-k-count-clause-had : goal.returns-then-k-count-clause-had
returns-then-k-count-clause-had g c = λ s l. (c.in_ok-at.ensures.block s, c.nth.ensures.looked.map)

pub returns-clause-had : goal.returns-clause-had
returns-clause-had g c = λ s l. absurd (omega arith)

pub returns-in_err-at-clause-refused : goal.returns-in_err-at-clause-refused
returns-in_err-at-clause-refused g c = λ s.
    let p = err_from_is_err_and c.from_residual.result c.from_residual.ensures.1 in
    let e = c.in_err-at.ensures in
    rw (p.1, p.2)
    (refused-look c.args.lot.now (g.K.View.map c.args.keep.now c.args.disk.now c.args.lot.now) c.args.inode.now c.args.count c.args.k _ e.faults
    (λ q. inl (omega arith, e.damaged (ap (λ y. Err y) q) s)))

pub returns-in_err-taken-clause-refused : goal.returns-in_err-taken-clause-refused
returns-in_err-taken-clause-refused g c = λ s.
    let p = err_from_is_err_and c.from_residual-in_err-taken.result c.from_residual-in_err-taken.ensures.1 in
    let e = c.in_err-taken.ensures in
    rw (p.1, p.2)
    (refused-growth c.args.lot.now (g.K.View.map c.args.keep.now c.args.disk.now c.args.lot.now) c.args.inode.now c.args.count c.args.k _ e.faults (omega arith)
    (λ q. e.none (ap (λ y. Err y) q) s) (λ q. e.full (ap (λ y. Err y) q) s) (λ q. e.unreserved (ap (λ y. Err y) q) s) (λ q. e.pointer (ap (λ y. Err y) q)))
