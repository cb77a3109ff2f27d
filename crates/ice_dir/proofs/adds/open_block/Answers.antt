use Rattle.std.proofs.Common.{ℕ, List, sym, subst, ⊎_elim}
use Rattle.std.proofs.lemmas.Result.{err_from_is_err_and}
use Rattle.ice_base.specs.declared.fault.OpFault.TheVariants.{Damaged, NoSpace}
use Rattle.ice_base.specs.declared.fault.Rule.TheVariants.{Counts, Pointer, Bitmap}
use Rattle.ice_map.specs.Moves.{HadBlock}
use Rattle.ice_map.proofs.DamageLaws.{misled-single, refused-as}
use Rattle.ice_dir.proofs.adds.open_block.Goals as goal

pub returns-in_err-at-clause-misled : goal.returns-in_err-at-clause-misled
returns-in_err-at-clause-misled g c = λ e s.
    let why = err_from_is_err_and c.from_residual.result c.from_residual.ensures.1 in
    ⊎_elim (λ p. record { block = c.args.k; below = p.0; bad = p.1 })
    (λ p. misled-single c.args.lot.now (g.K.View.map c.args.keep.now c.args.disk.now c.args.lot.now) c.args.inode.now c.args.count p.0 p.1)
    (refused-as c.args.lot.now (g.K.View.map c.args.keep.now c.args.disk.now c.args.lot.now) c.args.inode.now c.args.count c.args.k c.from_residual.result why.0 _ (Damaged Pointer) why.1 why.2 e (c.in_err-at.ensures.refused s))

pub returns-then-k-count-clause-reached : goal.returns-then-k-count-clause-reached
returns-then-k-count-clause-reached g c = λ s made.
    let lot = c.args.lot.now in
    let m : ℕ → List ℕ = g.K.View.map c.args.keep.now c.args.disk.now lot in
    subst (λ (n : ℕ → List ℕ). HadBlock lot m n c.args.inode.now c.reach.new.inode c.args.count c.args.k c.in_ok-at.at) (sym c.fetch.ensures.looked.map) (c.in_ok-at.ensures.reached s made)

pub returns-in_err-at-clause-none : goal.returns-in_err-at-clause-none
returns-in_err-at-clause-none g c = λ e s.
    let why = err_from_is_err_and c.from_residual.result c.from_residual.ensures.1 in
    refused-as c.args.lot.now (g.K.View.map c.args.keep.now c.args.disk.now c.args.lot.now) c.args.inode.now c.args.count c.args.k c.from_residual.result why.0 _ NoSpace why.1 why.2 e (c.in_err-at.ensures.refused s)

pub returns-in_err-at-clause-full : goal.returns-in_err-at-clause-full
returns-in_err-at-clause-full g c = λ e s.
    let why = err_from_is_err_and c.from_residual.result c.from_residual.ensures.1 in
    refused-as c.args.lot.now (g.K.View.map c.args.keep.now c.args.disk.now c.args.lot.now) c.args.inode.now c.args.count c.args.k c.from_residual.result why.0 _ (Damaged Counts) why.1 why.2 e (c.in_err-at.ensures.refused s)

pub returns-in_err-at-clause-unreserved : goal.returns-in_err-at-clause-unreserved
returns-in_err-at-clause-unreserved g c = λ e s.
    let why = err_from_is_err_and c.from_residual.result c.from_residual.ensures.1 in
    refused-as c.args.lot.now (g.K.View.map c.args.keep.now c.args.disk.now c.args.lot.now) c.args.inode.now c.args.count c.args.k c.from_residual.result why.0 _ (Damaged Bitmap) why.1 why.2 e (c.in_err-at.ensures.refused s)
