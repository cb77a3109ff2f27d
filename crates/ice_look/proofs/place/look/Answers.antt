use Rattle.std.proofs.Common.{ap, sym, arith, subst, ⊎_elim}
use Rattle.tree_spec.specs.Costs.{form_of}
use Rattle.ice_look.specs.Places.{IsNode}
use Rattle.ice_look.proofs.PlaceLaws.{Reads-file, Reads-node}
use Rattle.ice_look.proofs.place.look.Goals as goal
use Rattle.ice_look.proofs.place.look.Goals.{else-inode-eq1-via-then-inode-eq1+else-size-longest, else-inode-eq1-via-else-inode-eq1, else-inode-eq2-via-then-inode-eq2+else-size-len, else-inode-eq2-via-else-inode-eq2}

pub returns-then-size-longest-clause-place : goal.returns-then-size-longest-clause-place
returns-then-size-longest-clause-place g c = λ h t s r.
    Reads-file (form_of g.F.Form.VERSION) (ap form_of g.F.Form.is_one.0) c.args.lot.now (g.V.View.map c.args.view.now c.args.disk.now c.args.lot.now) c.args.number h t r c.in_ok-inode.inode (c.in_ok-inode.ensures.value s) c.if-inode-eq1.true

pub returns-clause-sound : goal.returns-clause-sound
returns-clause-sound g c = λ h t s r.
    let node = subst (IsNode c.args.lot.now) (sym (c.in_ok-inode.ensures.value s))
    (Reads-node (form_of g.F.Form.VERSION) (ap form_of g.F.Form.is_one.0) c.args.lot.now (g.V.View.map c.args.view.now c.args.disk.now c.args.lot.now) c.args.number h t r) in
    absurd (⊎_elim
    (λ q. elim c.else-inode-eq1.branch [ else-inode-eq1-via-then-inode-eq1+else-size-longest w ↦ omega arith | else-inode-eq1-via-else-inode-eq1 w ↦ omega arith ])
    (λ q. elim c.else-inode-eq2.branch [ else-inode-eq2-via-then-inode-eq2+else-size-len w ↦ omega arith | else-inode-eq2-via-else-inode-eq2 w ↦ omega arith ])
    node)
