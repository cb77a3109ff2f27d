use Rattle.std.proofs.Common.{◌+◌, sym, ap, ◌∙◌, arith, length}
use Rattle.tree_spec.specs.Costs.{form_of}
use Rattle.tree_spec.specs.Trees.{walk, Dir}
use Rattle.ice_map.specs.Own.{own}
use Rattle.ice_reads.specs.Reads.{inode_on}
use Rattle.ice_reads.proofs.Focus.{Reads-part}
use Rattle.ice_look.specs.Places.{place_by}
use Rattle.ice_look.proofs.LookLaws.{ends_dir, fault_as}
use Rattle.ice_tree.proofs.RenameLaws.{fits-higher, high-more, low-more, nodes-few}
use Rattle.ice_look.specs.Broken.{IsBroken}
use Rattle.ice_look.proofs.FaultLaws.{fault-names}
use Rattle.ice_tree.proofs.RenameDamage.{height-broken}
use Rattle.ice_tree.proofs.renames.check_height.Goals as goal

pub returns-then-there-here-clause-height : goal.returns-then-there-here-clause-height
returns-then-there-here-clause-height g c = λ mode k t p q s hand r at here there.
    let f = form_of g.F.Form.VERSION in
    fits-higher f c.args.lot.now (own f (g.V.View.map c.args.view.now c.args.disk.now c.args.lot.now)) p q t r.holds.reads (omega arith)

pub returns-in-Err-clause-height : goal.returns-in-Err-clause-height
returns-in-Err-clause-height g c = λ mode k t p q s hand r at here there.
    let f = form_of g.F.Form.VERSION in
    let m = g.V.View.map c.args.view.now c.args.disk.now c.args.lot.now in
    let i = inode_on f (own f m) 0 p in
    let d = ends_dir i c.in-Dir.number c.in-Dir.size (walk p t) (sym c.in-Dir.is ∙ at) in
    let n = nodes-few f (ap form_of g.F.Form.is_one.0) mode c.args.lot.now m t k r p (Dir d.0) d.1 in
    fault_as _ c.in-Err.fault _ c.refusal_of.ensures
    (c.in-Err.ensures.sound i (0 + length p) (Dir d.0) s hand (Reads-part f c.args.lot.now (own f m) p 0 0 t (Dir d.0) d.1 r.holds.reads) (at ∙ ap (λ w. place_by i w) d.1) (omega (arith, c.len.ensures.len)))

pub returns-in-Ok-true-clause-height : goal.returns-in-Ok-true-clause-height
returns-in-Ok-true-clause-height g c = λ mode k t p q s hand r at here there.
    let f = form_of g.F.Form.VERSION in
    let m = g.V.View.map c.args.view.now c.args.disk.now c.args.lot.now in
    let i = inode_on f (own f m) 0 p in
    let d = ends_dir i c.in-Dir.number c.in-Dir.size (walk p t) (sym c.in-Dir.is ∙ at) in
    let n = nodes-few f (ap form_of g.F.Form.is_one.0) mode c.args.lot.now m t k r p (Dir d.0) d.1 in
    high-more p q t (Dir d.0) c.args.there there d.1
    (sym (c.in-Ok-true.ensures.higher i (0 + length p) (Dir d.0) s hand (Reads-part f c.args.lot.now (own f m) p 0 0 t (Dir d.0) d.1 r.holds.reads) (at ∙ ap (λ w. place_by i w) d.1) (omega (arith, c.len.ensures.len))) ∙ c.in-Ok-true.field-0-test)

pub returns-in-Ok-false-clause-height : goal.returns-in-Ok-false-clause-height
returns-in-Ok-false-clause-height g c = λ mode k t p q s hand r at here there.
    let f = form_of g.F.Form.VERSION in
    let m = g.V.View.map c.args.view.now c.args.disk.now c.args.lot.now in
    let i = inode_on f (own f m) 0 p in
    let d = ends_dir i c.in-Dir.number c.in-Dir.size (walk p t) (sym c.in-Dir.is ∙ at) in
    let n = nodes-few f (ap form_of g.F.Form.is_one.0) mode c.args.lot.now m t k r p (Dir d.0) d.1 in
    low-more p q t (Dir d.0) c.args.there there c.requires.shallow d.1
    (sym (c.in-Ok-false.ensures.higher i (0 + length p) (Dir d.0) s hand (Reads-part f c.args.lot.now (own f m) p 0 0 t (Dir d.0) d.1 r.holds.reads) (at ∙ ap (λ w. place_by i w) d.1) (omega (arith, c.len.ensures.len))) ∙ c.in-Ok-false.field-0-test)

pub returns-in-Err-clause-damaged : goal.returns-in-Err-clause-damaged
returns-in-Err-clause-damaged g c = λ n e s hand is reached.
    let m = g.V.View.map c.args.view.now c.args.disk.now c.args.lot.now in
    fault-names (IsBroken (form_of g.F.Form.VERSION) c.args.lot.now m) c.in-Err.fault _ c.refusal_of.ensures
    (height-broken (form_of g.F.Form.VERSION) c.args.lot.now m c.args.place c.in-Dir.number c.in-Dir.size _ _ c.in-Dir.is (omega (arith, c.len.ensures.len)) reached c.in-Err.fault (c.in-Err.ensures.broken s hand is reached)) n e
