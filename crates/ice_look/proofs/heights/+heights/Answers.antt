use Rattle.std.proofs.Common.{◌≡◌, ◌∙◌, ◌+◌, ◌-◌, ◌<◌, ◌≤◌, ◌⊎◌, ⊎_elim, IfOk, false, nat_lt, length, rules, sym, refl, subst, arith, inl, inr, ap}
use Rattle.std.proofs.lemmas.Result.{err_from_is_err_and, IfOk-weaker, IfErr-weaker}
use Rattle.tree_spec.specs.Costs.{form_of, nodes}
use Rattle.tree_spec.specs.Trees.{Dir, Found, rows, height}
use Rattle.ice_reads.specs.Tables.{Map}
use Rattle.ice_map.specs.Own.{own}
use Rattle.ice_reads.specs.Reads.{Reads}
use Rattle.ice_base.specs.declared.fault.OpFault.TheVariants.{Damaged}
use Rattle.ice_base.specs.declared.fault.Rule.TheVariants.{InodeTwice}
use Rattle.ice_map.specs.Inodes.{inode_of}
use Rattle.ice_map.specs.declared.codec.Inode.{Inode}
use Rattle.ice_dir.specs.Rows.{HasEntry, IsDirectory}
use Rattle.ice_dir.proofs.DirLaws.{length-rows}
use Rattle.ice_look.specs.Broken.{count_within, count_within_place, IsBrokenBy}
use Rattle.ice_look.specs.Heights.{IsEntry, IsChild}
use Rattle.ice_look.specs.Places.{IsReached, PlaceIs, PlaceReached, NodeFits, NodeIs}
use Rattle.ice_look.specs.declared.place.Place.{Place}
use Rattle.ice_reads.proofs.Focus.{same_Found}
use Rattle.ice_look.proofs.LookLaws.{ends_dir}
use Rattle.ice_look.proofs.NodeLaws.{node-here}
use Rattle.ice_look.proofs.WithinLaws.{row-pays, row-fault, rows-whole, within-dir, place-some}
use Rattle.ice_look.proofs.HeightLaws.{all-low, all-spent, child-enough, child-spent, child-low, child-higher, low-place, high-place}
use Rattle.ice_look.proofs.heights.+heights.Goals as goal

pub has_higher-returns-in_err-place-clause-budget : goal.has_higher-returns-in_err-place-clause-budget
has_higher-returns-in_err-place-clause-budget g t c = λ number h es s hand r is fits.
    let f = form_of g.F.Form.VERSION in
    let m = g.V.View.map c.args.view.now c.args.disk.now c.args.lot.now in
    all-spent f c.args.lot.now (own f m) number h es r c.args.node.now.size is c.args.budget.now c.loop-k.budget c.loop-k.k (c.loop-k.invariant.spent number h es s hand r is fits)

pub has_higher-returns-in_err-higher-clause-sound : goal.has_higher-returns-in_err-higher-clause-sound
has_higher-returns-in_err-higher-clause-sound g t c = λ number h es s hand r is fits.
    let f = form_of g.F.Form.VERSION in
    let lot = c.args.lot.now in
    let i = number in
    let k = c.loop-k.k in
    let m = g.V.View.map c.args.view.now c.args.disk.now c.args.lot.now in
    let inv = c.loop-k.invariant in
    let below : c.loop-k.k < length (rows es) = omega arith in
    let shown = inv.looked.shows s in
    let here = subst (λ (n : Map). Reads f lot (own f n) i h (Dir es)) (sym inv.looked.map) r in
    let child = subst (λ (n : Map). IsChild f lot (own f n) i h k es c.in_ok-place.place) inv.looked.map (c.in_ok-place.ensures.place number h es shown (subst (λ (n : Map). c.args.node.now ≡ inode_of n number) (sym inv.looked.map) hand) here below) in
    let then = c.entry_place.ensures.looked.shows shown in
    let reads = subst (λ (n : Map). Reads f lot (own f n) child.inode (h + 1) child.tree) (sym (c.entry_place.ensures.looked.map ∙ inv.looked.map)) child.reads in
    let spent = inv.spent number h es s hand r is fits in
    let enough = child-enough f lot (own f m) i h k es r c.in_ok-place.place child c.args.budget.now c.loop-k.budget fits spent in
    let p = err_from_is_err_and c.from_residual-in_err-higher.result c.from_residual-in_err-higher.ensures.1 in
    rw (p.1, p.2) (c.in_err-higher.ensures.sound child.inode (h + 1) child.tree then (subst (λ (n : Map). NodeIs n c.in_ok-place.place c.entry_place.new.child) (sym c.entry_place.ensures.looked.map) (c.in_ok-place.ensures.node_is (inv.looked.shows s))) reads child.at enough)

pub has_higher-returns-in_err-higher-clause-budget : goal.has_higher-returns-in_err-higher-clause-budget
has_higher-returns-in_err-higher-clause-budget g t c = λ number h es s hand r is fits.
    let f = form_of g.F.Form.VERSION in
    let lot = c.args.lot.now in
    let i = number in
    let k = c.loop-k.k in
    let m = g.V.View.map c.args.view.now c.args.disk.now c.args.lot.now in
    let inv = c.loop-k.invariant in
    let below : c.loop-k.k < length (rows es) = omega arith in
    let shown = inv.looked.shows s in
    let here = subst (λ (n : Map). Reads f lot (own f n) i h (Dir es)) (sym inv.looked.map) r in
    let child = subst (λ (n : Map). IsChild f lot (own f n) i h k es c.in_ok-place.place) inv.looked.map (c.in_ok-place.ensures.place number h es shown (subst (λ (n : Map). c.args.node.now ≡ inode_of n number) (sym inv.looked.map) hand) here below) in
    let then = c.entry_place.ensures.looked.shows shown in
    let reads = subst (λ (n : Map). Reads f lot (own f n) child.inode (h + 1) child.tree) (sym (c.entry_place.ensures.looked.map ∙ inv.looked.map)) child.reads in
    let spent = inv.spent number h es s hand r is fits in
    let enough = child-enough f lot (own f m) i h k es r c.in_ok-place.place child c.args.budget.now c.loop-k.budget fits spent in
    all-spent f lot (own f m) i h es r c.args.node.now.size is c.args.budget.now c.is_higher.new.budget (k + 1)
    (child-spent f lot (own f m) i h k es r c.in_ok-place.place child c.args.budget.now c.loop-k.budget c.is_higher.new.budget spent (c.in_err-higher.ensures.budget child.inode (h + 1) child.tree then (subst (λ (n : Map). NodeIs n c.in_ok-place.place c.entry_place.new.child) (sym c.entry_place.ensures.looked.map) (c.in_ok-place.ensures.node_is (inv.looked.shows s))) reads child.at enough))

pub has_higher-returns-then-higher-clause-higher : goal.has_higher-returns-then-higher-clause-higher
has_higher-returns-then-higher-clause-higher g t c = λ number h es s hand r is fits.
    let f = form_of g.F.Form.VERSION in
    let lot = c.args.lot.now in
    let i = number in
    let k = c.loop-k.k in
    let m = g.V.View.map c.args.view.now c.args.disk.now c.args.lot.now in
    let inv = c.loop-k.invariant in
    let below : c.loop-k.k < length (rows es) = omega arith in
    let shown = inv.looked.shows s in
    let here = subst (λ (n : Map). Reads f lot (own f n) i h (Dir es)) (sym inv.looked.map) r in
    let child = subst (λ (n : Map). IsChild f lot (own f n) i h k es c.in_ok-place.place) inv.looked.map (c.in_ok-place.ensures.place number h es shown (subst (λ (n : Map). c.args.node.now ≡ inode_of n number) (sym inv.looked.map) hand) here below) in
    let then = c.entry_place.ensures.looked.shows shown in
    let reads = subst (λ (n : Map). Reads f lot (own f n) child.inode (h + 1) child.tree) (sym (c.entry_place.ensures.looked.map ∙ inv.looked.map)) child.reads in
    let spent = inv.spent number h es s hand r is fits in
    let enough = child-enough f lot (own f m) i h k es r c.in_ok-place.place child c.args.budget.now c.loop-k.budget fits spent in
    sym (child-higher f lot (own f m) i h k es r c.in_ok-place.place child c.args.levels (sym (c.in_ok-higher.ensures.higher child.inode (h + 1) child.tree then (subst (λ (n : Map). NodeIs n c.in_ok-place.place c.entry_place.new.child) (sym c.entry_place.ensures.looked.map) (c.in_ok-place.ensures.node_is (inv.looked.shows s))) reads child.at enough) ∙ c.if-higher.true))

pub has_higher-returns-then-higher-clause-budget : goal.has_higher-returns-then-higher-clause-budget
has_higher-returns-then-higher-clause-budget g t c = λ number h es s hand r is fits.
    let f = form_of g.F.Form.VERSION in
    let lot = c.args.lot.now in
    let i = number in
    let k = c.loop-k.k in
    let m = g.V.View.map c.args.view.now c.args.disk.now c.args.lot.now in
    let inv = c.loop-k.invariant in
    let below : c.loop-k.k < length (rows es) = omega arith in
    let shown = inv.looked.shows s in
    let here = subst (λ (n : Map). Reads f lot (own f n) i h (Dir es)) (sym inv.looked.map) r in
    let child = subst (λ (n : Map). IsChild f lot (own f n) i h k es c.in_ok-place.place) inv.looked.map (c.in_ok-place.ensures.place number h es shown (subst (λ (n : Map). c.args.node.now ≡ inode_of n number) (sym inv.looked.map) hand) here below) in
    let then = c.entry_place.ensures.looked.shows shown in
    let reads = subst (λ (n : Map). Reads f lot (own f n) child.inode (h + 1) child.tree) (sym (c.entry_place.ensures.looked.map ∙ inv.looked.map)) child.reads in
    let spent = inv.spent number h es s hand r is fits in
    let enough = child-enough f lot (own f m) i h k es r c.in_ok-place.place child c.args.budget.now c.loop-k.budget fits spent in
    all-spent f lot (own f m) i h es r c.args.node.now.size is c.args.budget.now c.is_higher.new.budget (k + 1)
    (child-spent f lot (own f m) i h k es r c.in_ok-place.place child c.args.budget.now c.loop-k.budget c.is_higher.new.budget spent (c.in_ok-higher.ensures.budget child.inode (h + 1) child.tree then (subst (λ (n : Map). NodeIs n c.in_ok-place.place c.entry_place.new.child) (sym c.entry_place.ensures.looked.map) (c.in_ok-place.ensures.node_is (inv.looked.shows s))) reads child.at enough))

pub has_higher-loop-k-preserved : goal.has_higher-loop-k-preserved
has_higher-loop-k-preserved g t c = record {
  looked = search rules;
  falls = (let p = c.loop-k.invariant.falls in let q = c.in_ok-higher.ensures.falls in omega arith);
  pays = λ number s hand reached.
      let dir = subst (IsDirectory c.args.lot.now) hand c.requires.is in
      let size = ap (λ (i : Inode). i.size) (sym hand) in
      let lot = c.args.lot.now in
      let m = g.V.View.map c.args.view.now c.args.disk.now c.args.lot.now in
      let inv = c.loop-k.invariant in
      let here = subst (λ (n : Map). IsReached (form_of g.F.Form.VERSION) lot n number) (sym inv.looked.map) reached in
      let here_too = subst (λ (n : Map). c.args.node.now ≡ inode_of n number) (sym inv.looked.map) hand in
      let has : HasEntry lot c.loop-k.k c.args.node.now = record { is = c.requires.is; below = omega arith } in
      let child = subst (λ (n : Map). IsEntry (form_of g.F.Form.VERSION) lot n number c.loop-k.k c.in_ok-place.place) inv.looked.map (c.in_ok-place.ensures.child number (inv.looked.shows s) here_too here has) in
      let then = c.entry_place.ensures.looked in
      let is = subst (λ (n : Map). PlaceIs n c.in_ok-place.place) (sym (then.map ∙ inv.looked.map)) child.is in
      let by = subst (λ (n : Map). PlaceReached (form_of g.F.Form.VERSION) lot n c.in_ok-place.place) (sym (then.map ∙ inv.looked.map)) child.reached in
      let shown = then.shows (inv.looked.shows s) in
      row-pays (form_of g.F.Form.VERSION) m lot c.args.levels number c.loop-k.k c.args.budget.now c.in_ok-place.place child c.loop-k.budget (inv.pays number s hand reached) c.is_higher.new.budget
      (subst (λ (n : Map). c.loop-k.budget ≤ c.is_higher.new.budget + count_within_place (form_of g.F.Form.VERSION) n c.args.levels c.in_ok-place.place) (then.map ∙ inv.looked.map)
      (c.in_ok-higher.ensures.pays shown (subst (λ (n : Map). NodeIs n c.in_ok-place.place c.entry_place.new.child) (sym then.map) (c.in_ok-place.ensures.node_is (inv.looked.shows s))) is by c.if-higher.false));
  low = λ number h es s hand r is fits.
      let f = form_of g.F.Form.VERSION in
      let lot = c.args.lot.now in
      let i = number in
      let k = c.loop-k.k in
      let m = g.V.View.map c.args.view.now c.args.disk.now c.args.lot.now in
      let inv = c.loop-k.invariant in
      let below : c.loop-k.k < length (rows es) = omega arith in
      let shown = inv.looked.shows s in
      let here = subst (λ (n : Map). Reads f lot (own f n) i h (Dir es)) (sym inv.looked.map) r in
      let child = subst (λ (n : Map). IsChild f lot (own f n) i h k es c.in_ok-place.place) inv.looked.map (c.in_ok-place.ensures.place number h es shown (subst (λ (n : Map). c.args.node.now ≡ inode_of n number) (sym inv.looked.map) hand) here below) in
      let then = c.entry_place.ensures.looked.shows shown in
      let reads = subst (λ (n : Map). Reads f lot (own f n) child.inode (h + 1) child.tree) (sym (c.entry_place.ensures.looked.map ∙ inv.looked.map)) child.reads in
      let spent = inv.spent number h es s hand r is fits in
      let enough = child-enough f lot (own f m) i h k es r c.in_ok-place.place child c.args.budget.now c.loop-k.budget fits spent in
      child-low f lot (own f m) i h k es r c.in_ok-place.place child c.args.levels (inv.low number h es s hand r is fits) (sym (c.in_ok-higher.ensures.higher child.inode (h + 1) child.tree then (subst (λ (n : Map). NodeIs n c.in_ok-place.place c.entry_place.new.child) (sym c.entry_place.ensures.looked.map) (c.in_ok-place.ensures.node_is (inv.looked.shows s))) reads child.at enough) ∙ c.if-higher.false);
  spent = λ number h es s hand r is fits.
      let f = form_of g.F.Form.VERSION in
      let lot = c.args.lot.now in
      let i = number in
      let k = c.loop-k.k in
      let m = g.V.View.map c.args.view.now c.args.disk.now c.args.lot.now in
      let inv = c.loop-k.invariant in
      let below : c.loop-k.k < length (rows es) = omega arith in
      let shown = inv.looked.shows s in
      let here = subst (λ (n : Map). Reads f lot (own f n) i h (Dir es)) (sym inv.looked.map) r in
      let child = subst (λ (n : Map). IsChild f lot (own f n) i h k es c.in_ok-place.place) inv.looked.map (c.in_ok-place.ensures.place number h es shown (subst (λ (n : Map). c.args.node.now ≡ inode_of n number) (sym inv.looked.map) hand) here below) in
      let then = c.entry_place.ensures.looked.shows shown in
      let reads = subst (λ (n : Map). Reads f lot (own f n) child.inode (h + 1) child.tree) (sym (c.entry_place.ensures.looked.map ∙ inv.looked.map)) child.reads in
      let spent = inv.spent number h es s hand r is fits in
      let enough = child-enough f lot (own f m) i h k es r c.in_ok-place.place child c.args.budget.now c.loop-k.budget fits spent in
      (child-spent f lot (own f m) i h k es r c.in_ok-place.place child c.args.budget.now c.loop-k.budget c.is_higher.new.budget spent (c.in_ok-higher.ensures.budget child.inode (h + 1) child.tree then (subst (λ (n : Map). NodeIs n c.in_ok-place.place c.entry_place.new.child) (sym c.entry_place.ensures.looked.map) (c.in_ok-place.ensures.node_is (inv.looked.shows s))) reads child.at enough));
}

pub has_higher-returns-clause-higher : goal.has_higher-returns-clause-higher
has_higher-returns-clause-higher g t c = λ number h es s hand r is fits.
    let f = form_of g.F.Form.VERSION in
    let m = g.V.View.map c.args.view.now c.args.disk.now c.args.lot.now in
    let inv = c.loop-k.invariant in
    sym (all-low f c.args.lot.now (own f m) number h es r c.args.node.now.size is (c.args.levels + 1) c.loop-k.k c.loop-k-test.false (inv.low number h es s hand r is fits))

pub has_higher-returns-clause-budget : goal.has_higher-returns-clause-budget
has_higher-returns-clause-budget g t c = λ number h es s hand r is fits.
    let f = form_of g.F.Form.VERSION in
    let m = g.V.View.map c.args.view.now c.args.disk.now c.args.lot.now in
    all-spent f c.args.lot.now (own f m) number h es r c.args.node.now.size is c.args.budget.now c.loop-k.budget c.loop-k.k (c.loop-k.invariant.spent number h es s hand r is fits)

pub is_higher-returns-then-size-eq0-clause-higher : goal.is_higher-returns-then-size-eq0-clause-higher
is_higher-returns-then-size-eq0-clause-higher g t c = λ i h s shows hand r at fits. sym (low-place i c.in-Dir.number c.in-Dir.size c.args.levels s (sym c.in-Dir.is ∙ at) c.if-size-eq0.true)

pub is_higher-returns-then-levels-eq0-clause-higher : goal.is_higher-returns-then-levels-eq0-clause-higher
is_higher-returns-then-levels-eq0-clause-higher g t c = λ i h s shows hand r at fits. sym (high-place i c.in-Dir.number c.in-Dir.size c.args.levels s (sym c.in-Dir.is ∙ at) c.if-size-eq0.false c.if-levels-eq0.true)

pub has_higher-returns-in_err-place-clause-broken : goal.has_higher-returns-in_err-place-clause-broken
has_higher-returns-in_err-place-clause-broken g t c = λ number s hand reached.
    let dir = subst (IsDirectory c.args.lot.now) hand c.requires.is in
    let size = ap (λ (i : Inode). i.size) (sym hand) in
    let p = err_from_is_err_and c.from_residual.result c.from_residual.ensures.1 in
    let lot = c.args.lot.now in
    let m = g.V.View.map c.args.view.now c.args.disk.now c.args.lot.now in
    let inv = c.loop-k.invariant in
    let here = subst (λ (n : Map). IsReached (form_of g.F.Form.VERSION) lot n number) (sym inv.looked.map) reached in
    let here_too = subst (λ (n : Map). c.args.node.now ≡ inode_of n number) (sym inv.looked.map) hand in
    let has : HasEntry lot c.loop-k.k c.args.node.now = record { is = c.requires.is; below = omega arith } in
    rw (p.1, p.2)
    (inl (subst (λ (n : Map). IsBrokenBy (form_of g.F.Form.VERSION) lot n c.in_err-place.field-0.0) inv.looked.map (c.in_err-place.ensures.broken number (inv.looked.shows s) here_too here has)))

pub has_higher-returns-in_err-higher-clause-broken : goal.has_higher-returns-in_err-higher-clause-broken
has_higher-returns-in_err-higher-clause-broken g t c = λ number s hand reached.
    let dir = subst (IsDirectory c.args.lot.now) hand c.requires.is in
    let size = ap (λ (i : Inode). i.size) (sym hand) in
    let p = err_from_is_err_and c.from_residual-in_err-higher.result c.from_residual-in_err-higher.ensures.1 in
    let lot = c.args.lot.now in
    let m = g.V.View.map c.args.view.now c.args.disk.now c.args.lot.now in
    let inv = c.loop-k.invariant in
    let here = subst (λ (n : Map). IsReached (form_of g.F.Form.VERSION) lot n number) (sym inv.looked.map) reached in
    let here_too = subst (λ (n : Map). c.args.node.now ≡ inode_of n number) (sym inv.looked.map) hand in
    let has : HasEntry lot c.loop-k.k c.args.node.now = record { is = c.requires.is; below = omega arith } in
    let child = subst (λ (n : Map). IsEntry (form_of g.F.Form.VERSION) lot n number c.loop-k.k c.in_ok-place.place) inv.looked.map (c.in_ok-place.ensures.child number (inv.looked.shows s) here_too here has) in
    let then = c.entry_place.ensures.looked in
    let is = subst (λ (n : Map). PlaceIs n c.in_ok-place.place) (sym (then.map ∙ inv.looked.map)) child.is in
    let by = subst (λ (n : Map). PlaceReached (form_of g.F.Form.VERSION) lot n c.in_ok-place.place) (sym (then.map ∙ inv.looked.map)) child.reached in
    let shown = then.shows (inv.looked.shows s) in
    rw (p.1, p.2)
    (row-fault (form_of g.F.Form.VERSION) m lot c.args.levels number c.loop-k.k c.args.budget.now c.in_ok-place.place child c.loop-k.budget (inv.pays number s hand reached) dir.kind c.in_err-higher.field-0.0
    (subst (λ (n : Map). IsBrokenBy (form_of g.F.Form.VERSION) lot n c.in_err-higher.field-0.0 ⊎ ((c.in_err-higher.field-0.0 ≡ Damaged InodeTwice) × (c.loop-k.budget < count_within_place (form_of g.F.Form.VERSION) n c.args.levels c.in_ok-place.place))) (then.map ∙ inv.looked.map)
    (c.in_err-higher.ensures.broken shown (subst (λ (n : Map). NodeIs n c.in_ok-place.place c.entry_place.new.child) (sym then.map) (c.in_ok-place.ensures.node_is (inv.looked.shows s))) is by)))

pub has_higher-returns-clause-pays : goal.has_higher-returns-clause-pays
has_higher-returns-clause-pays g t c = λ number s hand reached e.
    let dir = subst (IsDirectory c.args.lot.now) hand c.requires.is in
    let size = ap (λ (i : Inode). i.size) (sym hand) in
    let m = g.V.View.map c.args.view.now c.args.disk.now c.args.lot.now in
    omega (
      arith,
      within-dir (form_of g.F.Form.VERSION) m c.args.levels number dir.kind,
      c.loop-k.invariant.pays number s hand reached,
      rows-whole (form_of g.F.Form.VERSION) m c.args.levels number c.loop-k.k (omega (arith, length-rows (form_of g.F.Form.VERSION) m number (ap form_of g.F.Form.is_one.0), size, c.loop-k-test.false)),
    )

pub is_higher-returns-then-budget-eq0-clause-broken : goal.is_higher-returns-then-budget-eq0-clause-broken
is_higher-returns-then-budget-eq0-clause-broken g t c = λ s hand is reached.
    inr (refl, omega (arith, place-some (form_of g.F.Form.VERSION) (g.V.View.map c.args.view.now c.args.disk.now c.args.lot.now) c.args.levels c.args.place))

pub is_higher-returns-else-levels-eq0-clause-higher : goal.is_higher-returns-else-levels-eq0-clause-higher
is_higher-returns-else-levels-eq0-clause-higher g t c = λ i h s shows hand r at fits.
    let f = form_of g.F.Form.VERSION in
    let lot = c.args.lot.now in
    let m : Map = g.V.View.map c.args.view.now c.args.disk.now lot in
    let node = node-here lot c.args.place c.in-Dir.number c.in-Dir.size c.args.node.now c.in-Dir.is m hand in
    let d = ends_dir i c.in-Dir.number c.in-Dir.size (Found s) (sym c.in-Dir.is ∙ at) in
    let tree : s ≡ Dir d.0 = same_Found s (Dir d.0) d.1 in
    let reads = subst (λ u. Reads f lot (own f m) c.in-Dir.number h u) tree (subst (λ j. Reads f lot (own f m) j h s) (sym d.2) r) in
    let size = (subst (λ (p : Place). NodeFits lot p c.args.node.now) c.in-Dir.is c.requires.in_hand).1 ∙ d.3 in
    let few : nodes (Dir d.0) ≤ c.args.budget.now - 1 + 1 = omega (arith, ap nodes tree, fits) in
    let level : c.args.levels - 1 + 1 ≡ c.args.levels = omega arith in
    subst (λ e. IfOk c.has_higher.result (λ b. b ≡ e)) (ap (λ n. nat_lt n (height (Dir d.0))) level ∙ ap (λ u. nat_lt c.args.levels (height u)) (sym tree))
    (c.has_higher.ensures.higher c.in-Dir.number h d.0 shows node reads size few)

pub is_higher-returns-else-levels-eq0-clause-sound : goal.is_higher-returns-else-levels-eq0-clause-sound
is_higher-returns-else-levels-eq0-clause-sound g t c = λ i h s shows hand r at fits.
    let f = form_of g.F.Form.VERSION in
    let lot = c.args.lot.now in
    let m : Map = g.V.View.map c.args.view.now c.args.disk.now lot in
    let node = node-here lot c.args.place c.in-Dir.number c.in-Dir.size c.args.node.now c.in-Dir.is m hand in
    let d = ends_dir i c.in-Dir.number c.in-Dir.size (Found s) (sym c.in-Dir.is ∙ at) in
    let tree : s ≡ Dir d.0 = same_Found s (Dir d.0) d.1 in
    let reads = subst (λ u. Reads f lot (own f m) c.in-Dir.number h u) tree (subst (λ j. Reads f lot (own f m) j h s) (sym d.2) r) in
    let size = (subst (λ (p : Place). NodeFits lot p c.args.node.now) c.in-Dir.is c.requires.in_hand).1 ∙ d.3 in
    let few : nodes (Dir d.0) ≤ c.args.budget.now - 1 + 1 = omega (arith, ap nodes tree, fits) in
    c.has_higher.ensures.sound c.in-Dir.number h d.0 shows node reads size few

pub is_higher-returns-else-levels-eq0-clause-budget : goal.is_higher-returns-else-levels-eq0-clause-budget
is_higher-returns-else-levels-eq0-clause-budget g t c = λ i h s shows hand r at fits.
    let f = form_of g.F.Form.VERSION in
    let lot = c.args.lot.now in
    let m : Map = g.V.View.map c.args.view.now c.args.disk.now lot in
    let node = node-here lot c.args.place c.in-Dir.number c.in-Dir.size c.args.node.now c.in-Dir.is m hand in
    let d = ends_dir i c.in-Dir.number c.in-Dir.size (Found s) (sym c.in-Dir.is ∙ at) in
    let tree : s ≡ Dir d.0 = same_Found s (Dir d.0) d.1 in
    let reads = subst (λ u. Reads f lot (own f m) c.in-Dir.number h u) tree (subst (λ j. Reads f lot (own f m) j h s) (sym d.2) r) in
    let size = (subst (λ (p : Place). NodeFits lot p c.args.node.now) c.in-Dir.is c.requires.in_hand).1 ∙ d.3 in
    let few : nodes (Dir d.0) ≤ c.args.budget.now - 1 + 1 = omega (arith, ap nodes tree, fits) in
    let b = c.has_higher.ensures.budget c.in-Dir.number h d.0 shows node reads size few in
    omega (arith, b, ap nodes tree)

pub is_higher-returns-else-levels-eq0-clause-pays : goal.is_higher-returns-else-levels-eq0-clause-pays
is_higher-returns-else-levels-eq0-clause-pays g t c = λ shows hand is reached.
    let f = form_of g.F.Form.VERSION in
    let lot = c.args.lot.now in
    let m : Map = g.V.View.map c.args.view.now c.args.disk.now lot in
    let node = node-here lot c.args.place c.in-Dir.number c.in-Dir.size c.args.node.now c.in-Dir.is m hand in
    let there = subst (λ (p : Place). PlaceReached f lot m p) c.in-Dir.is reached in
    let level : c.args.levels - 1 + 1 ≡ c.args.levels = omega arith in
    IfOk-weaker c.has_higher.result (λ b. b ≡ false → c.args.budget.now - 1 + 1 ≤ c.has_higher.new.budget + count_within f m (c.args.levels - 1 + 1) c.in-Dir.number)
    (λ b. b ≡ false → c.args.budget.now ≤ c.has_higher.new.budget + count_within_place f m c.args.levels c.args.place)
    (λ b paid e. subst (λ (p : Place). c.args.budget.now ≤ c.has_higher.new.budget + count_within_place f m c.args.levels p) (sym c.in-Dir.is)
    (omega (arith, paid e, ap (λ n. count_within f m n c.in-Dir.number) level)))
    (c.has_higher.ensures.pays c.in-Dir.number shows node there)

pub is_higher-returns-else-levels-eq0-clause-broken : goal.is_higher-returns-else-levels-eq0-clause-broken
is_higher-returns-else-levels-eq0-clause-broken g t c = λ shows hand is reached.
    let f = form_of g.F.Form.VERSION in
    let lot = c.args.lot.now in
    let m : Map = g.V.View.map c.args.view.now c.args.disk.now lot in
    let node = node-here lot c.args.place c.in-Dir.number c.in-Dir.size c.args.node.now c.in-Dir.is m hand in
    let there = subst (λ (p : Place). PlaceReached f lot m p) c.in-Dir.is reached in
    let level : c.args.levels - 1 + 1 ≡ c.args.levels = omega arith in
    IfErr-weaker c.has_higher.result (λ e. IsBrokenBy f lot m e ⊎ ((e ≡ Damaged InodeTwice) × (c.args.budget.now - 1 + 1 < count_within f m (c.args.levels - 1 + 1) c.in-Dir.number)))
    (λ e. IsBrokenBy f lot m e ⊎ ((e ≡ Damaged InodeTwice) × (c.args.budget.now < count_within_place f m c.args.levels c.args.place)))
    (λ e. ⊎_elim inl (λ spent. inr (
      spent.0,
      subst (λ (p : Place). c.args.budget.now < count_within_place f m c.args.levels p) (sym c.in-Dir.is)
          (omega (arith, spent.1, ap (λ n. count_within f m n c.in-Dir.number) level)),
    )))
    (c.has_higher.ensures.broken c.in-Dir.number shows node there)
