use Rattle.std.proofs.Common.{false, ◌/◌, IfSome, Some, ℕ, ◌+◌, ◌∷◌, [], ◌++◌, ◌≡◌, List, Err, refl, ◌∙◌, ap, sym, subst, inl}
use Rattle.std.specs.Prelude.{slice_get}
use Rattle.std.proofs.lemmas.Result.{err_from_is_err_and}
use Rattle.tree_spec.specs.Answers.{is_dir}
use Rattle.tree_spec.specs.Costs.{form_of}
use Rattle.ice_map.specs.declared.codec.Inode.{Inode}
use Rattle.ice_map.specs.Maps.{leads}
use Rattle.ice_dir.specs.Rows.{DirRow, HasEntry, per_block, rows_at}
use Rattle.tree_spec.specs.Names.{is_name}
use Rattle.ice_reads.specs.Reads.{Reads}
use Rattle.ice_map.specs.Own.{own}
use Rattle.ice_reads.proofs.Focus.{same_Some}
use Rattle.ice_look.specs.Broken.{BadEntry, IsBrokenBy}
use Rattle.ice_look.specs.Places.{Reached}
use Rattle.ice_look.proofs.BrokenLaws.{entry-broken, row-broken, row-reached}
use Rattle.ice_look.proofs.PlaceLaws.{rows-own, reads-directory}
use Rattle.ice_look.proofs.ListLaws.{row-tree, shows-dir, shows-file, listed-row, entry-fails}
use Rattle.ice_look.proofs.lists.add_entry.Goals as goal
use Rattle.ice_look.proofs.lists.add_entry.Goals.{in-Dir, in_default}

pub returns-in_err-next-clause-sound : goal.returns-in_err-next-clause-sound
returns-in_err-next-clause-sound g c = λ number h es s hand r below reached sound.
    let p = err_from_is_err_and c.from_residual.result c.from_residual.ensures.1 in
    let e = c.in_err-next.ensures in
    rw (p.1, p.2)
    (entry-fails (form_of g.F.Form.VERSION) (ap form_of g.F.Form.is_one.0) c.args.lot.now (g.V.View.map c.args.view.now c.args.disk.now c.args.lot.now) number h es r
    c.args.k (form_of g.F.Form.VERSION) below (ap form_of g.F.Form.is_one.0) _ e.faults (λ q. subst (λ (i : Inode). HasEntry c.args.lot.now c.args.k i → ⊥) hand (e.kind (ap (λ y. Err y) q))) (λ q. subst (λ (i : Inode). leads c.args.lot.now (g.V.View.map c.args.view.now c.args.disk.now c.args.lot.now) i (c.args.k / per_block (form_of g.F.Form.VERSION)) ≡ false) hand (e.pointer (ap (λ y. Err y) q) s)) (λ q. subst (λ (i : Inode). IfSome (slice_get (rows_at (form_of g.F.Form.VERSION) (g.V.View.map c.args.view.now c.args.disk.now c.args.lot.now) i) c.args.k) (λ row. is_name row.0 ≡ false)) hand (e.name (ap (λ y. Err y) q) s)))

pub returns-in_err-place-clause-sound : goal.returns-in_err-place-clause-sound
returns-in_err-place-clause-sound g c = λ number h es s hand r below reached sound.
    let f = form_of g.F.Form.VERSION in
    let m : ℕ → List ℕ = g.V.View.map c.args.view.now c.args.disk.now c.args.lot.now in
    let looked = c.entry_in.ensures.looked in
    let at = rows-own f (ap form_of g.F.Form.is_one.0) c.args.lot.now m number h (form_of g.F.Form.VERSION) (ap form_of g.F.Form.is_one.0) in
    let x = row-tree f c.args.lot.now (own f m) number h es r c.args.k c.entry_in.new.into c.in_ok-next.next (ap (λ (xs : List DirRow). slice_get xs c.args.k) at ∙ (subst (λ (i : Inode). slice_get (rows_at (form_of g.F.Form.VERSION) (g.V.View.map c.args.view.now c.args.disk.now c.args.lot.now) i) c.args.k ≡ Some (c.entry_in.new.into, c.in_ok-next.next)) hand (c.in_ok-next.ensures.row s))) in
    let p = err_from_is_err_and c.from_residual-in_err-place.result c.from_residual-in_err-place.ensures.1 in
    rw (p.1, p.2)
    (c.in_err-place.ensures.sound (h + 1) x.0 (looked.shows s) (λ z. sound (row-broken (form_of g.F.Form.VERSION) (ap form_of g.F.Form.is_one.0) c.args.lot.now m number reached (reads-directory f (ap form_of g.F.Form.is_one.0) c.args.lot.now m number h es r) c.args.k c.entry_in.new.into c.in_ok-next.next ((subst (λ (i : Inode). slice_get (rows_at (form_of g.F.Form.VERSION) (g.V.View.map c.args.view.now c.args.disk.now c.args.lot.now) i) c.args.k ≡ Some (c.entry_in.new.into, c.in_ok-next.next)) hand (c.in_ok-next.ensures.row s))) (inl z)))
    (subst (λ (m : ℕ → List ℕ). Reads f c.args.lot.now (own f m) c.in_ok-next.next (h + 1) x.0) (sym looked.map) x.2))

pub returns-clause-added : goal.returns-clause-added
returns-clause-added g c = λ number h es row s hand r is reached sound.
    let f = form_of g.F.Form.VERSION in
    let m : ℕ → List ℕ = g.V.View.map c.args.view.now c.args.disk.now c.args.lot.now in
    let looked = c.entry_in.ensures.looked in
    let at = rows-own f (ap form_of g.F.Form.is_one.0) c.args.lot.now m number h (form_of g.F.Form.VERSION) (ap form_of g.F.Form.is_one.0) in
    let here = ap (λ (xs : List DirRow). slice_get xs c.args.k) at ∙ (subst (λ (i : Inode). slice_get (rows_at (form_of g.F.Form.VERSION) (g.V.View.map c.args.view.now c.args.disk.now c.args.lot.now) i) c.args.k ≡ Some (c.entry_in.new.into, c.in_ok-next.next)) hand (c.in_ok-next.ensures.row s)) in
    let x = row-tree f c.args.lot.now (own f m) number h es r c.args.k c.entry_in.new.into c.in_ok-next.next here in
    let place = c.in_ok-place.ensures.place (h + 1) x.0 (looked.shows s) (λ z. sound (row-broken (form_of g.F.Form.VERSION) (ap form_of g.F.Form.is_one.0) c.args.lot.now m number reached (reads-directory f (ap form_of g.F.Form.is_one.0) c.args.lot.now m number h es r) c.args.k c.entry_in.new.into c.in_ok-next.next ((subst (λ (i : Inode). slice_get (rows_at (form_of g.F.Form.VERSION) (g.V.View.map c.args.view.now c.args.disk.now c.args.lot.now) i) c.args.k ≡ Some (c.entry_in.new.into, c.in_ok-next.next)) hand (c.in_ok-next.ensures.row s))) (inl z)))
    (subst (λ (m : ℕ → List ℕ). Reads f c.args.lot.now (own f m) c.in_ok-next.next (h + 1) x.0) (sym looked.map) x.2) in
    let kind : c.match-matches.matches ≡ is_dir x.0 =
    elim c.match-matches.branch [
      | in-Dir w ↦ shows-dir c.in_ok-place.place _ _ c.in_ok-next.next x.0 c.match-matches.matches place w.in-Dir.is w.matches-is
      | in_default w ↦ shows-file c.in_ok-place.place c.in_ok-next.next x.0 c.match-matches.matches place w.in_default.not-Dir w.matches-is
    ] in
    c.add_entry.ensures.entries ∙ ap (λ e. c.args.room.now.entries ++ e ∷ []) (listed-row es row c.entry_in.new.into c.in_ok-next.next x.0 _ (same_Some _ _ (sym is ∙ here)) x.1 refl kind)

pub returns-in_err-next-clause-broken : goal.returns-in_err-next-clause-broken
returns-in_err-next-clause-broken g c = λ number s hand reached has.
    let p = err_from_is_err_and c.from_residual.result c.from_residual.ensures.1 in
    let e = c.in_err-next.ensures in
    rw (p.1, p.2)
    (entry-broken (form_of g.F.Form.VERSION) (ap form_of g.F.Form.is_one.0) c.args.lot.now (g.V.View.map c.args.view.now c.args.disk.now c.args.lot.now) number reached c.args.k (subst (HasEntry c.args.lot.now c.args.k) hand has) _ e.faults
    (λ q. subst (λ (i : Inode). HasEntry c.args.lot.now c.args.k i → ⊥) hand (e.kind (ap (λ y. Err y) q))) (λ q. subst (λ (i : Inode). leads c.args.lot.now (g.V.View.map c.args.view.now c.args.disk.now c.args.lot.now) i (c.args.k / per_block (form_of g.F.Form.VERSION)) ≡ false) hand (e.pointer (ap (λ y. Err y) q) s)) (λ q. subst (λ (i : Inode). IfSome (slice_get (rows_at (form_of g.F.Form.VERSION) (g.V.View.map c.args.view.now c.args.disk.now c.args.lot.now) i) c.args.k) (λ row. is_name row.0 ≡ false)) hand (e.name (ap (λ y. Err y) q) s)))

pub returns-in_err-place-clause-broken : goal.returns-in_err-place-clause-broken
returns-in_err-place-clause-broken g c = λ number s hand reached has.
    let m : ℕ → List ℕ = g.V.View.map c.args.view.now c.args.disk.now c.args.lot.now in
    let looked = c.entry_in.ensures.looked in
    let p = err_from_is_err_and c.from_residual-in_err-place.result c.from_residual-in_err-place.ensures.1 in
    rw (p.1, p.2)
    (subst (λ (n : ℕ → List ℕ). IsBrokenBy (form_of g.F.Form.VERSION) c.args.lot.now n c.in_err-place.field-0.0) looked.map
    (c.in_err-place.ensures.broken (looked.shows s)
    (subst (λ (n : ℕ → List ℕ). Reached (form_of g.F.Form.VERSION) c.args.lot.now n c.in_ok-next.next) (sym looked.map) (row-reached (form_of g.F.Form.VERSION) c.args.lot.now m number c.args.k c.entry_in.new.into c.in_ok-next.next reached (subst (HasEntry c.args.lot.now c.args.k) hand has).is ((subst (λ (i : Inode). slice_get (rows_at (form_of g.F.Form.VERSION) (g.V.View.map c.args.view.now c.args.disk.now c.args.lot.now) i) c.args.k ≡ Some (c.entry_in.new.into, c.in_ok-next.next)) hand (c.in_ok-next.ensures.row s)))))
    (λ past.
    subst (λ (n : ℕ → List ℕ). BadEntry (form_of g.F.Form.VERSION) c.args.lot.now n) (sym looked.map)
    (row-broken (form_of g.F.Form.VERSION) (ap form_of g.F.Form.is_one.0) c.args.lot.now m number reached (subst (HasEntry c.args.lot.now c.args.k) hand has).is c.args.k c.entry_in.new.into c.in_ok-next.next ((subst (λ (i : Inode). slice_get (rows_at (form_of g.F.Form.VERSION) (g.V.View.map c.args.view.now c.args.disk.now c.args.lot.now) i) c.args.k ≡ Some (c.entry_in.new.into, c.in_ok-next.next)) hand (c.in_ok-next.ensures.row s))) past))))
