-- The rules that entries of directories break.
use Rattle.std.proofs.Common.{◌≡◌, ◌⊎◌, ℕ, ◌+◌, ◌*◌, ◌/◌, ◌<◌, ◌≤◌, false, List, length, Some, None, Option, sym, refl, ap, ◌∙◌, subst, arith, inl, inr}
use Rattle.std.proofs.lemmas.Nat.{div-add-mod', mod_below}
use Rattle.std.proofs.lemmas.List.Elements.{Contains-get_or}
use Rattle.std.proofs.lemmas.List.Folds.{find_at}
use Rattle.std.proofs.lemmas.Option.{slice_get_within, get_or_from_slice_get}
use Rattle.std.specs.List.{find, position_or_len}
use Rattle.std.specs.Option.{option_map}
use Rattle.std.specs.Prelude.{Contains, slice_get, IfSome, IfOk, Result, Ok, Err}
use Rattle.ice_base.specs.Lots.{LotView}
use Rattle.ice_base.specs.declared.fault.OpFault.{OpFault}
use Rattle.ice_base.specs.declared.fault.OpFault.TheVariants.{Disk, Damaged}
use Rattle.ice_base.specs.declared.fault.Rule.TheVariants.{Kind, Pointer, Name as BadNameRule}
use Rattle.ice_map.specs.Inodes.{inode_of}
use Rattle.ice_map.specs.Maps.{leads}
use Rattle.ice_map.specs.declared.codec.Inode.{Inode}
use Rattle.ice_map.specs.Own.{map_length}
use Rattle.ice_dir.specs.Faults.{IsEntryFault, IsFindFault}
use Rattle.ice_dir.specs.Rows.{DirRow, IsDirectory, HasEntry, look_up, named, dir_rows_of, row_of, per_block}
use Rattle.ice_dir.proofs.DirLaws.{row-below, get-row, dir-length, per-sixteen}
use Rattle.tree_spec.specs.Names.{is_name}
use Rattle.ice_look.specs.Broken.{BadEntry, IsBrokenBy}
use Rattle.ice_look.specs.Heights.{IsEntry}
use Rattle.ice_look.specs.Places.{IsNode, Reached, IsReached, Named, PlaceOf, PlaceIs, PlaceReached, PlaceNamed}
use Rattle.ice_look.specs.declared.place.Place.{Place}
use Rattle.tree_spec.specs.Costs.{form_one, Form}
use Rattle.ice_look.specs.declared.place.Place.TheVariants.{File, Dir, Missing, Blocked}

slice-has : {X : Type 0} (xs : List X) (k : ℕ) (x : X) → slice_get xs k ≡ Some x → Contains xs x
slice-has xs k x is = subst (Contains xs) (get_or_from_slice_get xs k x x is) (Contains-get_or xs k x (slice_get_within xs k x is))

named-row : (rows : List DirRow) (c : List ℕ) (j : ℕ) → look_up c rows ≡ Some j → (row : DirRow) × Contains rows row × (row.1 ≡ j)
named-row rows c j is =
    elim (find (named c) rows) as (λ o. find (named c) rows ≡ o → option_map (λ (row : DirRow). row.1) o ≡ Some j
    → (row : DirRow) × Contains rows row × (row.1 ≡ j)) [
      | None ↦ λ e h. absurd (none h)
      | Some row ↦ λ e h. (row, slice-has rows (position_or_len (named c) rows) row (sym (find_at (named c) rows) ∙ e), some row.1 h)
    ] refl is
  where
    none : ◌≡◌ {A = Option ℕ} None (Some j) → ⊥
    none h = cc

    some : (k : ℕ) → ◌≡◌ {A = Option ℕ} (Some k) (Some j) → k ≡ j
    some k h = cc

-- a block that holds entries is one of the map
pub block-below : (form : Form) (x : Inode) (n : ℕ) → form ≡ form_one → x.kind ≡ 2 → n * per_block form < x.size → n < map_length form x
block-below form x n e kind h =
    let l = dir-length form x e kind in
    let b = div-add-mod' (x.size + 15) 16 in
    let s = mod_below (x.size + 15) 16 (omega arith) in
    let small : n * 16 < x.size = rw (per-sixteen form e) at h in
    omega (arith, l, b, s, small)

-- an inode that row k of a directory names
pub row-reached : (form : Form) (lot : LotView) (m : ℕ → List ℕ) (i k : ℕ) (c : List ℕ) (j : ℕ) → IsReached form lot m i
    → IsDirectory lot (inode_of m i) → slice_get (dir_rows_of form m i) k ≡ Some (c, j) → Reached form lot m j
row-reached form lot m i k c j r dir is = Named i j c r.by dir (slice-has (dir_rows_of form m i) k (c, j) is)

-- an inode that a name leads to
pub named-reached : (form : Form) (lot : LotView) (m : ℕ → List ℕ) (i : ℕ) (c : List ℕ) (j : ℕ) → IsReached form lot m i
    → IsDirectory lot (inode_of m i) → look_up c (dir_rows_of form m i) ≡ Some j → Reached form lot m j
named-reached form lot m i c j r dir is =
    let x = named-row (dir_rows_of form m i) c j is in
    subst (Reached form lot m) x.2 (Named i x.0.1 x.0.0 r.by dir x.1)

-- what row k of a directory leads to
pub entry-is : (form : Form) (lot : LotView) (m : ℕ → List ℕ) (dir k : ℕ) (c : List ℕ) (j : ℕ)
    → slice_get (dir_rows_of form m dir) k ≡ Some (c, j) → (r : Result Place OpFault)
    → IfOk r (PlaceOf j) → IfOk r (PlaceIs m) → IfOk r (PlaceReached form lot m) → IfOk r (IsEntry form lot m dir k)
entry-is form lot m dir k c j row (Ok p) at is by = record { name = c; inode = j; row = row; is = is; reached = by; at = at }
entry-is form lot m dir k c j row (Err e) at is by = tt

-- what a name of a directory leads to
pub place-named : (form : Form) (m : ℕ → List ℕ) (dir entries : ℕ) (c : List ℕ) (j : ℕ) → look_up c (dir_rows_of form m dir) ≡ Some j
    → (p : Place) → PlaceOf j p → PlaceNamed form m (Dir dir entries) c p
place-named form m dir entries c j is (File number size) at = is ∙ ap (λ x. Some x) (sym at)
place-named form m dir entries c j is (Dir number size) at = is ∙ ap (λ x. Some x) (sym at)
place-named form m dir entries c j is Missing at = tt
place-named form m dir entries c j is Blocked at = tt

module _ (form : Form) (e64 : form ≡ form_one) (lot : LotView) (m : ℕ → List ℕ) (i : ℕ) (reached : IsReached form lot m i) where
  -- a name that leads to the root or to no inode of the lot
  pub named-broken : IsDirectory lot (inode_of m i) → (c : List ℕ) (j : ℕ) → look_up c (dir_rows_of form m i) ≡ Some j
      → (j ≡ 0) ⊎ (64 * length lot.groups ≤ j) → BadEntry form lot m
  named-broken dir c j is past =
      let x = named-row (dir_rows_of form m i) c j is in
      record { number = i; row = x.0; reached = reached; dir = dir; has = x.1; bad = subst (λ n. (n ≡ 0) ⊎ (64 * length lot.groups ≤ n)) (sym x.2) past }

  -- so does row k
  pub row-broken : IsDirectory lot (inode_of m i) → (k : ℕ) (c : List ℕ) (j : ℕ) → slice_get (dir_rows_of form m i) k ≡ Some (c, j)
      → (j ≡ 0) ⊎ (64 * length lot.groups ≤ j) → BadEntry form lot m
  row-broken dir k c j is past =
      record { number = i; row = (c, j); reached = reached; dir = dir; has = slice-has (dir_rows_of form m i) k (c, j) is; bad = past }

  -- a search for a name
  pub find-broken : (e : OpFault) → IsFindFault e → (e ≡ Damaged Kind → ¬ IsDirectory lot (inode_of m i)) → IsNode lot (inode_of m i) → (inode_of m i).kind ≡ 2
      → (e ≡ Damaged Pointer → (n : ℕ) × (n * per_block form < (inode_of m i).size) × (leads lot m (inode_of m i) n ≡ false)) → IsBrokenBy form lot m e
  find-broken Disk h kind node two p = tt
  find-broken (Damaged Kind) h kind node two p = absurd (kind refl (directory node))
    where
      directory : IsNode lot (inode_of m i) → IsDirectory lot (inode_of m i)
      directory (inl f) = absurd (omega (arith, f.0, two))
      directory (inr d) = d
  find-broken (Damaged Pointer) h kind node two p =
      let x = p refl in
      inl (record { number = i; reached = reached; node = node; bad = record { block = x.0; below = block-below form (inode_of m i) x.0 e64 two x.1; bad = x.2 } })
  find-broken _ h kind node two p = absurd h

  -- a read of an entry
  pub entry-broken : (k : ℕ) → HasEntry lot k (inode_of m i) → (e : OpFault) → IsEntryFault e → (e ≡ Damaged Kind → HasEntry lot k (inode_of m i) → ⊥)
      → (e ≡ Damaged Pointer → leads lot m (inode_of m i) (k / per_block form) ≡ false)
      → (e ≡ Damaged BadNameRule → IfSome (slice_get (dir_rows_of form m i) k) (λ row. is_name row.0 ≡ false)) → IsBrokenBy form lot m e
  entry-broken k has Disk h kind p n = tt
  entry-broken k has (Damaged Kind) h kind p n = absurd (kind refl has)
  entry-broken k has (Damaged Pointer) h kind p n =
      inl (record {
        number = i;
        reached = reached;
        node = inr has.is;
        bad = record { block = k / per_block form; below = row-below form (inode_of m i) k e64 has.is.kind has.below; bad = p refl };
      })
  entry-broken k has (Damaged BadNameRule) h kind p n =
      let row = get-row form m i k e64 has.is.kind has.below in
      record {
        number = i;
        row = row_of form m (inode_of m i) k;
        reached = reached;
        dir = has.is;
        has = slice-has (dir_rows_of form m i) k (row_of form m (inode_of m i) k) row;
        bad = subst (λ o. IfSome o (λ row. is_name row.0 ≡ false)) row (n refl);
      }
  entry-broken k has _ h kind p n = absurd h
