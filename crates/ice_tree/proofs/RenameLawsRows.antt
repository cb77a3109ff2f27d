-- A row that is taken from one directory and added to another.
use Rattle.std.proofs.Common.{◌≡◌, ◌≤◌, ◌<◌, ◌+◌, ◌-◌, ◌*◌, ◌^◌, ℕ, true, false, List, [], ◌∷◌, ◌++◌, length, Option, Some, None, sym, refl, subst, ap, ◌∙◌, arith, T}
use Rattle.std.specs.Prelude.{is_some, unwrap_or}
use Rattle.std.specs.FinMap.{find}
use Rattle.ice_base.specs.Lots.{LotView}
use Rattle.ice_base.specs.Used.{counted, free_count, Reserved}
use Rattle.ice_base.specs.declared.fault.OpFault.{OpFault}
use Rattle.ice_base.specs.declared.fault.OpFault.TheVariants.{Disk, Damaged, NoSpace}
use Rattle.ice_base.specs.declared.fault.Rule.TheVariants.{Counts, Kind, Pointer, Bitmap}
use Rattle.ice_map.specs.Inodes.{inode_of}
use Rattle.ice_map.specs.Own.{own, WellMade}
use Rattle.ice_map.specs.Moves.{uses_of}
use Rattle.ice_dir.specs.Changes.{DirSet, HasEntryRoom, entry_blocks}
use Rattle.ice_dir.specs.Faults.{IsRemovalFault, IsAddFault}
use Rattle.ice_dir.specs.Rows.{IsDirectory, dir_rows_of, look_up, rows_without}
use Rattle.tree_spec.specs.Names.{is_name}
use Rattle.tree_spec.specs.Trees.{Tree, Dir, by_bytes, parent, last_name}
use Rattle.tree_spec.specs.Costs.{Form, form_one, blocks, block_quota}
use Rattle.tree_spec.specs.Operations.{Rename}
use Rattle.tree_spec.specs.Answers.{next_tree}
use Rattle.tree_spec.proofs.Accepted.{entry_walk, length-parent}
use Rattle.tree_spec.proofs.Changes.{Moves, accepted-rename, next-rename, placed, removed}
use Rattle.tree_spec.proofs.Refusals.{blocks-next}
use Rattle.ice_reads.specs.Tables.{Map, IsNameOf, IsDirInode, inode_named}
use Rattle.ice_reads.specs.Reads.{Reads, used_blocks, used_inodes, inode_on}
use Rattle.ice_reads.specs.Recovers.{MapRecovers}
use Rattle.ice_reads.proofs.LookUps.{look_up-find}
use Rattle.ice_steps.specs.Beside.{Beside}
use Rattle.ice_steps.proofs.Chains.{row_moved}
use Rattle.ice_steps.proofs.Costs.{take_counts, add_counts, add_fits}
use Rattle.ice_steps.proofs.Losses.{loses_row, walk_left}
use Rattle.ice_steps.proofs.Made.{beside_made, beside_part}
use Rattle.ice_steps.proofs.Needs.{beside_room, beside_reserved, loose_some}
use Rattle.ice_steps.proofs.Recovers.{recovers_beside}
use Rattle.ice_steps.proofs.Walks.{walk_dir}
use Rattle.ice_tree.specs.declared.renames.Move.{Move}
use Rattle.ice_tree.specs.Renames.{Renames}
use Rattle.ice_tree.proofs.MakeLaws.{add-fails}
use Rattle.ice_look.proofs.PlaceLaws.{Reads-number}

take-fails : (e : OpFault) → IsRemovalFault e → (e ≡ Damaged Counts → ⊥) → (e ≡ Damaged Kind → ⊥) → (e ≡ Damaged Pointer → ⊥)
    → (e ≡ Damaged Bitmap → ⊥) → e ≡ Disk
take-fails Disk h c k p b = refl
take-fails (Damaged Counts) h c k p b = absurd (c refl)
take-fails (Damaged Kind) h c k p b = absurd (k refl)
take-fails (Damaged Pointer) h c k p b = absurd (p refl)
take-fails (Damaged Bitmap) h c k p b = absurd (b refl)
take-fails _ h c k p b = absurd h

some_value : (x : Option ℕ) → is_some x ≡ true → x ≡ Some (unwrap_or x 0)
some_value None e = absurd (subst T (sym e) tt)
some_value (Some j) e = refl

None≢Some : (j : ℕ) → None ≡ Some j → ⊥
None≢Some j h = cc

same_Some : (i j : ℕ) → Some i ≡ Some j → i ≡ j
same_Some i j h = cc

abbrev Names : Type 0
Names = List (List ℕ)

module _ (mode : ℕ) (lot : LotView) (m0 : Map) (t : Tree) (k : ℕ) (p q : Names) (step : Move) (name new : List ℕ)
    (few : length lot.groups ≤ 64) (x : Renames form_one mode lot m0 t k p q step name new) (differ : step.same ≡ false) where
  moves : Moves p q t
  moves = accepted-rename t k (length lot.groups) form_one p q x.accepted (sym x.move_is.same_is ∙ differ)

  whole : Beside form_one mode lot m0 t k [] []
  whole = recovers_beside form_one mode lot m0 t k x.recovers

  abbrev here : ℕ
  here = inode_on form_one (own form_one m0) 0 (parent p)

  abbrev gone : ℕ
  gone = inode_named (last_name p) (dir_rows_of form_one m0 here)

  from-here : here ≡ step.from.number
  from-here = sym x.move_is.from_is.number

  -- ---- the row that is taken

  from_made : WellMade lot form_one m0 step.from.number
  from_made = subst (WellMade lot form_one m0) from-here (beside_made mode lot m0 t k [] [] whole few (parent p) (Dir moves.entry.entries) moves.entry.there)

  from_dir : IsDirectory lot (inode_of m0 step.from.number)
  from_dir = subst (λ i. IsDirectory lot (inode_of m0 i)) from-here (walk_dir mode lot m0 t k x.recovers (parent p) moves.entry.entries moves.entry.there).is

  take_fault : (e : OpFault) → IsRemovalFault e
      → (e ≡ Damaged Counts → counted false m0 + uses_of (entry_blocks form_one ((inode_of m0 step.from.number).size - 1))
      < uses_of (entry_blocks form_one (inode_of m0 step.from.number).size))
      → (e ≡ Damaged Kind → ¬ IsDirectory lot (inode_of m0 step.from.number))
      → (e ≡ Damaged Bitmap → ¬ WellMade lot form_one m0 step.from.number) → (e ≡ Damaged Pointer → ¬ WellMade lot form_one m0 step.from.number) → e ≡ Disk
  take_fault e h zero kind unused pointer = take-fails e h
      (λ z.
      subst (λ i. ¬ (counted false m0 + uses_of (entry_blocks form_one ((inode_of m0 i).size - 1)) < uses_of (entry_blocks form_one (inode_of m0 i).size))) from-here
      (take_counts mode lot m0 t k few [] [] whole (parent p) moves.entry.entries moves.entry.there) (zero z))
      (λ z. kind z from_dir)
      (λ z. pointer z from_made)
      (λ z. unused z from_made)

  is-dir : IsDirInode form_one lot (own form_one m0 here) moves.entry.entries
  is-dir = (beside_part mode lot m0 t k [] [] whole (parent p) (Dir moves.entry.entries) moves.entry.there).1

  named : look_up name (dir_rows_of form_one m0 step.from.number) ≡ Some gone
  named =
      (λ z. look_up (x.name_is z) (dir_rows_of form_one m0 (x.move_is.from_is.number z)))
      ∙ look_up-find (last_name p) (dir_rows_of form_one m0 here)
      ∙ some_value (find by_bytes (last_name p) (dir_rows_of form_one m0 here)) (sym (is-dir.maps (last_name p)) ∙ ap is_some moves.entry.found)

  -- the row is there
  take_some : None ≡ look_up name (dir_rows_of form_one m0 step.from.number) → ⊥
  take_some h = None≢Some gone (h ∙ named)

  taken-is : (j : ℕ) → Some j ≡ look_up name (dir_rows_of form_one m0 step.from.number) → j ≡ gone
  taken-is j h = same_Some j gone (h ∙ named)

  -- ---- the row that is added

  module _ (m1 : Map) (j : ℕ) (found : Some j ≡ look_up name (dir_rows_of form_one m0 step.from.number))
      (set : DirSet lot form_one m0 m1 step.from.number (rows_without name (dir_rows_of form_one m0 step.from.number))) where
    set-here : DirSet lot form_one m0 m1 here (rows_without (last_name p) (dir_rows_of form_one m0 here))
    set-here =
        subst (λ c. DirSet lot form_one m0 m1 here (rows_without c (dir_rows_of form_one m0 here))) x.name_is
        (subst (λ i. DirSet lot form_one m0 m1 i (rows_without name (dir_rows_of form_one m0 i))) x.move_is.from_is.number set)

    -- the tree that stands loose
    loose : Beside form_one mode lot m1 (removed p t) k (used_blocks form_one (own form_one m1) gone moves.tree) (used_inodes form_one (own form_one m1) gone moves.tree) × Reads form_one lot (own form_one m1) gone (length (parent p) + 1) moves.tree
    loose = loses_row mode lot m0 m1 t k (parent p) (last_name p) moves.tree moves.entry.entries x.recovers moves.entry.there moves.entry.found set-here

    -- its inode is one of the lot
    taken_small : j < 64 * length lot.groups
    taken_small =
        let e = taken-is j found in
        let s = Reads-number form_one refl lot m1 gone (length (parent p) + 1) moves.tree loose.1 in
        omega arith

    abbrev there : ℕ
    there = inode_on form_one (own form_one m1) 0 (parent q)

    to-stays : there ≡ inode_on form_one (own form_one m0) 0 (parent q)
    to-stays =
        walk_left mode lot m0 m1 t k (parent p)
        (last_name p) moves.tree moves.entry.entries x.recovers moves.entry.there moves.entry.found set-here (parent q)
        (Dir moves.place.entries) moves.place.there

    to-here : there ≡ step.to.number
    to-here = to-stays ∙ sym x.move_is.to_is.number

    to_made : WellMade lot form_one m1 step.to.number
    to_made = subst (WellMade lot form_one m1) to-here
        (beside_made mode lot m1 (removed p t) k (used_blocks form_one (own form_one m1) gone moves.tree)
        (used_inodes form_one (own form_one m1) gone moves.tree) loose.0 few (parent q) (Dir moves.place.entries) moves.place.there)

    to_room : HasEntryRoom lot (inode_of m1 step.to.number)
    to_room = subst (λ i. HasEntryRoom lot (inode_of m1 i)) to-here
        (beside_room mode lot m1 (removed p t) k (used_blocks form_one (own form_one m1) gone moves.tree)
        (used_inodes form_one (own form_one m1) gone moves.tree) loose.0 (loose_some m1 gone moves.tree) (parent q) moves.place.entries moves.place.there)

    made : next_tree (Rename p q) t ≡ placed q moves.tree (removed p t)
    made = next-rename t p q moves.tree (sym x.move_is.same_is ∙ differ) (entry_walk p t moves.tree moves.entry)

    fits-quota : blocks form_one (placed q moves.tree (removed p t)) ≤ block_quota (length lot.groups)
    fits-quota =
        subst (λ u. blocks form_one u ≤ block_quota (length lot.groups)) made (blocks-next t k (length lot.groups) form_one (Rename p q) x.accepted refl)

    add_fault : (e : OpFault) → IsAddFault e
        → (e ≡ NoSpace → free_count false lot m1 + uses_of (entry_blocks form_one (inode_of m1 step.to.number).size)
        < uses_of (entry_blocks form_one ((inode_of m1 step.to.number).size + 1)))
        → (e ≡ Damaged Counts → 2 ^ 32 + uses_of (entry_blocks form_one (inode_of m1 step.to.number).size)
        ≤ counted false m1 + uses_of (entry_blocks form_one ((inode_of m1 step.to.number).size + 1)))
        → (e ≡ Damaged Kind → ¬ HasEntryRoom lot (inode_of m1 step.to.number))
        → (e ≡ Damaged Pointer → ¬ WellMade lot form_one m1 step.to.number) → (e ≡ Damaged Bitmap → ¬ Reserved lot m1) → e ≡ Disk
    add_fault e h none full kind pointer unreserved = add-fails e h
        (λ z.
        subst (λ i. ¬ (free_count false lot m1 + uses_of (entry_blocks form_one (inode_of m1 i).size)
        < uses_of (entry_blocks form_one ((inode_of m1 i).size + 1)))) to-here
        (add_fits mode lot m1 (removed p t) k few gone (length (parent p) + 1) moves.tree
        (used_inodes form_one (own form_one m1) gone moves.tree) loose.0 loose.1 (parent q)
        (last_name q) moves.place.entries moves.place.there moves.place.free fits-quota) (none z))
        (λ z.
        subst (λ i. ¬ (2 ^ 32 + uses_of (entry_blocks form_one (inode_of m1 i).size) ≤ counted false m1
        + uses_of (entry_blocks form_one ((inode_of m1 i).size + 1)))) to-here
        (add_counts mode lot m1 (removed p t) k few (used_blocks form_one (own form_one m1) gone moves.tree)
        (used_inodes form_one (own form_one m1) gone moves.tree) loose.0 (parent q) moves.place.entries moves.place.there) (full z))
        (λ z. kind z to_room)
        (λ z. pointer z to_made)
        (λ z. unreserved z
        (beside_reserved mode lot m1 (removed p t) k (used_blocks form_one (own form_one m1) gone moves.tree)
        (used_inodes form_one (own form_one m1) gone moves.tree) loose.0))

    -- the row was added
    module _ (proper : is_name new ≡ true) (short : length new ≤ 59) (m2 : Map)
        (put : DirSet lot form_one m1 m2 step.to.number (dir_rows_of form_one m1 step.to.number ++ (new, j) ∷ [])) where
      good : IsNameOf form_one (last_name q)
      good = record { is = subst (λ c. is_name c ≡ true) x.new_is proper; short = subst (λ c. length c ≤ 59) x.new_is short }

      put-there : DirSet lot form_one m1 m2 (inode_on form_one (own form_one m0) 0 (parent q)) (dir_rows_of form_one m1 (inode_on form_one (own form_one m0) 0 (parent q)) ++ (last_name q, gone) ∷ [])
      put-there =
          subst (λ i. DirSet lot form_one m1 m2 i (dir_rows_of form_one m1 i ++ (last_name q, gone) ∷ [])) x.move_is.to_is.number
          (subst (λ i. DirSet lot form_one m1 m2 step.to.number (dir_rows_of form_one m1 step.to.number ++ (last_name q, i) ∷ [])) (taken-is j found)
          (subst (λ c. DirSet lot form_one m1 m2 step.to.number (dir_rows_of form_one m1 step.to.number ++ (c, j) ∷ [])) x.new_is put))

      row_put : MapRecovers form_one mode lot m2 (next_tree (Rename p q) t) k
      row_put = subst (λ u. MapRecovers form_one mode lot m2 u k) (sym made)
          (row_moved mode lot m0 m1 t k (parent p) (last_name p) moves.tree moves.entry.entries few x.recovers moves.entry.there moves.entry.found set-here
          m2 (parent q) (last_name q) moves.place.entries moves.place.there moves.place.free good
          (let e = length-parent q moves.place.below in let l = moves.low in omega arith) put-there)

-- ---- of any form, which is the one

module _ (f : Form) (one : f ≡ form_one) (form : Form) (sized : form ≡ form_one) (mode : ℕ) (lot : LotView) (m0 : Map) (t : Tree) (k : ℕ)
    (p q : Names) (step : Move) (name new : List ℕ) (few : length lot.groups ≤ 64)
    (x : Renames f mode lot m0 t k p q step name new) (differ : step.same ≡ false) where
  as_one : Renames form_one mode lot m0 t k p q step name new
  as_one = subst (λ g. Renames g mode lot m0 t k p q step name new) one x

  pub from_well : WellMade lot form m0 step.from.number
  from_well = subst (λ s. WellMade lot s m0 step.from.number) (sym sized) (from_made mode lot m0 t k p q step name new few as_one differ)

  pub take_sound : (e : OpFault) → IsRemovalFault e
      → (e ≡ Damaged Counts → counted false m0 + uses_of (entry_blocks form ((inode_of m0 step.from.number).size - 1))
      < uses_of (entry_blocks form (inode_of m0 step.from.number).size))
      → (e ≡ Damaged Kind → ¬ IsDirectory lot (inode_of m0 step.from.number))
      → (e ≡ Damaged Bitmap → ¬ WellMade lot form m0 step.from.number) → (e ≡ Damaged Pointer → ¬ WellMade lot form m0 step.from.number) → e ≡ Disk
  take_sound e h zero kind unused pointer = take_fault mode lot m0 t k p q step name new few as_one differ e h
      (λ z.
      subst (λ s. counted false m0 + uses_of (entry_blocks s ((inode_of m0 step.from.number).size - 1))
      < uses_of (entry_blocks s (inode_of m0 step.from.number).size)) sized (zero z))
      kind
      (λ z. subst (λ s. ¬ WellMade lot s m0 step.from.number) sized (unused z))
      (λ z. subst (λ s. ¬ WellMade lot s m0 step.from.number) sized (pointer z))

  pub row_there : None ≡ look_up name (dir_rows_of form m0 step.from.number) → ⊥
  row_there h = take_some mode lot m0 t k p q step name new few as_one differ (h ∙ ap (λ s. look_up name (dir_rows_of s m0 step.from.number)) sized)

  module _ (m1 : Map) (j : ℕ) (found : Some j ≡ look_up name (dir_rows_of form m0 step.from.number))
      (set : DirSet lot form m0 m1 step.from.number (rows_without name (dir_rows_of form m0 step.from.number))) where
    found-one : Some j ≡ look_up name (dir_rows_of form_one m0 step.from.number)
    found-one = found ∙ ap (λ s. look_up name (dir_rows_of s m0 step.from.number)) sized

    set-one : DirSet lot form_one m0 m1 step.from.number (rows_without name (dir_rows_of form_one m0 step.from.number))
    set-one = subst (λ s. DirSet lot s m0 m1 step.from.number (rows_without name (dir_rows_of s m0 step.from.number))) sized set

    pub row_small : j < 64 * length lot.groups
    row_small = taken_small mode lot m0 t k p q step name new few as_one differ m1 j found-one set-one

    pub to_well : WellMade lot form m1 step.to.number
    to_well = subst (λ s. WellMade lot s m1 step.to.number) (sym sized) (to_made mode lot m0 t k p q step name new few as_one differ m1 j found-one set-one)

    pub add_sound : (e : OpFault) → IsAddFault e
        → (e ≡ NoSpace → free_count false lot m1 + uses_of (entry_blocks form (inode_of m1 step.to.number).size)
        < uses_of (entry_blocks form ((inode_of m1 step.to.number).size + 1)))
        → (e ≡ Damaged Counts → 2 ^ 32 + uses_of (entry_blocks form (inode_of m1 step.to.number).size)
        ≤ counted false m1 + uses_of (entry_blocks form ((inode_of m1 step.to.number).size + 1)))
        → (e ≡ Damaged Kind → ¬ HasEntryRoom lot (inode_of m1 step.to.number))
        → (e ≡ Damaged Pointer → ¬ WellMade lot form m1 step.to.number) → (e ≡ Damaged Bitmap → ¬ Reserved lot m1) → e ≡ Disk
    add_sound e h none full kind pointer unreserved = add_fault mode lot m0 t k p q step name new few as_one differ m1 j found-one set-one e h
        (λ z.
        subst (λ s. free_count false lot m1 + uses_of (entry_blocks s (inode_of m1 step.to.number).size)
        < uses_of (entry_blocks s ((inode_of m1 step.to.number).size + 1))) sized (none z))
        (λ z.
        subst (λ s. 2 ^ 32 + uses_of (entry_blocks s (inode_of m1 step.to.number).size) ≤ counted false m1
        + uses_of (entry_blocks s ((inode_of m1 step.to.number).size + 1))) sized (full z))
        kind
        (λ z. subst (λ s. ¬ WellMade lot s m1 step.to.number) sized (pointer z))
        unreserved

    pub row_recovers : is_name new ≡ true → length new ≤ 59 → (m2 : Map)
        → DirSet lot form m1 m2 step.to.number (dir_rows_of form m1 step.to.number ++ (new, j) ∷ []) → MapRecovers f mode lot m2 (next_tree (Rename p q) t) k
    row_recovers proper short m2 put = subst (λ g. MapRecovers g mode lot m2 (next_tree (Rename p q) t) k) (sym one)
        (row_put mode lot m0 t k p q step name new few as_one differ m1 j found-one set-one proper short m2
        (subst (λ s. DirSet lot s m1 m2 step.to.number (dir_rows_of s m1 step.to.number ++ (new, j) ∷ [])) sized put))
