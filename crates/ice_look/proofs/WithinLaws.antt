-- To how many files and directories the names below a directory lead, row by row.
use Rattle.std.proofs.Common.{◌≡◌, ℕ, zero, suc, ◌+◌, ◌<◌, ◌≤◌, Bool, true, false, cond, List, length, take, Some, sym, ap, ◌∙◌, refl, add-one, arith, inl, inr, ◌⊎◌}
use Rattle.std.specs.Prelude.{◌==◌, slice_get}
use Rattle.std.specs.List.{sum_by}
use Rattle.std.proofs.lemmas.Bool.Decides.{nat_tests}
use Rattle.std.proofs.lemmas.List.Sums.{sum_by_more, sum_by-take-le}
use Rattle.std.proofs.lemmas.List.{take_all}
use Rattle.std.proofs.lemmas.Option.{slice_get_within, get_or_from_slice_get}
use Rattle.ice_map.specs.Inodes.{inode_of}
use Rattle.ice_dir.specs.Rows.{DirRow, dir_rows_of}
use Rattle.ice_base.specs.Lots.{LotView}
use Rattle.ice_base.specs.declared.fault.OpFault.{OpFault}
use Rattle.ice_base.specs.declared.fault.OpFault.TheVariants.{Damaged}
use Rattle.ice_base.specs.declared.fault.Rule.TheVariants.{InodeTwice}
use Rattle.ice_look.specs.Broken.{count_within, count_within_place, IsBrokenBy}
use Rattle.ice_look.specs.Heights.{IsEntry}
use Rattle.ice_look.specs.Places.{PlaceOf, PlaceIs}
use Rattle.ice_look.specs.declared.place.Place.{Place}
use Rattle.tree_spec.specs.Costs.{Form}
use Rattle.ice_look.specs.declared.place.Place.TheVariants.{File, Dir, Missing, Blocked}

module _ (form : Form) (m : ℕ → List ℕ) where
  -- what the rows of a directory lead to
  abbrev pub by_row : ℕ → DirRow → ℕ
  by_row levels row = count_within form m levels row.1

  pub within-dir : (levels number : ℕ) → (inode_of m number).kind ≡ 2
      → count_within form m (levels + 1) number ≡ 1 + sum_by (by_row levels) (dir_rows_of form m number)
  within-dir levels number two =
      let test : ((inode_of m number).kind == 2) ≡ true = grind (arith, nat_tests) in
      rw add-one (ap (λ b. cond b (1 + sum_by (by_row levels) (dir_rows_of form m number)) 1) test)

  pub within-some : (levels number : ℕ) → 1 ≤ count_within form m levels number
  within-some zero number = omega arith
  within-some (suc levels) number = by ((inode_of m number).kind == 2)
    where
      by : (b : Bool) → 1 ≤ cond b (1 + sum_by (by_row levels) (dir_rows_of form m number)) 1
      by true = omega arith
      by _ = omega arith

  pub within-file : (levels number : ℕ) → (inode_of m number).kind ≡ 1 → count_within form m levels number ≡ 1
  within-file zero number one = refl
  within-file (suc levels) number one = by ((inode_of m number).kind == 2) (grind (arith, nat_tests))
    where
      by : (b : Bool) → b ≡ false → cond b (1 + sum_by (by_row levels) (dir_rows_of form m number)) 1 ≡ 1
      by b e = ap (λ x. cond x (1 + sum_by (by_row levels) (dir_rows_of form m number)) 1) e

  -- a place leads to what its inode leads to
  pub place-within : (levels number : ℕ) (place : Place) → PlaceOf number place → PlaceIs m place
      → count_within_place form m levels place ≡ count_within form m levels number
  place-within levels number (File n size) at is = sym (within-file levels n is.0) ∙ ap (count_within form m levels) at
  place-within levels number (Dir n size) at is = ap (count_within form m levels) at
  place-within levels number Missing at is = absurd at
  place-within levels number Blocked at is = absurd at

  pub place-some : (levels : ℕ) (place : Place) → 1 ≤ count_within_place form m levels place
  place-some levels (File n size) = omega arith
  place-some levels (Dir n size) = within-some levels n
  place-some levels Missing = omega arith
  place-some levels Blocked = omega arith

  module _ (levels number k : ℕ) (row : DirRow) (is : slice_get (dir_rows_of form m number) k ≡ Some row) where
    -- one row more
    pub rows-more : sum_by (by_row levels) (take (k + 1) (dir_rows_of form m number))
        ≡ sum_by (by_row levels) (take k (dir_rows_of form m number)) + by_row levels row
    rows-more =
        sum_by_more (by_row levels) (dir_rows_of form m number) k row (slice_get_within (dir_rows_of form m number) k row is)
        ∙ ap (λ r. sum_by (by_row levels) (take k (dir_rows_of form m number)) + by_row levels r)
        (get_or_from_slice_get (dir_rows_of form m number) k row row is)

    pub rows-within : sum_by (by_row levels) (take k (dir_rows_of form m number)) + by_row levels row ≤ sum_by (by_row levels) (dir_rows_of form m number)
    rows-within = omega (arith, rows-more, sum_by-take-le (by_row levels) (dir_rows_of form m number) (k + 1))

  pub rows-whole : (levels number k : ℕ) → length (dir_rows_of form m number) ≤ k
      → sum_by (by_row levels) (take k (dir_rows_of form m number)) ≡ sum_by (by_row levels) (dir_rows_of form m number)
  rows-whole levels number k h = ap (sum_by (by_row levels)) (take_all k (dir_rows_of form m number) h)

  module _ (lot : LotView) (levels number k budget : ℕ) (place : Place) (child : IsEntry form lot m number k place) (now : ℕ)
      (so_far : budget ≤ now + sum_by (by_row levels) (take k (dir_rows_of form m number))) where
    -- what a look below row k takes from the budget
    pub row-pays : (after : ℕ) → now ≤ after + count_within_place form m levels place
        → budget ≤ after + sum_by (by_row levels) (take (k + 1) (dir_rows_of form m number))
    row-pays after h =
        omega (arith, so_far, h, place-within levels child.inode place child.at child.is, rows-more levels number k (child.name, child.inode) child.row)

    -- a fault there
    pub row-fault : (inode_of m number).kind ≡ 2 → (e : OpFault)
        → IsBrokenBy form lot m e ⊎ ((e ≡ Damaged InodeTwice) × (now < count_within_place form m levels place))
        → IsBrokenBy form lot m e ⊎ ((e ≡ Damaged InodeTwice) × (budget + 1 < count_within form m (levels + 1) number))
    row-fault two e (inl b) = inl b
    row-fault two e (inr x) =
        inr (x.0, omega (arith, so_far, x.1, within-dir levels number two, place-within levels child.inode place child.at child.is, rows-within levels number k (child.name, child.inode) child.row))
