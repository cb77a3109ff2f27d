-- What a read of an entry shows.
use Rattle.std.proofs.Common.{◌≡◌, ℕ, ◌*◌, ◌/◌, ◌<◌, ◌≤◌, true, false, List, [], length, get_or, sym, refl, ap, ◌∙◌, subst, arith, inl, inr}
use Rattle.std.specs.Prelude.{slice_get, IfSome, nat_lt}
use Rattle.std.proofs.lemmas.Bool.Decides.{nat_tests}
use Rattle.std.proofs.lemmas.Option.{slice_get-get_or}
use Rattle.ice_base.specs.Lots.{LotView}
use Rattle.ice_base.specs.Used.{is_data}
use Rattle.ice_base.specs.declared.fault.OpFault.{OpFault}
use Rattle.ice_base.specs.declared.fault.OpFault.TheVariants as op
use Rattle.ice_base.specs.declared.fault.Rule.TheVariants as rule
use Rattle.ice_map.specs.Inodes.{inode_of}
use Rattle.ice_map.specs.Maps.{nth_block, leads}
use Rattle.ice_map.proofs.MapLaws.{nth-direct, leads-direct, leads-single}
use Rattle.ice_map.specs.Own.{map_length, own}
use Rattle.ice_dir.specs.Faults.{IsEntryFault}
use Rattle.ice_dir.specs.Rows.{DirRow, dir_rows_of, HasEntry}
use Rattle.ice_dir.proofs.DirLaws.{row-below}
use Rattle.tree_spec.specs.Costs.{form_one}
use Rattle.tree_spec.specs.Names.{is_name}
use Rattle.ice_reads.specs.Tables.{Map, rows_in}
use Rattle.ice_reads.proofs.Losses.{length-rows_in}
use Rattle.ice_rules.specs.Walks.{KindFits, LooksInto}
use Rattle.ice_rules.specs.Rules.{Breaks}
use Rattle.ice_check.specs.declared.fault.CheckFault.TheVariants as check
use Rattle.ice_check.specs.Shown.{Broke, IsCheckFault, told_as}
use Rattle.ice_check.proofs.LookLaws.{single_used, nth_used}

no : true ≡ false → ⊥
no e = cc

pub told_fault : (e : OpFault) → IsEntryFault e → IsCheckFault (told_as e)
told_fault op.Disk h = tt
told_fault (op.Damaged rule.Kind) h = tt
told_fault (op.Damaged rule.Pointer) h = tt
told_fault (op.Damaged rule.Name) h = tt
told_fault (op.Damaged _) h = absurd h
told_fault op.NoSpace h = absurd h
told_fault op.NoNodes h = absurd h

pub told_disk : (e : OpFault) → IsEntryFault e → told_as e ≡ check.Disk → e ≡ op.Disk
told_disk op.Disk h t = refl
told_disk (op.Damaged r) h t = absurd cc
told_disk op.NoSpace h t = absurd h
told_disk op.NoNodes h t = absurd h

few_entries : (lot : LotView) (i : ℕ) (k : ℕ) (m : Map) → KindFits form_one lot i (inode_of m i) → (inode_of m i).kind ≡ 2
    → (inode_of m i).size < 64 * length lot.groups
few_entries lot i k m (inl h) two = absurd (let one = h.0 in omega arith)
few_entries lot i k m (inr h) two = h.1

module _ (lot : LotView) (m : Map) (w : List ℕ) (dir k : ℕ) (looks : LooksInto form_one lot m w dir)
    (below : k < length (rows_in form_one (own form_one m dir))) where
  short : k < (inode_of m dir).size
  short = omega (arith, below, length-rows_in form_one (own form_one m dir))

  entry-there : HasEntry lot k (inode_of m dir)
  entry-there = record { is = record { kind = looks.dir.dir; few = few_entries lot dir k m looks.dir.sound.kind looks.dir.dir }; below = short }

  inside : k / 16 < map_length form_one (inode_of m dir)
  inside = row-below form_one (inode_of m dir) k refl looks.dir.dir short

  place-there : is_data lot (nth_block m (inode_of m dir) (k / 16)) ≡ true
  place-there = looks.dir.sound.pointers.places _ (nth_used m (inode_of m dir) (map_length form_one (inode_of m dir)) (k / 16) inside)

  leads-there : leads lot m (inode_of m dir) (k / 16) ≡ true
  leads-there =
      elim (nat_lt (k / 16) 12) as (λ t. nat_lt (k / 16) 12 ≡ t → leads lot m (inode_of m dir) (k / 16) ≡ true) [
        | true ↦ λ t.
            let low : k / 16 < 12 = grind (arith, nat_tests) in
            leads-direct lot m (inode_of m dir) (k / 16) low ∙ ap (is_data lot) (sym (nth-direct m (inode_of m dir) (k / 16) low)) ∙ place-there
        | false ↦ λ t.
            let high : 12 ≤ k / 16 = grind (arith, nat_tests) in
            let at = inside in
            let single = looks.dir.sound.pointers.places _ (single_used m (inode_of m dir) (map_length form_one (inode_of m dir)) (omega arith)) in
            leads-single lot m (inode_of m dir) (k / 16) high single ∙ place-there
      ] refl

  name_broken : IfSome (slice_get (dir_rows_of form_one m dir) k) (λ row. is_name row.0 ≡ false) → Breaks form_one lot m rule.Name
  name_broken bad =
      let at = slice_get-get_or (dir_rows_of form_one m dir) k ([], 0) below in
      let out : is_name (get_or (dir_rows_of form_one m dir) k ([], 0)).0 ≡ false = subst (λ o. IfSome o (λ (row : DirRow). is_name row.0 ≡ false)) at bad in
      record { walk = w; dir = dir; entry = k; row = get_or (dir_rows_of form_one m dir) k ([], 0); looks = looks; is = at; bad = λ f. no (sym f.is ∙ out) }

  pub entry_broken : (e : OpFault) → IsEntryFault e → (e ≡ op.Damaged rule.Kind → ¬ HasEntry lot k (inode_of m dir))
      → (e ≡ op.Damaged rule.Pointer → leads lot m (inode_of m dir) (k / 16) ≡ false)
      → (e ≡ op.Damaged rule.Name → IfSome (slice_get (dir_rows_of form_one m dir) k) (λ row. is_name row.0 ≡ false)) → Broke lot m (told_as e)
  entry_broken op.Disk h a b c = tt
  entry_broken (op.Damaged rule.Kind) h a b c = absurd (a refl entry-there)
  entry_broken (op.Damaged rule.Pointer) h a b c = absurd (no (sym leads-there ∙ b refl))
  entry_broken (op.Damaged rule.Name) h a b c = name_broken (c refl)
  entry_broken (op.Damaged _) h a b c = absurd h
  entry_broken op.NoSpace h a b c = absurd h
  entry_broken op.NoNodes h a b c = absurd h
