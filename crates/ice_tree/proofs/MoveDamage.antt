-- What a rename that fails says of the lot.
use Rattle.std.proofs.Common.{◌≡◌, ◌≢◌, ◌<◌, ◌≤◌, ◌+◌, ◌-◌, ◌*◌, ◌%◌, ◌^◌, ℕ, true, false, List, length, nat_eq, refl, sym, ap, ◌∙◌, subst, arith, inl, inr, ◌⊎◌, ⊎_elim}
use Rattle.std.proofs.lemmas.Bool.Decides.{nat_tests}
use Rattle.ice_base.specs.Lots.{LotView}
use Rattle.ice_base.specs.Used.{counted, free_count, is_data, Reserved}
use Rattle.ice_base.specs.declared.fault.OpFault.{OpFault}
use Rattle.ice_base.specs.declared.fault.OpFault.TheVariants.{Disk, Damaged, NoSpace}
use Rattle.ice_base.specs.declared.fault.Rule.TheVariants.{Counts, Kind, Pointer, Bitmap}
use Rattle.ice_map.specs.declared.codec.Inode.{Inode}
use Rattle.ice_map.specs.Inodes.{inode_of}
use Rattle.ice_map.specs.Maps.{Misleads}
use Rattle.ice_map.specs.Moves.{uses_of}
use Rattle.ice_dir.specs.Changes.{entry_blocks, dir_uses, HasEntryRoom, EntryGone}
use Rattle.ice_dir.specs.Faults.{IsAddFault}
use Rattle.ice_dir.specs.Rows.{IsDirectory}
use Rattle.ice_look.specs.Broken.{BadPointer, TwiceUsed, IsBrokenBy}
use Rattle.ice_tree.specs.Renames.{MoveIs, RowFits}
use Rattle.ice_tree.specs.declared.renames.Move.{Move}
use Rattle.ice_look.proofs.MapDamage.{map-dir, bad-pointer, bad-map}
use Rattle.ice_tree.proofs.MapDamage.{dir-few}
use Rattle.tree_spec.specs.Costs.{form_one, Form}
use Rattle.ice_tree.proofs.LooseDamage.{other-misled, shared}

-- two numbers are one, or differ
pub by-number : (P : Type 0) (a b : ℕ) → (a ≡ b → P) → (a ≢ b → P) → P
by-number P a b one two =
    elim (nat_eq a b) as (λ t. nat_eq a b ≡ t → P) [
      | true ↦ λ t. one (equal a b t)
      | false ↦ λ t. two (differ a b t)
    ] refl
  where
    equal : (a b : ℕ) → nat_eq a b ≡ true → a ≡ b
    equal a b t = grind (arith, nat_tests)

    differ : (a b : ℕ) → nat_eq a b ≡ false → a ≢ b
    differ a b t = grind (arith, nat_tests)

low-place : (lot : LotView) (b : ℕ) → b % 256 < 9 → is_data lot b ≡ false
unfolding is_data
low-place lot b h = grind (arith, nat_tests)

-- an entry was taken, and is to be added
module _ (form : Form) (e64 : form ≡ form_one) (lot : LotView) (few : length lot.groups ≤ 64) (m0 m1 : ℕ → List ℕ) (name : List ℕ)
    (step : Move) (is : MoveIs form lot m0 name step) (fits : RowFits form lot m0 step) (differ : step.same ≡ false)
    (gone : EntryGone lot form m0 m1 step.from.number) where
  abbrev from : ℕ
  from = step.from.number

  abbrev to : ℕ
  to = step.to.number

  to-same : to ≢ from → inode_of m1 to ≡ inode_of m0 to
  to-same = gone.others to

  -- there are as many blocks as it needs
  no-space : free_count false lot m1 + uses_of (entry_blocks form (inode_of m1 to).size) < uses_of (entry_blocks form ((inode_of m1 to).size + 1)) → ⊥
  no-space none = by-number ⊥ to from here there
    where
      here : to ≡ from → ⊥
      here e =
          let s = gone.size in
          let f = gone.free in
          let a = ap (λ i. uses_of (entry_blocks form (inode_of m1 i).size)) e in
          let b : (inode_of m1 to).size + 1 ≡ (inode_of m0 from).size = ap (λ i. (inode_of m1 i).size + 1) e ∙ s in
          let d = ap (λ n. uses_of (entry_blocks form n)) b in
          omega arith

      there : to ≢ from → ⊥
      there n =
          let e : (inode_of m1 to).size ≡ step.to.entries = ap (λ (i : Inode). i.size) (to-same n) ∙ is.to_is.entries in
          let a = ap (λ i. uses_of (entry_blocks form i)) e in
          let b = ap (λ i. uses_of (entry_blocks form (i + 1))) e in
          let s = gone.size in
          let o = is.from_is.entries in
          let f = gone.free in
          let d = ap (λ i. uses_of (entry_blocks form i)) o in
          let l : (inode_of m1 from).size ≡ step.from.entries - 1 = omega arith in
          let w = ap (λ i. uses_of (entry_blocks form i)) l in
          let q = fits.blocks differ (λ x. n (sym x)) in
          omega arith

  -- the directory has room
  has-room : IsDirectory lot (inode_of m1 to) → HasEntryRoom lot (inode_of m1 to)
  has-room d = record { is = d; room = by-number ((inode_of m1 to).size + 1 < 64 * length lot.groups) to from here there }
    where
      here : to ≡ from → (inode_of m1 to).size + 1 < 64 * length lot.groups
      here e =
          let s = gone.size in
          let l = is.from_is.dir.few in
          let b : (inode_of m1 to).size + 1 ≡ (inode_of m0 from).size = ap (λ i. (inode_of m1 i).size + 1) e ∙ s in
          omega arith

      there : to ≢ from → (inode_of m1 to).size + 1 < 64 * length lot.groups
      there n =
          let e : (inode_of m1 to).size ≡ step.to.entries = ap (λ (i : Inode). i.size) (to-same n) ∙ is.to_is.entries in
          let s = gone.size in
          let o = is.from_is.entries in
          let q = fits.room (λ x. n (sym x)) in
          omega arith

  dir-now : IsDirectory lot (inode_of m1 to)
  dir-now = by-number (IsDirectory lot (inode_of m1 to)) to from here there
    where
      here : to ≡ from → IsDirectory lot (inode_of m1 to)
      here e =
          let s = gone.size in
          let l = is.from_is.dir.few in
          let b : (inode_of m1 to).size + 1 ≡ (inode_of m0 from).size = ap (λ i. (inode_of m1 i).size + 1) e ∙ s in
          record { kind = ap (λ i. (inode_of m1 i).kind) e ∙ gone.kind; few = omega arith }

      there : to ≢ from → IsDirectory lot (inode_of m1 to)
      there n = subst (λ (i : Inode). IsDirectory lot i) (sym (to-same n)) is.to_is.dir

  -- the map of the directory led nowhere before, or a block was used twice
  misled-before : Misleads lot m1 (inode_of m1 to) (entry_blocks form (inode_of m1 to).size) → BadPointer form lot m0 ⊎ TwiceUsed form lot m0
  misled-before bad = by-number (BadPointer form lot m0 ⊎ TwiceUsed form lot m0) to from here there
    where
      here : to ≡ from → BadPointer form lot m0 ⊎ TwiceUsed form lot m0
      here e =
          bad-map form lot m0 from (entry_blocks form (inode_of m0 from).size) is.from_is.reached (inr is.from_is.dir)
          (map-dir form (inode_of m0 from) is.from_is.dir.kind)
          (gone.leads (subst (λ i. Misleads lot m1 (inode_of m1 i) (entry_blocks form (inode_of m1 i).size)) e bad))

      there : to ≢ from → BadPointer form lot m0 ⊎ TwiceUsed form lot m0
      there n =
          let x = inode_of m0 to in
          let c = entry_blocks form (inode_of m0 to).size in
          ⊎_elim
          (λ l. inl (bad-pointer form lot m0 to c is.to_is.reached (inr is.to_is.dir) (map-dir form x is.to_is.dir.kind) l))
          (λ s. inr (shared form lot m0 to from c (entry_blocks form (inode_of m0 from).size) x.single is.to_is.reached is.from_is.reached
          (inr is.to_is.dir) (inr is.from_is.dir) (map-dir form x is.to_is.dir.kind)
          (map-dir form (inode_of m0 from) is.from_is.dir.kind) n s.1 s.0))
          (other-misled lot m0 m1 (dir_uses form m0 from) gone.blocks x c (subst (λ (i : Inode). Misleads lot m1 i (entry_blocks form i.size)) (to-same n) bad))

  -- each place that holds no data was marked as it is
  reserved-after : Reserved lot m0 → Reserved lot m1
  reserved-after r = record { set = λ b l h. gone.places b (low-place lot b h) ∙ r.set b l h }

  pub add-blamed : (e : OpFault) → IsAddFault e
      → (e ≡ NoSpace → free_count false lot m1 + uses_of (entry_blocks form (inode_of m1 to).size) < uses_of (entry_blocks form ((inode_of m1 to).size + 1)))
      → (e ≡ Damaged Counts → 2 ^ 32 + uses_of (entry_blocks form (inode_of m1 to).size)
      ≤ counted false m1 + uses_of (entry_blocks form ((inode_of m1 to).size + 1)))
      → (e ≡ Damaged Kind → ¬ HasEntryRoom lot (inode_of m1 to)) → (e ≡ Damaged Bitmap → ¬ Reserved lot m1)
      → (e ≡ Damaged Pointer → Misleads lot m1 (inode_of m1 to) (entry_blocks form (inode_of m1 to).size))
      → IsBrokenBy form lot m0 e
  add-blamed Disk f none most kind unreserved misled = tt
  add-blamed NoSpace f none most kind unreserved misled = absurd (no-space (none refl))
  add-blamed (Damaged Counts) f none most kind unreserved misled =
      let u = most refl in
      let l = dir-now.few in
      let b = dir-few form ((inode_of m1 to).size + 1) e64 (omega arith) in
      let c = gone.counts in
      inl (record { inodes = false; many = omega arith })
  add-blamed (Damaged Kind) f none most kind unreserved misled = absurd (kind refl (has-room dir-now))
  add-blamed (Damaged Bitmap) f none most kind unreserved misled = inl (λ r. unreserved refl (reserved-after r))
  add-blamed (Damaged Pointer) f none most kind unreserved misled = misled-before (misled refl)
  add-blamed _ f none most kind unreserved misled = absurd f
