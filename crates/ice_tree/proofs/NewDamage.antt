-- Which rule a lot breaks where a new file or directory can't be made after all.
use Rattle.std.proofs.Common.{◌≡◌, ◌≢◌, ◌≤◌, ◌<◌, ◌+◌, ◌-◌, ◌*◌, ◌^◌, ℕ, Bool, true, false, not, List, length, refl, sym, ap, ◌∙◌, subst, arith, inl, inr}
use Rattle.ice_base.specs.Fields.{word_at}
use Rattle.ice_base.specs.Inodes.{inode_address, inode_index}
use Rattle.ice_base.specs.Lots.{LotView, sub_address}
use Rattle.ice_base.specs.Faults.{IsTakeInodeFault}
use Rattle.ice_base.specs.Used.{used, used_block, bitmap_of, is_data, counted, free_count, AllUsed, Reserved}
use Rattle.ice_base.specs.declared.fault.OpFault.{OpFault}
use Rattle.ice_base.specs.declared.fault.OpFault.TheVariants.{Disk, Damaged, NoSpace, NoNodes}
use Rattle.ice_base.specs.declared.fault.Rule.TheVariants.{Counts, Kind, Pointer, Bitmap}
use Rattle.ice_map.specs.declared.codec.Inode.{Inode}
use Rattle.ice_map.specs.Inodes.{inode_of, inode_at}
use Rattle.ice_map.specs.Maps.{Misleads}
use Rattle.ice_map.proofs.GrowLaws.{inode_not_bitmap, inode_not_data, inode_not_sub}
use Rattle.ice_map.proofs.ListLaws.{count_none}
use Rattle.ice_map.proofs.MarkLaws.{used-same, free-same, data_not_bitmap, data_not_sub}
use Rattle.ice_map.specs.Moves.{uses_of}
use Rattle.ice_dir.specs.Changes.{HasEntryRoom, entry_blocks}
use Rattle.ice_dir.specs.Faults.{IsAddFault}
use Rattle.ice_reads.specs.Tables.{Map}
use Rattle.ice_steps.proofs.Keeps.{only-one, only-two}
use Rattle.ice_steps.proofs.SubLaws.{counted-other}
use Rattle.ice_look.specs.declared.looks.DirAt.{DirAt}
use Rattle.ice_look.specs.Broken.{IsBrokenBy}
use Rattle.ice_tree.specs.Makes.{NewFits}
use Rattle.ice_tree.proofs.MakeLaws.{NodePut}
use Rattle.ice_look.proofs.MapDamage.{map-dir, bad-pointer}
use Rattle.tree_spec.specs.Costs.{form_one, Form}
use Rattle.ice_tree.proofs.MapDamage.{dir-few, misleads-same}

-- where an inode was taken and put, every other one is as it was
pub node-beside : (lot : LotView) (m0 m1 m2 : Map) (j : ℕ) (dir : Bool) (number : ℕ) → NodePut lot m0 m1 m2 j dir → j ≢ number
    → inode_of m2 number ≡ inode_of m0 number
node-beside lot m0 m1 m2 j dir number put apart =
    put.put.others number (λ e. apart (sym e))
    ∙ ap (λ (b : List ℕ). inode_at b (inode_index number))
    (only-two sub_address (bitmap_of true j) m0 m1 put.taken (inode_address number) (inode_not_sub number) (inode_not_bitmap number _))

module _ (form : Form) (e64 : form ≡ form_one) (lot : LotView) (few : length lot.groups ≤ 64) (m0 : Map) (spot : DirAt) (fits : NewFits form lot m0 spot) where
  -- no inode can be taken
  pub take-blamed : (e : OpFault) → IsTakeInodeFault e → (e ≡ NoNodes → AllUsed true lot m0)
      → (e ≡ Damaged Counts → counted true m0 ≡ 2 ^ 32 - 1) → IsBrokenBy form lot m0 e
  take-blamed Disk h none full = tt
  take-blamed NoNodes h none full =
      let z : free_count true lot m0 ≡ 0 = count_none (λ i. not (used true m0 i)) (64 * length lot.groups) (λ i l. ap not (none refl i l)) in
      absurd (omega (arith, z, fits.node))
  take-blamed (Damaged Counts) h none full = inl (record { inodes = true; many = omega (arith, few, full refl) })
  take-blamed _ h none full = absurd h

  module _ (m1 m2 : Map) (j : ℕ) (dir : Bool) (put : NodePut lot m0 m1 m2 j dir) (apart : j ≢ spot.number) where
    away : (a : ℕ) → a ≢ sub_address → a ≢ bitmap_of true j → a ≢ inode_address j → m2 a ≡ m0 a
    away a p q r = only-one (inode_address j) m1 m2 put.there a r ∙ only-two sub_address (bitmap_of true j) m0 m1 put.taken a p q

    same-node : inode_of m2 spot.number ≡ inode_of m0 spot.number
    same-node = node-beside lot m0 m1 m2 j dir spot.number put apart

    same-blocks : (b : ℕ) → used_block m2 b ≡ used_block m0 b
    same-blocks b = used-same false m1 m2 b (λ o. only-one (inode_address j) m1 m2 put.there (256 * o) (λ e. inode_not_bitmap j o (sym e))) ∙ put.took.others b

    same-sub : m2 sub_address ≡ m1 sub_address
    same-sub = only-one (inode_address j) m1 m2 put.there sub_address (λ e. inode_not_sub j (sym e))

    same-count : counted false m2 ≡ counted false m0
    same-count = ap (λ (b : List ℕ). word_at b 24) same-sub ∙ counted-other m0 m1 _ put.took.counts

    same-data : (a : ℕ) → is_data lot a ≡ true → m2 a ≡ m0 a
    same-data a d = away a (λ e. data_not_sub lot a few d (sym e)) (λ e. data_not_bitmap lot a _ d (sym e)) (λ e. inode_not_data lot j a d (sym e))

    same-size : (inode_of m2 spot.number).size ≡ spot.entries
    same-size = ap (λ (x : Inode). x.size) same-node ∙ fits.spot_is.entries

    -- no entry can be added
    pub add-blamed : (e : OpFault) → IsAddFault e
        → (e ≡ NoSpace → free_count false lot m2 + uses_of (entry_blocks form (inode_of m2 spot.number).size)
        < uses_of (entry_blocks form ((inode_of m2 spot.number).size + 1)))
        → (e ≡ Damaged Counts → 2 ^ 32 + uses_of (entry_blocks form (inode_of m2 spot.number).size)
        ≤ counted false m2 + uses_of (entry_blocks form ((inode_of m2 spot.number).size + 1)))
        → (e ≡ Damaged Kind → ¬ HasEntryRoom lot (inode_of m2 spot.number))
        → (e ≡ Damaged Pointer → Misleads lot m2 (inode_of m2 spot.number) (entry_blocks form (inode_of m2 spot.number).size))
        → (e ≡ Damaged Bitmap → ¬ Reserved lot m2) → IsBrokenBy form lot m0 e
    add-blamed Disk h none full kind pointer unreserved = tt
    add-blamed NoSpace h none full kind pointer unreserved =
        let q = subst (λ x. free_count false lot m2 + uses_of (entry_blocks form x) < uses_of (entry_blocks form (x + 1))) same-size (none refl) in
        absurd (omega (arith, q, fits.blocks, free-same lot m0 m2 same-blocks))
    add-blamed (Damaged Counts) h none full kind pointer unreserved =
        let q = subst (λ x. 2 ^ 32 + uses_of (entry_blocks form x) ≤ counted false m2 + uses_of (entry_blocks form (x + 1))) same-size (full refl) in
        let small = fits.spot_is.dir.few in
        let is = fits.spot_is.entries in
        inl (record { inodes = false; many = omega (arith, few, q, same-count, dir-few form (spot.entries + 1) e64 (omega (arith, few, small, is))) })
    add-blamed (Damaged Kind) h none full kind pointer unreserved =
        absurd (kind refl
        (subst (λ (x : Inode). HasEntryRoom lot x) (sym same-node)
        (record { is = fits.spot_is.dir; room = omega (arith, fits.room, fits.spot_is.entries) })))
    add-blamed (Damaged Pointer) h none full kind pointer unreserved =
        let x = inode_of m0 spot.number in
        let bad = misleads-same lot m0 m2 x (entry_blocks form x.size) (λ d. same-data x.single d)
        (subst (λ (y : Inode). Misleads lot m2 y (entry_blocks form y.size)) same-node (pointer refl)) in
        inl (bad-pointer form lot m0 spot.number (entry_blocks form x.size) fits.spot_is.reached (inr fits.spot_is.dir)
        (map-dir form x fits.spot_is.dir.kind) bad)
    add-blamed (Damaged Bitmap) h none full kind pointer unreserved =
        inl (λ reserved. unreserved refl (record { set = λ b l r. same-blocks b ∙ reserved.set b l r }))
    add-blamed _ h none full kind pointer unreserved = absurd h
