-- What a new directory or file does to a tree, and what it needs.
use Rattle.std.proofs.Common.{◌≡◌, ◌≢◌, ◌≤◌, ◌<◌, ◌+◌, ◌-◌, ◌*◌, ◌^◌, ℕ, Bool, true, false, List, [], ◌∷◌, ◌++◌, length, None, sym, refl, ap, subst, ◌∙◌, arith}
use Rattle.ice_base.specs.Inodes.{inode_address}
use Rattle.ice_base.specs.Lots.{LotView, sub_address}
use Rattle.ice_base.specs.Pools.{TookInode}
use Rattle.ice_base.specs.Faults.{IsTakeInodeFault}
use Rattle.ice_base.specs.Used.{AllUsed, bitmap_of, used_inode, counted, free_count, Reserved}
use Rattle.ice_base.specs.declared.fault.OpFault.{OpFault}
use Rattle.ice_base.specs.declared.fault.OpFault.TheVariants.{Disk, Damaged, NoSpace, NoNodes}
use Rattle.ice_base.specs.declared.fault.Rule.TheVariants.{Counts, Kind, Pointer, Bitmap}
use Rattle.ice_map.specs.Inodes.{inode_of, InodeSet}
use Rattle.ice_map.specs.Own.{own, WellMade}
use Rattle.ice_map.specs.Moves.{uses_of}
use Rattle.ice_dir.specs.Changes.{DirSet, HasEntryRoom, entry_blocks}
use Rattle.ice_dir.specs.Faults.{IsAddFault}
use Rattle.ice_dir.specs.Rows.{dir_rows_of}
use Rattle.tree_spec.specs.Names.{is_name}
use Rattle.tree_spec.specs.Why as why
use Rattle.tree_spec.specs.Trees.{Tree, File, Dir, Nil, parent, last_name, at, with_entry}
use Rattle.tree_spec.specs.Costs.{Form, form_one, nodes, blocks, node_quota, block_quota}
use Rattle.tree_spec.specs.Operations.{Mkdir, Make, is_change}
use Rattle.tree_spec.specs.Answers.{next_tree, refusal, deepest}
use Rattle.tree_spec.proofs.Accepted.{HasPlace, accepted-mkdir, accepted-make, length-parent, at_most, first_false}
use Rattle.tree_spec.proofs.Changes.{total-placed}
use Rattle.tree_spec.proofs.Refusals.{refusal-none, nodes-next, blocks-next}
use Rattle.ice_reads.specs.Tables.{Map, IsNameOf}
use Rattle.ice_reads.specs.Reads.{Reads, inode_on, used_blocks, used_inodes}
use Rattle.ice_reads.specs.Recovers.{MapRecovers}
use Rattle.ice_steps.specs.Beside.{Beside, OnlyAt}
use Rattle.ice_steps.proofs.Chains.{dir_made, file_made}
use Rattle.ice_steps.proofs.Costs.{inode_left, inode_counts, add_counts, add_fits}
use Rattle.ice_steps.proofs.Fresh.{fresh_value, fresh_dir, fresh_file, dir_beside, file_beside, put_loose, put_stays}
use Rattle.ice_steps.proofs.Made.{beside_made, beside_marked}
use Rattle.ice_steps.proofs.Needs.{beside_room, beside_reserved}
use Rattle.ice_steps.proofs.Recovers.{recovers_beside}
use Rattle.ice_steps.proofs.Stays.{stays_walk}
use Rattle.ice_steps.proofs.Takes.{took_inode, took_stays}
use Rattle.ice_look.specs.declared.looks.DirAt.{DirAt}
use Rattle.ice_tree.specs.Makes.{new_operation, new_inode, Takes}

true_false : (b : Bool) → b ≡ true → b ≡ false → ⊥
true_false b h k = cc

-- ---- which faults there are

take-fails : (e : OpFault) → IsTakeInodeFault e → (e ≡ NoNodes → ⊥) → (e ≡ Damaged Counts → ⊥) → e ≡ Disk
take-fails Disk h n c = refl
take-fails NoNodes h n c = absurd (n refl)
take-fails (Damaged Counts) h n c = absurd (c refl)
take-fails _ h n c = absurd h

pub add-fails : (e : OpFault) → IsAddFault e → (e ≡ NoSpace → ⊥) → (e ≡ Damaged Counts → ⊥) → (e ≡ Damaged Kind → ⊥)
    → (e ≡ Damaged Pointer → ⊥) → (e ≡ Damaged Bitmap → ⊥) → e ≡ Disk
add-fails Disk h n c k p b = refl
add-fails NoSpace h n c k p b = absurd (n refl)
add-fails (Damaged Counts) h n c k p b = absurd (c refl)
add-fails (Damaged Kind) h n c k p b = absurd (k refl)
add-fails (Damaged Pointer) h n c k p b = absurd (p refl)
add-fails (Damaged Bitmap) h n c k p b = absurd (b refl)
add-fails _ h n c k p b = absurd h

-- ---- what is made

abbrev Names : Type 0
Names = List (List ℕ)

-- the empty directory, or the empty file
abbrev pub made : Bool → Tree
made true = Dir Nil
made false = File []

pub next-made : (dir : Bool) (p : Names) (t : Tree) → next_tree (new_operation dir p) t ≡ at (parent p) (with_entry (last_name p) (made dir)) t
next-made true p t = refl
next-made false p t = refl

pub new-changes : (dir : Bool) (p : Names) → is_change (new_operation dir p) ≡ true
new-changes true p = refl
new-changes false p = refl

-- what the tree says of an accepted operation
module _ (t : Tree) (k n : ℕ) (p : Names) where
  pub place_of : (dir : Bool) → refusal t k n form_one (new_operation dir p) ≡ None → HasPlace p t
  place_of true h = accepted-mkdir t k n form_one p h
  place_of false h = accepted-make t k n form_one p h

  -- the path has 24 names at most
  pub shallow : (dir : Bool) → refusal t k n form_one (new_operation dir p) ≡ None → length p ≤ deepest
  shallow true h = at_most deepest (length p) (first_false _ _ (first_false _ _ (refusal-none t k n form_one (Mkdir p) why.TooDeep h)))
  shallow false h = at_most deepest (length p) (first_false _ _ (first_false _ _ (refusal-none t k n form_one (Make p) why.TooDeep h)))

  -- one node more fits
  pub one_left : (dir : Bool) → refusal t k n form_one (new_operation dir p) ≡ None → nodes t + 0 < node_quota n
  one_left true h = let q = nodes-next t k n form_one (Mkdir p) h refl in let m = total-placed (λ _. 1) (λ _. 1) p (Dir Nil) t (place_of true h) in omega arith
  one_left false h = let q = nodes-next t k n form_one (Make p) h refl in let m = total-placed (λ _. 1) (λ _. 1) p (File []) t (place_of false h) in omega arith

  -- and so do its blocks
  pub blocks_left : (dir : Bool) → refusal t k n form_one (new_operation dir p) ≡ None
      → blocks form_one (at (parent p) (with_entry (last_name p) (made dir)) t) ≤ block_quota n
  blocks_left true h = blocks-next t k n form_one (Mkdir p) h refl
  blocks_left false h = blocks-next t k n form_one (Make p) h refl

-- ---- the steps

-- an inode was taken, and put as an empty directory or file
pub record NodePut (lot : LotView) (m0 m1 m2 : Map) (j : ℕ) (dir : Bool) : Type 0 where
  pub small : j < 64 * length lot.groups
  pub took : TookInode m0 m1 j
  pub taken : OnlyAt (sub_address ∷ bitmap_of true j ∷ []) m0 m1
  pub put : InodeSet m1 m2 j (new_inode dir)
  pub there : OnlyAt (inode_address j ∷ []) m1 m2

made-beside : (mode : ℕ) (lot : LotView) (m : Map) (t : Tree) (k j : ℕ) (dir : Bool) → Beside form_one mode lot m t k [] (j ∷ []) → inode_of m j ≡ new_inode dir
    → Beside form_one mode lot m t k (used_blocks form_one (own form_one m) j (made dir)) (used_inodes form_one (own form_one m) j (made dir))
made-beside mode lot m t k j true b e = dir_beside mode lot m t k j b (fresh_value 2 (inode_of m j) e)
made-beside mode lot m t k j false b e = file_beside mode lot m t k j b (fresh_value 1 (inode_of m j) e)

made-reads : (lot : LotView) (m : Map) (j h : ℕ) (dir : Bool) → h ≤ deepest → j < 64 * length lot.groups → inode_of m j ≡ new_inode dir
    → Reads form_one lot (own form_one m) j h (made dir)
made-reads lot m j h true deep small e = fresh_dir lot m j h deep small (fresh_value 2 (inode_of m j) e)
made-reads lot m j h false deep small e = fresh_file lot m j h deep small (fresh_value 1 (inode_of m j) e)

module _ (mode : ℕ) (lot : LotView) (m0 : Map) (t : Tree) (k : ℕ) (p : Names) (dir : Bool) (spot : DirAt) (name : List ℕ)
    (few : length lot.groups ≤ 64) (x : Takes form_one mode lot m0 t k p dir spot name) where
  place : HasPlace p t
  place = place_of t k (length lot.groups) p dir x.accepted

  whole : Beside form_one mode lot m0 t k [] []
  whole = recovers_beside form_one mode lot m0 t k x.recovers

  deep : length (parent p) + 1 ≤ deepest
  deep = let e = length-parent p place.below in let s = shallow t k (length lot.groups) p dir x.accepted in omega arith

  -- no inode is left, or none can be counted
  take_fault : (e : OpFault) → IsTakeInodeFault e → (e ≡ NoNodes → AllUsed true lot m0) → (e ≡ Damaged Counts → counted true m0 ≡ 2 ^ 32 - 1) → e ≡ Disk
  take_fault e h none full = take-fails e h
      (λ q. inode_left mode lot m0 t k few [] [] whole (one_left t k (length lot.groups) p dir x.accepted) (none q))
      (λ q. inode_counts mode lot m0 t k few [] [] whole (full q))

  -- the directory's own inode is marked used
  spot_used : used_inode m0 spot.number ≡ true
  spot_used = subst (λ i. used_inode m0 i ≡ true) (sym x.spot_is.number) (beside_marked mode lot m0 t k [] [] whole (parent p) (Dir place.entries) place.there)

  module _ (m1 m2 : Map) (j : ℕ) (n : NodePut lot m0 m1 m2 j dir) where
    beside-taken : Beside form_one mode lot m1 t k [] (j ∷ [])
    beside-taken = took_inode mode lot m0 m1 t k [] j few whole n.took n.small n.taken

    beside-put : Beside form_one mode lot m2 t k [] (j ∷ [])
    beside-put = put_loose mode lot m1 m2 t k j (new_inode dir) beside-taken n.put n.there

    here : inode_on form_one (own form_one m2) 0 (parent p) ≡ spot.number
    here =
        stays_walk m1 m2 t (put_stays mode lot m1 m2 t k [] j (new_inode dir) beside-taken n.put n.there) (parent p) (Dir place.entries) place.there
        ∙ stays_walk m0 m1 t (took_stays mode lot m0 m1 t k [] [] j few whole n.taken) (parent p) (Dir place.entries) place.there
        ∙ sym x.spot_is.number

    spot_made : WellMade lot form_one m2 spot.number
    spot_made = subst (WellMade lot form_one m2) here (beside_made mode lot m2 t k [] (j ∷ []) beside-put few (parent p) (Dir place.entries) place.there)

    spot_room : HasEntryRoom lot (inode_of m2 spot.number)
    spot_room =
        subst (λ i. HasEntryRoom lot (inode_of m2 i)) here
        (beside_room mode lot m2 t k [] (j ∷ []) beside-put (omega arith) (parent p) place.entries place.there)

    -- no row can be added, or none can be counted
    add_fault : (e : OpFault) → IsAddFault e
        → (e ≡ NoSpace → free_count false lot m2 + uses_of (entry_blocks form_one (inode_of m2 spot.number).size)
        < uses_of (entry_blocks form_one ((inode_of m2 spot.number).size + 1)))
        → (e ≡ Damaged Counts → 2 ^ 32 + uses_of (entry_blocks form_one (inode_of m2 spot.number).size)
        ≤ counted false m2 + uses_of (entry_blocks form_one ((inode_of m2 spot.number).size + 1)))
        → (e ≡ Damaged Kind → ¬ HasEntryRoom lot (inode_of m2 spot.number))
        → (e ≡ Damaged Pointer → ¬ WellMade lot form_one m2 spot.number) → (e ≡ Damaged Bitmap → ¬ Reserved lot m2) → e ≡ Disk
    add_fault e h none full kind pointer unreserved = add-fails e h
        (λ q.
        subst (λ i. ¬ (free_count false lot m2 + uses_of (entry_blocks form_one (inode_of m2 i).size)
        < uses_of (entry_blocks form_one ((inode_of m2 i).size + 1)))) here
        (add_fits mode lot m2 t k few j (length (parent p) + 1) (made dir) (used_inodes form_one (own form_one m2) j (made dir))
        (made-beside mode lot m2 t k j dir beside-put n.put.value) (made-reads lot m2 j (length (parent p) + 1) dir deep n.small n.put.value)
        (parent p) (last_name p) place.entries place.there place.free (blocks_left t k (length lot.groups) p dir x.accepted)) (none q))
        (λ q.
        subst (λ i. ¬ (2 ^ 32 + uses_of (entry_blocks form_one (inode_of m2 i).size) ≤ counted false m2
        + uses_of (entry_blocks form_one ((inode_of m2 i).size + 1)))) here
        (add_counts mode lot m2 t k few [] (j ∷ []) beside-put (parent p) place.entries place.there) (full q))
        (λ q. kind q spot_room)
        (λ q. pointer q spot_made)
        (λ q. unreserved q (beside_reserved mode lot m2 t k [] (j ∷ []) beside-put))

    -- the row was added
    module _ (short : length name ≤ 59) (m3 : Map) (set : DirSet lot form_one m2 m3 spot.number (dir_rows_of form_one m2 spot.number ++ (name, j) ∷ [])) where
      good : IsNameOf form_one (last_name p)
      good = record { is = subst (λ c. is_name c ≡ true) x.name_is x.proper; short = subst (λ c. length c ≤ 59) x.name_is short }

      set-here : DirSet lot form_one m2 m3 (inode_on form_one (own form_one m0) 0 (parent p)) (dir_rows_of form_one m2 (inode_on form_one (own form_one m0) 0 (parent p)) ++ (last_name p, j) ∷ [])
      set-here =
          subst (λ i. DirSet lot form_one m2 m3 i (dir_rows_of form_one m2 i ++ (last_name p, j) ∷ [])) x.spot_is.number
          (subst (λ c. DirSet lot form_one m2 m3 spot.number (dir_rows_of form_one m2 spot.number ++ (c, j) ∷ [])) x.name_is set)

      node_made : MapRecovers form_one mode lot m3 (next_tree (new_operation dir p) t) k
      node_made = by dir x.recovers n.took n.small n.taken n.put n.there
        where
          by : (d : Bool) → MapRecovers form_one mode lot m0 t k → TookInode m0 m1 j → j < 64 * length lot.groups
              → OnlyAt (sub_address ∷ bitmap_of true j ∷ []) m0 m1 → InodeSet m1 m2 j (new_inode d) → OnlyAt (inode_address j ∷ []) m1 m2
              → MapRecovers form_one mode lot m3 (next_tree (new_operation d p) t) k
          by true r took small taken put there =
              dir_made mode lot m0 m1 m2 m3 t k (parent p) (last_name p) j place.entries
              (new_inode true) few r took small taken put there place.there place.free good deep set-here (fresh_value 2 (new_inode true) refl)
          by false r took small taken put there =
              file_made mode lot m0 m1 m2 m3 t k (parent p) (last_name p) j place.entries
              (new_inode false) few r took small taken put there place.there place.free good deep set-here (fresh_value 1 (new_inode false) refl)

-- ---- the same in the form that a cube has

module _ (f : Form) (one : f ≡ form_one) (form : Form) (sized : form ≡ form_one) (mode : ℕ) (lot : LotView) (m0 : Map) (t : Tree) (k : ℕ)
    (p : Names) (dir : Bool) (spot : DirAt) (name : List ℕ) (few : length lot.groups ≤ 64)
    (x : Takes f mode lot m0 t k p dir spot name) where
  as_one : Takes form_one mode lot m0 t k p dir spot name
  as_one = subst (λ g. Takes g mode lot m0 t k p dir spot name) one x

  pub take_sound : (e : OpFault) → IsTakeInodeFault e → (e ≡ NoNodes → AllUsed true lot m0) → (e ≡ Damaged Counts → counted true m0 ≡ 2 ^ 32 - 1) → e ≡ Disk
  take_sound = take_fault mode lot m0 t k p dir spot name few as_one

  -- the inode that is taken is not the directory's
  pub spot_apart : (j : ℕ) → used_inode m0 j ≡ false → j ≢ spot.number
  spot_apart j free e = true_false (used_inode m0 j) (ap (used_inode m0) e ∙ spot_used mode lot m0 t k p dir spot name few as_one) free

  module _ (m1 m2 : Map) (j : ℕ) (n : NodePut lot m0 m1 m2 j dir) where
    pub spot_well : WellMade lot form m2 spot.number
    spot_well = subst (λ s. WellMade lot s m2 spot.number) (sym sized) (spot_made mode lot m0 t k p dir spot name few as_one m1 m2 j n)

    pub add_sound : (e : OpFault) → IsAddFault e
        → (e ≡ NoSpace → free_count false lot m2 + uses_of (entry_blocks form (inode_of m2 spot.number).size)
        < uses_of (entry_blocks form ((inode_of m2 spot.number).size + 1)))
        → (e ≡ Damaged Counts → 2 ^ 32 + uses_of (entry_blocks form (inode_of m2 spot.number).size)
        ≤ counted false m2 + uses_of (entry_blocks form ((inode_of m2 spot.number).size + 1)))
        → (e ≡ Damaged Kind → ¬ HasEntryRoom lot (inode_of m2 spot.number)) → (e ≡ Damaged Pointer → ¬ WellMade lot form m2 spot.number)
        → (e ≡ Damaged Bitmap → ¬ Reserved lot m2) → e ≡ Disk
    add_sound e h none full kind pointer unreserved = add_fault mode lot m0 t k p dir spot name few as_one m1 m2 j n e h
        (λ q.
        subst (λ s. free_count false lot m2 + uses_of (entry_blocks s (inode_of m2 spot.number).size)
        < uses_of (entry_blocks s ((inode_of m2 spot.number).size + 1))) sized (none q))
        (λ q.
        subst (λ s. 2 ^ 32 + uses_of (entry_blocks s (inode_of m2 spot.number).size) ≤ counted false m2
        + uses_of (entry_blocks s ((inode_of m2 spot.number).size + 1))) sized (full q))
        kind
        (λ q. subst (λ s. ¬ WellMade lot s m2 spot.number) sized (pointer q))
        unreserved

    pub node_recovers : length name ≤ 59 → (m3 : Map)
        → DirSet lot form m2 m3 spot.number (dir_rows_of form m2 spot.number ++ (name, j) ∷ [])
        → MapRecovers f mode lot m3 (next_tree (new_operation dir p) t) k
    node_recovers short m3 set = subst (λ g. MapRecovers g mode lot m3 (next_tree (new_operation dir p) t) k) (sym one)
        (node_made mode lot m0 t k p dir spot name few as_one m1 m2 j n short m3
        (subst (λ s. DirSet lot s m2 m3 spot.number (dir_rows_of s m2 spot.number ++ (name, j) ∷ [])) sized set))
