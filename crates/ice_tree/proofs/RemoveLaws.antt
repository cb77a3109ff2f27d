-- What a removal does to the blocks of a lot.
use Rattle.std.proofs.Common.{◌≡◌, ◌≢◌, ◌≤◌, ◌<◌, ◌+◌, ◌-◌, ℕ, true, false, T, List, [], ◌∷◌, ◌++◌, length, take, Option, None, Some, Result, Ok, Err, if◌then◌else◌, refl, sym, ap, ◌∙◌, subst, arith}
use Rattle.std.specs.Prelude.{is_some, unwrap_or, IfErr}
use Rattle.std.specs.FinMap.{find}
use Rattle.ice_base.specs.Inodes.{inode_address}
use Rattle.ice_base.specs.Lots.{LotView, sub_address}
use Rattle.ice_base.specs.Faults.{IsGiveFault}
use Rattle.ice_base.specs.Pools.{GaveInode}
use Rattle.ice_base.specs.Used.{bitmap_of, counted, used}
use Rattle.ice_base.specs.declared.fault.OpFault.{OpFault}
use Rattle.ice_base.specs.declared.fault.OpFault.TheVariants.{Disk, Damaged}
use Rattle.ice_base.specs.declared.fault.Rule.TheVariants.{Counts, Kind, Pointer, Bitmap}
use Rattle.ice_map.specs.declared.codec.Inode.{Inode}
use Rattle.ice_map.specs.Inodes.{inode_of, InodeSet}
use Rattle.ice_map.specs.Own.{own, blocks_for, WellMade, file_bytes}
use Rattle.ice_map.specs.Faults.{IsCutFault}
use Rattle.ice_map.specs.Maps.{cut_off, FreeOrTwice, Misleads}
use Rattle.ice_file.specs.Files.{FileSet}
use Rattle.ice_map.specs.Moves.{uses_of}
use Rattle.ice_dir.specs.Changes.{DirSet, entry_blocks}
use Rattle.ice_dir.specs.Faults.{IsRemovalFault}
use Rattle.ice_dir.specs.Rows.{dir_rows_of, look_up, rows_without, IsDirectory}
use Rattle.tree_spec.specs.Trees.{Tree, File, Dir, Nil, Entry, by_bytes, Found, walk, parent, last_name}
use Rattle.tree_spec.specs.Costs.{Form, form_one}
use Rattle.tree_spec.specs.Operations.{Remove}
use Rattle.tree_spec.specs.Answers.{next_tree, refusal, is_full_found, bytes_of, bytes_found, is_root}
use Rattle.tree_spec.specs.Why.{Why}
use Rattle.tree_spec.specs.Why as why
use Rattle.tree_spec.proofs.Accepted.{HasEntry, entry_walk, Removes, accepted-remove}
use Rattle.tree_spec.proofs.Trees.{parent-last}
use Rattle.ice_reads.specs.Tables.{Map, inode_named}
use Rattle.ice_reads.specs.Reads.{Reads, used_blocks, used_inodes, inode_on}
use Rattle.ice_reads.specs.Recovers.{MapRecovers}
use Rattle.ice_reads.proofs.LookUps.{look_up-find}
use Rattle.ice_steps.specs.Beside.{Beside, OnlyAt}
use Rattle.ice_steps.proofs.Costs.{loose_counts, take_counts}
use Rattle.ice_steps.proofs.Cuts.{loose_cut, loose_empty}
use Rattle.ice_steps.proofs.Fresh.{no-map, fresh-uses, put_loose}
use Rattle.ice_steps.proofs.Lengths.{file-size}
use Rattle.ice_steps.proofs.Losses.{loses_row}
use Rattle.ice_steps.proofs.Needs.{reaches_to}
use Rattle.ice_steps.proofs.Recovers.{beside_recovers, recovers_beside}
use Rattle.ice_steps.proofs.Takes.{gave_inode}
use Rattle.ice_steps.proofs.Walks.{file_at, loose_made, loose_used, loose_counted, walk_made, walk_dir, walk_part}
use Rattle.ice_tree.specs.declared.removes.Removal.{Removal}
use Rattle.ice_tree.specs.Removes.{removal_refusal, IsRemoval, Loses, StandsLoose}
use Rattle.ice_look.specs.Stages.{or_else, paths_refusal, walk_refusal}
use Rattle.ice_tree.specs.Quotas.{quota_refusal}
use Rattle.ice_tree.proofs.Chains.{refusal_remove}
use Rattle.ice_tree.proofs.WellLaws.{file-misled, file-free}
use Rattle.ice_look.proofs.PlaceLaws.{inode_on-more}

abbrev Names : Type 0
Names = List (List ℕ)

-- the one fault that a failed call can have
pub err-is : {T E : Type 0} (r : Result T E) (F : E → Type 0) (d : E) → IfErr r F → ((e : E) → r ≡ Err e → F e → e ≡ d) → IfErr r (λ e. e ≡ d)
err-is (Ok x) F d h go = tt
err-is (Err e) F d h go = go e refl h

-- ---- a loose tree is given back

cut-fails : (e : OpFault) → IsCutFault e → (e ≡ Damaged Counts → ⊥) → (e ≡ Damaged Pointer → ⊥) → (e ≡ Damaged Bitmap → ⊥) → e ≡ Disk
cut-fails Disk h c p b = refl
cut-fails (Damaged Counts) h c p b = absurd (c refl)
cut-fails (Damaged Pointer) h c p b = absurd (p refl)
cut-fails (Damaged Bitmap) h c p b = absurd (b refl)
cut-fails _ h c p b = absurd h

give-fails : (e : OpFault) → IsGiveFault e → (e ≡ Damaged Counts → ⊥) → (e ≡ Damaged Bitmap → ⊥) → e ≡ Disk
give-fails Disk h c b = refl
give-fails (Damaged Counts) h c b = absurd (c refl)
give-fails (Damaged Bitmap) h c b = absurd (b refl)
give-fails _ h c b = absurd h

module _ (mode : ℕ) (lot : LotView) (few : length lot.groups ≤ 64) (m : Map) (t : Tree) (k j : ℕ) where
  -- what uses no block
  no-blocks : (h : ℕ) (v : Tree)
      → Beside form_one mode lot m t k (used_blocks form_one (own form_one m) j v) (used_inodes form_one (own form_one m) j v)
      → Reads form_one lot (own form_one m) j h v → is_full_found (Found v) ≡ false → 0 ≡ length (bytes_of v)
      → Beside form_one mode lot m t k [] (j ∷ [])
  no-blocks h (File bytes) b r e z =
      let size = file-size m j bytes r.1 in
      subst (λ us. Beside form_one mode lot m t k us (j ∷ [])) (fresh-uses m j (no-map (inode_of m j) (size ∙ sym z))) b
  no-blocks h (Dir Nil) b r e z = loose_empty mode lot m t k j h (j ∷ []) b r
  no-blocks h (Dir (Entry c u es)) b r e z = absurd (subst T e tt)

  -- a file that was cut to nothing
  some-blocks : (m' : Map) (h n : ℕ) (v : Tree)
      → Beside form_one mode lot m t k (used_blocks form_one (own form_one m) j v) (used_inodes form_one (own form_one m) j v)
      → Reads form_one lot (own form_one m) j h v → n ≡ length (bytes_of v) → n ≢ 0
      → FileSet lot form_one m m' j [] → Beside form_one mode lot m' t k [] (j ∷ [])
  some-blocks m' h n (File bytes) b r e z set = loose_cut mode lot m m' t k j h bytes b r set
  some-blocks m' h n (Dir es) b r e z set = absurd (z e)

  -- it can be cut
  can-cut : (h n : ℕ) (v : Tree)
      → Beside form_one mode lot m t k (used_blocks form_one (own form_one m) j v) (used_inodes form_one (own form_one m) j v)
      → Reads form_one lot (own form_one m) j h v → n ≡ length (bytes_of v) → n ≢ 0
      → (node : Inode) → node ≡ inode_of m j → (e : OpFault) → IsCutFault e → (e ≡ Damaged Counts → counted false m < uses_of (blocks_for node.size))
      → (e ≡ Damaged Bitmap → FreeOrTwice m (cut_off m node (blocks_for node.size) (blocks_for 0)))
      → (e ≡ Damaged Pointer → Misleads lot m node (blocks_for node.size)) → e ≡ Disk
  can-cut h n (File bytes) b r len z node hand e is zero unused pointer =
      let f = file_at lot m j h bytes r in
      let made = loose_made mode lot m t k (j ∷ []) j h (File bytes) b r few in
      let reach = reaches_to m j 0 bytes f (omega arith) in
      cut-fails e is
      (λ q. loose_counts mode lot m t k few j h (File bytes) (j ∷ []) b r f.kind (subst (λ (i : Inode). counted false m < uses_of (blocks_for i.size)) hand (zero q)))
      (λ q. file-misled lot form_one refl m j 0 reach (subst (λ (i : Inode). Misleads lot m i (blocks_for i.size)) hand (pointer q)) made)
      (λ q. file-free lot form_one refl m j 0 reach (subst (λ (i : Inode). FreeOrTwice m (cut_off m i (blocks_for i.size) (blocks_for 0))) hand (unused q)) made)
  can-cut h n (Dir es) b r len z node hand e is zero unused pointer = absurd (z len)

  -- its inode is freed and given back
  gave-back : (m1 m2 : Map) (inode : Inode) → Beside form_one mode lot m t k [] (j ∷ []) → InodeSet m m1 j inode
      → OnlyAt (inode_address j ∷ []) m m1 → GaveInode m1 m2 j → OnlyAt (sub_address ∷ bitmap_of true j ∷ []) m1 m2 → MapRecovers form_one mode lot m2 t k
  gave-back m1 m2 inode b put there gave given =
      beside_recovers form_one mode lot m2 t k (gave_inode mode lot m1 m2 t k j few (put_loose mode lot m m1 t k j inode b put there) gave given)

  can-give : (m1 : Map) (inode : Inode) → Beside form_one mode lot m t k [] (j ∷ []) → InodeSet m m1 j inode → OnlyAt (inode_address j ∷ []) m m1
      → (e : OpFault) → IsGiveFault e → (e ≡ Damaged Counts → counted true m1 ≡ 0) → (e ≡ Damaged Bitmap → used true m1 j ≡ false) → e ≡ Disk
  can-give m1 inode b put there e is zero unused =
      let b1 = put_loose mode lot m m1 t k j inode b put there in
      give-fails e is
      (λ q. let z = zero q in let c = loose_counted mode lot m1 t k [] j [] b1 in omega arith)
      (λ q. subst T (sym (loose_used mode lot m1 t k [] j [] b1) ∙ unused q) tt)

-- ---- the same of each form

module _ (f : Form) (one : f ≡ form_one) (mode : ℕ) (lot : LotView) (few : length lot.groups ≤ 64) (m : Map) (t : Tree) (k j bytes : ℕ)
    (form : Form) (wide : form ≡ form_one) where
  at-one : (P : Form → Type 0) → P f → P form_one
  at-one P p = subst P one p

  from-one : (P : Form → Type 0) → P form_one → P f
  from-one P p = subst P (sym one) p

  abbrev AtMap : Map → Tree → ℕ → Form → Type 0
  AtMap n u h g = Beside g mode lot n t k (used_blocks g (own g n) j u) (used_inodes g (own g n) j u) × Reads g lot (own g n) j h u

  pub nothing-dropped : StandsLoose f mode lot m t k j bytes → bytes ≡ 0 → Beside f mode lot m t k [] (j ∷ [])
  nothing-dropped s z =
      let at = at-one (AtMap m s.tree s.level) (s.beside, s.reads) in
      from-one (λ g. Beside g mode lot m t k [] (j ∷ [])) (no-blocks mode lot few m t k j s.level s.tree at.0 at.1 s.empty (sym z ∙ s.bytes_are))

  pub loose-made : StandsLoose f mode lot m t k j bytes → WellMade lot form m j
  loose-made s =
      let at = at-one (AtMap m s.tree s.level) (s.beside, s.reads) in
      subst (λ w. WellMade lot w m j) (sym wide) (loose_made mode lot m t k (used_inodes form_one (own form_one m) j s.tree) j s.level s.tree at.0 at.1 few)

  pub bytes-dropped : (m' : Map) → StandsLoose f mode lot m t k j bytes → bytes ≢ 0
      → FileSet lot form m m' j (take 0 (file_bytes (own form m j))) → Beside f mode lot m' t k [] (j ∷ [])
  bytes-dropped m' s z set =
      let at = at-one (AtMap m s.tree s.level) (s.beside, s.reads) in
      from-one (λ g. Beside g mode lot m' t k [] (j ∷ []))
      (some-blocks mode lot few m t k j m' s.level bytes s.tree at.0 at.1 s.bytes_are z (subst (λ w. FileSet lot w m m' j []) wide set))

  pub can-drop : StandsLoose f mode lot m t k j bytes → bytes ≢ 0
      → (node : Inode) → node ≡ inode_of m j → (e : OpFault) → IsCutFault e → (e ≡ Damaged Counts → counted false m < uses_of (blocks_for node.size))
      → (e ≡ Damaged Bitmap → FreeOrTwice m (cut_off m node (blocks_for node.size) (blocks_for 0)))
      → (e ≡ Damaged Pointer → Misleads lot m node (blocks_for node.size)) → e ≡ Disk
  can-drop s z node hand e is zero unused pointer =
      let at = at-one (AtMap m s.tree s.level) (s.beside, s.reads) in
      can-cut mode lot few m t k j s.level bytes s.tree at.0 at.1 s.bytes_are z node hand e is zero unused pointer

  pub inode-given : (m1 m2 : Map) (inode : Inode) → Beside f mode lot m t k [] (j ∷ []) → InodeSet m m1 j inode
      → OnlyAt (inode_address j ∷ []) m m1 → GaveInode m1 m2 j → OnlyAt (sub_address ∷ bitmap_of true j ∷ []) m1 m2 → MapRecovers f mode lot m2 t k
  inode-given m1 m2 inode b put there gave given =
      from-one (λ g. MapRecovers g mode lot m2 t k)
      (gave-back mode lot few m t k j m1 m2 inode (at-one (λ g. Beside g mode lot m t k [] (j ∷ [])) b) put there gave given)

  pub can-give-inode : (m1 : Map) (inode : Inode) → Beside f mode lot m t k [] (j ∷ []) → InodeSet m m1 j inode → OnlyAt (inode_address j ∷ []) m m1
      → (e : OpFault) → IsGiveFault e → (e ≡ Damaged Counts → counted true m1 ≡ 0) → (e ≡ Damaged Bitmap → used true m1 j ≡ false) → e ≡ Disk
  can-give-inode m1 inode b put there = can-give mode lot few m t k j m1 inode (at-one (λ g. Beside g mode lot m t k [] (j ∷ [])) b) put there

-- ---- an entry is taken

take-fails : (e : OpFault) → IsRemovalFault e → (e ≡ Damaged Counts → ⊥) → (e ≡ Damaged Kind → ⊥) → (e ≡ Damaged Pointer → ⊥)
    → (e ≡ Damaged Bitmap → ⊥) → e ≡ Disk
take-fails Disk h c k p b = refl
take-fails (Damaged Counts) h c k p b = absurd (c refl)
take-fails (Damaged Kind) h c k p b = absurd (k refl)
take-fails (Damaged Pointer) h c k p b = absurd (p refl)
take-fails (Damaged Bitmap) h c k p b = absurd (b refl)
take-fails _ h c k p b = absurd h

whole : (p : Names) → is_root p ≡ false → parent p ++ last_name p ∷ [] ≡ p
whole [] r = absurd (subst T r tt)
whole (c ∷ p) r = parent-last c p

some_value : (x : Option ℕ) → is_some x ≡ true → x ≡ Some (unwrap_or x 0)
some_value None e = absurd (subst T (sym e) tt)
some_value (Some j) e = refl

-- an entry of a recovered tree
module _ (mode : ℕ) (lot : LotView) (few : length lot.groups ≤ 64) (m : Map) (t : Tree) (k : ℕ) (r : MapRecovers form_one mode lot m t k)
    (p : Names) (v : Tree) (h : HasEntry p t v) where
  abbrev here : ℕ
  here = inode_on form_one (own form_one m) 0 (parent p)

  abbrev named : ℕ
  named = inode_named (last_name p) (dir_rows_of form_one m (inode_on form_one (own form_one m) 0 (parent p)))

  -- the inode at its end is the one that its row names
  pub end-named : inode_on form_one (own form_one m) 0 p ≡ inode_named (last_name p) (dir_rows_of form_one m (inode_on form_one (own form_one m) 0 (parent p)))
  end-named = ap (inode_on form_one (own form_one m) 0) (sym (whole p h.below)) ∙ inode_on-more form_one lot (own form_one m) 0 (parent p) (last_name p)

  -- its directory has the row
  pub row-there : look_up (last_name p) (dir_rows_of form_one m here) ≡ Some named
  row-there =
      let d = walk_part mode lot m t k r (parent p) (Dir h.entries) h.there in
      look_up-find (last_name p) (dir_rows_of form_one m here)
      ∙ some_value (find by_bytes (last_name p) (dir_rows_of form_one m here)) (sym (d.1.maps (last_name p)) ∙ ap is_some h.found)

  -- and can lose it
  pub can-take : (e : OpFault) → IsRemovalFault e
      → (e ≡ Damaged Counts → counted false m + uses_of (entry_blocks form_one ((inode_of m here).size - 1))
      < uses_of (entry_blocks form_one (inode_of m here).size))
      → (e ≡ Damaged Kind → ¬ IsDirectory lot (inode_of m here)) → (e ≡ Damaged Pointer → ¬ WellMade lot form_one m here)
      → (e ≡ Damaged Bitmap → ¬ WellMade lot form_one m here) → e ≡ Disk
  can-take e is zero kind pointer unused =
      let made = walk_made mode lot m t k r (parent p) few (Dir h.entries) h.there in
      let d = walk_dir mode lot m t k r (parent p) h.entries h.there in
      take-fails e is
      (λ q. take_counts mode lot m t k few [] [] (recovers_beside form_one mode lot m t k r) (parent p) h.entries h.there (zero q))
      (λ q. kind q d.is) (λ q. pointer q made) (λ q. unused q made)

  -- what the row named stands loose then
  pub entry-left : (m' : Map) → DirSet lot form_one m m' here (rows_without (last_name p) (dir_rows_of form_one m here))
      → is_full_found (Found v) ≡ false
      → StandsLoose form_one mode lot m' (next_tree (Remove p) t) k (inode_on form_one (own form_one m) 0 p) (length (bytes_of v))
  entry-left m' set empty =
      let l = loses_row mode lot m m' t k (parent p) (last_name p) v h.entries r h.there h.found set in
      subst (λ j. StandsLoose form_one mode lot m' (next_tree (Remove p) t) k j (length (bytes_of v))) (sym end-named)
      (record { tree = v; level = length (parent p) + 1; beside = l.0; reads = l.1; empty = empty; bytes_are = refl })

-- the same of each form, for a removal that is accepted
module _ (f : Form) (one : f ≡ form_one) (mode : ℕ) (lot : LotView) (few : length lot.groups ≤ 64) (m : Map) (t : Tree) (k : ℕ) (p : Names)
    (gone : Removal) (name : List ℕ) (form : Form) (wide : form ≡ form_one) (l : Loses f mode lot m t k p gone name) where
  goes : Removes t k (length lot.groups) f p
  goes = accepted-remove t k (length lot.groups) f p l.accepted

  recovers-one : MapRecovers form_one mode lot m t k
  recovers-one = subst (λ g. MapRecovers g mode lot m t k) one l.recovers

  spot-here : gone.spot.number ≡ inode_on form_one (own form_one m) 0 (parent p)
  spot-here = l.gone_is.spot_is.number ∙ ap (λ g. inode_on g (own g m) 0 (parent p)) one

  number-there : gone.number ≡ inode_on form_one (own form_one m) 0 p
  number-there = l.gone_is.number_is ∙ ap (λ g. inode_on g (own g m) 0 p) one

  bytes-there : gone.bytes ≡ length (bytes_of goes.gone)
  bytes-there = l.gone_is.bytes_are ∙ ap (λ w. length (bytes_found w)) (entry_walk p t goes.gone goes.entry)

  pub spot-made : WellMade lot form m gone.spot.number
  spot-made =
      subst (λ w. WellMade lot w m gone.spot.number) (sym wide)
      (subst (λ i. WellMade lot form_one m i) (sym spot-here)
      (walk_made mode lot m t k recovers-one (parent p) few (Dir goes.entry.entries) goes.entry.there))

  pub spot-has : look_up name (dir_rows_of form m gone.spot.number) ≡ None → ⊥
  spot-has none =
      let e : look_up (last_name p) (dir_rows_of form_one m (inode_on form_one (own form_one m) 0 (parent p))) ≡ None =
      ap (λ i. look_up (last_name p) (dir_rows_of form_one m i)) (sym spot-here)
      ∙ ap (λ w. look_up (last_name p) (dir_rows_of w m gone.spot.number)) (sym wide)
      ∙ ap (λ c. look_up c (dir_rows_of form m gone.spot.number)) (sym l.name_is) ∙ none in
      let s = row-there mode lot few m t k recovers-one p goes.gone goes.entry in
      subst T (ap is_some (sym s ∙ e)) tt

  pub spot-takes : (e : OpFault) → IsRemovalFault e
      → (e ≡ Damaged Counts → counted false m + uses_of (entry_blocks form ((inode_of m gone.spot.number).size - 1))
      < uses_of (entry_blocks form (inode_of m gone.spot.number).size))
      → (e ≡ Damaged Kind → ¬ IsDirectory lot (inode_of m gone.spot.number))
      → (e ≡ Damaged Pointer → ¬ WellMade lot form m gone.spot.number) → (e ≡ Damaged Bitmap → ¬ WellMade lot form m gone.spot.number) → e ≡ Disk
  spot-takes e is zero kind pointer unused =
      let P : Form → ℕ
      → Type 0 = λ w i. (e ≡ Damaged Counts → counted false m + uses_of (entry_blocks w ((inode_of m i).size - 1)) < uses_of (entry_blocks w (inode_of m i).size)) in
      can-take mode lot few m t k recovers-one p goes.gone goes.entry e is
      (subst (P form_one) spot-here (subst (λ w. P w gone.spot.number) wide zero))
      (subst (λ i. e ≡ Damaged Kind → ¬ IsDirectory lot (inode_of m i)) spot-here kind)
      (λ q. absurd (pointer q spot-made))
      (λ q. absurd (unused q spot-made))

  pub spot-left : (m' : Map) → DirSet lot form m m' gone.spot.number (rows_without name (dir_rows_of form m gone.spot.number))
      → StandsLoose f mode lot m' (next_tree (Remove p) t) k gone.number gone.bytes
  spot-left m' set =
      let P : Form → ℕ → List ℕ → Type 0 = λ w i c. DirSet lot w m m' i (rows_without c (dir_rows_of w m i)) in
      let here : P form_one (inode_on form_one (own form_one m) 0 (parent p)) (last_name p) =
      subst (λ c. P form_one (inode_on form_one (own form_one m) 0 (parent p)) c) l.name_is
      (subst (λ i. P form_one i name) spot-here (subst (λ w. P w gone.spot.number name) wide set)) in
      let s = entry-left mode lot few m t k recovers-one p goes.gone goes.entry m' here goes.empty in
      subst (λ g. StandsLoose g mode lot m' (next_tree (Remove p) t) k gone.number gone.bytes) (sym one)
      (subst (λ j. StandsLoose form_one mode lot m' (next_tree (Remove p) t) k j gone.bytes) (sym number-there)
      (subst (λ n. StandsLoose form_one mode lot m' (next_tree (Remove p) t) k (inode_on form_one (own form_one m) 0 p) n) (sym bytes-there) s))

-- what was found before a look holds after it
pub loses-after : (f : Form) (mode : ℕ) (lot : LotView) (m m' : Map) (t : Tree) (k : ℕ) (p : Names) (gone : Removal) (name : List ℕ)
    → m' ≡ m → MapRecovers f mode lot m t k → IsRemoval f (own f m) p t gone → gone.spot.node ≡ inode_of m gone.spot.number → gone.node ≡ inode_of m gone.number
    → name ≡ last_name p
    → refusal t k (length lot.groups) f (Remove p) ≡ None → Loses f mode lot m' t k p gone name
loses-after f mode lot m m' t k p gone name same r is spot node last none =
    subst (λ (x : Map). Loses f mode lot x t k p gone name) (sym same) (record { recovers = r; gone_is = is; spot_node = spot; node_is = node; name_is = last; accepted = none })

-- ---- all that refuses a removal

chained : (a b c d : Option Why) → or_else a (or_else b (or_else c d)) ≡ or_else (or_else a (or_else b c)) d
chained (Some r) b c d = refl
chained None (Some r) c d = refl
chained None None c d = refl

-- the refusals behind those of the names
abbrev pub later_refusal : ℕ → Form → ℕ → Names → Tree → Option Why
later_refusal n f k p t = or_else (removal_refusal p t) (quota_refusal n f k (next_tree (Remove p) t))

pub remove-stages : (t : Tree) (k n : ℕ) (f : Form) (p : Names) → refusal t k n f (Remove p) ≡ or_else (paths_refusal f (p ∷ [])) (later_refusal n f k p t)
remove-stages t k n f p =
    refusal_remove t k n f p
    ∙ ap (or_else (paths_refusal f (p ∷ [])))
    (chained (walk_refusal (walk p t)) (if is_root p then Some why.IsRoot else None)
    (if is_full_found (walk p t) then Some why.NotEmpty else None) (quota_refusal n f k (next_tree (Remove p) t)))
