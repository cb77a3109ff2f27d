-- Where walks end, by what the inodes of a lot say.
use Rattle.std.proofs.Common.{◌≡◌, ℕ, ◌+◌, ◌-◌, ◌*◌, take, IfOk, ◌<◌, ◌≤◌, Bool, true, false, List, [], ◌∷◌, ◌++◌, length, Some, None, Result, Ok, Err, sym, refl, ap, ◌∙◌, subst, arith, inl, inr}
use Rattle.std.proofs.lemmas.Bool.Decides.{nat_tests}
use Rattle.std.proofs.lemmas.Nat.{div-add-mod', mod_below}
use Rattle.std.proofs.lemmas.List.FromFn.{length-map-range_with_len}
use Rattle.std.specs.Prelude.{nat_lt}
use Rattle.ice_base.specs.Lots.{LotView}
use Rattle.ice_base.specs.Spare.{has}
use Rattle.ice_base.specs.Used.{is_data}
use Rattle.ice_base.specs.declared.fault.OpFault.{OpFault}
use Rattle.ice_base.specs.declared.fault.OpFault.TheVariants.{Disk, Damaged}
use Rattle.ice_base.specs.declared.fault.Rule.TheVariants.{Kind, Pointer}
use Rattle.ice_map.specs.declared.codec.Inode.{Inode}
use Rattle.ice_map.specs.Inodes.{inode_of}
use Rattle.ice_map.specs.Maps.{leads, nth_block, uses}
use Rattle.ice_map.proofs.MapLaws.{leads-direct, leads-single, nth-direct}
use Rattle.ice_map.specs.Own.{Own, own, file_bytes, map_length}
use Rattle.ice_map.proofs.OwnLaws.{uses-nth, uses-single}
use Rattle.ice_dir.specs.Faults.{IsFindFault}
use Rattle.ice_dir.proofs.DirLaws.{dir-length, per-sixteen}
use Rattle.ice_dir.specs.Rows.{IsDirectory, look_up, dir_rows_of, per_block}
use Rattle.tree_spec.specs.Trees.{Tree, Entries, rows, Walk, Found, NotFound, NotDir, child, walk, and_on}
use Rattle.tree_spec.specs.Trees as tree
use Rattle.tree_spec.proofs.Trees.{walk-append}
use Rattle.tree_spec.specs.Costs.{Form, form_one}
use Rattle.ice_reads.specs.Tables.{Map, Table, rows_in, inode_named, IsInode}
use Rattle.ice_reads.specs.Reads.{Reads, inode_on}
use Rattle.ice_reads.proofs.Focus.{Reads-part}
use Rattle.ice_reads.proofs.LookUps.{child-found, child-none}
use Rattle.ice_look.specs.Calls.{place_on}
use Rattle.ice_look.specs.Places.{place_by, place_at, IsNode, NodeIs, PlaceInHand, PlaceIs, PlaceReached}
use Rattle.ice_look.specs.declared.place.Place.{Place}
use Rattle.ice_look.specs.declared.place.Place.TheVariants.{File, Dir, Missing, Blocked}

pub length-file_bytes : (o : Own) → length (file_bytes o) ≡ o.inode.size
unfolding file_bytes
length-file_bytes o = length-map-range_with_len _ 0 o.inode.size

one_not_two : (k : ℕ) → k ≡ 1 → k ≡ 2 → ⊥
one_not_two k a b = omega arith

-- where each used block is a data place, each block of the map leads to one
pub places-lead : (lot : LotView) (m : Map) (x : Inode) (count n : ℕ) → ((b : ℕ) → has (uses m x count) b ≡ true → is_data lot b ≡ true)
    → n < count → leads lot m x n ≡ true
places-lead lot m x count n all h =
    let d = all (nth_block m x n) (uses-nth m x count n h) in
    elim (nat_lt n 12) as (λ t. nat_lt n 12 ≡ t → leads lot m x n ≡ true) [
      | true ↦ λ t. let l : n < 12 = grind (arith, nat_tests) in leads-direct lot m x n l ∙ ap (is_data lot) (sym (nth-direct m x n l)) ∙ d
      | false ↦ λ t. let l : 12 ≤ n = grind (arith, nat_tests) in leads-single lot m x n l (all x.single (uses-single m x count (omega arith))) ∙ d
    ] refl

-- a search that finds a directory, whose pointers lead to data places, fails by the disk alone
find-fails : (e : OpFault) → IsFindFault e → (e ≡ Damaged Kind → ⊥) → (e ≡ Damaged Pointer → ⊥) → e ≡ Disk
find-fails Disk h k p = refl
find-fails (Damaged Kind) h k p = absurd (k refl)
find-fails (Damaged Pointer) h k p = absurd (p refl)
find-fails _ h k p = absurd h

pub true_false : (b : Bool) → b ≡ true → b ≡ false → ⊥
true_false b h k = cc

module _ (f : Form) (one : f ≡ form_one) (lot : LotView) (m : Map) (i h : ℕ) where
  -- what the inode of a number says, in version 1
  pub inode-own : (own f m i).inode ≡ inode_of m i
  inode-own = ap (λ g. (own g m i).inode) one

  -- the number of an inode that stands for a tree is one of the lot
  pub Reads-number : (t : Tree) → Reads f lot (own f m) i h t → i < 64 * length lot.groups
  Reads-number (tree.File bytes) r = r.0.number
  Reads-number (tree.Dir es) r = r.0.number

  pub Reads-node : (t : Tree) → Reads f lot (own f m) i h t → IsNode lot (inode_of m i)
  Reads-node (tree.File bytes) r =
      inl (ap (λ (x : Inode). x.kind) (sym inode-own) ∙ r.1.is_file, omega (arith, r.1.within, ap (λ g. g.longest_file) one, ap (λ (x : Inode). x.size) inode-own))
  Reads-node (tree.Dir es) r =
      inr (record { kind = ap (λ (x : Inode). x.kind) (sym inode-own) ∙ r.1.is_dir; few = omega (arith, r.1.within, ap (λ (x : Inode). x.size) inode-own) })

  -- one that stands for a directory is one
  pub reads-directory : (es : tree.Entries) → Reads f lot (own f m) i h (tree.Dir es) → IsDirectory lot (inode_of m i)
  reads-directory es r =
      record { kind = ap (λ (x : Inode). x.kind) (sym inode-own) ∙ r.1.is_dir; few = omega (arith, r.1.within, ap (λ (x : Inode). x.size) inode-own) }

  pub Reads-file : (t : Tree) → Reads f lot (own f m) i h t → (x : Inode) → x ≡ inode_of m i → x.kind ≡ 1 → File i x.size ≡ place_by i (Found t)
  Reads-file (tree.File bytes) r x is k =
      ap (λ n. File i n) (ap (λ (y : Inode). y.size) (is ∙ sym inode-own) ∙ sym (length-file_bytes (own f m i)) ∙ ap length r.1.bytes_are)
  Reads-file (tree.Dir es) r x is k = absurd (one_not_two x.kind k (ap (λ (y : Inode). y.kind) (is ∙ sym inode-own) ∙ r.1.is_dir))

  -- what is known of the inode itself
  Reads-inode : (t : Tree) → Reads f lot (own f m) i h t → IsInode f lot (own f m i) i h
  Reads-inode (tree.File bytes) r = r.0
  Reads-inode (tree.Dir es) r = r.0

  pub places-own : (t : Tree) → Reads f lot (own f m) i h t → (b : ℕ) → has (own form_one m i).uses b ≡ true → is_data lot b ≡ true
  places-own t r = subst (λ g. (b : ℕ) → has (own g m i).uses b ≡ true → is_data lot b ≡ true) one (Reads-inode t r).places

  pub rows-own : (form : Form) → form ≡ form_one → rows_in f (own f m i) ≡ dir_rows_of form m i
  rows-own form e = ap (λ g. rows_in g (own g m i)) one ∙ ap (λ x. dir_rows_of x m i) (sym e)

  -- the blocks of a directory that stands for a tree lead to data places
  pub dir-leads : (t : Tree) → Reads f lot (own f m) i h t → (form : Form) (n : ℕ) → form ≡ form_one → (inode_of m i).kind ≡ 2
      → n * per_block form < (inode_of m i).size → leads lot m (inode_of m i) n ≡ true
  dir-leads t r form n e k below =
      let long = dir-length form_one (inode_of m i) refl k in
      let b = div-add-mod' ((inode_of m i).size + 15) 16 in
      let s = mod_below ((inode_of m i).size + 15) 16 (omega arith) in
      let small : n * 16 < (inode_of m i).size = rw (per-sixteen form e) at below in
      places-lead lot m (inode_of m i) (map_length form_one (inode_of m i)) n (places-own t r) (omega (arith, long, b, s, small))

  -- a directory's place
  dir-is : (t : Tree) (number size : ℕ) → Dir number size ≡ place_by i (Found t) → (es : Entries) × (t ≡ tree.Dir es) × (number ≡ i)
  dir-is (tree.File bytes) number size is = absurd (no is)
    where
      no : Dir number size ≡ File i (length bytes) → ⊥
      no is = cc
  dir-is (tree.Dir es) number size is = (es, refl, same is)
    where
      same : Dir number size ≡ Dir i (length (rows es)) → number ≡ i
      same is = cc

  -- a name that a directory doesn't have
  pub step-none : (t : Tree) → Reads f lot (own f m) i h t → (number size : ℕ) (form : Form) (c : List ℕ)
      → Dir number size ≡ place_by i (Found t) → form ≡ form_one → look_up c (dir_rows_of form m number) ≡ None
      → Missing ≡ place_by (inode_named c (rows_in f (own f m i))) (child c t)
  step-none (tree.File bytes) r number size form c is e none = absurd (no is)
    where
      no : Dir number size ≡ File i (length bytes) → ⊥
      no is = cc
  step-none (tree.Dir es) r number size form c is e none =
      let d = dir-is (tree.Dir es) number size is in
      ap (place_by (inode_named c (rows_in f (own f m i))))
      (sym (child-none f lot (own f m) i h c es r (ap (look_up c) (rows-own form e) ∙ ap (λ x. look_up c (dir_rows_of form m x)) (sym d.2) ∙ none)))

  -- one that it has
  pub record Steps (t : Tree) (c : List ℕ) (j : ℕ) : Type 0 where
    pub there : Tree
    pub reads : Reads f lot (own f m) j (h + 1) there
    pub place : place_by j (Found there) ≡ place_by (inode_named c (rows_in f (own f m i))) (child c t)

  pub step-some : (t : Tree) → Reads f lot (own f m) i h t → (number size : ℕ) (form : Form) (j : ℕ) (c : List ℕ)
      → Dir number size ≡ place_by i (Found t) → form ≡ form_one → look_up c (dir_rows_of form m number) ≡ Some j → Steps t c j
  step-some (tree.File bytes) r number size form j c is e some = absurd (no is)
    where
      no : Dir number size ≡ File i (length bytes) → ⊥
      no is = cc
  step-some (tree.Dir es) r number size form j c is e some =
      let d = dir-is (tree.Dir es) number size is in
      let s = child-found f lot (own f m) i h c es j r (ap (look_up c) (rows-own form e) ∙ ap (λ x. look_up c (dir_rows_of form m x)) (sym d.2) ∙ some) in
      record { there = s.0; reads = s.2; place = ap (λ x. place_by x (Found s.0)) (sym s.3) ∙ ap (place_by (inode_named c (rows_in f (own f m i)))) (sym s.1) }

  dir-directory : (t : Tree) → Reads f lot (own f m) i h t → (number size : ℕ) → Dir number size ≡ place_by i (Found t) → IsDirectory lot (inode_of m i)
  dir-directory (tree.File bytes) r number size is = absurd (no is)
    where
      no : Dir number size ≡ File i (length bytes) → ⊥
      no is = cc
  dir-directory (tree.Dir es) r number size is =
      record { kind = ap (λ (x : Inode). x.kind) (sym inode-own) ∙ r.1.is_dir; few = omega (arith, r.1.within, ap (λ (x : Inode). x.size) inode-own) }

  -- a search in a directory that stands for a tree fails by the disk alone
  pub step-fails : (t : Tree) → Reads f lot (own f m) i h t → (number size : ℕ) (form : Form) → Dir number size ≡ place_by i (Found t)
      → form ≡ form_one → (e : OpFault) → IsFindFault e
      → (e ≡ Damaged Kind → IsDirectory lot (inode_of m number) → ⊥)
      → (e ≡ Damaged Pointer → (n : ℕ) × (n * per_block form < (inode_of m number).size) × (leads lot m (inode_of m number) n ≡ false)) → e ≡ Disk
  step-fails t r number size form is en e faults kind pointer =
      let d = dir-is t number size is in
      let at : i ≡ number = sym d.2 in
      let dir : IsDirectory lot (inode_of m number) = subst (λ x. IsDirectory lot (inode_of m x)) at (dir-directory t r number size is) in
      find-fails e faults (λ k. kind k dir)
      (λ p. let q = pointer p in
      true_false (leads lot m (inode_of m number) q.0)
      (subst (λ x. (inode_of m x).kind ≡ 2 → q.0 * per_block form < (inode_of m x).size → leads lot m (inode_of m x) q.0 ≡ true) at
      (dir-leads t r form q.0 en) dir.kind q.1) q.2)

-- ---- from name to name

same_ok : (p q : Place) → ◌≡◌ {A = Result Place OpFault} (Ok p) (Ok q) → p ≡ q
same_ok p q e = cc

no_value : (e : OpFault) (p : Place) → ◌≡◌ {A = Result Place OpFault} (Err e) (Ok p) → ⊥
no_value e p q = cc

same_walk : (w : Walk) → and_on w (λ u. Found u) ≡ w
same_walk (Found t) = refl
same_walk NotFound = refl
same_walk NotDir = refl

walk-more : (names : List (List ℕ)) (c : List ℕ) (t : Tree) → walk (names ++ c ∷ []) t ≡ and_on (walk names t) (λ u. child c u)
walk-more names c t = walk-append names (c ∷ []) t ∙ by (walk names t)
  where
    by : (w : Walk) → and_on w (λ u. walk (c ∷ []) u) ≡ and_on w (λ u. child c u)
    by (Found u) = same_walk (child c u)
    by NotFound = refl
    by NotDir = refl

module _ (f : Form) (lot : LotView) (o : Table) where
  -- the inode one name further is the one that the row of that name has
  pub inode_on-more : (i : ℕ) (names : List (List ℕ)) (c : List ℕ) → inode_on f o i (names ++ c ∷ []) ≡ inode_named c (rows_in f (o (inode_on f o i names)))
  inode_on-more i [] c = refl
  inode_on-more i (d ∷ names) c = inode_on-more (inode_named d (rows_in f (o i))) names c

  -- the place one name further
  place-more : (names : List (List ℕ)) (c : List ℕ) (t : Tree) (w : Walk) → walk names t ≡ w
      → place_at f o (names ++ c ∷ []) t ≡ place_by (inode_named c (rows_in f (o (inode_on f o 0 names)))) (and_on w (λ u. child c u))
  place-more names c t w is =
      (λ x. place_by (inode_on-more 0 names c x) (walk-more names c t x))
      ∙ ap (λ v. place_by (inode_named c (rows_in f (o (inode_on f o 0 names)))) (and_on v (λ u. child c u))) is

  -- what a step from a place gives, wherever the place stands for a tree
  abbrev StepsFrom : Place → (ℕ → Tree → Type 0) → Type 0
  StepsFrom from P = (i h : ℕ) (u : Tree) → Reads f lot o i h u → from ≡ place_by i (Found u) → P i u

  pub next-place : (names : List (List ℕ)) (c : List ℕ) (t : Tree) (from p : Place) → Reads f lot o 0 0 t → from ≡ place_at f o names t
      → StepsFrom from (λ i u. p ≡ place_by (inode_named c (rows_in f (o i))) (child c u))
      → (from ≡ Missing → ◌≡◌ {A = Result Place OpFault} (Ok p) (Ok Missing))
      → (from ≡ Blocked → ◌≡◌ {A = Result Place OpFault} (Ok p) (Ok Blocked)) → p ≡ place_at f o (names ++ c ∷ []) t
  next-place names c t from p r is on missing blocked =
      elim (walk names t) as (λ w. walk names t ≡ w → p ≡ place_at f o (names ++ c ∷ []) t) [
        | Found s ↦ λ e.
            on (inode_on f o 0 names) (0 + length names) s (Reads-part f lot o names 0 0 t s e r)
            (is ∙ ap (place_by (inode_on f o 0 names)) e) ∙ sym (place-more names c t (Found s) e)
        | NotFound ↦ λ e. same_ok p Missing (missing (is ∙ ap (place_by (inode_on f o 0 names)) e)) ∙ sym (place-more names c t NotFound e)
        | NotDir ↦ λ e. same_ok p Blocked (blocked (is ∙ ap (place_by (inode_on f o 0 names)) e)) ∙ sym (place-more names c t NotDir e)
      ] refl

  -- a step that fails does so by the disk
  pub next-fault : (names : List (List ℕ)) (t : Tree) (from : Place) (e : OpFault) → Reads f lot o 0 0 t → from ≡ place_at f o names t
      → StepsFrom from (λ i u. e ≡ Disk)
      → (from ≡ Missing → ◌≡◌ {A = Result Place OpFault} (Err e) (Ok Missing))
      → (from ≡ Blocked → ◌≡◌ {A = Result Place OpFault} (Err e) (Ok Blocked)) → e ≡ Disk
  next-fault names t from e r is on missing blocked =
      elim (walk names t) as (λ w. walk names t ≡ w → e ≡ Disk) [
        | Found s ↦ λ q. on (inode_on f o 0 names) (0 + length names) s (Reads-part f lot o names 0 0 t s q r) (is ∙ ap (place_by (inode_on f o 0 names)) q)
        | NotFound ↦ λ q. absurd (no_value e Missing (missing (is ∙ ap (place_by (inode_on f o 0 names)) q)))
        | NotDir ↦ λ q. absurd (no_value e Blocked (blocked (is ∙ ap (place_by (inode_on f o 0 names)) q)))
      ] refl

-- the walk of no names is at the root
pub root-begun : (version : ℕ) (m : Map) (names : List (List ℕ)) (depth : ℕ) (t : Tree) (root : Place) → root ≡ place_by 0 (Found t)
    → root ≡ place_on version m (take (depth - depth) names) t
root-begun version m names depth t root is =
    let none : depth - depth ≡ 0 = omega arith in
    is ∙ ap (λ n. place_on version m (take n names) t) (sym none)

-- what is known of a place in hand, where a call found one
module _ (f : Form) (lot : LotView) (m : Map) (node : Inode) where
  pub if-is : (result : Result Place OpFault) → IfOk result (λ p. PlaceInHand f lot m p node) → IfOk result (PlaceIs m)
  if-is (Ok p) h = h.is
  if-is (Err e) h = h

  pub if-reached : (result : Result Place OpFault) → IfOk result (λ p. PlaceInHand f lot m p node) → IfOk result (PlaceReached f lot m)
  if-reached (Ok p) h = h.reached
  if-reached (Err e) h = h

  pub if-node : (result : Result Place OpFault) → IfOk result (λ p. PlaceInHand f lot m p node) → IfOk result (λ p. NodeIs m p node)
  if-node (Ok p) h = h.node_is
  if-node (Err e) h = h
