-- How high a directory's tree is, and how many nodes it has, by its rows.
use Rattle.std.proofs.lemmas.Bool.Decides.{nat_tests}
use Rattle.std.proofs.lemmas.List.{take_all}
use Rattle.std.proofs.lemmas.Nat.{div-add-mod'}
use Rattle.std.specs.Prelude.{IfSome, ◌&&◌, is_some, nat_lt, All, Contains, unwrap_or}
use Rattle.ice_map.specs.declared.codec.Inode.{Inode}
use Rattle.ice_map.specs.Inodes.{inode_of}
use Rattle.ice_map.specs.Maps.{leads}
use Rattle.ice_dir.specs.Rows.{HasEntry, dir_rows_of, per_block, DirRow}
use Rattle.ice_dir.proofs.DirLaws.{per-sixteen}
use Rattle.tree_spec.specs.Names.{is_name}
use Rattle.tree_spec.specs.Costs.{form_one, Form, nodes}
use Rattle.ice_reads.specs.Tables.{Map, IsNameOf, Table, rows_in}
use Rattle.ice_map.specs.Own.{own}
use Rattle.ice_reads.proofs.Losses.{length-rows_in}
use Rattle.ice_look.specs.declared.place.Place.{Place}
use Rattle.ice_look.specs.Heights.{IsChild}
use Rattle.ice_look.proofs.PlaceLaws.{dir-leads}
use Rattle.ice_look.specs.Places.{place_by}
use Rattle.ice_look.specs.declared.place.Place.TheVariants as at
use Rattle.std.proofs.Common.{◌≡◌, ℕ, ◌+◌, ◌*◌, ◌/◌, ◌<◌, ◌≤◌, Bool, true, false, cond, T, List, [], ◌∷◌, map, length, take, drop, get_or, slice_get, Some, None, Option, sym, refl, ap, ◌∙◌, subst, arith}
use Rattle.std.specs.List.{IsDistinct, AllByRecursion, sum_by}
use Rattle.std.specs.Ordering.{eq_by_cmp}
use Rattle.std.specs.Cmp.{eq_by_cmp_equiv}
use Rattle.std.specs.Cmp.Lexicographic.{nat_list_cmp_total}
use Rattle.std.specs.FinMap.{find, is_sorted}
use Rattle.std.specs.FinMap.Entries.{below_all}
use Rattle.std.specs.Map.{lookup}
use Rattle.std.proofs.lemmas.List.Elements.{All-contains, All-more, All-get_or}
use Rattle.std.proofs.lemmas.List.Sums.{sum_by-cons, sum_by-drop_more}
use Rattle.std.proofs.lemmas.Map.Keys.{IsDistinct-head, IsDistinct-tail}
use Rattle.std.proofs.lemmas.Map.Views.{lookup-from_Contains, Contains-from_lookup}
use Rattle.std.proofs.lemmas.Option.{slice_get_within, get_or_from_slice_get, slice_get-get_or}
use Rattle.ice_base.specs.Lots.{LotView}
use Rattle.ice_base.specs.declared.fault.OpFault.{OpFault}
use Rattle.ice_base.specs.declared.fault.OpFault.TheVariants.{Disk, Damaged}
use Rattle.ice_base.specs.declared.fault.Rule.TheVariants.{Kind, Pointer, Name}
use Rattle.ice_dir.specs.Faults.{IsEntryFault}
use Rattle.tree_spec.specs.Trees.{Tree, Entries, Nil, Entry, rows, by_bytes, found_or_not, Found, without, height, height_in, total_in}
use Rattle.tree_spec.specs.Trees as tree
use Rattle.tree_spec.proofs.Trees.{same_name, is_same_name-refl, is_same_name-sym, find-without}
use Rattle.tree_spec.proofs.Sums.{no_later, height-child}
use Rattle.ice_reads.specs.Reads.{Reads}
use Rattle.ice_reads.proofs.Focus.{None≢Some, Found≢NotFound}
use Rattle.ice_reads.proofs.LookUps.{look_up-find, child-found}

-- the height of what stands under a name, from the directory down, and its nodes
abbrev pub high_of : Option Tree → ℕ
high_of None = 0
high_of (Some t) = height t + 1

abbrev pub many_of : Option Tree → ℕ
many_of None = 0
many_of (Some t) = nodes t

abbrev pub high : Entries → DirRow → ℕ
high es row = high_of (find by_bytes row.0 (rows es))

abbrev pub many : Entries → DirRow → ℕ
many es row = many_of (find by_bytes row.0 (rows es))

abbrev names : List DirRow → List (List ℕ)
names rs = map (λ (row : DirRow). row.0) rs

-- ---- nodes

sum-none : (rs : List DirRow) → sum_by (many Nil) rs ≡ 0
sum-none [] = refl
sum-none (r ∷ rs) = let e = sum_by-cons (many Nil) r rs in let n = sum-none rs in omega arith

-- rows of other names don't see the first entry
sum-past : (c : List ℕ) (t : Tree) (es : Entries) (rs : List DirRow) → AllByRecursion (λ y. eq_by_cmp by_bytes c y ≡ false) (names rs)
    → sum_by (many (Entry c t es)) rs ≡ sum_by (many es) rs
sum-past c t es [] d = refl
sum-past c t es (r ∷ rs) d =
    let e : eq_by_cmp by_bytes r.0 c ≡ false = is_same_name-sym r.0 c ∙ d.0 in
    let f = ap (λ b. many_of (cond b (Some t) (find by_bytes r.0 (rows es)))) e in
    let s = sum-past c t es rs d.1 in
    let x = sum_by-cons (many (Entry c t es)) r rs in
    let y = sum_by-cons (many es) r rs in
    omega arith

sum-first : (c : List ℕ) (t : Tree) (es : Entries) (rs : List DirRow) → IsDistinct (eq_by_cmp by_bytes) (names rs)
    → sum_by (many (Entry c t es)) rs ≤ nodes t + sum_by (many es) rs
sum-first c t es [] d = omega arith
sum-first c t es (r ∷ rs) d =
    let x = sum_by-cons (many (Entry c t es)) r rs in
    let y = sum_by-cons (many es) r rs in
    let step : many_of (cond (eq_by_cmp by_bytes r.0 c) (Some t) (find by_bytes r.0 (rows es))) + sum_by
    (many (Entry c t es)) rs ≤ nodes t + (many es r + sum_by (many es) rs) =
    elim (eq_by_cmp by_bytes r.0 c) as (λ b. eq_by_cmp by_bytes r.0 c ≡ b
    → many_of (cond b (Some t) (find by_bytes r.0 (rows es))) + sum_by (many (Entry c t es)) rs ≤ nodes t + (many es r + sum_by (many es) rs)) [
      | true ↦ λ e.
          let h = IsDistinct-head (eq_by_cmp by_bytes) r.0 (names rs) d in
          let s = sum-past c t es rs (subst (λ x. AllByRecursion (λ y. eq_by_cmp by_bytes x y ≡ false) (names rs)) (same_name r.0 c e) h) in
          omega arith
      | false ↦ λ e. let s = sum-first c t es rs (IsDistinct-tail (eq_by_cmp by_bytes) r.0 (names rs) d) in omega arith
    ] refl in
    omega arith

-- the rows of different names have no more nodes than the entries
pub sum-many : (es : Entries) (rs : List DirRow) → IsDistinct (eq_by_cmp by_bytes) (names rs) → sum_by (many es) rs ≤ total_in (λ _. 1) (λ _. 1) es
sum-many Nil rs d = let e = sum-none rs in omega arith
sum-many (Entry c t es) rs d = let e = sum-first c t es rs d in let s = sum-many es rs d in omega arith

-- ---- heights

none_later : (c : List ℕ) (es : Entries) → T (below_all by_bytes c (rows es)) → find by_bytes c (rows es) ≡ None
none_later c es h =
    ap (λ y. find by_bytes c (rows y)) (sym (no_later c c es (is_same_name-refl c) h)) ∙ find-without c c es
    ∙ ap (λ b. cond b None (find by_bytes c (rows es))) (is_same_name-refl c)

left : (a b : Bool) → T (a && b) → T a
left true b h = tt
left false b h = absurd h

right : (a b : Bool) → T (a && b) → T b
right true b h = h
right false b h = absurd h

-- a directory is no higher than what stands under each of its names
low-entries : (n : ℕ) (es : Entries) → T (is_sorted by_bytes (rows es))
    → ((c : List ℕ) (t : Tree) → find by_bytes c (rows es) ≡ Some t → height t + 1 ≤ n) → height_in es ≤ n
low-entries n Nil sorted low = omega arith
low-entries n (Entry c t es) sorted low =
    let first : height t + 1 ≤ n = low c t (ap (λ b. cond b (Some t) (find by_bytes c (rows es))) (is_same_name-refl c)) in
    let rest = low-entries n es (right _ _ sorted) (λ d u is. low d u (past d u is)) in
    omega arith
  where
    past : (d : List ℕ) (u : Tree) → find by_bytes d (rows es) ≡ Some u → cond (eq_by_cmp by_bytes d c) (Some t) (find by_bytes d (rows es)) ≡ Some u
    past d u is =
        elim (eq_by_cmp by_bytes d c) as (λ b. eq_by_cmp by_bytes d c ≡ b → cond b (Some t) (find by_bytes d (rows es)) ≡ Some u) [
          | true ↦ λ e. absurd (None≢Some u (sym (none_later c es (left _ _ sorted)) ∙ ap (λ x. find by_bytes x (rows es)) (sym (same_name d c e)) ∙ is))
          | false ↦ λ e. is
        ] refl

find-lookup : (q : List ℕ) (rs : List DirRow) → find by_bytes q rs ≡ lookup (eq_by_cmp by_bytes q) rs
find-lookup q [] = refl
find-lookup q (e ∷ rs) = ap (λ r. cond (eq_by_cmp by_bytes q e.0) (Some e.1) r) (find-lookup q rs)

some_value : (x : Option ℕ) → is_some x ≡ true → x ≡ Some (unwrap_or x 0)
some_value None e = absurd (subst T (sym e) tt)
some_value (Some j) e = refl

module _ (f : Form) (lot : LotView) (o : Table) (i h : ℕ) (es : Entries) (r : Reads f lot o i h (tree.Dir es)) where
  abbrev rs : List DirRow
  rs = rows_in f (o i)

  -- what each row shows bounds the height of the directory
  pub low-rows : (n : ℕ) → All (λ (row : DirRow). high es row ≤ n) (rows_in f (o i)) → height (tree.Dir es) ≤ n
  low-rows n low = low-entries n es r.1.sorted (λ c t is.
      let some : is_some (find by_bytes c rs) ≡ true = sym (r.1.maps c) ∙ ap is_some is in
      let row : lookup (eq_by_cmp by_bytes c) rs ≡ Some (unwrap_or (find by_bytes c rs) 0) = sym (find-lookup c rs) ∙ some_value (find by_bytes c rs) some in
      let has : Contains rs (c, unwrap_or (find by_bytes c rs) 0) = Contains-from_lookup same_name c (unwrap_or (find by_bytes c rs) 0) rs row in
      let at : high es (c, unwrap_or (find by_bytes c rs) 0) ≤ n = All-contains (λ (row : DirRow). high es row ≤ n) rs
      (c, unwrap_or (find by_bytes c rs) 0) low has in
      let e = ap high_of is in
      omega arith)

  pub fits-rows : sum_by (many es) (rows_in f (o i)) + 1 ≤ nodes (tree.Dir es)
  fits-rows = let s = sum-many es rs r.1.differ in omega arith

  -- what row k names
  pub record RowChild (c : List ℕ) (j : ℕ) : Type 0 where
    pub there : Tree
    pub entry : find by_bytes c (rows es) ≡ Some there
    pub reads : Reads f lot o j (h + 1) there

  some-found : (x : Option Tree) (s : Tree) → found_or_not x ≡ Found s → x ≡ Some s
  some-found None s e = absurd (Found≢NotFound s (sym e))
  some-found (Some t) s e = ap (λ y. Some y) (same t s e)
    where
      same : (t s : Tree) → Found t ≡ Found s → t ≡ s
      same t s e = cc

  pub row-child : (k : ℕ) (c : List ℕ) (j : ℕ) → slice_get (rows_in f (o i)) k ≡ Some (c, j) → RowChild c j
  row-child k c j is =
      let has : Contains rs (c, j) = (k, slice_get_within rs k (c, j) is, get_or_from_slice_get rs k (c, j) (c, j) is) in
      let row : find by_bytes c rs ≡ Some j = find-lookup c rs ∙ lookup-from_Contains (eq_by_cmp_equiv nat_list_cmp_total) c j rs r.1.differ has in
      let s = child-found f lot o i h c es j r (look_up-find c rs ∙ row) in
      record { there = s.0; entry = some-found (find by_bytes c (rows es)) s.0 s.1; reads = s.2 }

-- what a read of an entry says where the directory stands for entries
module _ (f : Form) (one : f ≡ form_one) (lot : LotView) (m : Map) (i h : ℕ) (es : Entries) (r : Reads f lot (own f m) i h (tree.Dir es))
    (form : Form) (is : form ≡ form_one) (k : ℕ) (below : k < length (rows es)) where
  inode-own : (own f m i).inode ≡ inode_of m i
  inode-own = ap (λ g. (own g m i).inode) one

  dir-size : (inode_of m i).size ≡ length (rows es)
  dir-size = ap (λ (x : Inode). x.size) (sym inode-own) ∙ sym r.1.count

  dir-kind : (inode_of m i).kind ≡ 2
  dir-kind = ap (λ (x : Inode). x.kind) (sym inode-own) ∙ r.1.is_dir

  dir-has : HasEntry lot k (inode_of m i)
  dir-has =
      let e = dir-size in
      let w = r.1.within in
      let s = ap (λ (x : Inode). x.size) inode-own in
      record { is = record { kind = dir-kind; few = omega arith }; below = omega arith }

  dir-lead : leads lot m (inode_of m i) (k / per_block form) ≡ true
  dir-lead = dir-leads f one lot m i h (tree.Dir es) r form (k / per_block form) is dir-kind (
      let e = dir-size in
      let low : k / 16 * 16 < (inode_of m i).size = omega (arith, div-add-mod' k 16) in
      rw (per-sixteen form is) low)

  row-here : rows_in f (own f m i) ≡ dir_rows_of form m i
  row-here = ap (λ g. rows_in g (own g m i)) one ∙ ap (λ x. dir_rows_of x m i) (sym is)

  dir-named : IfSome (slice_get (dir_rows_of form m i) k) (λ row. is_name row.0 ≡ false) → ⊥
  dir-named wrong =
      let inside : k < length (rows_in f (own f m i)) = (let c = r.1.count in let l = length-rows_in f (own f m i) in omega arith) in
      let good : is_name
      (get_or (rows_in f (own f m i)) k ([], 0)).0 ≡ true = (All-get_or (λ (row : DirRow). IsNameOf f row.0) (rows_in f (own f m i)) k
      ([], 0) inside r.1.fit).is in
      let bad : is_name (get_or (rows_in f (own f m i)) k ([], 0)).0 ≡ false =
      subst (λ o. IfSome o (λ (row : DirRow). is_name row.0 ≡ false))
      (ap (λ rs. slice_get rs k) (sym row-here) ∙ slice_get-get_or (rows_in f (own f m i)) k ([], 0) inside) wrong in
      absurd (subst T (sym good ∙ bad) tt)

  -- it fails by the disk alone
  pub entry-fails : (e : OpFault) → IsEntryFault e → (e ≡ Damaged Kind → ¬ HasEntry lot k (inode_of m i))
      → (e ≡ Damaged Pointer → leads lot m (inode_of m i) (k / per_block form) ≡ false)
      → (e ≡ Damaged Name → IfSome (slice_get (dir_rows_of form m i) k) (λ row. is_name row.0 ≡ false)) → e ≡ Disk
  entry-fails Disk h kind pointer name = refl
  entry-fails (Damaged Kind) h kind pointer name = absurd (kind refl dir-has)
  entry-fails (Damaged Pointer) h kind pointer name = absurd (subst T (sym dir-lead ∙ pointer refl) tt)
  entry-fails (Damaged Name) h kind pointer name = absurd (dir-named (name refl))
  entry-fails _ h kind pointer name = absurd h

  -- and gives a row that names a tree of the directory
  pub entry-child : (c : List ℕ) (j : ℕ) → slice_get (dir_rows_of form m i) k ≡ Some (c, j) → RowChild f lot (own f m) i h es r c j
  entry-child c j row = row-child f lot (own f m) i h es r k c j (ap (λ rs. slice_get rs k) row-here ∙ row)

  pub entry-row : (c : List ℕ) (j : ℕ) → slice_get (dir_rows_of form m i) k ≡ Some (c, j) → slice_get (rows_in f (own f m i)) k ≡ Some (c, j)
  entry-row c j row = ap (λ rs. slice_get rs k) row-here ∙ row

-- ---- one row more

module _ (f : Form) (lot : LotView) (o : Table) (i h k : ℕ) (es : Entries) (r : Reads f lot o i h (tree.Dir es)) (p : Place)
    (c : IsChild f lot o i h k es p) where
  child-inside : k < length (rows_in f (o i))
  child-inside = slice_get_within (rows_in f (o i)) k (c.name, c.inode) c.row

  child-row : get_or (rows_in f (o i)) k ([], 0) ≡ (c.name, c.inode)
  child-row = get_or_from_slice_get (rows_in f (o i)) k (c.name, c.inode) ([], 0) c.row

  child-high : high es (get_or (rows_in f (o i)) k ([], 0)) ≡ height c.tree + 1
  child-high = ap (high es) child-row ∙ ap high_of c.entry

  child-many : many es (get_or (rows_in f (o i)) k ([], 0)) ≡ nodes c.tree
  child-many = ap (many es) child-row ∙ ap many_of c.entry

  -- the sum over the rows from k on
  child-sum : sum_by (many es) (drop k (rows_in f (o i))) ≡ nodes c.tree + sum_by (many es) (drop (k + 1) (rows_in f (o i)))
  child-sum = let e = sum_by-drop_more (many es) (rows_in f (o i)) k ([], 0) child-inside in let m = child-many in omega arith

  -- the budget is enough for row k
  pub child-enough : (first now : ℕ) → nodes (tree.Dir es) ≤ first + 1
      → first + sum_by (many es) (drop k (rows_in f (o i))) ≤ now + sum_by (many es) (rows_in f (o i)) → nodes c.tree ≤ now
  child-enough first now fits spent =
      let e = child-sum in
      let s = fits-rows f lot o i h es r in
      omega arith

  -- and is one row further then
  pub child-spent : (first now later : ℕ) → first + sum_by (many es) (drop k (rows_in f (o i))) ≤ now + sum_by (many es) (rows_in f (o i))
      → now ≤ later + nodes c.tree
      → first + sum_by (many es) (drop (k + 1) (rows_in f (o i))) ≤ later + sum_by (many es) (rows_in f (o i))
  child-spent first now later spent step = let e = child-sum in omega arith

  pub child-low : (n : ℕ) → All (λ (row : DirRow). high es row ≤ n + 1) (take k (rows_in f (o i))) → nat_lt n (height c.tree) ≡ false
      → All (λ (row : DirRow). high es row ≤ n + 1) (take (k + 1) (rows_in f (o i)))
  child-low n low is =
      All-more (λ (row : DirRow). high es row ≤ n + 1) (rows_in f (o i)) k ([], 0) child-inside low (
      let b : height c.tree ≤ n = grind (arith, nat_tests) in
      let e = child-high in
      omega arith)

  pub child-higher : (n : ℕ) → nat_lt n (height c.tree) ≡ true → nat_lt (n + 1) (height (tree.Dir es)) ≡ true
  child-higher n is =
      let e = height-child c.name es c.tree c.entry in
      let b : n < height c.tree = grind (arith, nat_tests) in
      let l : n + 1 < height_in es = omega arith in
      grind (arith, nat_tests)

-- after the last row
module _ (f : Form) (lot : LotView) (o : Table) (i h : ℕ) (es : Entries) (r : Reads f lot o i h (tree.Dir es)) (size : ℕ) (is : size ≡ length (rows es)) where
  pub all-low : (n k : ℕ) → size ≤ k → All (λ (row : DirRow). high es row ≤ n) (take k (rows_in f (o i))) → nat_lt n (height (tree.Dir es)) ≡ false
  all-low n k past low =
      let c = r.1.count in
      let l = length-rows_in f (o i) in
      let whole : take k (rows_in f (o i)) ≡ rows_in f (o i) = take_all k (rows_in f (o i)) (omega arith) in
      let b = low-rows f lot o i h es r n (subst (All (λ (row : DirRow). high es row ≤ n)) whole low) in
      grind (arith, nat_tests)

  pub all-spent : (first now k : ℕ) → first + sum_by (many es) (drop k (rows_in f (o i))) ≤ now + sum_by (many es) (rows_in f (o i))
      → first + 1 ≤ now + nodes (tree.Dir es)
  all-spent first now k spent = let s = fits-rows f lot o i h es r in omega arith

-- a directory without entries, and one with some
pub low-empty : (es : Entries) → 0 ≡ length (rows es) → (n : ℕ) → nat_lt n (height (tree.Dir es)) ≡ false
low-empty Nil is n = grind (arith, nat_tests)
low-empty (Entry c t es) is n = absurd (omega arith)

pub high-some : (es : Entries) (size : ℕ) → size ≡ length (rows es) → 0 < size → nat_lt 0 (height (tree.Dir es)) ≡ true
high-some Nil size is some = absurd (omega arith)
high-some (Entry c t es) size is some = let b : 0 < height_in (Entry c t es) = omega arith in grind (arith, nat_tests)

-- a place that is a directory's: without entries, and with some
pub low-place : (i number size n : ℕ) (s : Tree) → at.Dir number size ≡ place_by i (Found s) → size ≡ 0 → nat_lt n (height s) ≡ false
low-place i number size n (tree.File bytes) is none = absurd (no is)
  where
    no : at.Dir number size ≡ at.File i (length bytes) → ⊥
    no is = cc
low-place i number size n (tree.Dir es) is none = low-empty es (sym none ∙ same is) n
  where
    same : at.Dir number size ≡ at.Dir i (length (rows es)) → size ≡ length (rows es)
    same is = cc

pub high-place : (i number size n : ℕ) (s : Tree) → at.Dir number size ≡ place_by i (Found s) → (size ≡ 0 → ⊥) → n ≡ 0 → nat_lt n (height s) ≡ true
high-place i number size n (tree.File bytes) is some zero = absurd (no is)
  where
    no : at.Dir number size ≡ at.File i (length bytes) → ⊥
    no is = cc
high-place i number size n (tree.Dir es) is some zero = ap (λ x. nat_lt x (height (tree.Dir es))) zero ∙ high-some es size (same is) (omega arith)
  where
    same : at.Dir number size ≡ at.Dir i (length (rows es)) → size ≡ length (rows es)
    same is = cc
