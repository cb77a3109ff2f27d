-- A directory that gains a row.
use Rattle.std.proofs.Common.{◌≡◌, ℕ, ◌+◌, ◌*◌, ◌<◌, ◌≤◌, ◌≢◌, Bool, true, false, cond, T, List, [], ◌∷◌, ◌++◌, length, map, Some, None, Option, sym, refl, ap, ◌∙◌, subst, arith}
use Rattle.std.specs.Prelude.{is_some, filter, All, unwrap_or}
use Rattle.std.specs.List.{IsDistinct}
use Rattle.std.specs.Ordering.{eq_by_cmp, is_eq}
use Rattle.std.specs.Cmp.{eq_by_cmp_equiv}
use Rattle.std.specs.Cmp.Lexicographic.{nat_list_cmp_total}
use Rattle.std.specs.FinMap.{find, put, is_sorted}
use Rattle.std.specs.declared.cmp.Ordering.TheVariants.{Less, Equal, Greater}
use Rattle.std.specs.FinMap.Entries.{by_order, find-put, find-append, is_sorted-put, is_some-find}
use Rattle.std.proofs.lemmas.Cmp.{tied_itself}
use Rattle.std.proofs.lemmas.List.Elements.{All-append, All-cons, All-nil}
use Rattle.std.proofs.lemmas.Map.Keys.{IsDistinct-push}
use Rattle.ice_base.specs.Lots.{LotView}
use Rattle.ice_map.specs.Maps.{times}
use Rattle.ice_map.specs.Own.{Own}
use Rattle.ice_dir.specs.Rows.{DirRow}
use Rattle.tree_spec.specs.Trees.{Tree, Dir, Entries, Nil, Entry, rows, from_rows, by_bytes, walk, Found, at, with_entry}
use Rattle.tree_spec.specs.Costs.{Form}
use Rattle.tree_spec.proofs.Trees.{rows-from_rows, from_rows-rows, same_name}
use Rattle.tree_spec.proofs.Sums.{length-with_new}
use Rattle.ice_reads.specs.Tables.{Table, rows_in, IsInode, IsDirInode, IsNameOf, inode_named}
use Rattle.ice_reads.specs.Reads.{Reads, ReadsEach, tree_uses, entries_use, used_inodes, inode_on}
use Rattle.ice_reads.proofs.Frames.{SameAt, inodes_in, ReadsEach-frame, uses_in-frame, times-here, times-there}
use Rattle.ice_reads.proofs.Focus.{SameOutside, Reads-at, Reads-part, uses-part, uses-at}

some_either : (b : Bool) (t : Tree) (o : Option Tree) → is_some o ≡ true → is_some (cond b (Some t) o) ≡ true
some_either true t o h = refl
some_either false t o h = h

-- the rows are asked at the names of the entries alone
module _ (rs ss : List DirRow) where
  abbrev pub SameRowsAt : Entries → Type 0
  SameRowsAt es = (d : List ℕ) → is_some (find by_bytes d (rows es)) ≡ true → inode_named d ss ≡ inode_named d rs

  at_head : (c : List ℕ) (t : Tree) (es : Entries) → SameRowsAt (Entry c t es) → inode_named c ss ≡ inode_named c rs
  at_head c t es same = same c (ap (λ r. is_some (cond (is_eq r) (Some t) (find by_bytes c (rows es)))) (tied_itself nat_list_cmp_total c))

  at_tail : (c : List ℕ) (t : Tree) (es : Entries) → SameRowsAt (Entry c t es) → SameRowsAt es
  at_tail c t es same = λ d h. same d (some_either (eq_by_cmp by_bytes d c) t (find by_bytes d (rows es)) h)

  pub ReadsEach-rows : (f : Form) (lot : LotView) (o : Table) (h : ℕ) (es : Entries) → SameRowsAt es → ReadsEach f lot o rs h es → ReadsEach f lot o ss h es
  ReadsEach-rows f lot o h Nil same r = tt
  ReadsEach-rows f lot o h (Entry c t es) same r =
      (subst (λ x. Reads f lot o x h t) (sym (at_head c t es same)) r.0, ReadsEach-rows f lot o h es (at_tail c t es same) r.1)

  pub uses_in-rows : (f : Form) (o : Table) (mine : ℕ → List ℕ) (es : Entries) → SameRowsAt es → entries_use f o mine ss es ≡ entries_use f o mine rs es
  uses_in-rows f o mine Nil same = refl
  uses_in-rows f o mine (Entry c t es) same = λ i. tree_uses f o mine (at_head c t es same i) t ++ uses_in-rows f o mine es (at_tail c t es same) i

module _ (f : Form) (lot : LotView) (o : Table) (rs : List DirRow) (h : ℕ) where
  -- rows that stand for entries, and for a tree at a name, stand for the entries with that tree put at the name
  pub ReadsEach-put : (c : List ℕ) (v : Tree) (es : Entries) → ReadsEach f lot o rs h es → Reads f lot o (inode_named c rs) h v
      → ReadsEach f lot o rs h (from_rows (put by_bytes c v (rows es)))
  ReadsEach-put c v Nil r new = (new, tt)
  ReadsEach-put c v (Entry d t es) r new =
      elim (by_bytes c d) as (λ x. by_bytes c d ≡ x
      → ReadsEach f lot o rs h (from_rows (by_order x ((c, v) ∷ (d, t) ∷ rows es) ((d, v) ∷ rows es) ((d, t) ∷ put by_bytes c v (rows es))))) [
        | Less ↦ λ e. (new, (r.0, subst (λ x. ReadsEach f lot o rs h x) (sym (from_rows-rows es)) r.1))
        | Equal ↦ λ e.
            (subst (λ x. Reads f lot o (inode_named x rs) h v) (same_name c d (ap is_eq e)) new, subst (λ x. ReadsEach f lot o rs h x) (sym (from_rows-rows es)) r.1)
        | Greater ↦ λ e. (r.0, ReadsEach-put c v es r.1 new)
      ] refl

  pub ReadsEach-filter : (keep : List ℕ × Tree → Bool) (es : Entries) → ReadsEach f lot o rs h es → ReadsEach f lot o rs h (from_rows (filter keep (rows es)))
  ReadsEach-filter keep Nil r = tt
  ReadsEach-filter keep (Entry d t es) r =
      elim (keep (d, t)) as (λ b. ReadsEach f lot o rs h (from_rows (cond b ((d, t) ∷ filter keep (rows es)) (filter keep (rows es))))) [
        | true ↦ (r.0, ReadsEach-filter keep es r.1)
        | false ↦ ReadsEach-filter keep es r.1
      ]

module _ (f : Form) (o : Table) (mine : ℕ → List ℕ) (rs : List DirRow) (measure : List ℕ → ℕ)
    (adds : (xs ys : List ℕ) → measure (xs ++ ys) ≡ measure xs + measure ys) where
  -- entries to which a new name was put use what they used, and what the tree of the name uses
  pub uses_in-put : (c : List ℕ) (v : Tree) (es : Entries) → find by_bytes c (rows es) ≡ None
      → measure (entries_use f o mine rs (from_rows (put by_bytes c v (rows es))))
      ≡ measure (tree_uses f o mine (inode_named c rs) v) + measure (entries_use f o mine rs es)
  uses_in-put c v Nil none = adds (tree_uses f o mine (inode_named c rs) v) []
  uses_in-put c v (Entry d t es) none =
      elim (by_bytes c d) as (λ x. cond (is_eq x) (Some t) (find by_bytes c (rows es)) ≡ None
      → measure (entries_use f o mine rs (from_rows (by_order x ((c, v) ∷ (d, t) ∷ rows es) ((d, v) ∷ rows es) ((d, t) ∷ put by_bytes c v (rows es)))))
      ≡ measure (tree_uses f o mine (inode_named c rs) v) + measure (tree_uses f o mine (inode_named d rs) t ++ entries_use f o mine rs es)) [
        | Less ↦ λ e. adds (tree_uses f o mine (inode_named c rs) v) (tree_uses f o mine (inode_named d rs) t ++ entries_use f o mine rs (from_rows (rows es)))
            ∙ ap (λ x. measure (tree_uses f o mine (inode_named c rs) v) + measure
            (tree_uses f o mine (inode_named d rs) t ++ entries_use f o mine rs x)) (from_rows-rows es)
        | Equal ↦ λ e. absurd (subst T (ap is_some e) tt)
        | Greater ↦ λ e.
            omega (arith, adds (tree_uses f o mine (inode_named d rs) t) (entries_use f o mine rs (from_rows (put by_bytes c v (rows es)))), adds (tree_uses f o mine (inode_named d rs) t) (entries_use f o mine rs es), uses_in-put c v es e)
      ] none

-- what the directory layer says of one more row
pub record AddsRow (f : Form) (lot : LotView) (x y : Own) (i h : ℕ) (c : List ℕ) (j : ℕ) : Type 0 where
  pub common : IsInode f lot x i h → IsInode f lot y i h
  pub is_dir : y.inode.kind ≡ 2
  pub within : y.inode.size < 64 * length lot.groups
  pub more : y.inode.size ≡ x.inode.size + 1
  pub added : rows_in f y ≡ rows_in f x ++ (c, j) ∷ []

-- an option that doesn't have a value is the one without
pub not_some : {A : Type 0} (r : Option A) → is_some r ≡ false → r ≡ None
not_some None e = refl
not_some (Some x) e = absurd (subst T e tt)

module _ (f : Form) (lot : LotView) (x y : Own) (i h : ℕ) (c : List ℕ) (j : ℕ) (v : Tree) (es : Entries) where
  -- the row is new to the rows too
  no_row : IsDirInode f lot x es → find by_bytes c (rows es) ≡ None → find by_bytes c (rows_in f x) ≡ None
  no_row d none = not_some (find by_bytes c (rows_in f x)) (sym (d.maps c) ∙ ap is_some none)

  find_added : IsDirInode f lot x es → find by_bytes c (rows es) ≡ None → AddsRow f lot x y i h c j → (q : List ℕ)
      → find by_bytes q (rows_in f y) ≡ cond (eq_by_cmp by_bytes q c) (Some j) (find by_bytes q (rows_in f x))
  find_added d none a q = ap (find by_bytes q) a.added ∙ find-append by_bytes nat_list_cmp_total (rows_in f x) c j q (no_row d none)

  alike_some : (b : Bool) (r : Option Tree) (s : Option ℕ) → is_some r ≡ is_some s → is_some (cond b (Some v) r) ≡ is_some (cond b (Some j) s)
  alike_some true r s e = refl
  alike_some false r s e = e

  map_names : (rs : List DirRow) → map (λ (e : DirRow). e.0) (rs ++ (c, j) ∷ []) ≡ map (λ (e : DirRow). e.0) rs ++ c ∷ []
  map_names [] = refl
  map_names (e ∷ rs) = ap (λ xs. e.0 ∷ xs) (map_names rs)

  IsDirInode-put : IsNameOf f c → find by_bytes c (rows es) ≡ None → AddsRow f lot x y i h c j → IsDirInode f lot x es
      → IsDirInode f lot y (from_rows (put by_bytes c v (rows es)))
  IsDirInode-put name none a d = record {
    is_dir = a.is_dir;
    within = a.within;
    fit =
        subst (λ rs. All (λ (e : DirRow). IsNameOf f e.0) rs) (sym a.added)
        (All-append (λ (e : DirRow). IsNameOf f e.0) (rows_in f x) ((c, j) ∷ []) d.fit
        (All-cons (λ (e : DirRow). IsNameOf f e.0) (c, j) [] name (All-nil (λ (e : DirRow). IsNameOf f e.0))));
    differ = subst (λ rs. IsDistinct (eq_by_cmp by_bytes) (map (λ e. e.0) rs)) (sym a.added)
        (subst (IsDistinct (eq_by_cmp by_bytes)) (sym (map_names (rows_in f x)))
        (IsDistinct-push (eq_by_cmp_equiv nat_list_cmp_total) (map (λ e. e.0) (rows_in f x)) c d.differ
        (sym (is_some-find by_bytes c (rows_in f x)) ∙ ap is_some (no_row d none))));
    sorted =
        subst (λ rs. T (is_sorted by_bytes rs)) (sym (rows-from_rows (put by_bytes c v (rows es))))
        (is_sorted-put by_bytes nat_list_cmp_total c v (rows es) d.sorted);
    maps = λ q. ap (λ rs. is_some (find by_bytes q rs)) (rows-from_rows (put by_bytes c v (rows es)))
        ∙ ap is_some (find-put by_bytes nat_list_cmp_total q c v (rows es))
        ∙ alike_some (eq_by_cmp by_bytes q c) (find by_bytes q (rows es)) (find by_bytes q (rows_in f x)) (d.maps q)
        ∙ ap is_some (sym (find_added d none a q));
    count = length-with_new c v es none ∙ ap (λ k. k + 1) d.count ∙ sym a.more;
  }

by_tie : (d c : List ℕ) (j : ℕ) (r : Option ℕ) (es : Entries) → find by_bytes c (rows es) ≡ None
    → is_some (find by_bytes d (rows es)) ≡ true → unwrap_or (cond (eq_by_cmp by_bytes d c) (Some j) r) 0 ≡ unwrap_or r 0
by_tie d c j r es none some =
    elim (eq_by_cmp by_bytes d c) as (λ b. eq_by_cmp by_bytes d c ≡ b → unwrap_or (cond b (Some j) r) 0 ≡ unwrap_or r 0) [
      | true ↦ λ e. absurd (subst T (sym some ∙ ap (λ x. is_some (find by_bytes x (rows es))) (same_name d c e) ∙ ap is_some none) tt)
      | false ↦ λ e. refl
    ] refl

module _ (f : Form) (lot : LotView) (o p : Table) (i h : ℕ) (c : List ℕ) (j : ℕ) (v : Tree) (es : Entries) where
  old_rows : IsDirInode f lot (o i) es → find by_bytes c (rows es) ≡ None → AddsRow f lot (o i) (p i) i h c j
      → SameRowsAt (rows_in f (o i)) (rows_in f (p i)) es
  old_rows d none a =
      λ q some. ap (λ r. unwrap_or r 0) (find_added f lot (o i) (p i) i h c j v es d none a q) ∙ by_tie q c j (find by_bytes q (rows_in f (o i))) es none some

  new_row : IsDirInode f lot (o i) es → find by_bytes c (rows es) ≡ None → AddsRow f lot (o i) (p i) i h c j → inode_named c (rows_in f (p i)) ≡ j
  new_row d none a =
      ap (λ r. unwrap_or r 0)
      (find_added f lot (o i) (p i) i h c j v es d none a c
      ∙ ap (λ r. cond (is_eq r) (Some j) (find by_bytes c (rows_in f (o i)))) (tied_itself nat_list_cmp_total c))

  -- a directory that gains a row for a tree stands for itself with that entry
  pub Reads-gains : Reads f lot o i h (Dir es) → find by_bytes c (rows es) ≡ None → IsNameOf f c → AddsRow f lot (o i) (p i) i h c j
      → SameAt o p (inodes_in f o (rows_in f (o i)) es) → Reads f lot p j (h + 1) v
      → Reads f lot p i h (with_entry c v (Dir es))
  Reads-gains r none name a same new =
      let d : IsDirInode f lot (o i) es = r.1 in
      let here : inode_named c (rows_in f (p i)) ≡ j = new_row d none a in (
        a.common r.0,
        IsDirInode-put f lot (o i) (p i) i h c j v es name none a d,
        ReadsEach-put f lot p (rows_in f (p i)) (h + 1) c v es
            (ReadsEach-rows (rows_in f (o i)) (rows_in f (p i)) f lot p (h + 1) es (old_rows d none a)
            (ReadsEach-frame f lot o p (rows_in f (o i)) (h + 1) es same r.2))
            (subst (λ x. Reads f lot p x (h + 1) v) (sym here) new),
      )

  pub uses-gains : (mine yours : ℕ → List ℕ) → ((k : ℕ) → p k ≡ o k → yours k ≡ mine k) → (measure : List ℕ → ℕ)
      → ((xs ys : List ℕ) → measure (xs ++ ys) ≡ measure xs + measure ys)
      → IsDirInode f lot (o i) es → find by_bytes c (rows es) ≡ None → AddsRow f lot (o i) (p i) i h c j → SameAt o p (inodes_in f o (rows_in f (o i)) es)
      → measure (tree_uses f p yours i (with_entry c v (Dir es))) + measure (mine i)
      ≡ measure (tree_uses f o mine i (Dir es)) + (measure (yours i) + measure (tree_uses f p yours j v))
  uses-gains mine yours like measure adds d none a same =
      omega (
        arith,
        adds (yours i) (entries_use f p yours (rows_in f (p i)) (from_rows (put by_bytes c v (rows es)))),
        adds (mine i) (entries_use f o mine (rows_in f (o i)) es),
        uses_in-put f p yours (rows_in f (p i)) measure adds c v es none,
        ap (λ x. measure (tree_uses f p yours x v)) (new_row d none a),
        ap measure (uses_in-rows (rows_in f (o i)) (rows_in f (p i)) f p yours es (old_rows d none a)),
        ap measure (uses_in-frame f o p mine yours like (rows_in f (o i)) es same),
      )

-- no inode is used twice
abbrev pub IsOnce : List ℕ → Type 0
IsOnce is = (k : ℕ) → times is k ≤ 1

-- all inodes of the list but one stay
pub record SameBut (o p : Table) (i : ℕ) (is : List ℕ) : Type 0 where
  pub at : (k : ℕ) → k ≢ i → 0 < times is k → p k ≡ o k

module _ (f : Form) (o p : Table) (q : List (List ℕ)) (i : ℕ) (t : Tree) (es : Entries) (found : walk q t ≡ Found (Dir es))
    (once : IsOnce (used_inodes f o i t)) (same : SameBut o p (inode_on f o i q) (used_inodes f o i t)) where
  abbrev here : ℕ
  here = inode_on f o i q

  not_here : (k : ℕ) (is : List ℕ) → times (here ∷ is) k ≡ 0 → k ≢ here
  not_here k is z e = absurd (omega (arith, z, ap (λ x. times (here ∷ is) x) e, times-here here is))

  pub outside_dir : SameOutside o p (used_inodes f o here (Dir es)) (used_inodes f o i t)
  outside_dir = record { at = λ k h. same.at k (not_here k (inodes_in f o (rows_in f (o here)) es) (omega (arith, once k))) (omega arith) }

  pub in_dir : SameAt o p (inodes_in f o (rows_in f (o here)) es)
  in_dir = record {
    at = λ k h. same.at k
        (λ e. absurd
        (omega (arith, once here, uses-part f o (λ i. i ∷ []) here q i t (Dir es) found, times-here here (inodes_in f o (rows_in f (o here)) es), ap (λ x. times (inodes_in f o (rows_in f (o here)) es) x) e)))
        (omega (arith, uses-part f o (λ i. i ∷ []) k q i t (Dir es) found, times-there k here (inodes_in f o (rows_in f (o here)) es)));
  }

-- ---- the step of a tree that gains an entry: `mkdir`, `make`, and the second half of `rename`
module _ (f : Form) (lot : LotView) (o p : Table) (q : List (List ℕ)) (c : List ℕ) (j : ℕ) (v t : Tree) (es : Entries) where
  -- the root stands for the tree with the new entry
  pub Reads-with_entry : Reads f lot o 0 0 t → walk q t ≡ Found (Dir es) → find by_bytes c (rows es) ≡ None → IsNameOf f c → IsOnce (used_inodes f o 0 t)
      → SameBut o p (inode_on f o 0 q) (used_inodes f o 0 t)
      → AddsRow f lot (o (inode_on f o 0 q)) (p (inode_on f o 0 q)) (inode_on f o 0 q) (length q) c j → Reads f lot p j (length q + 1) v
      → Reads f lot p 0 0 (at q (with_entry c v) t)
  Reads-with_entry r found none name once same a new =
      let level : 0 + length q ≡ length q = omega arith in
      Reads-at f lot o p q 0 0 (with_entry c v) t (Dir es) found r
      (subst (λ x. Reads f lot p (inode_on f o 0 q) x (with_entry c v (Dir es))) (sym level)
      (Reads-gains f lot o p (inode_on f o 0 q) (length q) c j v es
      (subst (λ x. Reads f lot o (inode_on f o 0 q) x (Dir es)) level (Reads-part f lot o q 0 0 t (Dir es) found r)) none name a
      (in_dir f o p q 0 t es found once same) new))
      (outside_dir f o p q 0 t es found once same)

  -- the tree uses more by what the new entry's tree uses, and more or less by what the directory's inode does
  pub uses-with_entry : (mine yours : ℕ → List ℕ) → ((k : ℕ) → p k ≡ o k → yours k ≡ mine k) → (measure : List ℕ → ℕ)
      → ((xs ys : List ℕ) → measure (xs ++ ys) ≡ measure xs + measure ys)
      → Reads f lot o 0 0 t → walk q t ≡ Found (Dir es) → find by_bytes c (rows es) ≡ None → IsOnce (used_inodes f o 0 t)
      → SameBut o p (inode_on f o 0 q) (used_inodes f o 0 t) → AddsRow f lot (o (inode_on f o 0 q)) (p (inode_on f o 0 q)) (inode_on f o 0 q) (length q) c j
      → measure (tree_uses f p yours 0 (at q (with_entry c v) t)) + measure (mine (inode_on f o 0 q))
      ≡ measure (tree_uses f o mine 0 t) + (measure (yours (inode_on f o 0 q)) + measure (tree_uses f p yours j v))
  uses-with_entry mine yours like measure adds r found none once same a =
      omega (
        arith,
        uses-at f o p mine yours like measure adds q 0 (with_entry c v) t (Dir es) found (outside_dir f o p q 0 t es found once same),
        uses-gains f lot o p (inode_on f o 0 q) (length q) c j v es mine yours like measure adds
            (Reads-part f lot o q 0 0 t (Dir es) found r).1 none a (in_dir f o p q 0 t es found once same),
      )
