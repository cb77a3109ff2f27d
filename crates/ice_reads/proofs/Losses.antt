-- A directory that loses a row, and trees that stand at another depth.
use Rattle.std.proofs.Common.{◌≡◌, ℕ, ◌+◌, ◌*◌, ◌<◌, ◌≤◌, Bool, true, false, cond, T, List, [], ◌∷◌, ◌++◌, length, map, Some, None, Option, sym, refl, ap, ◌∙◌, subst, arith, length-append}
use Rattle.std.specs.Prelude.{is_some, not, ◌&&◌, filter, All, unwrap_or}
use Rattle.std.specs.List.{IsDistinct}
use Rattle.std.specs.Ordering.{eq_by_cmp}
use Rattle.std.specs.FinMap.{find, is_sorted}
use Rattle.std.specs.FinMap.Entries.{is_sorted-where_key}
use Rattle.std.proofs.lemmas.List.FromFn.{length-map-range_with_len}
use Rattle.ice_base.specs.Lots.{LotView}
use Rattle.ice_map.specs.Own.{Own}
use Rattle.ice_dir.specs.Rows.{DirRow, dir_rows, look_up}
use Rattle.ice_dir.specs.Rows as dir
use Rattle.tree_spec.specs.Trees.{Tree, File, Dir, Entries, Nil, Entry, rows, from_rows, by_bytes, without, without_entry, height, height_in}
use Rattle.tree_spec.specs.Costs.{Form}
use Rattle.tree_spec.specs.Answers.{deepest}
use Rattle.tree_spec.proofs.Trees.{rows-from_rows, same_name, find-without}
use Rattle.tree_spec.proofs.Sums.{length-without, no_later}
use Rattle.ice_reads.specs.Tables.{Table, rows_in, IsInode, IsDirInode, IsNameOf, inode_named}
use Rattle.ice_reads.specs.Reads.{Reads, ReadsEach, tree_uses, entries_use}
use Rattle.ice_reads.proofs.Frames.{SameAt, inodes_in, ReadsEach-frame, uses_in-frame}
use Rattle.ice_reads.proofs.Focus.{same_Some, None≢Some}
use Rattle.ice_reads.proofs.Steps.{SameRowsAt, ReadsEach-rows, uses_in-rows, ReadsEach-filter, AddsRow}
use Rattle.ice_reads.proofs.LookUps.{dir_without, RowGone}

-- ---- a tree may stand as deep as its height leaves room for
module _ (f : Form) (lot : LotView) (o : Table) where
  IsInode-shift : (i h k : ℕ) → k ≤ deepest → IsInode f lot (o i) i h → IsInode f lot (o i) i k
  IsInode-shift i h k fits r = record { depth = fits; number = r.number; places = r.places; rest = r.rest }

  mutual
    -- an inode that stands for a tree does so at each depth that leaves room for the tree's height
    pub Reads-shift : (i h k : ℕ) (t : Tree) → k + height t ≤ deepest → Reads f lot o i h t → Reads f lot o i k t
    Reads-shift i h k (File bytes) fits r = (IsInode-shift i h k (omega arith) r.0, r.1)
    Reads-shift i h k (Dir es) fits r = (IsInode-shift i h k (omega arith) r.0, r.1, ReadsEach-shift (rows_in f (o i)) (h + 1) (k + 1) es (omega arith) r.2)

    pub ReadsEach-shift : (rs : List DirRow) (h k : ℕ) (es : Entries) → k + height_in es ≤ deepest + 1 → ReadsEach f lot o rs h es → ReadsEach f lot o rs k es
    ReadsEach-shift rs h k Nil fits r = tt
    ReadsEach-shift rs h k (Entry c t es) fits r = (Reads-shift (inode_named c rs) h k t (omega arith) r.0, ReadsEach-shift rs h k es (omega arith) r.1)

-- ---- a row that goes

-- what the directory layer says of one row less: each other name is looked up as it was
pub record LosesRow (f : Form) (lot : LotView) (x y : Own) (i h : ℕ) (c : List ℕ) : Type 0 where
  pub common : IsInode f lot x i h → IsInode f lot y i h
  pub is_dir : y.inode.kind ≡ 2
  pub within : y.inode.size < 64 * length lot.groups
  pub less : y.inode.size + 1 ≡ x.inode.size
  pub fit : All (λ (e : DirRow). IsNameOf f e.0) (rows_in f y)
  pub differ : IsDistinct (eq_by_cmp by_bytes) (map (λ e. e.0) (rows_in f y))
  pub others : (q : List ℕ) → find by_bytes q (rows_in f y) ≡ cond (eq_by_cmp by_bytes c q) None (find by_bytes q (rows_in f x))

module _ (f : Form) (lot : LotView) (x y : Own) (i h : ℕ) (c : List ℕ) (es : Entries) where
  alike_some : (b : Bool) (r : Option Tree) (s : Option ℕ) → is_some r ≡ is_some s → is_some (cond b None r) ≡ is_some (cond b None s)
  alike_some true r s e = refl
  alike_some false r s e = e

  count_is : (k l : ℕ) → k + 1 ≡ l → l ≡ x.inode.size → y.inode.size + 1 ≡ x.inode.size → k ≡ y.inode.size
  count_is k l a b c = omega arith

  IsDirInode-without : (v : Tree) → find by_bytes c (rows es) ≡ Some v → LosesRow f lot x y i h c → IsDirInode f lot x es → IsDirInode f lot y (without c es)
  IsDirInode-without v is a d = record {
    is_dir = a.is_dir;
    within = a.within;
    fit = a.fit;
    differ = a.differ;
    sorted =
        subst (λ rs. T (is_sorted by_bytes rs)) (sym (rows-from_rows (filter (λ e. not (eq_by_cmp by_bytes c e.0)) (rows es))))
        (is_sorted-where_key by_bytes (λ x. not (eq_by_cmp by_bytes c x)) (rows es) d.sorted);
    maps =
        λ q. ap is_some (find-without c q es) ∙ alike_some (eq_by_cmp by_bytes c q) (find by_bytes q (rows es))
        (find by_bytes q (rows_in f x)) (d.maps q) ∙ ap is_some (sym (a.others q));
    count = count_is (length (rows (without c es))) (length (rows es)) (length-without c v es d.sorted is) d.count a.less;
  }

  same_rows : LosesRow f lot x y i h c → SameRowsAt (rows_in f x) (rows_in f y) (without c es)
  same_rows a = λ q some. ap (λ r. unwrap_or r 0) (a.others q) ∙ by_tie q (subst (λ r. is_some r ≡ true) (find-without c q es) some)
    where
      by_tie : (q : List ℕ) → is_some (cond (eq_by_cmp by_bytes c q) None (find by_bytes q (rows es))) ≡ true
          → unwrap_or (cond (eq_by_cmp by_bytes c q) None (find by_bytes q (rows_in f x))) 0 ≡ unwrap_or (find by_bytes q (rows_in f x)) 0
      by_tie q =
          elim (eq_by_cmp by_bytes c q) as (λ b. is_some (cond b None (find by_bytes q (rows es))) ≡ true
          → unwrap_or (cond b None (find by_bytes q (rows_in f x))) 0 ≡ unwrap_or (find by_bytes q (rows_in f x)) 0) [
            | true ↦ λ e. absurd (subst T (sym e) tt)
            | false ↦ λ e. refl
          ]

first : (a b : Bool) → T (a && b) → T a
first true b h = tt
first false b h = absurd h

second : (a b : Bool) → T (a && b) → T b
second true b h = h
second false b h = absurd h

module _ (f : Form) (o : Table) (mine : ℕ → List ℕ) (rs : List DirRow) (measure : List ℕ → ℕ)
    (adds : (xs ys : List ℕ) → measure (xs ++ ys) ≡ measure xs + measure ys) where
  pub uses_in-without : (c : List ℕ) (v : Tree) (es : Entries) → T (is_sorted by_bytes (rows es)) → find by_bytes c (rows es) ≡ Some v
      → measure (entries_use f o mine rs (without c es)) + measure (tree_uses f o mine (inode_named c rs) v) ≡ measure (entries_use f o mine rs es)
  uses_in-without c v Nil sorted is = absurd (None≢Some v is)
  uses_in-without c v (Entry d t es) sorted is =
      elim (eq_by_cmp by_bytes c d) as (λ b. eq_by_cmp by_bytes c d ≡ b → cond b (Some t) (find by_bytes c (rows es)) ≡ Some v
      → measure (entries_use f o mine rs (from_rows (cond (not b) ((d, t) ∷ filter (λ e. not (eq_by_cmp by_bytes c e.0)) (rows es)) (filter (λ e. not (eq_by_cmp by_bytes c e.0)) (rows es))))) + measure (tree_uses f o mine (inode_named c rs) v) ≡ measure (tree_uses f o mine (inode_named d rs) t ++ entries_use f o mine rs es)) [
        | true ↦ λ e is.
            let k = same_name c d e in
            omega (
              arith,
              adds (tree_uses f o mine (inode_named d rs) t) (entries_use f o mine rs es),
              ap (λ x. measure (entries_use f o mine rs x)) (no_later c d es e (first _ _ sorted)),
              ap (λ x. measure (tree_uses f o mine (inode_named d rs) x)) (same_Some _ _ is),
              ap (λ x. measure (tree_uses f o mine (inode_named x rs) v)) k,
            )
        | false ↦ λ e is.
            omega (arith, adds (tree_uses f o mine (inode_named d rs) t) (entries_use f o mine rs es), adds (tree_uses f o mine (inode_named d rs) t) (entries_use f o mine rs (without c es)), uses_in-without c v es (second _ _ sorted) is)
      ] refl is

module _ (f : Form) (lot : LotView) (o p : Table) (i h : ℕ) (c : List ℕ) (v : Tree) (es : Entries) where
  pub Reads-loses : Reads f lot o i h (Dir es) → find by_bytes c (rows es) ≡ Some v → LosesRow f lot (o i) (p i) i h c
      → SameAt o p (inodes_in f o (rows_in f (o i)) (without c es)) → Reads f lot p i h (without_entry c (Dir es))
  Reads-loses r is a same = (
    a.common r.0,
    IsDirInode-without f lot (o i) (p i) i h c es v is a r.1,
    ReadsEach-rows (rows_in f (o i)) (rows_in f (p i)) f lot p (h + 1) (without c es) (same_rows f lot (o i) (p i) i h c es a)
        (ReadsEach-frame f lot o p (rows_in f (o i)) (h + 1) (without c es) same
        (ReadsEach-filter f lot o (rows_in f (o i)) (h + 1) (λ e. not (eq_by_cmp by_bytes c e.0)) es r.2)),
  )

  pub uses-loses : (mine yours : ℕ → List ℕ) → ((k : ℕ) → p k ≡ o k → yours k ≡ mine k) → (measure : List ℕ → ℕ)
      → ((xs ys : List ℕ) → measure (xs ++ ys) ≡ measure xs + measure ys)
      → T (is_sorted by_bytes (rows es)) → find by_bytes c (rows es) ≡ Some v → LosesRow f lot (o i) (p i) i h c
      → SameAt o p (inodes_in f o (rows_in f (o i)) (without c es))
      → measure (tree_uses f p yours i (without_entry c (Dir es))) + measure (tree_uses f o mine (inode_named c (rows_in f (o i))) v) + measure (mine i)
      ≡ measure (tree_uses f o mine i (Dir es)) + measure (yours i)
  uses-loses mine yours like measure adds sorted is a same =
      omega (
        arith,
        adds (yours i) (entries_use f p yours (rows_in f (p i)) (without c es)),
        adds (mine i) (entries_use f o mine (rows_in f (o i)) es),
        uses_in-without f o mine (rows_in f (o i)) measure adds c v es sorted is,
        ap measure (uses_in-rows (rows_in f (o i)) (rows_in f (p i)) f p yours (without c es) (same_rows f lot (o i) (p i) i h c es a)),
        ap measure (uses_in-frame f o p mine yours like (rows_in f (o i)) (without c es) same),
      )

-- ---- the rows of a directory as a list

-- a directory has as many rows as the size of its inode says
pub length-rows_in : (f : Form) (x : Own) → length (rows_in f x) ≡ x.inode.size
unfolding dir_rows
length-rows_in f x = length-map-range_with_len _ 0 x.inode.size

module _ (f : Form) (lot : LotView) (x y : Own) (i h : ℕ) (common : IsInode f lot x i h → IsInode f lot y i h) (is_dir : y.inode.kind ≡ 2)
    (within : y.inode.size < 64 * length lot.groups) (c : List ℕ) (j : ℕ) where
  -- what a new row makes of a directory
  pub adds_row : rows_in f y ≡ rows_in f x ++ (c, j) ∷ [] → AddsRow f lot x y i h c j
  adds_row added = record {
    common = common;
    is_dir = is_dir;
    within = within;
    more = sym (length-rows_in f y) ∙ ap length added ∙ length-append (rows_in f x) ((c, j) ∷ []) ∙ ap (λ k. k + 1) (length-rows_in f x);
    added = added;
  }

  -- what a row that was taken makes of it
  pub loses_row : (es : Entries) → IsDirInode f lot x es → look_up c (rows_in f x) ≡ Some j
      → rows_in f y ≡ dir.rows_without c (rows_in f x) → LosesRow f lot x y i h c
  loses_row es d is taken =
      let gone : RowGone f c (rows_in f x) (rows_in f y) = dir_without f c j (rows_in f x) (rows_in f y) taken is d.differ d.fit in
      record {
        common = common;
        is_dir = is_dir;
        within = within;
        less = ap (λ k. k + 1) (sym (length-rows_in f y)) ∙ gone.fewer ∙ length-rows_in f x;
        fit = gone.fit;
        differ = gone.differ;
        others = gone.others;
      }
