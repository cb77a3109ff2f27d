-- A change at one place of a tree: what stands for the whole follows from what stands for the place.
use Rattle.std.proofs.Common.{◌≡◌, ℕ, ◌+◌, ◌<◌, ◌≤◌, Bool, true, false, cond, T, List, [], ◌∷◌, ◌++◌, length, Some, None, Option, sym, refl, ap, ◌∙◌, subst, arith}
use Rattle.std.specs.Prelude.{is_some}
use Rattle.std.specs.Ordering.{eq_by_cmp}
use Rattle.std.specs.FinMap.{find}
use Rattle.ice_base.specs.Lots.{LotView}
use Rattle.ice_map.specs.Maps.{times}
use Rattle.ice_map.proofs.ListLaws.{times-append}
use Rattle.ice_map.specs.Own.{Own}
use Rattle.ice_dir.specs.Rows.{DirRow}
use Rattle.tree_spec.specs.Trees.{Tree, File, Dir, Entries, Nil, Entry, rows, by_bytes, walk, and_on, found_or_not, Found, NotFound, NotDir, at, over_entry}
use Rattle.tree_spec.specs.Costs.{Form}
use Rattle.tree_spec.proofs.Trees.{same_name, find-over, on_some}
use Rattle.tree_spec.proofs.Sums.{length-over}
use Rattle.tree_spec.proofs.Orders.{is_sorted-over}
use Rattle.ice_reads.specs.Tables.{Table, rows_in, IsInode, IsDirInode, inode_named}
use Rattle.ice_reads.specs.Reads.{Reads, ReadsEach, tree_uses, entries_use, used_inodes, inode_on}
use Rattle.ice_reads.proofs.Frames.{SameAt, inodes_in, Reads-frame, ReadsEach-frame, uses-frame, uses_in-frame, times-here, times-there}

-- ---- the ends of walks

-- two equal ends of walks that found a tree found the same tree
pub same_Found : (t u : Tree) → Found t ≡ Found u → t ≡ u
same_Found t u e = cc

-- two equal options that have a value have the same value
pub same_Some : {A : Type 0} (t u : A) → Some t ≡ Some u → t ≡ u
same_Some t u e = cc

-- a walk that found a tree didn't end at a name that is not there
pub Found≢NotFound : (t : Tree) → Found t ≡ NotFound → ⊥
Found≢NotFound t e = cc

-- a walk that found a tree didn't end at a file in place of a directory
pub Found≢NotDir : (t : Tree) → Found t ≡ NotDir → ⊥
Found≢NotDir t e = cc

-- an option that has a value is not the one without
pub None≢Some : {A : Type 0} (t : A) → None ≡ Some t → ⊥
None≢Some t e = cc

is_some-on : (g : Tree → Tree) (b : Bool) (r : Option Tree) → is_some (cond b (on_some g r) r) ≡ is_some r
is_some-on g true None = refl
is_some-on g true (Some u) = refl
is_some-on g false r = refl

-- the tree's own list is made of those of its parts, at every list that inodes may use
module _ (f : Form) (o : Table) (mine : ℕ → List ℕ) (k : ℕ) where
  -- the tree of an entry uses a number no more often than all the entries do
  pub uses-entry : (rs : List DirRow) (c : List ℕ) (es : Entries) (u : Tree) → find by_bytes c (rows es) ≡ Some u
      → times (tree_uses f o mine (inode_named c rs) u) k ≤ times (entries_use f o mine rs es) k
  uses-entry rs c Nil u h = absurd (None≢Some u h)
  uses-entry rs c (Entry d t es) u h =
      elim (eq_by_cmp by_bytes c d) as (λ b. eq_by_cmp by_bytes c d ≡ b → cond b (Some t) (find by_bytes c (rows es)) ≡ Some u
      → times (tree_uses f o mine (inode_named c rs) u) k ≤ times (tree_uses f o mine (inode_named d rs) t ++ entries_use f o mine rs es) k) [
        | true ↦ λ e is.
            omega (arith, times-append (tree_uses f o mine (inode_named d rs) t) (entries_use f o mine rs es) k, ap (λ x. times (tree_uses f o mine (inode_named x rs) u) k) (same_name c d e), ap (λ x. times (tree_uses f o mine (inode_named d rs) x) k) (same_Some _ _ is))
        | false ↦ λ e is. omega (arith, times-append (tree_uses f o mine (inode_named d rs) t) (entries_use f o mine rs es) k, uses-entry rs c es u is)
      ] refl h

  -- what a part uses, the whole uses
  pub uses-part : (q : List (List ℕ)) (i : ℕ) (t s : Tree) → walk q t ≡ Found s
      → times (tree_uses f o mine (inode_on f o i q) s) k ≤ times (tree_uses f o mine i t) k
  uses-part [] i t s h = subst (λ x. times (tree_uses f o mine i x) k ≤ times (tree_uses f o mine i t) k) (same_Found _ _ h) (omega arith)
  uses-part (c ∷ q) i (File bytes) s h = absurd (Found≢NotDir _ (sym h))
  uses-part (c ∷ q) i (Dir es) s h =
      elim (find by_bytes c (rows es)) as (λ r. find by_bytes c (rows es) ≡ r → and_on (found_or_not r) (λ u. walk q u) ≡ Found s
      → times (tree_uses f o mine (inode_on f o i (c ∷ q)) s) k ≤ times (mine i ++ entries_use f o mine (rows_in f (o i)) es) k) [
        | None ↦ λ e is. absurd (Found≢NotFound _ (sym is))
        | Some u ↦ λ e is.
            omega (arith, uses-part q (inode_named c (rows_in f (o i))) u s is, uses-entry (rows_in f (o i)) c es u e, times-append (mine i) (entries_use f o mine (rows_in f (o i)) es) k)
      ] refl h

module _ (f : Form) (lot : LotView) where
  pub IsDirInode-over : (x : Own) (c : List ℕ) (g : Tree → Tree) (es : Entries) → IsDirInode f lot x es → IsDirInode f lot x (over_entry c g es)
  IsDirInode-over x c g es d = record {
    is_dir = d.is_dir;
    within = d.within;
    fit = d.fit;
    differ = d.differ;
    sorted = subst T (sym (is_sorted-over c g es)) d.sorted;
    maps = λ q. ap is_some (find-over c q g es) ∙ is_some-on g (eq_by_cmp by_bytes c q) (find by_bytes q (rows es)) ∙ d.maps q;
    count = length-over c g es ∙ d.count;
  }

module _ (f : Form) (lot : LotView) (o : Table) where
  -- where rows stand for entries, the inode in the row of an entry's name stands for the entry's tree
  pub entry_reads : (rs : List DirRow) (h : ℕ) (c : List ℕ) (es : Entries) (u : Tree) → find by_bytes c (rows es) ≡ Some u
      → ReadsEach f lot o rs h es → Reads f lot o (inode_named c rs) h u
  entry_reads rs h c Nil u is r = absurd (None≢Some u is)
  entry_reads rs h c (Entry d t es) u is r =
      elim (eq_by_cmp by_bytes c d) as (λ b. eq_by_cmp by_bytes c d ≡ b → cond b (Some t) (find by_bytes c (rows es)) ≡ Some u
      → Reads f lot o (inode_named c rs) h u) [
        | true ↦ λ e is.
            subst (λ x. Reads f lot o (inode_named c rs) h x) (same_Some _ _ is) (subst (λ x. Reads f lot o (inode_named x rs) h t) (sym (same_name c d e)) r.0)
        | false ↦ λ e is. entry_reads rs h c es u is r.1
      ] refl is

  -- each part of a tree is read
  pub Reads-part : (q : List (List ℕ)) (i h : ℕ) (t s : Tree) → walk q t ≡ Found s → Reads f lot o i h t → Reads f lot o (inode_on f o i q) (h + length q) s
  Reads-part [] i h t s is r = subst (λ x. Reads f lot o i (h + 0) x) (same_Found _ _ is) (subst (λ x. Reads f lot o i x t) (zero_more h) r)
    where
      zero_more : (h : ℕ) → h ≡ h + 0
      zero_more h = omega arith
  Reads-part (c ∷ q) i h (File bytes) s is r = absurd (Found≢NotDir _ (sym is))
  Reads-part (c ∷ q) i h (Dir es) s is r =
      elim (find by_bytes c (rows es)) as (λ x. find by_bytes c (rows es) ≡ x → and_on (found_or_not x) (λ u. walk q u) ≡ Found s
      → Reads f lot o (inode_on f o i (c ∷ q)) (h + length (c ∷ q)) s) [
        | None ↦ λ e is. absurd (Found≢NotFound _ (sym is))
        | Some u ↦ λ e is.
            let deeper : (h + 1) + length q ≡ h + length (c ∷ q) = omega arith in
            subst (λ x. Reads f lot o (inode_on f o i (c ∷ q)) x s) deeper
            (Reads-part q (inode_named c (rows_in f (o i))) (h + 1) u s is (entry_reads (rows_in f (o i)) (h + 1) c es u e r.2))
      ] refl is

-- the tables agree at each inode that the whole uses oftener than the part
pub record SameOutside (o p : Table) (part whole : List ℕ) : Type 0 where
  pub at : (k : ℕ) → times part k < times whole k → p k ≡ o k

module _ (f : Form) (o p : Table) (rs : List DirRow) (c d : List ℕ) (t u : Tree) (es : Entries) where
  -- at the entry of the part, the rest of the entries is outside
  rest-outside : c ≡ d → t ≡ u
      → SameOutside o p (used_inodes f o (inode_named c rs) u) (used_inodes f o (inode_named d rs) t ++ inodes_in f o rs es) → SameAt o p (inodes_in f o rs es)
  rest-outside e is same =
      record { at = λ k h. same.at k (omega (arith, times-append (used_inodes f o (inode_named d rs) t) (inodes_in f o rs es) k, ap (λ x. times (used_inodes f o (inode_named x rs) u) k) e, ap (λ x. times (used_inodes f o (inode_named d rs) x) k) is)) }

  first-outside : find by_bytes c (rows es) ≡ Some u
      → SameOutside o p (used_inodes f o (inode_named c rs) u) (used_inodes f o (inode_named d rs) t ++ inodes_in f o rs es)
      → SameAt o p (used_inodes f o (inode_named d rs) t)
  first-outside is same =
      record { at = λ k h. same.at k (omega (arith, times-append (used_inodes f o (inode_named d rs) t) (inodes_in f o rs es) k, uses-entry f o (λ i. i ∷ []) k rs c es u is)) }

  later-outside : SameOutside o p (used_inodes f o (inode_named c rs) u) (used_inodes f o (inode_named d rs) t ++ inodes_in f o rs es)
      → SameOutside o p (used_inodes f o (inode_named c rs) u) (inodes_in f o rs es)
  later-outside same = record { at = λ k h. same.at k (omega (arith, times-append (used_inodes f o (inode_named d rs) t) (inodes_in f o rs es) k)) }

module _ (f : Form) (o p : Table) (i : ℕ) (c : List ℕ) (q : List (List ℕ)) (es : Entries) (u s : Tree) where
  top-outside : find by_bytes c (rows es) ≡ Some u → walk q u ≡ Found s
      → SameOutside o p (used_inodes f o (inode_on f o i (c ∷ q)) s) (used_inodes f o i (Dir es)) → p i ≡ o i
  top-outside e is same =
      same.at i
      (omega (arith, times-here i (inodes_in f o (rows_in f (o i)) es), uses-part f o (λ i. i ∷ []) i q (inode_named c (rows_in f (o i))) u s is, uses-entry f o (λ i. i ∷ []) i (rows_in f (o i)) c es u e))

  below-outside : find by_bytes c (rows es) ≡ Some u
      → SameOutside o p (used_inodes f o (inode_on f o i (c ∷ q)) s) (used_inodes f o i (Dir es))
      → SameOutside o p (used_inodes f o (inode_on f o (inode_named c (rows_in f (o i))) q) s) (used_inodes f o (inode_named c (rows_in f (o i))) u)
  below-outside e same =
      record { at = λ k h. same.at k (omega (arith, h, times-there k i (inodes_in f o (rows_in f (o i)) es), uses-entry f o (λ i. i ∷ []) k (rows_in f (o i)) c es u e)) }

  each-outside : walk q u ≡ Found s → SameOutside o p (used_inodes f o (inode_on f o i (c ∷ q)) s) (used_inodes f o i (Dir es))
      → SameOutside o p (used_inodes f o (inode_named c (rows_in f (o i))) u) (inodes_in f o (rows_in f (o i)) es)
  each-outside is same =
      record { at = λ k h. same.at k (omega (arith, h, times-there k i (inodes_in f o (rows_in f (o i)) es), uses-part f o (λ i. i ∷ []) k q (inode_named c (rows_in f (o i))) u s is)) }

module _ (f : Form) (lot : LotView) (o p : Table) where
  ReadsEach-over : (rs : List DirRow) (h : ℕ) (c : List ℕ) (g : Tree → Tree) (es : Entries) (u : Tree) → find by_bytes c (rows es) ≡ Some u
      → ReadsEach f lot o rs h es → Reads f lot p (inode_named c rs) h (g u)
      → SameOutside o p (used_inodes f o (inode_named c rs) u) (inodes_in f o rs es) → ReadsEach f lot p rs h (over_entry c g es)
  ReadsEach-over rs h c g Nil u is r new same = tt
  ReadsEach-over rs h c g (Entry d t es) u is r new same =
      elim (eq_by_cmp by_bytes c d) as (λ b. eq_by_cmp by_bytes c d ≡ b → cond b (Some t) (find by_bytes c (rows es)) ≡ Some u
      → ReadsEach f lot p rs h (cond b (Entry d (g t) es) (Entry d t (over_entry c g es)))) [
        | true ↦ λ e is. (
          subst (λ x. Reads f lot p (inode_named d rs) h (g x)) (sym (same_Some _ _ is))
              (subst (λ x. Reads f lot p (inode_named x rs) h (g u)) (same_name c d e) new),
          ReadsEach-frame f lot o p rs h es (rest-outside f o p rs c d t u es (same_name c d e) (same_Some _ _ is) same) r.1,
        )
        | false ↦ λ e is.
            (Reads-frame f lot o p (inode_named d rs) h t (first-outside f o p rs c d t u es is same) r.0, ReadsEach-over rs h c g es u is r.1 new (later-outside f o p rs c d t u es same))
      ] refl is

  -- what a changed part stands for gives what the whole stands for, where nothing outside the part moved
  pub Reads-at : (q : List (List ℕ)) (i h : ℕ) (g : Tree → Tree) (t s : Tree) → walk q t ≡ Found s → Reads f lot o i h t
      → Reads f lot p (inode_on f o i q) (h + length q) (g s)
      → SameOutside o p (used_inodes f o (inode_on f o i q) s) (used_inodes f o i t) → Reads f lot p i h (at q g t)
  Reads-at [] i h g t s is r new same =
      subst (λ x. Reads f lot p i x (g t)) (zero_more h) (subst (λ x. Reads f lot p i (h + 0) (g x)) (sym (same_Found _ _ is)) new)
    where
      zero_more : (h : ℕ) → h + 0 ≡ h
      zero_more h = omega arith
  Reads-at (c ∷ q) i h g (File bytes) s is r new same = absurd (Found≢NotDir _ (sym is))
  Reads-at (c ∷ q) i h g (Dir es) s is r new same =
      elim (find by_bytes c (rows es)) as (λ x. find by_bytes c (rows es) ≡ x → and_on (found_or_not x) (λ u. walk q u) ≡ Found s
      → Reads f lot p i h (Dir (over_entry c (λ u. at q g u) es))) [
        | None ↦ λ e is. absurd (Found≢NotFound _ (sym is))
        | Some u ↦ λ e is.
            let top : o i ≡ p i = sym (top-outside f o p i c q es u s e is same) in
            let deeper : h + length (c ∷ q) ≡ (h + 1) + length q = omega arith in
            let part : Reads f lot p (inode_named c (rows_in f (o i))) (h + 1) (at q g u) =
            Reads-at q (inode_named c (rows_in f (o i))) (h + 1) g u s is (entry_reads f lot o (rows_in f (o i)) (h + 1) c es u e r.2)
            (subst (λ x. Reads f lot p (inode_on f o (inode_named c (rows_in f (o i))) q) x (g s)) deeper new)
            (below-outside f o p i c q es u s e same) in (
              subst (λ x. IsInode f lot x i h) top r.0,
              IsDirInode-over f lot (p i) c (λ u. at q g u) es (subst (λ x. IsDirInode f lot x es) top r.1),
              subst (λ x. ReadsEach f lot p (rows_in f x) (h + 1) (over_entry c (λ u. at q g u) es)) top
                  (ReadsEach-over (rows_in f (o i)) (h + 1) c (λ u. at q g u) es u e r.2 part (each-outside f o p i c q es u s is same)),
            )
      ] refl is

-- how a sum over the used lists moves. `size` is a length, or how often a number stands in a list
module _ (f : Form) (o p : Table) (mine yours : ℕ → List ℕ) (alike : (k : ℕ) → p k ≡ o k → yours k ≡ mine k) (measure : List ℕ → ℕ)
    (adds : (xs ys : List ℕ) → measure (xs ++ ys) ≡ measure xs + measure ys) where
  uses_in-over : (rs : List DirRow) (c : List ℕ) (g : Tree → Tree) (es : Entries) (u : Tree) → find by_bytes c (rows es) ≡ Some u
      → SameOutside o p (used_inodes f o (inode_named c rs) u) (inodes_in f o rs es)
      → measure (entries_use f p yours rs (over_entry c g es)) + measure (tree_uses f o mine (inode_named c rs) u)
      ≡ measure (tree_uses f p yours (inode_named c rs) (g u)) + measure (entries_use f o mine rs es)
  uses_in-over rs c g Nil u is same = absurd (None≢Some u is)
  uses_in-over rs c g (Entry d t es) u is same =
      elim (eq_by_cmp by_bytes c d) as (λ b. eq_by_cmp by_bytes c d ≡ b → cond b (Some t) (find by_bytes c (rows es)) ≡ Some u
      → measure (entries_use f p yours rs (cond b (Entry d (g t) es) (Entry d t (over_entry c g es)))) + measure (tree_uses f o mine (inode_named c rs) u)
      ≡ measure (tree_uses f p yours (inode_named c rs) (g u)) + measure (tree_uses f o mine (inode_named d rs) t ++ entries_use f o mine rs es)) [
        | true ↦ λ e is.
            let k = same_name c d e in
            let v = same_Some _ _ is in
            omega (
              arith,
              adds (tree_uses f p yours (inode_named d rs) (g t)) (entries_use f p yours rs es),
              adds (tree_uses f o mine (inode_named d rs) t) (entries_use f o mine rs es),
              ap measure (uses_in-frame f o p mine yours alike rs es (rest-outside f o p rs c d t u es k v same)),
              ap (λ x. measure (tree_uses f p yours (inode_named d rs) (g x))) v,
              ap (λ x. measure (tree_uses f p yours (inode_named x rs) (g u))) k,
              ap (λ x. measure (tree_uses f o mine (inode_named d rs) x)) v,
              ap (λ x. measure (tree_uses f o mine (inode_named x rs) u)) k,
            )
        | false ↦ λ e is.
            omega (
              arith,
              adds (tree_uses f p yours (inode_named d rs) t) (entries_use f p yours rs (over_entry c g es)),
              adds (tree_uses f o mine (inode_named d rs) t) (entries_use f o mine rs es),
              ap measure (uses-frame f o p mine yours alike (inode_named d rs) t (first-outside f o p rs c d t u es is same)),
              uses_in-over rs c g es u is (later-outside f o p rs c d t u es same),
            )
      ] refl is

  -- where the part at a walk's end changed, the whole tree uses more or less by what that part does
  pub uses-at : (q : List (List ℕ)) (i : ℕ) (g : Tree → Tree) (t s : Tree) → walk q t ≡ Found s
      → SameOutside o p (used_inodes f o (inode_on f o i q) s) (used_inodes f o i t)
      → measure (tree_uses f p yours i (at q g t)) + measure (tree_uses f o mine (inode_on f o i q) s)
      ≡ measure (tree_uses f p yours (inode_on f o i q) (g s)) + measure (tree_uses f o mine i t)
  uses-at [] i g t s is same =
      subst (λ x. measure (tree_uses f p yours i (g t)) + measure (tree_uses f o mine i x) ≡ measure
      (tree_uses f p yours i (g x)) + measure (tree_uses f o mine i t)) (same_Found _ _ is) refl
  uses-at (c ∷ q) i g (File bytes) s is same = absurd (Found≢NotDir _ (sym is))
  uses-at (c ∷ q) i g (Dir es) s is same =
      elim (find by_bytes c (rows es)) as (λ x. find by_bytes c (rows es) ≡ x → and_on (found_or_not x) (λ u. walk q u) ≡ Found s
      → measure (yours i ++ entries_use f p yours (rows_in f (p i)) (over_entry c (λ u. at q g u) es)) + measure (tree_uses f o mine (inode_on f o i (c ∷ q)) s) ≡ measure (tree_uses f p yours (inode_on f o i (c ∷ q)) (g s)) + measure (mine i ++ entries_use f o mine (rows_in f (o i)) es)) [
        | None ↦ λ e is. absurd (Found≢NotFound _ (sym is))
        | Some u ↦ λ e is.
            let top : p i ≡ o i = top-outside f o p i c q es u s e is same in
            omega (
              arith,
              adds (yours i) (entries_use f p yours (rows_in f (p i)) (over_entry c (λ u. at q g u) es)),
              adds (mine i) (entries_use f o mine (rows_in f (o i)) es),
              ap measure (alike i top),
              ap (λ x. measure (entries_use f p yours (rows_in f x) (over_entry c (λ u. at q g u) es))) top,
              uses_in-over (rows_in f (o i)) c (λ u. at q g u) es u e (each-outside f o p i c q es u s is same),
              uses-at q (inode_named c (rows_in f (o i))) g u s is (below-outside f o p i c q es u s e same),
            )
      ] refl is
