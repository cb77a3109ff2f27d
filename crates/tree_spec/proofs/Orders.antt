-- Each operation keeps the names of each directory in order.
use Rattle.std.proofs.Common.{◌≡◌, ℕ, Bool, true, false, cond, T, List, [], ◌∷◌, Some, None, sym, refl, ap, subst}
use Rattle.std.specs.Prelude.{not, ◌&&◌, filter, is_some}
use Rattle.std.specs.Ordering.{is_lt}
use Rattle.std.specs.Cmp.Lexicographic.{nat_list_cmp_total}
use Rattle.std.specs.FinMap.{find, put, is_sorted}
use Rattle.std.specs.declared.cmp.Ordering.TheVariants.{Less, Equal, Greater}
use Rattle.std.specs.FinMap.Entries.{by_order, below_all, is_sorted-put, is_sorted-where_key}
use Rattle.tree_spec.specs.Trees.{Tree, File, Dir, Entries, Nil, Entry, rows, from_rows, by_bytes, found_or_not, walk, and_on, at, over_entry, with_entry, without, without_entry, parent, last_name, is_ordered, all_ordered}
use Rattle.tree_spec.specs.Routes.{is_same_name, is_same_path}
use Rattle.tree_spec.specs.Operations.{Operation, Mkdir, Make, Write, Read, Trunc, Remove, Rename, ListDir, Stat}
use Rattle.tree_spec.specs.Answers.{next_tree, moved_tree, tree_found, tree_after}
use Rattle.tree_spec.proofs.Trees.{from_rows-rows, rows-from_rows}

both : (a b : Bool) → T a → T b → T (a && b)
both true b p q = q
both false b p q = p

left : (a b : Bool) → T (a && b) → T a
left true b p = tt
left false b p = p

right : (a b : Bool) → T (a && b) → T b
right true b p = p
right false b p = absurd p

below_all-over : (x c : List ℕ) (g : Tree → Tree) (es : Entries) → below_all by_bytes x (rows (over_entry c g es)) ≡ below_all by_bytes x (rows es)
below_all-over x c g Nil = refl
below_all-over x c g (Entry d t es) =
    elim (is_same_name c d) as (λ b. below_all by_bytes x
    (rows (cond b (Entry d (g t) es) (Entry d t (over_entry c g es)))) ≡ below_all by_bytes x ((d, t) ∷ rows es)) [
      | true ↦ refl
      | false ↦ ap (λ b. is_lt (by_bytes x d) && b) (below_all-over x c g es)
    ]

-- a change of an entry's tree leaves the names
pub is_sorted-over : (c : List ℕ) (g : Tree → Tree) (es : Entries) → is_sorted by_bytes (rows (over_entry c g es)) ≡ is_sorted by_bytes (rows es)
is_sorted-over c g Nil = refl
is_sorted-over c g (Entry d t es) =
    elim (is_same_name c d) as (λ b. is_sorted by_bytes
    (rows (cond b (Entry d (g t) es) (Entry d t (over_entry c g es)))) ≡ (below_all by_bytes d (rows es) && is_sorted by_bytes (rows es))) [
      | true ↦ refl
      | false ↦ λ i. below_all-over d c g es i && is_sorted-over c g es i
    ]

abbrev pub KeepsOrder : (Tree → Tree) → Type 0
KeepsOrder g = (t : Tree) → T (is_ordered t) → T (is_ordered (g t))

all_ordered-over : (c : List ℕ) (g : Tree → Tree) (es : Entries) → KeepsOrder g → T (all_ordered es) → T (all_ordered (over_entry c g es))
all_ordered-over c g Nil k h = tt
all_ordered-over c g (Entry d t es) k h =
    elim (is_same_name c d) as (λ b. T (all_ordered (cond b (Entry d (g t) es) (Entry d t (over_entry c g es))))) [
      | true ↦ both _ _ (k t (left _ _ h)) (right _ _ h)
      | false ↦ both _ _ (left _ _ h) (all_ordered-over c g es k (right _ _ h))
    ]

-- a change at a path that keeps the order there keeps the order of the tree
pub is_ordered-at : (p : List (List ℕ)) (g : Tree → Tree) → KeepsOrder g → KeepsOrder (at p g)
is_ordered-at [] g k t h = k t h
is_ordered-at (c ∷ p) g k (File bytes) h = tt
is_ordered-at (c ∷ p) g k (Dir es) h =
    both _ _ (subst T (sym (is_sorted-over c (λ u. at p g u) es)) (left _ _ h)) (all_ordered-over c (λ u. at p g u) es (is_ordered-at p g k) (right _ _ h))

all_ordered-with : (c : List ℕ) (s : Tree) (es : Entries) → T (is_ordered s) → T (all_ordered es) → T (all_ordered (from_rows (put by_bytes c s (rows es))))
all_ordered-with c s Nil k h = both _ _ k tt
all_ordered-with c s (Entry d t es) k h =
    elim (by_bytes c d) as (λ r. T
    (all_ordered (from_rows (by_order r ((c, s) ∷ (d, t) ∷ rows es) ((d, s) ∷ rows es) ((d, t) ∷ put by_bytes c s (rows es)))))) [
      | Less ↦ both _ _ k (both _ _ (left _ _ h) (same es (right _ _ h)))
      | Equal ↦ both _ _ k (same es (right _ _ h))
      | Greater ↦ both _ _ (left _ _ h) (all_ordered-with c s es k (right _ _ h))
    ]
  where
    same : (es : Entries) → T (all_ordered es) → T (all_ordered (from_rows (rows es)))
    same es h = subst (λ y. T (all_ordered y)) (sym (from_rows-rows es)) h

all_ordered-without : (c : List ℕ) (es : Entries) → T (all_ordered es) → T (all_ordered (without c es))
all_ordered-without c Nil h = tt
all_ordered-without c (Entry d t es) h =
    elim (is_same_name c d) as (λ b. T
    (all_ordered
    (from_rows (cond (not b) ((d, t) ∷ filter (λ e. not (is_same_name c e.0)) (rows es)) (filter (λ e. not (is_same_name c e.0)) (rows es)))))) [
      | true ↦ all_ordered-without c es (right _ _ h)
      | false ↦ both _ _ (left _ _ h) (all_ordered-without c es (right _ _ h))
    ]

pub is_ordered-with : (c : List ℕ) (s : Tree) → T (is_ordered s) → KeepsOrder (with_entry c s)
is_ordered-with c s k (File bytes) h = tt
is_ordered-with c s k (Dir es) h =
    both _ _ (subst (λ y. T (is_sorted by_bytes y)) (sym (rows-from_rows (put by_bytes c s (rows es))))
    (is_sorted-put by_bytes nat_list_cmp_total c s (rows es) (left _ _ h)))
    (all_ordered-with c s es k (right _ _ h))

pub is_ordered-without : (c : List ℕ) → KeepsOrder (without_entry c)
is_ordered-without c (File bytes) h = tt
is_ordered-without c (Dir es) h =
    both _ _ (subst (λ y. T (is_sorted by_bytes y)) (sym (rows-from_rows (filter (λ e. not (is_same_name c e.0)) (rows es))))
    (is_sorted-where_key by_bytes (λ x. not (is_same_name c x)) (rows es) (left _ _ h)))
    (all_ordered-without c es (right _ _ h))

ordered-find : (c : List ℕ) (es : Entries) (u : Tree) → T (all_ordered es) → find by_bytes c (rows es) ≡ Some u → T (is_ordered u)
ordered-find c Nil u h is = absurd (subst T (sym (ap is_some is)) tt)
ordered-find c (Entry d t es) u h is =
    elim (is_same_name c d) as (λ b. cond b (Some t) (find by_bytes c (rows es)) ≡ Some u → T (is_ordered u)) [
      | true ↦ λ i. subst (λ x. T (is_ordered x)) (same t u i) (left _ _ h)
      | false ↦ λ i. ordered-find c es u (right _ _ h) i
    ] is
  where
    same : (t u : Tree) → Some t ≡ Some u → t ≡ u
    same t u e = cc

-- each tree that a walk finds is in order
pub ordered-walk : (p : List (List ℕ)) (t : Tree) → T (is_ordered t) → T (is_ordered (tree_found (walk p t)))
ordered-walk [] t h = h
ordered-walk (c ∷ p) (File bytes) h = tt
ordered-walk (c ∷ p) (Dir es) h =
    elim (find by_bytes c (rows es)) as (λ o. find by_bytes c (rows es) ≡ o → T (is_ordered (tree_found (and_on (found_or_not o) (λ u. walk p u))))) [
      | None ↦ λ e. tt
      | Some u ↦ λ e. ordered-walk p u (ordered-find c es u (right _ _ h) e)
    ] refl

-- each operation keeps the order
pub is_ordered-next : (op : Operation) → KeepsOrder (next_tree op)
is_ordered-next (Mkdir p) t h = is_ordered-at (parent p) _ (is_ordered-with (last_name p) (Dir Nil) tt) t h
is_ordered-next (Make p) t h = is_ordered-at (parent p) _ (is_ordered-with (last_name p) (File []) tt) t h
is_ordered-next (Write p off bytes) t h = is_ordered-at p _ (λ s k. tt) t h
is_ordered-next (Read p off len) t h = h
is_ordered-next (Trunc p len) t h = is_ordered-at p _ (λ s k. tt) t h
is_ordered-next (Remove p) t h = is_ordered-at (parent p) _ (is_ordered-without (last_name p)) t h
is_ordered-next (Rename p q) t h =
    elim (is_same_path p q) as (λ b. T (is_ordered (cond b t (moved_tree p q t)))) [
      | true ↦ h
      | false ↦ is_ordered-at (parent q) _ (is_ordered-with (last_name q) (tree_found (walk p t)) (ordered-walk p t h)) _
          (is_ordered-at (parent p) _ (is_ordered-without (last_name p)) t h)
    ]
is_ordered-next (ListDir p) t h = h
is_ordered-next (Stat p) t h = h

-- and so does a list of them
pub is_ordered-tree_after : (ops : List Operation) → KeepsOrder (tree_after ops)
is_ordered-tree_after [] t h = h
is_ordered-tree_after (op ∷ ops) t h = is_ordered-tree_after ops (next_tree op t) (is_ordered-next op t h)
