-- Walks through trees that were changed at one place.
use Rattle.std.proofs.Common.{◌≡◌, ℕ, Bool, true, false, cond, T, List, [], ◌∷◌, ◌++◌, Some, None, Option, sym, refl, ap, ◌∙◌, subst}
use Rattle.std.specs.Prelude.{not, ◌&&◌, filter}
use Rattle.std.specs.Ordering.{eq_by_cmp, is_eq}
use Rattle.std.specs.Cmp.{alike_right, eq_by_cmp_equiv}
use Rattle.std.specs.Cmp.Lexicographic.{nat_list_cmp_total}
use Rattle.std.specs.FinMap.{find, is_sorted, slice_cmp-IsAntisymmetric, nat_cmp-IsAntisymmetric}
use Rattle.std.specs.declared.cmp.Ordering.{Ordering}
use Rattle.std.specs.declared.cmp.Ordering.TheVariants.{Less, Equal, Greater}
use Rattle.std.specs.FinMap.Entries.{find-where_key, same_entries}
use Rattle.tree_spec.specs.Trees.{Tree, File, Dir, Entries, Nil, Entry, rows, from_rows, by_bytes, child, found_or_not, walk, and_on, Walk, Found, NotFound, NotDir, at, over_entry, without, without_entry, parent, last_name}
use Rattle.tree_spec.specs.Routes.{is_prefix, is_same_name}

-- ---- entries as lists

-- entries made of rows have these rows
pub rows-from_rows : (es : List (List ℕ × Tree)) → rows (from_rows es) ≡ es
rows-from_rows [] = refl
rows-from_rows (e ∷ es) = ap (λ xs. e ∷ xs) (rows-from_rows es)

-- the rows of entries make these entries
pub from_rows-rows : (es : Entries) → from_rows (rows es) ≡ es
from_rows-rows Nil = refl
from_rows-rows (Entry c t es) = ap (λ xs. Entry c t xs) (from_rows-rows es)

-- directories that have the same tree under each name are equal
pub same_look_ups : (es fs : Entries) → T (is_sorted by_bytes (rows es)) → T (is_sorted by_bytes (rows fs))
    → ((c : List ℕ) → find by_bytes c (rows es) ≡ find by_bytes c (rows fs)) → es ≡ fs
same_look_ups es fs g h is =
    sym (from_rows-rows es) ∙ ap from_rows
    (same_entries by_bytes nat_list_cmp_total (slice_cmp-IsAntisymmetric nat_cmp-IsAntisymmetric) (rows es) (rows fs) g h is) ∙ from_rows-rows fs

-- ---- names

tie : (r : Ordering) → is_eq r ≡ true → r ≡ Equal
tie Less e = absurd (subst T (sym e) tt)
tie Equal e = refl
tie Greater e = absurd (subst T (sym e) tt)

-- names that the order doesn't tell apart are equal
pub same_name : (c d : List ℕ) → is_same_name c d ≡ true → c ≡ d
same_name c d e = slice_cmp-IsAntisymmetric nat_cmp-IsAntisymmetric c d (tie (by_bytes c d) e)

-- a name is the same as itself
pub is_same_name-refl : (c : List ℕ) → is_same_name c c ≡ true
is_same_name-refl c = (eq_by_cmp_equiv nat_list_cmp_total).refl c

-- two names are the same either way
pub is_same_name-sym : (c d : List ℕ) → is_same_name c d ≡ is_same_name d c
is_same_name-sym c d = (eq_by_cmp_equiv nat_list_cmp_total).symm c d

-- ---- one name

alike : (c q x : List ℕ) → by_bytes q x ≡ Equal → not (eq_by_cmp by_bytes c x) ≡ not (eq_by_cmp by_bytes c q)
alike c q x t = ap (λ r. not (is_eq r)) (sym (alike_right nat_list_cmp_total q x c t))

turned : (b : Bool) (x : Option Tree) → cond (not b) x None ≡ cond b None x
turned true x = refl
turned false x = refl

-- what a directory has under the name d after the entry of c went
pub find-without : (c d : List ℕ) (es : Entries) → find by_bytes d (rows (without c es)) ≡ cond (is_same_name c d) None (find by_bytes d (rows es))
find-without c d es =
    ap (find by_bytes d) (rows-from_rows (filter (λ e. not (eq_by_cmp by_bytes c e.0)) (rows es)))
    ∙ find-where_key by_bytes (λ x. not (eq_by_cmp by_bytes c x)) d (λ x t. alike c d x t) (rows es) ∙ turned (is_same_name c d) (find by_bytes d (rows es))

gone_cond : (b : Bool) (o : Option Tree) → found_or_not (cond b None o) ≡ cond b NotFound (found_or_not o)
gone_cond true o = refl
gone_cond false o = refl

-- a child of a directory without one entry
pub child-without_entry : (c d : List ℕ) (es : Entries) → child d (without_entry c (Dir es)) ≡ cond (is_same_name c d) NotFound (child d (Dir es))
child-without_entry c d es = ap found_or_not (find-without c d es) ∙ gone_cond (is_same_name c d) (find by_bytes d (rows es))

-- ---- walks of several names

and_on-walk : (w : Walk) (p q : List (List ℕ)) → and_on w (λ u. and_on (walk p u) (λ v. walk q v)) ≡ and_on (and_on w (λ u. walk p u)) (λ v. walk q v)
and_on-walk (Found t) p q = refl
and_on-walk NotFound p q = refl
and_on-walk NotDir p q = refl

and_on-same : (w : Walk) (go on : Tree → Walk) → ((t : Tree) → go t ≡ on t) → and_on w go ≡ and_on w on
and_on-same (Found t) go on h = h t
and_on-same NotFound go on h = refl
and_on-same NotDir go on h = refl

-- a walk goes name by name
pub walk-append : (p q : List (List ℕ)) (t : Tree) → walk (p ++ q) t ≡ and_on (walk p t) (λ u. walk q u)
walk-append [] q t = refl
walk-append (c ∷ p) q t =
    and_on-same (child c t) (λ u. walk (p ++ q) u) (λ u. and_on (walk p u) (λ v. walk q v)) (λ u. walk-append p q u) ∙ and_on-walk (child c t) p q

-- a walk that found a tree goes on from there
pub walk-on : (p q : List (List ℕ)) (t s : Tree) → walk p t ≡ Found s → walk (p ++ q) t ≡ walk q s
walk-on p q t s h = walk-append p q t ∙ ap (λ w. and_on w (λ u. walk q u)) h

-- what g makes of the tree that was found
abbrev pub on_found : (Tree → Tree) → Walk → Walk
on_found g (Found t) = Found (g t)
on_found g NotFound = NotFound
on_found g NotDir = NotDir

-- what is there is changed, and nothing else
abbrev pub on_some : (Tree → Tree) → Option Tree → Option Tree
on_some g None = None
on_some g (Some t) = Some (g t)

-- what a directory has under the name d after g changed the tree of c
pub find-over : (c d : List ℕ) (g : Tree → Tree) (es : Entries)
    → find by_bytes d (rows (over_entry c g es)) ≡ cond (is_same_name c d) (on_some g (find by_bytes d (rows es))) (find by_bytes d (rows es))
find-over c d g Nil =
    elim (is_same_name c d) as (λ b. find by_bytes d (rows Nil) ≡ cond b (on_some g (find by_bytes d (rows Nil)))
    (find by_bytes d (rows Nil))) [ true ↦ refl | false ↦ refl ]
find-over c d g (Entry x t es) =
    elim (is_same_name c x) as (λ b. is_same_name c x ≡ b
    → find by_bytes d (rows (cond b (Entry x (g t) es) (Entry x t (over_entry c g es))))
    ≡ cond (is_same_name c d) (on_some g (cond (is_same_name d x) (Some t) (find by_bytes d (rows es)))) (cond (is_same_name d x) (Some t) (find by_bytes d (rows es)))) [
      | true ↦ λ e.
          elim (is_same_name d x) as (λ y. is_same_name d x ≡ y
          → cond y (Some (g t)) (find by_bytes d (rows es))
          ≡ cond (is_same_name c d) (on_some g (cond y (Some t) (find by_bytes d (rows es)))) (cond y (Some t) (find by_bytes d (rows es)))) [
            | true ↦ λ i.
                ap (λ b. cond b (Some (g t)) (Some t)) (sym (is_same_name-refl d) ∙ ap (λ z. is_same_name z d) (same_name d x i ∙ sym (same_name c x e)))
            | false ↦ λ i.
                ap (λ b. cond b (on_some g (find by_bytes d (rows es))) (find by_bytes d (rows es)))
                (sym i ∙ ap (λ z. is_same_name d z) (sym (same_name c x e)) ∙ is_same_name-sym d c)
          ] refl
      | false ↦ λ e.
          elim (is_same_name d x) as (λ y. is_same_name d x ≡ y
          → cond y (Some t) (find by_bytes d (rows (over_entry c g es)))
          ≡ cond (is_same_name c d) (on_some g (cond y (Some t) (find by_bytes d (rows es)))) (cond y (Some t) (find by_bytes d (rows es)))) [
            | true ↦ λ i. ap (λ b. cond b (Some (g t)) (Some t)) (sym e ∙ ap (λ z. is_same_name c z) (sym (same_name d x i)))
            | false ↦ λ i. find-over c d g es
          ] refl
    ] refl

-- what it has under c itself
pub find-over_same : (c : List ℕ) (g : Tree → Tree) (es : Entries) → find by_bytes c (rows (over_entry c g es)) ≡ on_some g (find by_bytes c (rows es))
find-over_same c g es = find-over c c g es ∙ ap (λ b. cond b (on_some g (find by_bytes c (rows es))) (find by_bytes c (rows es))) (is_same_name-refl c)

step_at : (o : Option Tree) (h : Tree → Tree) (go on : Tree → Walk) → ((u : Tree) → go (h u) ≡ on u)
    → and_on (found_or_not (on_some h o)) go ≡ and_on (found_or_not o) on
step_at None h go on is = refl
step_at (Some u) h go on is = is u

-- below the place of a change the walk goes on in the changed tree
pub walk-at : (p q : List (List ℕ)) (g : Tree → Tree) (t : Tree) → walk (p ++ q) (at p g t) ≡ and_on (walk p t) (λ u. walk q (g u))
walk-at [] q g t = refl
walk-at (c ∷ p) q g (File bytes) = refl
walk-at (c ∷ p) q g (Dir es) =
    ap (λ o. and_on (found_or_not o) (λ u. walk (p ++ q) u)) (find-over_same c (λ u. at p g u) es)
    ∙ step_at (find by_bytes c (rows es)) (λ u. at p g u) (λ u. walk (p ++ q) u) (λ u. and_on (walk p u) (λ v. walk q (g v))) (λ u. walk-at p q g u)
    ∙ and_then (found_or_not (find by_bytes c (rows es)))
  where
    and_then : (w : Walk) → and_on w (λ u. and_on (walk p u) (λ v. walk q (g v))) ≡ and_on (and_on w (λ u. walk p u)) (λ v. walk q (g v))
    and_then (Found u) = refl
    and_then NotFound = refl
    and_then NotDir = refl

not_both : (x y : Bool) → (x && y) ≡ false → x ≡ true → y ≡ false
not_both true y h e = h
not_both false y h e = absurd (subst T (sym e) tt)

-- ---- what stays where an entry goes

-- a walk's end, without the entries of a directory that was found
abbrev pub outline : Walk → Walk
outline (Found (File bytes)) = Found (File bytes)
outline (Found (Dir es)) = Found (Dir Nil)
outline NotFound = NotFound
outline NotDir = NotDir

outline_step : (o : Option Tree) (h : Tree → Tree) (go on : Tree → Walk) → ((u : Tree) → outline (go (h u)) ≡ outline (on u))
    → outline (and_on (found_or_not (on_some h o)) go) ≡ outline (and_on (found_or_not o) on)
outline_step None h go on is = refl
outline_step (Some u) h go on is = is u

false_of : (x : Bool) → (x && true) ≡ false → x ≡ false
false_of true h = h
false_of false h = refl

-- every walk that isn't through the entry that goes ends as before, but for the entries of the directory found
pub outline-without : (p : List (List ℕ)) (c : List ℕ) (q : List (List ℕ)) (t : Tree) → is_prefix (p ++ c ∷ []) q ≡ false
    → outline (walk q (at p (without_entry c) t)) ≡ outline (walk q t)
outline-without [] c [] (File bytes) h = refl
outline-without [] c [] (Dir es) h = refl
outline-without [] c (d ∷ q) (File bytes) h = refl
outline-without [] c (d ∷ q) (Dir es) h =
    ap (λ w. outline (and_on w (λ u. walk q u))) (child-without_entry c d es ∙ ap (λ b. cond b NotFound (child d (Dir es))) (false_of (is_same_name c d) h))
outline-without (x ∷ p) c [] (File bytes) h = refl
outline-without (x ∷ p) c [] (Dir es) h = refl
outline-without (x ∷ p) c (d ∷ q) (File bytes) h = refl
outline-without (x ∷ p) c (d ∷ q) (Dir es) h =
    ap (λ o. outline (and_on (found_or_not o) (λ u. walk q u))) (find-over x d (λ u. at p (without_entry c) u) es)
    ∙ elim (is_same_name x d) as (λ b. is_same_name x d ≡ b
    → outline (and_on (found_or_not (cond b (on_some (λ u. at p (without_entry c) u) (find by_bytes d (rows es))) (find by_bytes d (rows es)))) (λ u. walk q u)) ≡ outline (and_on (found_or_not (find by_bytes d (rows es))) (λ u. walk q u))) [
      | true ↦ λ e. outline_step (find by_bytes d (rows es)) (λ u. at p (without_entry c) u) (λ u. walk q u) (λ u. walk q u)
          (λ u. outline-without p c q u (not_both (is_same_name x d) _ h e))
      | false ↦ λ e. refl
    ] refl

-- a path that isn't the root is its parent's with its last name
pub parent-last : (c : List ℕ) (p : List (List ℕ)) → parent (c ∷ p) ++ last_name (c ∷ p) ∷ [] ≡ c ∷ p
parent-last c [] = refl
parent-last c (d ∷ p) = ap (λ q. c ∷ q) (parent-last d p)
