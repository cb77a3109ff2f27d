-- What a change at one place does to the height of a tree, to the sums over it, and to the order of its names.
use Rattle.std.proofs.Common.{◌≡◌, ℕ, suc, ◌+◌, ◌≤◌, Bool, true, false, cond, T, List, [], ◌∷◌, length, Some, None, Option, sym, refl, ap, ◌∙◌, subst, arith}
use Rattle.std.specs.Prelude.{not, ◌&&◌, filter, is_some, max}
use Rattle.std.specs.Ordering.{is_eq, is_lt}
use Rattle.std.specs.FinMap.{find, put, is_sorted}
use Rattle.std.specs.declared.cmp.Ordering.{Ordering}
use Rattle.std.specs.declared.cmp.Ordering.TheVariants.{Less, Equal, Greater}
use Rattle.std.specs.FinMap.Entries.{by_order, below_all}
use Rattle.tree_spec.specs.Trees.{Tree, File, Dir, Entries, Nil, Entry, rows, from_rows, by_bytes, found_or_not, walk, and_on, Found, NotFound, NotDir, at, over_entry, with_entry, without, without_entry, height, height_in, total, total_in}
use Rattle.tree_spec.specs.Routes.{is_same_name}
use Rattle.tree_spec.proofs.Trees.{from_rows-rows, same_name}

-- an entry of another name, at the head of the rows
not_here : (b : Bool) (t u : Tree) (rest : Option Tree) → b ≡ false → cond b (Some t) rest ≡ Some u → rest ≡ Some u
not_here b t u rest h e = ap (λ x. cond x (Some t) rest) (sym h) ∙ e

some_same : (t u : Tree) → Some t ≡ Some u → t ≡ u
some_same t u e = cc

-- ---- the number of entries

-- an entry put over another leaves as many
pub length-over : (c : List ℕ) (g : Tree → Tree) (es : Entries) → length (rows (over_entry c g es)) ≡ length (rows es)
length-over c g Nil = refl
length-over c g (Entry d t es) =
    elim (is_same_name c d) as (λ b. length (rows (cond b (Entry d (g t) es) (Entry d t (over_entry c g es)))) ≡ suc
    (length (rows es))) [ true ↦ refl | false ↦ ap suc (length-over c g es) ]

-- a new name is one entry more
pub length-with_new : (c : List ℕ) (s : Tree) (es : Entries) → find by_bytes c (rows es) ≡ None
    → length (rows (from_rows (put by_bytes c s (rows es)))) ≡ length (rows es) + 1
length-with_new c s Nil h = refl
length-with_new c s (Entry d t es) h =
    elim (by_bytes c d) as (λ r. cond (is_eq r) (Some t) (find by_bytes c (rows es)) ≡ None
    → length (rows (from_rows (by_order r ((c, s) ∷ (d, t) ∷ rows es) ((d, s) ∷ rows es) ((d, t) ∷ put by_bytes c s (rows es)))))
    ≡ suc (length (rows es)) + 1) [
      | Less ↦ λ is. omega (arith, ap (λ x. length (rows x)) (from_rows-rows es))
      | Equal ↦ λ is. absurd (subst T (ap is_some is) tt)
      | Greater ↦ λ is. omega (arith, length-with_new c s es is)
    ] h

-- ---- heights

height_in-over : (c : List ℕ) (g : Tree → Tree) (es : Entries) (u : Tree) → find by_bytes c (rows es) ≡ Some u
    → height_in (over_entry c g es) ≤ max (height_in es) (height (g u) + 1)
height_in-over c g Nil u h = absurd (subst T (sym (ap is_some h)) tt)
height_in-over c g (Entry d t es) u h =
    elim (is_same_name c d) as (λ b. cond b (Some t) (find by_bytes c (rows es)) ≡ Some u
    → height_in (cond b (Entry d (g t) es) (Entry d t (over_entry c g es))) ≤ max (max (height t + 1) (height_in es)) (height (g u) + 1)) [
      | true ↦ λ is.
          subst (λ x. max (height (g t) + 1) (height_in es) ≤ max (max (height t + 1) (height_in es)) (height (g x) + 1)) (some_same _ _ is) (omega arith)
      | false ↦ λ is. omega (arith, height_in-over c g es u is)
    ] h

-- what stands under a name is lower than the directory
pub height-child : (c : List ℕ) (es : Entries) (u : Tree) → find by_bytes c (rows es) ≡ Some u → height u + 1 ≤ height_in es
height-child c Nil u h = absurd (subst T (sym (ap is_some h)) tt)
height-child c (Entry d t es) u h =
    elim (is_same_name c d) as (λ b. cond b (Some t) (find by_bytes c (rows es)) ≡ Some u → height u + 1 ≤ max (height t + 1) (height_in es)) [
      | true ↦ λ is. subst (λ x. height x + 1 ≤ max (height t + 1) (height_in es)) (some_same _ _ is) (omega arith)
      | false ↦ λ is. omega (arith, height-child c es u is)
    ] h

found_same : (t u : Tree) → Found t ≡ Found u → t ≡ u
found_same t u e = cc

dir_found : {A : Type 0} (s : Tree) → NotDir ≡ Found s → A
dir_found s e = absurd (cc)

-- where a walk goes through a directory, it goes through an entry
abbrev Through : List ℕ → List (List ℕ) → Entries → Tree → Type 0
Through c p es s = (u : Tree) × (find by_bytes c (rows es) ≡ Some u) × (walk p u ≡ Found s)

through : (c : List ℕ) (p : List (List ℕ)) (es : Entries) (s : Tree) → walk (c ∷ p) (Dir es) ≡ Found s → Through c p es s
through c p es s h =
    elim (find by_bytes c (rows es)) as (λ o. find by_bytes c (rows es) ≡ o → and_on (found_or_not o) (λ u. walk p u) ≡ Found s → Through c p es s) [
      | None ↦ λ e is. absurd (nothing is)
      | Some u ↦ λ e is. (u, e, is)
    ] refl h
  where
    nothing : NotFound ≡ Found s → ⊥
    nothing e = cc

-- the tree at a path stands no higher than the whole leaves room for
pub height-walk : (p : List (List ℕ)) (t s : Tree) → walk p t ≡ Found s → length p + height s ≤ height t
height-walk [] t s h = omega (arith, ap height (found_same _ _ h))
height-walk (c ∷ p) (File bytes) s h = dir_found s h
height-walk (c ∷ p) (Dir es) s h = let w = through c p es s h in omega (arith, height-child c es w.0 w.1, height-walk p w.0 s w.2)

-- a change at a path makes the tree as high as it was, or as what stands there now
pub height-at : (p : List (List ℕ)) (g : Tree → Tree) (t s : Tree) → walk p t ≡ Found s → height (at p g t) ≤ max (height t) (length p + height (g s))
height-at [] g t s h = subst (λ x. height (g t) ≤ max (height t) (0 + height (g x))) (found_same _ _ h) (omega arith)
height-at (c ∷ p) g (File bytes) s h = dir_found s h
height-at (c ∷ p) g (Dir es) s h =
    let w = through c p es s h in
    omega (arith, height_in-over c (λ u. at p g u) es w.0 w.1, height-at p g w.0 s w.2, height-child c es w.0 w.1)

-- a directory with one entry more
pub height-with : (c : List ℕ) (s : Tree) (es : Entries) → height_in (from_rows (put by_bytes c s (rows es))) ≤ max (height_in es) (height s + 1)
height-with c s Nil = omega arith
height-with c s (Entry d t es) =
    elim (by_bytes c d) as (λ r. height_in (from_rows
    (by_order r ((c, s) ∷ (d, t) ∷ rows es) ((d, s) ∷ rows es) ((d, t) ∷ put by_bytes c s (rows es)))) ≤ max (max (height t + 1)
    (height_in es)) (height s + 1)) [
      | Less ↦ omega (arith, ap height_in (from_rows-rows es))
      | Equal ↦ omega (arith, ap height_in (from_rows-rows es))
      | Greater ↦ omega (arith, height-with c s es)
    ]

-- a directory without an entry
pub height-without : (c : List ℕ) (es : Entries) → height_in (without c es) ≤ height_in es
height-without c Nil = omega arith
height-without c (Entry d t es) =
    elim (is_same_name c d) as (λ b. height_in (from_rows
    (cond (not b) ((d, t) ∷ filter (λ e. not (is_same_name c e.0)) (rows es))
    (filter (λ e. not (is_same_name c e.0)) (rows es)))) ≤ max (height t + 1) (height_in es)) [
      | true ↦ omega (arith, height-without c es)
      | false ↦ omega (arith, height-without c es)
    ]

-- ---- sums

module _ (file : List ℕ → ℕ) (dir : ℕ → ℕ) where
  total_in-with_new : (c : List ℕ) (s : Tree) (es : Entries) → find by_bytes c (rows es) ≡ None
      → total_in file dir (from_rows (put by_bytes c s (rows es))) ≡ total file dir s + total_in file dir es
  total_in-with_new c s Nil h = refl
  total_in-with_new c s (Entry d t es) h =
      elim (by_bytes c d) as (λ r. cond (is_eq r) (Some t) (find by_bytes c (rows es)) ≡ None
      → total_in file dir (from_rows (by_order r ((c, s) ∷ (d, t) ∷ rows es) ((d, s) ∷ rows es) ((d, t) ∷ put by_bytes c s (rows es))))
      ≡ total file dir s + (total file dir t + total_in file dir es)) [
        | Less ↦ λ is. ap (λ x. total file dir s + (total file dir t + total_in file dir x)) (from_rows-rows es)
        | Equal ↦ λ is. absurd (subst T (ap is_some is) tt)
        | Greater ↦ λ is. omega (arith, total_in-with_new c s es is)
      ] h

  total_in-over : (c : List ℕ) (g : Tree → Tree) (es : Entries) (u : Tree) → find by_bytes c (rows es) ≡ Some u
      → total_in file dir (over_entry c g es) + total file dir u ≡ total file dir (g u) + total_in file dir es
  total_in-over c g Nil u h = absurd (subst T (sym (ap is_some h)) tt)
  total_in-over c g (Entry d t es) u h =
      elim (is_same_name c d) as (λ b. cond b (Some t) (find by_bytes c (rows es)) ≡ Some u
      → total_in file dir (cond b (Entry d (g t) es) (Entry d t (over_entry c g es))) + total file dir u
      ≡ total file dir (g u) + (total file dir t + total_in file dir es)) [
        | true ↦ λ is.
            subst (λ x. (total file dir (g t) + total_in file dir es) + total file dir x ≡ total file dir
            (g x) + (total file dir t + total_in file dir es)) (some_same _ _ is) (omega arith)
        | false ↦ λ is. omega (arith, total_in-over c g es u is)
      ] h

  -- a change at a path moves the sum as the tree there moves
  pub total-at : (p : List (List ℕ)) (g : Tree → Tree) (t s : Tree) → walk p t ≡ Found s
      → total file dir (at p g t) + total file dir s ≡ total file dir (g s) + total file dir t
  total-at [] g t s h = subst (λ x. total file dir (g t) + total file dir x ≡ total file dir (g x) + total file dir t) (found_same _ _ h) refl
  total-at (c ∷ p) g (File bytes) s h = dir_found s h
  total-at (c ∷ p) g (Dir es) s h =
      let w = through c p es s h in
      omega (arith, total_in-over c (λ u. at p g u) es w.0 w.1, total-at p g w.0 s w.2, ap dir (length-over c (λ u. at p g u) es))

  -- a new entry adds its tree's sum, and the directory's own part moves by one entry
  pub total-with_at : (p : List (List ℕ)) (c : List ℕ) (s t : Tree) (es : Entries) → walk p t ≡ Found (Dir es) → find by_bytes c (rows es) ≡ None
      → total file dir (at p (with_entry c s) t) + dir (length (rows es)) ≡ total file dir t + total file dir s + dir (length (rows es) + 1)
  total-with_at p c s t es h free =
      omega (arith, total-at p (with_entry c s) t (Dir es) h, total_in-with_new c s es free, ap dir (length-with_new c s es free))

-- ---- an entry that goes from a directory in order

left : (a b : Bool) → T (a && b) → T a
left true b p = tt
left false b p = p

right : (a b : Bool) → T (a && b) → T b
right true b p = p
right false b p = absurd p

less_differs : (r : Ordering) → T (is_lt r) → is_eq r ≡ false
less_differs Less p = refl
less_differs Equal p = absurd p
less_differs Greater p = absurd p

-- names behind a name are others
other : (c d x : List ℕ) → is_same_name c d ≡ true → T (is_lt (by_bytes d x)) → is_same_name c x ≡ false
other c d x e h = ap (λ y. is_same_name y x) (same_name c d e) ∙ less_differs (by_bytes d x) h

-- taking out a name that comes before all leaves all
pub no_later : (c d : List ℕ) (es : Entries) → is_same_name c d ≡ true → T (below_all by_bytes d (rows es)) → without c es ≡ es
no_later c d Nil e h = refl
no_later c d (Entry x t es) e h =
    ap (λ b. from_rows (cond (not b) ((x, t) ∷ filter (λ e. not (is_same_name c e.0)) (rows es)) (filter (λ e. not (is_same_name c e.0)) (rows es))))
    (other c d x e (left _ _ h))
    ∙ ap (λ y. Entry x t y) (no_later c d es e (right _ _ h))

module _ (file : List ℕ → ℕ) (dir : ℕ → ℕ) where
  total_in-without : (c : List ℕ) (v : Tree) (es : Entries) → T (is_sorted by_bytes (rows es)) → find by_bytes c (rows es) ≡ Some v
      → total_in file dir (without c es) + total file dir v ≡ total_in file dir es
  total_in-without c v Nil o h = absurd (subst T (sym (ap is_some h)) tt)
  total_in-without c v (Entry d t es) o h =
      elim (is_same_name c d) as (λ b. is_same_name c d ≡ b → cond b (Some t) (find by_bytes c (rows es)) ≡ Some v
      → total_in file dir (from_rows (cond (not b) ((d, t) ∷ filter (λ e. not (is_same_name c e.0)) (rows es)) (filter (λ e. not (is_same_name c e.0)) (rows es)))) + total file dir v ≡ total file dir t + total_in file dir es) [
        | true ↦ λ e is. omega (arith, ap (total_in file dir) (no_later c d es e (left _ _ o)), ap (total file dir) (some_same _ _ is))
        | false ↦ λ e is. omega (arith, total_in-without c v es (right _ _ o) is)
      ] refl h

-- the entry that goes is one less
pub length-without : (c : List ℕ) (v : Tree) (es : Entries) → T (is_sorted by_bytes (rows es)) → find by_bytes c (rows es) ≡ Some v
    → length (rows (without c es)) + 1 ≡ length (rows es)
length-without c v Nil o h = absurd (subst T (sym (ap is_some h)) tt)
length-without c v (Entry d t es) o h =
    elim (is_same_name c d) as (λ b. is_same_name c d ≡ b → cond b (Some t) (find by_bytes c (rows es)) ≡ Some v
    → length (rows (from_rows (cond (not b) ((d, t) ∷ filter (λ e. not (is_same_name c e.0)) (rows es)) (filter (λ e. not (is_same_name c e.0)) (rows es))))) + 1 ≡ suc (length (rows es))) [
      | true ↦ λ e is. omega (arith, ap (λ y. length (rows y)) (no_later c d es e (left _ _ o)))
      | false ↦ λ e is. omega (arith, length-without c v es (right _ _ o) is)
    ] refl h

-- the entry that goes takes its tree's sum, and the directory's own part moves by one entry
pub total-without_at : (file : List ℕ → ℕ) (dir : ℕ → ℕ) (p : List (List ℕ)) (c : List ℕ) (v t : Tree) (es : Entries)
    → walk p t ≡ Found (Dir es) → T (is_sorted by_bytes (rows es)) → find by_bytes c (rows es) ≡ Some v
    → total file dir (at p (without_entry c) t) + total file dir v + dir (length (rows es)) ≡ total file dir t + dir (length (rows (without c es)))
total-without_at file dir p c v t es h o is =
    omega (arith, total-at file dir p (without_entry c) t (Dir es) h, total_in-without file dir c v es o is)
