-- What an accepted change does to the height of the tree and to the sums over it.
use Rattle.std.proofs.Common.{◌≡◌, ℕ, ◌+◌, ◌≤◌, Bool, true, false, cond, T, List, [], ◌∷◌, ◌++◌, length, None, sym, refl, ap, ◌∙◌, subst, arith}
use Rattle.std.specs.Prelude.{max, ◌&&◌, ◌||◌, nat_lt, take}
use Rattle.std.specs.FinMap.{is_sorted}
use Rattle.tree_spec.specs.Why as why
use Rattle.tree_spec.specs.Trees.{Tree, File, Dir, Entries, Nil, rows, by_bytes, walk, Walk, Found, NotFound, NotDir, at, with_entry, without, without_entry, parent, last_name, height, total, is_ordered, all_ordered}
use Rattle.tree_spec.specs.Costs.{Form}
use Rattle.tree_spec.specs.Routes.{is_prefix, is_same_name, is_same_path}
use Rattle.tree_spec.specs.Operations.{Operation, Mkdir, Make, Write, Read, Trunc, Remove, Rename, ListDir, Stat}
use Rattle.tree_spec.specs.Answers.{refusal, next_tree, moved_tree, deepest, is_root, is_found, tree_found, bytes_of, written}
use Rattle.tree_spec.proofs.Trees.{parent-last, outline, outline-without}
use Rattle.tree_spec.proofs.Sums.{height-walk, height-at, height-with, height-without, total-at, total-with_at, total-without_at, length-without}
use Rattle.tree_spec.proofs.Orders.{ordered-walk}
use Rattle.tree_spec.proofs.Refusals.{refusal-none}
use Rattle.tree_spec.proofs.Accepted.{HasPlace, HasEntry, has_place, has_entry, length-parent, dir_walk, tree_walk, IsDirWalk, first_false, second_false, not_and, and_given, at_most, accepted-mkdir, accepted-make, accepted-write, accepted-trunc, accepted-remove, entry_walk}

abbrev Names : Type 0
Names = List (List ℕ)

-- ---- an entry that comes, and one that goes

-- the tree with s at the path p
abbrev pub placed : Names → Tree → Tree → Tree
placed p s t = at (parent p) (with_entry (last_name p) s) t

-- the tree with nothing at the path p
abbrev pub removed : Names → Tree → Tree
removed p t = at (parent p) (without_entry (last_name p)) t

pub height-placed : (p : Names) (s t : Tree) → HasPlace p t → height (placed p s t) ≤ max (height t) (length p + height s)
height-placed p s t h =
    omega (arith, height-at (parent p) (with_entry (last_name p) s) t (Dir h.entries) h.there, height-with (last_name p) s h.entries, height-walk (parent p) t (Dir h.entries) h.there, length-parent p h.below)

pub height-removed : (p : Names) (t v : Tree) → HasEntry p t v → height (removed p t) ≤ height t
height-removed p t v h =
    omega (arith, height-at (parent p) (without_entry (last_name p)) t (Dir h.entries) h.there, height-without (last_name p) h.entries, height-walk (parent p) t (Dir h.entries) h.there)

-- the sum gains what came, and the directory's own part moves by one entry
pub total-placed : (file : List ℕ → ℕ) (dir : ℕ → ℕ) (p : Names) (s t : Tree) (h : HasPlace p t)
    → total file dir (placed p s t) + dir (length (rows h.entries)) ≡ total file dir t + total file dir s + dir (length (rows h.entries) + 1)
total-placed file dir p s t h = total-with_at file dir (parent p) (last_name p) s t h.entries h.there h.free

dir_sorted : (p : Names) (t : Tree) (es : Entries) → T (is_ordered t) → walk p t ≡ Found (Dir es) → T (is_sorted by_bytes (rows es))
dir_sorted p t es o h = left (is_sorted by_bytes (rows es)) (all_ordered es) (subst (λ w. T (is_ordered (tree_found w))) h (ordered-walk p t o))
  where
    left : (a b : Bool) → T (a && b) → T a
    left true b p = tt
    left false b p = p

-- the number of entries of the directory falls by one
pub length-removed : (p : Names) (t v : Tree) → T (is_ordered t) → (h : HasEntry p t v)
    → length (rows (without (last_name p) h.entries)) + 1 ≡ length (rows h.entries)
length-removed p t v o h = length-without (last_name p) v h.entries (dir_sorted (parent p) t h.entries o h.there) h.found

-- the sum loses what went, and the directory's own part moves by one entry
pub total-removed : (file : List ℕ → ℕ) (dir : ℕ → ℕ) (p : Names) (t v : Tree) → T (is_ordered t) → (h : HasEntry p t v)
    → total file dir (removed p t) + total file dir v + dir (length (rows h.entries)) ≡ total file dir t + dir (length (rows (without (last_name p) h.entries)))
total-removed file dir p t v o h =
    total-without_at file dir (parent p) (last_name p) v t h.entries h.there (dir_sorted (parent p) t h.entries o h.there) h.found

-- ---- a file that gets other bytes

pub height-file : (p : Names) (g : Tree → List ℕ) (t s : Tree) → walk p t ≡ Found s → height (at p (λ u. File (g u)) t) ≤ height t
height-file p g t s h = omega (arith, height-at p (λ u. File (g u)) t s h, height-walk p t s h)

-- the sum moves as the file's part moves
pub total-file : (file : List ℕ → ℕ) (dir : ℕ → ℕ) (p : Names) (g : Tree → List ℕ) (t : Tree) (bytes : List ℕ) → walk p t ≡ Found (File bytes)
    → total file dir (at p (λ u. File (g u)) t) + file bytes ≡ total file dir t + file (g (File bytes))
total-file file dir p g t bytes h = omega (arith, total-at file dir p (λ u. File (g u)) t (File bytes) h)

-- ---- renames

prefix-append : (p q r : Names) → is_prefix p q ≡ true → is_prefix p (q ++ r) ≡ true
prefix-append [] q r h = refl
prefix-append (c ∷ p) [] r h = absurd (subst T (sym h) tt)
prefix-append (c ∷ p) (d ∷ q) r h = both (is_same_name c d) (is_prefix p q) (is_prefix p (q ++ r)) h (λ k. prefix-append p q r k)
  where
    both : (a b e : Bool) → (a && b) ≡ true → (b ≡ true → e ≡ true) → (a && e) ≡ true
    both true b e h k = k h
    both false b e h k = h

not_prefix_of_parent : (p q : Names) → is_root q ≡ false → is_prefix p q ≡ false → is_prefix p (parent q) ≡ false
not_prefix_of_parent p [] r h = absurd (subst T r tt)
not_prefix_of_parent p (d ∷ q) r h =
    elim (is_prefix p (parent (d ∷ q))) as (λ b. is_prefix p (parent (d ∷ q)) ≡ b → b ≡ false) [
      | true ↦ λ e. sym (prefix-append p (parent (d ∷ q)) (last_name (d ∷ q) ∷ []) e) ∙ ap (is_prefix p) (parent-last d q) ∙ h
      | false ↦ λ e. refl
    ] refl

whole : (p : Names) → is_root p ≡ false → parent p ++ last_name p ∷ [] ≡ p
whole [] r = absurd (subst T r tt)
whole (c ∷ p) r = parent-last c p

found_outline : (w v : Walk) → outline w ≡ outline v → is_found w ≡ is_found v
found_outline w v h = sym (same w) ∙ ap is_found h ∙ same v
  where
    same : (w : Walk) → is_found (outline w) ≡ is_found w
    same (Found (File bytes)) = refl
    same (Found (Dir es)) = refl
    same NotFound = refl
    same NotDir = refl

dir_outline : (w : Walk) → outline w ≡ Found (Dir Nil) → IsDirWalk w
dir_outline (Found (File bytes)) h = absurd (no h)
  where
    no : Found (File bytes) ≡ Found (Dir Nil) → ⊥
    no h = cc
dir_outline (Found (Dir es)) h = (es, refl)
dir_outline NotFound h = absurd (no h)
  where
    no : NotFound ≡ Found (Dir Nil) → ⊥
    no h = cc
dir_outline NotDir h = absurd (no h)
  where
    no : NotDir ≡ Found (Dir Nil) → ⊥
    no h = cc

-- what stands at p leaves its place, and finds one at q in the tree that is left
pub record Moves (p q : Names) (t : Tree) : Type 0 where
  pub tree : Tree
  pub entry : HasEntry p t tree
  pub place : HasPlace q (removed p t)
  pub low : length q + height tree ≤ deepest
  pub apart : is_prefix p q ≡ false

module _ (t : Tree) (done n : ℕ) (f : Form) (p q : Names) (h : refusal t done n f (Rename p q) ≡ None) (differ : is_same_path p q ≡ false) where
  abbrev op : Operation
  op = Rename p q

  -- an accepted rename has what moves, and a place for it
  pub accepted-rename : Moves p q t
  accepted-rename =
      let missing = refusal-none t done n f op why.NotFound h in
      let blocked = first_false _ _ (refusal-none t done n f op why.NotDir h) in
      let root = refusal-none t done n f op why.IsRoot h in
      let w = tree_walk (walk p t) (first_false _ _ missing) (first_false _ _ blocked) in
      let d = dir_walk (walk (parent q) t) (first_false _ _ (second_false _ _ missing)) (first_false _ _ (second_false _ _ blocked)) in
      let p_below : is_root p ≡ false = first_false _ _ root in
      let q_below : is_root q ≡ false = second_false (is_root p) _ root in
      let apart : is_prefix p q ≡ false = not_and _ _ (refusal-none t done n f op why.IntoItself h) differ in
      let free : is_found (walk q t) ≡ false = not_and _ _ (refusal-none t done n f op why.Exists h) differ in
      let at_parent : outline (walk (parent q) (removed p t)) ≡ outline (walk (parent q) t) =
      outline-without (parent p) (last_name p) (parent q) t (ap (λ x. is_prefix x (parent q)) (whole p p_below) ∙ not_prefix_of_parent p q q_below apart) in
      let at_end : outline (walk q (removed p t)) ≡ outline (walk q t) =
      outline-without (parent p) (last_name p) q t (ap (λ x. is_prefix x q) (whole p p_below) ∙ apart) in
      let e = dir_outline (walk (parent q) (removed p t)) (at_parent ∙ ap outline d.1) in
      let deep : nat_lt deepest (length q + height (tree_found (walk p t))) ≡ false = and_given _ _
      (second_false _ _ (refusal-none t done n f op why.TooDeep h)) (ap is_found w.1) in
      record {
        tree = w.0;
        entry = has_entry p t w.0 p_below w.1;
        place = has_place q (removed p t) e.0 q_below e.1 (found_outline _ _ at_end ∙ free);
        low = at_most _ _ (ap (λ x. nat_lt deepest (length q + height (tree_found x))) (sym w.1) ∙ deep);
        apart = apart;
      }

-- what the operation makes
pub next-rename : (t : Tree) (p q : Names) (v : Tree) → is_same_path p q ≡ false → walk p t ≡ Found v → next_tree (Rename p q) t ≡ placed q v (removed p t)
next-rename t p q v differ h = ap (λ b. cond b t (moved_tree p q t)) differ ∙ ap (λ w. placed q (tree_found w) (removed p t)) h

-- ---- no accepted operation makes a tree higher than 24

path_short : (p : Names) (b : Bool) → ((nat_lt deepest (length p) || false) || b) ≡ false → length p ≤ deepest
path_short p b h = at_most _ _ (first_false _ _ (first_false _ _ h))

height-rename : (t : Tree) (done n : ℕ) (f : Form) (p q : Names) (b : Bool) → is_same_path p q ≡ b → refusal t done n f (Rename p q) ≡ None
    → height t ≤ deepest → height (cond b t (moved_tree p q t)) ≤ deepest
height-rename t done n f p q true e h low = low
height-rename t done n f p q false e h low =
    let m = accepted-rename t done n f p q h e in
    let is : tree_found (walk p t) ≡ m.tree = ap tree_found (entry_walk p t m.tree m.entry) in
    subst (λ x. height (placed q x (removed p t)) ≤ deepest) (sym is)
    (omega (arith, height-placed q m.tree (removed p t) m.place, height-removed p t m.tree m.entry, m.low))

pub height-next : (op : Operation) (t : Tree) (done n : ℕ) (f : Form) → refusal t done n f op ≡ None → height t ≤ deepest → height (next_tree op t) ≤ deepest
height-next (Mkdir p) t done n f h low =
    omega (arith, height-placed p (Dir Nil) t (accepted-mkdir t done n f p h), path_short p _ (refusal-none t done n f (Mkdir p) why.TooDeep h))
height-next (Make p) t done n f h low =
    omega (arith, height-placed p (File []) t (accepted-make t done n f p h), path_short p _ (refusal-none t done n f (Make p) why.TooDeep h))
height-next (Write p off bytes) t done n f h low =
    let w = accepted-write t done n f p off bytes h in
    omega (arith, height-file p (λ s. written (bytes_of s) off bytes) t (File w.old) w.found)
height-next (Read p off len) t done n f h low = low
height-next (Trunc p len) t done n f h low =
    let w = accepted-trunc t done n f p len h in
    omega (arith, height-file p (λ s. take len (bytes_of s)) t (File w.old) w.found)
height-next (Remove p) t done n f h low =
    let r = accepted-remove t done n f p h in
    omega (arith, height-removed p t r.gone r.entry)
height-next (Rename p q) t done n f h low = height-rename t done n f p q (is_same_path p q) refl h low
height-next (ListDir p) t done n f h low = low
height-next (Stat p) t done n f h low = low
