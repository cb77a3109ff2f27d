-- What an accepted operation found in the tree, and what it costs.
use Rattle.std.proofs.Common.{◌≡◌, ℕ, ◌+◌, ◌≤◌, Bool, true, false, T, List, [], ◌∷◌, length, Some, None, Option, sym, refl, ap, ◌∙◌, subst, arith, length-append}
use Rattle.std.specs.Prelude.{not, ◌&&◌, ◌||◌, nat_lt}
use Rattle.std.proofs.lemmas.Bool.Decides.{nat_tests}
use Rattle.std.specs.FinMap.{find}
use Rattle.tree_spec.specs.Why as why
use Rattle.tree_spec.specs.Trees.{Tree, File, Dir, Entries, rows, by_bytes, found_or_not, walk, and_on, Walk, Found, NotFound, NotDir, parent, last_name, needs_dir}
use Rattle.tree_spec.specs.Costs.{Form}
use Rattle.tree_spec.specs.Operations.{Mkdir, Make, Write, Trunc, Remove}
use Rattle.tree_spec.specs.Answers.{refusal, is_root, is_found, is_not_found, is_not_dir, is_dir_found, is_full_found, bytes_found}
use Rattle.tree_spec.proofs.Trees.{walk-append, parent-last}
use Rattle.tree_spec.proofs.Refusals.{refusal-none}

abbrev Names : Type 0
Names = List (List ℕ)

-- ---- tests that fail

-- of two tests of which none holds the first fails
pub first_false : (a b : Bool) → (a || b) ≡ false → a ≡ false
first_false true b h = absurd (subst T h tt)
first_false false b h = refl

-- of two tests of which none holds the second fails
pub second_false : (a b : Bool) → (a || b) ≡ false → b ≡ false
second_false true b h = absurd (subst T h tt)
second_false false b h = h

pub not_and : (a b : Bool) → (a && not b) ≡ false → b ≡ false → a ≡ false
not_and true true h e = absurd (subst T e tt)
not_and true false h e = absurd (subst T h tt)
not_and false b h e = refl

pub and_given : (a b : Bool) → (a && b) ≡ false → a ≡ true → b ≡ false
and_given true b h e = h
and_given false b h e = absurd (subst T (sym e) tt)

-- what is not less is at least as much
pub at_most : (x y : ℕ) → nat_lt x y ≡ false → y ≤ x
at_most x y h = grind (arith, nat_tests)

-- ---- the directory of a path's last name

-- the path's directory is there, with nothing under the last name
pub record HasPlace (p : Names) (t : Tree) : Type 0 where
  pub entries : Entries
  pub there : walk (parent p) t ≡ Found (Dir entries)
  pub free : find by_bytes (last_name p) (rows entries) ≡ None
  pub below : is_root p ≡ false

-- the path's directory is there, with the tree v under the last name
pub record HasEntry (p : Names) (t v : Tree) : Type 0 where
  pub entries : Entries
  pub there : walk (parent p) t ≡ Found (Dir entries)
  pub found : find by_bytes (last_name p) (rows entries) ≡ Some v
  pub below : is_root p ≡ false

-- a walk is that of the parent and one name more
pub walk-last : (p : Names) (t : Tree) → is_root p ≡ false → walk p t ≡ and_on (walk (parent p) t) (λ u. walk (last_name p ∷ []) u)
walk-last [] t h = absurd (subst T h tt)
walk-last (c ∷ p) t h = ap (λ q. walk q t) (sym (parent-last c p)) ∙ walk-append (parent (c ∷ p)) (last_name (c ∷ p) ∷ []) t

-- a parent's path is one name shorter
pub length-parent : (p : Names) → is_root p ≡ false → length (parent p) + 1 ≡ length p
length-parent [] h = absurd (subst T h tt)
length-parent (c ∷ p) h = omega (arith, ap length (parent-last c p), length-append (parent (c ∷ p)) (last_name (c ∷ p) ∷ []))

-- the walk ends at a directory
abbrev pub IsDirWalk : Walk → Type 0
IsDirWalk w = (es : Entries) × (w ≡ Found (Dir es))

-- a walk that finds a directory ends at one
pub dir_walk : (w : Walk) → is_not_found (needs_dir w) ≡ false → is_not_dir (needs_dir w) ≡ false → IsDirWalk w
dir_walk (Found (File bytes)) h k = absurd (subst T k tt)
dir_walk (Found (Dir es)) h k = (es, refl)
dir_walk NotFound h k = absurd (subst T h tt)
dir_walk NotDir h k = absurd (subst T k tt)

abbrev pub IsTreeWalk : Walk → Type 0
IsTreeWalk w = (v : Tree) × (w ≡ Found v)

-- a walk that is not refused ends at a file or directory
pub tree_walk : (w : Walk) → is_not_found w ≡ false → is_not_dir w ≡ false → IsTreeWalk w
tree_walk (Found v) h k = (v, refl)
tree_walk NotFound h k = absurd (subst T h tt)
tree_walk NotDir h k = absurd (subst T k tt)

-- the walk by one name from a directory
named : (o : Option Tree) → is_found (and_on (found_or_not o) (λ u. Found u)) ≡ false → o ≡ None
named None h = refl
named (Some u) h = absurd (subst T h tt)

named_some : (o : Option Tree) (v : Tree) → and_on (found_or_not o) (λ u. Found u) ≡ Found v → o ≡ Some v
named_some None v h = absurd (no h)
  where
    no : NotFound ≡ Found v → ⊥
    no h = cc
named_some (Some u) v h = ap (λ x. Some x) (same h)
  where
    same : Found u ≡ Found v → u ≡ v
    same h = cc

walk_in : (p : Names) (t : Tree) (es : Entries) → is_root p ≡ false → walk (parent p) t ≡ Found (Dir es)
    → walk p t ≡ and_on (found_or_not (find by_bytes (last_name p) (rows es))) (λ u. Found u)
walk_in p t es r h = walk-last p t r ∙ ap (λ w. and_on w (λ u. walk (last_name p ∷ []) u)) h

-- a directory on the way and nothing at the path
pub has_place : (p : Names) (t : Tree) (es : Entries) → is_root p ≡ false → walk (parent p) t ≡ Found (Dir es) → is_found (walk p t) ≡ false → HasPlace p t
has_place p t es r h free =
    record { entries = es; there = h; free = named (find by_bytes (last_name p) (rows es)) (ap is_found (sym (walk_in p t es r h)) ∙ free); below = r }

-- and a walk finds what the directory has
pub entry_walk : (p : Names) (t v : Tree) → HasEntry p t v → walk p t ≡ Found v
entry_walk p t v h = walk_in p t h.entries h.below h.there ∙ ap (λ o. and_on (found_or_not o) (λ u. Found u)) h.found

parent_found : (w : Walk) (go : Tree → Walk) (v : Tree) → and_on w go ≡ Found v → ((bytes : List ℕ) → go (File bytes) ≡ NotDir) → IsDirWalk w
parent_found (Found (File bytes)) go v h k = absurd (no (sym (k bytes) ∙ h))
  where
    no : NotDir ≡ Found v → ⊥
    no h = cc
parent_found (Found (Dir es)) go v h k = (es, refl)
parent_found NotFound go v h k = absurd (no h)
  where
    no : NotFound ≡ Found v → ⊥
    no h = cc
parent_found NotDir go v h k = absurd (no h)
  where
    no : NotDir ≡ Found v → ⊥
    no h = cc

-- what a walk found stands in a directory, but for the root
pub has_entry : (p : Names) (t v : Tree) → is_root p ≡ false → walk p t ≡ Found v → HasEntry p t v
has_entry p t v r h =
    let d = parent_found (walk (parent p) t) (λ u. walk (last_name p ∷ []) u) v (sym (walk-last p t r) ∙ h) (λ bytes. refl) in
    record { entries = d.0; there = d.1; found = named_some (find by_bytes (last_name p) (rows d.0)) v (sym (walk_in p t d.0 r d.1) ∙ h); below = r }

-- ---- what each accepted operation found

module _ (t : Tree) (done n : ℕ) (f : Form) where
  -- an accepted mkdir has a place
  pub accepted-mkdir : (p : Names) → refusal t done n f (Mkdir p) ≡ None → HasPlace p t
  accepted-mkdir p h =
      let d = dir_walk (walk (parent p) t) (first_false _ _ (refusal-none t done n f (Mkdir p) why.NotFound h))
      (first_false _ _ (first_false _ _ (refusal-none t done n f (Mkdir p) why.NotDir h))) in
      has_place p t d.0 (refusal-none t done n f (Mkdir p) why.IsRoot h) d.1 (refusal-none t done n f (Mkdir p) why.Exists h)

  -- an accepted make has a place
  pub accepted-make : (p : Names) → refusal t done n f (Make p) ≡ None → HasPlace p t
  accepted-make p h =
      let d = dir_walk (walk (parent p) t) (first_false _ _ (refusal-none t done n f (Make p) why.NotFound h))
      (first_false _ _ (first_false _ _ (refusal-none t done n f (Make p) why.NotDir h))) in
      has_place p t d.0 (refusal-none t done n f (Make p) why.IsRoot h) d.1 (refusal-none t done n f (Make p) why.Exists h)

  -- a file
  abbrev IsFileWalk : Walk → Type 0
  IsFileWalk w = (bytes : List ℕ) × (w ≡ Found (File bytes))

  file_walk : (w : Walk) → is_not_found w ≡ false → is_not_dir w ≡ false → is_dir_found w ≡ false → IsFileWalk w
  file_walk (Found (File bytes)) h k d = (bytes, refl)
  file_walk (Found (Dir es)) h k d = absurd (subst T d tt)
  file_walk NotFound h k d = absurd (subst T h tt)
  file_walk NotDir h k d = absurd (subst T k tt)

  -- a file that has bytes up to the offset, and stays within the form's longest
  pub record WritesFile (p : Names) (off : ℕ) (bytes : List ℕ) : Type 0 where
    pub old : List ℕ
    pub found : walk p t ≡ Found (File old)
    pub within : off ≤ length old
    pub small : off + length bytes ≤ f.longest_file

  -- an accepted write has a file that it fits
  pub accepted-write : (p : Names) (off : ℕ) (bytes : List ℕ) → refusal t done n f (Write p off bytes) ≡ None → WritesFile p off bytes
  accepted-write p off bytes h =
      let op = Write p off bytes in
      let w = file_walk (walk p t) (first_false _ _ (refusal-none t done n f op why.NotFound h))
      (first_false _ _ (first_false _ _ (refusal-none t done n f op why.NotDir h))) (refusal-none t done n f op why.IsDir h) in
      record {
        old = w.0;
        found = w.1;
        within = at_most _ _ (ap (λ x. nat_lt (length (bytes_found x)) off) (sym w.1) ∙ refusal-none t done n f op why.BeyondEnd h);
        small = at_most _ _ (refusal-none t done n f op why.FileBig h);
      }

  -- a file at least as long as what stays of it
  pub record CutsFile (p : Names) (len : ℕ) : Type 0 where
    pub old : List ℕ
    pub found : walk p t ≡ Found (File old)
    pub within : len ≤ length old

  -- an accepted cut has a file of so many bytes
  pub accepted-trunc : (p : Names) (len : ℕ) → refusal t done n f (Trunc p len) ≡ None → CutsFile p len
  accepted-trunc p len h =
      let op = Trunc p len in
      let w = file_walk (walk p t) (first_false _ _ (refusal-none t done n f op why.NotFound h))
      (first_false _ _ (first_false _ _ (refusal-none t done n f op why.NotDir h))) (refusal-none t done n f op why.IsDir h) in
      record { old = w.0; found = w.1; within = at_most _ _ (ap (λ x. nat_lt (length (bytes_found x)) len) (sym w.1) ∙ refusal-none t done n f op why.BeyondEnd h) }

  -- an entry that is no directory with entries
  pub record Removes (p : Names) : Type 0 where
    pub gone : Tree
    pub entry : HasEntry p t gone
    pub empty : is_full_found (Found gone) ≡ false

  -- an accepted removal has something that may go
  pub accepted-remove : (p : Names) → refusal t done n f (Remove p) ≡ None → Removes p
  accepted-remove p h =
      let op = Remove p in
      let w = tree_walk (walk p t) (first_false _ _ (refusal-none t done n f op why.NotFound h))
      (first_false _ _ (first_false _ _ (refusal-none t done n f op why.NotDir h))) in
      record { gone = w.0; entry = has_entry p t w.0 (refusal-none t done n f op why.IsRoot h) w.1; empty = ap is_full_found (sym w.1) ∙ refusal-none t done n f op why.NotEmpty h }
