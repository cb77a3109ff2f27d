-- The stages of a rename.
use Rattle.std.proofs.Common.{◌≡◌, ◌≢◌, ◌≤◌, ◌<◌, ◌+◌, ◌-◌, ◌*◌, ℕ, Bool, true, false, List, [], ◌∷◌, ◌++◌, length, drop, take, get_or, Option, Some, None, Result, Ok, Err, MatchResult, sym, refl, subst, ap, ◌∙◌, arith, nat_lt}
use Rattle.std.specs.Prelude.{◌&&◌, ◌||◌, not, if◌then◌else◌}
use Rattle.std.specs.List.{list_any}
use Rattle.std.proofs.lemmas.Bool.Decides.{nat_tests}
use Rattle.ice_base.specs.Lots.{LotView}
use Rattle.tree_spec.specs.Why.{Why}
use Rattle.tree_spec.specs.Why as why
use Rattle.tree_spec.specs.Trees.{Tree, File, Dir, Walk, Found, NotFound, NotDir, walk, parent, parent_walk, last_name, rows, height, at}
use Rattle.tree_spec.specs.Costs.{Form, form_one, nodes}
use Rattle.tree_spec.specs.Operations.{Rename, Operation}
use Rattle.tree_spec.specs.Answers.{refusal, answer, answer_by, next_tree, deepest, is_found, is_not_found, is_not_dir, is_root, is_taken, tree_found, moves_into_itself}
use Rattle.tree_spec.proofs.Sums.{total-at}
use Rattle.ice_reads.specs.Tables.{Map, Table}
use Rattle.ice_map.specs.Inodes.{inode_of}
use Rattle.ice_map.specs.Own.{own}
use Rattle.ice_reads.specs.Reads.{Reads, inode_on}
use Rattle.ice_reads.specs.Recovers.{MapRecovers}
use Rattle.ice_reads.proofs.Focus.{Reads-part}
use Rattle.ice_reads.proofs.Numbers.{Reads-depth}
use Rattle.tree_spec.proofs.Accepted.{first_false, second_false, has_entry, tree_walk, dir_walk, IsDirWalk}
use Rattle.ice_steps.proofs.Quotas.{free_nodes_are}
use Rattle.tree_spec.specs.Replies.{refused_of}
use Rattle.tree_spec.specs.declared.reply.Refusal.{Refusal}
use Rattle.ice_look.specs.declared.looks.DirAt.{DirAt}
use Rattle.ice_look.specs.declared.place.Place.{Place}
use Rattle.ice_look.specs.declared.place.Place.TheVariants as at_place
use Rattle.ice_tree.specs.declared.renames.Move.{Move}
use Rattle.ice_look.specs.Ends.{IsDirAt}
use Rattle.ice_look.specs.Outcomes.{RefusedAs}
use Rattle.ice_look.specs.Places.{place_at, place_by}
use Rattle.ice_look.proofs.LookLaws.{ends_dir, later_stage}
use Rattle.ice_tree.specs.Renames.{height_refusal, ends_refusal, move_refusal, IsMove, Renames}
use Rattle.ice_look.proofs.EndLaws.{names-last}
use Rattle.ice_look.specs.Stages.{or_else, paths_refusal}
use Rattle.ice_tree.specs.Quotas.{quota_refusal}
use Rattle.ice_tree.proofs.Chains.{refusal_rename}

abbrev Names : Type 0
Names = List (List ℕ)

-- ---- one stage after another

chain : (h a b c d e q : Option Why)
    → or_else h (or_else a (or_else b (or_else c (or_else d (or_else e q))))) ≡ or_else (or_else h (or_else a (or_else b (or_else c (or_else d e))))) q
chain (Some r) a b c d e q = refl
chain None (Some r) b c d e q = refl
chain None None (Some r) c d e q = refl
chain None None None (Some r) d e q = refl
chain None None None None (Some r) e q = refl
chain None None None None None e q = refl

-- the paths, what is moved and where to, and the quota
pub rename-stages : (t : Tree) (k n : ℕ) (f : Form) (p q : Names)
    → refusal t k n f (Rename p q) ≡ or_else (paths_refusal f (p ∷ q ∷ [])) (or_else (move_refusal p q t) (quota_refusal n f k (next_tree (Rename p q) t)))
rename-stages t k n f p q = refusal_rename t k n f p q ∙ ap (λ x. or_else (paths_refusal f (p ∷ q ∷ [])) x)
    (chain (height_refusal p q t) (if is_not_found (walk p t) || is_not_found (parent_walk q t) then Some why.NotFound else None)
    (if is_not_dir (walk p t) || is_not_dir (parent_walk q t) then Some why.NotDir else None)
    (if is_root p || is_root q then Some why.IsRoot else None) (if is_taken (Rename p q) t then Some why.Exists else None)
    (if moves_into_itself (Rename p q) then Some why.IntoItself else None) (quota_refusal n f k (next_tree (Rename p q) t)))

-- the places, by five tests
abbrev by_tests : Bool → Bool → Bool → Bool → Bool → Option Why
by_tests missing blocked root taken into =
    or_else (if missing then Some why.NotFound else None) (
    or_else (if blocked then Some why.NotDir else None) (
    or_else (if root then Some why.IsRoot else None) (or_else (if taken then Some why.Exists else None) (if into then Some why.IntoItself else None))))

never : (x : Bool) → (x && false) ≡ false
never true = refl
never false = refl

-- both paths are one
pub ends-same : (missing blocked root found same begins : Bool) → missing ≡ false → blocked ≡ false → root ≡ false → same ≡ true
    → by_tests missing blocked root (found && not same) (begins && not same) ≡ None
ends-same missing blocked root found same begins m b r s =
    (λ z. by_tests (m z) (b z) (r z) (found && not (s z)) (begins && not (s z))) ∙ (λ z. by_tests false false false (never found z) (never begins z))

-- ---- heights

low-walk : (w : Walk) (n : ℕ) → ((s : Tree) → w ≡ Found s → n + height s ≤ deepest)
    → (if is_found w && nat_lt deepest (n + height (tree_found w)) then Some why.TooDeep else None) ≡ None
low-walk (Found s) n h =
    let l = h s refl in
    let e : nat_lt deepest (n + height s) ≡ false = grind (arith, nat_tests) in
    ap (λ b. if b then Some why.TooDeep else None) e
low-walk NotFound n h = refl
low-walk NotDir n h = refl

low-fits : (p q : Names) (t : Tree) → ((s : Tree) → walk p t ≡ Found s → length q + height s ≤ deepest) → height_refusal p q t ≡ None
low-fits p q t h = low-walk (walk p t) (length q) h

high-fails : (p q : Names) (t s : Tree) → walk p t ≡ Found s → deepest < length q + height s → height_refusal p q t ≡ Some why.TooDeep
high-fails p q t s found h =
    let e : nat_lt deepest (length q + height s) ≡ true = grind (arith, nat_tests) in
    ap (λ w. if is_found w && nat_lt deepest (length q + height (tree_found w)) then Some why.TooDeep else None) found
    ∙ ap (λ b. if b then Some why.TooDeep else None) e

-- the same by the levels that are left
pub high-more : (p q : Names) (t s : Tree) (there : ℕ) → length q ≡ there → walk p t ≡ Found s → nat_lt (deepest - there) (height s) ≡ true
    → height_refusal p q t ≡ Some why.TooDeep
high-more p q t s there e found h = let l : deepest - there < height s = grind (arith, nat_tests) in high-fails p q t s found (omega arith)

pub low-more : (p q : Names) (t s : Tree) (there : ℕ) → length q ≡ there → there ≤ deepest → walk p t ≡ Found s
    → nat_lt (deepest - there) (height s) ≡ false → height_refusal p q t ≡ None
low-more p q t s there e short found h =
    let l : height s ≤ deepest - there = grind (arith, nat_tests) in
    low-fits p q t (λ u w. let same : s ≡ u = found_same s u (sym found ∙ w) in let x = ap (λ y. height y) same in omega arith)
  where
    found_same : (s u : Tree) → Found s ≡ Found u → s ≡ u
    found_same s u h = cc

-- what goes no deeper fits
pub fits-higher : (f : Form) (lot : LotView) (o : Table) (p q : Names) (t : Tree) → Reads f lot o 0 0 t → length q ≤ length p → height_refusal p q t ≡ None
fits-higher f lot o p q t r h =
    low-fits p q t (λ s found. omega (arith, Reads-depth f lot o (inode_on f o 0 p) (0 + length p) s (Reads-part f lot o p 0 0 t s found r)))

nodes-some : (t : Tree) → 1 ≤ nodes t
nodes-some (File bytes) = omega arith
nodes-some (Dir es) = omega arith

-- a tree has no fewer files and directories than its part
nodes-within : (p : Names) (t s : Tree) → walk p t ≡ Found s → nodes s ≤ nodes t
nodes-within p t s found = let e = total-at (λ _. 1) (λ _. 1) p (λ _. File []) t s found in let n = nodes-some (at p (λ _. File []) t) in omega arith

-- ---- the paths

last-more : (xs : Names) (c : List ℕ) → last_name (xs ++ c ∷ []) ≡ c
last-more [] c = refl
last-more (x ∷ []) c = refl
last-more (x ∷ y ∷ xs) c = last-more (y ∷ xs) c

any-last : (test : List ℕ → Bool) (xs : Names) (c : List ℕ) → list_any test (xs ++ c ∷ []) ≡ false → test c ≡ false
any-last test [] c h = first_false (test c) false h
any-last test (x ∷ xs) c h = any-last test xs c (second_false (test x) (list_any test (xs ++ c ∷ [])) h)

short-name : (longest n : ℕ) → nat_lt longest n ≡ false → n ≤ longest
short-name longest n h = grind (arith, nat_tests)

-- no name is too long
pub names-short : (f : Form) (p q xs : Names) (c : List ℕ) → paths_refusal f (p ∷ q ∷ []) ≡ None → q ≡ xs ++ c ∷ [] → length c ≤ f.longest_name
names-short f p q xs c h is =
    by-two (list_any (λ x. nat_lt f.longest_name (length x)) p) (list_any (λ x. nat_lt f.longest_name (length x)) q)
    (list_any (λ x. nat_lt deepest (length x)) (p ∷ q ∷ [])) h
    (λ e. short-name f.longest_name (length c)
    (any-last (λ x. nat_lt f.longest_name (length x)) xs c (ap (λ y. list_any (λ x. nat_lt f.longest_name (length x)) y) (sym is) ∙ e)))
  where
    no : Some why.NameLong ≡ None → ⊥
    no h = cc

    by-two : {A : Type 0} → (first second deep : Bool)
        → (if first || (second || false) then Some why.NameLong else (if deep then Some why.TooDeep else None)) ≡ None → (second ≡ false → A) → A
    by-two true second deep h k = absurd (no h)
    by-two false true deep h k = absurd (no h)
    by-two false false deep h k = k refl

-- ---- what a rename finds

by-none : (missing blocked root taken into : Bool) → by_tests missing blocked root taken into ≡ None → (missing ≡ false) × (blocked ≡ false) × (root ≡ false)
by-none true blocked root taken into h = absurd (no h)
  where
    no : Some why.NotFound ≡ None → ⊥
    no h = cc
by-none false true root taken into h = absurd (no h)
  where
    no : Some why.NotDir ≡ None → ⊥
    no h = cc
by-none false false true taken into h = absurd (no h)
  where
    no : Some why.IsRoot ≡ None → ⊥
    no h = cc
by-none false false false taken into h = (refl, refl, refl)

-- where the places refuse nothing both directories are there
pub ends-dirs : (p q : Names) (t : Tree) → ends_refusal p q t ≡ None → IsDirWalk (walk (parent p) t) × IsDirWalk (walk (parent q) t)
ends-dirs p q t h =
    let n = by-none (is_not_found (walk p t) || is_not_found (parent_walk q t)) (is_not_dir (walk p t) || is_not_dir (parent_walk q t))
    (is_root p || is_root q) (is_taken (Rename p q) t) (moves_into_itself (Rename p q)) h in
    let w = tree_walk (walk p t) (first_false _ _ n.0) (first_false _ _ n.1) in
    let e = has_entry p t w.0 (first_false _ _ n.2) w.1 in
    ((e.entries, e.there), dir_walk (walk (parent q) t) (second_false _ _ n.0) (second_false _ _ n.1))

-- the directory at a place
pub spot-is : (f : Form) (o : Table) (names : Names) (t : Tree) (place : Place) (spot : DirAt) → place ≡ place_at f o names t
    → place ≡ at_place.Dir spot.number spot.entries → IsDirAt f o names t spot
spot-is f o names t place spot at is =
    let e = ends_dir (inode_on f o 0 names) spot.number spot.entries (walk names t) (sym is ∙ at) in
    record { inside = e.0; there = e.1; number = e.2; count = e.3 }

pub spot-there : (f : Form) (o : Table) (names : Names) (t : Tree) (place : Place) → place ≡ place_at f o names t
    → IsDirWalk (walk names t) → ((number size : ℕ) → place ≢ at_place.Dir number size) → ⊥
spot-there f o names t place at w none = none (inode_on f o 0 names) (length (rows w.0)) (at ∙ ap (λ x. place_by (inode_on f o 0 names) x) w.1)

-- a move that was found
pub found-move : (result : Result Move Refusal) (found : Option Why) (P : Move → Type 0) → found ≡ None → MatchResult result P (λ r. ⊥)
    → MatchResult result (λ step. (found ≡ None) × P step) (λ r. RefusedAs (refused_of r) found)
found-move (Ok step) found P e h = (e, h)
found-move (Err r) found P e h = absurd h

-- behind the paths
pub move-stages : (t : Tree) (k n : ℕ) (f : Form) (p q : Names) → paths_refusal f (p ∷ q ∷ []) ≡ None
    → refusal t k n f (Rename p q) ≡ or_else (move_refusal p q t) (quota_refusal n f k (next_tree (Rename p q) t))
move-stages t k n f p q names =
    rename-stages t k n f p q ∙ later_stage (paths_refusal f (p ∷ q ∷ [])) (or_else (move_refusal p q t) (quota_refusal n f k (next_tree (Rename p q) t))) names

-- the files and directories below a path are no more than the lot has room for
pub nodes-few : (f : Form) → f ≡ form_one → (mode : ℕ) (lot : LotView) (m : Map) (t : Tree) (k : ℕ) → MapRecovers f mode lot m t k
    → (p : Names) (s : Tree) → walk p t ≡ Found s → nodes s ≤ 64 * length lot.groups
nodes-few f one mode lot m t k r p s found =
    let e = free_nodes_are mode lot m t k (subst (λ (g : Form). MapRecovers g mode lot m t k) one r) in
    let n = nodes-within p t s found in
    omega arith

-- the tree after an accepted operation
pub answer-next : (t : Tree) (k n : ℕ) (f : Form) (op : Operation) → refusal t k n f op ≡ None → next_tree op t ≡ (answer t k n f op).1
answer-next t k n f op h = sym (ap (λ x. (answer_by x op t).1) h)

-- what the last names of the paths are
last-is : (path : Names) (depth : ℕ) (name : List ℕ) → depth < length path → name ≡ get_or path (length path - 1) [] → name ≡ last_name (drop depth path)
last-is path depth name below is =
    let last = length path - 1 in
    sym (ap last_name (names-last path depth last name (omega arith) (omega arith) is) ∙ last-more (take (last - depth) (drop depth path)) name)

pub renames-are : (f : Form) (mode : ℕ) (lot : LotView) (m later : Map) (t : Tree) (k : ℕ) (path to : Names) (depth : ℕ) (step : Move) (name new : List ℕ)
    → later ≡ m → MapRecovers f mode lot m t k → depth < length path → depth < length to
    → name ≡ get_or path (length path - 1) [] → new ≡ get_or to (length to - 1) []
    → step.from.node ≡ inode_of m step.from.number → step.to.node ≡ inode_of m step.to.number
    → (refusal t k (length lot.groups) f (Rename (drop depth path) (drop depth to)) ≡ None) × IsMove f (own f m) (drop depth path) (drop depth to) t step
    → Renames f mode lot later t k (drop depth path) (drop depth to) step name new
renames-are f mode lot m later t k path to depth step name new same r below below_to is_name is_new from into x = record {
  recovers = subst (λ (x : Map). MapRecovers f mode lot x t k) (sym same) r;
  move_is = subst (λ (x : Map). IsMove f (own f x) (drop depth path) (drop depth to) t step) (sym same) x.1;
  from_node = subst (λ (x : Map). step.from.node ≡ inode_of x step.from.number) (sym same) from;
  to_node = subst (λ (x : Map). step.to.node ≡ inode_of x step.to.number) (sym same) into;
  name_is = last-is path depth name below is_name;
  new_is = last-is to depth new below_to is_new;
  accepted = x.0;
}
