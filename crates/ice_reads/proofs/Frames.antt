-- A change of the table outside the inodes of a tree leaves what stands for it.
use Rattle.std.proofs.Common.{◌≡◌, ℕ, suc, ◌+◌, ◌<◌, ◌≤◌, ◌==◌, true, false, cond, List, [], ◌∷◌, ◌++◌, sym, refl, ap, ◌∙◌, subst, arith}
use Rattle.std.proofs.lemmas.Bool.Decides.{nat_tests}
use Rattle.ice_base.specs.Lots.{LotView}
use Rattle.ice_map.specs.Maps.{times}
use Rattle.ice_map.proofs.ListLaws.{times-append, times-cons}
use Rattle.ice_dir.specs.Rows.{DirRow}
use Rattle.tree_spec.specs.Trees.{Tree, File, Dir, Entries, Nil, Entry}
use Rattle.tree_spec.specs.Costs.{Form}
use Rattle.ice_reads.specs.Tables.{Table, rows_in, IsInode, IsFileInode, IsDirInode, inode_named}
use Rattle.ice_reads.specs.Reads.{Reads, ReadsEach, tree_uses, entries_use, used_inodes}

-- ---- how often a number stands in a list

-- the first number of a list stands in it once more than in its tail
pub times-here : (x : ℕ) (xs : List ℕ) → times (x ∷ xs) x ≡ suc (times xs x)
times-here x xs =
    let t : (x == x) ≡ true = grind (arith, nat_tests) in
    times-cons x x xs ∙ ap (λ b. cond b 1 0 + times xs x) t ∙ omega arith

-- a number stands in a list at least as often as in its tail
pub times-there : (x y : ℕ) (xs : List ℕ) → times xs x ≤ times (y ∷ xs) x
times-there x y xs = omega (arith, times-cons y x xs)

-- a number stands in a list as often as in its tail, where another is the first
pub times-other : (x y : ℕ) (xs : List ℕ) → (y == x) ≡ false → times (y ∷ xs) x ≡ times xs x
times-other x y xs e = times-cons y x xs ∙ ap (λ b. cond b 1 0 + times xs x) e ∙ omega arith

-- ---- two tables that agree

-- the inodes that a directory's entries use
abbrev pub inodes_in : Form → Table → List DirRow → Entries → List ℕ
inodes_in f o = entries_use f o (λ i. i ∷ [])

-- two tables agree at the inodes of a list
pub record SameAt (o p : Table) (is : List ℕ) : Type 0 where
  pub at : (k : ℕ) → 0 < times is k → p k ≡ o k

left : {o p : Table} {is : List ℕ} (js : List ℕ) → SameAt o p (is ++ js) → SameAt o p is
left {is = is} js same = record { at = λ k h. same.at k (omega (arith, times-append is js k)) }

right : {o p : Table} (is : List ℕ) {js : List ℕ} → SameAt o p (is ++ js) → SameAt o p js
right is {js = js} same = record { at = λ k h. same.at k (omega (arith, times-append is js k)) }

head : {o p : Table} {i : ℕ} {is : List ℕ} → SameAt o p (i ∷ is) → p i ≡ o i
head {i = i} {is = is} same = same.at i (omega (arith, times-here i is))

tail : {o p : Table} {i : ℕ} {is : List ℕ} → SameAt o p (i ∷ is) → SameAt o p is
tail {i = i} {is = is} same = record { at = λ k h. same.at k (omega (arith, times-there k i is)) }

module _ (f : Form) (lot : LotView) (o p : Table) where
  mutual
    -- where two tables agree at the inodes of a tree, an inode that stands for it in one does in the other
    pub Reads-frame : (i h : ℕ) (t : Tree) → SameAt o p (used_inodes f o i t) → Reads f lot o i h t → Reads f lot p i h t
    Reads-frame i h (File bytes) same r = subst (λ x. IsInode f lot x i h × IsFileInode f x bytes) (sym (head same)) r
    Reads-frame i h (Dir es) same r =
        let e : o i ≡ p i = sym (head same) in
        let own : IsInode f lot (p i) i h × IsDirInode f lot (p i) es = subst (λ x. IsInode f lot x i h × IsDirInode f lot x es) e (r.0, r.1) in
        (own.0, own.1, subst (λ x. ReadsEach f lot p (rows_in f x) (h + 1) es) e (ReadsEach-frame (rows_in f (o i)) (h + 1) es (tail same) r.2))

    pub ReadsEach-frame : (rs : List DirRow) (h : ℕ) (es : Entries) → SameAt o p (inodes_in f o rs es) → ReadsEach f lot o rs h es → ReadsEach f lot p rs h es
    ReadsEach-frame rs h Nil same r = tt
    ReadsEach-frame rs h (Entry c t es) same r =
        (Reads-frame (inode_named c rs) h t (left (inodes_in f o rs es) same) r.0, ReadsEach-frame rs h es (right (used_inodes f o (inode_named c rs) t) same) r.1)

-- `mine` and `yours` say what each inode uses in the two tables
module _ (f : Form) (o p : Table) (mine yours : ℕ → List ℕ) (alike : (k : ℕ) → p k ≡ o k → yours k ≡ mine k) where
  mutual
    -- where two tables agree at the inodes of a tree, it uses the same in both
    pub uses-frame : (i : ℕ) (t : Tree) → SameAt o p (used_inodes f o i t) → tree_uses f p yours i t ≡ tree_uses f o mine i t
    uses-frame i (File bytes) same = alike i (head same)
    uses-frame i (Dir es) same =
        ap (λ x. yours i ++ entries_use f p yours (rows_in f x) es) (head same)
        ∙ (λ j. alike i (head same) j ++ uses_in-frame (rows_in f (o i)) es (tail same) j)

    pub uses_in-frame : (rs : List DirRow) (es : Entries) → SameAt o p (inodes_in f o rs es) → entries_use f p yours rs es ≡ entries_use f o mine rs es
    uses_in-frame rs Nil same = refl
    uses_in-frame rs (Entry c t es) same =
        λ j. uses-frame (inode_named c rs) t (left (inodes_in f o rs es) same) j ++ uses_in-frame rs es (right (used_inodes f o (inode_named c rs) t) same) j
