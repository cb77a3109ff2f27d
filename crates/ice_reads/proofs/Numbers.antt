-- What a tree uses: numbers of the lot, data places, and no more than its inodes use.
use Rattle.std.proofs.Common.{◌≡◌, ℕ, suc, zero, ◌+◌, ◌*◌, ◌<◌, ◌≤◌, ◌≢◌, ◌==◌, true, false, List, [], ◌∷◌, ◌++◌, length, sym, refl, ap, ◌∙◌, subst, arith, inl, inr, ⊎_elim}
use Rattle.std.specs.Prelude.{flat_map, ◌⊎◌}
use Rattle.std.proofs.lemmas.Bool.Decides.{nat_tests}
use Rattle.std.proofs.lemmas.Grind.{flat_map-append}
use Rattle.std.proofs.lemmas.List.{append-nil}
use Rattle.ice_base.specs.Lots.{LotView}
use Rattle.ice_base.specs.Used.{is_data}
use Rattle.ice_map.specs.Maps.{times}
use Rattle.ice_map.proofs.ListLaws.{times-append}
use Rattle.ice_map.proofs.UsesLaws.{times-has}
use Rattle.ice_dir.specs.Rows.{DirRow}
use Rattle.tree_spec.specs.Trees.{Tree, File, Dir, Entries, Nil, Entry, height, height_in}
use Rattle.tree_spec.specs.Costs.{Form}
use Rattle.tree_spec.specs.Answers.{deepest}
use Rattle.ice_reads.specs.Tables.{Table, rows_in, IsInode, inode_named}
use Rattle.ice_reads.specs.Reads.{Reads, ReadsEach, tree_uses, entries_use, used_blocks, used_inodes}
use Rattle.ice_reads.proofs.Frames.{inodes_in, times-other}

-- ---- the used things are those of the used inodes

module _ (f : Form) (o : Table) (mine : ℕ → List ℕ) where
  mutual
    -- a tree uses what its inodes use, one after another
    pub uses-flat : (i : ℕ) (t : Tree) → tree_uses f o mine i t ≡ flat_map mine (used_inodes f o i t)
    uses-flat i (File bytes) = sym (append-nil (mine i))
    uses-flat i (Dir es) = ap (λ xs. mine i ++ xs) (uses_in-flat (rows_in f (o i)) es)

    -- entries use what the inodes of their trees use, one after another
    pub uses_in-flat : (rs : List DirRow) (es : Entries) → entries_use f o mine rs es ≡ flat_map mine (inodes_in f o rs es)
    uses_in-flat rs Nil = refl
    uses_in-flat rs (Entry c t es) =
        (λ x. uses-flat (inode_named c rs) t x ++ uses_in-flat rs es x)
        ∙ sym (flat_map-append mine (used_inodes f o (inode_named c rs) t) (inodes_in f o rs es))

-- what an inode of a list uses, the inodes of the list use
pub one_of : (mine : ℕ → List ℕ) (a i : ℕ) (is : List ℕ) → 0 < times is i → times (mine i) a ≤ times (flat_map mine is) a
one_of mine a i [] h = absurd (omega arith)
one_of mine a i (x ∷ is) h =
    elim (x == i) as (λ b. (x == i) ≡ b → times (mine i) a ≤ times (mine x ++ flat_map mine is) a) [
      | true ↦ λ e. let same : x ≡ i = grind (arith, nat_tests) in omega (arith, times-append (mine x) (flat_map mine is) a, ap (λ y. times (mine y) a) same)
      | false ↦ λ e. omega (arith, times-append (mine x) (flat_map mine is) a, one_of mine a i is (omega (arith, times-other i x is e)))
    ] refl

-- what two different inodes of a list use adds up
pub apart : (mine : ℕ → List ℕ) (a i k : ℕ) (is : List ℕ) → i ≢ k → 0 < times is i → 0 < times is k
    → times (mine i) a + times (mine k) a ≤ times (flat_map mine is) a
apart mine a i k [] ne h g = absurd (omega arith)
apart mine a i k (x ∷ is) ne h g =
    elim (x == i) as (λ b. (x == i) ≡ b → times (mine i) a + times (mine k) a ≤ times (mine x ++ flat_map mine is) a) [
      | true ↦ λ e.
          let same : x ≡ i = grind (arith, nat_tests) in
          let other : (x == k) ≡ false = differs x k (λ q. ne (sym same ∙ q)) in
          omega (arith, times-append (mine x) (flat_map mine is) a, ap (λ y. times (mine y) a) same, one_of mine a k is (omega (arith, times-other k x is other)))
      | false ↦ λ e. elim (x == k) as (λ b. (x == k) ≡ b → times (mine i) a + times (mine k) a ≤ times (mine x ++ flat_map mine is) a) [
        | true ↦ λ d.
            let same : x ≡ k = grind (arith, nat_tests) in
            omega (arith, times-append (mine x) (flat_map mine is) a, ap (λ y. times (mine y) a) same, one_of mine a i is (omega (arith, times-other i x is e)))
        | false ↦ λ d.
            omega (arith, times-append (mine x) (flat_map mine is) a, apart mine a i k is ne (omega (arith, times-other i x is e)) (omega (arith, times-other k x is d)))
      ] refl
    ] refl
  where
    differs : (a b : ℕ) → a ≢ b → (a == b) ≡ false
    differs a b ne = grind (arith, nat_tests)

-- what one used inode uses, and what two use
module _ (f : Form) (o : Table) (mine : ℕ → List ℕ) (a i k n : ℕ) (t : Tree) where
  -- a tree uses a number at least as often as any one of its inodes does
  pub used-one : 0 < times (used_inodes f o n t) i → times (mine i) a ≤ times (tree_uses f o mine n t) a
  used-one h = omega (arith, one_of mine a i (used_inodes f o n t) h, ap (λ xs. times xs a) (uses-flat f o mine n t))

  -- a tree uses a number at least as often as any two of its inodes do together
  pub used-apart : i ≢ k → 0 < times (used_inodes f o n t) i → 0 < times (used_inodes f o n t) k
      → times (mine i) a + times (mine k) a ≤ times (tree_uses f o mine n t) a
  used-apart ne h g = omega (arith, apart mine a i k (used_inodes f o n t) ne h g, ap (λ xs. times xs a) (uses-flat f o mine n t))

-- ---- what holds of each inode of a tree holds of all that it uses

either : (a b : ℕ) → 0 < a + b → (0 < a) ⊎ (0 < b)
either zero b h = inr (omega arith)
either (suc a) b h = inl (omega arith)

split : (xs ys : List ℕ) (k : ℕ) → 0 < times (xs ++ ys) k → (0 < times xs k) ⊎ (0 < times ys k)
split xs ys k h = either (times xs k) (times ys k) (subst (λ x. 0 < x) (times-append xs ys k) h)

module _ (f : Form) (lot : LotView) (o : Table) (mine : ℕ → List ℕ) (k : ℕ) (P : Type 0)
    (each : (i h : ℕ) → IsInode f lot (o i) i h → 0 < times (mine i) k → P) where
  mutual
    used-all : (i h : ℕ) (t : Tree) → Reads f lot o i h t → 0 < times (tree_uses f o mine i t) k → P
    used-all i h (File bytes) r c = each i h r.0 c
    used-all i h (Dir es) r c =
        ⊎_elim (λ q. each i h r.0 q) (λ q. entries-all (rows_in f (o i)) (h + 1) es r.2 q) (split (mine i) (entries_use f o mine (rows_in f (o i)) es) k c)

    entries-all : (rs : List DirRow) (h : ℕ) (es : Entries) → ReadsEach f lot o rs h es → 0 < times (entries_use f o mine rs es) k → P
    entries-all rs h Nil r c = absurd (omega arith)
    entries-all rs h (Entry d t es) r c =
        ⊎_elim (λ q. used-all (inode_named d rs) h t r.0 q) (λ q. entries-all rs h es r.1 q)
        (split (tree_uses f o mine (inode_named d rs) t) (entries_use f o mine rs es) k c)

module _ (f : Form) (lot : LotView) (o : Table) where
  -- every used inode can be one of the lot, at some depth
  pub Reads-inode : (k i h : ℕ) (t : Tree) → Reads f lot o i h t → 0 < times (used_inodes f o i t) k → (d : ℕ) × IsInode f lot (o k) k d
  Reads-inode k i h t r c =
      used-all f lot o (λ i. i ∷ []) k ((d : ℕ) × IsInode f lot (o k) k d)
      (λ j d own q. (d, subst (λ x. IsInode f lot (o x) x d) (sym (alone j k q)) own)) i h t r c
    where
      alone : (j k : ℕ) → 0 < times (j ∷ []) k → k ≡ j
      alone j k q =
          elim (j == k) as (λ b. (j == k) ≡ b → k ≡ j) [
            | true ↦ λ e. grind (arith, nat_tests)
            | false ↦ λ e. absurd (omega (arith, times-other k j [] e))
          ] refl

  -- each inode that a tree uses is one of the lot
  pub Reads-number : (k i h : ℕ) (t : Tree) → Reads f lot o i h t → 0 < times (used_inodes f o i t) k → k < 64 * length lot.groups
  Reads-number k i h t r c = (Reads-inode k i h t r c).1.number

  -- each block that a tree uses is a data place
  pub Reads-data : (b i h : ℕ) (t : Tree) → Reads f lot o i h t → 0 < times (used_blocks f o i t) b → is_data lot b ≡ true
  Reads-data b i h t r c =
      used-all f lot o (λ i. (o i).uses) b (is_data lot b ≡ true) (λ j d own q. own.places b (times-has (o j).uses b (omega (arith, q)))) i h t r c

  mutual
    -- the depth of an inode that stands for a tree leaves room for the tree's height
    pub Reads-depth : (i h : ℕ) (t : Tree) → Reads f lot o i h t → h + height t ≤ deepest
    Reads-depth i h (File bytes) r = omega (arith, r.0.depth)
    Reads-depth i h (Dir es) r = omega (arith, r.0.depth, ReadsEach-depth (rows_in f (o i)) (h + 1) es (omega (arith, r.0.depth)) r.2)

    pub ReadsEach-depth : (rs : List DirRow) (h : ℕ) (es : Entries) → h ≤ deepest + 1 → ReadsEach f lot o rs h es → h + height_in es ≤ deepest + 1
    ReadsEach-depth rs h Nil low r = omega arith
    ReadsEach-depth rs h (Entry d t es) low r = omega (arith, Reads-depth (inode_named d rs) h t r.0, ReadsEach-depth rs h es low r.1)
