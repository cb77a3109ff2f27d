-- Two walks come to different inodes: what the inodes at their ends use adds up within what the tree uses.
use Rattle.std.proofs.Common.{◌≡◌, ℕ, ◌+◌, ◌≤◌, ◌≢◌, true, false, cond, List, [], ◌∷◌, ◌++◌, Some, None, sym, refl, ap, ◌∙◌, subst, arith}
use Rattle.std.specs.Ordering.{eq_by_cmp}
use Rattle.std.specs.FinMap.{find}
use Rattle.ice_map.specs.Maps.{times}
use Rattle.ice_map.proofs.ListLaws.{times-append}
use Rattle.ice_dir.specs.Rows.{DirRow}
use Rattle.tree_spec.specs.Trees.{Tree, File, Dir, Entries, Nil, Entry, rows, by_bytes, walk, and_on, found_or_not, Found}
use Rattle.tree_spec.specs.Costs.{Form}
use Rattle.tree_spec.proofs.Trees.{same_name, is_same_name-sym}
use Rattle.ice_reads.specs.Tables.{Table, rows_in, inode_named}
use Rattle.ice_reads.specs.Reads.{tree_uses, entries_use, inode_on}
use Rattle.ice_reads.proofs.Focus.{uses-entry, uses-part, Found≢NotFound, Found≢NotDir, same_Some, None≢Some}

module _ (f : Form) (o : Table) (mine : ℕ → List ℕ) (k : ℕ) where
  uses-own : (i : ℕ) (t : Tree) → times (mine i) k ≤ times (tree_uses f o mine i t) k
  uses-own i (File bytes) = omega arith
  uses-own i (Dir es) = omega (arith, times-append (mine i) (entries_use f o mine (rows_in f (o i)) es) k)

  abbrev Sum : List DirRow → List ℕ → List ℕ → Tree → Tree → Entries → Type 0
  Sum rs c d u v es =
      times (tree_uses f o mine (inode_named c rs) u) k + times (tree_uses f o mine (inode_named d rs) v) k ≤ times (entries_use f o mine rs es) k

  -- the first entry is c's
  with_first : (rs : List DirRow) (c x d : List ℕ) (t u v : Tree) (es : Entries) → c ≡ x → t ≡ u → find by_bytes d (rows es) ≡ Some v
      → Sum rs c d u v (Entry x t es)
  with_first rs c x d t u v es is same found =
      omega (
        arith,
        times-append (tree_uses f o mine (inode_named x rs) t) (entries_use f o mine rs es) k,
        uses-entry f o mine k rs d es v found,
        ap (λ y. times (tree_uses f o mine (inode_named y rs) u) k) is,
        ap (λ y. times (tree_uses f o mine (inode_named x rs) y) k) same,
      )

  two_entries : (rs : List DirRow) (c d : List ℕ) (u v : Tree) (es : Entries) → eq_by_cmp by_bytes c d ≡ false
      → eq_by_cmp by_bytes d c ≡ false → find by_bytes c (rows es) ≡ Some u → find by_bytes d (rows es) ≡ Some v → Sum rs c d u v es
  two_entries rs c d u v Nil cd dc is js = absurd (None≢Some u is)
  two_entries rs c d u v (Entry x t es) cd dc is js =
      elim (eq_by_cmp by_bytes c x) as (λ b. eq_by_cmp by_bytes c x ≡ b → cond b (Some t) (find by_bytes c (rows es)) ≡ Some u
      → Sum rs c d u v (Entry x t es)) [
        | true ↦ λ e is.
            let at : c ≡ x = same_name c x e in
            let past : find by_bytes d (rows es) ≡ Some v = subst (λ b. cond b (Some t) (find by_bytes d (rows es)) ≡ Some v)
            (ap (λ y. eq_by_cmp by_bytes d y) (sym at) ∙ dc) js in
            with_first rs c x d t u v es at (same_Some _ _ is) past
        | false ↦ λ e is.
            elim (eq_by_cmp by_bytes d x) as (λ b. eq_by_cmp by_bytes d x ≡ b → cond b (Some t) (find by_bytes d (rows es)) ≡ Some v
            → Sum rs c d u v (Entry x t es)) [
              | true ↦ λ g js.
                  let here : Sum rs d c v u (Entry x t es) = with_first rs d x c t v u es (same_name d x g) (same_Some _ _ js) is in omega (arith, here)
              | false ↦ λ g js.
                  omega (arith, times-append (tree_uses f o mine (inode_named x rs) t) (entries_use f o mine rs es) k, two_entries rs c d u v es cd dc is js)
            ] refl js
      ] refl is

  ends : (i : ℕ) (t s : Tree) (q : List (List ℕ)) → walk q t ≡ Found s → times (mine (inode_on f o i q)) k ≤ times (tree_uses f o mine i t) k
  ends i t s q h = omega (arith, uses-part f o mine k q i t s h, uses-own (inode_on f o i q) s)

  abbrev Ends : List (List ℕ) → List (List ℕ) → ℕ → Tree → Type 0
  Ends p q i t = times (mine (inode_on f o i p)) k + times (mine (inode_on f o i q)) k ≤ times (tree_uses f o mine i t) k

  deeper : (c : List ℕ) (q : List (List ℕ)) (i : ℕ) (es : Entries) (s : Tree) → walk (c ∷ q) (Dir es) ≡ Found s
      → times (mine i) k + times (mine (inode_on f o i (c ∷ q))) k ≤ times (tree_uses f o mine i (Dir es)) k
  deeper c q i es s h =
      elim (find by_bytes c (rows es)) as (λ x. find by_bytes c (rows es) ≡ x → and_on (found_or_not x) (λ u. walk q u) ≡ Found s
      → times (mine i) k + times (mine (inode_on f o i (c ∷ q))) k ≤ times (mine i ++ entries_use f o mine (rows_in f (o i)) es) k) [
        | None ↦ λ e is. absurd (Found≢NotFound _ (sym is))
        | Some u ↦ λ e is.
            omega (arith, times-append (mine i) (entries_use f o mine (rows_in f (o i)) es) k, uses-entry f o mine k (rows_in f (o i)) c es u e, ends (inode_named c (rows_in f (o i))) u s q is)
      ] refl h

  -- two different walks
  pub two_walks : (p q : List (List ℕ)) (i : ℕ) (t s u : Tree) → p ≢ q → walk p t ≡ Found s → walk q t ≡ Found u → Ends p q i t
  two_walks [] [] i t s u ne g h = absurd (ne refl)
  two_walks [] (d ∷ q) i (File bytes) s u ne g h = absurd (Found≢NotDir _ (sym h))
  two_walks [] (d ∷ q) i (Dir es) s u ne g h = deeper d q i es u h
  two_walks (c ∷ p) q i (File bytes) s u ne g h = absurd (Found≢NotDir _ (sym g))
  two_walks (c ∷ p) [] i (Dir es) s u ne g h =
      let x : times (mine i) k + times (mine (inode_on f o i (c ∷ p))) k ≤ times (tree_uses f o mine i (Dir es)) k = deeper c p i es s g in omega (arith, x)
  two_walks (c ∷ p) (d ∷ q) i (Dir es) s u ne g h =
      elim (find by_bytes c (rows es)) as (λ x. find by_bytes c (rows es) ≡ x → and_on (found_or_not x) (λ u. walk p u) ≡ Found s
      → Ends (c ∷ p) (d ∷ q) i (Dir es)) [
        | None ↦ λ e is. absurd (Found≢NotFound _ (sym is))
        | Some v ↦ λ e is.
            elim (find by_bytes d (rows es)) as (λ x. find by_bytes d (rows es) ≡ x → and_on (found_or_not x) (λ u. walk q u) ≡ Found u
            → Ends (c ∷ p) (d ∷ q) i (Dir es)) [
              | None ↦ λ a js. absurd (Found≢NotFound _ (sym js))
              | Some w ↦ λ a js.
                  elim (eq_by_cmp by_bytes c d) as (λ b. eq_by_cmp by_bytes c d ≡ b → Ends (c ∷ p) (d ∷ q) i (Dir es)) [
                    | true ↦ λ same.
                        let at : c ≡ d = same_name c d same in
                        let v_is : w ≡ v = same_Some _ _ (sym a ∙ ap (λ x. find by_bytes x (rows es)) (sym at) ∙ e) in
                        let below : Ends p q (inode_named c (rows_in f (o i))) v = two_walks p q (inode_named c (rows_in f (o i))) v s u
                        (λ z. ne (λ j. at j ∷ z j)) is (subst (λ x. walk q x ≡ Found u) v_is js) in
                        omega (arith, below, times-append (mine i) (entries_use f o mine (rows_in f (o i)) es) k, uses-entry f o mine k (rows_in f (o i)) c es v e, ap (λ x. times (mine (inode_on f o (inode_named x (rows_in f (o i))) q)) k) at)
                    | false ↦ λ same.
                        omega (
                          arith,
                          times-append (mine i) (entries_use f o mine (rows_in f (o i)) es) k,
                          two_entries (rows_in f (o i)) c d v w es same (is_same_name-sym d c ∙ same) e a,
                          ends (inode_named c (rows_in f (o i))) v s p is,
                          ends (inode_named d (rows_in f (o i))) w u q js,
                        )
                  ] refl
            ] refl h
      ] refl g
