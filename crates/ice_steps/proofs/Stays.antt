-- Where the inodes of a tree say what they said, a walk comes to the inode to which it came, and that has the same rows and bytes.
use Rattle.std.proofs.Common.{◌≡◌, ◌<◌, ℕ, List, [], ◌∷◌, None, Some, ◌∙◌, sym, refl, ap, arith}
use Rattle.std.specs.FinMap.{find}
use Rattle.ice_map.specs.Maps.{times}
use Rattle.ice_map.specs.Own.{own}
use Rattle.tree_spec.specs.Trees.{Tree, File, Dir, rows, by_bytes, walk, and_on, found_or_not, Found}
use Rattle.tree_spec.specs.Costs.{Form, form_one}
use Rattle.ice_reads.specs.Tables.{Map, Table, rows_in, inode_named}
use Rattle.ice_reads.specs.Reads.{used_inodes, entries_use, inode_on}
use Rattle.ice_reads.proofs.Frames.{SameAt, times-there}
use Rattle.ice_reads.proofs.Focus.{uses-entry, Found≢NotFound, Found≢NotDir}
use Rattle.ice_steps.proofs.Made.{inode-first}

module _ (f : Form) (o p : Table) where
  same_walk : (q : List (List ℕ)) (i : ℕ) (t s : Tree) → walk q t ≡ Found s → ((x : ℕ) → 0 < times (used_inodes f o i t) x → p x ≡ o x)
      → inode_on f p i q ≡ inode_on f o i q
  same_walk [] i t s found same = refl
  same_walk (c ∷ q) i (File bytes) s found same = absurd (Found≢NotDir _ (sym found))
  same_walk (c ∷ q) i (Dir es) s found same =
      elim (find by_bytes c (rows es)) as (λ x. find by_bytes c (rows es) ≡ x → and_on (found_or_not x) (λ u. walk q u) ≡ Found s
      → inode_on f p i (c ∷ q) ≡ inode_on f o i (c ∷ q)) [
        | None ↦ λ e is. absurd (Found≢NotFound _ (sym is))
        | Some u ↦ λ e is.
            ap (λ x. inode_on f p (inode_named c (rows_in f x)) q) (same i (inode-first f o i (Dir es)))
            ∙ same_walk q (inode_named c (rows_in f (o i))) u s is (λ x l. same x
            (let g = uses-entry f o (λ i. i ∷ []) x (rows_in f (o i)) c es u e in
            let n = times-there x i (entries_use f o (λ i. i ∷ []) (rows_in f (o i)) es) in omega arith))
      ] refl found

module _ (m m' : Map) (t : Tree) (same : SameAt (own form_one m) (own form_one m') (used_inodes form_one (own form_one m) 0 t))
    (q : List (List ℕ)) (s : Tree) (found : walk q t ≡ Found s) where
  -- the walk comes to the inode to which it came
  pub stays_walk : inode_on form_one (own form_one m') 0 q ≡ inode_on form_one (own form_one m) 0 q
  stays_walk = same_walk form_one (own form_one m) (own form_one m') q 0 t s found same.at
