-- A directory of the tree that lost a row: what the row named stands loose.
use Rattle.std.proofs.Common.{◌≡◌, ◌≢◌, ◌≤◌, ◌<◌, ◌+◌, ◌==◌, ℕ, T, Bool, cond, true, false, List, [], ◌∷◌, ◌++◌, length, Option, None, Some, ◌∙◌, sym, refl, ap, subst, arith}
use Rattle.std.specs.Prelude.{is_some, unwrap_or}
use Rattle.std.specs.FinMap.{find}
use Rattle.std.specs.Ordering.{eq_by_cmp}
use Rattle.std.proofs.lemmas.Bool.Decides.{nat_tests}
use Rattle.ice_base.specs.Lots.{LotView}
use Rattle.ice_map.specs.Maps.{times}
use Rattle.ice_map.proofs.ListLaws.{times-append, has-times}
use Rattle.ice_map.specs.Own.{own}
use Rattle.ice_dir.specs.Rows.{dir_rows_of, look_up, rows_without}
use Rattle.ice_dir.specs.Changes.{DirSet}
use Rattle.tree_spec.specs.Trees.{Tree, File, Dir, Entries, rows, by_bytes, Found, walk, and_on, found_or_not, at, without_entry}
use Rattle.tree_spec.specs.Costs.{Form, form_one}
use Rattle.ice_reads.specs.Tables.{Map, Table, rows_in, inode_named, IsDirInode}
use Rattle.ice_reads.specs.Reads.{Reads, used_blocks, used_inodes, tree_uses, entries_use, inode_on}
use Rattle.ice_reads.specs.Recovers.{MapRecovers}
use Rattle.ice_reads.proofs.Frames.{times-there}
use Rattle.ice_reads.proofs.Focus.{uses-part, uses-entry, entry_reads, Found≢NotFound, Found≢NotDir}
use Rattle.ice_reads.proofs.LookUps.{look_up-find}
use Rattle.ice_reads.proofs.Numbers.{Reads-number, Reads-data}
use Rattle.ice_reads.proofs.Steps.{SameBut}
use Rattle.ice_reads.proofs.Losses.{LosesRow}
use Rattle.ice_reads.proofs.Losses as law
use Rattle.ice_reads.proofs.Moves.{Reads-without_entry, uses-without_entry, Reads-gone, uses-gone}
use Rattle.ice_steps.specs.Beside.{Beside}
use Rattle.ice_steps.proofs.Recovers.{recovers_beside}
use Rattle.ice_steps.proofs.Made.{inode-first, beside_part}
use Rattle.ice_steps.proofs.Others.{loose-none, all, tree-once, beside_but}
use Rattle.ice_steps.proofs.Sets.{Adds, set-inode, dir-after, beside-set}

some_value : (x : Option ℕ) → is_some x ≡ true → x ≡ Some (unwrap_or x 0)
some_value None e = absurd (subst T (sym e) tt)
some_value (Some j) e = refl

-- a walk of what is left comes to the inode to which it came
module _ (f : Form) (lot : LotView) (o p : Table) (here : ℕ) (c : List ℕ)
    (others : (d : List ℕ) → find by_bytes d (rows_in f (p here)) ≡ cond (eq_by_cmp by_bytes c d) None (find by_bytes d (rows_in f (o here)))) where
  not_gone : (b : Bool) (x : Option ℕ) → is_some (cond b None x) ≡ true → cond b None x ≡ x
  not_gone true x e = absurd (subst T (sym e) tt)
  not_gone false x e = refl

  same_next : (i : ℕ) (d : List ℕ) (es : Entries) (w : Tree) → (i ≢ here → p i ≡ o i) → find by_bytes d (rows es) ≡ Some w
      → IsDirInode f lot (p i) es → inode_named d (rows_in f (p i)) ≡ inode_named d (rows_in f (o i))
  same_next i d es w same e r =
      elim (i == here) as (λ t. (i == here) ≡ t → inode_named d (rows_in f (p i)) ≡ inode_named d (rows_in f (o i))) [
        | true ↦ λ t.
            let at : i ≡ here = grind (arith, nat_tests) in
            let some : is_some (find by_bytes d (rows_in f (p here))) ≡ true = ap (λ x. is_some (find by_bytes d (rows_in f (p x))))
            (sym at) ∙ sym (r.maps d) ∙ ap is_some e in
            ap (λ x. inode_named d (rows_in f (p x))) at
            ∙ ap (λ x. unwrap_or x 0) (others d ∙ not_gone (eq_by_cmp by_bytes c d) (find by_bytes d (rows_in f (o here))) (ap is_some (sym (others d)) ∙ some))
            ∙ ap (λ x. inode_named d (rows_in f (o x))) (sym at)
        | false ↦ λ t. ap (λ x. inode_named d (rows_in f x)) (same (grind (arith, nat_tests)))
      ] refl

  same_walk : (to : List (List ℕ)) (i h : ℕ) (s u : Tree) → walk to s ≡ Found u → Reads f lot p i h s
      → ((x : ℕ) → x ≢ here → 0 < times (used_inodes f p i s) x → p x ≡ o x) → inode_on f p i to ≡ inode_on f o i to
  same_walk [] i h s u e r same = refl
  same_walk (d ∷ to) i h (File bytes) u e r same = absurd (Found≢NotDir _ (sym e))
  same_walk (d ∷ to) i h (Dir es) u e r same =
      elim (find by_bytes d (rows es)) as (λ x. find by_bytes d (rows es) ≡ x → and_on (found_or_not x) (λ w. walk to w) ≡ Found u
      → inode_on f p i (d ∷ to) ≡ inode_on f o i (d ∷ to)) [
        | None ↦ λ a is. absurd (Found≢NotFound _ (sym is))
        | Some w ↦ λ a is.
            let next = same_next i d es w (λ ne. same i ne (inode-first f p i (Dir es))) a r.1 in
            let below = entry_reads f lot p (rows_in f (p i)) (h + 1) d es w a r.2 in
            same_walk to (inode_named d (rows_in f (p i))) (h + 1) w u is below (λ x ne l. same x ne
            (let g = uses-entry f p (λ i. i ∷ []) x (rows_in f (p i)) d es w a in
            let n = times-there x i (entries_use f p (λ i. i ∷ []) (rows_in f (p i)) es) in omega arith))
            ∙ ap (λ x. inode_on f o x to) next
      ] refl e

module _ (mode : ℕ) (lot : LotView) (m m' : Map) (t : Tree) (k : ℕ) (q : List (List ℕ)) (c : List ℕ) (v : Tree) (es : Entries)
    (r : MapRecovers form_one mode lot m t k) (found : walk q t ≡ Found (Dir es)) (is : find by_bytes c (rows es) ≡ Some v)
    (set : DirSet lot form_one m m' (inode_on form_one (own form_one m) 0 q) (rows_without c (dir_rows_of form_one m (inode_on form_one (own form_one m) 0 q)))) where
  abbrev here : ℕ
  here = inode_on form_one (own form_one m) 0 q

  abbrev gone : ℕ
  gone = inode_named c (dir_rows_of form_one m (inode_on form_one (own form_one m) 0 q))

  b : Beside form_one mode lot m t k [] []
  b = recovers_beside form_one mode lot m t k r

  in-tree : 0 < times (used_inodes form_one (own form_one m) 0 t) here
  in-tree =
      let e = uses-part form_one (own form_one m) (λ i. i ∷ []) here q 0 t (Dir es) found in
      let f = inode-first form_one (own form_one m) here (Dir es) in
      omega arith

  in-all : 0 < times (all mode lot m t k [] [] b) here
  in-all = let e = times-append (used_inodes form_one (own form_one m) 0 t) [] here in let i = in-tree in omega arith

  but : SameBut (own form_one m) (own form_one m') here (used_inodes form_one (own form_one m) 0 t)
  but = record {
    at = λ x ne h. (beside_but mode lot m t k [] [] b (loose-none lot m) m' here set.set in-all).at x ne
        (let e = times-append (used_inodes form_one (own form_one m) 0 t) [] x in omega arith);
  }

  is-dir : IsDirInode form_one lot (own form_one m here) es
  is-dir = (beside_part mode lot m t k [] [] b q (Dir es) found).1

  named : look_up c (dir_rows_of form_one m here) ≡ Some gone
  named = look_up-find c (dir_rows_of form_one m here) ∙ some_value (find by_bytes c (dir_rows_of form_one m here)) (sym (is-dir.maps c) ∙ ap is_some is)

  loses : LosesRow form_one lot (own form_one m here) (own form_one m' here) here (length q) c
  loses =
      law.loses_row form_one lot (own form_one m here) (own form_one m' here) here (length q)
      (set-inode lot m m' here (length q) set.set) set.is.kind set.is.few c gone es is-dir named set.rows

  once : (x : ℕ) → times (used_inodes form_one (own form_one m) 0 t) x ≤ 1
  once = tree-once mode lot m t k [] [] b

  pub gone_reads : Reads form_one lot (own form_one m') gone (length q + 1) v
  gone_reads = Reads-gone form_one lot (own form_one m) (own form_one m') q c v t es r.holds.reads found is once but loses

  moves : (mine yours : ℕ → List ℕ) → ((x : ℕ) → own form_one m' x ≡ own form_one m x → yours x ≡ mine x) → (measure : List ℕ → ℕ) → Adds measure
      → measure (tree_uses form_one (own form_one m') yours 0 (at q (without_entry c) t) ++ tree_uses form_one (own form_one m') yours gone v) + measure (mine here) ≡ measure (tree_uses form_one (own form_one m) mine 0 t ++ []) + measure (yours here)
  moves mine yours alike measure sums =
      let e = uses-without_entry form_one lot (own form_one m)
      (own form_one m') q c v t es r.holds.reads found is once but loses mine yours alike measure sums in
      let f = ap measure (uses-gone form_one lot (own form_one m) (own form_one m') q c v t es r.holds.reads found is once but loses mine yours alike) in
      let g = sums (tree_uses form_one (own form_one m') yours 0 (at q (without_entry c) t)) (tree_uses form_one (own form_one m') yours gone v) in
      let h = sums (tree_uses form_one (own form_one m) mine 0 t) [] in
      let z = sums [] [] in
      omega arith

  after : Beside form_one mode lot m' (at q (without_entry c) t) k (used_blocks form_one (own form_one m') gone v) (used_inodes form_one (own form_one m') gone v)
  after =
      beside-set mode lot m m' t (at q (without_entry c) t) k [] (used_blocks form_one (own form_one m') gone v) []
      (used_inodes form_one (own form_one m') gone v) here b (loose-none lot m) in-all set.set
      (dir-after q (without_entry c) t (Dir es) found b.dir (λ e. refl))
      (Reads-without_entry form_one lot (own form_one m) (own form_one m') q c v t es r.holds.reads found is once but loses)
      (λ measure sums. moves (λ i. (own form_one m i).uses) (λ i. (own form_one m' i).uses) (λ x e. ap (λ o. o.uses) e) measure sums)
      (λ measure sums. let e = moves (λ i. i ∷ []) (λ i. i ∷ []) (λ x e. refl) measure sums in omega arith)
      (λ a h. Reads-data form_one lot (own form_one m') a gone (length q + 1) v gone_reads (has-times (used_blocks form_one (own form_one m') gone v) a h))
      (λ i h. Reads-number form_one lot (own form_one m') i gone (length q + 1) v gone_reads (has-times (used_inodes form_one (own form_one m') gone v) i h))

  -- the map holds the tree without the entry, and the entry's tree loose beside it
  pub loses_row : Beside form_one mode lot m' (at q (without_entry c) t) k (used_blocks form_one (own form_one m') gone v) (used_inodes form_one (own form_one m') gone v) × Reads form_one lot (own form_one m') gone (length q + 1) v
  loses_row = (after, gone_reads)

  -- and a walk of the tree that is left comes to the inode to which it came before
  pub walk_left : (to : List (List ℕ)) (u : Tree) → walk to (at q (without_entry c) t) ≡ Found u
      → inode_on form_one (own form_one m') 0 to ≡ inode_on form_one (own form_one m) 0 to
  walk_left to u there = same_walk form_one lot (own form_one m) (own form_one m') here c loses.others to 0 0 (at q (without_entry c) t) u there after.reads
      (λ x ne h. but.at x ne
      (let e = moves (λ i. i ∷ []) (λ i. i ∷ []) (λ x e. refl) (λ us. times us x) (λ us vs. times-append us vs x) in
      let g = times-append (used_inodes form_one (own form_one m') 0 (at q (without_entry c) t)) (used_inodes form_one (own form_one m') gone v) x in
      let l = times-append (used_inodes form_one (own form_one m) 0 t) [] x in
      omega arith))
