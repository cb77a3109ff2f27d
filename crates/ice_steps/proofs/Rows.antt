-- A directory of the tree that gained a row for a tree that stood loose.
use Rattle.std.proofs.Common.{◌≡◌, ◌<◌, ◌+◌, ℕ, List, [], ◌∷◌, ◌++◌, length, None, refl, ap, arith}
use Rattle.std.specs.FinMap.{find}
use Rattle.ice_base.specs.Lots.{LotView}
use Rattle.ice_map.specs.Maps.{times}
use Rattle.ice_map.proofs.ListLaws.{times-append, has-none}
use Rattle.ice_map.specs.Own.{own}
use Rattle.ice_dir.specs.Rows.{dir_rows_of}
use Rattle.ice_dir.specs.Changes.{DirSet}
use Rattle.tree_spec.specs.Trees.{Tree, Dir, Entries, rows, by_bytes, Found, walk, at, with_entry}
use Rattle.tree_spec.specs.Costs.{form_one}
use Rattle.ice_reads.specs.Tables.{Map, IsNameOf}
use Rattle.ice_reads.specs.Reads.{Reads, used_blocks, used_inodes, tree_uses, inode_on}
use Rattle.ice_reads.proofs.Frames.{SameAt, Reads-frame, uses-frame}
use Rattle.ice_reads.proofs.Focus.{uses-part}
use Rattle.ice_reads.proofs.Steps.{SameBut, AddsRow, Reads-with_entry, uses-with_entry}
use Rattle.ice_reads.proofs.Losses.{adds_row}
use Rattle.ice_steps.specs.Beside.{Beside}
use Rattle.ice_steps.proofs.Made.{inode-first}
use Rattle.ice_steps.proofs.Others.{Loose, loose-tree, all, all-apart, tree-once, beside_but}
use Rattle.ice_steps.proofs.Sets.{Adds, set-inode, dir-after, beside-set}

module _ (mode : ℕ) (lot : LotView) (m m' : Map) (t : Tree) (k : ℕ) (q : List (List ℕ)) (c : List ℕ) (j : ℕ) (v : Tree) (es : Entries)
    (b : Beside form_one mode lot m t k (used_blocks form_one (own form_one m) j v) (used_inodes form_one (own form_one m) j v))
    (found : walk q t ≡ Found (Dir es)) (free : find by_bytes c (rows es) ≡ None)
    (name : IsNameOf form_one c) (r : Reads form_one lot (own form_one m) j (length q + 1) v)
    (set : DirSet lot form_one m m' (inode_on form_one (own form_one m) 0 q) (dir_rows_of form_one m (inode_on form_one (own form_one m) 0 q) ++ (c, j) ∷ [])) where
  abbrev here : ℕ
  here = inode_on form_one (own form_one m) 0 q

  abbrev blocks : List ℕ
  blocks = used_blocks form_one (own form_one m) j v

  abbrev inodes : List ℕ
  inodes = used_inodes form_one (own form_one m) j v

  loose : Loose lot m blocks inodes
  loose = loose-tree lot m j (length q + 1) v r

  in-tree : 0 < times (used_inodes form_one (own form_one m) 0 t) here
  in-tree =
      let e = uses-part form_one (own form_one m) (λ i. i ∷ []) here q 0 t (Dir es) found in
      let f = inode-first form_one (own form_one m) here (Dir es) in
      omega arith

  in-all : 0 < times (all mode lot m t k blocks inodes b) here
  in-all = let e = times-append (used_inodes form_one (own form_one m) 0 t) inodes here in let i = in-tree in omega arith

  but : SameBut (own form_one m) (own form_one m') here (all mode lot m t k blocks inodes b)
  but = beside_but mode lot m t k blocks inodes b loose m' here set.set in-all

  tree-but : SameBut (own form_one m) (own form_one m') here (used_inodes form_one (own form_one m) 0 t)
  tree-but = record { at = λ x ne h. but.at x ne (let e = times-append (used_inodes form_one (own form_one m) 0 t) inodes x in omega arith) }

  loose-same : SameAt (own form_one m) (own form_one m') (used_inodes form_one (own form_one m) j v)
  loose-same = record {
    at = λ x h. but.at x
        (λ e. let a = all-apart mode lot m t k blocks inodes b x in let i = in-tree in
        let n = ap (λ y. times (used_inodes form_one (own form_one m) 0 t) y) e in absurd (omega arith))
        (let e = times-append (used_inodes form_one (own form_one m) 0 t) inodes x in omega arith);
  }

  adds : AddsRow form_one lot (own form_one m here) (own form_one m' here) here (length q) c j
  adds =
      adds_row form_one lot (own form_one m here) (own form_one m' here) here (length q)
      (set-inode lot m m' here (length q) set.set) set.is.kind set.is.few c j set.rows

  moves : (mine yours : ℕ → List ℕ) → ((x : ℕ) → own form_one m' x ≡ own form_one m x → yours x ≡ mine x) → (measure : List ℕ → ℕ) → Adds measure
      → measure (tree_uses form_one (own form_one m') yours 0 (at q (with_entry c v) t) ++ []) + measure (mine here)
      ≡ measure (tree_uses form_one (own form_one m) mine 0 t ++ tree_uses form_one (own form_one m) mine j v) + measure (yours here)
  moves mine yours alike measure sums =
      let e = uses-with_entry form_one lot (own form_one m) (own form_one m') q c j v t es mine yours alike measure sums b.reads found free
      (tree-once mode lot m t k blocks inodes b) tree-but adds in
      let f = ap measure (uses-frame form_one (own form_one m) (own form_one m') mine yours alike j v loose-same) in
      let g = sums (tree_uses form_one (own form_one m') yours 0 (at q (with_entry c v) t)) [] in
      let h = sums (tree_uses form_one (own form_one m) mine 0 t) (tree_uses form_one (own form_one m) mine j v) in
      let z = sums [] [] in
      omega arith

  pub gains_row : Beside form_one mode lot m' (at q (with_entry c v) t) k [] []
  gains_row = beside-set mode lot m m' t (at q (with_entry c v) t) k blocks [] inodes [] here b loose in-all set.set
      (dir-after q (with_entry c v) t (Dir es) found b.dir (λ e. refl))
      (Reads-with_entry form_one lot (own form_one m) (own form_one m') q c j v t es b.reads found free name
      (tree-once mode lot m t k blocks inodes b) tree-but adds
      (Reads-frame form_one lot (own form_one m) (own form_one m') j (length q + 1) v loose-same r))
      (λ measure sums. moves (λ i. (own form_one m i).uses) (λ i. (own form_one m' i).uses) (λ x e. ap (λ o. o.uses) e) measure sums)
      (λ measure sums. let e = moves (λ i. i ∷ []) (λ i. i ∷ []) (λ x e. refl) measure sums in omega arith)
      (λ a h. let n = has-none a in absurd cc)
      (λ i h. let n = has-none i in absurd cc)
