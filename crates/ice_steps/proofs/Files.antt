-- A file of the tree that was set, and a loose one that was cut to nothing.
use Rattle.std.proofs.Common.{◌≡◌, ◌≤◌, ◌<◌, ◌+◌, ℕ, List, [], ◌∷◌, length, ◌∙◌, sym, refl, ap, subst, arith}
use Rattle.std.proofs.lemmas.List.FromFn.{length-map-range_with_len}
use Rattle.ice_base.specs.Lots.{LotView}
use Rattle.ice_map.specs.Inodes.{inode_of}
use Rattle.ice_map.specs.Maps.{times}
use Rattle.ice_map.proofs.ListLaws.{times-append}
use Rattle.ice_file.specs.Files.{FileSet, byte_of}
use Rattle.ice_map.specs.Own.{own}
use Rattle.ice_file.proofs.ByteLaws.{all_bytes}
use Rattle.tree_spec.specs.Trees.{Tree, File, Found, walk, at}
use Rattle.tree_spec.specs.Costs.{form_one}
use Rattle.ice_reads.specs.Tables.{Map, IsFileInode}
use Rattle.ice_reads.specs.Reads.{Reads, used_blocks, used_inodes, tree_uses, inode_on}
use Rattle.ice_reads.specs.Recovers.{MapRecovers}
use Rattle.ice_reads.proofs.Frames.{times-here}
use Rattle.ice_reads.proofs.Focus.{SameOutside, Reads-at, uses-at, uses-part}
use Rattle.ice_steps.specs.Beside.{Beside}
use Rattle.ice_steps.proofs.Recovers.{beside_recovers, recovers_beside}
use Rattle.ice_steps.proofs.Made.{beside_part}
use Rattle.ice_steps.proofs.Others.{loose-none, all, tree-once, beside_but}
use Rattle.ice_steps.proofs.Sets.{Adds, set-inode, dir-after, beside-set}

-- the size of a file that was set
pub set-size : (lot : LotView) (m m' : Map) (p : ℕ) (now : List ℕ) → FileSet lot form_one m m' p now → (inode_of m' p).size ≡ length now
set-size lot m m' p now set =
    let l = length-map-range_with_len (byte_of m' (inode_of m' p)) 0 (inode_of m' p).size in
    sym l ∙ ap (λ (xs : List ℕ). length xs) (sym (all_bytes form_one refl m' p set.kind) ∙ set.bytes)

set-file : (lot : LotView) (m m' : Map) (p : ℕ) (now : List ℕ) → FileSet lot form_one m m' p now → length now ≤ 274432
    → IsFileInode form_one (own form_one m' p) now
set-file lot m m' p now set short = record { is_file = set.kind; within = (let e = set-size lot m m' p now set in omega arith); bytes_are = set.bytes }

module _ (mode : ℕ) (lot : LotView) (m m' : Map) (t : Tree) (k : ℕ) (q : List (List ℕ)) (bytes now : List ℕ)
    (b : Beside form_one mode lot m t k [] []) (found : walk q t ≡ Found (File bytes))
    (set : FileSet lot form_one m m' (inode_on form_one (own form_one m) 0 q) now) (short : length now ≤ 274432) where
  abbrev here : ℕ
  here = inode_on form_one (own form_one m) 0 q

  abbrev change : Tree → Tree
  change s = File now

  in-tree : 0 < times (used_inodes form_one (own form_one m) 0 t) here
  in-tree =
      let e = uses-part form_one (own form_one m) (λ i. i ∷ []) here q 0 t (File bytes) found in
      let f = times-here here [] in
      omega arith

  in-all : 0 < times (all mode lot m t k [] [] b) here
  in-all = let e = times-append (used_inodes form_one (own form_one m) 0 t) [] here in let i = in-tree in omega arith

  outside : SameOutside (own form_one m) (own form_one m') (used_inodes form_one (own form_one m) here (File bytes)) (used_inodes form_one (own form_one m) 0 t)
  outside = record {
    at = λ x h.
        (beside_but mode lot m t k [] [] b (loose-none lot m) m' here set.set in-all).at x
        (λ e. let o = tree-once mode lot m t k [] [] b x in let n = ap (λ y. times (y ∷ []) x) (sym e) in let s = times-here x [] in absurd (omega arith))
        (let e = times-append (used_inodes form_one (own form_one m) 0 t) [] x in omega arith);
  }

  new-file : Reads form_one lot (own form_one m') here (0 + length q) (change (File bytes))
  new-file =
      let level : length q ≡ 0 + length q = omega arith in
      let r = beside_part mode lot m t k [] [] b q (File bytes) found in
      subst (λ h. Reads form_one lot (own form_one m') here h (File now)) level
      (set-inode lot m m' here (length q) set.set r.0, set-file lot m m' here now set short)

  moves : (mine yours : ℕ → List ℕ) → ((x : ℕ) → own form_one m' x ≡ own form_one m x → yours x ≡ mine x) → (measure : List ℕ → ℕ) → Adds measure
      → measure (tree_uses form_one (own form_one m') yours 0 (at q change t)) + measure (mine here)
      ≡ measure (tree_uses form_one (own form_one m) mine 0 t) + measure (yours here)
  moves mine yours alike measure adds =
      let e = uses-at form_one (own form_one m) (own form_one m') mine yours alike measure adds q 0 change t (File bytes) found outside in
      omega arith

  file-beside : Beside form_one mode lot m' (at q (λ s. File now) t) k [] []
  file-beside = beside-set mode lot m m' t (at q change t) k [] [] [] [] here b (loose-none lot m) in-all set.set
      (dir-after q change t (File bytes) found b.dir (λ e. absurd cc))
      (Reads-at form_one lot (own form_one m) (own form_one m') q 0 0 change t (File bytes) found b.reads new-file outside)
      (λ measure adds.
      let e = moves (λ i. (own form_one m i).uses) (λ i. (own form_one m' i).uses) (λ x e. ap (λ o. o.uses) e) measure adds in
      let c = adds (used_blocks form_one (own form_one m') 0 (at q change t)) [] in
      let d = adds (used_blocks form_one (own form_one m) 0 t) [] in
      omega arith)
      (λ measure adds.
      let e = moves (λ i. i ∷ []) (λ i. i ∷ []) (λ x e. refl) measure adds in
      let c = adds (used_inodes form_one (own form_one m') 0 (at q change t)) [] in
      let d = adds (used_inodes form_one (own form_one m) 0 t) [] in
      omega arith)
      b.more_data b.others_small

-- a file of the tree was set
pub file_set : (mode : ℕ) (lot : LotView) (m m' : Map) (t : Tree) (k : ℕ) (q : List (List ℕ)) (bytes now : List ℕ)
    → MapRecovers form_one mode lot m t k → walk q t ≡ Found (File bytes)
    → FileSet lot form_one m m' (inode_on form_one (own form_one m) 0 q) now → length now ≤ 274432 → MapRecovers form_one mode lot m' (at q (λ s. File now) t) k
file_set mode lot m m' t k q bytes now r found set short =
    beside_recovers form_one mode lot m' (at q (λ s. File now) t) k
    (file-beside mode lot m m' t k q bytes now (recovers_beside form_one mode lot m t k r) found set short)
