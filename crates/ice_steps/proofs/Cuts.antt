-- A loose file that was cut to nothing, and a loose directory of no entries.
use Rattle.std.proofs.Common.{◌≡◌, ◌<◌, ℕ, List, [], ◌∷◌, ◌++◌, ◌∙◌, sym, refl, ap, subst, arith}
use Rattle.ice_base.specs.Lots.{LotView}
use Rattle.ice_map.specs.Inodes.{inode_of}
use Rattle.ice_map.specs.Maps.{times}
use Rattle.ice_map.proofs.ListLaws.{times-append, has-none}
use Rattle.ice_map.specs.Own.{own, blocks_for}
use Rattle.ice_file.specs.Files.{FileSet}
use Rattle.ice_file.proofs.ByteLaws.{file_length}
use Rattle.tree_spec.specs.Trees.{Tree, File, Dir, Nil}
use Rattle.tree_spec.specs.Costs.{form_one}
use Rattle.ice_reads.specs.Tables.{Map}
use Rattle.ice_reads.specs.Reads.{Reads, used_blocks, used_inodes}
use Rattle.ice_reads.proofs.Frames.{SameAt, Reads-frame, uses-frame}
use Rattle.ice_steps.specs.Beside.{Beside}
use Rattle.ice_steps.proofs.Counts.{times-same}
use Rattle.ice_steps.proofs.Files.{set-size}
use Rattle.ice_steps.proofs.Fresh.{fresh-uses, no-map}
use Rattle.ice_steps.proofs.Others.{Loose, loose-tree, all, all-apart, beside_but}
use Rattle.ice_steps.proofs.Sets.{beside-set}

module _ (mode : ℕ) (lot : LotView) (m m' : Map) (t : Tree) (k j h : ℕ) (bytes : List ℕ)
    (b : Beside form_one mode lot m t k (used_blocks form_one (own form_one m) j (File bytes)) (j ∷ []))
    (r : Reads form_one lot (own form_one m) j h (File bytes)) (set : FileSet lot form_one m m' j []) where
  abbrev blocks : List ℕ
  blocks = used_blocks form_one (own form_one m) j (File bytes)

  loose : Loose lot m blocks (j ∷ [])
  loose = loose-tree lot m j h (File bytes) r

  in-all : 0 < times (all mode lot m t k blocks (j ∷ []) b) j
  in-all = let e = times-append (used_inodes form_one (own form_one m) 0 t) (j ∷ []) j in let n = times-same j j [] refl in omega arith

  pub cut_stays : SameAt (own form_one m) (own form_one m') (used_inodes form_one (own form_one m) 0 t)
  cut_stays = record {
    at = λ x l. (beside_but mode lot m t k blocks (j ∷ []) b loose m' j set.set in-all).at x
        (λ e. let o = all-apart mode lot m t k blocks (j ∷ []) b x in let n = ap (λ y. times (y ∷ []) x) (sym e) in
        let s = times-same x x [] refl in absurd (omega arith))
        (let e = times-append (used_inodes form_one (own form_one m) 0 t) (j ∷ []) x in omega arith);
  }

  -- it uses no block any more
  none : (own form_one m' j).uses ≡ []
  none = fresh-uses m' j (file_length form_one (inode_of m' j) set.kind ∙ ap blocks_for (set-size lot m m' j [] set))

  -- then its inode alone stands beside the tree
  pub loose_cut : Beside form_one mode lot m' t k [] (j ∷ [])
  loose_cut = beside-set mode lot m m' t t k blocks [] (j ∷ []) (j ∷ []) j b loose in-all set.set
      b.dir (Reads-frame form_one lot (own form_one m) (own form_one m') 0 0 t cut_stays b.reads)
      (λ measure sums.
      let e = ap measure
      (uses-frame form_one (own form_one m) (own form_one m') (λ i. (own form_one m i).uses) (λ i. (own form_one m' i).uses)
      (λ x e. ap (λ o. o.uses) e) 0 t cut_stays) in
      let c = sums (used_blocks form_one (own form_one m') 0 t) [] in
      let d = sums (used_blocks form_one (own form_one m) 0 t) blocks in
      let n = ap measure none in
      omega arith)
      (λ measure sums.
      let e = ap measure (uses-frame form_one (own form_one m) (own form_one m') (λ i. i ∷ []) (λ i. i ∷ []) (λ x e. refl) 0 t cut_stays) in
      let c = sums (used_inodes form_one (own form_one m') 0 t) (j ∷ []) in
      let d = sums (used_inodes form_one (own form_one m) 0 t) (j ∷ []) in
      omega arith)
      (λ a h. let n = has-none a in absurd cc)
      b.others_small

-- an empty directory that stands loose uses no block
pub empty_uses : (lot : LotView) (m : Map) (j h : ℕ) → Reads form_one lot (own form_one m) j h (Dir Nil)
    → used_blocks form_one (own form_one m) j (Dir Nil) ≡ []
empty_uses lot m j h r = ap (λ us. us ++ []) (fresh-uses m j (no-map (inode_of m j) (sym r.1.count)))

-- so an empty directory that stands loose has no block beside the tree
pub loose_empty : (mode : ℕ) (lot : LotView) (m : Map) (t : Tree) (k j h : ℕ) (is : List ℕ)
    → Beside form_one mode lot m t k (used_blocks form_one (own form_one m) j (Dir Nil)) is
    → Reads form_one lot (own form_one m) j h (Dir Nil) → Beside form_one mode lot m t k [] is
loose_empty mode lot m t k j h is b r = subst (λ us. Beside form_one mode lot m t k us is) (empty_uses lot m j h r) b
