-- Whole changes of a tree: one step after another, from a map that recovers a tree to one that recovers the next.
use Rattle.std.proofs.Common.{◌≡◌, ◌≤◌, ◌<◌, ◌+◌, ◌*◌, ℕ, true, List, [], ◌∷◌, ◌++◌, length, None, Some, ◌∙◌, sym, subst}
use Rattle.std.specs.FinMap.{find}
use Rattle.ice_base.specs.Inodes.{inode_address}
use Rattle.ice_base.specs.Lots.{LotView, sub_address}
use Rattle.ice_base.specs.Pools.{TookInode}
use Rattle.ice_base.specs.Used.{bitmap_of}
use Rattle.ice_map.specs.declared.codec.Inode.{Inode}
use Rattle.ice_map.specs.Inodes.{inode_of, InodeSet}
use Rattle.ice_map.specs.Own.{own}
use Rattle.ice_dir.specs.Rows.{dir_rows_of, rows_without}
use Rattle.ice_dir.specs.Changes.{DirSet}
use Rattle.tree_spec.specs.Trees.{Tree, File, Dir, Entries, Nil, rows, by_bytes, walk, Found, at, with_entry, without_entry, height}
use Rattle.tree_spec.specs.Costs.{form_one}
use Rattle.tree_spec.specs.Answers.{deepest}
use Rattle.ice_reads.specs.Tables.{Map, IsNameOf, inode_named}
use Rattle.ice_reads.specs.Reads.{Reads, used_blocks, used_inodes, inode_on}
use Rattle.ice_reads.specs.Recovers.{MapRecovers}
use Rattle.ice_reads.proofs.Losses.{Reads-shift}
use Rattle.ice_steps.specs.Beside.{Beside, OnlyAt}
use Rattle.ice_steps.proofs.Fresh.{IsFresh, fresh_dir, fresh_file, dir_beside, file_beside, put_loose, put_stays}
use Rattle.ice_steps.proofs.Losses.{loses_row, walk_left}
use Rattle.ice_steps.proofs.Recovers.{beside_recovers, recovers_beside}
use Rattle.ice_steps.proofs.Rows.{gains_row}
use Rattle.ice_steps.proofs.Stays.{stays_walk}
use Rattle.ice_steps.proofs.Takes.{took_inode, took_stays}

-- a new inode was taken and put, and a row for it added
module _ (mode : ℕ) (lot : LotView) (m0 m1 m2 m3 : Map) (t : Tree) (k : ℕ) (q : List (List ℕ)) (c : List ℕ) (j : ℕ) (es : Entries)
    (inode : Inode) (few : length lot.groups ≤ 64)
    (r : MapRecovers form_one mode lot m0 t k) (took : TookInode m0 m1 j) (small : j < 64 * length lot.groups)
    (taken : OnlyAt (sub_address ∷ bitmap_of true j ∷ []) m0 m1)
    (put : InodeSet m1 m2 j inode) (there : OnlyAt (inode_address j ∷ []) m1 m2) (found : walk q t ≡ Found (Dir es))
    (free : find by_bytes c (rows es) ≡ None) (name : IsNameOf form_one c) (deep : length q + 1 ≤ deepest)
    (set : DirSet lot form_one m2 m3 (inode_on form_one (own form_one m0) 0 q) (dir_rows_of form_one m2 (inode_on form_one (own form_one m0) 0 q) ++ (c, j) ∷ [])) where
  b1 : Beside form_one mode lot m1 t k [] (j ∷ [])
  b1 = took_inode mode lot m0 m1 t k [] j few (recovers_beside form_one mode lot m0 t k r) took small taken

  b2 : Beside form_one mode lot m2 t k [] (j ∷ [])
  b2 = put_loose mode lot m1 m2 t k j inode b1 put there

  place : inode_on form_one (own form_one m2) 0 q ≡ inode_on form_one (own form_one m0) 0 q
  place =
      stays_walk m1 m2 t (put_stays mode lot m1 m2 t k [] j inode b1 put there) q (Dir es) found
      ∙ stays_walk m0 m1 t (took_stays mode lot m0 m1 t k [] [] j few (recovers_beside form_one mode lot m0 t k r) taken) q (Dir es) found

  here-set : DirSet lot form_one m2 m3 (inode_on form_one (own form_one m2) 0 q) (dir_rows_of form_one m2 (inode_on form_one (own form_one m2) 0 q) ++ (c, j) ∷ [])
  here-set = subst (λ p. DirSet lot form_one m2 m3 p (dir_rows_of form_one m2 p ++ (c, j) ∷ [])) (sym place) set

  -- where the inode is a fresh directory's, the map recovers the tree with an empty directory at the name
  pub dir_made : IsFresh 2 inode → MapRecovers form_one mode lot m3 (at q (with_entry c (Dir Nil)) t) k
  dir_made fresh =
      let f : IsFresh 2 (inode_of m2 j) = subst (IsFresh 2) (sym put.value) fresh in
      beside_recovers form_one mode lot m3 (at q (with_entry c (Dir Nil)) t) k
      (gains_row mode lot m2 m3 t k q c j (Dir Nil) es (dir_beside mode lot m2 t k j b2 f) found free name
      (fresh_dir lot m2 j (length q + 1) deep small f) here-set)

  -- where the inode is a fresh file's, the map recovers the tree with an empty file at the name
  pub file_made : IsFresh 1 inode → MapRecovers form_one mode lot m3 (at q (with_entry c (File [])) t) k
  file_made fresh =
      let f : IsFresh 1 (inode_of m2 j) = subst (IsFresh 1) (sym put.value) fresh in
      beside_recovers form_one mode lot m3 (at q (with_entry c (File [])) t) k
      (gains_row mode lot m2 m3 t k q c j (File []) es (file_beside mode lot m2 t k j b2 f) found free name
      (fresh_file lot m2 j (length q + 1) deep small f) here-set)

-- a row was taken away
module _ (mode : ℕ) (lot : LotView) (m0 m1 : Map) (t : Tree) (k : ℕ) (q : List (List ℕ)) (c : List ℕ) (v : Tree) (es : Entries) (few : length lot.groups ≤ 64)
    (r : MapRecovers form_one mode lot m0 t k) (found : walk q t ≡ Found (Dir es)) (is : find by_bytes c (rows es) ≡ Some v)
    (set : DirSet lot form_one m0 m1 (inode_on form_one (own form_one m0) 0 q) (rows_without c (dir_rows_of form_one m0 (inode_on form_one (own form_one m0) 0 q)))) where
  abbrev gone : ℕ
  gone = inode_named c (dir_rows_of form_one m0 (inode_on form_one (own form_one m0) 0 q))

  -- and added to a directory of what is left
  pub row_moved : (m2 : Map) (to : List (List ℕ)) (d : List ℕ) (fs : Entries) → walk to (at q (without_entry c) t) ≡ Found (Dir fs)
      → find by_bytes d (rows fs) ≡ None → IsNameOf form_one d → length to + 1 + height v ≤ deepest
      → DirSet lot form_one m1 m2 (inode_on form_one (own form_one m0) 0 to) (dir_rows_of form_one m1 (inode_on form_one (own form_one m0) 0 to) ++ (d, gone) ∷ [])
      → MapRecovers form_one mode lot m2 (at to (with_entry d v) (at q (without_entry c) t)) k
  row_moved m2 to d fs there free name fits put =
      let l = loses_row mode lot m0 m1 t k q c v es r found is set in
      let place = walk_left mode lot m0 m1 t k q c v es r found is set to (Dir fs) there in
      beside_recovers form_one mode lot m2 (at to (with_entry d v) (at q (without_entry c) t)) k
      (gains_row mode lot m1 m2 (at q (without_entry c) t) k to d gone v fs l.0 there free name
      (Reads-shift form_one lot (own form_one m1) gone (length q + 1) (length to + 1) v fits l.1)
      (subst (λ p. DirSet lot form_one m1 m2 p (dir_rows_of form_one m1 p ++ (d, gone) ∷ [])) (sym place) put))

  -- what it named stands loose
  abbrev Gone : Tree → Type 0
  Gone u =
      Beside form_one mode lot m1 (at q (without_entry c) t) k (used_blocks form_one (own form_one m1) gone u)
      (used_inodes form_one (own form_one m1) gone u) × Reads form_one lot (own form_one m1) gone (length q + 1) u

  left : (u : Tree) → v ≡ u → Gone u
  left u e = subst Gone e (loses_row mode lot m0 m1 t k q c v es r found is set)
