-- A tree uses as many blocks as it costs, in both forms.
use Rattle.std.proofs.Common.{◌≡◌, ◌≤◌, ◌<◌, ◌+◌, ◌-◌, ◌*◌, ◌/◌, ◌==◌, ℕ, Bool, true, false, cond, List, [], ◌∷◌, length, length-append, map, nat_lt, nat_le, nat_eq, ◌∙◌, sym, refl, ap, subst, arith, if◌then◌else◌}
use Rattle.std.specs.List.{range_with_len}
use Rattle.std.proofs.lemmas.Bool.Decides.{nat_tests}
use Rattle.std.proofs.lemmas.Nat.{div-add-mod', mod_below}
use Rattle.std.proofs.lemmas.List.FromFn.{length-map-range_with_len}
use Rattle.ice_base.specs.Fields.{word_at}
use Rattle.ice_base.specs.Lots.{LotView}
use Rattle.ice_map.specs.declared.codec.Inode.{Inode}
use Rattle.ice_map.specs.Inodes.{inode_of}
use Rattle.ice_map.specs.Maps.{indirect_of, longest}
use Rattle.ice_map.specs.Own.{Own, blocks_for, map_length, file_bytes, own, own_long_of, indirects_long, nth_long, entry_size}
use Rattle.ice_map.specs.Moves.{uses_of}
use Rattle.ice_map.proofs.OwnLaws.{length-uses}
use Rattle.ice_dir.specs.Rows.{DirRow}
use Rattle.tree_spec.specs.Trees.{Tree, File, Dir, Entries, Nil, Entry, rows, total_in}
use Rattle.tree_spec.specs.Costs.{Form, form_one, form_two, form_of, map_cost, file_blocks, dir_blocks, blocks, rounded_up}
use Rattle.ice_reads.specs.Tables.{Map, Table, rows_in, inode_named, IsFileInode, IsDirInode}
use Rattle.ice_reads.specs.Reads.{Reads, ReadsEach, entries_use, used_blocks}

-- ---- maps

cost-short : (c : ℕ) → c ≤ 268 → uses_of c ≡ map_cost c
cost-short c h = grind (arith, nat_tests)

length-indirect : (x : Inode) (c : ℕ) → length (indirect_of x c) ≡ cond (nat_lt 12 c) 1 0
length-indirect x c = by (nat_lt 12 c)
  where
    by : (b : Bool) → length (cond b (x.single ∷ []) []) ≡ cond b 1 0
    by true = refl
    by false = refl

length-double : (m : Map) (x : Inode) (c : ℕ)
    → length (if nat_lt longest c then x.double ∷ map (λ j. word_at (m x.double) (4 * j)) (range_with_len 0 (rounded_up (c - longest) 256)) else [])
    ≡ cond (nat_lt longest c) (1 + rounded_up (c - longest) 256) 0
length-double m x c = by (nat_lt longest c)
  where
    by : (b : Bool)
        → length (if b then x.double ∷ map (λ j. word_at (m x.double) (4 * j)) (range_with_len 0 (rounded_up (c - longest) 256)) else [])
        ≡ cond b (1 + rounded_up (c - longest) 256) 0
    by true = omega (arith, length-map-range_with_len (λ j. word_at (m x.double) (4 * j)) 0 (rounded_up (c - longest) 256))
    by false = refl

cost-cases : (c r : ℕ) → cond (nat_lt 12 c) 1 0 + cond (nat_lt 268 c) (1 + r) 0 + c ≡ (if nat_le c 12 then c else (if nat_le c 268 then c + 1 else c + 2 + r))
cost-cases c r = grind (arith, nat_tests)

-- what a long map uses is what it costs
length-long : (m : Map) (x : Inode) (c : ℕ) → length (own_long_of m x c).uses ≡ map_cost c
length-long m x c =
    let a = length-append (indirects_long m x c) (map (nth_long m x) (range_with_len 0 c)) in
    let b = length-map-range_with_len (nth_long m x) 0 c in
    let d = length-append (indirect_of x c)
    (if nat_lt longest c then x.double ∷ map (λ j. word_at (m x.double) (4 * j)) (range_with_len 0 (rounded_up (c - longest) 256)) else []) in
    let e = length-indirect x c in
    let f = length-double m x c in
    let g = cost-cases c (rounded_up (c - longest) 256) in
    omega arith

-- ---- inodes

length-bytes : (o : Own) → length (file_bytes o) ≡ o.inode.size
unfolding file_bytes
length-bytes o = length-map-range_with_len _ 0 o.inode.size

map-file : (f : Form) (x : Inode) → x.kind ≡ 1 → map_length f x ≡ file_blocks x.size
map-file f x kind = ap (λ k. blocks_for (cond (k == 2) (entry_size f * x.size) x.size)) kind ∙ ap (λ n. n / 1024) (omega arith)

map-dir : (f : Form) (x : Inode) → x.kind ≡ 2 → map_length f x ≡ blocks_for (entry_size f * x.size)
map-dir f x kind = ap (λ k. blocks_for (cond (k == 2) (entry_size f * x.size) x.size)) kind

-- sixteen entries of 64 bytes, or eight of 128, have one block
sixteen : (n : ℕ) → blocks_for (64 * n) ≡ dir_blocks form_one n
sixteen n =
    let a = div-add-mod' (64 * n + 1023) 1024 in
    let b = mod_below (64 * n + 1023) 1024 (omega arith) in
    let c = div-add-mod' (n + 16 - 1) 16 in
    let d = mod_below (n + 16 - 1) 16 (omega arith) in
    omega arith

eight : (n : ℕ) → blocks_for (128 * n) ≡ dir_blocks form_two n
eight n =
    let a = div-add-mod' (128 * n + 1023) 1024 in
    let b = mod_below (128 * n + 1023) 1024 (omega arith) in
    let c = div-add-mod' (n + 8 - 1) 8 in
    let d = mod_below (n + 8 - 1) 8 (omega arith) in
    omega arith

-- ---- trees

-- where each file and each directory by itself uses what it costs, so does each tree
module _ (f : Form) (lot : LotView) (o : Table)
    (file : (i : ℕ) (bytes : List ℕ) → IsFileInode f (o i) bytes → length (o i).uses ≡ map_cost (file_blocks (length bytes)))
    (dir : (i : ℕ) (es : Entries) → IsDirInode f lot (o i) es → length (o i).uses ≡ map_cost (dir_blocks f (length (rows es)))) where
  mutual
    used-tree : (i h : ℕ) (t : Tree) → Reads f lot o i h t → length (used_blocks f o i t) ≡ blocks f t
    used-tree i h (File bytes) r = file i bytes r.1
    used-tree i h (Dir es) r =
        omega (arith, dir i es r.1, length-append (o i).uses (entries_use f o (λ i. (o i).uses) (rows_in f (o i)) es), used-each (rows_in f (o i)) (h + 1) es r.2)

    used-each : (rs : List DirRow) (h : ℕ) (es : Entries) → ReadsEach f lot o rs h es
        → length (entries_use f o (λ i. (o i).uses) rs es)
        ≡ total_in (λ bytes. map_cost (file_blocks (length bytes))) (λ entries. map_cost (dir_blocks f entries)) es
    used-each rs h Nil r = refl
    used-each rs h (Entry c t es) r =
        omega (arith, length-append (used_blocks f o (inode_named c rs) t) (entries_use f o (λ i. (o i).uses) rs es), used-tree (inode_named c rs) h t r.0, used-each rs h es r.1)

module _ (lot : LotView) (m : Map) where
  file-one : (i : ℕ) (bytes : List ℕ) → IsFileInode form_one (own form_one m i) bytes → length (own form_one m i).uses ≡ map_cost (file_blocks (length bytes))
  file-one i bytes r =
      let size = sym (length-bytes (own form_one m i)) ∙ ap length r.bytes_are in
      let long = map-file form_one (inode_of m i) r.is_file in
      let short : map_length form_one (inode_of m i) ≤ 268 = let d = div-add-mod' ((inode_of m i).size + 1024 - 1) 1024 in
      let w : (inode_of m i).size ≤ 274432 = r.within in omega arith in
      length-uses m (inode_of m i) (map_length form_one (inode_of m i)) ∙ cost-short (map_length form_one (inode_of m i)) short
      ∙ ap map_cost (long ∙ ap file_blocks size)

  dir-one : length lot.groups ≤ 64 → (i : ℕ) (es : Entries) → IsDirInode form_one lot (own form_one m i) es
      → length (own form_one m i).uses ≡ map_cost (dir_blocks form_one (length (rows es)))
  dir-one few i es r =
      let long : map_length form_one (inode_of m i) ≡ blocks_for (64 * (inode_of m i).size) = map-dir form_one (inode_of m i) r.is_dir in
      let short : map_length form_one (inode_of m i) ≤ 268 = let d = div-add-mod' (64 * (inode_of m i).size + 1023) 1024 in
      let w : (inode_of m i).size < 64 * length lot.groups = r.within in omega arith in
      length-uses m (inode_of m i) (map_length form_one (inode_of m i)) ∙ cost-short (map_length form_one (inode_of m i)) short
      ∙ ap map_cost (long ∙ sixteen (inode_of m i).size ∙ ap (dir_blocks form_one) (sym r.count))

  file-two : (i : ℕ) (bytes : List ℕ) → IsFileInode form_two (own form_two m i) bytes → length (own form_two m i).uses ≡ map_cost (file_blocks (length bytes))
  file-two i bytes r =
      length-long m (inode_of m i) (map_length form_two (inode_of m i))
      ∙ ap map_cost (map-file form_two (inode_of m i) r.is_file ∙ ap file_blocks (sym (length-bytes (own form_two m i)) ∙ ap length r.bytes_are))

  dir-two : (i : ℕ) (es : Entries) → IsDirInode form_two lot (own form_two m i) es
      → length (own form_two m i).uses ≡ map_cost (dir_blocks form_two (length (rows es)))
  dir-two i es r =
      length-long m (inode_of m i) (map_length form_two (inode_of m i))
      ∙ ap map_cost (map-dir form_two (inode_of m i) r.is_dir ∙ eight (inode_of m i).size ∙ ap (dir_blocks form_two) (sym r.count))

-- in the form of a version a tree uses as many blocks as it costs
pub cost_is_used : (f : Form) (lot : LotView) (m : Map) (i h : ℕ) (t : Tree) → f ≡ form_of f.version → length lot.groups ≤ 64
    → Reads f lot (own f m) i h t → length (used_blocks f (own f m) i t) ≡ blocks f t
cost_is_used f lot m i h t is few =
    subst (λ g. Reads g lot (own g m) i h t → length (used_blocks g (own g m) i t) ≡ blocks g t) (sym is) (by (nat_eq f.version 2))
  where
    by : (b : Bool) → Reads (if b then form_two else form_one) lot (own (if b then form_two else form_one) m) i h t
        → length (used_blocks (if b then form_two else form_one) (own (if b then form_two else form_one) m) i t) ≡ blocks (if b then form_two else form_one) t
    by true r = used-tree form_two lot (own form_two m) (file-two lot m) (dir-two lot m) i h t r
    by false r = used-tree form_one lot (own form_one m) (file-one lot m) (dir-one lot m few) i h t r

-- ---- where the blocks of a long map stand

-- an inode with an indirect block and a double-indirect one
abbrev x : Inode
x = record { kind = 1; size = 0; direct = []; single = 5; double = 7 }

abbrev counts : Map → List ℕ
counts m = length (indirects_long m x 268) ∷ length (indirects_long m x 269) ∷ length (indirects_long m x 524) ∷ length (indirects_long m x 525) ∷ []

-- block 267 is named last by the single-indirect block, block 268 first by the first block that the double-indirect one names, and so on
long_blocks : (m : Map) → nth_long m x 268 ∷ nth_long m x 523 ∷ nth_long m x 524 ∷ []
    ≡ word_at (m (word_at (m 7) 0)) 0 ∷ word_at (m (word_at (m 7) 0)) 1020 ∷ word_at (m (word_at (m 7) 4)) 0 ∷ []
long_blocks m = refl
