-- What the calls of the layers below need of a map with a tree and loose things, so that they answer no damage.
use Rattle.std.proofs.Common.{◌≡◌, ◌≤◌, ℕ, false, List, [], ◌∷◌, length, length-append, ◌∙◌, refl, ap, arith}
use Rattle.ice_base.specs.Lots.{LotView}
use Rattle.ice_base.specs.Used.{counted, Reserved}
use Rattle.ice_map.specs.declared.codec.Inode.{Inode}
use Rattle.ice_map.specs.Inodes.{inode_of}
use Rattle.ice_map.specs.Own.{own, blocks_for, map_length}
use Rattle.ice_file.specs.Files.{ReachesTo}
use Rattle.ice_map.specs.Moves.{uses_of}
use Rattle.ice_file.proofs.ByteLaws.{file_length}
use Rattle.ice_map.proofs.OwnLaws.{length-uses}
use Rattle.ice_dir.specs.Changes.{HasEntryRoom, entry_blocks}
use Rattle.tree_spec.specs.Trees.{Tree, File, Dir, Entries, Nil, Entry, rows, walk, Found, at, total_in}
use Rattle.tree_spec.specs.Costs.{form_one, nodes}
use Rattle.tree_spec.proofs.Sums.{total-at}
use Rattle.ice_reads.specs.Tables.{Map}
use Rattle.ice_reads.specs.Reads.{used_blocks, used_inodes, inode_on}
use Rattle.ice_reads.proofs.Focus.{uses-part}
use Rattle.ice_reads.proofs.Numbers.{uses-flat}
use Rattle.ice_steps.specs.Beside.{Beside}
use Rattle.ice_steps.proofs.Lengths.{length-inodes}
use Rattle.ice_steps.proofs.Made.{inode-first}
use Rattle.ice_steps.proofs.Others.{length-one_of}
use Rattle.ice_steps.proofs.Quotas.{beside_free_nodes}
use Rattle.ice_steps.proofs.Walks.{FileAt, beside_dir}

-- a file of these bytes reaches to each place in them
pub reaches_to : (m : Map) (i at : ℕ) (bytes : List ℕ) → FileAt m i bytes → at ≤ length bytes → ReachesTo form_one at (inode_of m i)
reaches_to m i at bytes f h = record { kind = f.kind; small = f.within; reaches = (let e = f.size in omega arith) }

-- a directory has fewer entries than its tree has files and directories
nodes-some : (t : Tree) → 1 ≤ nodes t
nodes-some (File bytes) = omega arith
nodes-some (Dir es) = omega arith

entries-nodes : (es : Entries) → length (rows es) ≤ total_in (λ _. 1) (λ _. 1) es
entries-nodes Nil = omega arith
entries-nodes (Entry c t es) = let r = entries-nodes es in let s = nodes-some t in omega arith

nodes-part : (q : List (List ℕ)) (t s : Tree) → walk q t ≡ Found s → nodes s ≤ nodes t
nodes-part q t s found = let e = total-at (λ _. 1) (λ _. 1) q (λ _. File []) t s found in let n = nodes-some (at q (λ _. File []) t) in omega arith

-- a loose tree has an inode at least
pub loose_some : (m : Map) (j : ℕ) (v : Tree) → 1 ≤ length (used_inodes form_one (own form_one m) j v)
loose_some m j v = let e = length-inodes form_one (own form_one m) j v in let n = nodes-some v in omega arith

-- where inodes stand loose, each directory has room for one entry more
pub beside_room : (mode : ℕ) (lot : LotView) (m : Map) (t : Tree) (k : ℕ) (xs is : List ℕ) → Beside form_one mode lot m t k xs is
    → 1 ≤ length is → (q : List (List ℕ)) (es : Entries) → walk q t ≡ Found (Dir es) → HasEntryRoom lot (inode_of m (inode_on form_one (own form_one m) 0 q))
beside_room mode lot m t k xs is b some q es found =
    let d = beside_dir mode lot m t k xs is b q es found in
    let n = beside_free_nodes mode lot m t k xs is b in
    let p = nodes-part q t (Dir es) found in
    let e = entries-nodes es in
    let s = d.size in
    record { is = d.is; room = omega arith }

-- no inode of the tree uses more blocks than are counted
pub beside_counted : (mode : ℕ) (lot : LotView) (m : Map) (t : Tree) (k : ℕ) (xs is : List ℕ) → Beside form_one mode lot m t k xs is
    → (q : List (List ℕ)) (s : Tree) → walk q t ≡ Found s → length (own form_one m (inode_on form_one (own form_one m) 0 q)).uses ≤ counted false m
beside_counted mode lot m t k xs is b q s found =
    let p = uses-part form_one (own form_one m) (λ i. i ∷ []) (inode_on form_one (own form_one m) 0 q) q 0 t s found in
    let f = inode-first form_one (own form_one m) (inode_on form_one (own form_one m) 0 q) s in
    let l = length-one_of (λ i. (own form_one m i).uses) (inode_on form_one (own form_one m) 0 q) (used_inodes form_one (own form_one m) 0 t) (omega arith) in
    let e = ap (λ (ys : List ℕ). length ys) (uses-flat form_one (own form_one m) (λ i. (own form_one m i).uses) 0 t) in
    let a = length-append (used_blocks form_one (own form_one m) 0 t) xs in
    let c = b.block_count in
    omega arith

-- nor does the inode at the top of a loose tree
pub loose_blocks_counted : (mode : ℕ) (lot : LotView) (m : Map) (t : Tree) (k j : ℕ) (v : Tree) (is : List ℕ)
    → Beside form_one mode lot m t k (used_blocks form_one (own form_one m) j v) is → length (own form_one m j).uses ≤ counted false m
loose_blocks_counted mode lot m t k j v is b =
    let f = inode-first form_one (own form_one m) j v in
    let l = length-one_of (λ i. (own form_one m i).uses) j (used_inodes form_one (own form_one m) j v) (omega arith) in
    let e = ap (λ (ys : List ℕ). length ys) (uses-flat form_one (own form_one m) (λ i. (own form_one m i).uses) j v) in
    let a = length-append (used_blocks form_one (own form_one m) 0 t) (used_blocks form_one (own form_one m) j v) in
    let c = b.block_count in
    omega arith

-- how many these are
pub file_uses : (m : Map) (i : ℕ) → (inode_of m i).kind ≡ 1 → length (own form_one m i).uses ≡ uses_of (blocks_for (inode_of m i).size)
file_uses m i e = length-uses m (inode_of m i) (map_length form_one (inode_of m i)) ∙ ap uses_of (file_length form_one (inode_of m i) e)

pub dir_uses : (m : Map) (i : ℕ) → (inode_of m i).kind ≡ 2 → length (own form_one m i).uses ≡ uses_of (entry_blocks form_one (inode_of m i).size)
dir_uses m i e = length-uses m (inode_of m i) (map_length form_one (inode_of m i)) ∙ ap uses_of (of-dir (inode_of m i) e)
  where
    of-dir : (x : Inode) → x.kind ≡ 2 → map_length form_one x ≡ entry_blocks form_one x.size
    of-dir x e = rw e refl

-- the reserved places are marked
pub beside_reserved : (mode : ℕ) (lot : LotView) (m : Map) (t : Tree) (k : ℕ) (xs is : List ℕ) → Beside form_one mode lot m t k xs is → Reserved lot m
beside_reserved mode lot m t k xs is b = b.reserved
