-- The inodes of a tree are well made, and what a walk finds is what they say.
use Rattle.std.proofs.Common.{◌≡◌, ◌≤◌, ◌<◌, ◌+◌, ◌*◌, ℕ, true, false, List, [], ◌∷◌, length, refl, subst, arith}
use Rattle.ice_base.specs.Lots.{LotView}
use Rattle.ice_base.specs.Spare.{has}
use Rattle.ice_base.specs.Used.{used_block, used_inode, is_data}
use Rattle.ice_map.specs.Inodes.{inode_of}
use Rattle.ice_map.specs.Maps.{times}
use Rattle.ice_map.proofs.ListLaws.{times-append, has-times}
use Rattle.ice_map.specs.Own.{own, mark, WellMade, map_length, RestIsZero}
use Rattle.ice_map.proofs.OwnLaws.{times-none}
use Rattle.tree_spec.specs.Trees.{Tree, File, Dir, walk, Found}
use Rattle.tree_spec.specs.Costs.{Form, form_one}
use Rattle.ice_reads.specs.Tables.{Map, Table, rows_in}
use Rattle.ice_reads.specs.Reads.{Reads, entries_use, used_blocks, used_inodes, inode_on}
use Rattle.ice_reads.proofs.Frames.{times-here}
use Rattle.ice_reads.proofs.Focus.{Reads-part, uses-part}
use Rattle.ice_steps.specs.Beside.{Beside}
use Rattle.ice_steps.proofs.Counts.{mark-small, mark-set}

-- what the inode at the top of a tree uses
pub own-first : (f : Form) (o : Table) (i : ℕ) (s : Tree) (b : ℕ) → times (o i).uses b ≤ times (used_blocks f o i s) b
own-first f o i (File bytes) b = omega arith
own-first f o i (Dir es) b = omega (arith, times-append (o i).uses (entries_use f o (λ i. (o i).uses) (rows_in f (o i)) es) b)

pub inode-first : (f : Form) (o : Table) (i : ℕ) (s : Tree) → 0 < times (used_inodes f o i s) i
inode-first f o i (File bytes) = omega (arith, times-here i [])
inode-first f o i (Dir es) = omega (arith, times-here i (entries_use f o (λ i. i ∷ []) (rows_in f (o i)) es))

module _ (lot : LotView) (few : length lot.groups ≤ 64) (m : Map) where
  -- an inode that stands for a tree is well made where its blocks are marked, each once
  pub made-reads : (i h : ℕ) (s : Tree) → Reads form_one lot (own form_one m) i h s
      → ((b : ℕ) → is_data lot b ≡ true → times (own form_one m i).uses b ≤ mark (used_block m b)) → WellMade lot form_one m i
  made-reads i h s r marks =
      record {
        holds =
            λ b u. (own_places i h s r b u, mark-set (used_block m b) (let n = has-times (own form_one m i).uses b u in let l = marks b (own_places i h s r b u) in omega arith));
        once = λ b. elim (has (own form_one m i).uses b) as (λ t. has (own form_one m i).uses b ≡ t → times (own form_one m i).uses b ≤ 1) [
          | true ↦ λ t. let l = marks b (own_places i h s r b t) in let k = mark-small (used_block m b) in omega arith
          | false ↦ λ t. let n = times-none (own form_one m i).uses b t in omega arith
        ] refl;
        unused = own_rest i h s r;
      }
    where
      own_places : (i h : ℕ) (s : Tree) → Reads form_one lot (own form_one m) i h s → (b : ℕ) → has (own form_one m i).uses b ≡ true → is_data lot b ≡ true
      own_places i h (File bytes) r = r.0.places
      own_places i h (Dir es) r = r.0.places

      own_rest : (i h : ℕ) (s : Tree) → Reads form_one lot (own form_one m) i h s → RestIsZero (inode_of m i) (map_length form_one (inode_of m i))
      own_rest i h (File bytes) r = r.0.rest
      own_rest i h (Dir es) r = r.0.rest

-- what a walk comes to
module _ (mode : ℕ) (lot : LotView) (m : Map) (t : Tree) (k : ℕ) (xs is : List ℕ) (b : Beside form_one mode lot m t k xs is) where
  -- the inode to which a walk comes stands for what the walk found
  pub beside_part : (q : List (List ℕ)) (s : Tree) → walk q t ≡ Found s
      → Reads form_one lot (own form_one m) (inode_on form_one (own form_one m) 0 q) (length q) s
  beside_part q s found =
      let level : 0 + length q ≡ length q = omega arith in
      subst (λ h. Reads form_one lot (own form_one m) (inode_on form_one (own form_one m) 0 q) h s) level
      (Reads-part form_one lot (own form_one m) q 0 0 t s found b.reads)

  own-within : (q : List (List ℕ)) (s : Tree) → walk q t ≡ Found s → (a : ℕ) → is_data lot a ≡ true
      → times (own form_one m (inode_on form_one (own form_one m) 0 q)).uses a ≤ mark (used_block m a)
  own-within q s found a h =
      let e = b.blocks a h in
      let c = times-append (used_blocks form_one (own form_one m) 0 t) xs a in
      let p = uses-part form_one (own form_one m) (λ i. (own form_one m i).uses) a q 0 t s found in
      let f = own-first form_one (own form_one m) (inode_on form_one (own form_one m) 0 q) s a in
      omega arith

  -- the inode to which a walk comes is well made, in a lot of at most 64 groups
  pub beside_made : length lot.groups ≤ 64 → (q : List (List ℕ)) (s : Tree) → walk q t ≡ Found s
      → WellMade lot form_one m (inode_on form_one (own form_one m) 0 q)
  beside_made few q s found = made-reads lot few m (inode_on form_one (own form_one m) 0 q) (length q) s (beside_part q s found) (own-within q s found)

  pub beside_number : (q : List (List ℕ)) (s : Tree) → walk q t ≡ Found s → inode_on form_one (own form_one m) 0 q < 64 * length lot.groups
  beside_number q s found = number s (beside_part q s found)
    where
      number : (s : Tree) → Reads form_one lot (own form_one m) (inode_on form_one (own form_one m) 0 q) (length q) s
          → inode_on form_one (own form_one m) 0 q < 64 * length lot.groups
      number (File bytes) r = r.0.number
      number (Dir es) r = r.0.number

  -- its inode is marked used
  pub beside_marked : (q : List (List ℕ)) (s : Tree) → walk q t ≡ Found s → used_inode m (inode_on form_one (own form_one m) 0 q) ≡ true
  beside_marked q s found =
      let o = own form_one m in
      let here = inode_on form_one o 0 q in
      let e = b.inodes here (beside_number q s found) in
      let c = times-append (used_inodes form_one o 0 t) is here in
      let p = uses-part form_one o (λ i. i ∷ []) here q 0 t s found in
      let f = inode-first form_one o here s in
      mark-set (used_inode m here) (omega arith)
