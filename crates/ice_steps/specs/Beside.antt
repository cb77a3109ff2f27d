-- What a map of a lot's blocks holds while a change of its tree is under way.
use Rattle.std.specs.Prelude.{◌≡◌, ◌<◌, ◌^◌, ℕ, ◌*◌, ◌++◌, true, false, List, length, [], ◌∷◌}
use Rattle.ice_base.specs.Fields.{LongSet}
use Rattle.ice_base.specs.Lots.{LotView, sub_address}
use Rattle.ice_base.specs.Spare.{has, Except}
use Rattle.ice_base.specs.Used.{used_block, used_inode, is_data, Reserved, counted}
use Rattle.ice_map.specs.Maps.{times}
use Rattle.ice_map.specs.Own.{mark, own}
use Rattle.tree_spec.specs.Trees.{Tree}
use Rattle.tree_spec.specs.Costs.{Form}
use Rattle.tree_spec.specs.Answers.{is_dir}
use Rattle.ice_reads.specs.Tables.{Map}
use Rattle.ice_reads.specs.Reads.{Reads, used_blocks, used_inodes}
use Rattle.ice_reads.specs.Recovers.{SubSays}

-- The map holds a tree with its count, and beside it blocks and inodes that no directory leads to, which are marked used and counted as well.
-- With nothing beside the tree the map recovers it.
pub record Beside (f : Form) (mode : ℕ) (lot : LotView) (m : Map) (t : Tree) (done : ℕ) (more : List ℕ) (others : List ℕ) : Type 0 where
  pub sub : SubSays f mode lot.slot (m sub_address) done
  pub dir : is_dir t ≡ true
  pub reads : Reads f lot (own f m) 0 0 t
  pub reserved : Reserved lot m
  pub blocks : (b : ℕ) → is_data lot b ≡ true → times (used_blocks f (own f m) 0 t ++ more) b ≡ mark (used_block m b)
  pub inodes : (i : ℕ) → i < 64 * length lot.groups → times (used_inodes f (own f m) 0 t ++ others) i ≡ mark (used_inode m i)
  pub block_count : counted false m ≡ length (used_blocks f (own f m) 0 t ++ more)
  pub inode_count : counted true m ≡ length (used_inodes f (own f m) 0 t ++ others)
  pub more_data : (b : ℕ) → has more b ≡ true → is_data lot b ≡ true
  pub others_small : (i : ℕ) → has others i ≡ true → i < 64 * length lot.groups

-- no address but these has another block
abbrev pub OnlyAt : List ℕ → Map → Map → Type 0
OnlyAt addresses old new = (a : ℕ) → Except a addresses (new a ≡ old a)

-- the count in the sub-super block was set, and nothing else changed
pub record DoneSet (old new : Map) (done : ℕ) : Type 0 where
  pub value : LongSet (old sub_address) 16 done (new sub_address)
  pub small : done < 2 ^ 63
  pub others : (a : ℕ) → Except a (sub_address ∷ []) (new a ≡ old a)
