-- The rules that a lot breaks, by what its blocks hold where its directories lead.
use Rattle.std.specs.Prelude.{◌≡◌, ◌≢◌, ◌≤◌, ◌<◌, ◌⊎◌, ℕ, zero, suc, ◌+◌, ◌*◌, ◌==◌, Bool, true, false, cond, List, length, Contains, Some, ⊤}
use Rattle.std.specs.List.{sum_by}
use Rattle.ice_base.specs.Lots.{LotView, sub_address}
use Rattle.ice_base.specs.Spare.{has}
use Rattle.ice_base.specs.Used.{bits_of, used_inode, Reserved, counted}
use Rattle.ice_base.specs.declared.fault.OpFault.{OpFault}
use Rattle.ice_base.specs.declared.fault.OpFault.TheVariants.{Disk, Damaged}
use Rattle.ice_base.specs.declared.fault.Rule.{Rule}
use Rattle.ice_base.specs.declared.fault.Rule.TheVariants as rule
use Rattle.ice_layout.specs.Subs.{sub_rule}
use Rattle.ice_map.specs.Inodes.{inode_of}
use Rattle.ice_map.specs.Maps.{times, uses, Misleads, UsesUnmarked}
use Rattle.ice_map.specs.Own.{map_length}
use Rattle.ice_dir.specs.Rows.{DirRow, dir_rows_of, IsDirectory}
use Rattle.tree_spec.specs.Names.{is_name}
use Rattle.ice_look.specs.Places.{IsNode, IsReached}
use Rattle.ice_look.specs.declared.place.Place.{Place}
use Rattle.tree_spec.specs.Costs.{Form}
use Rattle.ice_look.specs.declared.place.Place.TheVariants.{Dir}

-- to how many files and directories at most so many names lead from an inode, itself among them
abbrev pub count_within : Form → (ℕ → List ℕ) → ℕ → ℕ → ℕ
count_within form m zero number = 1
count_within form m (suc levels) number =
    cond ((inode_of m number).kind == 2) (1 + sum_by (λ (row : DirRow). count_within form m levels row.1) (dir_rows_of form m number)) 1

-- the same from a place
abbrev pub count_within_place : Form → (ℕ → List ℕ) → ℕ → Place → ℕ
count_within_place form m levels (Dir number size) = count_within form m levels number
count_within_place form m levels _ = 1

-- ---- inodes

-- some inode is neither a file nor a directory that the lot can have
pub record BadInode (form : Form) (lot : LotView) (m : ℕ → List ℕ) : Type 0 where
  pub number : ℕ
  pub reached : IsReached form lot m number
  pub bad : ¬ IsNode lot (inode_of m number)

-- some file or directory has in its map a block that is no data place, or one that stands in an indirect block that is none
pub record BadPointer (form : Form) (lot : LotView) (m : ℕ → List ℕ) : Type 0 where
  pub number : ℕ
  pub reached : IsReached form lot m number
  pub node : IsNode lot (inode_of m number)
  pub bad : Misleads lot m (inode_of m number) (map_length form (inode_of m number))

-- what an inode uses: the blocks of its map, and the indirect block that names them
abbrev pub node_uses : Form → (ℕ → List ℕ) → ℕ → List ℕ
node_uses form m number = uses m (inode_of m number) (map_length form (inode_of m number))

-- a block stands twice in what some file or directory uses, or in what two of them use
pub record TwiceUsed (form : Form) (lot : LotView) (m : ℕ → List ℕ) : Type 0 where
  pub one : ℕ
  pub other : ℕ
  pub block : ℕ
  pub reached : IsReached form lot m one
  pub reached_too : IsReached form lot m other
  pub node : IsNode lot (inode_of m one)
  pub node_too : IsNode lot (inode_of m other)
  pub twice : ((one ≡ other) × (2 ≤ times (node_uses form m one) block))
      ⊎ ((one ≢ other) × (has (node_uses form m one) block ≡ true) × (has (node_uses form m other) block ≡ true))

-- ---- entries

-- some directory has a row that names the root, or no inode of the lot
pub record BadEntry (form : Form) (lot : LotView) (m : ℕ → List ℕ) : Type 0 where
  pub number : ℕ
  pub row : DirRow
  pub reached : IsReached form lot m number
  pub dir : IsDirectory lot (inode_of m number)
  pub has : Contains (dir_rows_of form m number) row
  pub bad : (row.1 ≡ 0) ⊎ (64 * length lot.groups ≤ row.1)

-- two directories have together as many entries as the lot has inodes, one more than there are to name: one is named twice, or the root, or none of the lot
pub record Overfull (form : Form) (lot : LotView) (m : ℕ → List ℕ) : Type 0 where
  pub one : ℕ
  pub other : ℕ
  pub apart : one ≢ other
  pub reached : IsReached form lot m one
  pub reached_too : IsReached form lot m other
  pub dir : IsDirectory lot (inode_of m one)
  pub dir_too : IsDirectory lot (inode_of m other)
  pub many : 64 * length lot.groups ≤ (inode_of m one).size + (inode_of m other).size

-- the entries below some inode lead to more files and directories than the lot has inodes, and so to one of them twice
pub record LeadsToTooMany (form : Form) (lot : LotView) (m : ℕ → List ℕ) : Type 0 where
  pub number : ℕ
  pub levels : ℕ
  pub reached : IsReached form lot m number
  pub many : 64 * length lot.groups < count_within form m levels number

-- some directory has a row whose name is none
pub record BadName (form : Form) (lot : LotView) (m : ℕ → List ℕ) : Type 0 where
  pub number : ℕ
  pub row : DirRow
  pub reached : IsReached form lot m number
  pub dir : IsDirectory lot (inode_of m number)
  pub has : Contains (dir_rows_of form m number) row
  pub bad : is_name row.0 ≡ false

-- ---- counts and bitmaps

-- more inodes, or blocks, are counted than the lot has
pub record ManyCounted (lot : LotView) (m : ℕ → List ℕ) : Type 0 where
  pub inodes : Bool
  pub many : bits_of inodes * length lot.groups < counted inodes m

-- fewer blocks are counted than one file or directory uses, or than two use together
pub record FewCounted (form : Form) (lot : LotView) (m : ℕ → List ℕ) : Type 0 where
  pub one : ℕ
  pub other : ℕ
  pub reached : IsReached form lot m one
  pub reached_too : IsReached form lot m other
  pub node : IsNode lot (inode_of m one)
  pub node_too : IsNode lot (inode_of m other)
  pub few : counted false m < length (node_uses form m one) + cond (one == other) 0 (length (node_uses form m other))

-- a count of the sub-super block is not that of what is used: too many are counted, or not even the root, or too few blocks
abbrev pub BadCount : Form → LotView → (ℕ → List ℕ) → Type 0
BadCount form lot m = ManyCounted lot m ⊎ (counted true m ≡ 0) ⊎ FewCounted form lot m

-- some file or directory uses a block that is not marked used
pub record FreeBlock (form : Form) (lot : LotView) (m : ℕ → List ℕ) : Type 0 where
  pub number : ℕ
  pub reached : IsReached form lot m number
  pub node : IsNode lot (inode_of m number)
  pub bad : UsesUnmarked m (inode_of m number) (map_length form (inode_of m number))

-- some inode to which the directories lead is not marked used
pub record FreeInode (form : Form) (lot : LotView) (m : ℕ → List ℕ) : Type 0 where
  pub number : ℕ
  pub reached : IsReached form lot m number
  pub free : used_inode m number ≡ false

-- a bitmap is not that of what is used: a place that holds no data is free, or a block that is used, or an inode; or no bitmap is that of what is used twice
abbrev pub BadBitmap : Form → LotView → (ℕ → List ℕ) → Type 0
BadBitmap form lot m = (¬ Reserved lot m) ⊎ FreeBlock form lot m ⊎ FreeInode form lot m ⊎ TwiceUsed form lot m

-- ---- the rules

-- the lot breaks this rule
abbrev pub IsBroken : Form → LotView → (ℕ → List ℕ) → Rule → Type 0
IsBroken form lot m rule.Magic = sub_rule lot.slot (m sub_address) ≡ Some rule.Magic
IsBroken form lot m rule.Version = sub_rule lot.slot (m sub_address) ≡ Some rule.Version
IsBroken form lot m rule.Slot = sub_rule lot.slot (m sub_address) ≡ Some rule.Slot
IsBroken form lot m rule.Mode = sub_rule lot.slot (m sub_address) ≡ Some rule.Mode
IsBroken form lot m rule.Done = sub_rule lot.slot (m sub_address) ≡ Some rule.Done
IsBroken form lot m rule.Counts = BadCount form lot m
IsBroken form lot m rule.Kind = BadInode form lot m
IsBroken form lot m rule.Pointer = BadPointer form lot m ⊎ TwiceUsed form lot m
IsBroken form lot m rule.InodeTwice = BadEntry form lot m ⊎ Overfull form lot m ⊎ LeadsToTooMany form lot m
IsBroken form lot m rule.Name = BadName form lot m
IsBroken form lot m rule.Bitmap = BadBitmap form lot m
IsBroken form lot m _ = ⊥

-- a fault is the disk's, or it names a rule of which this holds
abbrev pub IsFaultBy : (Rule → Type 0) → OpFault → Type 0
IsFaultBy P Disk = ⊤
IsFaultBy P (Damaged r) = P r
IsFaultBy P _ = ⊥

-- it names a rule that the lot breaks
abbrev pub IsBrokenBy : Form → LotView → (ℕ → List ℕ) → OpFault → Type 0
IsBrokenBy form lot m = IsFaultBy (IsBroken form lot m)
