-- The lot of a new cube on the disk: its fresh groups, and what it recovers.
use Rattle.std.specs.Prelude.{◌≡◌, ◌≤◌, ◌<◌, ℕ, ◌+◌, ◌*◌, ◌==◌, List, length}
use Rattle.ice_base.specs.Disk.{Image, block}
use Rattle.ice_base.specs.Lots.{LotView, place}
use Rattle.tree_spec.specs.Trees.{Dir, Nil}
use Rattle.tree_spec.specs.Costs.{form_one}
use Rattle.ice_layout.specs.Subs.{fresh_place}
use Rattle.ice_layout.specs.declared.sub.SubSuper.{SubSuper}
use Rattle.ice_reads.specs.Recovers.{MapRecovers}
use Rattle.ice_journal.specs.Rests.{LotAtRest}

-- a block is the bitmap or an inode block of the group of this ordinal
abbrev pub IsGroupHead : LotView → ℕ → ℕ → Type 0
IsGroupHead lot ordinal k = (p : ℕ) × (p < 9) × (k ≡ place lot (256 * ordinal + p))

-- a block is the bitmap or an inode block of a group of an ordinal from there on
abbrev pub IsHeadFrom : LotView → ℕ → ℕ → Type 0
IsHeadFrom lot from k = (o : ℕ) × (from ≤ o) × (o < length lot.groups) × IsGroupHead lot o k

-- the group of this ordinal has the bitmap and the inode blocks of a fresh one
abbrev pub HasFreshGroup : LotView → ℕ → Image → Type 0
HasFreshGroup lot ordinal image = (p : ℕ) → p < 9 → block image (place lot (256 * ordinal + p)) ≡ fresh_place (ordinal == 0) p

-- and so has each group of an ordinal from there on
abbrev pub HasFreshGroups : LotView → ℕ → Image → Type 0
HasFreshGroups lot from image = (o : ℕ) → from ≤ o → o < length lot.groups → HasFreshGroup lot o image

-- what the sub-super block of a new cube says: no operation was accepted, and the root's inode alone is used
abbrev pub fresh_sub : ℕ → SubSuper
fresh_sub slot = record { version = 1; slot = slot; mode = 0; done = 0; blocks = 0; nodes = 1 }

-- The lot is at rest, and its effective blocks recover the empty directory in version 1 and mode 0, with no accepted operation.
pub record IsEmptyLot (lot : LotView) (image : Image) : Type 0 where
  pub blocks : ℕ → List ℕ
  pub rest : LotAtRest lot blocks image
  pub recovers : MapRecovers form_one 0 lot blocks (Dir Nil) 0
