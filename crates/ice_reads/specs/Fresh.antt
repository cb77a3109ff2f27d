-- The lot of a new cube.
use Rattle.std.specs.Prelude.{◌≡◌, ◌<◌, ℕ, ◌+◌, ◌*◌, ◌==◌, length}
use Rattle.ice_base.specs.Lots.{LotView, sub_address}
use Rattle.ice_layout.specs.Subs.{IsSub, fresh_place}
use Rattle.ice_reads.specs.Tables.{Map}

-- A lot of at least one group, whose groups have the bitmaps and inodes of fresh ones.
-- Its sub-super block says that no operation was accepted, and that the root's inode alone is used.
pub record IsFreshLot (lot : LotView) (m : Map) : Type 0 where
  pub sub : IsSub lot.slot (record { version = 1; slot = lot.slot; mode = 0; done = 0; blocks = 0; nodes = 1 }) (m sub_address)
  pub some : 0 < length lot.groups
  pub groups : (g place : ℕ) → g < length lot.groups → place < 9 → m (256 * g + place) ≡ fresh_place (g == 0) place
