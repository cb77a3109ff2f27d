-- A lot with further groups.
use Rattle.std.specs.Prelude.{◌≡◌, ◌++◌, ℕ, List, length}
use Rattle.ice_base.specs.Disk.{DiskState}
use Rattle.ice_base.specs.Frames.{Settled}
use Rattle.ice_base.specs.Lots.{LotView, IsLot, extent}
use Rattle.ice_cube.specs.Fresh.{HasFreshGroups}

-- the lot has the groups of the old one, and then others
pub record IsWider (old lot : LotView) : Type 0 where
  pub is_lot : IsLot lot
  pub slot : lot.slot ≡ old.slot
  pub base : lot.base ≡ old.base
  pub more : List ℕ
  pub groups : lot.groups ≡ old.groups ++ more

-- a block of the wider lot that the old one does not have
abbrev pub IsNewBlock : LotView → LotView → ℕ → Type 0
IsNewBlock old lot k = extent lot k × ¬ extent old k

-- the further groups are fresh, and none of their blocks is loose
pub record HasNewGroups (old lot : LotView) (s : DiskState) : Type 0 where
  pub settled : Settled (IsNewBlock old lot) s
  pub fresh : HasFreshGroups lot (length old.groups) s.now
