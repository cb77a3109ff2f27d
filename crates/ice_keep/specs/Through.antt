-- What a keep that writes home at once does to its disk.
use Rattle.std.specs.Prelude.{◌≡◌, ℕ, true, List, refl}
use Rattle.std.proofs.Common.{◌∙◌}
use Rattle.ice_base.specs.Disk.{Image, DiskState}
use Rattle.ice_base.specs.Frames.{Within}
use Rattle.ice_base.specs.FrameLaws.{within_refl, within_then}
use Rattle.ice_base.specs.Lots.{LotView, IsHome}

-- only homes of the lot were changed or made loose, none of the journal's blocks, and no barrier was made
pub record Through {D : Type 0} (state : D → DiskState) (left : D → ℕ → Image → List ℕ → Type 0) (lot : LotView) (old new : D) : Type 0 where
  pub within : Within state left (IsHome lot) old new
  pub barriers : (state old).tells ≡ true → (state new).barriers ≡ (state old).barriers

module _ {D : Type 0} (state : D → DiskState) (left : D → ℕ → Image → List ℕ → Type 0) (lot : LotView) where
  pub through_refl : (d : D) → Through state left lot d d
  through_refl d = record { within = within_refl state left (IsHome lot) d; barriers = λ t. refl }

  pub through_then : (a b c : D) → Through state left lot a b → Through state left lot b c → Through state left lot a c
  through_then a b c v w = record {
    within = within_then state left (IsHome lot) a b c v.within w.within;
    barriers = λ t. w.barriers (v.within.tells ∙ t) ∙ v.barriers t;
  }
