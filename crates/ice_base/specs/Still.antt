-- A disk that is left as it was, or but for one home.
use Rattle.std.specs.Prelude.{◌≡◌, ℕ, true, List, refl}
use Rattle.std.proofs.Common.{◌∙◌}
use Rattle.ice_base.specs.Disk.{Image, DiskState, Nowhere}
use Rattle.ice_base.specs.Frames.{Within}
use Rattle.ice_base.specs.FrameLaws.{within_refl, within_then}
use Rattle.ice_base.specs.Lots.{LotView, IsHomeOf}

-- The disk is as it was, but for its counts of faults and its clock, and each crash since leaves it so.
pub record Still {D : Type 0} (state : D → DiskState) (left : D → ℕ → Image → List ℕ → Type 0) (old new : D) : Type 0 where
  pub within : Within state left Nowhere old new
  pub barriers : (state old).tells ≡ true → (state new).barriers ≡ (state old).barriers
  pub writes : (state old).tells ≡ true → (state new).writes ≡ (state old).writes
  pub loose : (state old).tells ≡ true → (k : ℕ) → (state new).loose k ≡ (state old).loose k

-- Only the home of this address was changed or made loose, and no barrier was made.
pub record PutsHome {D : Type 0} (state : D → DiskState) (left : D → ℕ → Image → List ℕ → Type 0) (lot : LotView) (a : ℕ) (old new : D) : Type 0 where
  pub within : Within state left (IsHomeOf lot a) old new
  pub barriers : (state old).tells ≡ true → (state new).barriers ≡ (state old).barriers

module _ {D : Type 0} (state : D → DiskState) (left : D → ℕ → Image → List ℕ → Type 0) where
  pub still_refl : (d : D) → Still state left d d
  still_refl d = record { within = within_refl state left Nowhere d; barriers = λ t. refl; writes = λ t. refl; loose = λ t k. refl }

  pub still_then : (a b c : D) → Still state left a b → Still state left b c → Still state left a c
  still_then a b c v w = record {
    within = within_then state left Nowhere a b c v.within w.within;
    barriers = λ t. w.barriers (v.within.tells ∙ t) ∙ v.barriers t;
    writes = λ t. w.writes (v.within.tells ∙ t) ∙ v.writes t;
    loose = λ t k. w.loose (v.within.tells ∙ t) k ∙ v.loose t k;
  }
