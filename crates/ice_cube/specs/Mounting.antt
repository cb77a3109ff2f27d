-- What a mount finds in a lot.
use Rattle.std.specs.Prelude.{◌≡◌, ℕ, true, List}
use Rattle.ice_base.specs.Disk.{Image, DiskState, Nowhere}
use Rattle.ice_base.specs.Frames.{CrashStep, Within}
use Rattle.ice_base.specs.Lots.{LotView, extent}
use Rattle.tree_spec.specs.Costs.{Form}
use Rattle.tree_spec.specs.Records.{Mode}
use Rattle.tree_spec.specs.Trees.{Tree}
use Rattle.ice_images.specs.Recovering.{Recovers, RecoversNothing}
use Rattle.ice_rules.specs.Rules.{LotMayName}
use Rattle.ice_tables.specs.Journals.{effective_of}
use Rattle.ice_cube.specs.declared.fault.CubeFault.{CubeFault}
use Rattle.ice_cube.specs.declared.fault.CubeFault.TheVariants.{Damaged}

-- the lot recovers some tree with this count
pub record RecoversSome (lot : LotView) (image : Image) (k : ℕ) : Type 0 where
  pub form : Form
  pub mode : Mode
  pub tree : Tree
  pub recovers : Recovers lot image form mode tree k

-- where the fault is damage, the lot recovers nothing, and the rule that it names may be named
abbrev pub TellsDamage : LotView → Image → CubeFault → Type 0
TellsDamage lot image (Damaged r) = RecoversNothing lot image × LotMayName lot (effective_of lot image) r
TellsDamage lot image _ = Unit {0}

-- no block was written
pub record Unwritten {D : Type 0} (state : D → DiskState) (left : D → ℕ → Image → List ℕ → Type 0) (old new : D) : Type 0 where
  pub within : Within state left Nowhere old new
  pub writes : (state old).tells ≡ true → (state new).writes ≡ (state old).writes

-- where the fault is damage, no block was written
abbrev pub UnwrittenIfDamaged : {D : Type 0} → (D → DiskState) → (D → ℕ → Image → List ℕ → Type 0) → D → D → CubeFault → Type 0
UnwrittenIfDamaged state left old new (Damaged r) = Unwritten state left old new
UnwrittenIfDamaged state left old new _ = Unit {0}

-- no crash within the calls, or after them, changes the effective blocks of the lot
abbrev pub KeepsBlocks : {D : Type 0} → (D → DiskState) → (D → ℕ → Image → List ℕ → Type 0) → LotView → D → D → Type 0
KeepsBlocks state left lot old new = CrashStep state left (extent lot) (λ i. effective_of lot i ≡ effective_of lot (state old).now) old new
