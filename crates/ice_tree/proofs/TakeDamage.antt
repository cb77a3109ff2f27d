-- What a take of an entry that fails says of the lot.
use Rattle.std.proofs.Common.{◌≡◌, ◌<◌, ◌+◌, ◌-◌, ℕ, false, List, refl, arith, inr}
use Rattle.ice_base.specs.Lots.{LotView}
use Rattle.ice_base.specs.Used.{counted}
use Rattle.ice_base.specs.declared.fault.OpFault.{OpFault}
use Rattle.ice_base.specs.declared.fault.OpFault.TheVariants.{Disk, Damaged}
use Rattle.ice_base.specs.declared.fault.Rule.TheVariants.{Counts, Kind, Pointer, Bitmap}
use Rattle.ice_map.specs.Inodes.{inode_of}
use Rattle.ice_map.specs.Maps.{FreeOrTwice}
use Rattle.ice_map.proofs.UsesLaws.{free-or}
use Rattle.ice_map.specs.Own.{Confuses}
use Rattle.ice_map.specs.Moves.{uses_of}
use Rattle.ice_dir.specs.Changes.{entry_blocks, dir_uses}
use Rattle.ice_dir.specs.Faults.{IsRemovalFault}
use Rattle.ice_dir.specs.Rows.{IsDirectory}
use Rattle.ice_look.specs.Broken.{IsBrokenBy}
use Rattle.ice_look.proofs.MapDamage.{map-dir, few-counted, bad-bitmap, bad-map}
use Rattle.tree_spec.specs.Costs.{Form}
use Rattle.ice_look.specs.Places.{IsReached}

-- an entry was to be taken from a directory
pub take-blamed : (form : Form) (lot : LotView) (m : ℕ → List ℕ) (number : ℕ) → IsReached form lot m number
    → IsDirectory lot (inode_of m number) → (e : OpFault) → IsRemovalFault e
    → (e ≡ Damaged Counts → counted false m + uses_of (entry_blocks form ((inode_of m number).size - 1)) < uses_of (entry_blocks form (inode_of m number).size))
    → (e ≡ Damaged Kind → ¬ IsDirectory lot (inode_of m number))
    → (e ≡ Damaged Bitmap → FreeOrTwice m (dir_uses form m number))
    → (e ≡ Damaged Pointer → Confuses lot m (inode_of m number) (entry_blocks form (inode_of m number).size))
    → IsBrokenBy form lot m e
take-blamed form lot m number reached dir Disk f zero kind unused misled = tt
take-blamed form lot m number reached dir (Damaged Counts) f zero kind unused misled =
    let z = zero refl in
    inr (inr (few-counted form lot m number (entry_blocks form (inode_of m number).size) reached (inr dir)
    (map-dir form (inode_of m number) dir.kind) (omega arith)))
take-blamed form lot m number reached dir (Damaged Kind) f zero kind unused misled = absurd (kind refl dir)
take-blamed form lot m number reached dir (Damaged Bitmap) f zero kind unused misled =
    bad-bitmap form lot m number (entry_blocks form (inode_of m number).size) reached (inr dir) (map-dir form (inode_of m number) dir.kind)
    (free-or m (inode_of m number) (entry_blocks form (inode_of m number).size) (unused refl))
take-blamed form lot m number reached dir (Damaged Pointer) f zero kind unused misled =
    bad-map form lot m number (entry_blocks form (inode_of m number).size) reached (inr dir) (map-dir form (inode_of m number) dir.kind) (misled refl)
take-blamed form lot m number reached dir _ f zero kind unused misled = absurd f
