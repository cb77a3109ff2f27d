-- What the making of an image does, whatever the host tells.
use Rattle.std.specs.Prelude.{◌≡◌, ◌<◌, ℕ, true, List}
use Rattle.ice_base.specs.Disk.{Image, DiskState, Below, Everywhere}
use Rattle.ice_base.specs.Frames.{Within, Settled}
use Rattle.ice_base.specs.declared.status.Status.{Status}
use Rattle.ice_base.specs.declared.status.Status.TheVariants.{Done, Small}
use Rattle.ice_layout.specs.Geometry.{total_blocks}
use Rattle.ice_layout.specs.Supers.{IsFreshImage}
use Rattle.ice_layout.specs.declared.superblock.Super.{Super}
use Rattle.ice_images.specs.Opening.{Opens, empty_world}
use Rattle.ice_run.specs.Causes.{FormatCause}
use Rattle.ice_volume.specs.Sessions.{Starts}

-- The making of an image. It changes blocks 0 to 31 alone, takes and gives nothing, and at Done they are the fresh image and nothing is loose.
-- So a session may start from it, in the world without cubes. Small comes exactly where there are too few blocks, and then nothing was done.
pub record FormatsImage {D : Type 0} (state : D → DiskState) (left : D → ℕ → Image → List ℕ → Type 0) (sup : Super) (status : Status)
    (old new : D) : Type 0 where
  pub within : Within state left (Below 32) old new
  pub cause : FormatCause sup status (state old) (state new)
  pub room : (state old).size < total_blocks sup.slots sup.groups → (status ≡ Small) × (new ≡ old)
  pub fresh : (state old).tells ≡ true → status ≡ Done → IsFreshImage sup (state new).now × Settled Everywhere (state new)
  pub starts : (state old).tells ≡ true → status ≡ Done → Starts (state new) (empty_world sup)
  pub opens : (state old).tells ≡ true → status ≡ Done → Opens (state new).now (empty_world sup)
