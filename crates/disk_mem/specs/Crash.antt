-- The image that a crash leaves, by its fill.
use Rattle.std.specs.Prelude.{◌≡◌, ◌<◌, ℕ, Bool, true, false, List, length, slice_index_or}
use Rattle.ice_base.specs.Disk.{Image, block}
use Rattle.disk_mem.specs.Memory.{Moment}
use Rattle.disk_mem.specs.Fill.{Filled}

-- the settled blocks as they read at that moment, and the loose ones by the fill
pub record LeavesFilled (fill : ℕ) (m : Moment) (image : Image) : Type 0 where
  pub count : length image ≡ length m.now
  pub settled : (k : ℕ) → m.loose k ≡ false → block image k ≡ block m.now k
  pub loose : (k : ℕ) → k < length m.now → m.loose k ≡ true → Filled fill k (block m.settled k) (block m.now k) (block image k)

-- blocks, their settled bytes and the flags of the loose ones show a moment
pub record ShowsMoment (m : Moment) (blocks settled : Image) (flags : List Bool) : Type 0 where
  pub now : m.now ≡ blocks
  pub old : (k : ℕ) → block m.settled k ≡ block settled k
  pub loose : (k : ℕ) → k < length blocks → m.loose k ≡ slice_index_or flags k false
  pub rest : (k : ℕ) → slice_index_or flags k false ≡ false → block settled k ≡ block blocks k
  pub marks : length flags ≡ length blocks
  pub count : length settled ≡ length blocks
