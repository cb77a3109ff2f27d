-- What is known of a host over a file.
use Rattle.std.specs.Prelude.{◌≡◌, ℕ, ◌<◌, ◌^◌, Bool, false, List, []}
use Rattle.ice_base.specs.Disk.{Image, DiskState, untold}

-- The number of whole blocks, and how often each kind of call failed; the bytes given that are held back, and whether sending
-- such bytes has ever failed.
pub record Known : Type 0 where
  pub blocks : ℕ
  pub fits : blocks < 2 ^ 32
  pub disk_faults : ℕ
  pub source_faults : ℕ
  pub sink_faults : ℕ
  pub held : List ℕ
  pub lost : Bool

-- the same but for the count of disk faults
pub record SameBut (old new : Known) : Type 0 where
  pub blocks : new.blocks ≡ old.blocks
  pub source_faults : new.source_faults ≡ old.source_faults
  pub sink_faults : new.sink_faults ≡ old.sink_faults
  pub held : new.held ≡ old.held
  pub lost : new.lost ≡ old.lost

-- and that count too
pub record SameKnown (old new : Known) : Type 0 where
  pub rest : SameBut old new
  pub disk_faults : new.disk_faults ≡ old.disk_faults

-- a disk that tells nothing of its content
abbrev pub silent_state : Known → DiskState
silent_state c = untold c.blocks c.disk_faults c.source_faults c.sink_faults

-- of which no crash image is told
abbrev pub silent_left : Known → ℕ → Image → List ℕ → Type 0
silent_left c t image out = ⊥
