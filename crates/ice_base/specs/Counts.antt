-- How many writes and barriers calls made.
use Rattle.std.specs.Prelude.{◌≡◌, ◌+◌, ◌≤◌, ℕ, Bool, true}
use Rattle.ice_base.specs.Disk.{DiskState}

-- at most so many good writes and barriers, and exactly so many where it was good
pub record Made (writes barriers : ℕ) (good : Bool) (old new : DiskState) : Type 0 where
  pub most_writes : new.writes ≤ old.writes + writes
  pub most_barriers : new.barriers ≤ old.barriers + barriers
  pub all_writes : good ≡ true → new.writes ≡ old.writes + writes
  pub all_barriers : good ≡ true → new.barriers ≡ old.barriers + barriers
