-- One piece of a script.
use Rattle.std.specs.Prelude.{◌≡◌, ◌≤◌, ℕ, List, [], ◌++◌, take, length}
use Rattle.ice_base.specs.Disk.{Streams}

-- taking gives nothing
pub record TookOnly (old new : Streams) : Type 0 where
  pub aside : new.aside ≡ old.aside
  pub sink_faults : new.sink_faults ≡ old.sink_faults
  pub faults : old.source_faults ≤ new.source_faults

-- the first n bytes that were left are the first n of the piece; none means that none was left
pub record TookPiece (n : ℕ) (piece before after : List ℕ) : Type 0 where
  pub bytes : before ≡ take n piece ++ after
  pub enough : length (take n piece) ≡ n
  pub ended : n ≡ 0 → before ≡ []
