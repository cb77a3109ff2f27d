-- What the journal of a lot reads as.
use Rattle.std.specs.Prelude.{◌≡◌, ℕ, List, Some}
use Rattle.ice_base.specs.Disk.{Image}
use Rattle.ice_base.specs.Lots.{LotView}
use Rattle.ice_journal.specs.Shown.{targets_now}

-- the view is what a read of the lot's gate and header answers: the targets that count
abbrev pub ReadsAs : LotView → (view : List ℕ) → Image → Type 0
ReadsAs lot view image = targets_now lot image ≡ Some view
