-- Why a command was refused.
use Rattle.std.specs.Prelude.{ℕ}

-- the refusals that name their reason: all but a fault of the disk and want of memory
pub data Why : Type 0 where
  NameLong : Why
  TooDeep : Why
  NotFound : Why
  NotDir : Why
  IsDir : Why
  IsRoot : Why
  Exists : Why
  NotEmpty : Why
  IntoItself : Why
  BeyondEnd : Why
  FileBig : Why
  NoNodes : Why
  NoSpace : Why
  Spent : Why
  Damaged : ℕ → Why
  Word : Why
  Args : Why
  Number : Why
  Hex : Why
  Long : Why
  Path : Why
  NoCube : Why
  CrossCube : Why
  Offline : Why
  Stopped : Why
  Unmounted : Why
  Mounted : Why
  State : Why
  NoSlot : Why
  CubeFull : Why
  NoGroups : Why
