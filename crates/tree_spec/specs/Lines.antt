-- What a line asks for.
use Rattle.std.specs.Prelude.{ℕ, List}
use Rattle.tree_spec.specs.Why.{Why}
use Rattle.tree_spec.specs.declared.command.Command.{Command}
use Rattle.tree_spec.specs.declared.command.Command.TheVariants as code

-- a command, with its paths as lists of names
pub data Request : Type 0 where
  Create : List (List ℕ) → ℕ → Request
  Delete : List (List ℕ) → Request
  Grow : List (List ℕ) → ℕ → Request
  Offline : List (List ℕ) → Request
  Online : List (List ℕ) → Request
  Cubes : Request
  Mount : List (List ℕ) → Request
  Unmount : List (List ℕ) → Request
  Check : List (List ℕ) → Request
  Mkdir : List (List ℕ) → Request
  Make : List (List ℕ) → Request
  Write : List (List ℕ) → ℕ → List ℕ → Request
  Read : List (List ℕ) → ℕ → ℕ → Request
  Trunc : List (List ℕ) → ℕ → Request
  Remove : List (List ℕ) → Request
  Rename : List (List ℕ) → List (List ℕ) → Request
  ListDir : List (List ℕ) → Request
  Stat : List (List ℕ) → Request
  Sync : List (List ℕ) → Request

-- a line is refused by its text alone, or it asks for a command
pub data Line : Type 0 where
  Bad : Why → Line
  Asks : Request → Line

-- what a command of the code asks for
abbrev pub asked : Command → Request
asked (code.Create path groups) = Create path groups
asked (code.Delete path) = Delete path
asked (code.Grow path groups) = Grow path groups
asked (code.Offline path) = Offline path
asked (code.Online path) = Online path
asked code.Cubes = Cubes
asked (code.Mount path) = Mount path
asked (code.Unmount path) = Unmount path
asked (code.Check path) = Check path
asked (code.Mkdir path) = Mkdir path
asked (code.Make path) = Make path
asked (code.Write path at bytes) = Write path at bytes.now
asked (code.Read path at len) = Read path at len
asked (code.Trunc path len) = Trunc path len
asked (code.Remove path) = Remove path
asked (code.Rename path to) = Rename path to
asked (code.List path) = ListDir path
asked (code.Stat path) = Stat path
asked (code.Sync path) = Sync path
