-- What blocks say of tables.
use Rattle.std.specs.Prelude.{◌≡◌, ◌≤◌, ◌<◌, ◌⊎◌, ℕ, List}
use Rattle.ice_base.specs.Disk.{Image}
use Rattle.ice_tables.specs.Tables.{Tables, HasTables, row_in, holder_in, ordinal_in, AreNames, AreOwners}

-- the blocks are those of these tables
pub record SayTables (t : Tables) (m : ℕ → List ℕ) : Type 0 where
  pub rows : (s : ℕ) → row_in t.slots m s ≡ t.row s
  pub holders : (g : ℕ) → holder_in t.groups m g ≡ t.holder g
  pub ordinals : (g : ℕ) → ordinal_in t.groups m g ≡ t.ordinal g
  pub names : AreNames t.slots m
  pub owners : AreOwners t m

-- the blocks that a change may write: the journal of the tables, and the tables
abbrev pub IsChange : ℕ → Type 0
IsChange k = (1 ≤ k) × (k < 19)

-- an image with the tables t or u
abbrev pub EitherTables : Tables → Tables → Image → Type 0
EitherTables t u image = HasTables image t ⊎ HasTables image u
