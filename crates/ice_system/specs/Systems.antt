-- What a volume's tables are while they are open.
use Rattle.std.specs.Prelude.{◌≢◌, ℕ, Bool, [], IsSome}
use Rattle.ice_names.specs.Names.{NamesView, row_at}
use Rattle.ice_owner.specs.Owners.{OwnersView, groups_at, holder, ordinal}
use Rattle.ice_tables.specs.Tables.{Tables}

-- the rows of the cubes, the groups of the slots, and whether a change has failed after the gate's first write
pub record SystemView : Type 0 where
  pub names : NamesView
  pub owners : OwnersView
  pub failed : Bool

-- the tables that these rows and groups are
abbrev pub tables_with : NamesView → OwnersView → Tables
tables_with names owners = record {
  slots = names.slots;
  groups = owners.groups;
  row = λ s. row_at names s;
  holder = λ g. holder owners g;
  ordinal = λ g. ordinal owners g;
}

-- the tables of an open volume
abbrev pub tables_of : SystemView → Tables
tables_of v = tables_with v.names v.owners

-- a slot has a row exactly where it has groups
pub record AreTables (names : NamesView) (owners : OwnersView) : Type 0 where
  pub live : (s : ℕ) → IsSome (row_at names s) → groups_at owners s ≢ []
  pub taken : (s : ℕ) → groups_at owners s ≢ [] → IsSome (row_at names s)
