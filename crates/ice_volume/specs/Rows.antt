-- The rows of the cubes, as the tables and the session show them.
use Rattle.std.specs.Prelude.{ℕ, Bool, false, Option, None, Some, List, [], ◌∷◌, length}
use Rattle.std.specs.List.{range_with_len, flat_map}
use Rattle.tree_spec.specs.declared.reply.CubeRow.{CubeRow}
use Rattle.ice_tables.specs.Tables.{Row}
use Rattle.ice_tables.specs.Lots.{groups_of}
use Rattle.ice_names.specs.Names.{row_at}
use Rattle.ice_system.specs.Systems.{tables_of}
use Rattle.ice_volume.specs.Cells.{cell_at, cell_state}
use Rattle.ice_volume.specs.Volumes.{VolumeView}

-- whether a row has the mark of a cube that is offline
abbrev pub is_marked : Option Row → Bool
is_marked None = false
is_marked (Some r) = r.offline

-- the row of a slot in the list of cubes, where it has one
abbrev pub shown_row : VolumeView → ℕ → Option Row → Option CubeRow
shown_row v s None = None
shown_row v s (Some r) =
    Some (record { slot = s; groups = length (groups_of (tables_of v.system) s); state = cell_state (cell_at v.cells s) r.offline; path = r.path })

-- a row, where there is one
abbrev pub at_most_one : Option CubeRow → List CubeRow
at_most_one None = []
at_most_one (Some row) = row ∷ []

-- the rows of the first slots
unfoldable pub shown_rows : VolumeView → ℕ → List CubeRow
shown_rows v n = flat_map (λ s. at_most_one (shown_row v s (row_at v.system.names s))) (range_with_len 0 n)
