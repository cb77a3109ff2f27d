-- Lines that leave a broken cube broken.
use Rattle.std.specs.Prelude.{◌≡◌, ℕ, ⊤, List, [], ◌∷◌}
use Rattle.tree_spec.specs.Own.{Order, Delete, Grow}
use Rattle.tree_spec.specs.World.{World, At, aim}
use Rattle.ice_run.specs.Runs.{Answered}

-- an order after which a cube may be broken no longer: more groups may mend it, and a deletion ends it
abbrev pub MayMend : Order → Type 0
MayMend (Grow n) = ⊤
MayMend Delete = ⊤
MayMend _ = ⊥

-- no line is such an order to the cube of a slot
abbrev pub NoneMends : ℕ → World → List Answered → Type 0
NoneMends x w [] = ⊤
NoneMends x w (a ∷ rest) = ((o : Order) → aim w a.line ≡ At x o → ¬ MayMend o) × NoneMends x a.then rest
