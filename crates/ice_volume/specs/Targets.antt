-- The cube that a command of a tree is meant for, by the tables.
use Rattle.std.specs.Prelude.{ℕ, ⊤, nat_eq, List, [], ◌∷◌, Option, Some, Result, Ok, Err, if◌then◌else◌}
use Rattle.tree_spec.specs.Lines.{Request, Mkdir, Make, Write, Read, Trunc, Remove, Rename, ListDir, Stat}
use Rattle.tree_spec.specs.Routes.{route}
use Rattle.tree_spec.specs.declared.reply.Refusal.{Refusal}
use Rattle.tree_spec.specs.declared.reply.Refusal.TheVariants.{NoCube, CrossCube}
use Rattle.ice_names.specs.Names.{NamesView, Catches, path_at}

-- the paths of a request of one tree
abbrev pub paths_asked : Request → List (List (List ℕ))
paths_asked (Mkdir p) = p ∷ []
paths_asked (Make p) = p ∷ []
paths_asked (Write p at bytes) = p ∷ []
paths_asked (Read p at len) = p ∷ []
paths_asked (Trunc p len) = p ∷ []
paths_asked (Remove p) = p ∷ []
paths_asked (Rename p q) = p ∷ q ∷ []
paths_asked (ListDir p) = p ∷ []
paths_asked (Stat p) = p ∷ []
paths_asked _ = []

-- the slot to which a path routes
abbrev pub routed : NamesView → List (List ℕ) → Option ℕ
routed v p = route (λ s. path_at v s) v.slots p

-- the one slot of one route or two, or the refusal
abbrev pub one_slot : List (Option ℕ) → Result ℕ Refusal
one_slot (Some s ∷ []) = Ok s
one_slot (Some s ∷ Some t ∷ []) = if nat_eq s t then Ok s else Err CrossCube
one_slot _ = Err NoCube

-- the slot of an answer with the number of names of its cube's path
abbrev pub slot_of : Result (ℕ × ℕ) Refusal → Result ℕ Refusal
slot_of (Ok a) = Ok a.0
slot_of (Err r) = Err r

-- the path of the cube in the slot has so many names, which begin each of these paths
abbrev pub AllCatch : NamesView → ℕ → ℕ → List (List (List ℕ)) → Type 0
AllCatch v s n [] = ⊤
AllCatch v s n (p ∷ ps) = Catches v p s n × AllCatch v s n ps
