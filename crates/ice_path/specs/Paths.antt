-- The faults of a text that should be a path.
use Rattle.std.specs.Prelude.{ℕ, Bool, true, false, not, ◌&&◌, List, [], ◌∷◌, length, nat_lt, nat_le, nat_eq, Option, if◌then◌else◌}
use Rattle.std.specs.List.{list_all, list_any, find}
use Rattle.tree_spec.specs.Names.{is_dots, longest_name, longest_text, names_of}
use Rattle.ice_path.specs.declared.read.PathFault.{PathFault}
use Rattle.ice_path.specs.declared.read.PathFault.TheVariants.{Slash, Empty, Byte, Dot, NameLong, PathLong}

-- the first byte is no slash
abbrev pub begins_elsewhere : List ℕ → Bool
begins_elsewhere [] = true
begins_elsewhere (b ∷ bytes) = not (nat_eq b 47)

-- `/` alone
abbrev pub is_slash : List ℕ → Bool
is_slash [] = false
is_slash (b ∷ []) = nat_eq b 47
is_slash (b ∷ c ∷ bytes) = false

-- the names of a text: none of `/`, else one behind each slash
abbrev pub path_names : List ℕ → List (List ℕ)
path_names text = if is_slash text then [] else names_of text

-- 0x21 to 0x7E
abbrev pub is_path_byte : ℕ → Bool
is_path_byte b = nat_le 33 b && nat_le b 126

abbrev pub is_empty_name : List ℕ → Bool
is_empty_name [] = true
is_empty_name (b ∷ bytes) = false

abbrev pub is_long_name : List ℕ → Bool
is_long_name c = nat_lt longest_name (length c)

-- whether the text has the fault
abbrev pub has_fault : List ℕ → PathFault → Bool
has_fault text Slash = begins_elsewhere text
has_fault text Empty = list_any is_empty_name (path_names text)
has_fault text Byte = not (list_all is_path_byte text)
has_fault text Dot = list_any is_dots (path_names text)
has_fault text NameLong = list_any is_long_name (path_names text)
has_fault text PathLong = nat_lt longest_text (length text)

-- the faults in the order in which they are looked for
abbrev pub by_rank : List PathFault
by_rank = Slash ∷ Empty ∷ Byte ∷ Dot ∷ NameLong ∷ PathLong ∷ []

-- the first fault that a text has
unfoldable pub path_fault : List ℕ → Option PathFault
path_fault text = find (has_fault text) by_rank
