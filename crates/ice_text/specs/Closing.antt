-- Closing lines, read back.
use Rattle.std.specs.Prelude as result
use Rattle.std.specs.Prelude.{◌≡◌, ℕ, ◌+◌, ◌%◌, ◌^◌, ◌<◌, Bool, true, false, ◌&&◌, ◌||◌, not, ◌==◌, nat_le, nat_lt, if◌then◌else◌, List, [], ◌∷◌, length, Option, Some, None, is_some, codes, slice_index, ⊤}
use Rattle.std.specs.List.{list_all}
use Rattle.std.specs.Str.{bytes_eq}
use Rattle.std.specs.Char.{is_ascii_digit}
use Rattle.std.specs.Option.{option_map}
use Rattle.hex.specs.Hex.{IsBytes}
use Rattle.tree_spec.specs.Replies as value
use Rattle.tree_spec.specs.Replies.{Accepted, refused_of, refusal_number}
use Rattle.tree_spec.specs.declared.reply.Refusal.{Refusal}
use Rattle.tree_spec.specs.declared.reply.Refusal.TheVariants.{Damaged}
use Rattle.ice_script.specs.Grammar.{tokens, value_of}
use Rattle.ice_text.specs.Text.{closing_line}
use Rattle.ice_text.specs.declared.closing.Closing.{Closing}
use Rattle.ice_text.specs.declared.closing.Closing.TheVariants.{Ok, No}

-- `0`, or one to twenty digits with a first digit other than 0
abbrev pub is_plain_number : List ℕ → Bool
is_plain_number token = not (length token == 0) && nat_le (length token) 20
    && (length token == 1 || not (slice_index token 0 == 48)) && list_all is_ascii_digit token

-- a number below 2 ^ 64
abbrev pub count_of : List ℕ → Option ℕ
count_of token = if is_plain_number token && nat_lt (value_of token) (2 ^ 64) then Some (value_of token) else None

-- whether it is such a number
abbrev pub is_count : List ℕ → Bool
is_count token = is_some (count_of token)

-- `0` to `9`, and `a` to `f`
abbrev pub is_lower_digit : ℕ → Bool
is_lower_digit c = (nat_le 48 c && nat_le c 57) || (nat_le 97 c && nat_le c 102)

-- bytes in lower case, `-` for none
abbrev pub is_lower_hex : List ℕ → Bool
is_lower_hex token = bytes_eq token (codes "-") || (not (length token == 0) && (length token % 2 == 0 && list_all is_lower_digit token))

-- the word before the number of a directory's entries, or of a file's bytes
abbrev pub is_kind : List ℕ → Bool
is_kind token = bytes_eq token (codes "dir") || bytes_eq token (codes "file")

-- what may stand behind `ok`: nothing, `K`, `HEX`, `dir ENTRIES`, `file BYTES`, or `BLOCKS NODES K`
abbrev pub is_value : List (List ℕ) → Bool
is_value [] = true
is_value (a ∷ []) = is_count a || is_lower_hex a
is_value (a ∷ b ∷ []) = is_kind a && is_count b
is_value (a ∷ b ∷ c ∷ []) = is_count a && (is_count b && is_count c)
is_value (a ∷ b ∷ c ∷ d ∷ tokens) = false

-- the number of a refusal that a tree has, by its name
abbrev pub tree_refusal : List ℕ → Option ℕ
tree_refusal name =
    if bytes_eq name (codes "NameLong") then Some 1
    else if bytes_eq name (codes "TooDeep") then Some 2
    else if bytes_eq name (codes "NotFound") then Some 3
    else if bytes_eq name (codes "NotDir") then Some 4
    else if bytes_eq name (codes "IsDir") then Some 5
    else if bytes_eq name (codes "IsRoot") then Some 6
    else if bytes_eq name (codes "Exists") then Some 7
    else if bytes_eq name (codes "NotEmpty") then Some 8
    else if bytes_eq name (codes "IntoItself") then Some 9
    else if bytes_eq name (codes "BeyondEnd") then Some 10
    else if bytes_eq name (codes "FileBig") then Some 11
    else if bytes_eq name (codes "NoNodes") then Some 12
    else if bytes_eq name (codes "NoSpace") then Some 13
    else if bytes_eq name (codes "Spent") then Some 14
    else None

-- the number of a refusal of a line's text, or by the disk or the memory, by its name
abbrev pub line_refusal : List ℕ → Option ℕ
line_refusal name =
    if bytes_eq name (codes "Fault") then Some 16
    else if bytes_eq name (codes "Memory") then Some 17
    else if bytes_eq name (codes "Word") then Some 18
    else if bytes_eq name (codes "Args") then Some 19
    else if bytes_eq name (codes "Number") then Some 20
    else if bytes_eq name (codes "Hex") then Some 21
    else if bytes_eq name (codes "Long") then Some 22
    else if bytes_eq name (codes "Path") then Some 23
    else None

-- the number of a refusal by a cube's state, or by the tables, by its name
abbrev pub cube_refusal : List ℕ → Option ℕ
cube_refusal name =
    if bytes_eq name (codes "NoCube") then Some 24
    else if bytes_eq name (codes "CrossCube") then Some 25
    else if bytes_eq name (codes "Offline") then Some 26
    else if bytes_eq name (codes "Stopped") then Some 27
    else if bytes_eq name (codes "Unmounted") then Some 28
    else if bytes_eq name (codes "Mounted") then Some 29
    else if bytes_eq name (codes "State") then Some 30
    else if bytes_eq name (codes "NoSlot") then Some 31
    else if bytes_eq name (codes "CubeFull") then Some 32
    else if bytes_eq name (codes "NoGroups") then Some 33
    else None

-- the first number that is there
abbrev pub or_next : Option ℕ → Option ℕ → Option ℕ
or_next (Some n) other = Some n
or_next None other = other

-- the number of a refusal without a rule, by its name
abbrev pub named_refusal : List ℕ → Option ℕ
named_refusal name = or_next (tree_refusal name) (or_next (line_refusal name) (cube_refusal name))

-- a number of one byte
abbrev pub is_small : Option ℕ → Bool
is_small None = false
is_small (Some n) = nat_lt n (2 ^ 8)

-- the number of the refusal behind `no`: a name, or `Damaged R`
abbrev pub refusal_of : List (List ℕ) → Option ℕ
refusal_of [] = None
refusal_of (name ∷ []) = named_refusal name
refusal_of (name ∷ rule ∷ []) = if bytes_eq name (codes "Damaged") && is_small (count_of rule) then Some 15 else None
refusal_of (name ∷ rule ∷ more ∷ tokens) = None

-- what the tokens of a line say, where it is a closing line
abbrev pub closing_in : List (List ℕ) → Option Closing
closing_in [] = None
closing_in (word ∷ args) =
    if bytes_eq word (codes "ok") then (if is_value args then Some Ok else None)
    else if bytes_eq word (codes "no") then option_map No (refusal_of args)
    else None

-- what a line says, where it is a closing line
abbrev pub closing_of : List ℕ → Option Closing
closing_of line = closing_in (tokens line)

-- each number of the value is below 2 ^ 64, and its bytes are bytes
abbrev pub FitsLine : Accepted → Type 0
FitsLine value.Plain = ⊤
FitsLine (value.Number n) = n < 2 ^ 64
FitsLine (value.Bytes bytes) = IsBytes bytes
FitsLine (value.Dir n) = n < 2 ^ 64
FitsLine (value.File n) = n < 2 ^ 64
FitsLine (value.Listed entries rows) = length entries + length rows < 2 ^ 64
FitsLine (value.Checked blocks nodes done) = (blocks < 2 ^ 64) × (nodes < 2 ^ 64) × (done < 2 ^ 64)

-- the number of a broken rule has one byte
abbrev pub FitsByte : Refusal → Type 0
FitsByte (Damaged rule) = rule < 2 ^ 8
FitsByte _ = ⊤

-- the closing line of each accepted reply says that the command was accepted
abbrev pub ValuesReadBack : Type 0
ValuesReadBack = (v : Accepted) → FitsLine v → closing_of (closing_line (result.Ok v)) ≡ Some Ok

-- the closing line of each refusal says its number
abbrev pub RefusalsReadBack : Type 0
RefusalsReadBack = (r : Refusal) → FitsByte r → closing_of (closing_line (result.Err (refused_of r))) ≡ Some (No (refusal_number r))
