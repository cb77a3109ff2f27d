-- The text of a reply: its data lines, then its closing line, each ended by an LF.
use Rattle.std.specs.Prelude.{ℕ, ◌+◌, ◌==◌, Bool, ◌||◌, nat_eq, count_by, List, [], ◌∷◌, ◌++◌, map, length, if◌then◌else◌, codes, decimal, Option, None, Some, Ok, Err}
use Rattle.std.specs.List.{starts_with}
use Rattle.hex.specs.Hex.{encode_lower}
use Rattle.tree_spec.specs.Why as why
use Rattle.tree_spec.specs.Why.{Why}
use Rattle.tree_spec.specs.Names.{text_of}
use Rattle.tree_spec.specs.Replies.{Refused, Because, Fault, Memory, Accepted, Plain, Number, Bytes, Dir, File, Listed, Checked, Response}
use Rattle.tree_spec.specs.declared.reply.Entry.{Entry}
use Rattle.tree_spec.specs.declared.reply.CubeRow.{CubeRow}
use Rattle.tree_spec.specs.declared.reply.StateWord.{StateWord}
use Rattle.tree_spec.specs.declared.reply.StateWord.TheVariants.{Mounted, Unmounted, Stopped, Offline}

-- the room for a reply: more than 16,384 bytes in hex, or 4,095 lines of entries with 16 of rows
abbrev pub most_text : ℕ
most_text = 600000

-- the longest line of an entry with its LF: `file `, and a name of 123 bytes
abbrev pub most_entry_line : ℕ
most_entry_line = 129

-- no line of a row is longer, with its LF: two numbers of 20 digits, `unmounted`, and a path of 3,200 bytes
abbrev pub most_row_line : ℕ
most_row_line = 3253

-- bytes as a token: two hex digits in lower case for each, `-` for none
abbrev pub hex_token : List ℕ → List ℕ
hex_token [] = codes "-"
hex_token (b ∷ bytes) = encode_lower (b ∷ bytes)

-- the word for a cube's state
abbrev pub state_word : StateWord → List ℕ
state_word Mounted = codes "mounted"
state_word Unmounted = codes "unmounted"
state_word Stopped = codes "stopped"
state_word Offline = codes "offline"

-- `dir NAME` or `file NAME`
abbrev pub entry_line : Entry → List ℕ
entry_line e = (if e.dir then codes "dir " else codes "file ") ++ e.name

-- `SLOT GROUPS STATE PATH`
abbrev pub row_line : CubeRow → List ℕ
row_line row = decimal row.slot ++ codes " " ++ decimal row.groups ++ codes " " ++ state_word row.state ++ codes " " ++ text_of row.path

-- a number behind a blank, if there is one
abbrev pub number_words : Option ℕ → List ℕ
number_words None = []
number_words (Some n) = codes " " ++ decimal n

-- a refusal's name, with the number of the broken rule for damage
abbrev pub why_words : Why → List ℕ
why_words why.NameLong = codes "NameLong"
why_words why.TooDeep = codes "TooDeep"
why_words why.NotFound = codes "NotFound"
why_words why.NotDir = codes "NotDir"
why_words why.IsDir = codes "IsDir"
why_words why.IsRoot = codes "IsRoot"
why_words why.Exists = codes "Exists"
why_words why.NotEmpty = codes "NotEmpty"
why_words why.IntoItself = codes "IntoItself"
why_words why.BeyondEnd = codes "BeyondEnd"
why_words why.FileBig = codes "FileBig"
why_words why.NoNodes = codes "NoNodes"
why_words why.NoSpace = codes "NoSpace"
why_words why.Spent = codes "Spent"
why_words (why.Damaged rule) = codes "Damaged" ++ number_words (Some rule)
why_words why.Word = codes "Word"
why_words why.Args = codes "Args"
why_words why.Number = codes "Number"
why_words why.Hex = codes "Hex"
why_words why.Long = codes "Long"
why_words why.Path = codes "Path"
why_words why.NoCube = codes "NoCube"
why_words why.CrossCube = codes "CrossCube"
why_words why.Offline = codes "Offline"
why_words why.Stopped = codes "Stopped"
why_words why.Unmounted = codes "Unmounted"
why_words why.Mounted = codes "Mounted"
why_words why.State = codes "State"
why_words why.NoSlot = codes "NoSlot"
why_words why.CubeFull = codes "CubeFull"
why_words why.NoGroups = codes "NoGroups"

-- what stands behind `no`
abbrev pub refused_words : Refused → List ℕ
refused_words (Because why) = why_words why
refused_words Fault = codes "Fault"
refused_words Memory = codes "Memory"

-- what stands behind `ok`
abbrev pub value_words : Accepted → List ℕ
value_words Plain = []
value_words (Number n) = codes " " ++ decimal n
value_words (Bytes bytes) = codes " " ++ hex_token bytes
value_words (Dir n) = codes " dir " ++ decimal n
value_words (File n) = codes " file " ++ decimal n
value_words (Listed entries rows) = codes " " ++ decimal (length entries + length rows)
value_words (Checked blocks nodes done) = codes " " ++ decimal blocks ++ codes " " ++ decimal nodes ++ codes " " ++ decimal done

-- the closing line
abbrev pub closing_line : Response → List ℕ
closing_line (Ok value) = codes "ok" ++ value_words value
closing_line (Err refused) = codes "no " ++ refused_words refused

-- the data lines of a value: the entries and then the rows of a listing
abbrev pub value_lines : Accepted → List (List ℕ)
value_lines Plain = []
value_lines (Number n) = []
value_lines (Bytes bytes) = []
value_lines (Dir n) = []
value_lines (File n) = []
value_lines (Listed entries rows) = map entry_line entries ++ map row_line rows
value_lines (Checked blocks nodes done) = []

-- the data lines of a reply
abbrev pub data_lines : Response → List (List ℕ)
data_lines (Ok value) = value_lines value
data_lines (Err refused) = []

-- a line that begins with `ok` or `no`
abbrev pub is_closing : List ℕ → Bool
is_closing line = starts_with nat_eq line (codes "ok") || starts_with nat_eq line (codes "no")

-- the lines, each ended by an LF
abbrev pub ended : List (List ℕ) → List ℕ
ended [] = []
ended (line ∷ lines) = line ++ 10 ∷ ended lines

-- the text of a reply
unfoldable pub text : Response → List ℕ
text r = ended (data_lines r ++ closing_line r ∷ [])

-- a byte put before the first line, where there is one
abbrev pub onto_line : ℕ → List (List ℕ) → List (List ℕ)
onto_line b [] = []
onto_line b (line ∷ lines) = (b ∷ line) ∷ lines

-- the lines of these bytes that an LF ends
unfoldable pub lines_in : List ℕ → List (List ℕ)
lines_in [] = []
lines_in (b ∷ bytes) = if b == 10 then [] ∷ lines_in bytes else onto_line b (lines_in bytes)

-- how many lines that an LF ends begin with `ok` or `no`
abbrev pub closings : List ℕ → ℕ
closings bytes = count_by is_closing (lines_in bytes)
