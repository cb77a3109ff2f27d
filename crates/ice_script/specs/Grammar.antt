-- The grammar of lines: tokens, numbers, bytes, paths, and the command that a line asks for, or its refusal.
use Rattle.std.specs.Prelude.{ℕ, ◌+◌, ◌*◌, ◌-◌, ◌^◌, Bool, ◌&&◌, ◌||◌, not, ◌==◌, nat_le, nat_lt, if◌then◌else◌, List, [], ◌∷◌, length, Option, Some, None, is_some, codes, slice_index}
use Rattle.std.specs.List.{fold, list_all, slice_split}
use Rattle.std.specs.Str.{bytes_eq}
use Rattle.std.specs.Char.{is_ascii_digit}
use Rattle.std.specs.Result.{result_ok}
use Rattle.hex.specs.Hex.{decode_of}
use Rattle.tree_spec.specs.Held.{most_bytes}
use Rattle.tree_spec.specs.Names.{text_of}
use Rattle.tree_spec.specs.Why.{Why, Word, Args, Number, Hex, Long, Path}
use Rattle.tree_spec.specs.Lines.{Line, Bad, Asks, Request, Create, Delete, Grow, Offline, Online, Cubes, Mount, Unmount, Check, Mkdir, Make, Write, Read, Trunc, Remove, Rename, ListDir, Stat, Sync}
use Rattle.ice_path.specs.Paths.{path_fault, path_names}

-- ---- tokens

-- the bytes of the longest line
abbrev pub longest_line : ℕ
longest_line = 40000

-- the bytes of the longest path that a cube may have
abbrev pub longest_cube_path : ℕ
longest_cube_path = 199

-- the byte between tokens
abbrev pub is_blank : ℕ → Bool
is_blank b = b == 32

-- a line cut at each blank, with empty tokens where blanks meet or stand at an end
unfoldable pub tokens : List ℕ → List (List ℕ)
tokens line = slice_split is_blank line

-- the only token
abbrev pub one_token : List (List ℕ) → Option (List ℕ)
one_token (a ∷ []) = Some a
one_token _ = None

-- the tokens where there are two
abbrev pub two_tokens : List (List ℕ) → Option (List ℕ × List ℕ)
two_tokens (a ∷ b ∷ []) = Some (a, b)
two_tokens _ = None

-- the tokens where there are three
abbrev pub three_tokens : List (List ℕ) → Option (List ℕ × List ℕ × List ℕ)
three_tokens (a ∷ b ∷ c ∷ []) = Some (a, b, c)
three_tokens _ = None

-- ---- what a token stands for

-- `0`, or one to ten digits with a first digit other than 0
abbrev pub is_number : List ℕ → Bool
is_number token = not (length token == 0) && nat_le (length token) 10
    && (length token == 1 || not (slice_index token 0 == 48)) && list_all is_ascii_digit token

-- the decimal value of the digits
abbrev pub value_of : List ℕ → ℕ
value_of token = fold (λ seen digit. seen * 10 + (digit - 48)) 0 token

-- a number of at most 4,294,967,295
abbrev pub number_of : List ℕ → Option ℕ
number_of token = if is_number token && nat_lt (value_of token) (2 ^ 32) then Some (value_of token) else None

-- the number, where it isn't 0
abbrev pub some_groups : Option ℕ → Option ℕ
some_groups None = None
some_groups (Some n) = if n == 0 then None else Some n

-- a number of groups, which is not 0
abbrev pub groups_of : List ℕ → Option ℕ
groups_of token = some_groups (number_of token)

-- the bytes of a hex token: none for `-`, else of an even number, at least 2, of hexadecimal digits of either case
abbrev pub bytes_of : List ℕ → Option (List ℕ)
bytes_of token = if bytes_eq token (codes "-") then Some [] else if length token == 0 then None else result_ok (decode_of token)

-- the names of a path token
abbrev pub path_in : List ℕ → Option (List (List ℕ))
path_in token = if is_some (path_fault token) then None else Some (path_names token)

-- the path, where a cube may have it
abbrev pub short_path : Option (List (List ℕ)) → Option (List (List ℕ))
short_path None = None
short_path (Some path) = if nat_lt longest_cube_path (length (text_of path)) then None else Some path

-- the names of a token that is the path of a new cube
abbrev pub cube_path_in : List ℕ → Option (List (List ℕ))
cube_path_in token = short_path (path_in token)

-- ---- what the tokens behind a command word ask for; the refusals come in the order of the lines

-- goes on with what is there, or else refuses
abbrev pub or_bad : {A : Type 0} → Option A → Why → (A → Line) → Line
or_bad None why next = Bad why
or_bad (Some x) why next = next x

-- no token
abbrev pub cubes_of : List (List ℕ) → Line
cubes_of [] = Asks Cubes
cubes_of _ = Bad Args

-- P
abbrev pub path_of : (List (List ℕ) → Request) → List (List ℕ) → Line
path_of request args =
    or_bad (one_token args) Args (λ token.
    or_bad (path_in token) Path (λ path. Asks (request path)))

-- P N, where a cube may have the path
abbrev pub create_of : List (List ℕ) → Line
create_of args =
    or_bad (two_tokens args) Args (λ t.
    or_bad (groups_of t.1) Number (λ groups.
    or_bad (cube_path_in t.0) Path (λ path. Asks (Create path groups))))

-- P N
abbrev pub grow_of : List (List ℕ) → Line
grow_of args =
    or_bad (two_tokens args) Args (λ t.
    or_bad (groups_of t.1) Number (λ groups.
    or_bad (path_in t.0) Path (λ path. Asks (Grow path groups))))

-- P LEN
abbrev pub trunc_of : List (List ℕ) → Line
trunc_of args =
    or_bad (two_tokens args) Args (λ t.
    or_bad (number_of t.1) Number (λ len.
    or_bad (path_in t.0) Path (λ path. Asks (Trunc path len))))

-- P Q
abbrev pub rename_of : List (List ℕ) → Line
rename_of args =
    or_bad (two_tokens args) Args (λ t.
    or_bad (path_in t.0) Path (λ path.
    or_bad (path_in t.1) Path (λ to. Asks (Rename path to))))

-- P OFF HEX
abbrev pub write_of : List (List ℕ) → Line
write_of args =
    or_bad (three_tokens args) Args (λ t.
    or_bad (number_of t.1) Number (λ at.
    or_bad (bytes_of t.2) Hex (λ bytes.
    if nat_lt most_bytes (length bytes) then Bad Long else
    or_bad (path_in t.0) Path (λ path. Asks (Write path at bytes)))))

-- P OFF LEN
abbrev pub read_of : List (List ℕ) → Line
read_of args =
    or_bad (three_tokens args) Args (λ t.
    or_bad (number_of t.1) Number (λ at.
    or_bad (number_of t.2) Number (λ len.
    if nat_lt most_bytes len then Bad Long else
    or_bad (path_in t.0) Path (λ path. Asks (Read path at len)))))

-- ---- the command words

-- the words that stand before one path, with their requests
abbrev pub path_word : List ℕ → Option (List (List ℕ) → Request)
path_word word =
    if bytes_eq word (codes "delete") then Some Delete
    else if bytes_eq word (codes "offline") then Some Offline
    else if bytes_eq word (codes "online") then Some Online
    else if bytes_eq word (codes "mount") then Some Mount
    else if bytes_eq word (codes "unmount") then Some Unmount
    else if bytes_eq word (codes "check") then Some Check
    else if bytes_eq word (codes "sync") then Some Sync
    else if bytes_eq word (codes "mkdir") then Some Mkdir
    else if bytes_eq word (codes "make") then Some Make
    else if bytes_eq word (codes "remove") then Some Remove
    else if bytes_eq word (codes "list") then Some ListDir
    else if bytes_eq word (codes "stat") then Some Stat
    else None

-- one row for each of the other words, with what its tokens ask for
abbrev pub word_of : List ℕ → List (List ℕ) → Line
word_of word args =
    if bytes_eq word (codes "write") then write_of args
    else if bytes_eq word (codes "read") then read_of args
    else if bytes_eq word (codes "trunc") then trunc_of args
    else if bytes_eq word (codes "rename") then rename_of args
    else if bytes_eq word (codes "create") then create_of args
    else if bytes_eq word (codes "grow") then grow_of args
    else if bytes_eq word (codes "cubes") then cubes_of args
    else or_bad (path_word word) Word (λ request. path_of request args)

-- the tokens of a line, of which there is always one
abbrev pub words_of : List (List ℕ) → Line
words_of [] = Bad Word
words_of (word ∷ args) = word_of word args

-- what a line asks for, or its refusal; a line that is too long is not looked at
abbrev pub line_of : List ℕ → Line
line_of line = if nat_lt longest_line (length line) then Bad Long else words_of (tokens line)
