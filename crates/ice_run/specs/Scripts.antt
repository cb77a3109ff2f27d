-- The lines of a script.
use Rattle.std.specs.Prelude.{ℕ, ◌==◌, if◌then◌else◌, List, [], ◌∷◌, ◌++◌, length, map}
use Rattle.std.specs.List.{fold}
use Rattle.tree_spec.specs.Lines.{Line}
use Rattle.ice_script.specs.Grammar.{line_of}

-- the lines that an LF ends, and the bytes after the last LF
pub record LinesAndRest : Type 0 where
  pub lines : List (List ℕ)
  pub rest : List ℕ

-- an LF ends the line of the bytes before it
abbrev pub add_byte : LinesAndRest → ℕ → LinesAndRest
add_byte cut byte = if byte == 10 then record { lines = cut.lines ++ cut.rest ∷ []; rest = [] } else record { lines = cut.lines; rest = cut.rest ++ byte ∷ [] }

-- bytes, cut at each LF
unfoldable pub cut_of : List ℕ → LinesAndRest
cut_of bytes = fold add_byte (record { lines = []; rest = [] }) bytes

-- bytes that no LF ends are a line where there are any
abbrev pub closed : LinesAndRest → List (List ℕ)
closed cut = if length cut.rest == 0 then cut.lines else cut.lines ++ cut.rest ∷ []

-- what the lines that an LF ends ask for
abbrev pub ended_lines : List ℕ → List Line
ended_lines bytes = map line_of (cut_of bytes).lines

-- what the lines of a script ask for
abbrev pub script_lines : List ℕ → List Line
script_lines bytes = map line_of (closed (cut_of bytes))

-- the bytes of the longest script
abbrev pub longest_script : ℕ
longest_script = 67108864
