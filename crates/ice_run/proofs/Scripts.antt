-- Scripts that are read byte by byte.
use Rattle.std.proofs.Common.{◌≡◌, ◌∙◌, ℕ, Bool, true, false, List, [], ◌∷◌, ◌++◌, length, map, take, refl, sym, ap, append_assoc, nat_eq, min, if◌then◌else◌, arith}
use Rattle.std.specs.List.{fold}
use Rattle.std.proofs.lemmas.Bool.Decides.{nat_tests}
use Rattle.std.proofs.lemmas.List.{map-append, length-take}
use Rattle.tree_spec.specs.Lines.{Line}
use Rattle.ice_script.specs.Grammar.{line_of}
use Rattle.ice_script.proofs.Kept.{line_of-take, take-take-push}
use Rattle.ice_run.specs.Scripts.{LinesAndRest, add_byte, cut_of, closed, ended_lines, script_lines}

fold-append : {A X : Type 0} (f : A → X → A) (a : A) (xs ys : List X) → fold f a (xs ++ ys) ≡ fold f (fold f a xs) ys
fold-append f a [] ys = refl
fold-append f a (x ∷ xs) ys = fold-append f (f a x) xs ys

nil_append : {X : Type 0} (xs : List X) → xs ++ [] ≡ xs
nil_append [] = refl
nil_append {X} (x ∷ xs) = ap (λ (ys : List X). x ∷ ys) (nil_append xs)

-- a byte that is an LF, or another
byte_cases : (P : Bool → Type 0) (b : Bool) → P true → P false → P b
byte_cases P true yes_ no_ = yes_
byte_cases P false yes_ no_ = no_

is_lf : (b : ℕ) → b ≡ 10 → nat_eq b 10 ≡ true
is_lf b is = grind (arith, nat_tests, is)

-- what was ended stays ended, whatever comes behind
grows_by : (c : LinesAndRest) (bytes : List ℕ) → (more : List (List ℕ)) × (closed (fold add_byte c bytes) ≡ c.lines ++ more)
grows_by c [] = byte_cases
    (λ b. (more : List (List ℕ)) × ((if b then c.lines else c.lines ++ c.rest ∷ []) ≡ c.lines ++ more))
    (nat_eq (length c.rest) 0) ([], sym (nil_append c.lines)) (c.rest ∷ [], refl)
grows_by c (b ∷ bytes) =
    let ended : LinesAndRest = record { lines = c.lines ++ c.rest ∷ []; rest = [] } in
    let longer : LinesAndRest = record { lines = c.lines; rest = c.rest ++ b ∷ [] } in
    let then_ = grows_by ended bytes in
    byte_cases
    (λ t. (more : List (List ℕ)) × (closed (fold add_byte (if t then ended else longer) bytes) ≡ c.lines ++ more))
    (nat_eq b 10)
    (c.rest ∷ then_.0, then_.1 ∙ append_assoc c.lines (c.rest ∷ []) then_.0)
    (grows_by longer bytes)

-- a byte more
pub cut_of-push : (bytes : List ℕ) (b : ℕ) → cut_of (bytes ++ b ∷ []) ≡ add_byte (cut_of bytes) b
unfolding cut_of
cut_of-push bytes b = fold-append add_byte _ bytes (b ∷ [])

cut_of-ended : (bytes : List ℕ) (b : ℕ) → b ≡ 10 → cut_of (bytes ++ b ∷ []) ≡ record { lines = (cut_of bytes).lines ++ (cut_of bytes).rest ∷ []; rest = [] }
cut_of-ended bytes b is =
    cut_of-push bytes b
    ∙ ap (λ (t : Bool). if t then record { lines = (cut_of bytes).lines ++ (cut_of bytes).rest ∷ []; rest = [] } else record { lines = (cut_of bytes).lines; rest = (cut_of bytes).rest ++ b ∷ [] })
    (is_lf b is)

cut_of-other : (bytes : List ℕ) (b : ℕ) → (nat_eq b 10 ≡ false)
    → cut_of (bytes ++ b ∷ []) ≡ record { lines = (cut_of bytes).lines; rest = (cut_of bytes).rest ++ b ∷ [] }
cut_of-other bytes b is =
    cut_of-push bytes b
    ∙ ap (λ (t : Bool). if t then record { lines = (cut_of bytes).lines ++ (cut_of bytes).rest ∷ []; rest = [] } else record { lines = (cut_of bytes).lines; rest = (cut_of bytes).rest ++ b ∷ [] }) is

-- the line that an LF ends is the next one of the script
pub next_line : (input taken ahead text : List ℕ) (b : ℕ) → b ≡ 10 → input ≡ taken ++ b ∷ ahead → text ≡ take 40001 (cut_of taken).rest
    → (more : List Line) × (script_lines input ≡ ended_lines taken ++ line_of text ∷ more)
unfolding cut_of
next_line input taken ahead text b lf is holds =
    let c = cut_of taken in
    let ended : LinesAndRest = record { lines = c.lines ++ c.rest ∷ []; rest = [] } in
    let grown = grows_by ended ahead in
    let line : line_of text ≡ line_of c.rest = ap line_of holds ∙ line_of-take c.rest in
    let first : add_byte c b ≡ ended = ap (λ (t : Bool). if t then ended else record { lines = c.lines; rest = c.rest ++ b ∷ [] }) (is_lf b lf) in
    let whole : closed (cut_of input) ≡ (c.lines ++ c.rest ∷ []) ++ grown.0 = ap (λ (x : List ℕ). closed (cut_of x)) is
    ∙ ap closed (fold-append add_byte _ taken (b ∷ ahead)) ∙ ap (λ (x : LinesAndRest). closed (fold add_byte x ahead)) first ∙ grown.1 in (
      map line_of grown.0,
      ap (λ (x : List (List ℕ)). map line_of x) whole ∙ map-append line_of (c.lines ++ c.rest ∷ []) grown.0
          ∙ ap (λ (x : List Line). x ++ map line_of grown.0) (map-append line_of c.lines (c.rest ∷ []))
          ∙ append_assoc (map line_of c.lines) (line_of c.rest ∷ []) (map line_of grown.0)
          ∙ ap (λ (x : Line). map line_of c.lines ++ x ∷ map line_of grown.0) (sym line),
    )

-- and then it is ended
pub ended_lines-ended : (taken text : List ℕ) (b : ℕ) → b ≡ 10 → text ≡ take 40001 (cut_of taken).rest
    → ended_lines (taken ++ b ∷ []) ≡ ended_lines taken ++ line_of text ∷ []
ended_lines-ended taken text b is_lf holds =
    ap (λ (c : LinesAndRest). map line_of c.lines) (cut_of-ended taken b is_lf) ∙ map-append line_of (cut_of taken).lines ((cut_of taken).rest ∷ [])
    ∙ ap (λ (x : Line). map line_of (cut_of taken).lines ++ x ∷ []) (sym (ap line_of holds ∙ line_of-take (cut_of taken).rest))

pub rest-ended : (taken : List ℕ) (b : ℕ) → b ≡ 10 → [] ≡ take 40001 (cut_of (taken ++ b ∷ [])).rest
rest-ended taken b is_lf = sym (ap (λ (c : LinesAndRest). take 40001 c.rest) (cut_of-ended taken b is_lf))

-- another byte ends no line
pub ended_lines-other : (taken : List ℕ) (b : ℕ) → nat_eq b 10 ≡ false → ended_lines (taken ++ b ∷ []) ≡ ended_lines taken
ended_lines-other taken b other = ap (λ (c : LinesAndRest). map line_of c.lines) (cut_of-other taken b other)

pub rest-other : (taken old new : List ℕ) (b : ℕ) → nat_eq b 10 ≡ false → old ≡ take 40001 (cut_of taken).rest
    → new ≡ take 40001 (old ++ b ∷ []) → new ≡ take 40001 (cut_of (taken ++ b ∷ [])).rest
rest-other taken old new b other holds is =
    is ∙ ap (λ (x : List ℕ). take 40001 (x ++ b ∷ [])) holds ∙ take-take-push (cut_of taken).rest b 40001
    ∙ sym (ap (λ (c : LinesAndRest). take 40001 c.rest) (cut_of-other taken b other))

-- nothing stands behind the last LF where the reader holds nothing
same_emptiness : (rest text : List ℕ) → text ≡ take 40001 rest → nat_eq (length rest) 0 ≡ nat_eq (length text) 0
same_emptiness rest text holds = let e : length text ≡ min 40001 (length rest) = ap length holds ∙ length-take 40001 rest in grind (arith, nat_tests, e)

-- a last line that no LF ended
pub last_line : (taken text : List ℕ) → nat_eq (length text) 0 ≡ false → text ≡ take 40001 (cut_of taken).rest
    → script_lines taken ≡ ended_lines taken ++ line_of text ∷ []
last_line taken text some holds =
    let c = cut_of taken in
    ap (λ (t : Bool). map line_of (if t then c.lines else c.lines ++ c.rest ∷ [])) (same_emptiness c.rest text holds ∙ some)
    ∙ map-append line_of c.lines (c.rest ∷ [])
    ∙ ap (λ (x : Line). map line_of c.lines ++ x ∷ []) (sym (ap line_of holds ∙ line_of-take c.rest))

pub no_last_line : (taken text : List ℕ) → nat_eq (length text) 0 ≡ true → text ≡ take 40001 (cut_of taken).rest → script_lines taken ≡ ended_lines taken
no_last_line taken text none holds =
    let c = cut_of taken in ap (λ (t : Bool). map line_of (if t then c.lines else c.lines ++ c.rest ∷ [])) (same_emptiness c.rest text holds ∙ none)

-- lines that were ended stay so, whatever bytes come behind
lines_grow : (c : LinesAndRest) (bytes : List ℕ) → (more : List (List ℕ)) × ((fold add_byte c bytes).lines ≡ c.lines ++ more)
lines_grow c [] = ([], sym (nil_append c.lines))
lines_grow c (b ∷ bytes) =
    let ended : LinesAndRest = record { lines = c.lines ++ c.rest ∷ []; rest = [] } in
    let longer : LinesAndRest = record { lines = c.lines; rest = c.rest ++ b ∷ [] } in
    let then_ = lines_grow ended bytes in
    byte_cases
    (λ t. (more : List (List ℕ)) × ((fold add_byte (if t then ended else longer) bytes).lines ≡ c.lines ++ more))
    (nat_eq b 10)
    (c.rest ∷ then_.0, then_.1 ∙ append_assoc c.lines (c.rest ∷ []) then_.0)
    (lines_grow longer bytes)

-- the lines that are ended in some bytes are the first of those that are ended in more
pub ended_ahead : (taken ahead : List ℕ) → (more : List Line) × (ended_lines (taken ++ ahead) ≡ ended_lines taken ++ more)
unfolding cut_of
ended_ahead taken ahead =
    let grown = lines_grow (cut_of taken) ahead in (
      map line_of grown.0,
      ap (λ (x : LinesAndRest). map line_of x.lines) (fold-append add_byte _ taken ahead)
          ∙ ap (λ (x : List (List ℕ)). map line_of x) grown.1 ∙ map-append line_of (cut_of taken).lines grown.0,
    )
