-- What a line that is read keeps to.
use Rattle.std.proofs.Common.{◌≡◌, ℕ, ◌≤◌, ◌<◌, ◌^◌, ◌&&◌, ◌==◌, Bool, true, false, List, [], ◌∷◌, length, if◌then◌else◌, subst, refl, arith}
use Rattle.std.specs.Prelude.{⊤, codes, nat_lt, Option, Some, None}
use Rattle.std.specs.Str.{bytes_eq}
use Rattle.std.proofs.lemmas.Bool.Decides.{nat_tests}
use Rattle.tree_spec.specs.Held.{most_bytes}
use Rattle.tree_spec.specs.Names.{text_of}
use Rattle.tree_spec.specs.Why.{Why, Word, Args, Number, Hex, Long, Path}
use Rattle.tree_spec.specs.Lines.{Line, Bad, Asks, Request, Delete, Offline, Online, Mount, Unmount, Check, Mkdir, Make, Remove, ListDir, Stat, Sync}
use Rattle.ice_script.specs.Bounds.{InBounds}
use Rattle.ice_script.specs.Grammar.{line_of, words_of, word_of, path_word, path_of, cubes_of, create_of, grow_of, trunc_of, rename_of, write_of, read_of, one_token, two_tokens, three_tokens, number_of, is_number, value_of, groups_of, some_groups, short_path, cube_path_in, path_in, bytes_of, or_bad, tokens, longest_line, longest_cube_path}

-- a line that is refused, or asks within the bounds
abbrev Keeps : Line → Type 0
Keeps (Bad why) = ⊤
Keeps (Asks request) = InBounds request

-- what keeps to the bounds for each value that may be there
or_bad_keeps : {A : Type 0} (o : Option A) (why : Why) (next : A → Line) → ((x : A) → o ≡ Some x → Keeps (next x)) → Keeps (or_bad o why next)
or_bad_keeps None why next p = tt
or_bad_keeps (Some x) why next p = p x refl

if_keeps : (b : Bool) (one other : Line) → Keeps one → (b ≡ false → Keeps other) → Keeps (if b then one else other)
if_keeps true one other p q = p
if_keeps false one other p q = q refl

few : (n most : ℕ) → nat_lt most n ≡ false → n ≤ most
few n most h = grind (arith, nat_tests)

-- a number has 32 bits
number_small : (token : List ℕ) (n : ℕ) → number_of token ≡ Some n → n < 2 ^ 32
number_small token n h = by (is_number token) (value_of token) h
  where
    by : (b : Bool) (v : ℕ) → (if b && nat_lt v (2 ^ 32) then Some v else None) ≡ Some n → n < 2 ^ 32
    by b v e = grind (arith, nat_tests)

-- a number of groups isn't 0
groups_some : (token : List ℕ) (n : ℕ) → groups_of token ≡ Some n → (1 ≤ n) × (n < 2 ^ 32)
groups_some token n h = by (number_of token) refl h
  where
    other : (b : Bool) (m : ℕ) → (m == 0) ≡ b → (if b then None else Some m) ≡ Some n → (1 ≤ n) × (m ≡ n)
    other true m e i = cc
    other false m e i =
        let same : m ≡ n = cc in
        (grind (arith, nat_tests), same)

    by : (o : Option ℕ) → number_of token ≡ o → some_groups o ≡ Some n → (1 ≤ n) × (n < 2 ^ 32)
    by None e i = cc
    by (Some m) e i =
        let p = other (m == 0) m refl i in
        (p.0, subst (λ x. x < 2 ^ 32) p.1 (number_small token m e))

-- a cube's path is short
cube_path_short : (token : List ℕ) (path : List (List ℕ)) → cube_path_in token ≡ Some path → length (text_of path) ≤ 199
cube_path_short token path h = by (path_in token) h
  where
    other : (b : Bool) (p : List (List ℕ)) → nat_lt longest_cube_path (length (text_of p)) ≡ b → (if b then None else Some p) ≡ Some path
        → length (text_of path) ≤ 199
    other true p e i = cc
    other false p e i =
        let same : p ≡ path = cc in
        subst (λ q. length (text_of q) ≤ 199) same (few (length (text_of p)) longest_cube_path e)

    by : (o : Option (List (List ℕ))) → short_path o ≡ Some path → length (text_of path) ≤ 199
    by None i = cc
    by (Some p) i = other (nat_lt longest_cube_path (length (text_of p))) p refl i

-- requests of one path are free of bounds
abbrev Free : (List (List ℕ) → Request) → Type 0
Free request = (path : List (List ℕ)) → InBounds (request path)

path_keeps : (request : List (List ℕ) → Request) → Free request → (args : List (List ℕ)) → Keeps (path_of request args)
path_keeps request free args =
    or_bad_keeps (one_token args) Args _ (λ token is. or_bad_keeps (path_in token) Path _ (λ path is. free path))

cubes_keeps : (args : List (List ℕ)) → Keeps (cubes_of args)
cubes_keeps [] = tt
cubes_keeps (token ∷ args) = tt

create_keeps : (args : List (List ℕ)) → Keeps (create_of args)
create_keeps args =
    or_bad_keeps (two_tokens args) Args _ (λ t is. or_bad_keeps (groups_of t.1) Number _ (λ groups some. or_bad_keeps (cube_path_in t.0) Path _ (λ path short.
    let p = groups_some t.1 groups some in
    (p.0, p.1, cube_path_short t.0 path short))))

grow_keeps : (args : List (List ℕ)) → Keeps (grow_of args)
grow_keeps args =
    or_bad_keeps (two_tokens args) Args _ (λ t is. or_bad_keeps (groups_of t.1) Number _ (λ groups some. or_bad_keeps (path_in t.0) Path _ (λ path is.
    groups_some t.1 groups some)))

trunc_keeps : (args : List (List ℕ)) → Keeps (trunc_of args)
trunc_keeps args =
    or_bad_keeps (two_tokens args) Args _ (λ t is. or_bad_keeps (number_of t.1) Number _ (λ len is. or_bad_keeps (path_in t.0) Path _ (λ path is. tt)))

rename_keeps : (args : List (List ℕ)) → Keeps (rename_of args)
rename_keeps args =
    or_bad_keeps (two_tokens args) Args _ (λ t is. or_bad_keeps (path_in t.0) Path _ (λ path is. or_bad_keeps (path_in t.1) Path _ (λ to is. tt)))

write_keeps : (args : List (List ℕ)) → Keeps (write_of args)
write_keeps args =
    or_bad_keeps (three_tokens args) Args _ (λ t is. or_bad_keeps (number_of t.1) Number _ (λ at small. or_bad_keeps (bytes_of t.2) Hex _ (λ bytes is.
    if_keeps (nat_lt most_bytes (length bytes)) (Bad Long) _ tt (λ short. or_bad_keeps (path_in t.0) Path _ (λ path is.
    (number_small t.1 at small, few (length bytes) most_bytes short))))))

read_keeps : (args : List (List ℕ)) → Keeps (read_of args)
read_keeps args =
    or_bad_keeps (three_tokens args) Args _ (λ t is. or_bad_keeps (number_of t.1) Number _ (λ at small. or_bad_keeps (number_of t.2) Number _ (λ len is.
    if_keeps (nat_lt most_bytes len) (Bad Long) _ tt (λ short. or_bad_keeps (path_in t.0) Path _ (λ path is.
    (number_small t.1 at small, few len most_bytes short))))))

-- each word before one path
abbrev AllFree : Option (List (List ℕ) → Request) → Type 0
AllFree None = ⊤
AllFree (Some request) = Free request

if_free : (b : Bool) (request : List (List ℕ) → Request) (other : Option (List (List ℕ) → Request)) → Free request → AllFree other
    → AllFree (if b then Some request else other)
if_free true request other p q = p
if_free false request other p q = q

words_free : (word : List ℕ) → AllFree (path_word word)
words_free word =
    if_free (bytes_eq word (codes "delete")) Delete _ (λ path. tt)
    (if_free (bytes_eq word (codes "offline")) Offline _ (λ path. tt)
    (if_free (bytes_eq word (codes "online")) Online _ (λ path. tt)
    (if_free (bytes_eq word (codes "mount")) Mount _ (λ path. tt)
    (if_free (bytes_eq word (codes "unmount")) Unmount _ (λ path. tt)
    (if_free (bytes_eq word (codes "check")) Check _ (λ path. tt)
    (if_free (bytes_eq word (codes "sync")) Sync _ (λ path. tt)
    (if_free (bytes_eq word (codes "mkdir")) Mkdir _ (λ path. tt)
    (if_free (bytes_eq word (codes "make")) Make _ (λ path. tt)
    (if_free (bytes_eq word (codes "remove")) Remove _ (λ path. tt)
    (if_free (bytes_eq word (codes "list")) ListDir _ (λ path. tt)
    (if_free (bytes_eq word (codes "stat")) Stat _ (λ path. tt) tt)))))))))))

word_keeps : (word : List ℕ) (args : List (List ℕ)) → Keeps (word_of word args)
word_keeps word args =
    if_keeps (bytes_eq word (codes "write")) _ _ (write_keeps args) (λ no.
    if_keeps (bytes_eq word (codes "read")) _ _ (read_keeps args) (λ no.
    if_keeps (bytes_eq word (codes "trunc")) _ _ (trunc_keeps args) (λ no.
    if_keeps (bytes_eq word (codes "rename")) _ _ (rename_keeps args) (λ no.
    if_keeps (bytes_eq word (codes "create")) _ _ (create_keeps args) (λ no.
    if_keeps (bytes_eq word (codes "grow")) _ _ (grow_keeps args) (λ no.
    if_keeps (bytes_eq word (codes "cubes")) _ _ (cubes_keeps args) (λ no.
    or_bad_keeps (path_word word) Word _ (λ request is. path_keeps request (subst AllFree is (words_free word)) args))))))))

words_keep : (words : List (List ℕ)) → Keeps (words_of words)
words_keep [] = tt
words_keep (word ∷ args) = word_keeps word args

-- what a line asks for is within the bounds
pub line_in_bounds : (line : List ℕ) (request : Request) → line_of line ≡ Asks request → InBounds request
line_in_bounds line request is = subst Keeps is (if_keeps (nat_lt longest_line (length line)) (Bad Long) _ tt (λ short. words_keep (tokens line)))
