-- Names, and the text of a path.
use Rattle.std.specs.Prelude.{◌≡◌, ℕ, Bool, true, false, not, ◌&&◌, List, [], ◌∷◌, ◌++◌, length, nat_lt, nat_le, nat_eq, All}
use Rattle.std.specs.List.{list_all}

-- the bytes of the longest name
abbrev pub longest_name : ℕ
longest_name = 123

-- the bytes of the longest text of a path
abbrev pub longest_text : ℕ
longest_text = 3200

-- a byte of a name: 0x21 to 0x7E, and no slash
abbrev pub is_name_byte : ℕ → Bool
is_name_byte b = nat_le 33 b && (nat_le b 126 && not (nat_eq b 47))

-- `.` and `..`
abbrev pub is_dots : List ℕ → Bool
is_dots [] = false
is_dots (a ∷ []) = nat_eq a 46
is_dots (a ∷ b ∷ []) = nat_eq a 46 && nat_eq b 46
is_dots (a ∷ b ∷ c ∷ bytes) = false

-- 1 to 123 name bytes, and no `.` or `..`
unfoldable pub is_name : List ℕ → Bool
is_name bytes = nat_lt 0 (length bytes) && (nat_le (length bytes) longest_name && (list_all is_name_byte bytes && not (is_dots bytes)))

-- each one is a name
abbrev pub IsNameList : List (List ℕ) → Type 0
IsNameList names = All (λ c. is_name c ≡ true) names

-- a slash before each name
abbrev pub with_slashes : List (List ℕ) → List ℕ
with_slashes [] = []
with_slashes (c ∷ cs) = 47 ∷ (c ++ with_slashes cs)

-- the text of a path: `/` for no names, else a slash before each name
abbrev pub text_of : List (List ℕ) → List ℕ
text_of [] = 47 ∷ []
text_of (c ∷ cs) = with_slashes (c ∷ cs)

-- the first byte put before the parts behind it, where a slash begins a name
abbrev pub begin : Bool → ℕ → List ℕ × List (List ℕ) → List ℕ × List (List ℕ)
begin true b p = ([], p.0 ∷ p.1)
begin false b p = (b ∷ p.0, p.1)

-- a text up to its first slash, and the names that begin at its slashes
abbrev pub parts : List ℕ → List ℕ × List (List ℕ)
parts [] = ([], [])
parts (b ∷ bytes) = begin (nat_eq b 47) b (parts bytes)

-- the names that begin at the slashes of a text
unfoldable pub names_of : List ℕ → List (List ℕ)
names_of text = (parts text).1

-- a text that begins with a slash where it is not empty
unfoldable pub BeginsAtSlash : List ℕ → Type 0
BeginsAtSlash text = (parts text).0 ≡ []
