-- The forms of the program's words.
use Rattle.std.specs.Prelude.{◌≡◌, ℕ, Bool, not, ◌&&◌, ◌==◌, if◌then◌else◌, List, [], length, codes, slice_index, slice_index_or, Option, Some, None, Result, Ok, Err}
use Rattle.std.specs.Str.{bytes_eq}
use Rattle.ice_base.specs.declared.status.Image.{Image}
use Rattle.ice_base.specs.declared.status.ImageFault.{ImageFault}
use Rattle.ice_base.specs.declared.status.ImageFault.TheVariants.{Usage}
use Rattle.ice_script.specs.Grammar.{number_of}
use Rattle.ice_layout.specs.Geometry.{total_blocks, between}
use Rattle.ice_layout.specs.declared.superblock.Super.{Super}

-- what the words ask for, and the image's name
pub data Request : Type 0 where
  Formats : List ℕ → Super → Request
  Runs : List ℕ → Request

-- the i-th word
abbrev pub nth_word : List (List ℕ) → ℕ → List ℕ
nth_word words i = slice_index_or words i []

-- an image's name is not empty and does not begin with `-`
abbrev pub is_image : List ℕ → Bool
is_image word = not (length word == 0) && not (slice_index word 0 == 45)

-- a decimal number in a range
abbrev pub number_in : ℕ → ℕ → Option ℕ → Option ℕ
number_in low high None = None
number_in low high (Some n) = if between low high n then Some n else None

-- the geometry of two numbers
abbrev pub geometry_of : Option ℕ → Option ℕ → Option Super
geometry_of None groups = None
geometry_of (Some s) None = None
geometry_of (Some s) (Some n) = Some (record { slots = s; groups = n })

abbrev pub formats : List ℕ → Option Super → Option Request
formats image None = None
formats image (Some sup) = Some (Formats image sup)

-- `format IMAGE --slots S --groups N`, S of 1 to 16 and N of 1 to 1,024
abbrev pub format_form : List (List ℕ) → Option Request
format_form words =
    if bytes_eq (nth_word words 0)
    (codes "format") && (is_image (nth_word words 1) && (bytes_eq (nth_word words 2) (codes "--slots") && bytes_eq (nth_word words 4) (codes "--groups")))
    then formats (nth_word words 1) (geometry_of (number_in 1 16 (number_of (nth_word words 3))) (number_in 1 1024 (number_of (nth_word words 5))))
    else None

-- `run IMAGE`
abbrev pub run_form : List (List ℕ) → Option Request
run_form words = if bytes_eq (nth_word words 0) (codes "run") && is_image (nth_word words 1) then Some (Runs (nth_word words 1)) else None

-- the form of the words, if they are one
unfoldable pub request_of : List (List ℕ) → Option Request
request_of words = if length words == 6 then format_form words else if length words == 2 then run_form words else None

-- the image that a form names
abbrev pub name_of : Request → List ℕ
name_of (Formats image sup) = image
name_of (Runs image) = image

-- the blocks that its file must have at least
abbrev pub least_of : Request → ℕ
least_of (Formats image sup) = total_blocks sup.slots sup.groups
least_of (Runs image) = 0

-- the image of the words, or Usage exactly where they are no form; want of memory never comes
abbrev pub ImageGives : List (List ℕ) → Result Image ImageFault → Type 0
ImageGives words (Ok image) = (f : Request) × (request_of words ≡ Some f) × (image.name.now ≡ name_of f) × (image.least ≡ least_of f)
ImageGives words (Err fault) = (request_of words ≡ None) × (fault ≡ Usage)
