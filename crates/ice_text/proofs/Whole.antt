-- Bytes without an LF: each line of a reply is one line of its text.
use Rattle.std.proofs.Common.{◌≡◌, ℕ, zero, suc, ◌+◌, ◌/◌, ◌%◌, ◌<◌, ◌≤◌, Bool, true, false, List, [], ◌∷◌, ◌++◌, length, get_or, refl, ap, arith, if◌then◌else◌, ◌==◌}
use Rattle.std.specs.Prelude.{Ok, Err, codes, decimal, All, nat_le, nat_lt, not, ◌&&◌, slice_index, map}
use Rattle.std.specs.List.{list_all}
use Rattle.std.specs.Fmt.{digits, digits_onto, digit_glyph}
use Rattle.std.proofs.lemmas.Bool.Decides.{nat_tests}
use Rattle.std.proofs.lemmas.List.Elements.{All-append, All-map, All-nil}
use Rattle.hex.specs.Hex.{encode_with, lower_digits}
use Rattle.tree_spec.specs.Names.{is_name, is_name_byte, IsNameList, with_slashes, text_of, longest_name}
use Rattle.tree_spec.specs.Why.{Why, Damaged}
use Rattle.tree_spec.specs.Replies.{Response, Accepted, Refused, Because, Fault, Memory, Plain, Number, Bytes, Dir, File, Listed, Checked, HasNames}
use Rattle.tree_spec.specs.declared.reply.Entry.{Entry}
use Rattle.tree_spec.specs.declared.reply.CubeRow.{CubeRow}
use Rattle.tree_spec.specs.declared.reply.StateWord.{StateWord}
use Rattle.tree_spec.specs.declared.reply.StateWord.TheVariants.{Mounted, Unmounted, Stopped, Offline}
use Rattle.ice_text.specs.Text.{data_lines, closing_line, value_words, refused_words, why_words, hex_token, state_word, entry_line, row_line}

-- no byte is an LF
abbrev pub is_whole : List ℕ → Bool
is_whole line = list_all (λ b. not (b == 10)) line

both : (a b : Bool) → a ≡ true → b ≡ true → (a && b) ≡ true
both a b p q = cc

first : (a b : Bool) → (a && b) ≡ true → a ≡ true
first true b h = refl
first false b h = h

second : (a b : Bool) → (a && b) ≡ true → b ≡ true
second true b h = h
second false b h = cc

pub whole-append : (xs ys : List ℕ) → is_whole xs ≡ true → is_whole ys ≡ true → is_whole (xs ++ ys) ≡ true
whole-append [] ys p q = q
whole-append (x ∷ xs) ys p q =
    both (not (x == 10)) (is_whole (xs ++ ys)) (first (not (x == 10)) (is_whole xs) p) (whole-append xs ys (second (not (x == 10)) (is_whole xs) p) q)

-- ---- numbers

test_small : (d : ℕ) → d < 10 → nat_lt d 10 ≡ true
test_small d h = grind (arith, nat_tests)

not_end : (b : ℕ) → 11 ≤ b → not (b == 10) ≡ true
not_end b h = ap not (is_other b h)
  where
    is_other : (b : ℕ) → 11 ≤ b → (b == 10) ≡ false
    is_other b h = grind (arith, nat_tests)

whole_glyph : (n : ℕ) → not (digit_glyph false (n % 10) == 10) ≡ true
whole_glyph n =
    let small : n % 10 < 10 = omega arith in
    rw (test_small (n % 10) small) (not_end (48 + n % 10) (omega arith))

whole_onto : (k n : ℕ) (acc : List ℕ) → is_whole acc ≡ true → is_whole (digits_onto k 10 false n acc) ≡ true
whole_onto zero n acc h = h
whole_onto (suc k) n acc h =
    (elim (n / 10 == 0) as (λ y. is_whole
    (if y then digit_glyph false (n % 10) ∷ acc else digits_onto k 10 false (n / 10) (digit_glyph false (n % 10) ∷ acc)) ≡ true) [
      | true ↦ both (not (digit_glyph false (n % 10) == 10)) (is_whole acc) (whole_glyph n) h
      | false ↦ whole_onto k (n / 10) (digit_glyph false (n % 10) ∷ acc) (both (not (digit_glyph false (n % 10) == 10)) (is_whole acc) (whole_glyph n) h)
    ])

whole_decimal : (n : ℕ) → is_whole (decimal n) ≡ true
unfolding digits
whole_decimal n = whole_onto 64 n [] refl

-- ---- bytes

whole_at : (digits : List ℕ) (i : ℕ) → is_whole digits ≡ true → not (slice_index digits i == 10) ≡ true
whole_at [] i h = refl
whole_at (d ∷ digits) zero h = first (not (d == 10)) (is_whole digits) h
whole_at (d ∷ digits) (suc i) h = whole_at digits i (second (not (d == 10)) (is_whole digits) h)

whole_encoded : (digits bytes : List ℕ) → is_whole digits ≡ true → is_whole (encode_with digits bytes) ≡ true
unfolding encode_with
whole_encoded digits [] h = refl
whole_encoded digits (b ∷ bytes) h =
    both (not (slice_index digits (b / 16) == 10)) (is_whole (slice_index digits (b % 16) ∷ encode_with digits bytes)) (whole_at digits (b / 16) h)
    (both (not (slice_index digits (b % 16) == 10)) (is_whole (encode_with digits bytes)) (whole_at digits (b % 16) h) (whole_encoded digits bytes h))

whole_hex : (bytes : List ℕ) → is_whole (hex_token bytes) ≡ true
whole_hex [] = refl
whole_hex (b ∷ bytes) = whole_encoded lower_digits (b ∷ bytes) refl

-- ---- names and paths

whole_byte : (b : ℕ) → is_name_byte b ≡ true → not (b == 10) ≡ true
whole_byte b h = not_end b (printed b (first (nat_le 33 b) _ h))
  where
    printed : (b : ℕ) → nat_le 33 b ≡ true → 11 ≤ b
    printed b h =
        let low : 33 ≤ b = grind (arith, nat_tests) in
        omega arith

whole_bytes : (c : List ℕ) → list_all is_name_byte c ≡ true → is_whole c ≡ true
whole_bytes [] h = refl
whole_bytes (b ∷ c) h = both (not (b == 10)) (is_whole c) (whole_byte b (first (is_name_byte b) _ h)) (whole_bytes c (second (is_name_byte b) _ h))

whole_name : (c : List ℕ) → is_name c ≡ true → is_whole c ≡ true
unfolding is_name
whole_name c h = whole_bytes c (first (list_all is_name_byte c) _ (second (nat_le (length c) longest_name) _ (second (nat_lt 0 (length c)) _ h)))

whole_slashes : (names : List (List ℕ)) → IsNameList names → is_whole (with_slashes names) ≡ true
whole_slashes [] h = refl
whole_slashes (c ∷ names) h =
    whole-append c (with_slashes names) (whole_name c (h 0 [] (omega arith))) (whole_slashes names (λ k d lt. h (suc k) d (omega arith)))

whole_path : (names : List (List ℕ)) → IsNameList names → is_whole (text_of names) ≡ true
whole_path [] h = refl
whole_path (c ∷ names) h = whole_slashes (c ∷ names) h

-- ---- lines

whole_state : (s : StateWord) → is_whole (state_word s) ≡ true
whole_state Mounted = refl
whole_state Unmounted = refl
whole_state Stopped = refl
whole_state Offline = refl

whole_entry : (e : Entry) → is_name e.name ≡ true → is_whole (entry_line e) ≡ true
whole_entry e h = whole-append (if e.dir then codes "dir " else codes "file ") e.name (kind e.dir) (whole_name e.name h)
  where
    kind : (b : Bool) → is_whole (if b then codes "dir " else codes "file ") ≡ true
    kind true = refl
    kind false = refl

spaced : (xs ys : List ℕ) → is_whole xs ≡ true → is_whole ys ≡ true → is_whole (xs ++ codes " " ++ ys) ≡ true
spaced xs ys p q = whole-append (xs ++ codes " ") ys (whole-append xs (codes " ") p refl) q

whole_row : (row : CubeRow) → IsNameList row.path → is_whole (row_line row) ≡ true
whole_row row h =
    let two = decimal row.slot ++ codes " " ++ decimal row.groups in
    let whole_two : is_whole two ≡ true = spaced (decimal row.slot) (decimal row.groups) (whole_decimal row.slot) (whole_decimal row.groups) in
    let three = two ++ codes " " ++ state_word row.state in
    spaced three (text_of row.path) (spaced two (state_word row.state) whole_two (whole_state row.state)) (whole_path row.path h)

whole_why : (why : Why) → is_whole (why_words why) ≡ true
whole_why (Damaged rule) = whole-append (codes "Damaged ") (decimal rule) refl (whole_decimal rule)
whole_why _ = refl

whole_refused : (e : Refused) → is_whole (refused_words e) ≡ true
whole_refused (Because why) = whole_why why
whole_refused Fault = refl
whole_refused Memory = refl

whole_value : (v : Accepted) → is_whole (value_words v) ≡ true
whole_value Plain = refl
whole_value (Number n) = whole_decimal n
whole_value (Bytes bytes) = whole_hex bytes
whole_value (Dir n) = whole_decimal n
whole_value (File n) = whole_decimal n
whole_value (Listed entries rows) = whole_decimal (length entries + length rows)
whole_value (Checked blocks nodes done) =
    let one = codes " " ++ decimal blocks in
    let two = one ++ codes " " ++ decimal nodes in
    spaced two (decimal done) (spaced one (decimal nodes) (whole_decimal blocks) (whole_decimal nodes)) (whole_decimal done)

-- the closing line is one line
pub whole_closing : (r : Response) → is_whole (closing_line r) ≡ true
whole_closing (Ok value) = whole_value value
whole_closing (Err refused) = whole_refused refused

abbrev Whole : List ℕ → Type 0
Whole line = is_whole line ≡ true

-- each data line is one line
pub whole_data : (r : Response) → HasNames r → All (λ line. is_whole line ≡ true) (data_lines r)
whole_data (Ok Plain) h = All-nil Whole
whole_data (Ok (Number n)) h = All-nil Whole
whole_data (Ok (Bytes bytes)) h = All-nil Whole
whole_data (Ok (Dir n)) h = All-nil Whole
whole_data (Ok (File n)) h = All-nil Whole
whole_data (Ok (Listed entries rows)) h = All-append Whole (map entry_line entries) (map row_line rows)
    (All-map Whole entry_line entries (λ k d lt. whole_entry (get_or entries k d) (h.0 k d lt)))
    (All-map Whole row_line rows (λ k d lt. whole_row (get_or rows k d) (h.1 k d lt)))
whole_data (Ok (Checked blocks nodes done)) h = All-nil Whole
whole_data (Err refused) h = All-nil Whole
