-- Closing lines are read back as what was written.
use Rattle.std.proofs.Common.{◌≡◌, ◌∙◌, ℕ, zero, suc, ◌+◌, ◌-◌, ◌*◌, ◌/◌, ◌%◌, ◌^◌, ◌<◌, ◌≤◌, Bool, true, false, List, [], ◌∷◌, ◌++◌, length, refl, ap, arith, if◌then◌else◌, ◌==◌, append_assoc}
use Rattle.std.specs.Prelude.{Some, None, not, ◌&&◌, ◌||◌, nat_le, nat_lt, codes, decimal, slice_index, is_some, All, get_or}
use Rattle.std.specs.List.{fold, list_all}
use Rattle.std.specs.Str.{bytes_eq}
use Rattle.std.specs.Char.{is_ascii_digit}
use Rattle.std.specs.Option.{option_map}
use Rattle.std.proofs.lemmas.Bool.Decides.{nat_tests}
use Rattle.std.proofs.lemmas.Fmt.{digits_decimal, digits_value-decimal, decimal_nonempty, decimal_digit, length-decimal-le, first_decimal}
use Rattle.std.proofs.lemmas.List.Splits.{slice_split_at, slice_split_none}
use Rattle.std.proofs.lemmas.List.Sums.{AllPass-from_list_all}
use Rattle.std.proofs.lemmas.Str.Parse.{IsNumeralModel, numerals_by_fold}
use Rattle.std.proofs.Common.{rules}
use Rattle.hex.specs.Hex.{IsBytes, encode_with, lower_digits}
use Rattle.hex.proofs.HexLemmas.{length-encode_with}
use Rattle.tree_spec.specs.Replies.{Plain, Number, Bytes, Dir, File, Listed, Checked}
use Rattle.tree_spec.specs.declared.reply.Refusal.TheVariants as code
use Rattle.ice_script.specs.Grammar.{tokens, is_blank, value_of}
use Rattle.ice_text.specs.Text.{hex_token}
use Rattle.ice_text.specs.Closing.{closing_of, closing_in, is_plain_number, count_of, is_count, is_lower_digit, is_lower_hex, is_value, is_small, refusal_of, ValuesReadBack, RefusalsReadBack}
use Rattle.ice_text.specs.declared.closing.Closing.TheVariants.{Ok, No}

-- ---- words without a blank

abbrev NoBlank : List ℕ → Type 0
NoBlank word = All (λ b. is_blank b ≡ false) word

no_blank : (p : ℕ → Bool) → ((b : ℕ) → p b ≡ true → is_blank b ≡ false) → (word : List ℕ) → list_all p word ≡ true → NoBlank word
no_blank p other word h = λ k d lt. other (get_or word k d) (AllPass-from_list_all p word h k d lt)

tokens_word : (word rest : List ℕ) → NoBlank word → tokens (word ++ 32 ∷ rest) ≡ word ∷ tokens rest
unfolding tokens
tokens_word word rest h = slice_split_at is_blank word 32 rest h refl

tokens_last : (word : List ℕ) → NoBlank word → tokens word ≡ word ∷ []
unfolding tokens
tokens_last word h = slice_split_none is_blank word h

-- ---- numbers

own : IsNumeralModel (λ ds. list_all is_ascii_digit ds ≡ true) value_of
own = numerals_by_fold _ (search rules) (λ seen ds. fold (λ seen digit. seen * 10 + (digit - 48)) seen ds) (search rules)

digit_other : (b : ℕ) → is_ascii_digit b ≡ true → is_blank b ≡ false
digit_other b h = grind (arith, nat_tests)

decimal_no_blank : (n : ℕ) → n < 2 ^ 64 → NoBlank (decimal n)
decimal_no_blank n h = no_blank is_ascii_digit digit_other (decimal n) (digits_decimal own n h)

decimal_token : (n : ℕ) → n < 2 ^ 64 → tokens (decimal n) ≡ decimal n ∷ []
decimal_token n h = tokens_last (decimal n) (decimal_no_blank n h)

four : (a b c d e : Bool) → a ≡ false → b ≡ true → d ≡ false → e ≡ true → (not a && b && (c || not d) && e) ≡ true
four a b true d e p q r s = rw (p, q, s) refl
four a b false d e p q r s = rw (p, q, r, s) refl

differs : (x y : ℕ) → y < x → (x == y) ≡ false
differs x y h = grind (arith, nat_tests)

plain : (t : List ℕ) → 0 < length t → length t ≤ 20 → 48 < slice_index t 0 → list_all is_ascii_digit t ≡ true → is_plain_number t ≡ true
plain t some few first digits =
    four (length t == 0) (nat_le (length t) 20) (length t == 1) (slice_index t 0 == 48) (list_all is_ascii_digit t)
    (differs (length t) 0 some) (most (length t) 20 few) (differs (slice_index t 0) 48 first) digits
  where
    most : (x y : ℕ) → x ≤ y → nat_le x y ≡ true
    most x y h = grind (arith, nat_tests)

below : (x y : ℕ) → x < y → nat_lt x y ≡ true
below x y h = grind (arith, nat_tests)

count_from : (t : List ℕ) (n : ℕ) → is_plain_number t ≡ true → value_of t ≡ n → n < 2 ^ 64 → count_of t ≡ Some n
count_from t n whole value less = rw (whole, value, below n (2 ^ 64) less) refl

count_of-decimal : (n : ℕ) → n < 2 ^ 64 → count_of (decimal n) ≡ Some n
count_of-decimal zero h = rw (decimal_digit 0 (omega arith)) refl
count_of-decimal (suc n) h =
    let few : suc n < 10 ^ 20 = omega arith in
    count_from (decimal (suc n)) (suc n)
    (plain (decimal (suc n)) (decimal_nonempty (suc n) h) (length-decimal-le 20 (suc n) (omega arith) few h)
    (first_decimal (suc n) (omega arith) h) (digits_decimal own (suc n) h))
    (digits_value-decimal own (suc n) h) h

is_count-decimal : (n : ℕ) → n < 2 ^ 64 → is_count (decimal n) ≡ true
is_count-decimal n h = ap is_some (count_of-decimal n h)

-- ---- bytes

digit_at : (p : ℕ → Bool) (ds : List ℕ) (i : ℕ) → list_all p ds ≡ true → i < length ds → p (slice_index ds i) ≡ true
digit_at p [] i h lt = absurd (omega arith)
digit_at p (d ∷ ds) zero h lt = first (p d) (list_all p ds) h
  where
    first : (a b : Bool) → (a && b) ≡ true → a ≡ true
    first true b h = refl
    first false b h = h
digit_at p (d ∷ ds) (suc i) h lt = digit_at p ds i (second (p d) (list_all p ds) h) (omega arith)
  where
    second : (a b : Bool) → (a && b) ≡ true → b ≡ true
    second true b h = h
    second false b h = cc

both : (a b : Bool) → a ≡ true → b ≡ true → (a && b) ≡ true
both a b p q = cc

encoded_lower : (bytes : List ℕ) → IsBytes bytes → list_all is_lower_digit (encode_with lower_digits bytes) ≡ true
unfolding encode_with
encoded_lower [] h = refl
encoded_lower (b ∷ bytes) h =
    let byte : b < 256 = h 0 in
    both (is_lower_digit (slice_index lower_digits (b / 16))) _ (digit_at is_lower_digit lower_digits (b / 16) refl (omega arith))
    (both (is_lower_digit (slice_index lower_digits (b % 16))) _ (digit_at is_lower_digit lower_digits (b % 16) refl (omega arith))
    (encoded_lower bytes (λ i. h (suc i))))

lower_other : (b : ℕ) → is_lower_digit b ≡ true → is_blank b ≡ false
lower_other b h = grind (arith, nat_tests)

or_true : (a b : Bool) → b ≡ true → (a || b) ≡ true
or_true true b h = refl
or_true false b h = h

pairs : (t : List ℕ) (n : ℕ) → length t ≡ 2 * suc n → list_all is_lower_digit t ≡ true → is_lower_hex t ≡ true
pairs t n len digits =
    or_true (bytes_eq t (codes "-")) _ (both (not (length t == 0)) _ (some (length t) n len) (both (length t % 2 == 0) _ (even (length t) n len) digits))
  where
    some : (k n : ℕ) → k ≡ 2 * suc n → not (k == 0) ≡ true
    some k n h =
        let more : 0 < k = omega arith in
        ap not (differs k 0 more)

    even : (k n : ℕ) → k ≡ 2 * suc n → (k % 2 == 0) ≡ true
    even k n h =
        let e : k % 2 ≡ 0 = omega arith in
        rw e refl

hex_lower : (bytes : List ℕ) → IsBytes bytes → is_lower_hex (hex_token bytes) ≡ true
hex_lower [] h = refl
hex_lower (b ∷ bytes) h = pairs (hex_token (b ∷ bytes)) (length bytes) (length-encode_with lower_digits (b ∷ bytes)) (encoded_lower (b ∷ bytes) h)

hex_no_blank : (bytes : List ℕ) → IsBytes bytes → tokens (hex_token bytes) ≡ hex_token bytes ∷ []
unfolding tokens
hex_no_blank [] h = refl
hex_no_blank (b ∷ bytes) h = tokens_last (hex_token (b ∷ bytes)) (no_blank is_lower_digit lower_other (hex_token (b ∷ bytes)) (encoded_lower (b ∷ bytes) h))

-- ---- lines

ok_reads : (rest : List ℕ) (words : List (List ℕ)) → tokens rest ≡ words → is_value words ≡ true → closing_of (codes "ok " ++ rest) ≡ Some Ok
unfolding tokens
ok_reads rest words is value = ap (λ ws. closing_in (codes "ok" ∷ ws)) is ∙ ap (λ b. if b then Some Ok else None) value

number_reads : (n : ℕ) → n < 2 ^ 64 → closing_of (codes "ok " ++ decimal n) ≡ Some Ok
number_reads n h = ok_reads (decimal n) (decimal n ∷ []) (decimal_token n h) (rw (is_count-decimal n h) refl)

dir_token : (n : ℕ) → n < 2 ^ 64 → tokens (codes "dir " ++ decimal n) ≡ codes "dir" ∷ decimal n ∷ []
dir_token n h =
    tokens_word (codes "dir") (decimal n) (no_blank (λ b. not (is_blank b)) unnot (codes "dir") refl) ∙ ap (λ ws. codes "dir" ∷ ws) (decimal_token n h)
  where
    unnot : (b : ℕ) → not (is_blank b) ≡ true → is_blank b ≡ false
    unnot b h = grind (arith, nat_tests)

file_token : (n : ℕ) → n < 2 ^ 64 → tokens (codes "file " ++ decimal n) ≡ codes "file" ∷ decimal n ∷ []
file_token n h =
    tokens_word (codes "file") (decimal n) (no_blank (λ b. not (is_blank b)) unnot (codes "file") refl) ∙ ap (λ ws. codes "file" ∷ ws) (decimal_token n h)
  where
    unnot : (b : ℕ) → not (is_blank b) ≡ true → is_blank b ≡ false
    unnot b h = grind (arith, nat_tests)

three_tokens : (a b c : ℕ) → a < 2 ^ 64 → b < 2 ^ 64 → c < 2 ^ 64
    → tokens (decimal a ++ 32 ∷ (decimal b ++ 32 ∷ decimal c)) ≡ decimal a ∷ decimal b ∷ decimal c ∷ []
three_tokens a b c p q r =
    tokens_word (decimal a) (decimal b ++ 32 ∷ decimal c) (decimal_no_blank a p)
    ∙ ap (λ ws. decimal a ∷ ws) (tokens_word (decimal b) (decimal c) (decimal_no_blank b q) ∙ ap (λ ws. decimal b ∷ ws) (decimal_token c r))

checked_words : (a b c : List ℕ) → codes " " ++ a ++ codes " " ++ b ++ codes " " ++ c ≡ 32 ∷ (a ++ 32 ∷ (b ++ 32 ∷ c))
checked_words a b c = ap (λ t. 32 ∷ t)
    (append_assoc (a ++ codes " " ++ b) (codes " ") c ∙ append_assoc (a ++ codes " ") b (32 ∷ c) ∙ append_assoc a (codes " ") (b ++ 32 ∷ c))

-- the closing line of each accepted reply is read back
pub values_read_back : ValuesReadBack
unfolding tokens
values_read_back Plain h = refl
values_read_back (Number n) h = number_reads n h
values_read_back (Bytes bytes) h =
    ok_reads (hex_token bytes) (hex_token bytes ∷ []) (hex_no_blank bytes h)
    (or_true (is_count (hex_token bytes)) (is_lower_hex (hex_token bytes)) (hex_lower bytes h))
values_read_back (Dir n) h = ok_reads (codes "dir " ++ decimal n) (codes "dir" ∷ decimal n ∷ []) (dir_token n h) (is_count-decimal n h)
values_read_back (File n) h = ok_reads (codes "file " ++ decimal n) (codes "file" ∷ decimal n ∷ []) (file_token n h) (is_count-decimal n h)
values_read_back (Listed entries rows) h = number_reads (length entries + length rows) h
values_read_back (Checked blocks nodes done) h =
    ap (λ ws. closing_of (codes "ok" ++ ws)) (checked_words (decimal blocks) (decimal nodes) (decimal done))
    ∙ ok_reads (decimal blocks ++ 32 ∷ (decimal nodes ++ 32 ∷ decimal done)) (decimal blocks ∷ decimal nodes ∷ decimal done ∷ [])
    (three_tokens blocks nodes done h.0 h.1 h.2)
    (both (is_count (decimal blocks)) _ (is_count-decimal blocks h.0)
    (both (is_count (decimal nodes)) _ (is_count-decimal nodes h.1) (is_count-decimal done h.2)))

damage_reads : (rule : ℕ) → rule < 2 ^ 8 → refusal_of (codes "Damaged" ∷ decimal rule ∷ []) ≡ Some 15
damage_reads rule h =
    ap (λ o. if is_small o then Some 15 else None) (count_of-decimal rule (omega arith)) ∙ ap (λ b. if b then Some 15 else None) (below rule (2 ^ 8) h)

-- the closing line of each refusal is read back
pub refusals_read_back : RefusalsReadBack
unfolding tokens
refusals_read_back (code.Damaged rule) h =
    ap (λ ws. option_map No (refusal_of (codes "Damaged" ∷ ws))) (decimal_token rule (omega (arith, h))) ∙ ap (option_map No) (damage_reads rule h)
refusals_read_back code.NameLong h = refl
refusals_read_back code.TooDeep h = refl
refusals_read_back code.NotFound h = refl
refusals_read_back code.NotDir h = refl
refusals_read_back code.IsDir h = refl
refusals_read_back code.IsRoot h = refl
refusals_read_back code.Exists h = refl
refusals_read_back code.NotEmpty h = refl
refusals_read_back code.IntoItself h = refl
refusals_read_back code.BeyondEnd h = refl
refusals_read_back code.FileBig h = refl
refusals_read_back code.NoNodes h = refl
refusals_read_back code.NoSpace h = refl
refusals_read_back code.Spent h = refl
refusals_read_back code.Fault h = refl
refusals_read_back code.Memory h = refl
refusals_read_back code.Word h = refl
refusals_read_back code.Args h = refl
refusals_read_back code.Number h = refl
refusals_read_back code.Hex h = refl
refusals_read_back code.Long h = refl
refusals_read_back code.Path h = refl
refusals_read_back code.NoCube h = refl
refusals_read_back code.CrossCube h = refl
refusals_read_back code.Offline h = refl
refusals_read_back code.Stopped h = refl
refusals_read_back code.Unmounted h = refl
refusals_read_back code.Mounted h = refl
refusals_read_back code.State h = refl
refusals_read_back code.NoSlot h = refl
refusals_read_back code.CubeFull h = refl
refusals_read_back code.NoGroups h = refl
