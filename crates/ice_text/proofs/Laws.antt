-- What holds of every reply's text.
use Rattle.std.proofs.Common.{◌≡◌, ◌∙◌, ℕ, zero, suc, ◌/◌, ◌%◌, ◌<◌, ◌≤◌, true, false, List, [], ◌∷◌, ◌++◌, map, get_or, refl, sym, arith, append_assoc, if◌then◌else◌, ◌==◌, lit≤}
use Rattle.std.specs.Prelude.{Ok, Err, decimal, All, codes, nat_eq, nat_lt}
use Rattle.std.specs.Fmt.{digits, digits_onto, digit_glyph}
use Rattle.std.proofs.lemmas.Bool.Decides.{nat_tests}
use Rattle.std.proofs.lemmas.List.Elements.{All-append, All-map, All-nil}
use Rattle.tree_spec.specs.Replies.{Response, Plain, Number, Bytes, Dir, File, Listed, Checked}
use Rattle.tree_spec.specs.declared.reply.Entry.{Entry}
use Rattle.tree_spec.specs.declared.reply.CubeRow.{CubeRow}
use Rattle.ice_text.specs.Text.{text, ended, data_lines, closing_line, entry_line, row_line, is_closing}
use Rattle.ice_text.proofs.Endings.{ended-append}

-- the data lines, and then the closing line
pub text_parts : (r : Response) → text r ≡ ended (data_lines r) ++ (closing_line r ++ 10 ∷ [])
unfolding text
text_parts r = ended-append (data_lines r) (closing_line r ∷ [])

-- the text ends with an LF
pub text_end : (r : Response) → text r ≡ (ended (data_lines r) ++ closing_line r) ++ 10 ∷ []
text_end r = text_parts r ∙ sym (append_assoc (ended (data_lines r)) (closing_line r) (10 ∷ []))

-- the closing line begins with `ok` or `no`
pub is_closing-closing_line : (r : Response) → is_closing (closing_line r) ≡ true
is_closing-closing_line (Ok value) = refl
is_closing-closing_line (Err refused) = refl

-- a list that begins with a byte that is no letter
BeginsLow : List ℕ → Type 0
BeginsLow [] = ⊥
BeginsLow (b ∷ bytes) = b ≤ 57

test_low : (d : ℕ) → d < 10 → nat_lt d 10 ≡ true
test_low d h = grind (arith, nat_tests)

glyph_low : (d : ℕ) → digit_glyph false (d % 10) ≤ 57
glyph_low d =
    let small : d % 10 < 10 = omega arith in
    rw (test_low (d % 10) small) (omega arith)

onto_low : (k n : ℕ) (acc : List ℕ) → BeginsLow acc → BeginsLow (digits_onto k 10 false n acc)
unfolding BeginsLow
onto_low zero n acc h = h
onto_low (suc k) n acc h =
    (elim (n / 10 == 0) as (λ y. BeginsLow
    (if y then digit_glyph false (n % 10) ∷ acc else digits_onto k 10 false (n / 10) (digit_glyph false (n % 10) ∷ acc))) [
      | true ↦ glyph_low n
      | false ↦ onto_low k (n / 10) (digit_glyph false (n % 10) ∷ acc) (glyph_low n)
    ])

first_low : (k n : ℕ) → BeginsLow (digits_onto (suc k) 10 false n [])
unfolding BeginsLow
first_low k n =
    (elim (n / 10 == 0) as (λ y. BeginsLow (if y then digit_glyph false (n % 10) ∷ [] else digits_onto k 10 false (n / 10) (digit_glyph false (n % 10) ∷ []))) [
      | true ↦ glyph_low n
      | false ↦ onto_low k (n / 10) (digit_glyph false (n % 10) ∷ []) (glyph_low n)
    ])

decimal_low : (n : ℕ) → BeginsLow (decimal n)
unfolding digits
decimal_low n = first_low 63 n

not_letter : (b letter : ℕ) → b ≤ 57 → 58 ≤ letter → nat_eq letter b ≡ false
not_letter b letter h l = grind (arith, nat_tests)

open_low : (line rest : List ℕ) → BeginsLow line → is_closing (line ++ rest) ≡ false
unfolding BeginsLow
open_low [] rest h = absurd h
open_low (b ∷ line) rest h = rw (not_letter b 111 h (lit≤ tt), not_letter b 110 h (lit≤ tt)) refl

-- no entry's line begins with `ok` or `no`
entry_open : (e : Entry) → is_closing (entry_line e) ≡ false
entry_open e = (elim e.dir as (λ y. is_closing ((if y then codes "dir " else codes "file ") ++ e.name) ≡ false) [ true ↦ refl | false ↦ refl ])

-- no row's line begins with `ok` or `no`
row_open : (row : CubeRow) → is_closing (row_line row) ≡ false
row_open row = simp append_assoc (open_low (decimal row.slot) _ (decimal_low row.slot))

-- a line that begins neither with `ok` nor with `no`
abbrev OpenLine : List ℕ → Type 0
OpenLine line = is_closing line ≡ false

-- no data line begins with `ok` or `no`
pub data_lines_open : (r : Response) → All (λ line. is_closing line ≡ false) (data_lines r)
data_lines_open (Ok Plain) = All-nil OpenLine
data_lines_open (Ok (Number n)) = All-nil OpenLine
data_lines_open (Ok (Bytes bytes)) = All-nil OpenLine
data_lines_open (Ok (Dir n)) = All-nil OpenLine
data_lines_open (Ok (File n)) = All-nil OpenLine
data_lines_open (Ok (Listed entries rows)) = All-append OpenLine (map entry_line entries) (map row_line rows)
    (All-map OpenLine entry_line entries (λ k d h. entry_open (get_or entries k d))) (All-map OpenLine row_line rows (λ k d h. row_open (get_or rows k d)))
data_lines_open (Ok (Checked blocks nodes done)) = All-nil OpenLine
data_lines_open (Err refused) = All-nil OpenLine
