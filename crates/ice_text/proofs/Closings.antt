-- The closing lines of what was written: one for each whole reply, none for a part of one.
use Rattle.std.proofs.Common.{◌≡◌, ◌∙◌, ℕ, suc, ◌+◌, ◌<◌, ◌≤◌, Bool, true, false, List, [], ◌∷◌, ◌++◌, length, length-append, take, drop, refl, sym, ap, arith, append_assoc, if◌then◌else◌, ◌==◌}
use Rattle.std.specs.Prelude.{All, not, ◌&&◌, cond, count_by}
use Rattle.std.proofs.lemmas.List.{take_at, take-append-le, take-append-drop}
use Rattle.std.proofs.lemmas.List.Sums.{sum_by-append}
use Rattle.tree_spec.specs.Replies.{Response, HasNames}
use Rattle.ice_text.specs.Text.{text, ended, data_lines, closing_line, is_closing, lines_in, onto_line, closings}
use Rattle.ice_text.proofs.Laws.{text_parts, text_end, is_closing-closing_line, data_lines_open}
use Rattle.ice_text.proofs.Whole.{is_whole, whole_closing, whole_data}

-- ---- whole lines

unnot : (b : Bool) → not b ≡ true → b ≡ false
unnot true h = cc
unnot false h = refl

first : (a b : Bool) → (a && b) ≡ true → a ≡ true
first true b h = refl
first false b h = h

second : (a b : Bool) → (a && b) ≡ true → b ≡ true
second true b h = h
second false b h = cc

first_other : (b : ℕ) (line : List ℕ) → is_whole (b ∷ line) ≡ true → (b == 10) ≡ false
first_other b line h = unnot (b == 10) (first (not (b == 10)) (is_whole line) h)

rest_whole : (b : ℕ) (line : List ℕ) → is_whole (b ∷ line) ≡ true → is_whole line ≡ true
rest_whole b line h = second (not (b == 10)) (is_whole line) h

lines_in-line : (line rest : List ℕ) → is_whole line ≡ true → lines_in (line ++ 10 ∷ rest) ≡ line ∷ lines_in rest
unfolding lines_in
lines_in-line [] rest h = refl
lines_in-line (b ∷ line) rest h =
    ap (λ y. if y then [] ∷ lines_in (line ++ 10 ∷ rest) else onto_line b (lines_in (line ++ 10 ∷ rest))) (first_other b line h)
    ∙ ap (onto_line b) (lines_in-line line rest (rest_whole b line h))

lines_in-ended : (lines : List (List ℕ)) (rest : List ℕ) → All (λ line. is_whole line ≡ true) lines → lines_in (ended lines ++ rest) ≡ lines ++ lines_in rest
lines_in-ended [] rest h = refl
lines_in-ended (line ∷ lines) rest h =
    ap lines_in (append_assoc line (10 ∷ ended lines) rest) ∙ lines_in-line line (ended lines ++ rest) (h 0 [] (omega arith))
    ∙ ap (λ ls. line ∷ ls) (lines_in-ended lines rest (λ k d lt. h (suc k) d (omega arith)))

-- a line without its end
lines_in-whole : (line : List ℕ) → is_whole line ≡ true → lines_in line ≡ []
unfolding lines_in
lines_in-whole [] h = refl
lines_in-whole (b ∷ line) h =
    ap (λ y. if y then [] ∷ lines_in line else onto_line b (lines_in line)) (first_other b line h)
    ∙ ap (onto_line b) (lines_in-whole line (rest_whole b line h))

-- ---- fronts

abbrev IsFront : List (List ℕ) → List (List ℕ) → Type 0
IsFront xs ys = (more : List (List ℕ)) × (ys ≡ xs ++ more)

front_onto : (b : ℕ) (xs ys : List (List ℕ)) → IsFront xs ys → IsFront (onto_line b xs) (onto_line b ys)
front_onto b [] ys h = (onto_line b ys, refl)
front_onto b (x ∷ xs) ys h = (h.0, ap (onto_line b) h.1)

lines_in-front : (xs ys : List ℕ) → IsFront (lines_in xs) (lines_in (xs ++ ys))
unfolding lines_in
lines_in-front [] ys = (lines_in ys, refl)
lines_in-front (x ∷ xs) ys =
    let h = lines_in-front xs ys in
    (elim (x == 10) as (λ y. IsFront (if y then [] ∷ lines_in xs else onto_line x (lines_in xs))
    (if y then [] ∷ lines_in (xs ++ ys) else onto_line x (lines_in (xs ++ ys)))) [
      | true ↦ (h.0, ap (λ ls. [] ∷ ls) h.1)
      | false ↦ front_onto x (lines_in xs) (lines_in (xs ++ ys)) h
    ])

-- ---- counts

abbrev tally : Bool → ℕ
tally b = cond b 1 0

count-append : (p : List ℕ → Bool) (xs ys : List (List ℕ)) → count_by p (xs ++ ys) ≡ count_by p xs + count_by p ys
count-append p xs ys = sum_by-append (λ x. cond (p x) 1 0) xs ys

count_none : (p : List ℕ → Bool) (xs : List (List ℕ)) → All (λ x. p x ≡ false) xs → count_by p xs ≡ 0
count_none p [] h = refl
count_none p (x ∷ xs) h =
    let here = ap tally (h 0 [] (omega arith)) in
    count-append p (x ∷ []) xs ∙ omega (arith, here, count_none p xs (λ k d lt. h (suc k) d (omega arith)))

count_one : (p : List ℕ → Bool) (x : List ℕ) (xs : List (List ℕ)) → p x ≡ true → count_by p (x ∷ xs) ≡ suc (count_by p xs)
count_one p x xs h =
    let here = ap tally h in
    count-append p (x ∷ []) xs ∙ omega (arith, here)

parts_append : (front line rest all : List ℕ) → all ≡ front ++ (line ++ 10 ∷ []) → all ++ rest ≡ front ++ (line ++ 10 ∷ rest)
parts_append front line rest all is =
    ap (λ t. t ++ rest) is ∙ append_assoc front (line ++ 10 ∷ []) rest ∙ ap (λ t. front ++ t) (append_assoc line (10 ∷ []) rest)

-- the lines of a whole reply
pub lines_in-text-append : (r : Response) (rest : List ℕ) → HasNames r → lines_in (text r ++ rest) ≡ data_lines r ++ closing_line r ∷ lines_in rest
lines_in-text-append r rest h =
    ap lines_in (parts_append (ended (data_lines r)) (closing_line r) rest (text r) (text_parts r))
    ∙ lines_in-ended (data_lines r) (closing_line r ++ 10 ∷ rest) (whole_data r h)
    ∙ ap (λ ls. data_lines r ++ ls) (lines_in-line (closing_line r) rest (whole_closing r))

-- a whole reply has one closing line
pub closings-text-append : (r : Response) (rest : List ℕ) → HasNames r → closings (text r ++ rest) ≡ suc (closings rest)
closings-text-append r rest h =
    ap (count_by is_closing) (lines_in-text-append r rest h) ∙ count-append is_closing (data_lines r) (closing_line r ∷ lines_in rest)
    ∙ omega (arith, count_none is_closing (data_lines r) (data_lines_open r), count_one is_closing (closing_line r) (lines_in rest) (is_closing-closing_line r))

part_of : (whole part rest : List ℕ) → whole ++ 10 ∷ [] ≡ part ++ rest → 0 < length rest → whole ≡ part ++ drop (length part) whole
part_of whole part rest e some =
    let short : length part ≤ length whole = omega (arith, ap length e, length-append whole (10 ∷ []), length-append part rest) in
    sym (take-append-drop (length part) whole)
    ∙ ap (λ t. t ++ drop (length part) whole)
    (sym (take-append-le (length part) whole (10 ∷ []) short) ∙ ap (take (length part)) e ∙ take_at part rest (length part) refl)

-- a part of a reply has none
pub closings-part : (r : Response) (part rest : List ℕ) → HasNames r → text r ≡ part ++ rest → 0 < length rest → closings part ≡ 0
closings-part r part rest h e some =
    let whole = ended (data_lines r) ++ closing_line r in
    let is = part_of whole part rest (sym (text_end r) ∙ e) some in
    let front = lines_in-front part (drop (length part) whole) in
    let found : lines_in whole ≡ data_lines r ++ [] = lines_in-ended (data_lines r) (closing_line r) (whole_data r h)
    ∙ ap (λ ls. data_lines r ++ ls) (lines_in-whole (closing_line r) (whole_closing r)) in
    let same : data_lines r ++ [] ≡ lines_in part ++ front.0 = sym found ∙ ap lines_in is ∙ front.1 in
    omega (arith, ap (count_by is_closing) same, count-append is_closing (data_lines r) [], count-append is_closing (lines_in part) front.0, count_none is_closing (data_lines r) (data_lines_open r))
