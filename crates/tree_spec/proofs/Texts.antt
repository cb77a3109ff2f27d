-- The names of a text that gets one more name.
use Rattle.std.proofs.Common.{◌≡◌, ℕ, suc, ◌+◌, ◌<◌, ◌≤◌, Bool, true, false, T, List, [], ◌∷◌, ◌++◌, length, get_or, take, drop, sym, refl, ap, ◌∙◌, subst, arith, append_assoc, drop-cons, ◌≢◌, zero, lit≤}
use Rattle.std.specs.Prelude.{not, ◌&&◌, nat_eq, nat_le, nat_lt}
use Rattle.std.specs.List.{list_all}
use Rattle.std.proofs.Math.Seq.{drop-length}
use Rattle.std.proofs.lemmas.List.{length-take, length-drop, length-append}
use Rattle.std.proofs.lemmas.Bool.Decides.{nat_tests}
use Rattle.tree_spec.specs.Names.{is_name, is_name_byte, longest_name, begin, parts, names_of, BeginsAtSlash, with_slashes, text_of, longest_text}

first : (a b : Bool) → (a && b) ≡ true → a ≡ true
first true b h = refl
first false b h = absurd (subst T (sym h) tt)

second : (a b : Bool) → (a && b) ≡ true → b ≡ true
second true b h = h
second false b h = absurd (subst T (sym h) tt)

not_true : (b : Bool) → not b ≡ true → b ≡ false
not_true true h = absurd (subst T (sym h) tt)
not_true false h = refl

no_slash : (b : ℕ) → is_name_byte b ≡ true → nat_eq b 47 ≡ false
no_slash b h = not_true (nat_eq b 47) (second (nat_le b 126) _ (second (nat_le 33 b) _ h))

-- each byte of a name is one that a name can have
pub bytes_of_name : (c : List ℕ) → is_name c ≡ true → list_all is_name_byte c ≡ true
unfolding is_name
bytes_of_name c h = first (list_all is_name_byte c) _ (second (nat_le (length c) longest_name) _ (second (nat_lt 0 (length c)) _ h))

abbrev Parts : Type 0
Parts = List ℕ × List (List ℕ)

abbrev with_name : Parts → List ℕ → Parts
with_name p c = (p.0, p.1 ++ c ∷ [])

begin-with_name : (x : Bool) (b : ℕ) (p : Parts) (c : List ℕ) → begin x b (with_name p c) ≡ with_name (begin x b p) c
begin-with_name true b p c = refl
begin-with_name false b p c = refl

parts_name : (c : List ℕ) → list_all is_name_byte c ≡ true → parts c ≡ (c, [])
parts_name [] h = refl
parts_name (b ∷ c) h = ap (λ x. begin x b (parts c)) (no_slash b (first (is_name_byte b) _ h)) ∙ ap (begin false b) (parts_name c (second (is_name_byte b) _ h))

pub parts-more : (text c : List ℕ) → list_all is_name_byte c ≡ true → parts (text ++ 47 ∷ c) ≡ with_name (parts text) c
parts-more [] c h = ap (begin true 47) (parts_name c h)
parts-more (b ∷ text) c h = ap (begin (nat_eq b 47) b) (parts-more text c h) ∙ begin-with_name (nat_eq b 47) b (parts text) c

pub names_of-more : (text c : List ℕ) → is_name c ≡ true → names_of (text ++ 47 ∷ c) ≡ names_of text ++ c ∷ []
unfolding names_of
names_of-more text c h = ap (λ p. p.1) (parts-more text c (bytes_of_name c h))

pub BeginsAtSlash-more : (text c : List ℕ) → is_name c ≡ true → BeginsAtSlash text → BeginsAtSlash (text ++ 47 ∷ c)
unfolding BeginsAtSlash
BeginsAtSlash-more text c h begins = ap (λ p. p.0) (parts-more text c (bytes_of_name c h)) ∙ begins

slash : (b : ℕ) → nat_eq b 47 ≡ true → 47 ≡ b
slash b h = grind (arith, nat_tests)

begin_joined : (x : Bool) (b : ℕ) (p : Parts) → nat_eq b 47 ≡ x → (begin x b p).0 ++ with_slashes (begin x b p).1 ≡ b ∷ (p.0 ++ with_slashes p.1)
begin_joined true b p h = ap (λ y. y ∷ (p.0 ++ with_slashes p.1)) (slash b h)
begin_joined false b p h = refl

-- the parts of a text, put together again
parts_joined : (text : List ℕ) → (parts text).0 ++ with_slashes (parts text).1 ≡ text
parts_joined [] = refl
parts_joined (b ∷ text) = begin_joined (nat_eq b 47) b (parts text) refl ∙ ap (λ y. b ∷ y) (parts_joined text)

-- a text that begins at a slash is that of its names
pub with_slashes-names_of : (text : List ℕ) → BeginsAtSlash text → with_slashes (names_of text) ≡ text
unfolding BeginsAtSlash names_of
with_slashes-names_of text begins = ap (λ y. y ++ with_slashes (parts text).1) (sym begins) ∙ parts_joined text

-- each name takes a byte at least
pub length-le-with_slashes : (names : List (List ℕ)) → length names ≤ length (with_slashes names)
length-le-with_slashes [] = omega arith
length-le-with_slashes (c ∷ names) = omega (arith, length-le-with_slashes names, length-append c (with_slashes names))

pub length-with_slashes-more : (names : List (List ℕ)) (c : List ℕ) → length (with_slashes (names ++ c ∷ [])) ≡ length (with_slashes names) + (length c + 1)
length-with_slashes-more [] c = omega (arith, length-append c [])
length-with_slashes-more (d ∷ names) c =
    omega (arith, length-with_slashes-more names c, length-append d (with_slashes names), length-append d (with_slashes (names ++ c ∷ [])))

text_of-more : (names : List (List ℕ)) (c : List ℕ) → text_of (names ++ c ∷ []) ≡ with_slashes (names ++ c ∷ [])
text_of-more [] c = refl
text_of-more (d ∷ names) c = refl

length-text_of-more : (names : List (List ℕ)) (c : List ℕ) → length (text_of (names ++ c ∷ [])) ≡ length (with_slashes names) + (length c + 1)
length-text_of-more names c = ap length (text_of-more names c) ∙ length-with_slashes-more names c

-- the text of a path that has names
pub text_of-some : (names : List (List ℕ)) → 0 < length names → text_of names ≡ with_slashes names
text_of-some [] h = absurd (omega arith)
text_of-some (c ∷ names) h = refl

pub text_grows : (new middle old bytes name : List ℕ) → new ≡ middle ++ bytes → middle ≡ old ++ 47 ∷ [] → bytes ≡ name → new ≡ old ++ 47 ∷ name
text_grows new middle old bytes name a b e = a ∙ ap (λ x. x ++ bytes) b ∙ append_assoc old (47 ∷ []) bytes ∙ ap (λ x. old ++ 47 ∷ x) e

pub too_long : (names : List (List ℕ)) (c : List ℕ) (len : ℕ) → length (with_slashes names) ≡ len → longest_text < len + (length c + 1)
    → false ≡ nat_le (length (text_of (names ++ c ∷ []))) longest_text
too_long names c len e h = rw (length-text_of-more names c) (grind (arith, nat_tests))

pub fits : (names : List (List ℕ)) (c : List ℕ) (len : ℕ) → length (with_slashes names) ≡ len → len + (length c + 1) ≤ longest_text
    → true ≡ nat_le (length (text_of (names ++ c ∷ []))) longest_text
fits names c len e h = rw (length-text_of-more names c) (grind (arith, nat_tests))

-- the length of the text is that of its names
pub length-with_slashes : (names : List (List ℕ)) (text : List ℕ) (len : ℕ) → names_of (take len text) ≡ names
    → BeginsAtSlash (take len text) → len ≤ length text → length (with_slashes names) ≡ len
length-with_slashes names text len is begins h =
    ap (λ x. length (with_slashes x)) (sym is) ∙ ap length (with_slashes-names_of (take len text) begins) ∙ omega (arith, length-take len text)

-- no slash stands before the place
pub record IsSplitAt (text : List ℕ) (i : ℕ) : Type 0 where
  pub front : (parts text).0 ≡ take i text ++ (parts (drop i text)).0
  pub names : (parts text).1 ≡ (parts (drop i text)).1

pub split_none : (text : List ℕ) → IsSplitAt text 0
split_none text = record { front = refl; names = refl }

at_place : (text : List ℕ) (i : ℕ) → i < length text → drop i text ≡ get_or text i 0 ∷ drop (i + 1) text
at_place text i h = drop-cons text i 0 h ∙ ap (λ x. get_or text i 0 ∷ drop x text) (suc_is i)
  where
    suc_is : (i : ℕ) → suc i ≡ i + 1
    suc_is i = omega arith

no : (b : ℕ) → b ≢ 47 → nat_eq b 47 ≡ false
no b h = grind (arith, nat_tests)

yes : (b : ℕ) → b ≡ 47 → nat_eq b 47 ≡ true
yes b h = grind (arith, nat_tests)

not_here : (text : List ℕ) (i : ℕ) → i < length text → get_or text i 0 ≢ 47 → parts (drop i text) ≡ begin false (get_or text i 0) (parts (drop (i + 1) text))
not_here text i h ne = ap parts (at_place text i h) ∙ ap (λ x. begin x (get_or text i 0) (parts (drop (i + 1) text))) (no (get_or text i 0) ne)

here : (text : List ℕ) (i : ℕ) → i < length text → get_or text i 0 ≡ 47 → parts (drop i text) ≡ begin true (get_or text i 0) (parts (drop (i + 1) text))
here text i h e = ap parts (at_place text i h) ∙ ap (λ x. begin x (get_or text i 0) (parts (drop (i + 1) text))) (yes (get_or text i 0) e)

pub split_begins : (text : List ℕ) (i : ℕ) → i < length text → get_or text i 0 ≡ 47 → BeginsAtSlash (drop i text)
unfolding BeginsAtSlash
split_begins text i h e = ap (λ p. p.0) (here text i h e)

pub split_rest : (text : List ℕ) (i : ℕ) → IsSplitAt text i → names_of (drop i text) ≡ names_of text
unfolding names_of
split_rest text i s = sym s.names

pub split_end : (text : List ℕ) → BeginsAtSlash (drop (length text) text)
unfolding BeginsAtSlash
split_end text = ap (λ x. (parts x).0) (drop-length text)

pub has_byte : (text : List ℕ) → 0 < length (names_of text) → 1 ≤ length text
unfolding names_of
has_byte [] h = h
has_byte (b ∷ text) h = omega arith

slash_first : (x : Bool) (b : ℕ) (p : Parts) → (begin x b p).0 ≡ [] → (begin x b p).1 ≡ p.0 ∷ p.1
slash_first true b p e = refl
slash_first false b p e = absurd (omega (arith, ap length e))

-- a text that begins at a slash: its first name and the others
pub first_name : (text rest : List ℕ) → rest ≡ drop 1 text → BeginsAtSlash text → 1 ≤ length text → names_of text ≡ (parts rest).0 ∷ names_of rest
unfolding BeginsAtSlash names_of
first_name [] rest e b h = absurd (omega arith)
first_name (x ∷ text) rest e b h = slash_first (nat_eq x 47) x (parts text) b ∙ ap (λ t. (parts t).0 ∷ (parts t).1) (sym e)

pub next_left : (all left behind : List (List ℕ)) (name : List ℕ) (k : ℕ) → left ≡ name ∷ behind → left ≡ drop k all → behind ≡ drop (k + 1) all
next_left [] left behind name zero e is = absurd (omega (arith, ap length (sym e ∙ is)))
next_left [] left behind name (suc k) e is = absurd (omega (arith, ap length (sym e ∙ is)))
next_left (n ∷ all) left behind name zero e is = ap (λ x. drop 1 x) (sym e ∙ is)
next_left (n ∷ all) left behind name (suc k) e is = next_left all left behind name k e is ∙ ap (λ x. drop x (n ∷ all)) (suc_more k)
  where
    suc_more : (k : ℕ) → suc (k + 1) ≡ suc k + 1
    suc_more k = omega arith

pub has_left : (all left : List (List ℕ)) (k i : ℕ) → left ≡ drop k all → k ≤ i → i < length all → 0 < length left
has_left all left k i is le lt = omega (arith, ap length is, length-drop k all)

name_first : (all left behind : List (List ℕ)) (name d : List ℕ) (k : ℕ) → left ≡ name ∷ behind → left ≡ drop k all → name ≡ get_or all k d
name_first [] left behind name d zero e is = absurd (omega (arith, ap length (sym e ∙ is)))
name_first [] left behind name d (suc k) e is = absurd (omega (arith, ap length (sym e ∙ is)))
name_first (n ∷ all) left behind name d zero e is = ap (λ x. get_or x 0 d) (sym e ∙ is)
name_first (n ∷ all) left behind name d (suc k) e is = name_first all left behind name d k e is

pub name_at : (all left behind : List (List ℕ)) (name d : List ℕ) (k i : ℕ) → left ≡ name ∷ behind → left ≡ drop k all → k ≡ i → name ≡ get_or all i d
name_at all left behind name d k i e is same = name_first all left behind name d k e is ∙ ap (λ x. get_or all x d) same

pub name_short : (c : List ℕ) → is_name c ≡ true → length c ≤ 123
unfolding is_name
name_short c h =
    let short : nat_le (length c) longest_name ≡ true = first (nat_le (length c) longest_name) _ (second (nat_lt 0 (length c)) _ h) in
    grind (arith, nat_tests)

-- a path's text is not too long
pub short_text : (names : List (List ℕ)) (text : List ℕ) (len : ℕ) → names_of (take len text) ≡ names → BeginsAtSlash (take len text)
    → len ≤ longest_text → len ≤ length text → length (text_of names) ≤ longest_text
short_text [] text len is begins most within = lit≤ tt
short_text (c ∷ names) text len is begins most within = omega (arith, length-with_slashes (c ∷ names) text len is begins within)
