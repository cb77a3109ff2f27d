-- The text of a path is a path's, and tells it.
use Rattle.std.proofs.Common.{◌≡◌, ℕ, suc, ◌≤◌, Bool, true, false, cond, T, List, [], ◌∷◌, ◌++◌, length, Some, None, sym, refl, ap, ◌∙◌, subst, arith}
use Rattle.std.specs.Prelude.{◌||◌, ◌&&◌, not, nat_lt, nat_le, nat_eq}
use Rattle.std.specs.List.{list_any, list_all}
use Rattle.std.proofs.lemmas.List.{append-nil}
use Rattle.std.proofs.lemmas.Bool.Decides.{nat_tests}
use Rattle.tree_spec.specs.Names.{is_name, is_name_byte, is_dots, longest_name, longest_text, names_of, IsNameList, with_slashes, text_of, parts, begin}
use Rattle.tree_spec.proofs.Texts.{bytes_of_name}
use Rattle.ice_path.specs.declared.read.PathFault.TheVariants.{Slash, Empty, Byte, Dot, NameLong, PathLong}
use Rattle.ice_path.specs.Paths.{begins_elsewhere, is_slash, path_names, is_path_byte, is_empty_name, is_long_name, path_fault}

first : (a b : Bool) → (a && b) ≡ true → a ≡ true
first true b h = refl
first false b h = absurd (subst T (sym h) tt)

second : (a b : Bool) → (a && b) ≡ true → b ≡ true
second true b h = h
second false b h = absurd (subst T (sym h) tt)

not_true : (b : Bool) → not b ≡ true → b ≡ false
not_true true h = absurd (subst T (sym h) tt)
not_true false h = refl

name_first : (c : List ℕ) (p : List (List ℕ)) → IsNameList (c ∷ p) → is_name c ≡ true
name_first c p h = h 0 [] (omega arith)

name_rest : (c : List ℕ) (p : List (List ℕ)) → IsNameList (c ∷ p) → IsNameList p
name_rest c p h = λ k d l. h (suc k) d (omega arith)

-- ---- the names of the text

no_slash : (b : ℕ) → is_name_byte b ≡ true → nat_eq b 47 ≡ false
no_slash b h = not_true (nat_eq b 47) (second (nat_le b 126) _ (second (nat_le 33 b) _ h))

parts_name : (c t : List ℕ) → list_all is_name_byte c ≡ true → parts (c ++ t) ≡ (c ++ (parts t).0, (parts t).1)
parts_name [] t h = refl
parts_name (b ∷ c) t h = ap (λ x. begin x b (parts (c ++ t))) (no_slash b (first (is_name_byte b) _ h))
    ∙ ap (begin false b) (parts_name c t (second (is_name_byte b) _ h))

parts_slashes : (p : List (List ℕ)) → IsNameList p → parts (with_slashes p) ≡ ([], p)
parts_slashes [] h = refl
parts_slashes (c ∷ p) h =
    let rest = parts_slashes p (name_rest c p h) in
    ap (begin true 47) (parts_name c (with_slashes p) (bytes_of_name c (name_first c p h))
    ∙ ap (λ (x : List ℕ × List (List ℕ)). (c ++ x.0, x.1)) rest)
    ∙ ap (λ (x : List ℕ). ([], x ∷ p)) (append-nil c)

names_slashes : (p : List (List ℕ)) → IsNameList p → names_of (with_slashes p) ≡ p
unfolding names_of
names_slashes p h = ap (λ (x : List ℕ × List (List ℕ)). x.1) (parts_slashes p h)

no_name : is_name [] ≡ true → ⊥
unfolding is_name
no_name h = subst T (sym h) tt

not_alone : (c t : List ℕ) → is_name c ≡ true → is_slash (47 ∷ (c ++ t)) ≡ false
not_alone [] t h = absurd (no_name h)
not_alone (b ∷ c) t h = refl

-- the names of the text of a path are its names
pub text_names : (p : List (List ℕ)) → IsNameList p → path_names (text_of p) ≡ p
text_names [] h = refl
text_names (c ∷ p) h =
    ap (λ x. cond x [] (names_of (with_slashes (c ∷ p)))) (not_alone c (with_slashes p) (name_first c p h)) ∙ names_slashes (c ∷ p) h

-- paths of one text are the same
pub text_same : (p q : List (List ℕ)) → IsNameList p → IsNameList q → text_of p ≡ text_of q → p ≡ q
text_same p q h k e = sym (text_names p h) ∙ ap path_names e ∙ text_names q k

-- ---- it has no fault

-- what each test says of a name
record NameTests (c : List ℕ) : Type 0 where
  empty : is_empty_name c ≡ false
  long : is_long_name c ≡ false
  dots : is_dots c ≡ false

name_tests : (c : List ℕ) → is_name c ≡ true → NameTests c
unfolding is_name
name_tests c h =
    let a = second (nat_lt 0 (length c)) _ h in
    let b = second (nat_le (length c) longest_name) _ a in
    record {
      empty = some c (first (nat_lt 0 (length c)) _ h);
      long = short (length c) longest_name (first (nat_le (length c) longest_name) _ a);
      dots = not_true (is_dots c) (second (list_all is_name_byte c) _ b);
    }
  where
    some : (c : List ℕ) → nat_lt 0 (length c) ≡ true → is_empty_name c ≡ false
    some [] h = absurd (subst T (sym h) tt)
    some (b ∷ c) h = refl

    short : (n m : ℕ) → nat_le n m ≡ true → nat_lt m n ≡ false
    short n m h = grind (arith, nat_tests)

no_such : (test : List ℕ → Bool) (p : List (List ℕ)) → ((c : List ℕ) → is_name c ≡ true → test c ≡ false) → IsNameList p → list_any test p ≡ false
no_such test [] not_one h = refl
no_such test (c ∷ p) not_one h =
    let here = not_one c (name_first c p h) in
    let rest = no_such test p not_one (name_rest c p h) in
    λ z. here z || rest z

path_byte : (b : ℕ) → is_name_byte b ≡ true → is_path_byte b ≡ true
path_byte b h =
    let low = first (nat_le 33 b) _ h in
    let high = first (nat_le b 126) _ (second (nat_le 33 b) _ h) in
    λ z. low z && high z

name_bytes : (c t : List ℕ) → list_all is_name_byte c ≡ true → list_all is_path_byte t ≡ true → list_all is_path_byte (c ++ t) ≡ true
name_bytes [] t h k = k
name_bytes (b ∷ c) t h k =
    let here = path_byte b (first (is_name_byte b) _ h) in
    let rest = name_bytes c t (second (is_name_byte b) _ h) k in
    λ z. here z && rest z

slash_bytes : (p : List (List ℕ)) → IsNameList p → list_all is_path_byte (with_slashes p) ≡ true
slash_bytes [] h = refl
slash_bytes (c ∷ p) h = name_bytes c (with_slashes p) (bytes_of_name c (name_first c p h)) (slash_bytes p (name_rest c p h))

text_bytes : (p : List (List ℕ)) → IsNameList p → list_all is_path_byte (text_of p) ≡ true
text_bytes [] h = refl
text_bytes (c ∷ p) h = slash_bytes (c ∷ p) h

at_slash : (p : List (List ℕ)) → begins_elsewhere (text_of p) ≡ false
at_slash [] = refl
at_slash (c ∷ p) = refl

not_long : (n m : ℕ) → n ≤ m → nat_lt m n ≡ false
not_long n m h = grind (arith, nat_tests)

-- the text of a path has no fault
pub text_proper : (p : List (List ℕ)) → IsNameList p → length (text_of p) ≤ longest_text → path_fault (text_of p) ≡ None
unfolding path_fault
text_proper p h few =
    let a = at_slash p in
    let n = text_names p h in
    let b = ap (list_any is_empty_name) n ∙ no_such is_empty_name p (λ c e. (name_tests c e).empty) h in
    let d = ap not (text_bytes p h) in
    let e = ap (list_any is_dots) n ∙ no_such is_dots p (λ c e. (name_tests c e).dots) h in
    let f = ap (list_any is_long_name) n ∙ no_such is_long_name p (λ c e. (name_tests c e).long) h in
    let g = not_long (length (text_of p)) longest_text few in
    λ z. cond (a z) (Some Slash) (cond (b z) (Some Empty)
    (cond (d z) (Some Byte) (cond (e z) (Some Dot) (cond (f z) (Some NameLong) (cond (g z) (Some PathLong) None)))))
