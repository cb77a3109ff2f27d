-- Texts cut name by name.
use Rattle.std.proofs.Common.{◌≡◌, ℕ, suc, ◌+◌, ◌-◌, ◌<◌, ◌≤◌, Bool, true, false, cond, List, [], ◌∷◌, ◌++◌, length, drop, get_or, sym, refl, ap, ◌∙◌, subst, arith, length-append, append_assoc}
use Rattle.std.specs.Prelude.{◌||◌, nat_le}
use Rattle.std.proofs.Math.Seq.{get_or-append_right}
use Rattle.std.proofs.lemmas.List.{append-nil}
use Rattle.std.specs.List.{list_any}
use Rattle.std.specs.Bool.{◌==◌}
use Rattle.std.proofs.lemmas.Bool.Decides.{nat_tests}
use Rattle.tree_spec.specs.Names.{is_name, longest_text, names_of, text_of, BeginsAtSlash, IsNameList, with_slashes}
use Rattle.tree_spec.proofs.Texts.{with_slashes-names_of, first_name, text_of-some}

pub some_left : (r : Bool) (n : ℕ) → r ≡ (n == 0) → r ≡ false → 0 < n
some_left r n e h = grind (arith, nat_tests)

pub none_left : (r : Bool) (n : ℕ) → r ≡ (n == 0) → r ≡ true → n ≡ 0
none_left r n e h = grind (arith, nat_tests)

-- a text that isn't empty has a name
pub has_name : (text : List ℕ) → BeginsAtSlash text → 0 < length text → 0 < length (names_of text)
has_name text begins h = omega (arith, ap length (first_name text (drop 1 text) refl begins (omega arith)))

-- what is behind the first name is shorter by the name and its slash
pub behind_shorter : (text name behind : List ℕ) → BeginsAtSlash text → BeginsAtSlash behind → names_of text ≡ name ∷ names_of behind
    → length text ≡ suc (length name + length behind)
behind_shorter text name behind begins later is =
    omega (arith, ap length (with_slashes-names_of text begins), ap (λ n. length (with_slashes n)) is, length-append name (with_slashes (names_of behind)), ap length (with_slashes-names_of behind later))

-- and at the end
pub any_end : (test : List ℕ → Bool) (all : List (List ℕ)) (rest : List ℕ) (seen : Bool) → length rest ≡ 0
    → list_any test all ≡ (seen || list_any test (names_of rest)) → seen ≡ list_any test all
unfolding names_of
any_end test all [] seen z h = sym (h ∙ none seen)
  where
    none : (a : Bool) → (a || false) ≡ a
    none true = refl
    none false = refl
any_end test all (b ∷ rest) seen z h = absurd (omega arith)

-- ---- a path that gets the names of a text one by one

-- what is left of the text has a name less
pub names_step : (path rest all : List (List ℕ)) (name : List ℕ) (others : List (List ℕ)) → rest ≡ name ∷ others → path ++ rest ≡ all
    → (path ++ name ∷ []) ++ others ≡ all
names_step path rest all name others is h = append_assoc path (name ∷ []) others ∙ ap (λ x. path ++ x) (sym is) ∙ h

pub names_end : (path all : List (List ℕ)) (rest : List ℕ) → length rest ≡ 0 → path ++ names_of rest ≡ all → path ≡ all
unfolding names_of
names_end path all [] z h = sym (append-nil path) ∙ h
names_end path all (b ∷ rest) z h = absurd (omega arith)

-- each name of the text is a name
pub name_of_text : (path rest all : List (List ℕ)) (name : List ℕ) (others : List (List ℕ)) → rest ≡ name ∷ others → path ++ rest ≡ all
    → IsNameList all → is_name name ≡ true
name_of_text path rest all name others is h names =
    let at : get_or all (length path) [] ≡ name =
    ap (λ x. get_or x (length path) []) (sym h ∙ ap (λ x. path ++ x) is)
    ∙ get_or-append_right path (name ∷ others) (length path) [] (omega arith) ∙ ap (λ k. get_or (name ∷ others) k []) (nothing (length path)) in
    subst (λ x. is_name x ≡ true) at (names (length path) [] (omega (arith, ap length h, ap length is, length-append path rest)))
  where
    nothing : (n : ℕ) → n - n ≡ 0
    nothing n = omega arith

length-with_slashes-append : (p q : List (List ℕ)) → length (with_slashes (p ++ q)) ≡ length (with_slashes p) + length (with_slashes q)
length-with_slashes-append [] q = omega arith
length-with_slashes-append (c ∷ p) q = omega (arith, length-with_slashes-append p q, length-append c (with_slashes p), length-append c (with_slashes (p ++ q)))

-- and it fits behind those before it
pub name_fits : (path : List (List ℕ)) (rest text name : List ℕ) (others : List (List ℕ)) → names_of rest ≡ name ∷ others
    → path ++ names_of rest ≡ names_of text → BeginsAtSlash text → length text ≤ longest_text
    → nat_le (length (text_of (path ++ name ∷ []))) longest_text ≡ true
name_fits path rest text name others is h begins short =
    let all : (path ++ name ∷ []) ++ others ≡ names_of text = names_step path (names_of rest) (names_of text) name others is h in
    let long : length (text_of (path ++ name ∷ [])) ≡ length (with_slashes (path ++ name ∷ [])) =
    ap length (text_of-some (path ++ name ∷ []) (omega (arith, length-append path (name ∷ [])))) in
    yes _ _
    (omega (arith, long, ap (λ x. length (with_slashes x)) all, ap length (with_slashes-names_of text begins), length-with_slashes-append (path ++ name ∷ []) others))
  where
    yes : (a b : ℕ) → a ≤ b → nat_le a b ≡ true
    yes a b h = grind (arith, nat_tests)

-- what a path is after one name more
pub names_pushed : (path new : List (List ℕ)) (fits : Bool) (name : List ℕ) → new ≡ cond fits (path ++ name ∷ []) path → fits ≡ true → new ≡ path ++ name ∷ []
names_pushed path new fits name e h = e ∙ ap (λ b. cond b (path ++ name ∷ []) path) h
