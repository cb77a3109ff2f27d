-- The first fault of a text, and what a text without faults is.
use Rattle.std.proofs.Common.{◌≡◌, ℕ, suc, ◌<◌, ◌≤◌, Bool, true, false, cond, T, List, [], ◌∷◌, length, Some, None, Option, sym, refl, ap, ◌∙◌, subst, arith}
use Rattle.std.specs.Prelude.{◌||◌, ◌&&◌, not, nat_lt, nat_le, nat_eq, is_some}
use Rattle.std.specs.List.{list_any, list_all}
use Rattle.std.proofs.lemmas.List.Sums.{AllPass-from_list_all}
use Rattle.std.proofs.lemmas.Bool.Decides.{nat_tests}
use Rattle.tree_spec.specs.Names.{is_name, is_name_byte, is_dots, longest_name, longest_text, names_of, BeginsAtSlash, IsNameList, text_of, parts, begin}
use Rattle.tree_spec.proofs.Texts.{with_slashes-names_of, text_of-some}
use Rattle.ice_path.proofs.Texts.{has_name}
use Rattle.ice_path.specs.declared.read.PathFault.{PathFault}
use Rattle.ice_path.specs.declared.read.PathFault.TheVariants.{Slash, Empty, Byte, Dot, NameLong, PathLong}
use Rattle.ice_path.specs.Paths.{begins_elsewhere, is_slash, is_path_byte, is_empty_name, is_long_name, path_fault}

-- the first fault by what each test says, where the text begins with a slash
abbrev pub by_tests : Bool → Bool → Bool → Bool → Bool → Option PathFault
by_tests empty bytes dots long text =
    cond empty (Some Empty) (cond (not bytes) (Some Byte) (cond dots (Some Dot) (cond long (Some NameLong) (cond text (Some PathLong) None))))

abbrev after_slash : Bool → Bool → List ℕ → Option PathFault
after_slash slash alone text =
    let names = cond alone [] (names_of text) in
    cond slash (Some Slash)
    (by_tests (list_any is_empty_name names) (list_all is_path_byte text) (list_any is_dots names) (list_any is_long_name names)
    (nat_lt longest_text (length text)))

pub fault_by_tests : (text : List ℕ) (empty bytes dots long : Bool) → begins_elsewhere text ≡ false → is_slash text ≡ false
    → empty ≡ list_any is_empty_name (names_of text) → bytes ≡ list_all is_path_byte text → dots ≡ list_any is_dots (names_of text)
    → long ≡ list_any is_long_name (names_of text)
    → path_fault text ≡ by_tests empty bytes dots long (nat_lt longest_text (length text))
unfolding path_fault
fault_by_tests text empty bytes dots long slash alone e b d l =
    (λ i. after_slash (slash i) (alone i) text) ∙ sym (λ i. by_tests (e i) (b i) (d i) (l i) (nat_lt longest_text (length text)))

-- the six outcomes
pub one : (e b d l t : Bool) → e ≡ true → by_tests e b d l t ≡ Some Empty
one e b d l t h = ap (λ x. by_tests x b d l t) h

pub two : (e b d l t : Bool) → e ≡ false → b ≡ false → by_tests e b d l t ≡ Some Byte
two e b d l t h i = λ z. by_tests (h z) (i z) d l t

pub three : (e b d l t : Bool) → e ≡ false → b ≡ true → d ≡ true → by_tests e b d l t ≡ Some Dot
three e b d l t h i j = λ z. by_tests (h z) (i z) (j z) l t

pub four : (e b d l t : Bool) → e ≡ false → b ≡ true → d ≡ false → l ≡ true → by_tests e b d l t ≡ Some NameLong
four e b d l t h i j k = λ z. by_tests (h z) (i z) (j z) (k z) t

pub five : (e b d l : Bool) (n m : ℕ) → e ≡ false → b ≡ true → d ≡ false → l ≡ false → n < m → by_tests e b d l (nat_lt n m) ≡ Some PathLong
five e b d l n m h i j k lt = let t : nat_lt n m ≡ true = grind (arith, nat_tests) in λ z. by_tests (h z) (i z) (j z) (k z) (t z)

pub six : (e b d l : Bool) (n m : ℕ) → e ≡ false → b ≡ true → d ≡ false → l ≡ false → m ≤ n → by_tests e b d l (nat_lt n m) ≡ None
six e b d l n m h i j k le = let t : nat_lt n m ≡ false = grind (arith, nat_tests) in λ z. by_tests (h z) (i z) (j z) (k z) (t z)

pub begins : (text : List ℕ) → begins_elsewhere text ≡ false → BeginsAtSlash text
unfolding BeginsAtSlash
begins [] h = refl
begins (b ∷ text) h = ap (λ x. (begin x b (parts text)).0) (is (nat_eq b 47) h)
  where
    is : (x : Bool) → not x ≡ false → x ≡ true
    is true h = refl
    is false h = absurd (subst T h tt)

-- ---- a text without a fault

is_name_by_tests : (c : List ℕ) → is_empty_name c ≡ false → is_long_name c ≡ false → list_all is_name_byte c ≡ true → is_dots c ≡ false → is_name c ≡ true
unfolding is_name
is_name_by_tests c e l b d =
    join (nat_lt 0 (length c)) (nat_le (length c) longest_name) (list_all is_name_byte c) (is_dots c) (some c e) (short (length c) longest_name l) b d
  where
    join : (a b c d : Bool) → a ≡ true → b ≡ true → c ≡ true → d ≡ false → (a && (b && (c && not d))) ≡ true
    join a b c d h i j k = λ z. h z && (i z && (j z && not (k z)))

    some : (c : List ℕ) → is_empty_name c ≡ false → nat_lt 0 (length c) ≡ true
    some [] e = absurd (subst T e tt)
    some (x ∷ c) e = more (length c)
      where
        more : (n : ℕ) → nat_lt 0 (suc n) ≡ true
        more n = grind (arith, nat_tests)

    short : (n m : ℕ) → nat_lt m n ≡ false → nat_le n m ≡ true
    short n m h = grind (arith, nat_tests)

first_or : (a b : Bool) → (a || b) ≡ false → a ≡ false
first_or true b h = absurd (subst T h tt)
first_or false b h = refl

second_or : (a b : Bool) → (a || b) ≡ false → b ≡ false
second_or true b h = absurd (subst T h tt)
second_or false b h = h

first_and : (a b : Bool) → (a && b) ≡ true → a ≡ true
first_and true b h = refl
first_and false b h = absurd (subst T (sym h) tt)

second_and : (a b : Bool) → (a && b) ≡ true → b ≡ true
second_and true b h = h
second_and false b h = absurd (subst T (sym h) tt)

all_names : (names : List (List ℕ)) → list_any is_empty_name names ≡ false → list_any is_long_name names ≡ false
    → list_all (list_all is_name_byte) names ≡ true → list_any is_dots names ≡ false → list_all is_name names ≡ true
all_names [] e l b d = refl
all_names (c ∷ names) e l b d =
    let here = is_name_by_tests c (first_or _ _ e) (first_or _ _ l) (first_and _ _ b) (first_or _ _ d) in
    let rest = all_names names (second_or _ _ e) (second_or _ _ l) (second_and _ _ b) (second_or _ _ d) in
    λ z. here z && rest z

-- the bytes of the parts of a text
record PartsHave (p : List ℕ × List (List ℕ)) : Type 0 where
  front : list_all is_name_byte p.0 ≡ true
  names : list_all (list_all is_name_byte) p.1 ≡ true

parts_have : (text : List ℕ) → list_all is_path_byte text ≡ true → PartsHave (parts text)
parts_have [] h = record { front = refl; names = refl }
parts_have (b ∷ text) h = on (nat_eq b 47) refl (parts_have text (second_and (is_path_byte b) (list_all is_path_byte text) h))
  where
    byte : (lo hi slash : Bool) → (lo && hi) ≡ true → slash ≡ false → (lo && (hi && not slash)) ≡ true
    byte true true slash h k = λ z. not (k z)
    byte true false slash h k = h
    byte false hi slash h k = h

    on : (x : Bool) → nat_eq b 47 ≡ x → PartsHave (parts text) → PartsHave (begin x b (parts text))
    on true e p = record { front = refl; names = λ z. p.front z && p.names z }
    on false e p =
        record { front = λ z. byte (nat_le 33 b) (nat_le b 126) (nat_eq b 47) (first_and (is_path_byte b) (list_all is_path_byte text) h) e z && p.front z; names = p.names }

byte_names : (text : List ℕ) → list_all is_path_byte text ≡ true → list_all (list_all is_name_byte) (names_of text) ≡ true
unfolding names_of
byte_names text h = (parts_have text h).names

-- what each test says where there is no fault
pub record NoFault (e b d l t : Bool) : Type 0 where
  pub empty : e ≡ false
  pub bytes : b ≡ true
  pub dots : d ≡ false
  pub long : l ≡ false
  pub text : t ≡ false

no_fault : (empty bytes dots long text : Bool) → by_tests empty bytes dots long text ≡ None → NoFault empty bytes dots long text
no_fault true b d l t h = absurd (subst T (ap is_some h) tt)
no_fault false false d l t h = absurd (subst T (ap is_some h) tt)
no_fault false true true l t h = absurd (subst T (ap is_some h) tt)
no_fault false true false true t h = absurd (subst T (ap is_some h) tt)
no_fault false true false false true h = absurd (subst T (ap is_some h) tt)
no_fault false true false false false h = record { empty = refl; bytes = refl; dots = refl; long = refl; text = refl }

module _ (text : List ℕ) (slash : begins_elsewhere text ≡ false) (alone : is_slash text ≡ false) (none : path_fault text ≡ None) where
  tests : NoFault (list_any is_empty_name (names_of text)) (list_all is_path_byte text) (list_any is_dots (names_of text)) (list_any is_long_name (names_of text)) (nat_lt longest_text (length text))
  tests = no_fault _ _ _ _ _ (sym (fault_by_tests text _ _ _ _ slash alone refl refl refl refl) ∙ none)

  -- each of the names is a name
  pub IsNameList-text : IsNameList (names_of text)
  IsNameList-text = AllPass-from_list_all is_name (names_of text) (all_names (names_of text) tests.empty tests.long (byte_names text tests.bytes) tests.dots)

  pub text-short : length text ≤ longest_text
  text-short = few _ _ tests.text
    where
      few : (a b : ℕ) → nat_lt a b ≡ false → b ≤ a
      few a b h = grind (arith, nat_tests)

-- the text of the names is the text
pub text_of-names_of : (text : List ℕ) → begins_elsewhere text ≡ false → text_of (names_of text) ≡ text
text_of-names_of [] slash = absurd (subst T slash tt)
text_of-names_of (b ∷ text) slash =
    text_of-some (names_of (b ∷ text)) (has_name (b ∷ text) (begins (b ∷ text) slash) (omega arith))
    ∙ with_slashes-names_of (b ∷ text) (begins (b ∷ text) slash)

-- ---- the first byte

pub first_elsewhere : (text : List ℕ) → begins_elsewhere text ≡ true → path_fault text ≡ Some Slash
unfolding path_fault
first_elsewhere text h = ap (λ x. after_slash x (is_slash text) text) h

is_alone : (text : List ℕ) → is_slash text ≡ true → text ≡ 47 ∷ []
is_alone [] h = absurd (subst T (sym h) tt)
is_alone (b ∷ []) h = ap (λ x. x ∷ []) (same b h)
  where
    same : (b : ℕ) → nat_eq b 47 ≡ true → b ≡ 47
    same b h = grind (arith, nat_tests)
is_alone (b ∷ c ∷ text) h = absurd (subst T (sym h) tt)

pub slash-no_fault : (text : List ℕ) → is_slash text ≡ true → path_fault text ≡ None
unfolding path_fault
slash-no_fault text h = ap path_fault (is_alone text h)
