-- What the bytes of a row say, and what the rows of a table say together.
use Rattle.std.proofs.Common.{◌≡◌, ◌≢◌, ℕ, zero, suc, Bool, true, false, cond, ◌+◌, ◌-◌, ◌*◌, ◌/◌, ◌%◌, ◌<◌, ◌≤◌, List, length, take, drop, Option, Some, None, sym, refl, ap, ◌∙◌, subst, arith}
use Rattle.std.specs.Prelude.{slice_index, nat_lt, if◌then◌else◌}
use Rattle.std.proofs.lemmas.List.{get_or-take, get_or-drop, drop-drop, take-take, drop-take}
use Rattle.std.proofs.lemmas.Nat.{div-mul-add}
use Rattle.std.proofs.lemmas.Bool.Decides.{nat_tests}
use borrow.Author.Count.{below_more}
use Rattle.ice_path.specs.Paths.{path_names, path_fault}
use Rattle.ice_tables.specs.Tables.{Row, row_byte, mark_at, length_at, text_at, row_of, row_in, AreNames, IsCubeText}
use Rattle.ice_names.specs.Names.{NamesView, IsNameTable, IsCubePath, row_at, path_of, path_at}
use Rattle.ice_names.specs.Bytes.{IsRowBytes, IsReadTo, RowZeros, row_bytes, mark_byte, text_in, IsWhole}
use Rattle.ice_names.proofs.TextLaws.{text_names, text_proper}

-- ---- one row

abbrev cube_mark : Bool → ℕ
cube_mark b = cond b 2 1

cube_marked : (b : Bool) → cube_mark b ≡ 0 → ⊥
cube_marked true e = omega (arith, e)
cube_marked false e = omega (arith, e)

no_text : (row : Option Row) → mark_byte row ≡ 0 → length (text_in row) ≡ 0
no_text None e = refl
no_text (Some r) e = absurd (cube_marked r.offline e)

-- a row whose path, where it has one, is a cube's
abbrev pub HasCubePath : Option Row → Type 0
HasCubePath row = (p : List (List ℕ)) → path_of row ≡ Some p → IsCubePath p

text_few : (row : Option Row) → HasCubePath row → length (text_in row) ≤ 199
text_few None cube = omega arith
text_few (Some r) cube = (cube r.path refl).few

module _ (m : ℕ → List ℕ) (s : ℕ) (row : Option Row) (cube : HasCubePath row) (h : IsRowBytes row (row_bytes m s)) where
  byte : (k : ℕ) → k < 256 → row_byte m s k ≡ slice_index (row_bytes m s) k
  byte k less = sym (get_or-take 256 (drop (256 * (s % 4)) (m (11 + s / 4))) k 0 less ∙ get_or-drop (256 * (s % 4)) (m (11 + s / 4)) k 0)

  pub said_mark : mark_at m s ≡ mark_byte row
  said_mark = byte 0 (omega arith) ∙ h.mark

  pub said_length : length_at m s ≡ length (text_in row)
  said_length = byte 1 (omega arith) ∙ h.size

  pub said_text : text_at m s ≡ text_in row
  said_text = text_of_bytes (m (11 + s / 4)) (256 * (s % 4)) (length_at m s) (length (text_in row)) said_length (text_few row cube) ∙ h.text
    where
      text_of_bytes : (xs : List ℕ) (a n l : ℕ) → n ≡ l → l ≤ 199 → take n (drop (a + 8) xs) ≡ take l (drop 8 (take 256 (drop a xs)))
      text_of_bytes xs a n l e few =
          ap (λ (k : ℕ). take k (drop (a + 8) xs)) e
          ∙ sym (ap (take l) (drop-take 8 248 (drop a xs)) ∙ take-take l 248 (drop 8 (drop a xs)) (omega (arith, few))
          ∙ ap (take l) (drop-drop 8 a xs))

  pub said_zeros : RowZeros m s
  said_zeros = record {
    head = λ k some less. byte k (omega (arith, less)) ∙ h.head k some less;
    tail = λ k some less. byte k less ∙ h.tail k (subst (λ n. 8 + n ≤ k) said_length some);
    free = λ free. said_length ∙ no_text row (sym said_mark ∙ free);
  }

row_of_bytes : (row : Option Row) (mark : ℕ) (text : List ℕ) → HasCubePath row → mark ≡ mark_byte row → text ≡ text_in row → row_of mark text ≡ row
row_of_bytes None mark text cube a b = ap (λ n. row_of n text) a
row_of_bytes (Some r) mark text cube a b =
    ap (λ n. row_of n text) a ∙ by r.offline refl
    ∙ ap (λ (p : List (List ℕ)). Some (record { path = p; offline = r.offline }))
    (ap path_names b ∙ text_names r.path (cube r.path refl).names)
  where
    by : (o : Bool) → r.offline ≡ o → row_of (cond o 2 1) text ≡ Some (record { path = path_names text; offline = o })
    by true e = refl
    by false e = refl

-- ---- a table that is written

module _ (v : NamesView) (m : ℕ → List ℕ) (sound : IsNameTable v) (written : (s : ℕ) → s < 16 → IsRowBytes (row_at v s) (row_bytes m s)) where
  has_cube : (s : ℕ) → HasCubePath (row_at v s)
  has_cube s p is = sound.paths s p is

  low : (s : ℕ) → s < v.slots → s < 16
  low s less = omega (arith, less, sound.few)

  mark_is : (s : ℕ) → s < 16 → mark_at m s ≡ mark_byte (row_at v s)
  mark_is s less = said_mark m s (row_at v s) (has_cube s) (written s less)

  text_is : (s : ℕ) → s < 16 → text_at m s ≡ text_in (row_at v s)
  text_is s less = said_text m s (row_at v s) (has_cube s) (written s less)

  length_is : (s : ℕ) → s < 16 → length_at m s ≡ length (text_in (row_at v s))
  length_is s less = said_length m s (row_at v s) (has_cube s) (written s less)

  -- the rows that are read are those of the table
  pub written_rows : (s : ℕ) → row_in v.slots m s ≡ row_at v s
  written_rows s = by (nat_lt s v.slots) refl
    where
      by : (b : Bool) → nat_lt s v.slots ≡ b → (if b then row_of (mark_at m s) (text_at m s) else None) ≡ row_at v s
      by true is = let less : s < v.slots = grind (arith, nat_tests) in row_of_bytes (row_at v s) (mark_at m s) (text_at m s)
          (has_cube s) (mark_is s (low s less)) (text_is s (low s less))
      by false is = let high : v.slots ≤ s = grind (arith, nat_tests) in sym (sound.no_more s high)

  pub written_zeros : (s : ℕ) → s < 16 → RowZeros m s
  written_zeros s less = said_zeros m s (row_at v s) (has_cube s) (written s less)

  mark_few : (row : Option Row) → mark_byte row ≤ 2
  mark_few None = omega arith
  mark_few (Some r) = by r.offline
    where
      by : (b : Bool) → cond b 2 1 ≤ 2
      by true = omega arith
      by false = omega arith

  -- the text of a row that isn't free
  cube_text : (row : Option Row) (s : ℕ) → HasCubePath row → mark_at m s ≡ mark_byte row → length_at m s ≡ length (text_in row)
      → text_at m s ≡ text_in row → mark_at m s ≢ 0 → IsCubeText m s
  cube_text None s cube a b e live = absurd (live a)
  cube_text (Some r) s cube a b e live =
      let is = cube r.path refl in record {
        some = omega (arith, b, is.some);
        few = omega (arith, b, is.few);
        path = ap path_fault e ∙ text_proper r.path is.names (omega (arith, is.few));
      }

  path_said : (row : Option Row) (s : ℕ) → HasCubePath row → mark_at m s ≡ mark_byte row → text_at m s ≡ text_in row
      → mark_at m s ≢ 0 → path_of row ≡ Some (path_names (text_at m s))
  path_said None s cube a e live = absurd (live a)
  path_said (Some r) s cube a e live = ap Some (sym (ap path_names e ∙ text_names r.path (cube r.path refl).names))

  -- the blocks are accepted
  pub written_names : AreNames v.slots m
  written_names = record {
    marks = λ s less. subst (λ n. n ≤ 2) (sym (mark_is s (low s less))) (mark_few (row_at v s));
    texts = λ s less live. cube_text (row_at v s) s (has_cube s) (mark_is s (low s less)) (length_is s (low s less)) (text_is s (low s less)) live;
    differ = λ s r less high live other same.
        let one = path_said (row_at v s) s (has_cube s) (mark_is s (low s (omega (arith, less, high))))
        (text_is s (low s (omega (arith, less, high)))) live in
        let two = path_said (row_at v r) r (has_cube r) (mark_is r (low r high)) (text_is r (low r high)) other in
        let e = sound.differ s r (path_names (text_at m r)) (one ∙ ap Some same) two in
        omega (arith, less, e);
    no_more = λ s high less. mark_is s less ∙ ap mark_byte (sound.no_more s high);
  }

-- one row more is written
pub written_more : (v : NamesView) (old new : ℕ → List ℕ) (n : ℕ) (row : Option Row) → row ≡ row_at v n
    → IsRowBytes row (row_bytes new n) → ((s : ℕ) → s ≢ n → row_bytes new s ≡ row_bytes old s)
    → ((s : ℕ) → s < n → IsRowBytes (row_at v s) (row_bytes old s)) → (s : ℕ) → s < n + 1 → IsRowBytes (row_at v s) (row_bytes new s)
written_more v old new n row is here others before =
    below_more (λ s. IsRowBytes (row_at v s) (row_bytes new s)) n
    (λ s less. subst (λ (x : List ℕ). IsRowBytes (row_at v s) x) (sym (others s (λ e. omega (arith, less, e)))) (before s less))
    (subst (λ (x : Option Row). IsRowBytes x (row_bytes new n)) is here)

-- one block more is whole
pub whole_more : (old new : ℕ → List ℕ) (n : ℕ) → IsWhole new n → ((s : ℕ) → IsWhole old s → IsWhole new s)
    → ((s : ℕ) → s < n → IsWhole old s) → (s : ℕ) → s < n + 1 → IsWhole new s
whole_more old new n here stays before = below_more (λ s. IsWhole new s) n (λ s less. stays s (before s less)) here

-- where the blocks of the sixteen slots are whole, the four blocks are
pub whole_blocks : (m : ℕ → List ℕ) → ((s : ℕ) → s < 16 → IsWhole m s) → (k : ℕ) → 11 ≤ k → k < 15 → length (m k) ≡ 1024
whole_blocks m whole k from below =
    let place : 11 + ((k - 11) * 4 + 0) / 4 ≡ k = omega (arith, from, div-mul-add (k - 11) 4 0 (omega arith)) in
    subst (λ (n : ℕ). length (m n) ≡ 1024) place (whole ((k - 11) * 4 + 0) (omega (arith, from, below)))

-- ---- a table that is read

-- a row that isn't free has the path of its text
live_path : (mark : ℕ) (text : List ℕ) → mark ≢ 0 → path_of (row_of mark text) ≡ Some (path_names text)
live_path zero text live = absurd (live refl)
live_path (suc n) text live = refl

pub row_in_low : (slots : ℕ) (m : ℕ → List ℕ) (s : ℕ) → s < slots → row_in slots m s ≡ row_of (mark_at m s) (text_at m s)
row_in_low slots m s less = let is : nat_lt s slots ≡ true = grind (arith, nat_tests) in rw is refl

module _ (m : ℕ → List ℕ) (v : NamesView) (sound : IsNameTable v) where
  path_read : (n s : ℕ) → IsReadTo m n v → s < n → s < v.slots → mark_at m s ≢ 0 → path_at v s ≡ Some (path_names (text_at m s))
  path_read n s h less low live = ap path_of (h.rows s less ∙ row_in_low v.slots m s low) ∙ live_path (mark_at m s) (text_at m s) live

  -- blocks that are read are accepted
  pub read_names : IsReadTo m 16 v → AreNames v.slots m
  read_names h = record {
    marks = λ s less. (h.sound s (omega (arith, less, sound.few)) less).mark;
    texts = λ s less live. (h.sound s (omega (arith, less, sound.few)) less).text live;
    differ = λ s r less high live other same.
        let one = path_read 16 s h (omega (arith, less, high, sound.few)) (omega (arith, less, high)) live in
        let two = path_read 16 r h (omega (arith, high, sound.few)) high other in
        let e = sound.differ s r (path_names (text_at m r)) (one ∙ ap Some same) two in
        omega (arith, less, e);
    no_more = λ s high less. h.no_more s less high;
  }
