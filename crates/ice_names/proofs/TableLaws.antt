-- A table whose rows are free, and a table with another row in one slot.
use Rattle.std.proofs.Common.{◌≡◌, ◌≢◌, ◌⊎◌, inl, inr, ℕ, zero, suc, ◌<◌, ◌≤◌, List, length, get_or, Option, Some, None, sym, refl, ap, ◌∙◌, subst, arith, length-set}
use Rattle.std.specs.Prelude.{slice_set, replicate}
use Rattle.std.proofs.lemmas.List.{get_or-set_same, get_or-set_other, same_lists, get_or_default}
use Rattle.std.proofs.lemmas.Bool.{cases_eq, cases_lt}
use Rattle.ice_tables.specs.Tables.{Row}
use Rattle.ice_names.specs.Names.{NamesView, IsNameTable, IsCubePath, RowSet, row_at, path_of, path_at, marked, says_offline}
use Rattle.ice_names.specs.declared.mark.Mark.{Mark}
use Rattle.ice_names.specs.declared.mark.Mark.TheVariants.{Free, Online, Offline}
use Rattle.ice_names.proofs.RowLaws.{HasCubePath}

-- ---- no rows

abbrev no_path : Option (List (List ℕ))
no_path = None

abbrev no_row : Option Row
no_row = None

free_row : (n s : ℕ) → get_or (replicate n no_row) s no_row ≡ no_row
free_row zero s = refl
free_row (suc n) zero = refl
free_row (suc n) (suc s) = free_row n s

abbrev free_table : ℕ → NamesView
free_table slots = record { slots = slots; rows = replicate 16 None }

free_sound : (slots : ℕ) → 1 ≤ slots → slots ≤ 16 → IsNameTable (free_table slots)
free_sound slots some few = record {
  room = refl;
  some = some;
  few = few;
  no_more = λ s h. free_row 16 s;
  paths = λ s p is. absurd (let bad : no_path ≡ Some p = sym (ap path_of (free_row 16 s)) ∙ is in cc bad);
  differ = λ s r p is. absurd (let bad : no_path ≡ Some p = sym (ap path_of (free_row 16 s)) ∙ is in cc bad);
}

-- a table of no rows
pub free_is_sound : (slots : ℕ) (rows : List (Option Row)) → rows ≡ replicate 16 None → 1 ≤ slots → slots ≤ 16
    → IsNameTable (record { slots = slots; rows = rows })
free_is_sound slots rows e some few = subst (λ (x : List (Option Row)). IsNameTable (record { slots = slots; rows = x })) (sym e)
    (free_sound slots some few)

pub free_rows : (rows : List (Option Row)) → rows ≡ replicate 16 None → (s : ℕ) → get_or rows s None ≡ None
free_rows rows e s = ap (λ (x : List (Option Row)). get_or x s None) e ∙ free_row 16 s

-- ---- a row in one slot

abbrev pub with_row : NamesView → ℕ → Option Row → NamesView
with_row v slot row = record { slots = v.slots; rows = slice_set v.rows slot row }

pub row_set : (v : NamesView) (slot : ℕ) (row : Option Row) → slot < length v.rows → RowSet v slot row (with_row v slot row)
row_set v slot row low = record {
  here = get_or-set_same v.rows slot row None low;
  others = λ s other. get_or-set_other v.rows slot s row None other;
  slots = refl;
}

-- no other slot has the path of the row
abbrev pub IsAlone : NamesView → ℕ → Option Row → Type 0
IsAlone v slot row = (p : List (List ℕ)) (s : ℕ) → path_of row ≡ Some p → path_at v s ≡ Some p → s ≡ slot

module _ (v : NamesView) (slot : ℕ) (row : Option Row) (sound : IsNameTable v) (low : slot < v.slots) (cube : HasCubePath row)
    (alone : IsAlone v slot row) where
  set : RowSet v slot row (with_row v slot row)
  set = row_set v slot row (omega (arith, low, sound.few, sound.room))

  -- the path of a slot is that of the row, or the one that it had
  path_now : (s : ℕ) (p : List (List ℕ)) → path_at (with_row v slot row) s ≡ Some p
      → ((s ≡ slot) × (path_of row ≡ Some p)) ⊎ ((s ≢ slot) × (path_at v s ≡ Some p))
  path_now s p is = by (cases_eq s slot)
    where
      by : (s ≡ slot) ⊎ (s ≡ slot → ⊥) → ((s ≡ slot) × (path_of row ≡ Some p)) ⊎ ((s ≢ slot) × (path_at v s ≡ Some p))
      by (inl e) = inl (e, sym (ap path_of (ap (row_at (with_row v slot row)) e ∙ set.here)) ∙ is)
      by (inr d) = inr (d, sym (ap path_of (set.others s d)) ∙ is)

  paths_now : (s : ℕ) (p : List (List ℕ)) → path_at (with_row v slot row) s ≡ Some p → IsCubePath p
  paths_now s p is = by (path_now s p is)
    where
      by : ((s ≡ slot) × (path_of row ≡ Some p)) ⊎ ((s ≢ slot) × (path_at v s ≡ Some p)) → IsCubePath p
      by (inl h) = cube p h.1
      by (inr h) = sound.paths s p h.1

  differ_now : (s r : ℕ) (p : List (List ℕ)) → path_at (with_row v slot row) s ≡ Some p → path_at (with_row v slot row) r ≡ Some p → s ≡ r
  differ_now s r p a b = by (path_now s p a) (path_now r p b)
    where
      by : ((s ≡ slot) × (path_of row ≡ Some p)) ⊎ ((s ≢ slot) × (path_at v s ≡ Some p))
          → ((r ≡ slot) × (path_of row ≡ Some p)) ⊎ ((r ≢ slot) × (path_at v r ≡ Some p)) → s ≡ r
      by (inl h) (inl k) = h.0 ∙ sym k.0
      by (inl h) (inr k) = absurd (k.0 (alone p r h.1 k.1))
      by (inr h) (inl k) = absurd (h.0 (alone p s k.1 h.1))
      by (inr h) (inr k) = sound.differ s r p h.1 k.1

  pub set_is_sound : IsNameTable (with_row v slot row)
  set_is_sound = record {
    room = length-set v.rows slot row ∙ sound.room;
    some = sound.some;
    few = sound.few;
    no_more = λ s high. set.others s (λ e. omega (arith, high, e, low)) ∙ sound.no_more s high;
    paths = paths_now;
    differ = differ_now;
  }

-- the same where the table is known by another name
pub put_is_sound : (v w : NamesView) (slot : ℕ) (row : Option Row) → v ≡ w → IsNameTable v → slot < w.slots → HasCubePath row
    → IsAlone w slot row → IsNameTable (with_row v slot row)
put_is_sound v w slot row e sound low cube alone =
    set_is_sound v slot row sound (subst (λ (x : NamesView). slot < x.slots) (sym e) low) cube
    (subst (λ (x : NamesView). IsAlone x slot row) (sym e) alone)

-- another mark
pub marked_is_sound : (v w : NamesView) (slot : ℕ) (row : Option Row) → v ≡ w → IsNameTable v → slot < w.slots
    → path_of row ≡ path_at w slot → IsNameTable (with_row v slot row)
marked_is_sound v w slot row e sound low same =
    let known : IsNameTable w = subst IsNameTable e sound in
    put_is_sound v w slot row e sound low (λ p is. known.paths slot p (sym same ∙ is)) (λ p s a b. known.differ s slot p b (sym same ∙ a))

pub marked_path : (mark : Mark) (row : Option Row) → mark ≢ Free → path_of (marked mark row) ≡ path_of row
marked_path Free row live = absurd (live refl)
marked_path Online None live = refl
marked_path Online (Some r) live = refl
marked_path Offline None live = refl
marked_path Offline (Some r) live = refl

pub marked_some : (mark : Mark) (r : Row) → mark ≢ Free → Some (record { path = r.path; offline = says_offline mark }) ≡ marked mark (Some r)
marked_some Free r live = absurd (live refl)
marked_some Online r live = refl
marked_some Offline r live = refl

pub marked_none : (mark : Mark) → marked mark None ≡ None
marked_none Free = refl
marked_none Online = refl
marked_none Offline = refl

-- ---- looks

-- a row that is read from the table
pub inside_row : (v w : NamesView) (s : ℕ) (d : Option Row) → v ≡ w → IsNameTable v → s < 16 → get_or v.rows s d ≡ row_at w s
inside_row v w s d e sound low = get_or_default v.rows s d None (omega (arith, low, sound.room)) ∙ ap (λ (x : NamesView). row_at x s) e

pub inside_cube : (v w : NamesView) (s : ℕ) (d row : Option Row) → v ≡ w → IsNameTable v → s < 16 → row ≡ get_or v.rows s d → HasCubePath row
inside_cube v w s d row e sound low is p has = (subst IsNameTable e sound).paths s p (sym (ap path_of (is ∙ inside_row v w s d e sound low)) ∙ has)

-- ---- copies

-- tables of the same rows
pub same_table : (v w : NamesView) → length v.rows ≡ 16 → length w.rows ≡ 16 → v.slots ≡ w.slots → ((s : ℕ) → row_at v s ≡ row_at w s) → v ≡ w
same_table v w a b e same =
    let rows : v.rows ≡ w.rows = same_lists v.rows w.rows (a ∙ sym b)
    (λ k d less. get_or_default v.rows k d None less ∙ same k ∙ get_or_default w.rows k None d (omega (arith, less, a, b))) in
    λ i. record { slots = e i; rows = rows i }

-- no other slot of a copy of the first slots has the path of the next
pub copy_alone : (v w : NamesView) (n : ℕ) (row : Option Row) → IsNameTable v → row ≡ row_at v n
    → ((s : ℕ) → s < n → row_at w s ≡ row_at v s) → ((s : ℕ) → n ≤ s → row_at w s ≡ None) → IsAlone w n row
copy_alone v w n row sound is same free p s a b = by (cases_lt s n)
  where
    by : (s < n) ⊎ (n ≤ s) → s ≡ n
    by (inl less) = sound.differ s n p (sym (ap path_of (same s less)) ∙ b) (sym (ap path_of is) ∙ a)
    by (inr high) = absurd (let bad : no_path ≡ Some p = sym (ap path_of (free s high)) ∙ b in cc bad)

-- the slots that are copied are all
pub copied : (v w : NamesView) (n : ℕ) → IsNameTable v → IsNameTable w → w.slots ≡ v.slots → v.slots ≤ n
    → ((s : ℕ) → s < n → row_at w s ≡ row_at v s) → ((s : ℕ) → n ≤ s → row_at w s ≡ None) → w ≡ v
copied v w n sound also slots all same free = same_table w v also.room sound.room slots (λ s. by s (cases_lt s n))
  where
    by : (s : ℕ) → (s < n) ⊎ (n ≤ s) → row_at w s ≡ row_at v s
    by s (inl less) = same s less
    by s (inr high) = free s high ∙ sym (sound.no_more s (omega (arith, high, all)))
