-- The slot of a path, and the rows of the cubes, as the tables show them.
use Rattle.std.proofs.Common.{◌≡◌, ◌≢◌, ◌∙◌, ⊎_elim, ◌<◌, ◌≤◌, ◌+◌, ℕ, zero, suc, Bool, true, false, cond, List, [], ◌∷◌, ◌++◌, length, Option, Some, None, option_map, refl, sym, ap, arith}
use Rattle.std.specs.Prelude.{◌⊎◌, ◌&&◌, nat_lt, if◌then◌else◌}
use Rattle.std.specs.List.{range_with_len, flat_map, find}
use Rattle.std.proofs.lemmas.Grind.{flat_map-append}
use Rattle.std.proofs.lemmas.Bool.{cases_eq}
use Rattle.std.proofs.lemmas.Bool.Decides.{nat_tests}
use Rattle.ice_base.specs.Disk.{Image, DiskState, block}
use Rattle.tree_spec.specs.Records.{Cube, is_offline}
use Rattle.tree_spec.specs.Routes.{is_prefix, is_same_name, is_same_path}
use Rattle.tree_spec.specs.World.{World, has_path, slot_with_path, cube_rows, cube_row_at}
use Rattle.tree_spec.specs.declared.reply.CubeRow.{CubeRow}
use Rattle.tree_spec.proofs.Trees.{same_name, is_same_name-refl}
use Rattle.ice_layout.specs.Supers.{super_of}
use Rattle.ice_path.specs.Paths.{path_names}
use Rattle.ice_tables.specs.Tables.{Tables, Row, HasTables, row_of, row_in, mark_at, text_at}
use Rattle.ice_tables.specs.Lots.{groups_of, lot_of}
use Rattle.ice_base.specs.Lots.{LotView}
use Rattle.ice_images.specs.Fitting.{Entry, cube_entry}
use Rattle.ice_names.specs.Names.{row_at, path_at, path_of, NoneHas}
use Rattle.ice_system.specs.Systems.{tables_of}
use Rattle.ice_volume.specs.Cells.{Carries, cell_at, cell_state}
use Rattle.ice_volume.specs.Volumes.{VolumeView, StandsFor}
use Rattle.ice_volume.specs.Rows.{shown_row, shown_rows, at_most_one}
use Rattle.ice_volume.specs.declared.cell.Cell.{Cell}
use Rattle.ice_volume.specs.declared.cell.Cell.TheVariants.{Closed, Stopped, Open}

-- ---- paths

and_left : (a b : Bool) → (a && b) ≡ true → a ≡ true
and_left true b is = refl
and_left false b is = is

and_right : (a b : Bool) → (a && b) ≡ true → b ≡ true
and_right true b is = is
and_right false b is = absurd (cc is)

prefix_refl : (p : List (List ℕ)) → is_prefix p p ≡ true
prefix_refl [] = refl
prefix_refl (c ∷ p) = ap (λ b. b && is_prefix p p) (is_same_name-refl c) ∙ prefix_refl p

prefix_both : (p q : List (List ℕ)) → is_prefix p q ≡ true → is_prefix q p ≡ true → p ≡ q
prefix_both [] [] a b = refl
prefix_both [] (d ∷ q) a b = absurd (cc b)
prefix_both (c ∷ p) [] a b = absurd (cc a)
prefix_both (c ∷ p) (d ∷ q) a b =
    ap (λ (x : List ℕ). x ∷ p) (same_name c d (and_left (is_same_name c d) _ a))
    ∙ ap (λ (x : List (List ℕ)). d ∷ x) (prefix_both p q (and_right (is_same_name c d) _ a) (and_right (is_same_name d c) _ b))

path_same : (p q : List (List ℕ)) → is_same_path p q ≡ true → p ≡ q
path_same p q is = prefix_both p q (and_left (is_prefix p q) _ is) (and_right (is_prefix p q) _ is)

path_refl : (p : List (List ℕ)) → is_same_path p p ≡ true
path_refl p = ap (λ b. b && is_prefix p p) (prefix_refl p) ∙ prefix_refl p

has_its_path : (p : List (List ℕ)) (o : Option Cube) → option_map (λ (c : Cube). c.path) o ≡ Some p → has_path p o ≡ true
has_its_path p None is = absurd (cc is)
has_its_path p (Some c) is = let same : c.path ≡ p = ap (or p) is in ap (λ q. is_same_path q p) same ∙ path_refl p
  where
    or : List (List ℕ) → Option (List (List ℕ)) → List (List ℕ)
    or p None = p
    or p (Some q) = q

path_had : (p : List (List ℕ)) (o : Option Cube) → has_path p o ≡ true → option_map (λ (c : Cube). c.path) o ≡ Some p
path_had p None is = absurd (cc is)
path_had p (Some c) is = ap (λ q. Some q) (path_same c.path p is)

-- ---- the first of a range

module _ (test : ℕ → Bool) where
  find_only : (a n s : ℕ) → a ≤ s → s < a + n → test s ≡ true → ((k : ℕ) → test k ≡ true → k ≡ s) → find test (range_with_len a n) ≡ Some s
  find_only a zero s low high here only = absurd (omega arith)
  find_only a (suc n) s low high here only = by (test a) refl (λ other. find_only (a + 1) n s (omega (arith, other)) (omega arith) here only)
    where
      by : (b : Bool) → test a ≡ b → (a ≢ s → find test (range_with_len (a + 1) n) ≡ Some s) → cond b (Some a) (find test (range_with_len (a + 1) n)) ≡ Some s
      by true is later = ap (λ k. Some k) (only a is)
      by false is later = later (λ same. absurd (cc (sym is ∙ ap test same ∙ here)))

  find_none : (a n : ℕ) → ((k : ℕ) → test k ≡ false) → find test (range_with_len a n) ≡ None
  find_none a zero none = refl
  find_none a (suc n) none = ap (λ b. cond b (Some a) (find test (range_with_len (a + 1) n))) (none a) ∙ find_none (a + 1) n none

true_or_false : (b : Bool) → (b ≡ true → ⊥) → b ≡ false
true_or_false true no_ = absurd (no_ refl)
true_or_false false no_ = refl

-- ---- the rows of an image's tables

some_path : (mark : ℕ) (txt : List ℕ) (p : List (List ℕ)) → path_of (row_of mark txt) ≡ Some p → (mark ≢ 0) × (path_names txt ≡ p)
some_path zero txt p is = absurd (cc is)
some_path (suc mark) txt p is = (λ none. absurd (omega (arith, none)), ap (or p) is)
  where
    or : List (List ℕ) → Option (List (List ℕ)) → List (List ℕ)
    or p None = p
    or p (Some q) = q

row_says : (slots : ℕ) (m : ℕ → List ℕ) (s : ℕ) (p : List (List ℕ)) → path_of (row_in slots m s) ≡ Some p
    → (s < slots) × (mark_at m s ≢ 0) × (path_names (text_at m s) ≡ p)
row_says slots m s p is = by (nat_lt s slots) refl is
  where
    by : (b : Bool) → nat_lt s slots ≡ b → path_of (if b then row_of (mark_at m s) (text_at m s) else None) ≡ Some p
        → (s < slots) × (mark_at m s ≢ 0) × (path_names (text_at m s) ≡ p)
    by true less e = let q = some_path (mark_at m s) (text_at m s) p e in (grind (arith, nat_tests, less), q.0, q.1)
    by false less e = absurd (cc e)

-- two slots of an image have different paths
rows_differ : (i : Image) (t : Tables) → HasTables i t → (s q : ℕ) (p : List (List ℕ)) → path_of (t.row s) ≡ Some p → path_of (t.row q) ≡ Some p → s ≡ q
rows_differ i t has s q p here there =
    let m = has.blocks in
    let slots : t.slots ≡ (super_of (block i 0)).slots = ap (λ (u : Tables). u.slots) has.says in
    let a = row_says (super_of (block i 0)).slots m s p (sym (ap (λ (u : Tables). path_of (u.row s)) has.says) ∙ here) in
    let b = row_says (super_of (block i 0)).slots m q p (sym (ap (λ (u : Tables). path_of (u.row q)) has.says) ∙ there) in
    ⊎_elim (λ same. same) (λ other. absurd (⊎_elim
    (λ less. has.names.differ s q less (omega (arith, b.0, slots)) a.1 b.1 (a.2 ∙ sym b.2))
    (λ less. has.names.differ q s less (omega (arith, a.0, slots)) b.1 a.1 (b.2 ∙ sym a.2))
    (apart s q other))) (cases_eq s q)
  where
    apart : (a b : ℕ) → a ≢ b → (a < b) ⊎ (b < a)
    apart a b other = grind (arith, other)

-- ---- what the tables show

-- a record that a cell carries is in the cell's state
pub carried_state : (cell : Cell) (lot : LotView) (s : DiskState) (c : Cube) → Carries cell lot s (Some c) → c.state ≡ cell_state cell (is_offline c.state)
carried_state Closed lot s c carries = carries.is
carried_state Stopped lot s c carries = carries.is
carried_state (Open e) lot s c carries = carries.record_is.state

-- the path in an entry
entry_path : Option Entry → Option (List (List ℕ))
entry_path o = option_map (λ (e : Entry). e.path) o

module _ (v : VolumeView) (s : DiskState) (w : World) (stands : StandsFor v s w) where
  pub row_path : (x : ℕ) → path_at v.system.names x ≡ option_map (λ (c : Cube). c.path) (w.cube x)
  unfolding entry_path
  row_path x = of_row (row_at v.system.names x) ∙ ap entry_path (stands.shows.entries x) ∙ of_cube (w.cube x)
    where
      of_row : (o : Option Row)
          → path_of o ≡ entry_path (option_map (λ (r : Row). record { path = r.path; groups = length (groups_of (tables_of v.system) x); offline = r.offline }) o)
      of_row None = refl
      of_row (Some r) = refl

      of_cube : (o : Option Cube) → entry_path (option_map cube_entry o) ≡ option_map (λ (c : Cube). c.path) o
      of_cube None = refl
      of_cube (Some c) = refl

  -- the cube of a path that was found
  pub slot_found : (p : List (List ℕ)) (x : ℕ) → x < v.system.names.slots → path_at v.system.names x ≡ Some p → slot_with_path w p ≡ Some x
  unfolding slot_with_path
  slot_found p x less is = find_only (λ y. has_path p (w.cube y)) 0 w.slots x (omega arith) (omega (arith, stands.shows.slots))
      (has_its_path p (w.cube x) (sym (row_path x) ∙ is))
      (λ k here. rows_differ s.now (tables_of v.system) stands.tables.now.has k x p (row_path k ∙ path_had p (w.cube k) here) is)

  -- no cube has a path that was not found
  pub slot_none : (p : List (List ℕ)) → NoneHas v.system.names p → slot_with_path w p ≡ None
  unfolding slot_with_path
  slot_none p none =
      find_none (λ y. has_path p (w.cube y)) 0 w.slots (λ k. true_or_false (has_path p (w.cube k)) (λ here. none k (row_path k ∙ path_had p (w.cube k) here)))

  row_shown : (x : ℕ) → at_most_one (shown_row v x (row_at v.system.names x)) ≡ cube_row_at x (w.cube x)
  row_shown x = by (row_at v.system.names x) (w.cube x) (stands.shows.entries x) (stands.cubes x)
    where
      by : (o : Option Row) (c : Option Cube)
          → option_map (λ (r : Row). record { path = r.path; groups = length (groups_of (tables_of v.system) x); offline = r.offline }) o
          ≡ option_map cube_entry c
          → Carries (cell_at v.cells x) (lot_of (tables_of v.system) x) s c
          → at_most_one (shown_row v x o) ≡ cube_row_at x c
      by None None e carries = refl
      by None (Some c) e carries = absurd (cc e)
      by (Some r) None e carries = absurd (cc e)
      by (Some r) (Some c) e carries =
          let same : record { path = r.path; groups = length (groups_of (tables_of v.system) x); offline = r.offline } ≡ cube_entry c = ap
          (or (cube_entry c)) e in
          ap (λ (y : Entry). record { slot = x; groups = y.groups; state = cell_state (cell_at v.cells x) y.offline; path = y.path } ∷ []) same
          ∙ ap (λ z. record { slot = x; groups = c.groups; state = z; path = c.path } ∷ [])
          (sym (carried_state (cell_at v.cells x) (lot_of (tables_of v.system) x) s c carries))
        where
          or : Entry → Option Entry → Entry
          or d None = d
          or d (Some y) = y

  -- the rows that the tables show are those of the world
  pub rows_shown : shown_rows v v.system.names.slots ≡ cube_rows w
  unfolding shown_rows cube_rows
  rows_shown = all (range_with_len 0 v.system.names.slots) ∙ ap (λ n. flat_map (λ x. cube_row_at x (w.cube x)) (range_with_len 0 n)) stands.shows.slots
    where
      all : (xs : List ℕ) → flat_map (λ x. at_most_one (shown_row v x (row_at v.system.names x))) xs ≡ flat_map (λ x. cube_row_at x (w.cube x)) xs
      all [] = refl
      all (x ∷ xs) =
          ap (λ ys. ys ++ flat_map (λ y. at_most_one (shown_row v y (row_at v.system.names y))) xs) (row_shown x)
          ∙ ap (λ ys. cube_row_at x (w.cube x) ++ ys) (all xs)

-- ---- rows that were listed so far

range_more : (a n j : ℕ) → a + n ≡ j → range_with_len a (suc n) ≡ range_with_len a n ++ j ∷ []
range_more a zero j is = let same : a ≡ j = omega (arith, is) in ap (λ (k : ℕ). k ∷ []) same
range_more a (suc n) j is = ap (λ (xs : List ℕ). a ∷ xs) (range_more (a + 1) n j (omega (arith, is)))

pub append_none : (xs : List CubeRow) → xs ++ [] ≡ xs
append_none [] = refl
append_none (x ∷ xs) = ap (λ (ys : List CubeRow). x ∷ ys) (append_none xs)

-- none of no slot
pub shown_none : (v : VolumeView) → shown_rows v 0 ≡ []
unfolding shown_rows
shown_none v = refl

-- one slot more
pub shown_more : (v : VolumeView) (n : ℕ) → shown_rows v (n + 1) ≡ shown_rows v n ++ at_most_one (shown_row v n (row_at v.system.names n))
unfolding shown_rows
shown_more v n =
    ap (λ (k : ℕ). flat_map row (range_with_len 0 k)) next ∙ ap (flat_map row) (range_more 0 n n (omega arith))
    ∙ flat_map-append row (range_with_len 0 n) (n ∷ []) ∙ ap (λ ys. flat_map row (range_with_len 0 n) ++ ys) (append_none (row n))
  where
    next : n + 1 ≡ suc n
    next = omega arith

    row : ℕ → List CubeRow
    row s = at_most_one (shown_row v s (row_at v.system.names s))

-- at most one row of each slot
pub shown_few : (v : VolumeView) (n : ℕ) → length (shown_rows v n) ≤ n
unfolding shown_rows
shown_few v n = few 0 n
  where
    one : (o : Option CubeRow) (ys : List CubeRow) (m : ℕ) → length ys ≤ m → length (at_most_one o ++ ys) ≤ suc m
    one None ys m le = omega arith
    one (Some r) ys m le = omega arith

    few : (a m : ℕ) → length (flat_map (λ s. at_most_one (shown_row v s (row_at v.system.names s))) (range_with_len a m)) ≤ m
    few a zero = omega arith
    few a (suc m) = one (shown_row v a (row_at v.system.names a)) _ m (few (a + 1) m)
