-- The path of a cube leads to its slot, in each world that the tables of an image show.
use Rattle.std.proofs.Common.{◌≡◌, ◌≢◌, ◌∙◌, ◌≤◌, ◌<◌, ⊎_elim, ℕ, zero, suc, ◌+◌, Bool, true, false, cond, ◌&&◌, List, [], ◌∷◌, Option, None, Some, refl, sym, ap, subst, arith}
use Rattle.std.specs.Prelude.{unwrap_or, IsSome, nat_lt, if◌then◌else◌}
use Rattle.std.specs.List.{find, range_with_len}
use Rattle.std.specs.Option.{option_map}
use Rattle.std.proofs.lemmas.Bool.{cases_lt}
use Rattle.ice_base.specs.Disk.{Image, block}
use Rattle.tree_spec.specs.Routes.{is_same_path, is_prefix, is_same_name}
use Rattle.tree_spec.specs.Records.{Cube}
use Rattle.tree_spec.specs.World.{World, slot_with_path, has_path}
use Rattle.tree_spec.proofs.Trees.{same_name, is_same_name-refl}
use Rattle.ice_layout.specs.Supers.{super_of}
use Rattle.ice_path.specs.Paths.{path_names}
use Rattle.ice_tables.specs.Tables.{Tables, Row, HasTables, row_in, row_of, mark_at, text_at}
use Rattle.ice_tables.proofs.TableLaws.{row_low}
use Rattle.ice_images.specs.Fitting.{Entry, cube_entry, ShowCubes}

-- ---- paths

both : (a b : Bool) → (a && b) ≡ true → (a ≡ true) × (b ≡ true)
both true b is = (refl, is)
both false b is = absurd (cc is)

prefix_refl : (p : List (List ℕ)) → is_prefix p p ≡ true
prefix_refl [] = refl
prefix_refl (c ∷ p) = ap (λ b. b && is_prefix p p) (is_same_name-refl c) ∙ prefix_refl p

same_refl : (p : List (List ℕ)) → is_same_path p p ≡ true
same_refl p = ap (λ b. b && is_prefix p p) (prefix_refl p) ∙ prefix_refl p

prefix_both : (p q : List (List ℕ)) → is_prefix p q ≡ true → is_prefix q p ≡ true → p ≡ q
prefix_both [] [] a b = refl
prefix_both [] (d ∷ q) a b = absurd (cc b)
prefix_both (c ∷ p) [] a b = absurd (cc a)
prefix_both (c ∷ p) (d ∷ q) a b =
    let one = both (is_same_name c d) (is_prefix p q) a in
    let two = both (is_same_name d c) (is_prefix q p) b in
    ap (λ (x : List ℕ). x ∷ p) (same_name c d one.0) ∙ ap (λ (x : List (List ℕ)). d ∷ x) (prefix_both p q one.1 two.1)

same_path : (p q : List (List ℕ)) → is_same_path p q ≡ true → p ≡ q
same_path p q is = let two = both (is_prefix p q) (is_prefix q p) is in prefix_both p q two.0 two.1

-- ---- rows

some_row : (mark : ℕ) (text : List ℕ) (r : Row) → row_of mark text ≡ Some r → (mark ≢ 0) × (r.path ≡ path_names text)
some_row zero text r is = absurd (cc is)
some_row (suc m) text r is = (λ z. absurd (omega (arith, z)), ap (λ (o : Option Row). (unwrap_or o r).path) (sym is))

row_says : (slots : ℕ) (m : ℕ → List ℕ) (s : ℕ) (r : Row) → row_in slots m s ≡ Some r → (mark_at m s ≢ 0) × (r.path ≡ path_names (text_at m s))
row_says slots m s r is = by (nat_lt s slots) is
  where
    by : (b : Bool) → (if b then row_of (mark_at m s) (text_at m s) else None) ≡ Some r → (mark_at m s ≢ 0) × (r.path ≡ path_names (text_at m s))
    by true is = some_row (mark_at m s) (text_at m s) r is
    by false is = absurd (cc is)

-- the paths of the rows differ
rows_differ : (i : Image) (t : Tables) (s r : ℕ) (a b : Row) → HasTables i t → s < r → r < t.slots → t.row s ≡ Some a → t.row r ≡ Some b
    → a.path ≢ b.path
rows_differ i t s r a b h less low x y same =
    let slots = (super_of (block i 0)).slots in
    let one = row_says slots h.blocks s a (subst (λ (u : Tables). u.row s ≡ Some a) h.says x) in
    let two = row_says slots h.blocks r b (subst (λ (u : Tables). u.row r ≡ Some b) h.says y) in
    h.names.differ s r less low one.0 two.0 (sym one.1 ∙ same ∙ two.1)

-- an entry that a record shows is that of a row
row_of_entry : (n : ℕ) (o : Option Row) (c : Option Cube) (d : Cube)
    → option_map (λ (r : Row). record { path = r.path; groups = n; offline = r.offline }) o ≡ option_map cube_entry c → c ≡ Some d
    → (r : Row) × (o ≡ Some r) × (r.path ≡ d.path)
row_of_entry n None c d shows is = absurd (cc (shows, is))
row_of_entry n (Some r) c d shows is =
    let same : Some (record { path = r.path; groups = n; offline = r.offline }) ≡ Some (cube_entry d) = shows ∙ ap (option_map cube_entry) is in
    (r, refl, ap (λ (o : Option Entry). (unwrap_or o (cube_entry d)).path) same)

row_shown : (t : Tables) (w : World) (s : ℕ) (d : Cube) → ShowCubes t w → w.cube s ≡ Some d → (r : Row) × (t.row s ≡ Some r) × (r.path ≡ d.path)
row_shown t w s d shows is = row_of_entry _ (t.row s) (w.cube s) d (shows.entries s) is

-- ---- the slot

find_first : (test : ℕ → Bool) (a n x : ℕ) → a ≤ x → x < a + n → test x ≡ true → ((y : ℕ) → y < x → test y ≡ false)
    → find test (range_with_len a n) ≡ Some x
find_first test a zero x low high hit miss = absurd (omega (arith, low, high))
find_first test a (suc n) x low high hit miss = ⊎_elim
    (λ less. let no_hit = miss a less in ap (λ b. cond b (Some a) (find test (range_with_len (a + 1) n))) no_hit
    ∙ find_first test (a + 1) n x (omega (arith, less)) (omega (arith, high)) hit miss)
    (λ more. let is : a ≡ x = omega (arith, low, more) in
    ap (λ b. cond b (Some a) (find test (range_with_len (a + 1) n))) (ap test is ∙ hit) ∙ ap (λ y. Some y) is)
    (cases_lt a x)

-- a cube's path leads to its slot
pub slot_found : (i : Image) (t : Tables) (w : World) (x : ℕ) (d : Cube) → HasTables i t → ShowCubes t w → w.cube x ≡ Some d
    → slot_with_path w d.path ≡ Some x
unfolding slot_with_path
slot_found i t w x d has shows there =
    find_first (λ s. has_path d.path (w.cube s)) 0 w.slots x (omega arith) (let is = shows.slots in omega (arith, low, is))
    (subst (λ c. has_path d.path c ≡ true) (sym there) (same_refl d.path))
    (λ y less. by y less (w.cube y) refl)
  where
    low : x < t.slots
    low = row_low i t x has (subst IsSome (sym (row_shown t w x d shows there).1) refl)

    by : (y : ℕ) → y < x → (c : Option Cube) → w.cube y ≡ c → has_path d.path c ≡ false
    by y less None is = refl
    by y less (Some e) is = apart (is_same_path e.path d.path) refl
      where
        apart : (b : Bool) → is_same_path e.path d.path ≡ b → b ≡ false
        apart false same = refl
        apart true same =
            let mine = row_shown t w x d shows there in
            let other = row_shown t w y e shows is in
            absurd (rows_differ i t y x other.0 mine.0 has less low other.1 mine.1 (other.2 ∙ same_path e.path d.path same ∙ sym mine.2))
