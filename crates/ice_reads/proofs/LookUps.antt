-- Look-ups of names in the rows of a directory, and the rows after one came or went.
use Rattle.std.proofs.Common.{◌≡◌, ◌≤◌, ◌<◌, ◌+◌, ◌-◌, ℕ, suc, Bool, true, false, cond, T, List, [], ◌∷◌, map, length, take, slice_set, get_or, Option, None, Some, ◌∙◌, sym, refl, ap, subst, arith}
use Rattle.std.proofs.lemmas.List.{get_or_default}
use Rattle.std.proofs.lemmas.List.Elements.{All-tail}
use Rattle.std.proofs.lemmas.List.Folds.{find_at}
use Rattle.std.proofs.lemmas.List.Sorted.{IsPermutation-swap_remove, IsPermutation-map, IsPermutation-sym, All-permutation, Contains-permutation, length_permutation}
use Rattle.std.proofs.lemmas.List.Sums.{prefix_len-le-length, passes_at_first}
use Rattle.std.proofs.lemmas.Map.Keys.{IsDistinct-head, IsDistinct-tail, IsDistinct-IsPermutation}
use Rattle.std.proofs.lemmas.Map.Views.{lookup-from_Contains}
use Rattle.std.proofs.lemmas.Option.{slice_get_past}
use Rattle.std.specs.Prelude.{is_some, ◌||◌, All, Contains, not, unwrap_or}
use Rattle.std.specs.Cmp.{eq_by_cmp_equiv}
use Rattle.std.specs.Cmp.Lexicographic.{nat_list_cmp_total, texts_ties, same_text}
use Rattle.std.specs.FinMap.{find}
use Rattle.std.specs.FinMap.Entries.{is_some-find}
use Rattle.std.specs.List.{IsDistinct, AllByRecursion, list_any, position_or_len}
use Rattle.std.specs.List as list
use Rattle.std.specs.List.Sorted.{IsPermutation}
use Rattle.std.specs.Map.{lookup}
use Rattle.std.specs.Option.{option_map}
use Rattle.std.specs.Ordering.{eq_by_cmp}
use Rattle.ice_base.specs.Lots.{LotView}
use Rattle.ice_dir.specs.Rows.{DirRow, named, look_up, rows_without}
use Rattle.tree_spec.specs.Trees.{Tree, Dir, Entries, rows, by_bytes, child, found_or_not, Found, NotFound}
use Rattle.tree_spec.specs.Costs.{Form}
use Rattle.tree_spec.specs.Routes.{is_same_name}
use Rattle.tree_spec.proofs.Trees.{same_name, is_same_name-sym}
use Rattle.ice_reads.specs.Tables.{Table, rows_in, IsNameOf, inode_named}
use Rattle.ice_reads.specs.Reads.{Reads}
use Rattle.ice_reads.proofs.Focus.{entry_reads, same_Some, None≢Some}

-- ---- the two look-ups are one

first_of : (b : Bool) (e : DirRow) (r : Option DirRow)
    → option_map (λ (row : DirRow). row.1) (cond b (Some e) r) ≡ cond b (Some e.1) (option_map (λ (row : DirRow). row.1) r)
first_of true e r = refl
first_of false e r = refl

named-same : (c : List ℕ) (e : DirRow) → named c e ≡ is_same_name c e.0
named-same c e = texts_ties e.0 c ∙ is_same_name-sym e.0 c

-- a look-up of a name in rows is that in the finite map that the rows are
pub look_up-find : (c : List ℕ) (rs : List DirRow) → look_up c rs ≡ find by_bytes c rs
look_up-find c [] = refl
look_up-find c (e ∷ rs) =
    first_of (named c e) e (list.find (named c) rs)
    ∙ ap (λ b. cond b (Some e.1) (look_up c rs)) (named-same c e)
    ∙ ap (λ r. cond (is_same_name c e.0) (Some e.1) r) (look_up-find c rs)

-- ---- look-ups in a directory that stands for entries

module _ (f : Form) (lot : LotView) (o : Table) (i h : ℕ) (c : List ℕ) (es : Entries) where
  abbrev rs : List DirRow
  rs = rows_in f (o i)

  -- where a row has the name, the directory has an entry of it, and the row's inode stands for its tree
  pub child-found : (j : ℕ) → Reads f lot o i h (Dir es) → look_up c rs ≡ Some j
      → (s : Tree) × (child c (Dir es) ≡ Found s) × Reads f lot o j (h + 1) s × (inode_named c rs ≡ j)
  child-found j r is =
      let row : find by_bytes c rs ≡ Some j = sym (look_up-find c rs) ∙ is in
      let here : inode_named c rs ≡ j = ap (λ x. unwrap_or x 0) row in
      elim (find by_bytes c (rows es)) as (λ x. find by_bytes c (rows es) ≡ x
      → (s : Tree) × (found_or_not x ≡ Found s) × Reads f lot o j (h + 1) s × (inode_named c rs ≡ j)) [
        | None ↦ λ e. absurd (subst T (sym (sym (ap is_some e) ∙ r.1.maps c ∙ ap is_some row)) tt)
        | Some s ↦ λ e. (s, refl, subst (λ x. Reads f lot o x (h + 1) s) here (entry_reads f lot o rs (h + 1) c es s e r.2), here)
      ] refl

  -- where no row has the name, the directory has no entry of it
  pub child-none : Reads f lot o i h (Dir es) → look_up c rs ≡ None → child c (Dir es) ≡ NotFound
  child-none r is =
      let none : is_some (find by_bytes c (rows es)) ≡ false = r.1.maps c ∙ ap is_some (sym (look_up-find c rs) ∙ is) in
      elim (find by_bytes c (rows es)) as (λ x. is_some x ≡ false → found_or_not x ≡ NotFound) [
        | None ↦ λ e. refl
        | Some s ↦ λ e. absurd (subst T e tt)
      ] none

-- ---- look-ups are the same in any order of rows whose names differ

abbrev pub names_of : List DirRow → List (List ℕ)
names_of rs = map (λ (row : DirRow). row.0) rs

find-lookup : (q : List ℕ) (rs : List DirRow) → find by_bytes q rs ≡ lookup (eq_by_cmp by_bytes q) rs
find-lookup q [] = refl
find-lookup q (e ∷ rs) = ap (λ r. cond (is_same_name q e.0) (Some e.1) r) (find-lookup q rs)

-- a row that is found is one of them
found_row : (q : List ℕ) (v : ℕ) (rs : List DirRow) → find by_bytes q rs ≡ Some v → Contains rs (q, v)
found_row q v [] is = absurd (None≢Some v is)
found_row q v (e ∷ rs) is =
    elim (is_same_name q e.0) as (λ b. is_same_name q e.0 ≡ b → cond b (Some e.1) (find by_bytes q rs) ≡ Some v → Contains (e ∷ rs) (q, v)) [
      | true ↦ λ t k. (0, omega arith, λ i. (sym (same_name q e.0 t) i, same_Some _ _ k i))
      | false ↦ λ t k. let r = found_row q v rs k in (suc r.0, omega arith, r.2)
    ] refl is

row_found : (q : List ℕ) (v : ℕ) (rs : List DirRow) → IsDistinct (eq_by_cmp by_bytes) (names_of rs) → Contains rs (q, v) → find by_bytes q rs ≡ Some v
row_found q v rs d h = find-lookup q rs ∙ lookup-from_Contains (eq_by_cmp_equiv nat_list_cmp_total) q v rs d h

same_options : {A : Type 0} (x y : Option A) → ((v : A) → x ≡ Some v → y ≡ Some v) → ((v : A) → y ≡ Some v → x ≡ Some v) → x ≡ y
same_options None None a b = refl
same_options None (Some w) a b = b w refl
same_options (Some v) y a b = sym (a v refl)

distinct-moved : (rs ss : List DirRow) → IsPermutation rs ss → IsDistinct (eq_by_cmp by_bytes) (names_of rs) → IsDistinct (eq_by_cmp by_bytes) (names_of ss)
distinct-moved rs ss p d =
    IsDistinct-IsPermutation (eq_by_cmp by_bytes) is_same_name-sym (names_of rs) (names_of ss) (IsPermutation-map (λ (row : DirRow). row.0) rs ss p) d

find-moved : (rs ss : List DirRow) (q : List ℕ) → IsPermutation rs ss → IsDistinct (eq_by_cmp by_bytes) (names_of rs) → find by_bytes q ss ≡ find by_bytes q rs
find-moved rs ss q p d =
    same_options (find by_bytes q ss) (find by_bytes q rs)
    (λ v is. row_found q v rs d (Contains-permutation ss rs (q, v) (IsPermutation-sym rs ss p) (found_row q v ss is)))
    (λ v is. row_found q v ss (distinct-moved rs ss p d) (Contains-permutation rs ss (q, v) p (found_row q v rs is)))

-- ---- the rows without one

-- the rows are those that were, but for the one of this name
pub record RowGone (f : Form) (c : List ℕ) (rs ss : List DirRow) : Type 0 where
  pub fit : All (λ (row : DirRow). IsNameOf f row.0) ss
  pub differ : IsDistinct (eq_by_cmp by_bytes) (map (λ (row : DirRow). row.0) ss)
  pub others : (q : List ℕ) → find by_bytes q ss ≡ cond (eq_by_cmp by_bytes c q) None (find by_bytes q rs)
  pub fewer : length ss + 1 ≡ length rs

none_tied : (q : List ℕ) (ks : List (List ℕ)) → AllByRecursion (λ y. eq_by_cmp by_bytes q y ≡ false) ks → list_any (eq_by_cmp by_bytes q) ks ≡ false
none_tied q [] h = refl
none_tied q (k ∷ ks) h = ap (λ b. b || list_any (eq_by_cmp by_bytes q) ks) h.0 ∙ none_tied q ks h.1

not_some : {A : Type 0} (r : Option A) → is_some r ≡ false → r ≡ None
not_some None e = refl
not_some (Some x) e = absurd (subst T e tt)

-- past the row of a name no row has it
find-past : (e : DirRow) (ss : List DirRow) → IsDistinct (eq_by_cmp by_bytes) (names_of (e ∷ ss)) → find by_bytes e.0 ss ≡ None
find-past e ss d =
    not_some (find by_bytes e.0 ss) (is_some-find by_bytes e.0 ss ∙ none_tied e.0 (names_of ss) (IsDistinct-head (eq_by_cmp by_bytes) e.0 (names_of ss) d))

find-rest : (e : DirRow) (ss : List DirRow) (q : List ℕ) → IsDistinct (eq_by_cmp by_bytes) (names_of (e ∷ ss))
    → find by_bytes q ss ≡ cond (is_same_name e.0 q) None (find by_bytes q (e ∷ ss))
find-rest e ss q d =
    elim (is_same_name e.0 q) as (λ b. is_same_name e.0 q ≡ b → find by_bytes q ss ≡ cond b None (find by_bytes q (e ∷ ss))) [
      | true ↦ λ t. ap (λ x. find by_bytes x ss) (sym (same_name e.0 q t)) ∙ find-past e ss d
      | false ↦ λ t. ap (λ b. cond b (Some e.1) (find by_bytes q ss)) (sym (is_same_name-sym q e.0 ∙ t))
    ] refl

row-gone : (f : Form) (rs ss : List DirRow) (e : DirRow) → IsPermutation rs (e ∷ ss) → IsDistinct (eq_by_cmp by_bytes) (names_of rs)
    → All (λ (row : DirRow). IsNameOf f row.0) rs → RowGone f e.0 rs ss
row-gone f rs ss e p d fit =
    let all = distinct-moved rs (e ∷ ss) p d in
    record {
      fit = All-tail (λ (row : DirRow). IsNameOf f row.0) e ss (All-permutation (λ (row : DirRow). IsNameOf f row.0) rs (e ∷ ss) p fit);
      differ = IsDistinct-tail (eq_by_cmp by_bytes) e.0 (names_of ss) all;
      others = λ q. find-rest e ss q all ∙ ap (λ r. cond (is_same_name e.0 q) None r) (find-moved rs (e ∷ ss) q p d);
      fewer = omega (arith, length_permutation rs (e ∷ ss) p);
    }

-- where the row of a name stands
module _ (c : List ℕ) (j : ℕ) (rs : List DirRow) (is : look_up c rs ≡ Some j) where
  abbrev at : ℕ
  at = position_or_len (named c) rs

  abbrev gone : DirRow
  gone = get_or rs at ([], 0)

  inside : at < length rs
  inside =
      let low = prefix_len-le-length (λ (row : DirRow). not (named c row)) rs in
      let none : length rs ≤ at → None ≡ Some j =
      (λ past. ap (option_map (λ (row : DirRow). row.1)) (sym (slice_get_past rs at past))
      ∙ ap (option_map (λ (row : DirRow). row.1)) (sym (find_at (named c) rs)) ∙ is) in
      omega (arith, low, (λ (past : length rs ≤ at). None≢Some j (none past)))

  gone-named : gone.0 ≡ c
  gone-named = same_text gone.0 c (sym (passes_at_first (named c) rs ([], 0) inside))

  without-moved : IsPermutation rs (gone ∷ rows_without c rs)
  without-moved =
      let last : get_or rs (length rs - 1) gone ≡ get_or rs (length rs - 1) ([], 0) = get_or_default rs (length rs - 1) gone ([], 0) (omega (arith, inside)) in
      subst (λ (x : DirRow). IsPermutation rs (gone ∷ take (length rs - 1) (slice_set rs at x))) last
      (IsPermutation-swap_remove rs at gone inside (get_or_default rs at ([], 0) gone inside))

pub dir_without : (f : Form) (c : List ℕ) (j : ℕ) (rs ss : List DirRow) → ss ≡ rows_without c rs → look_up c rs ≡ Some j
    → IsDistinct (eq_by_cmp by_bytes) (map (λ (row : DirRow). row.0) rs) → All (λ (row : DirRow). IsNameOf f row.0) rs → RowGone f c rs ss
dir_without f c j rs ss e is d fit =
    subst (λ xs. RowGone f c rs xs) (sym e)
    (subst (λ x. RowGone f x rs (rows_without c rs)) (gone-named c j rs is)
    (row-gone f rs (rows_without c rs) (gone c j rs is) (without-moved c j rs is) d fit))

-- ---- the rows with one more

-- the rows are those that were, and a new one
pub record RowCame (f : Form) (c : List ℕ) (j : ℕ) (rs ss : List DirRow) : Type 0 where
  pub fit : All (λ (row : DirRow). IsNameOf f row.0) ss
  pub differ : IsDistinct (eq_by_cmp by_bytes) (map (λ (row : DirRow). row.0) ss)
  pub others : (q : List ℕ) → find by_bytes q ss ≡ cond (eq_by_cmp by_bytes q c) (Some j) (find by_bytes q rs)
  pub more : length ss ≡ length rs + 1
