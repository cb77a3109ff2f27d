-- Names in an array: what order says of equal ones, and what they say of a directory.
use Rattle.std.proofs.Common.{◌≡◌, ◌≢◌, ℕ, suc, zero, ◌+◌, ◌-◌, ◌<◌, ◌≤◌, ◌==◌, Bool, true, false, List, [], ◌∷◌, length, take, get_or, Some, sym, refl, ap, ◌∙◌, subst, arith, set, length-take, length-set}
use Rattle.std.specs.Prelude.{IsSorted, IsSortedBy, IsPermutation, slice_get}
use Rattle.std.specs.List.{sum_by}
use Rattle.std.specs.Ordering.{eq_by_cmp, is_lt, ordering_reverse}
use Rattle.std.specs.Cmp.Lexicographic.{nat_list_cmp_total}
use Rattle.std.specs.FinMap.{slice_cmp-IsAntisymmetric, nat_cmp-IsAntisymmetric}
use Rattle.std.specs.declared.cmp.Ordering.{Ordering}
use Rattle.std.specs.declared.cmp.Ordering.TheVariants.{Less, Equal, Greater}
use Rattle.std.proofs.lemmas.Bool.Decides.{nat_tests}
use Rattle.std.proofs.lemmas.List.{get_or-take, get_or-map, length-map, get_or-set_same, get_or-set_other}
use Rattle.std.proofs.lemmas.List.MinMax.{ranks_by}
use Rattle.std.proofs.lemmas.List.Sorted.{sorted_far, sum_by-IsPermutation, IsPermutation-map}
use Rattle.std.proofs.lemmas.List.Sums.{sum_by-cons}
use Rattle.std.proofs.lemmas.Option.{slice_get-get_or, slice_get_within}
use Rattle.ice_base.specs.Lots.{LotView}
use Rattle.ice_base.specs.declared.fault.Rule.TheVariants as rule
use Rattle.ice_dir.specs.Rows.{DirRow}
use Rattle.ice_map.specs.Own.{mark, own}
use Rattle.tree_spec.specs.Costs.{form_one}
use Rattle.tree_spec.specs.Routes.{is_same_name}
use Rattle.tree_spec.specs.Trees.{by_bytes}
use Rattle.tree_spec.proofs.Trees.{same_name, is_same_name-refl}
use Rattle.ice_reads.specs.Tables.{Map, rows_in, IsNameOf}
use Rattle.ice_reads.proofs.Focus.{same_Some}
use Rattle.ice_rules.specs.Walks.{walk_entry, LooksInto}
use Rattle.ice_rules.specs.Rules.{Breaks}
use Rattle.ice_check.specs.Marks.{stands_before, AreRead, AllNew}
use Rattle.ice_check.specs.declared.names.Kept.{Kept}
use Rattle.ice_check.specs.Names.{kept_name, array_names, AllDiffer, TwoAlike}

no : {A : Type 0} → true ≡ false → A
no e = absurd (cc)

-- ---- how often a list has a name

often : List ℕ → List (List ℕ) → ℕ
often c xs = sum_by (λ x. mark (is_same_name c x)) xs

often-cons : (c x : List ℕ) (xs : List (List ℕ)) → often c (x ∷ xs) ≡ mark (is_same_name c x) + often c xs
unfolding often
often-cons c x xs = sum_by-cons (λ y. mark (is_same_name c y)) x xs

often-none : (c : List ℕ) → often c [] ≡ 0
unfolding often
often-none c = refl

often-moved : (c : List ℕ) (xs ys : List (List ℕ)) → IsPermutation xs ys → often c ys ≡ often c xs
unfolding often
often-moved c xs ys p = sum_by-IsPermutation (λ x. mark (is_same_name c x)) xs ys p

same-mark : (c x : List ℕ) → x ≡ c → mark (is_same_name c x) ≡ 1
same-mark c x e = ap mark (subst (λ y. is_same_name c y ≡ true) (sym e) (is_same_name-refl c))

often_one : (c : List ℕ) (xs : List (List ℕ)) (k : ℕ) → k < length xs → get_or xs k [] ≡ c → 1 ≤ often c xs
often_one c [] k h e = absurd (omega arith)
often_one c (x ∷ xs) zero h e = omega (arith, often-cons c x xs, same-mark c x e)
often_one c (x ∷ xs) (suc k) h e = omega (arith, often-cons c x xs, often_one c xs k (omega arith) e)

often_two : (c : List ℕ) (xs : List (List ℕ)) (i j : ℕ) → i < j → j < length xs → get_or xs i [] ≡ c → get_or xs j [] ≡ c → 2 ≤ often c xs
often_two c [] i j lt h e f = absurd (omega arith)
often_two c (x ∷ xs) i zero lt h e f = absurd (omega arith)
often_two c (x ∷ xs) zero (suc j) lt h e f = omega (arith, often-cons c x xs, same-mark c x e, often_one c xs j (omega arith) f)
often_two c (x ∷ xs) (suc i) (suc j) lt h e f = omega (arith, often-cons c x xs, often_two c xs i j (omega arith) (omega arith) e f)

one_at : (c : List ℕ) (xs : List (List ℕ)) → 1 ≤ often c xs → (k : ℕ) × (k < length xs) × (get_or xs k [] ≡ c)
one_at c [] h = absurd (omega (arith, often-none c))
one_at c (x ∷ xs) h =
    elim (is_same_name c x) as (λ b. is_same_name c x ≡ b → (k : ℕ) × (k < length (x ∷ xs)) × (get_or (x ∷ xs) k [] ≡ c)) [
      | true ↦ λ e. (0, omega arith, sym (same_name c x e))
      | false ↦ λ e. let r = one_at c xs (omega (arith, often-cons c x xs, ap mark e)) in (suc r.0, omega (arith, r.1), r.2)
    ] refl

two_at : (c : List ℕ) (xs : List (List ℕ)) → 2 ≤ often c xs → TwoAlike xs
two_at c [] h = absurd (omega (arith, often-none c))
two_at c (x ∷ xs) h =
    elim (is_same_name c x) as (λ b. is_same_name c x ≡ b → TwoAlike (x ∷ xs)) [
      | true ↦ λ e.
          let r = one_at c xs (omega (arith, often-cons c x xs, ap mark e)) in
          record { one = 0; other = suc r.0; below = omega arith; within = omega (arith, r.1); same = sym (same_name c x e) ∙ sym r.2 }
      | false ↦ λ e.
          let r = two_at c xs (omega (arith, often-cons c x xs, ap mark e)) in
          let low = r.below in
          let high = r.within in
          record { one = suc r.one; other = suc r.other; below = omega arith; within = omega arith; same = r.same }
    ] refl

-- ---- a list in another order

pub alike_before : (xs ys : List (List ℕ)) → IsPermutation xs ys → TwoAlike ys → TwoAlike xs
alike_before xs ys p t =
    let c = get_or ys t.one [] in
    two_at c xs (omega (arith, often-moved c xs ys p, often_two c ys t.one t.other t.below t.within refl (sym t.same)))

pub differ_before : (xs ys : List (List ℕ)) → IsPermutation xs ys → ((i j : ℕ) → i < j → j < length ys → get_or ys i [] ≢ get_or ys j []) → AllDiffer xs
differ_before xs ys p apart = record { apart = λ i j hi hj ne e. order i j hi hj ne e }
  where
    one : (i j : ℕ) → i < j → j < length xs → get_or xs i [] ≡ get_or xs j [] → ⊥
    one i j lt h e =
        let c = get_or xs i [] in
        let t = two_at c ys (omega (arith, often-moved c xs ys p, often_two c xs i j lt h refl (sym e))) in
        apart t.one t.other t.below t.within t.same

    order : (i j : ℕ) → i < length xs → j < length xs → i ≢ j → get_or xs i [] ≡ get_or xs j [] → ⊥
    order i j hi hj ne e =
        let up : i < j → ⊥ = λ lt. one i j lt hj e in
        let down : j < i → ⊥ = λ lt. one j i lt hi (sym e) in
        omega arith

-- ---- a list in order

tied : (r s : Ordering) → r ≡ ordering_reverse s → is_lt r ≡ false → is_lt s ≡ false → r ≡ Equal
tied Less s e a b = no a
tied Equal s e a b = refl
tied Greater Less e a b = no b
tied Greater Equal e a b = absurd (cc)
tied Greater Greater e a b = absurd (cc)

pub sorted_differ : (xs : List (List ℕ)) → IsSorted by_bytes xs → ((k : ℕ) → k + 1 < length xs → get_or xs k [] ≢ get_or xs (k + 1) [])
    → (i j : ℕ) → i < j → j < length xs → get_or xs i [] ≢ get_or xs j []
sorted_differ xs up apart i j lt h e =
    let a = get_or xs i [] in
    let b = get_or xs (i + 1) [] in
    let near = up i [] (omega arith) (omega arith) in
    let far = sorted_far (λ x y. is_lt (by_bytes x y)) (ranks_by nat_list_cmp_total (λ (x : List ℕ). x)) xs up (i + 1) j [] (omega arith) h in
    let other : is_lt (by_bytes a b) ≡ false = subst (λ c. is_lt (by_bytes c b) ≡ false) (sym e) far in
    apart i (omega arith)
    (slice_cmp-IsAntisymmetric nat_cmp-IsAntisymmetric a b (tied (by_bytes a b) (by_bytes b a) (nat_list_cmp_total.antisymm a b) other near))

-- ---- names in an array

none : Kept
none = record { bytes = []; len = 0 }

pub kept_at : (ks : List Kept) (k : ℕ) (d : Kept) → k < length ks → get_or (array_names ks) k [] ≡ kept_name (get_or ks k d)
kept_at ks k d h = get_or-map kept_name ks k d [] h

pub kept_take : (ks : List Kept) (count k : ℕ) → count ≤ length ks → k < count → get_or (array_names (take count ks)) k [] ≡ get_or (array_names ks) k []
kept_take ks count k room h =
    kept_at (take count ks) k none (omega (arith, length-take count ks)) ∙ ap kept_name (get_or-take count ks k none h) ∙ sym (kept_at ks k none (omega arith))

pub cut_long : (ks : List Kept) (count : ℕ) → count ≤ length ks → length (array_names (take count ks)) ≡ count
cut_long ks count room = omega (arith, length-map {A = Kept} {B = List ℕ} (take count ks) kept_name, length-take count ks)

pub kept_set : (ks : List Kept) (k : ℕ) (x : Kept) → k < length ks → get_or (array_names (set ks k x)) k [] ≡ kept_name x
kept_set ks k x h = kept_at (set ks k x) k x (omega (arith, length-set {A = Kept})) ∙ ap kept_name (get_or-set_same ks k x x h)

pub kept_others : (ks : List Kept) (k j : ℕ) (x : Kept) → k < length ks → j < length ks → j ≢ k
    → get_or (array_names (set ks k x)) j [] ≡ get_or (array_names ks) j []
kept_others ks k j x h hj ne =
    kept_at (set ks k x) j x (omega (arith, length-set {A = Kept})) ∙ ap kept_name (get_or-set_other ks k j x x ne) ∙ sym (kept_at ks j x hj)

-- names beside each other in a loop over the array
pub neighbours_alike : (ks : List Kept) (k : ℕ) (d e : Kept) → 1 ≤ k → k < length ks
    → kept_name (get_or ks (k - 1) d) ≡ kept_name (get_or ks k e) → get_or (array_names ks) (k - 1) [] ≡ get_or (array_names ks) (k - 1 + 1) []
neighbours_alike ks k d e one h same =
    let next : k ≡ k - 1 + 1 = omega arith in
    kept_at ks (k - 1) d (omega arith) ∙ same ∙ sym (kept_at ks k e h) ∙ ap (λ x. get_or (array_names ks) x []) next

pub neighbours_more : (ks : List Kept) (k : ℕ) (d e : Kept) → 1 ≤ k → k < length ks
    → ((j : ℕ) → j + 1 < k → get_or (array_names ks) j [] ≡ get_or (array_names ks) (j + 1) [] → ⊥)
    → kept_name (get_or ks (k - 1) d) ≢ kept_name (get_or ks k e)
    → (j : ℕ) → j + 1 < k + 1 → get_or (array_names ks) j [] ≡ get_or (array_names ks) (j + 1) [] → ⊥
neighbours_more ks k d e one h before apart j lt same =
    elim (j + 1 == k) as (λ t. (j + 1 == k) ≡ t → ⊥) [
      | true ↦ λ t.
          let here : j + 1 ≡ k = grind (arith, nat_tests) in
          let last : k - 1 ≡ j = omega arith in
          apart (sym (kept_at ks (k - 1) d (omega arith)) ∙ ap (λ x. get_or (array_names ks) x []) last ∙ same
          ∙ ap (λ x. get_or (array_names ks) x []) here ∙ kept_at ks k e h)
      | false ↦ λ t. let other : j + 1 ≢ k = grind (arith, nat_tests) in before j (omega arith) same
    ] refl

-- after a sort, whose neighbours differ
pub sorted_names : (old new : List Kept) → IsPermutation old new → IsSortedBy (λ a b. is_lt (by_bytes (kept_name a) (kept_name b))) new
    → ((k : ℕ) → k + 1 < length new → get_or (array_names new) k [] ≢ get_or (array_names new) (k + 1) []) → AllDiffer (array_names old)
sorted_names old new p up apart =
    differ_before (array_names old) (array_names new) (IsPermutation-map kept_name old new p)
    (sorted_differ (array_names new) sorted (λ k h. apart k (omega (arith, length-map {A = Kept} {B = List ℕ} new kept_name))))
  where
    sorted : IsSorted by_bytes (array_names new)
    sorted k d low h =
        let l = length-map {A = Kept} {B = List ℕ} new kept_name in
        subst (λ x. is_lt (by_bytes x (get_or (array_names new) k d)) ≡ false) (sym (get_or-map kept_name new (k + 1) none d (omega arith)))
        (subst (λ x. is_lt (by_bytes (kept_name (get_or new (k + 1) none)) x) ≡ false)
        (sym (get_or-map kept_name new k none d (omega arith))) (up k none low (omega arith)))

-- and whose neighbours are alike somewhere
pub sorted_alike : (old new : List Kept) (k : ℕ) → IsPermutation old new → k + 1 < length new
    → get_or (array_names new) k [] ≡ get_or (array_names new) (k + 1) [] → TwoAlike (array_names old)
sorted_alike old new k p h e =
    alike_before (array_names old) (array_names new) (IsPermutation-map kept_name old new p)
    (record { one = k; other = k + 1; below = omega arith; within = omega (arith, length-map {A = Kept} {B = List ℕ} new kept_name); same = e })

-- ---- the names of a directory

none_taken : (c : List ℕ) (rs : List DirRow) (k : ℕ)
    → ((i : ℕ) (r : DirRow) → i < k → slice_get rs i ≡ Some r → eq_by_cmp by_bytes c r.0 ≡ false) → stands_before rs k c ≡ false
none_taken c [] zero h = refl
none_taken c [] (suc k) h = refl
none_taken c (r ∷ rs) zero h = refl
none_taken c (r ∷ rs) (suc k) h =
    rw (h 0 r (omega arith) refl) (none_taken c rs k (λ i s lt at. h (suc i) s (omega arith) at))

module _ (lot : LotView) (m : Map) (dir count : ℕ) (names cut : List (List ℕ))
    (is : count ≡ length (rows_in form_one (own form_one m dir))) (long : length cut ≡ count)
    (same : (k : ℕ) → k < count → get_or cut k [] ≡ get_or names k []) (read : AreRead m dir count names) where
  abbrev rs : List DirRow
  rs = rows_in form_one (own form_one m dir)

  name-at : (k : ℕ) (row : DirRow) → k < count → walk_entry form_one m dir k ≡ Some row → get_or cut k [] ≡ row.0
  name-at k row h at = same k h ∙ read.each k row h at

  pub new_names : AllDiffer cut → AllNew m dir
  new_names d = record { each = λ k row at. none_taken row.0 rs k (λ i r lt here. by k row at i r lt here (eq_by_cmp by_bytes row.0 r.0) refl) }
    where
      by : (k : ℕ) (row : DirRow) → walk_entry form_one m dir k ≡ Some row → (i : ℕ) (r : DirRow) → i < k → slice_get rs i ≡ Some r
          → (b : Bool) → eq_by_cmp by_bytes row.0 r.0 ≡ b → b ≡ false
      by k row at i r lt here false e = refl
      by k row at i r lt here true e =
          let low : k < count = omega (arith, slice_get_within rs k row at) in
          absurd (d.apart i k (omega (arith, long)) (omega (arith, long)) (omega arith)
          (name-at i r (omega arith) here ∙ sym (same_name row.0 r.0 e) ∙ sym (name-at k row low at)))

  pub names_alike : (w : List ℕ) → LooksInto form_one lot m w dir → TwoAlike cut → Breaks form_one lot m rule.NameTwice
  names_alike w looks t =
      let low = t.below in let high = t.within in
      let hj : t.other < count = omega (arith, long) in
      let hi : t.one < count = omega (arith, long) in
      let ri = slice_get-get_or rs t.one ([], 0) (omega arith) in
      let rj = slice_get-get_or rs t.other ([], 0) (omega arith) in
      let ni = name-at t.one _ hi ri in
      let nj = name-at t.other _ hj rj in
      record {
        walk = w;
        dir = dir;
        entry = t.one;
        other = t.other;
        row = get_or rs t.one ([], 0);
        next = get_or rs t.other ([], 0);
        looks = looks;
        apart = λ e. omega arith;
        is = ri;
        too = rj;
        name = subst (λ c. IsNameOf form_one c) (read.each t.one (get_or rs t.one ([], 0)) hi ri) (read.fit t.one hi);
        same = sym ni ∙ t.same ∙ nj;
      }

-- one name more was read
pub read_more : (m : Map) (dir k next : ℕ) (name : List ℕ) (ks : List Kept) (x : Kept) → k < length ks
    → walk_entry form_one m dir k ≡ Some (name, next) → kept_name x ≡ name → IsNameOf form_one name → AreRead m dir k (array_names ks)
    → AreRead m dir (k + 1) (array_names (set ks k x))
read_more m dir k next name ks x room at is fit old = record { each = each; fit = fits }
  where
    here : get_or (array_names (set ks k x)) k [] ≡ name
    here = kept_set ks k x room ∙ is

    each : (j : ℕ) (row : DirRow) → j < k + 1 → walk_entry form_one m dir j ≡ Some row → get_or (array_names (set ks k x)) j [] ≡ row.0
    each j row lt there =
        elim (j == k) as (λ t. (j == k) ≡ t → get_or (array_names (set ks k x)) j [] ≡ row.0) [
          | true ↦ λ t.
              let same : j ≡ k = grind (arith, nat_tests) in
              let one : (name, next) ≡ row = same_Some (name, next) row (sym at ∙ ap (λ n. walk_entry form_one m dir n) (sym same) ∙ there) in
              ap (λ n. get_or (array_names (set ks k x)) n []) same ∙ here ∙ ap (λ (r : DirRow). r.0) one
          | false ↦ λ t. let other : j ≢ k = grind (arith, nat_tests) in kept_others ks k j x room (omega arith) other ∙ old.each j row (omega arith) there
        ] refl

    fits : (j : ℕ) → j < k + 1 → IsNameOf form_one (get_or (array_names (set ks k x)) j [])
    fits j lt =
        elim (j == k) as (λ t. (j == k) ≡ t → IsNameOf form_one (get_or (array_names (set ks k x)) j [])) [
          | true ↦ λ t.
              let same : j ≡ k = grind (arith, nat_tests) in
              subst (λ c. IsNameOf form_one c) (sym (ap (λ n. get_or (array_names (set ks k x)) n []) same ∙ here)) fit
          | false ↦ λ t.
              let other : j ≢ k = grind (arith, nat_tests) in
              subst (λ c. IsNameOf form_one c) (sym (kept_others ks k j x room (omega arith) other)) (old.fit j (omega arith))
        ] refl
