-- The entries of a directory, listed in order.
use Rattle.std.proofs.Common.{◌≡◌, ◌<◌, ◌+◌, ◌*◌, ◌/◌, ℕ, suc, Bool, true, false, cond, T, List, [], ◌∷◌, ◌++◌, map, length, take, get_or, Option, None, Some, ◌∙◌, sym, refl, ap, subst, arith}
use Rattle.std.proofs.lemmas.List.{get_or-map, length-map, map-append, take_more}
use Rattle.std.proofs.lemmas.List.Sorted.{IsPermutation-map, IsPermutation-sym, Contains-permutation}
use Rattle.std.proofs.lemmas.Option.{get_or_from_slice_get, slice_get-get_or}
use Rattle.std.proofs.lemmas.Nat.{div-add-mod'}
use Rattle.std.proofs.lemmas.Map.Entries.{lookup_from_place}
use Rattle.std.proofs.lemmas.Map.Keys.{IsDistinct-IsPermutation, apart_from_distinct, sorted_from_all_adjacent}
use Rattle.std.proofs.lemmas.Map.Views.{lookup-from_Contains}
use Rattle.std.specs.Prelude.{is_some, ◌&&◌, Contains, slice_get, IfSome}
use Rattle.std.specs.Cmp.{eq_by_cmp_equiv}
use Rattle.std.specs.Cmp.Lexicographic.{nat_list_cmp_total}
use Rattle.std.specs.Ordering.{eq_by_cmp, is_lt, is_eq, ordering_reverse}
use Rattle.std.specs.FinMap.{find, is_sorted, slice_cmp-IsAntisymmetric, nat_cmp-IsAntisymmetric}
use Rattle.std.specs.FinMap.Entries.{same_entries, below_all}
use Rattle.std.specs.List.{IsDistinct, AllByRecursion}
use Rattle.std.specs.List.Sorted.{IsPermutation, IsSorted, IsStrictlySortedBy}
use Rattle.std.specs.Map.{lookup}
use Rattle.std.specs.Option.{option_map}
use Rattle.std.specs.declared.cmp.Ordering.TheVariants.{Less, Equal, Greater}
use Rattle.ice_base.specs.Lots.{LotView}
use Rattle.ice_base.specs.declared.fault.OpFault.{OpFault}
use Rattle.ice_base.specs.declared.fault.OpFault.TheVariants.{Disk, Damaged}
use Rattle.ice_base.specs.declared.fault.Rule.TheVariants.{Kind, Pointer, Name as BadName}
use Rattle.ice_map.specs.declared.codec.Inode.{Inode}
use Rattle.ice_map.specs.Inodes.{inode_of}
use Rattle.ice_map.specs.Maps.{leads}
use Rattle.ice_dir.specs.Rows.{DirRow, HasEntry, per_block, row_of, dir_rows_of}
use Rattle.ice_dir.specs.Faults.{IsEntryFault}
use Rattle.ice_dir.proofs.DirLaws.{get-row, length-rows, per-sixteen}
use Rattle.tree_spec.specs.Answers.{listed, tree_found, is_dir}
use Rattle.tree_spec.specs.Costs.{Form, form_one}
use Rattle.tree_spec.specs.Held.{by_name}
use Rattle.tree_spec.specs.Trees.{Tree, Dir, Entries, rows, by_bytes, child, found_or_not, Found}
use Rattle.tree_spec.specs.Trees as tree
use Rattle.tree_spec.specs.Names.{is_name}
use Rattle.tree_spec.specs.declared.reply.Entry.{Entry}
use Rattle.tree_spec.proofs.Trees.{same_name, is_same_name-sym}
use Rattle.ice_reads.specs.Tables.{Table, Map, rows_in, IsNameOf}
use Rattle.ice_map.specs.Own.{own}
use Rattle.ice_reads.specs.Reads.{Reads}
use Rattle.ice_reads.proofs.Focus.{same_Some, None≢Some}
use Rattle.ice_reads.proofs.LookUps.{look_up-find, child-found}
use Rattle.ice_look.specs.Listings.{listed_as}
use Rattle.ice_look.specs.Places.{place_by}
use Rattle.ice_look.specs.declared.place.Place.{Place}
use Rattle.ice_look.specs.declared.place.Place.TheVariants as place
use Rattle.ice_look.proofs.PlaceLaws.{inode-own, rows-own, dir-leads, true_false}

-- ---- look-ups among keys that differ

module _ {X : Type 0} where
  abbrev keys : List (List ℕ × X) → List (List ℕ)
  keys xs = map (λ (e : List ℕ × X). e.0) xs

  find-lookup : (q : List ℕ) (xs : List (List ℕ × X)) → find by_bytes q xs ≡ lookup (eq_by_cmp by_bytes q) xs
  find-lookup q [] = refl
  find-lookup q (e ∷ xs) = ap (λ r. cond (eq_by_cmp by_bytes q e.0) (Some e.1) r) (find-lookup q xs)

  found_in : (q : List ℕ) (v : X) (xs : List (List ℕ × X)) → find by_bytes q xs ≡ Some v → Contains xs (q, v)
  found_in q v [] is = absurd (None≢Some v is)
  found_in q v (e ∷ xs) is =
      elim (eq_by_cmp by_bytes q e.0) as (λ b. eq_by_cmp by_bytes q e.0 ≡ b → cond b (Some e.1) (find by_bytes q xs) ≡ Some v → Contains (e ∷ xs) (q, v)) [
        | true ↦ λ t k. (0, omega arith, λ i. (sym (same_name q e.0 t) i, same_Some _ _ k i))
        | false ↦ λ t k. let r = found_in q v xs k in (suc r.0, omega arith, r.2)
      ] refl is

  in_found : (q : List ℕ) (v : X) (xs : List (List ℕ × X)) → IsDistinct (eq_by_cmp by_bytes) (keys xs) → Contains xs (q, v) → find by_bytes q xs ≡ Some v
  in_found q v xs d h = find-lookup q xs ∙ lookup-from_Contains (eq_by_cmp_equiv nat_list_cmp_total) q v xs d h

  same_options : (x y : Option X) → ((v : X) → x ≡ Some v → y ≡ Some v) → ((v : X) → y ≡ Some v → x ≡ Some v) → x ≡ y
  same_options None None a b = refl
  same_options None (Some w) a b = b w refl
  same_options (Some v) y a b = sym (a v refl)

  distinct-moved : (xs ys : List (List ℕ × X)) → IsPermutation xs ys → IsDistinct (eq_by_cmp by_bytes) (keys xs) → IsDistinct (eq_by_cmp by_bytes) (keys ys)
  distinct-moved xs ys p d =
      IsDistinct-IsPermutation (eq_by_cmp by_bytes) is_same_name-sym (keys xs) (keys ys) (IsPermutation-map (λ (e : List ℕ × X). e.0) xs ys p) d

  find-moved : (xs ys : List (List ℕ × X)) (q : List ℕ) → IsPermutation xs ys → IsDistinct (eq_by_cmp by_bytes) (keys xs)
      → find by_bytes q ys ≡ find by_bytes q xs
  find-moved xs ys q p d =
      same_options (find by_bytes q ys) (find by_bytes q xs)
      (λ v is. in_found q v xs d (Contains-permutation ys xs (q, v) (IsPermutation-sym xs ys p) (found_in q v ys is)))
      (λ v is. in_found q v ys (distinct-moved xs ys p d) (Contains-permutation xs ys (q, v) p (found_in q v xs is)))

  -- keys that strictly rise
  below : (x : List ℕ) (xs : List (List ℕ × X)) → AllByRecursion (λ y. by_bytes x y ≡ Less) (keys xs) → T (below_all by_bytes x xs)
  below x [] h = tt
  below x (e ∷ xs) h = both (is_lt (by_bytes x e.0)) (below_all by_bytes x xs) (subst (λ r. T (is_lt r)) (sym h.0) tt) (below x xs h.1)
    where
      both : (a b : Bool) → T a → T b → T (a && b)
      both true b p q = q
      both false b p q = p

  rising : (xs : List (List ℕ × X)) → IsStrictlySortedBy by_bytes (keys xs) → T (is_sorted by_bytes xs)
  unfolding IsStrictlySortedBy
  rising [] h = tt
  rising (e ∷ xs) h = both (below_all by_bytes e.0 xs) (is_sorted by_bytes xs) (below e.0 xs h.0) (rising xs h.1)
    where
      both : (a b : Bool) → T a → T b → T (a && b)
      both true b p q = q
      both false b p q = p

-- the order of keys doesn't see values
below-map : {X Y : Type 0} (w : X → Y) (x : List ℕ) (xs : List (List ℕ × X))
    → below_all by_bytes x (map (λ (e : List ℕ × X). (e.0, w e.1)) xs) ≡ below_all by_bytes x xs
below-map w x [] = refl
below-map w x (e ∷ xs) = ap (λ b. is_lt (by_bytes x e.0) && b) (below-map w x xs)

is_sorted-map : {X Y : Type 0} (w : X → Y) (xs : List (List ℕ × X)) → is_sorted by_bytes (map (λ (e : List ℕ × X). (e.0, w e.1)) xs) ≡ is_sorted by_bytes xs
is_sorted-map w [] = refl
is_sorted-map w (e ∷ xs) = (λ i. below-map w e.0 xs i && is_sorted-map w xs i)

-- ---- entries as names with kinds

abbrev Tagged : Type 0
Tagged = List ℕ × Bool

abbrev kind_of : Entry → Tagged
kind_of e = (e.name, e.dir)

abbrev entry_of : Tagged → Entry
entry_of k = record { name = k.0; dir = k.1 }

back : (es : List Entry) → map entry_of (map kind_of es) ≡ es
back [] = refl
back (e ∷ es) = ap (λ xs. e ∷ xs) (back es)

names-kinds : (es : List Entry) → keys (map kind_of es) ≡ map (λ (e : Entry). e.name) es
names-kinds [] = refl
names-kinds (e ∷ es) = ap (λ xs. e.name ∷ xs) (names-kinds es)

-- neighbours that are in order and differ rise
rises : (a b : List ℕ) → is_lt (by_bytes b a) ≡ false → eq_by_cmp by_bytes a b ≡ false → by_bytes a b ≡ Less
rises a b order differ =
    elim (by_bytes a b) as (λ r. by_bytes a b ≡ r → is_eq r ≡ false → r ≡ Less) [
      | Less ↦ λ e d. refl
      | Equal ↦ λ e d. absurd (subst T d tt)
      | Greater ↦ λ e d. absurd (subst T (sym (ap is_lt (nat_list_cmp_total.antisymm b a ∙ ap ordering_reverse e)) ∙ order) tt)
    ] refl differ

sorted-kinds : (es : List Entry) → IsSorted by_name es → IsDistinct (eq_by_cmp by_bytes) (keys (map kind_of es)) → T (is_sorted by_bytes (map kind_of es))
sorted-kinds es sorted differ =
    let none : Entry = record { name = []; dir = false } in
    let names : List (List ℕ) = map (λ (e : Entry). e.name) es in
    let long = length-map es (λ (e : Entry). e.name) in
    let apart : IsDistinct (eq_by_cmp by_bytes) names = subst (IsDistinct (eq_by_cmp by_bytes)) (names-kinds es) differ in
    rising (map kind_of es) (subst (IsStrictlySortedBy by_bytes) (sym (names-kinds es))
    (sorted_from_all_adjacent nat_list_cmp_total names [] (λ k l.
    let at : (j : ℕ) → j < length es → get_or names j [] ≡ (get_or es j none).name = (λ j h. get_or-map (λ (e : Entry). e.name) es j none [] h) in
    rises (get_or names k []) (get_or names (k + 1) [])
    (ap is_lt ((λ i. by_bytes (at (k + 1) (omega arith) i) (at k (omega arith) i))) ∙ sorted k none (omega arith) (omega arith))
    (apart_from_distinct (eq_by_cmp by_bytes) names k (k + 1) [] apart (omega arith) (omega arith)))))

-- ---- the listing

module _ (es : Entries) where
  abbrev kind_under : List ℕ → Bool
  kind_under c = is_dir (tree_found (child c (Dir es)))

  abbrev tagged : DirRow → Tagged
  tagged row = (row.0, kind_under row.0)

  kinds-rows : (rs : List DirRow) → map kind_of (map (listed_as es) rs) ≡ map tagged rs
  kinds-rows [] = refl
  kinds-rows (e ∷ rs) = ap (λ xs. tagged e ∷ xs) (kinds-rows rs)

  keys-tagged : (rs : List DirRow) → keys (map tagged rs) ≡ map (λ (row : DirRow). row.0) rs
  keys-tagged [] = refl
  keys-tagged (e ∷ rs) = ap (λ xs. e.0 ∷ xs) (keys-tagged rs)

  find-tagged : (q : List ℕ) (rs : List DirRow) → find by_bytes q (map tagged rs) ≡ cond (is_some (find by_bytes q rs)) (Some (kind_under q)) None
  find-tagged q [] = refl
  find-tagged q (e ∷ rs) =
      elim (eq_by_cmp by_bytes q e.0) as (λ b. eq_by_cmp by_bytes q e.0 ≡ b
      → cond b (Some (kind_under e.0)) (find by_bytes q (map tagged rs)) ≡ cond (is_some (cond b (Some e.1) (find by_bytes q rs))) (Some (kind_under q)) None) [
        | true ↦ λ t. ap (λ x. Some (kind_under x)) (sym (same_name q e.0 t))
        | false ↦ λ t. find-tagged q rs
      ] refl

abbrev kind_in : List ℕ × Tree → Tagged
kind_in e = (e.0, is_dir e.1)

kinds-listed : (xs : List (List ℕ × Tree)) → map kind_of (map listed xs) ≡ map kind_in xs
kinds-listed [] = refl
kinds-listed (e ∷ xs) = ap (λ ys. kind_in e ∷ ys) (kinds-listed xs)

find-kinds : (q : List ℕ) (xs : List (List ℕ × Tree)) → find by_bytes q (map kind_in xs) ≡ option_map is_dir (find by_bytes q xs)
find-kinds q [] = refl
find-kinds q (e ∷ xs) =
    elim (eq_by_cmp by_bytes q e.0) as (λ b. cond b (Some (is_dir e.1)) (find by_bytes q (map kind_in xs)) ≡ option_map is_dir
    (cond b (Some e.1) (find by_bytes q xs))) [
      | true ↦ refl
      | false ↦ find-kinds q xs
    ]

-- the rows of a directory, each with the kind of its tree and then sorted by name, are the tree's own entries
pub sorted-listing : (es : Entries) (rs : List DirRow) (found : List Entry) → T (is_sorted by_bytes (rows es))
    → IsDistinct (eq_by_cmp by_bytes) (map (λ (row : DirRow). row.0) rs)
    → ((c : List ℕ) → is_some (find by_bytes c (rows es)) ≡ is_some (find by_bytes c rs)) → IsPermutation (map (listed_as es) rs) found
    → IsSorted by_name found → found ≡ map listed (rows es)
sorted-listing es rs found order differ maps moved sorted =
    let p : IsPermutation (map (tagged es) rs) (map kind_of found) = subst (λ xs. IsPermutation xs (map kind_of found)) (kinds-rows es rs)
    (IsPermutation-map kind_of (map (listed_as es) rs) found moved) in
    let d : IsDistinct (eq_by_cmp by_bytes) (keys (map (tagged es) rs)) = subst (IsDistinct (eq_by_cmp by_bytes)) (sym (keys-tagged es rs)) differ in
    let up : T (is_sorted by_bytes (map kind_of found)) = sorted-kinds found sorted (distinct-moved (map (tagged es) rs) (map kind_of found) p d) in
    let down : T (is_sorted by_bytes (map kind_in (rows es))) = subst T (sym (is_sorted-map is_dir (rows es))) order in
    let same : map kind_of found ≡ map kind_in (rows es) =
    same_entries by_bytes nat_list_cmp_total (slice_cmp-IsAntisymmetric nat_cmp-IsAntisymmetric) (map kind_of found) (map kind_in (rows es)) up down
    (λ q. find-moved (map (tagged es) rs) (map kind_of found) q p d ∙ find-tagged es q rs
    ∙ ap (λ b. cond b (Some (kind_under es q)) None) (sym (maps q)) ∙ of_tree q ∙ sym (find-kinds q (rows es))) in
    sym (back found) ∙ ap (map entry_of) (same ∙ sym (kinds-listed (rows es))) ∙ back (map listed (rows es))
  where
    of_tree : (q : List ℕ) → cond (is_some (find by_bytes q (rows es))) (Some (kind_under es q)) None ≡ option_map is_dir (find by_bytes q (rows es))
    of_tree q =
        elim (find by_bytes q (rows es)) as (λ r. cond (is_some r)
        (Some (is_dir (tree_found (found_or_not r)))) None ≡ option_map is_dir r) [ None ↦ refl | Some t ↦ refl ]

-- ---- one row

-- the tree of a row
pub row-tree : (f : Form) (lot : LotView) (o : Table) (i h : ℕ) (es : Entries) → Reads f lot o i h (Dir es) → (k : ℕ) (c : List ℕ) (j : ℕ)
    → slice_get (rows_in f (o i)) k ≡ Some (c, j)
    → (s : Tree) × (child c (Dir es) ≡ Found s) × Reads f lot o j (h + 1) s
row-tree f lot o i h es r k c j is =
    let found = find-lookup c (rows_in f (o i)) ∙ lookup_from_place (eq_by_cmp_equiv nat_list_cmp_total) (rows_in f (o i)) k c j r.1.differ is in
    let s = child-found f lot o i h c es j r (look_up-find c (rows_in f (o i)) ∙ found) in
    (s.0, s.1, s.2)

-- the kind that its place shows
pub shows-dir : (p : Place) (n z j : ℕ) (s : Tree) (b : Bool) → p ≡ place_by j (Found s) → p ≡ place.Dir n z → b ≡ true → b ≡ is_dir s
shows-dir p n z j (tree.File bytes) b at is t = absurd (no (sym is ∙ at))
  where
    no : place.Dir n z ≡ place.File j (length bytes) → ⊥
    no is = cc
shows-dir p n z j (Dir es) b at is t = t

pub shows-file : (p : Place) (j : ℕ) (s : Tree) (b : Bool) → p ≡ place_by j (Found s) → ((n z : ℕ) → p ≡ place.Dir n z → ⊥) → b ≡ false → b ≡ is_dir s
shows-file p j (tree.File bytes) b at not t = t
shows-file p j (Dir es) b at not t = absurd (not j (length (rows es)) at)

pub listed-row : (es : Entries) (row : DirRow) (c : List ℕ) (j : ℕ) (s : Tree) (e : Entry) → row ≡ (c, j) → child c (Dir es) ≡ Found s
    → e.name ≡ c → e.dir ≡ is_dir s → e ≡ listed_as es row
listed-row es row c j s e is found name kind =
    (λ i. entry_of (name i, kind i)) ∙ ap (λ w. entry_of (c, is_dir (tree_found w))) (sym found) ∙ ap (listed_as es) (sym is)

-- ---- faults

entry-faults : (e : OpFault) → IsEntryFault e → (e ≡ Damaged Kind → ⊥) → (e ≡ Damaged Pointer → ⊥) → (e ≡ Damaged BadName → ⊥) → e ≡ Disk
entry-faults Disk h k p n = refl
entry-faults (Damaged Kind) h k p n = absurd (k refl)
entry-faults (Damaged Pointer) h k p n = absurd (p refl)
entry-faults (Damaged BadName) h k p n = absurd (n refl)
entry-faults _ h k p n = absurd h

module _ (f : Form) (one : f ≡ form_one) (lot : LotView) (m : Map) (i h : ℕ) (es : Entries) (r : Reads f lot (own f m) i h (Dir es)) where
  entry-is : (k : ℕ) → k < length (rows es) → HasEntry lot k (inode_of m i)
  entry-is k below =
      let own = inode-own f one lot m i h in
      record {
        is = record { kind = ap (λ (x : Inode). x.kind) (sym own) ∙ r.1.is_dir; few = omega (arith, r.1.within, ap (λ (x : Inode). x.size) own) };
        below = omega (arith, below, r.1.count, ap (λ (x : Inode). x.size) own);
      }

  block-below : (k : ℕ) (form : Form) → form ≡ form_one → k < (inode_of m i).size → k / per_block form * per_block form < (inode_of m i).size
  block-below k form e h =
      let q = div-add-mod' k 16 in
      let small : k / 16 * 16 < (inode_of m i).size = omega (arith, q) in
      rw (per-sixteen form e) small

  -- an entry of a directory that stands for a tree fails by the disk alone
  pub entry-fails : (k : ℕ) (form : Form) → k < length (rows es) → form ≡ form_one → (e : OpFault) → IsEntryFault e
      → (e ≡ Damaged Kind → HasEntry lot k (inode_of m i) → ⊥)
      → (e ≡ Damaged Pointer → leads lot m (inode_of m i) (k / per_block form) ≡ false)
      → (e ≡ Damaged BadName → IfSome (slice_get (dir_rows_of form m i) k) (λ row. is_name row.0 ≡ false)) → e ≡ Disk
  entry-fails k form below en e faults kind pointer name =
      let has = entry-is k below in
      entry-faults e faults (λ q. kind q has)
      (λ q. true_false (leads lot m (inode_of m i) (k / per_block form))
      (dir-leads f one lot m i h (Dir es) r form (k / per_block form) en has.is.kind (block-below k form en has.below)) (pointer q))
      (λ q.
      let row = get-row form m i k en has.is.kind has.below in
      let same = ap (λ (xs : List DirRow). slice_get xs k) (rows-own f one lot m i h form en) ∙ row in
      let long = ap length (rows-own f one lot m i h form en) ∙ length-rows form m i en in
      let has_below = has.below in
      let fits : IsNameOf f (row_of form m (inode_of m i) k).0 =
      subst (λ (x : DirRow). IsNameOf f x.0)
      (get_or_from_slice_get (rows_in f (own f m i)) k (row_of form m (inode_of m i) k) ([], 0) same) (r.1.fit k ([], 0) (omega arith)) in
      true_false (is_name (row_of form m (inode_of m i) k).0) fits.is (subst (λ o. IfSome o (λ row. is_name row.0 ≡ false)) row (name q)))

  -- as many rows as entries
  pub rows-long : (form : Form) → form ≡ form_one → length (rows_in f (own f m i)) ≡ length (rows es)
  rows-long form e =
      ap length (rows-own f one lot m i h form e) ∙ length-rows form m i e ∙ ap (λ (x : Inode). x.size) (sym (inode-own f one lot m i h)) ∙ sym r.1.count

-- one entry more in the room
pub listed-more : (es : Entries) (rs : List DirRow) (k : ℕ) (old new : List Entry) → k < length rs → old ≡ map (listed_as es) (take k rs)
    → ((row : DirRow) → slice_get rs k ≡ Some row → new ≡ old ++ listed_as es row ∷ [])
    → new ≡ map (listed_as es) (take (k + 1) rs)
listed-more es rs k old new below was more =
    more (get_or rs k ([], 0)) (slice_get-get_or rs k ([], 0) below)
    ∙ ap (λ xs. xs ++ listed_as es (get_or rs k ([], 0)) ∷ []) was
    ∙ sym (ap (map (listed_as es)) (take_more rs k ([], 0) below) ∙ map-append (listed_as es) (take k rs) (get_or rs k ([], 0) ∷ []))
