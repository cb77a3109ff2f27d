-- As many groups are free by the tables as by the world that they show.
use Rattle.std.proofs.Common.{◌≡◌, ◌≢◌, ◌∙◌, ⊎_elim, ◌≤◌, ◌<◌, ◌+◌, ◌&&◌, ◌==◌, ℕ, zero, suc, Bool, true, false, cond, List, [], ◌∷◌, length, length-append, Option, Some, None, option_map, refl, sym, ap, arith}
use Rattle.std.specs.Prelude.{nat_lt, filter, flat_map, is_some, is_none, slice_index}
use Rattle.std.specs.List.{range_with_len, sum_by}
use Rattle.std.proofs.lemmas.Bool.{cases_eq}
use Rattle.std.proofs.lemmas.Bool.Decides.{nat_tests}
use Rattle.std.proofs.lemmas.List.Sums.{sum_by-cons}
use Rattle.ice_base.specs.Disk.{Image}
use Rattle.tree_spec.specs.Records.{Cube}
use Rattle.tree_spec.specs.World.{World, groups_at}
use Rattle.tree_spec.specs.World as world
use Rattle.ice_tables.specs.Tables.{Tables, Row, HasTables}
use Rattle.ice_tables.specs.Lots.{is_slot, groups_of}
use Rattle.ice_tables.proofs.LotSites.{is_slot-some, group_held}
use Rattle.ice_tables.proofs.TableLaws.{row_low}
use Rattle.ice_images.specs.Fitting.{Entry, ShowCubes, cube_entry}
use Rattle.ice_system.specs.Plans.{free_groups}
use Rattle.ice_volume.proofs.Changing.{entry_with}

-- ---- sums

abbrev bit : Bool → ℕ
bit b = cond b 1 0

length_cond : (x : ℕ) (xs : List ℕ) (b : Bool) → length (cond b (x ∷ xs) xs) ≡ bit b + length xs
length_cond x xs true = omega arith
length_cond x xs false = omega arith

sum_zero : (f : ℕ → ℕ) (xs : List ℕ) → ((x : ℕ) → f x ≡ 0) → sum_by f xs ≡ 0
sum_zero f [] zeros = refl
sum_zero f (x ∷ xs) zeros = omega (arith, sum_by-cons f x xs, zeros x, sum_zero f xs zeros)

sum_same : (f g : ℕ → ℕ) (xs : List ℕ) → ((x : ℕ) → f x ≡ g x) → sum_by f xs ≡ sum_by g xs
sum_same f g [] same = refl
sum_same f g (x ∷ xs) same = omega (arith, sum_by-cons f x xs, sum_by-cons g x xs, same x, sum_same f g xs same)

sum_add : (f g : ℕ → ℕ) (xs : List ℕ) → sum_by (λ x. f x + g x) xs ≡ sum_by f xs + sum_by g xs
sum_add f g [] = refl
sum_add f g (x ∷ xs) = omega (arith, sum_by-cons (λ y. f y + g y) x xs, sum_by-cons f x xs, sum_by-cons g x xs, sum_add f g xs)

-- one number of a range is this one
none_at : (k a n : ℕ) → k < a → sum_by (λ o. bit (k == o)) (range_with_len a n) ≡ 0
none_at k a zero less = refl
none_at k a (suc n) less =
    let other : (k == a) ≡ false = grind (arith, nat_tests) in
    let first : bit (k == a) ≡ 0 = ap bit other in
    omega (arith, sum_by-cons (λ o. bit (k == o)) a (range_with_len (a + 1) n), first, none_at k (a + 1) n (omega (arith, less)))

one_here : (k a n : ℕ) → k ≡ a → sum_by (λ o. bit (k == o)) (range_with_len a (suc n)) ≡ 1
one_here k a n same =
    let is : (k == a) ≡ true = grind (arith, nat_tests) in
    let first : bit (k == a) ≡ 1 = ap bit is in
    omega (arith, sum_by-cons (λ o. bit (k == o)) a (range_with_len (a + 1) n), first, none_at k (a + 1) n (omega (arith, same)))

one_later : (k a n : ℕ) → k ≢ a → sum_by (λ o. bit (k == o)) (range_with_len (a + 1) n) ≡ 1 → sum_by (λ o. bit (k == o)) (range_with_len a (suc n)) ≡ 1
one_later k a n other rest =
    let differ : (k == a) ≡ false = grind (arith, nat_tests) in
    let first : bit (k == a) ≡ 0 = ap bit differ in
    omega (arith, sum_by-cons (λ o. bit (k == o)) a (range_with_len (a + 1) n), first, rest)

one_at : (k a n : ℕ) → a ≤ k → k < a + n → sum_by (λ o. bit (k == o)) (range_with_len a n) ≡ 1
one_at k a zero low high = absurd (omega (arith, low, high))
one_at k a (suc n) low high = ⊎_elim
    (λ same. one_here k a n same)
    (λ other. one_later k a n other (one_at k (a + 1) n (omega (arith, low, other)) (omega (arith, high))))
    (cases_eq k a)

-- ---- lists that are split by a key

length_flat : (f : ℕ → List ℕ) (xs : List ℕ) → length (flat_map f xs) ≡ sum_by (λ x. length (f x)) xs
length_flat f [] = refl
length_flat f (x ∷ xs) = omega (arith, length-append (f x) (flat_map f xs), sum_by-cons (λ y. length (f y)) x xs, length_flat f xs)

-- where each element passes just one of the tests, or none, the parts make up those that pass one
parts : (test : ℕ → ℕ → Bool) (whole : ℕ → Bool) (xs gs : List ℕ) → ((g : ℕ) → sum_by (λ x. bit (test x g)) xs ≡ bit (whole g))
    → sum_by (λ x. length (filter (test x) gs)) xs ≡ length (filter whole gs)
parts test whole xs [] each = sum_zero (λ x. 0) xs (λ x. refl)
parts test whole xs (g ∷ gs) each =
    sum_same (λ x. length (filter (test x) (g ∷ gs))) (λ x. bit (test x g) + length (filter (test x) gs)) xs
    (λ x. length_cond g (filter (test x) gs) (test x g))
    ∙ sum_add (λ x. bit (test x g)) (λ x. length (filter (test x) gs)) xs
    ∙ omega (arith, each g, parts test whole xs gs each, length_cond g (filter whole gs) (whole g))

-- ---- the groups of an image

module _ (t : Tables) where
  -- as many groups as belong to the slot
  slot_count : (s : ℕ) → ((g : ℕ) → t.holder g ≡ Some s → t.ordinal g < 64)
      → length (groups_of t s) ≡ length (filter (λ g. is_slot (t.holder g) s) (range_with_len 0 t.groups))
  unfolding groups_of
  slot_count s low =
      length_flat (λ o. filter (λ g. is_slot (t.holder g) s && t.ordinal g == o) (range_with_len 0 t.groups)) (range_with_len 0 64)
      ∙ parts (λ o g. is_slot (t.holder g) s && t.ordinal g == o) (λ g. is_slot (t.holder g) s) (range_with_len 0 64) (range_with_len 0 t.groups)
      (λ g. by (t.ordinal g) (is_slot (t.holder g) s) (λ is. low g (is_slot-some (t.holder g) s is)))
    where
      by : (k : ℕ) (b : Bool) → (b ≡ true → k < 64) → sum_by (λ o. bit (b && k == o)) (range_with_len 0 64) ≡ bit b
      by k true less = one_at k 0 64 (omega arith) (less refl)
      by k false less = sum_zero (λ o. 0) (range_with_len 0 64) (λ o. refl)

  -- the slots' groups make up those that belong to one
  held_count : ((g s : ℕ) → t.holder g ≡ Some s → s < t.slots)
      → sum_by (λ s. length (filter (λ g. is_slot (t.holder g) s) (range_with_len 0 t.groups))) (range_with_len 0 t.slots)
      ≡ length (filter (λ g. is_some (t.holder g)) (range_with_len 0 t.groups))
  held_count low =
      parts (λ s g. is_slot (t.holder g) s) (λ g. is_some (t.holder g)) (range_with_len 0 t.slots) (range_with_len 0 t.groups)
      (λ g. by (t.holder g) (low g))
    where
      by : (o : Option ℕ) → ((s : ℕ) → o ≡ Some s → s < t.slots) → sum_by (λ s. bit (is_slot o s)) (range_with_len 0 t.slots) ≡ bit (is_some o)
      by None less = sum_zero (λ s. 0) (range_with_len 0 t.slots) (λ s. refl)
      by (Some r) less = let low = less r refl in one_at r 0 t.slots (omega arith) (omega (arith, low))

  -- a group belongs to a slot, or it is free
  free_or_held : (a n : ℕ) → a + n ≤ t.groups
      → length (filter (λ g. nat_lt g t.groups && is_none (t.holder g)) (range_with_len a n))
      + length (filter (λ g. is_some (t.holder g)) (range_with_len a n)) ≡ n
  free_or_held a zero few = refl
  free_or_held a (suc n) few =
      let rest = free_or_held (a + 1) n (omega (arith, few)) in
      let free = length_cond a (filter (λ g. nat_lt g t.groups && is_none (t.holder g)) (range_with_len (a + 1) n))
      (nat_lt a t.groups && is_none (t.holder a)) in
      let held = length_cond a (filter (λ g. is_some (t.holder g)) (range_with_len (a + 1) n)) (is_some (t.holder a)) in
      let inside : nat_lt a t.groups ≡ true = grind (arith, nat_tests) in
      omega (arith, rest, free, held, by (nat_lt a t.groups) (t.holder a) inside)
    where
      by : (b : Bool) (o : Option ℕ) → b ≡ true → bit (b && is_none o) + bit (is_some o) ≡ 1
      by true None is = refl
      by true (Some s) is = refl
      by false o is = absurd (cc is)

-- ---- the tables of an image

module _ (i : Image) (t : Tables) (has : HasTables i t) where
  -- a slot without a row has no groups
  pub none_has : (s : ℕ) → t.row s ≡ None → groups_of t s ≡ []
  none_has s free = by (groups_of t s) (λ less. group_held t s 0 less)
    where
      by : (gs : List ℕ) → (0 < length gs → t.holder (slice_index gs 0) ≡ Some s) → gs ≡ []
      by [] held = refl
      by (g ∷ gs) held = absurd (cc (free, has.owners.live g s (held (omega arith))))

  ordinal_low : (g s : ℕ) → t.holder g ≡ Some s → t.ordinal g < 64
  ordinal_low g s held = let n = has.owners.groups s (has.owners.live g s held) in omega (arith, n.1.below g held, n.1.few)

  holder_low : (g s : ℕ) → t.holder g ≡ Some s → s < t.slots
  holder_low g s held = row_low i t s has (has.owners.live g s held)

  all_groups : length (free_groups t) + sum_by (λ s. length (groups_of t s)) (range_with_len 0 t.slots) ≡ t.groups
  unfolding free_groups
  all_groups =
      let held = sum_same (λ s. length (groups_of t s)) (λ s. length (filter (λ g. is_slot (t.holder g) s) (range_with_len 0 t.groups)))
      (range_with_len 0 t.slots)
      (λ s. slot_count t s (λ g is. ordinal_low g s is)) ∙ held_count t holder_low in
      omega (arith, held, free_or_held t 0 t.groups (omega arith))

  module _ (w : World) (shows : ShowCubes t w) where
    -- a slot's cube has as many groups as the slot
    pub groups_shown : (s : ℕ) → groups_at (w.cube s) ≡ length (groups_of t s)
    groups_shown s = by (t.row s) (w.cube s) refl (shows.entries s)
      where
        groups_in : ℕ → Option Entry → ℕ
        groups_in n None = n
        groups_in n (Some e) = e.groups

        by : (o : Option Row) (c : Option Cube) → t.row s ≡ o → entry_with (groups_of t s) o ≡ option_map cube_entry c → groups_at c ≡ length (groups_of t s)
        by None None free e = sym (ap (λ (gs : List ℕ). length gs) (none_has s free))
        by None (Some c) free e = absurd (cc e)
        by (Some r) None row e = absurd (cc e)
        by (Some r) (Some c) row e = sym (ap (groups_in 0) e)

    -- as many groups are free
    pub free_shown : world.free_groups w ≡ length (free_groups t)
    unfolding Rattle.tree_spec.specs.World.free_groups
    free_shown =
        let sums = sum_same (λ s. groups_at (w.cube s)) (λ s. length (groups_of t s)) (range_with_len 0 w.slots) groups_shown in
        let slots : sum_by (λ s. length (groups_of t s)) (range_with_len 0 t.slots) ≡ sum_by (λ s. length (groups_of t s)) (range_with_len 0 w.slots) =
        ap (λ (n : ℕ). sum_by (λ s. length (groups_of t s)) (range_with_len 0 n)) shows.slots in
        omega (arith, sums, slots, all_groups, shows.groups)
