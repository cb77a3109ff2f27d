-- The free groups, one group after another.
use Rattle.std.proofs.Common.{◌≡◌, ◌≢◌, ◌∙◌, ◌≤◌, ◌<◌, ◌+◌, ◌-◌, ◌&&◌, ◌==◌, inl, inr, ℕ, zero, suc, Bool, true, false, List, [], ◌∷◌, ◌++◌, length, take, None, refl, sym, ap, subst, arith, length-append, length-take, append_assoc}
use Rattle.std.specs.Prelude.{◌⊎◌, cond, slice_index, filter, nat_lt, is_none}
use Rattle.std.specs.List.{range_with_len}
use Rattle.std.proofs.lemmas.Bool.{cases_lt, cases_eq}
use Rattle.std.proofs.lemmas.Bool.Decides.{nat_tests}
use Rattle.std.proofs.lemmas.List.{take_all, take-append-le, append-nil, get_or-take, get_or_append_left, get_or-append_right}
use Rattle.ice_owner.specs.Owners.{OwnersView, Changes, groups_at, holder, is_free, free_groups}
use Rattle.ice_owner.specs.Places.{mark_slot}
use Rattle.ice_owner.proofs.Held.{holder_none, none_held}

-- ---- filters of ranges

next_from : (test : ℕ → Bool) (a n : ℕ) → filter test (range_with_len a (suc n)) ≡ filter test (range_with_len a n) ++ cond (test (a + n)) ((a + n) ∷ []) []
next_from test a zero = let e : a ≡ a + 0 = omega arith in ap (λ (x : ℕ). cond (test x) (x ∷ []) []) e
next_from test a (suc n) = by (test a) (next_from test (a + 1) n
    ∙ ap (λ (x : ℕ). filter test (range_with_len (a + 1) n) ++ cond (test x) (x ∷ []) []) (let e : a + 1 + n ≡ a + suc n = omega arith in e))
  where
    by : (b : Bool) → filter test (range_with_len (a + 1) (suc n)) ≡ filter test (range_with_len (a + 1) n) ++ cond (test (a + suc n)) ((a + suc n) ∷ []) []
        → cond b (a ∷ filter test (range_with_len (a + 1) (suc n))) (filter test (range_with_len (a + 1) (suc n)))
        ≡ cond b (a ∷ filter test (range_with_len (a + 1) n)) (filter test (range_with_len (a + 1) n)) ++ cond (test (a + suc n)) ((a + suc n) ∷ []) []
    by true rest = ap (λ (xs : List ℕ). a ∷ xs) rest
    by false rest = rest

-- the numbers below g + 1 that pass are those below g, and g where it passes
pub filter_next : (test : ℕ → Bool) (g : ℕ) (b : Bool) → test g ≡ b
    → filter test (range_with_len 0 (g + 1)) ≡ filter test (range_with_len 0 g) ++ cond b (g ∷ []) []
filter_next test g b is =
    let e : g + 1 ≡ suc g = omega arith in
    let d : 0 + g ≡ g = omega arith in
    ap (λ (n : ℕ). filter test (range_with_len 0 n)) e ∙ next_from test 0 g ∙ ap (λ (x : ℕ). filter test (range_with_len 0 g) ++ cond (test x) (x ∷ []) []) d
    ∙ ap (λ (c : Bool). filter test (range_with_len 0 g) ++ cond c (g ∷ []) []) is

pub count_next : (test : ℕ → Bool) (g : ℕ) (b : Bool) → test g ≡ b
    → length (filter test (range_with_len 0 (g + 1))) ≡ length (filter test (range_with_len 0 g)) + cond b 1 0
count_next test g true is = ap length (filter_next test g true is) ∙ length-append (filter test (range_with_len 0 g)) (g ∷ [])
count_next test g false is = ap length (filter_next test g false is) ∙ length-append (filter test (range_with_len 0 g)) []

filter_same : (p q : ℕ → Bool) (a n : ℕ) → ((g : ℕ) → g < a + n → p g ≡ q g) → filter p (range_with_len a n) ≡ filter q (range_with_len a n)
filter_same p q a zero same = refl
filter_same p q a (suc n) same =
    let here : p a ≡ q a = same a (omega arith) in
    let rest = filter_same p q (a + 1) n (λ g low. same g (omega (arith, low))) in
    ap (λ (b : Bool). cond b (a ∷ filter p (range_with_len (a + 1) n)) (filter p (range_with_len (a + 1) n))) here
    ∙ ap (λ (xs : List ℕ). cond (q a) (a ∷ xs) xs) rest

-- ---- free groups and marks

-- a group is free where its mark is 0
pub free_mark : (v : OwnersView) (marks : List ℕ) → ((g : ℕ) → holder v g ≡ mark_slot (slice_index marks g))
    → (g : ℕ) → g < v.groups → is_free v g ≡ (slice_index marks g == 0)
free_mark v marks held g low = by (slice_index marks g) (held g)
  where
    by : (mark : ℕ) → holder v g ≡ mark_slot mark → is_free v g ≡ (mark == 0)
    by zero is = let less : nat_lt g v.groups ≡ true = grind (arith, nat_tests) in let same : (0 == 0) ≡ true = grind (arith, nat_tests) in
        ap (λ b. b && is_none (holder v g)) less ∙ ap is_none is ∙ sym same
    by (suc k) is = let less : nat_lt g v.groups ≡ true = grind (arith, nat_tests) in
        let other : (suc k == 0) ≡ false = grind (arith, nat_tests) in ap (λ b. b && is_none (holder v g)) less ∙ ap is_none is ∙ sym other

pub free_is : (v : OwnersView) (marks : List ℕ) → ((g : ℕ) → holder v g ≡ mark_slot (slice_index marks g))
    → free_groups v ≡ filter (λ g. slice_index marks g == 0) (range_with_len 0 v.groups)
unfolding free_groups
free_is v marks held = filter_same (λ g. is_free v g) (λ g. slice_index marks g == 0) 0 v.groups (λ g low. free_mark v marks held g (omega (arith, low)))

-- ---- the first ones that pass

filter_low : (test : ℕ → Bool) (a n o : ℕ) → o < length (filter test (range_with_len a n)) → slice_index (filter test (range_with_len a n)) o < a + n
filter_low test a zero o low = absurd (omega (arith, low))
filter_low test a (suc n) o low = by (test a) o (λ o low. let less = filter_low test (a + 1) n o low in
    let e : slice_index (filter test (range_with_len (a + 1) n)) o < a + suc n = omega (arith, less) in e) low
  where
    by : (b : Bool) (o : ℕ) → ((o : ℕ) → o < length (filter test (range_with_len (a + 1) n))
        → slice_index (filter test (range_with_len (a + 1) n)) o < a + suc n)
        → o < length (cond b (a ∷ filter test (range_with_len (a + 1) n)) (filter test (range_with_len (a + 1) n)))
        → slice_index (cond b (a ∷ filter test (range_with_len (a + 1) n)) (filter test (range_with_len (a + 1) n))) o < a + suc n
    by true zero rest low = omega arith
    by true (suc o) rest low = rest o (omega (arith, low))
    by false o rest low = rest o low

pub first_low : (test : ℕ → Bool) (count g o : ℕ) → o < length (take count (filter test (range_with_len 0 g)))
    → slice_index (take count (filter test (range_with_len 0 g))) o < g
first_low test count g o low =
    let xs = filter test (range_with_len 0 g) in
    let long = length-take count xs in
    let less = filter_low test 0 g o (omega (arith, long, low)) in
    let same = get_or-take count xs o 0 (omega (arith, long, low)) in
    omega (arith, less, same)

take_next : (count : ℕ) (xs : List ℕ) (x : ℕ) → length (take count xs) < count → take count (xs ++ x ∷ []) ≡ take count xs ++ x ∷ []
take_next count xs x room =
    let less : length xs < count = omega (arith, length-take count xs, room) in
    take_all count (xs ++ x ∷ []) (omega (arith, length-append xs (x ∷ []), less))
    ∙ ap (λ (ys : List ℕ). ys ++ x ∷ []) (sym (take_all count xs (omega (arith, less))))

-- one more that passes
pub first_next : (test : ℕ → Bool) (count g : ℕ) → test g ≡ true → length (take count (filter test (range_with_len 0 g))) < count
    → take count (filter test (range_with_len 0 (g + 1))) ≡ take count (filter test (range_with_len 0 g)) ++ g ∷ []
first_next test count g is room = ap (λ (xs : List ℕ). take count xs) (filter_next test g true is) ∙ take_next count (filter test (range_with_len 0 g)) g room

-- enough of them already
pub first_full : (test : ℕ → Bool) (count g : ℕ) → length (take count (filter test (range_with_len 0 g))) ≡ count
    → take count (filter test (range_with_len 0 (g + 1))) ≡ take count (filter test (range_with_len 0 g))
first_full test count g full =
    let xs = filter test (range_with_len 0 g) in
    ap (λ (ys : List ℕ). take count ys) (filter_next test g (test g) refl)
    ∙ take-append-le count xs (cond (test g) (g ∷ []) []) (omega (arith, length-take count xs, full))

-- one that doesn't pass
pub first_skip : (test : ℕ → Bool) (count g : ℕ) → test g ≡ false
    → take count (filter test (range_with_len 0 (g + 1))) ≡ take count (filter test (range_with_len 0 g))
first_skip test count g is = ap (λ (xs : List ℕ). take count xs) (filter_next test g false is ∙ append-nil (filter test (range_with_len 0 g)))

-- ---- a slot that gets groups

pub changes_more : (v w u : OwnersView) (s : ℕ) (xs ys : List ℕ) → Changes v w s (groups_at v s ++ xs)
    → Changes w u s (groups_at w s ++ ys) → Changes v u s (groups_at v s ++ (xs ++ ys))
changes_more v w u s xs ys a b = record {
  lot = b.lot ∙ ap (λ (zs : List ℕ). zs ++ ys) a.lot ∙ append_assoc (groups_at v s) xs ys;
  others = λ r other. b.others r other ∙ a.others r other;
  size = b.size ∙ a.size;
}

pub changes_none : (v : OwnersView) (s : ℕ) → Changes v v s (groups_at v s ++ [])
changes_none v s = record { lot = sym (append-nil (groups_at v s)); others = λ r other. refl; size = refl }

-- a free group that the slot did not get is free still
pub still_free : (v w : OwnersView) (slot : ℕ) (xs : List ℕ) → Changes v w slot (groups_at v slot ++ xs) → (g : ℕ)
    → holder v g ≡ None → ((o : ℕ) → o < length xs → slice_index xs o ≢ g) → holder w g ≡ None
still_free v w slot xs changed g free never = holder_none w g (λ s o low at. by s o low at (cases_eq s slot))
  where
    among : (o : ℕ) → o < length (groups_at v slot ++ xs) → slice_index (groups_at v slot ++ xs) o ≡ g
        → (o < length (groups_at v slot)) ⊎ (length (groups_at v slot) ≤ o) → ⊥
    among o low at (inl less) = none_held v g free slot o less (sym (get_or_append_left (groups_at v slot) xs 0 o less) ∙ at)
    among o low at (inr high) =
        let p : ℕ = o - length (groups_at v slot) in
        never p (omega (arith, length-append (groups_at v slot) xs, low, high))
        (sym (get_or-append_right (groups_at v slot) xs (length (groups_at v slot)) o 0 refl high) ∙ at)

    by : (s o : ℕ) → o < length (groups_at w s) → slice_index (groups_at w s) o ≡ g → (s ≡ slot) ⊎ (s ≡ slot → ⊥) → ⊥
    by s o low at (inl same) =
        let list : groups_at w s ≡ groups_at v slot ++ xs = ap (λ (r : ℕ). groups_at w r) same ∙ changed.lot in
        among o (subst (λ (ys : List ℕ). o < length ys) list low) (subst (λ (ys : List ℕ). slice_index ys o ≡ g) list at)
        (cases_lt o (length (groups_at v slot)))
    by s o low at (inr other) =
        let list = changed.others s other in
        none_held v g free s o (subst (λ (ys : List ℕ). o < length ys) list low) (subst (λ (ys : List ℕ). slice_index ys o ≡ g) list at)

-- the free groups of an image are those of all its groups that are free
pub free_all : (v : OwnersView) → free_groups v ≡ filter (λ g. is_free v g) (range_with_len 0 v.groups)
unfolding free_groups
free_all v = refl

-- a slot has got the first of the free groups below g, up to a count, of which so many are left
pub record IsPushed (v w : OwnersView) (slot count left g : ℕ) : Type 0 where
  pub pushed : Changes v w slot (groups_at v slot ++ take count (filter (λ h. is_free v h) (range_with_len 0 g)))
  pub rest : left + length (take count (filter (λ h. is_free v h) (range_with_len 0 g))) ≡ count

pub pushed_none : (v : OwnersView) (slot count : ℕ) → IsPushed v v slot count count 0
pushed_none v slot zero = record { pushed = changes_none v slot; rest = omega arith }
pushed_none v slot (suc count) = record { pushed = changes_none v slot; rest = omega arith }

module _ (v w : OwnersView) (slot count left g : ℕ) (is : IsPushed v w slot count left g) where
  abbrev Got : ℕ → List ℕ
  Got n = take count (filter (λ h. is_free v h) (range_with_len 0 n))

  pub pushed_more : (u : OwnersView) (less : ℕ) → is_free v g ≡ true → left ≡ less + 1
      → Changes w u slot (groups_at w slot ++ g ∷ []) → IsPushed v u slot count less (g + 1)
  pushed_more u less free some changed =
      let next : Got (g + 1) ≡ Got g ++ g ∷ [] = first_next (λ h. is_free v h) count g free (omega (arith, is.rest, some)) in record {
        pushed = subst (λ (xs : List ℕ). Changes v u slot (groups_at v slot ++ xs)) (sym next) (changes_more v w u slot (Got g) (g ∷ []) is.pushed changed);
        rest = omega (arith, ap length next, length-append (Got g) (g ∷ []), is.rest, some);
      }

  same_got : Got (g + 1) ≡ Got g → IsPushed v w slot count left (g + 1)
  same_got same = record {
    pushed = subst (λ (xs : List ℕ). Changes v w slot (groups_at v slot ++ xs)) (sym same) is.pushed;
    rest = omega (arith, ap length same, is.rest);
  }

  pub pushed_full : left ≡ 0 → IsPushed v w slot count left (g + 1)
  pushed_full none = same_got (first_full (λ h. is_free v h) count g (omega (arith, is.rest, none)))

  pub pushed_skip : is_free v g ≡ false → IsPushed v w slot count left (g + 1)
  pushed_skip held = same_got (first_skip (λ h. is_free v h) count g held)

  pub pushed_free : holder v g ≡ None → holder w g ≡ None
  pushed_free free = still_free v w slot (Got g) is.pushed g free (λ o low same. omega (arith, first_low (λ h. is_free v h) count g o low, same))

  pub pushed_room : length (groups_at v slot) + count ≤ 64 → 0 < left → length (groups_at w slot) < 64
  pushed_room fits some = omega (arith, ap length is.pushed.lot, length-append (groups_at v slot) (Got g), is.rest, some, fits)

  pub pushed_all : g ≡ v.groups → Changes v w slot (groups_at v slot ++ take count (free_groups v))
  pushed_all all =
      subst (λ (xs : List ℕ). Changes v w slot (groups_at v slot ++ take count xs)) (sym (free_all v))
      (subst (λ (n : ℕ). Changes v w slot (groups_at v slot ++ Got n)) all is.pushed)
