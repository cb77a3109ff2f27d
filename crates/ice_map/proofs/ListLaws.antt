-- Lists of addresses.
use Rattle.std.proofs.Common.{◌≡◌, ◌≢◌, ◌≤◌, ◌<◌, ◌+◌, ◌==◌, ℕ, zero, suc, Bool, true, false, cond, List, [], ◌∷◌, ◌++◌, map, ◌∙◌, sym, refl, ap, arith, add-one}
use Rattle.std.proofs.lemmas.Bool.Decides.{nat_tests}
use Rattle.std.proofs.lemmas.List.{ext_get_or}
use Rattle.std.proofs.lemmas.List.Sums.{sum_by-append}
use Rattle.std.proofs.lemmas.List.FromFn.{get_or-map-range_with_len, length-map-range_with_len}
use Rattle.std.specs.List.{range_with_len}
use Rattle.ice_base.specs.Bits.{count_below}
use Rattle.ice_base.specs.Spare.{has, lacks, Except, Where}
use Rattle.ice_base.proofs.CountLaws.{count_below-zero, count_below-add_one}
use Rattle.ice_map.specs.Maps.{times}

-- two joined lists have the addresses of both
pub has-append : (xs ys : List ℕ) (b : ℕ) → has (xs ++ ys) b ≡ cond (has xs b) true (has ys b)
unfolding has
has-append [] ys b = refl
has-append (x ∷ xs) ys b = let r = has-append xs ys b in grind arith

-- a list of one address has that one alone
pub has-one : (a b : ℕ) → has (a ∷ []) b ≡ (b == a)
unfolding has
has-one a b = grind (arith, nat_tests)

-- the empty list has no address
pub has-none : (b : ℕ) → has [] b ≡ false
unfolding has
has-none b = refl

-- an address stands in two joined lists as often as in both together
pub times-append : (xs ys : List ℕ) (b : ℕ) → times (xs ++ ys) b ≡ times xs b + times ys b
times-append xs ys b = sum_by-append (λ x. cond (x == b) 1 0) xs ys

-- two lists that a function makes are equal where the functions agree
pub map_range_same : (f g : ℕ → ℕ) (a n : ℕ) → ((k : ℕ) → a ≤ k → k < a + n → f k ≡ g k) → map f (range_with_len a n) ≡ map g (range_with_len a n)
map_range_same f g a n h =
    let lf = length-map-range_with_len f a n in
    let lg = length-map-range_with_len g a n in
    ext_get_or 0 (map f (range_with_len a n)) (map g (range_with_len a n)) (lf ∙ sym lg)
    (λ k l. let small : k < n = omega arith in
    get_or-map-range_with_len f a n k (a + k) 0 small refl ∙ h (a + k) (omega arith) (omega arith)
    ∙ sym (get_or-map-range_with_len g a n k (a + k) 0 small refl))

count_below-suc : (p : ℕ → Bool) (n : ℕ) → count_below p (suc n) ≡ count_below p n + cond (p n) 1 0
count_below-suc p n = rw add-one at (count_below-add_one p n)

-- a set without numbers below n
pub count_none : (p : ℕ → Bool) (n : ℕ) → ((b : ℕ) → b < n → p b ≡ false) → count_below p n ≡ 0
count_none p zero h = count_below-zero p
count_none p (suc n) h =
    let r = count_none p n (λ b l. h b (omega arith)) in
    let e = h n (omega arith) in
    let x = count_below-suc p n in
    grind arith

-- each address of one list is one of another
abbrev pub AllHas : List ℕ → List ℕ → Type 0
AllHas wide xs = (x : ℕ) → has xs x ≡ true → has wide x ≡ true

-- a list has its first address
pub has-head : (a : ℕ) (xs : List ℕ) → has (a ∷ xs) a ≡ true
unfolding has
has-head a xs = grind (arith, nat_tests)

-- a list has each address of its tail
pub has-tail : (a b : ℕ) (xs : List ℕ) → has xs b ≡ true → has (a ∷ xs) b ≡ true
unfolding has
has-tail a b xs h = grind arith

-- a list has its first address and those of its tail, and no other
pub has-cons : (a b : ℕ) (xs : List ℕ) → has (a ∷ xs) b ≡ cond (a == b) true (has xs b)
unfolding has
has-cons a b xs = refl

-- two joined lists have each address of the first
pub has-left : (xs ys : List ℕ) → AllHas (xs ++ ys) xs
has-left xs ys x h = let e = has-append xs ys x in grind arith

-- two joined lists have each address of the second
pub has-right : (xs ys : List ℕ) → AllHas (xs ++ ys) ys
has-right xs ys x h = let e = has-append xs ys x in grind arith

pub has-not : (wide xs : List ℕ) (a : ℕ) → AllHas wide xs → has wide a ≡ false → has xs a ≡ false
has-not wide xs a all out =
    elim (has xs a) as (λ t. has xs a ≡ t → t ≡ false) [
      | true ↦ λ t. let y = all a t in absurd cc
      | false ↦ λ t. refl
    ] refl

-- what holds of an address unless a list has it holds where the list doesn't have it
pub except_elim : (a : ℕ) (xs : List ℕ) (P : Type 0) → Except a xs P → has xs a ≡ false → P
except_elim a [] P p out = p
except_elim a (b ∷ xs) P p out =
    let e = has-cons b a xs in
    except_elim a xs P (p (λ q. let r : (b == a) ≡ true = grind (arith, nat_tests) in grind arith)) (elim (b == a) as (λ t. (b == a) ≡ t → has xs a ≡ false) [
      | true ↦ λ t. absurd (grind arith)
      | false ↦ λ t. grind arith
    ] refl)

pub except_intro : (a : ℕ) (xs : List ℕ) (P : Type 0) → (has xs a ≡ false → P) → Except a xs P
except_intro a [] P f = f (has-none a)
except_intro a (b ∷ xs) P f =
    λ ne. except_intro a xs P (λ out. let e = has-cons b a xs in f (let r : (b == a) ≡ false = grind (arith, nat_tests) in grind arith))

pub where_elim : (wide xs : List ℕ) (P : Type 0) → Where wide xs P → AllHas wide xs → P
where_elim wide [] P p all = p
where_elim wide (a ∷ xs) P p all = where_elim wide xs P (p (all a (has-head a xs))) (λ x h. all x (has-tail a x xs h))

pub where_intro : (wide xs : List ℕ) (P : Type 0) → (AllHas wide xs → P) → Where wide xs P
where_intro wide [] P f = f (λ x h. let e = has-none x in absurd cc)
where_intro wide (a ∷ xs) P f = λ h. where_intro wide xs P (λ all. f (λ x k.
    let e = has-cons a x xs in
    elim (a == x) as (λ t. (a == x) ≡ t → has wide x ≡ true) [
      | true ↦ λ t. let same : a ≡ x = grind (arith, nat_tests) in ap (has wide) (sym same) ∙ h
      | false ↦ λ t. all x (grind arith)
    ] refl))

-- an address stands in a list as often as in its tail, and once more where it is the first
pub times-cons : (a b : ℕ) (xs : List ℕ) → times (a ∷ xs) b ≡ cond (a == b) 1 0 + times xs b
times-cons a b xs = let e = times-append (a ∷ []) xs b in omega arith

-- an address that a list has stands in it at least once
pub has-times : (xs : List ℕ) (b : ℕ) → has xs b ≡ true → 1 ≤ times xs b
has-times [] b h = let e = has-none b in absurd cc
has-times (a ∷ xs) b h =
    let e = has-cons a b xs in
    let t = times-cons a b xs in
    let r = has-times xs b in
    grind arith

-- a list of a function's values, cut in two
pub range-append : (f : ℕ → ℕ) (a n m : ℕ) → map f (range_with_len a n) ++ map f (range_with_len (a + n) m) ≡ map f (range_with_len a (n + m))
range-append f a zero m =
    let e : a + zero ≡ a = omega arith in let k : zero + m ≡ m = omega arith in ap (λ x. map f (range_with_len x m)) e
    ∙ ap (λ x. map f (range_with_len a x)) (sym k)
range-append f a (suc n) m =
    let e : a + suc n ≡ a + 1 + n = omega arith in
    let k : suc n + m ≡ suc (n + m) = omega arith in
    ap (λ (xs : List ℕ). f a ∷ xs) (ap (λ x. map f (range_with_len (a + 1) n) ++ map f (range_with_len x m)) e ∙ range-append f (a + 1) n m)
    ∙ ap (λ x. map f (range_with_len a x)) (sym k)

-- a value of a function on a range is one of the list
pub has-range : (f : ℕ → ℕ) (a n k : ℕ) → a ≤ k → k < a + n → has (map f (range_with_len a n)) (f k) ≡ true
has-range f a zero k l h = absurd (omega arith)
has-range f a (suc n) k l h =
    elim (a == k) as (λ t. (a == k) ≡ t → has (map f (range_with_len a (suc n))) (f k) ≡ true) [
      | true ↦ λ t.
          let same : a ≡ k = grind (arith, nat_tests) in ap (λ x. has (map f (range_with_len a (suc n))) (f x)) (sym same)
          ∙ has-head (f a) (map f (range_with_len (a + 1) n))
      | false ↦ λ t.
          let ne : a ≢ k = grind (arith, nat_tests) in
          has-tail (f a) (f k) (map f (range_with_len (a + 1) n)) (has-range f (a + 1) n k (omega arith) (omega arith))
    ] refl

pub lacks-wide : (held : ℕ → Bool) (a : ℕ) (xs : List ℕ) → lacks held (a ∷ xs) ≤ 1 + lacks held xs
unfolding lacks
lacks-wide held a xs = grind arith
