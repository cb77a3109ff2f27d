-- How many numbers below a bound are marked, where each stands in a list as often as its mark says.
use Rattle.std.proofs.Common.{◌≡◌, ◌≢◌, ◌<◌, ◌≤◌, ◌+◌, ◌*◌, ◌==◌, ℕ, zero, suc, Bool, true, false, cond, not, List, [], ◌∷◌, length, refl, sym, ap, ◌∙◌, arith}
use Rattle.std.proofs.lemmas.Bool.Decides.{nat_tests}
use Rattle.ice_base.specs.Bits.{count_below}
use Rattle.ice_base.specs.Spare.{has}
use Rattle.ice_base.proofs.CountLaws.{count_below-same, count_below-gives, count_below-more, count_below-not, count_below-zero}
use Rattle.ice_map.specs.Maps.{times}
use Rattle.ice_map.proofs.ListLaws.{times-cons, count_none, has-head, has-tail}
use Rattle.ice_map.specs.Own.{mark}

-- a mark is at most 1
pub mark-small : (t : Bool) → mark t ≤ 1
mark-small true = omega arith
mark-small false = omega arith

-- a mark that is at least 1
pub mark-set : (t : Bool) → 1 ≤ mark t → t ≡ true
mark-set true h = refl
mark-set false h = absurd (omega arith)

pub mark-clear : (t : Bool) → mark t ≡ 0 → t ≡ false
mark-clear true h = absurd (omega arith)
mark-clear false h = refl

-- bits whose marks are equal are equal
pub mark-same : (t u : Bool) → mark t ≡ mark u → t ≡ u
mark-same true true h = refl
mark-same true false h = absurd (omega arith)
mark-same false true h = absurd (omega arith)
mark-same false false h = refl

-- the set without one number
abbrev without : (ℕ → Bool) → ℕ → ℕ → Bool
without p x a = cond (a == x) false (p a)

pub times-same : (x a : ℕ) (xs : List ℕ) → x ≡ a → times (x ∷ xs) a ≡ 1 + times xs a
times-same x a xs e =
    let t : (x == a) ≡ true = grind (arith, nat_tests) in
    times-cons x a xs ∙ ap (λ b. cond b 1 0 + times xs a) t

pub times-other : (x a : ℕ) (xs : List ℕ) → x ≢ a → times (x ∷ xs) a ≡ times xs a
times-other x a xs e =
    let t : (x == a) ≡ false = grind (arith, nat_tests) in
    times-cons x a xs ∙ ap (λ b. cond b 1 0 + times xs a) t ∙ omega arith

rest-marks : (p : ℕ → Bool) (x : ℕ) (xs : List ℕ) (a : ℕ) → times (x ∷ xs) a ≡ mark (p a) → times xs a ≡ mark (without p x a)
rest-marks p x xs a h =
    elim (a == x) as (λ t. (a == x) ≡ t → times xs a ≡ mark (cond t false (p a))) [
      | true ↦ λ t.
          let e : x ≡ a = grind (arith, nat_tests) in
          let c = times-same x a xs e in
          let s = mark-small (p a) in
          let z : times xs a ≡ 0 = omega arith in z
      | false ↦ λ t.
          let e : x ≢ a = grind (arith, nat_tests) in
          sym (times-other x a xs e) ∙ h
    ] refl

-- the marked numbers below a bound are as many as the list is long
pub count-times : (p : ℕ → Bool) (n : ℕ) (xs : List ℕ) → ((a : ℕ) → has xs a ≡ true → a < n) → ((a : ℕ) → a < n → times xs a ≡ mark (p a))
    → count_below p n ≡ length xs
count-times p n [] small marks = count_none p n (λ a h. mark-clear (p a) (sym (marks a h)))
count-times p n (x ∷ xs) small marks =
    let low : x < n = small x (has-head x xs) in
    let here : p x ≡ true = mark-set (p x) (let m = marks x low in let c = times-same x x xs refl in omega arith) in
    let r = count-times (without p x) n xs (λ a h. small a (has-tail x a xs h)) (λ a h. rest-marks p x xs a (marks a h)) in
    let g = count_below-gives p (without p x) x n low here (λ b. refl) in
    omega arith

count-all : (p : ℕ → Bool) (n : ℕ) → ((a : ℕ) → a < n → p a ≡ true) → count_below p n ≡ n
count-all p n all =
    let e = count_below-not p n in
    let z = count_none (λ k. not (p k)) n (λ a h. ap not (all a h)) in
    omega arith

-- one group: nine reserved places, and the others
count-group : (p q : ℕ → Bool) → ((j : ℕ) → j < 9 → p j ≡ true) → ((j : ℕ) → j < 9 → q j ≡ false) → ((j : ℕ) → 9 ≤ j → j < 256 → p j ≡ q j)
    → count_below p 256 ≡ count_below q 256 + 9
count-group p q set clear same =
    let a : count_below p 256 ≡ count_below p 9 + count_below (λ k. p (9 + k)) 247 = count_below-more p 9 247 in
    let b : count_below q 256 ≡ count_below q 9 + count_below (λ k. q (9 + k)) 247 = count_below-more q 9 247 in
    let c = count-all p 9 set in
    let d = count_none q 9 clear in
    let e = count_below-same (λ k. q (9 + k)) (λ k. p (9 + k)) 247 (λ k h. same (9 + k) (omega arith) (omega arith)) in
    omega arith

-- each group has nine reserved places, which are marked, and the others
pub count-groups : (p q : ℕ → Bool) (n : ℕ) → ((o j : ℕ) → o < n → j < 9 → p (256 * o + j) ≡ true) → ((o j : ℕ) → o < n → j < 9 → q (256 * o + j) ≡ false)
    → ((o j : ℕ) → o < n → 9 ≤ j → j < 256 → p (256 * o + j) ≡ q (256 * o + j)) → count_below p (256 * n) ≡ count_below q (256 * n) + 9 * n
count-groups p q zero set clear same = let a = count_below-zero p in let b = count_below-zero q in omega arith
count-groups p q (suc n) set clear same =
    let r = count-groups p q n (λ o j h l. set o j (omega arith) l) (λ o j h l. clear o j (omega arith) l) (λ o j h l k. same o j (omega arith) l k) in
    let e : 256 * suc n ≡ 256 * n + 256 = omega arith in
    let a = ap (count_below p) e ∙ count_below-more p (256 * n) 256 in
    let b = ap (count_below q) e ∙ count_below-more q (256 * n) 256 in
    let g = count-group (λ j. p (256 * n + j)) (λ j. q (256 * n + j)) (λ j l. set n j (omega arith) l) (λ j l. clear n j (omega arith) l)
    (λ j l k. same n j (omega arith) l k) in
    omega arith
