-- How many numbers below a bound are in a set.
use Rattle.std.proofs.Common.{◌≡◌, ◌≢◌, ◌<◌, ◌≤◌, ◌+◌, ◌==◌, ℕ, zero, suc, Bool, true, false, cond, not, refl, sym, ap, ◌∙◌, add-one, arith}
use Rattle.std.proofs.lemmas.Bool.Decides.{nat_tests}
use Rattle.std.proofs.lemmas.List.FromFn.{sum_by-map-range_with_len_more}
use Rattle.ice_base.specs.Bits.{count_below, Inserts, Deletes}

-- none is below 0
pub count_below-zero : (p : ℕ → Bool) → count_below p 0 ≡ 0
unfolding count_below
count_below-zero p = refl

-- one number more counts where it is in the set
pub count_below-add_one : (p : ℕ → Bool) (n : ℕ) → count_below p (n + 1) ≡ count_below p n + cond (p n) 1 0
unfolding count_below
count_below-add_one p n = sum_by-map-range_with_len_more (λ bit. cond bit 1 0) p 0 n n (omega arith)

count_below-suc : (p : ℕ → Bool) (n : ℕ) → count_below p (suc n) ≡ count_below p n + cond (p n) 1 0
count_below-suc p n = rw add-one at (count_below-add_one p n)

-- no more are counted than there are numbers
pub count_below-le : (p : ℕ → Bool) (n : ℕ) → count_below p n ≤ n
count_below-le p zero = omega (arith, count_below-zero p)
count_below-le p (suc n) = let r = count_below-le p n in let e = count_below-suc p n in grind arith

-- sets that agree below a number have as many below it
pub count_below-same : (p q : ℕ → Bool) (n : ℕ) → ((b : ℕ) → b < n → q b ≡ p b) → count_below q n ≡ count_below p n
count_below-same p q zero h = count_below-zero q ∙ sym (count_below-zero p)
count_below-same p q (suc n) h =
    let r = count_below-same p q n (λ b l. h b (omega arith)) in
    let e = h n (omega arith) in
    let x = count_below-suc p n in
    let y = count_below-suc q n in
    cc

-- one number more is counted
pub count_below-takes : (p q : ℕ → Bool) (a n : ℕ) → a < n → p a ≡ false → Inserts p a q → count_below q n ≡ count_below p n + 1
count_below-takes p q a zero h f t = absurd (omega arith)
count_below-takes p q a (suc n) h f t =
    let x = count_below-suc p n in
    let y = count_below-suc q n in
    elim (n == a) as (λ u. (n == a) ≡ u → count_below q (suc n) ≡ count_below p (suc n) + 1) [
      | true ↦ λ u. let e : n ≡ a = grind (arith, nat_tests) in
          let s = count_below-same p q n (λ b l. let k = t b in grind (arith, nat_tests)) in
          let k = t n in
          let pn : p n ≡ false = cc in
          grind (arith, nat_tests)
      | false ↦ λ u. let e : n ≢ a = grind (arith, nat_tests) in
          let r = count_below-takes p q a n (omega arith) f t in
          let k = t n in
          grind (arith, nat_tests)
    ] refl

-- one number less is counted
pub count_below-gives : (p q : ℕ → Bool) (a n : ℕ) → a < n → p a ≡ true → Deletes p a q → count_below q n + 1 ≡ count_below p n
count_below-gives p q a zero h f t = absurd (omega arith)
count_below-gives p q a (suc n) h f t =
    let x = count_below-suc p n in
    let y = count_below-suc q n in
    elim (n == a) as (λ u. (n == a) ≡ u → count_below q (suc n) + 1 ≡ count_below p (suc n)) [
      | true ↦ λ u. let e : n ≡ a = grind (arith, nat_tests) in
          let s = count_below-same p q n (λ b l. let k = t b in grind (arith, nat_tests)) in
          let k = t n in
          let pn : p n ≡ true = cc in
          grind (arith, nat_tests)
      | false ↦ λ u. let e : n ≢ a = grind (arith, nat_tests) in
          let r = count_below-gives p q a n (omega arith) f t in
          let k = t n in
          grind (arith, nat_tests)
    ] refl

-- those below m, and then n more
pub count_below-more : (p : ℕ → Bool) (m n : ℕ) → count_below p (m + n) ≡ count_below p m + count_below (λ k. p (m + k)) n
count_below-more p m zero = let z = count_below-zero (λ k. p (m + k)) in let e : m + zero ≡ m = omega arith in let f = ap (count_below p) e in omega arith
count_below-more p m (suc n) =
    let r = count_below-more p m n in
    let x = count_below-suc p (m + n) in
    let y = count_below-suc (λ k. p (m + k)) n in
    let e : m + suc n ≡ suc (m + n) = omega arith in
    let f = ap (count_below p) e in
    omega arith

-- those that are not in the set
pub count_below-not : (p : ℕ → Bool) (n : ℕ) → count_below (λ k. not (p k)) n + count_below p n ≡ n
count_below-not p zero = let x = count_below-zero (λ k. not (p k)) in let y = count_below-zero p in omega arith
count_below-not p (suc n) =
    let r = count_below-not p n in
    let x = count_below-suc (λ k. not (p k)) n in
    let y = count_below-suc p n in
    grind arith

-- how many numbers of a set lie below a bound, one bound after another, and never more than the bound
pub ruleset count_laws = (count_below-zero, count_below-add_one, count_below-le)
