-- Marks of numbers, and of what the map of an inode uses.
use Rattle.std.proofs.Common.{◌≡◌, ◌≢◌, ℕ, ◌+◌, ◌-◌, ◌<◌, ◌≤◌, ◌==◌, ◌⊎◌, Bool, true, false, List, [], ◌∷◌, ◌++◌, map, length, set, sym, refl, ap, subst, arith, inl, inr, nat_lt}
use Rattle.std.specs.List.{range_with_len}
use Rattle.std.proofs.lemmas.Bool.Decides.{nat_tests}
use Rattle.std.proofs.lemmas.List.{get_or-set_same, get_or-set_other}
use Rattle.ice_map.specs.declared.codec.Inode.{Inode}
use Rattle.ice_map.specs.Maps.{times, nth_block, blocks_of, indirect_of, uses}
use Rattle.ice_map.proofs.ListLaws.{times-append, range-append, has-range, has-times, has-left, has-right, has-head}
use Rattle.ice_map.specs.Own.{mark}
use Rattle.ice_reads.proofs.Frames.{times-here, times-other}
use Rattle.ice_check.specs.Marks.{marked, GotMarks, MarkedTwice}

pub marked_both : (old middle new : List Bool) (xs ys : List ℕ) → GotMarks old middle xs → GotMarks middle new ys → GotMarks old new (xs ++ ys)
marked_both old middle new xs ys a b = record { each = λ k. omega (arith, a.each k, b.each k, times-append xs ys k) }

pub marked_as : (old middle new : List Bool) (xs ys zs : List ℕ) → ((k : ℕ) → times zs k ≡ times xs k + times ys k)
    → GotMarks old middle xs → GotMarks middle new ys → GotMarks old new zs
marked_as old middle new xs ys zs e a b = record { each = λ k. omega (arith, a.each k, b.each k, e k) }

pub marked_none : (old : List Bool) → GotMarks old old []
marked_none old = record { each = λ k. omega arith }

apart : (i k : ℕ) → (i == k) ≡ false → i ≢ k
apart i k e same = grind (arith, nat_tests)

pub marked_one : (marks : List Bool) (i : ℕ) → i < length marks → marked marks i ≡ false → GotMarks marks (set marks i true) (i ∷ [])
marked_one marks i h clear = record { each = at }
  where
    at : (k : ℕ) → mark (marked (set marks i true) k) ≡ mark (marked marks k) + times (i ∷ []) k
    at k = elim (i == k) as (λ b. (i == k) ≡ b → mark (marked (set marks i true) k) ≡ mark (marked marks k) + times (i ∷ []) k) [
      | true ↦ λ e.
          let same : i ≡ k = grind (arith, nat_tests) in
          subst (λ n. mark (marked (set marks i true) n) ≡ mark (marked marks n) + times (i ∷ []) n) same
          (omega (arith, ap mark (get_or-set_same marks i true false h), ap mark clear, times-here i []))
      | false ↦ λ e.
          let other : k ≢ i = λ same. apart i k e (sym same) in
          omega (arith, ap mark (get_or-set_other marks i k true false other), times-other k i [] e)
    ] refl

pub ruleset marked_laws = (marked_one)

-- ---- what a map uses

-- the first pointers of a map are among more of them
times_to : (f : ℕ → ℕ) (k n b : ℕ) → k ≤ n → times (map f (range_with_len 0 k)) b ≤ times (map f (range_with_len 0 n)) b
times_to f k n b h =
    let e = range-append f 0 k (n - k) in
    let s : k + (n - k) ≡ n = omega arith in
    omega (arith, times-append (map f (range_with_len 0 k)) (map f (range_with_len (0 + k) (n - k))) b, ap (λ xs. times xs b) e, ap (λ x. times (map f (range_with_len 0 x)) b) s)

-- one pointer more
times_more : (f : ℕ → ℕ) (n b : ℕ) → times (map f (range_with_len 0 (n + 1))) b ≡ times (map f (range_with_len 0 n)) b + times (f n ∷ []) b
times_more f n b =
    let e = range-append f 0 n 1 in
    let s : 0 + n ≡ n = omega arith in
    omega (arith, times-append (map f (range_with_len 0 n)) (map f (range_with_len (0 + n) 1)) b, ap (λ xs. times xs b) e, ap (λ x. times (f x ∷ []) b) s)

pub each_more : (m : ℕ → List ℕ) (inode : Inode) (n at : ℕ) (old middle new : List Bool) → at ≡ nth_block m inode n
    → GotMarks old middle (blocks_of m inode n) → GotMarks middle new (at ∷ []) → GotMarks old new (blocks_of m inode (n + 1))
each_more m inode n at old middle new e a b =
    marked_as old middle new (blocks_of m inode n) (nth_block m inode n ∷ []) (blocks_of m inode (n + 1))
    (times_more (nth_block m inode) n) a (subst (λ x. GotMarks middle new (x ∷ [])) e b)

-- a number that is marked had a mark, or stands in the list
was : (old new : List Bool) (xs : List ℕ) (b : ℕ) → GotMarks old new xs → marked new b ≡ true → (marked old b ≡ true) ⊎ (0 < times xs b)
was old new xs b a t = by (marked old b) refl
  where
    by : (v : Bool) → marked old b ≡ v → (marked old b ≡ true) ⊎ (0 < times xs b)
    by true e = inl e
    by false e = inr (omega (arith, a.each b, ap mark t, ap mark e))

pub each_twice : (m : ℕ → List ℕ) (inode : Inode) (n count at : ℕ) (old now : List Bool) → n < count → at ≡ nth_block m inode n
    → GotMarks old now (blocks_of m inode n) → marked now at ≡ true → MarkedTwice old (blocks_of m inode count)
each_twice m inode n count at old now h e a t = record {
  number = nth_block m inode n;
  among = has-range (nth_block m inode) 0 count n (omega arith) (omega arith);
  why = by (was old now (blocks_of m inode n) (nth_block m inode n) a (subst (λ x. marked now x ≡ true) e t));
}
  where
    by : (marked old (nth_block m inode n) ≡ true) ⊎ (0 < times (blocks_of m inode n) (nth_block m inode n))
        → (marked old (nth_block m inode n) ≡ true) ⊎ (1 < times (blocks_of m inode count) (nth_block m inode n))
    by (inl x) = inl x
    by (inr x) =
        inr (omega (arith, x, times-here (nth_block m inode n) [], times_more (nth_block m inode) n (nth_block m inode n), times_to (nth_block m inode) (n + 1) count (nth_block m inode n) (omega arith)))

pub indirect_none : (inode : Inode) (count : ℕ) → count ≤ 12 → indirect_of inode count ≡ []
indirect_none inode count h = let t : nat_lt 12 count ≡ false = grind (arith, nat_tests) in rw t refl

pub indirect_one : (inode : Inode) (count : ℕ) → 12 < count → indirect_of inode count ≡ inode.single ∷ []
indirect_one inode count h = let t : nat_lt 12 count ≡ true = grind (arith, nat_tests) in rw t refl

-- a mark that a single number has
pub one_twice : (old : List Bool) (a : ℕ) → marked old a ≡ true → MarkedTwice old (a ∷ [])
one_twice old a t = record { number = a; among = has-head a []; why = inl t }

-- the indirect block, and then the others
pub uses_marked : (m : ℕ → List ℕ) (inode : Inode) (count : ℕ) (old middle new : List Bool) → GotMarks old middle (indirect_of inode count)
    → GotMarks middle new (blocks_of m inode count) → GotMarks old new (uses m inode count)
uses_marked m inode count old middle new a b = marked_both old middle new (indirect_of inode count) (blocks_of m inode count) a b

pub first_twice : (m : ℕ → List ℕ) (inode : Inode) (count : ℕ) (old : List Bool) → MarkedTwice old (indirect_of inode count)
    → MarkedTwice old (uses m inode count)
first_twice m inode count old t = record {
  number = t.number;
  among = has-left (indirect_of inode count) (blocks_of m inode count) t.number t.among;
  why = by t.why;
}
  where
    by : (marked old t.number ≡ true) ⊎ (1 < times (indirect_of inode count) t.number)
        → (marked old t.number ≡ true) ⊎ (1 < times (uses m inode count) t.number)
    by (inl x) = inl x
    by (inr x) = inr (omega (arith, x, times-append (indirect_of inode count) (blocks_of m inode count) t.number))

pub then_twice : (m : ℕ → List ℕ) (inode : Inode) (count : ℕ) (old middle : List Bool) → GotMarks old middle (indirect_of inode count)
    → MarkedTwice middle (blocks_of m inode count) → MarkedTwice old (uses m inode count)
then_twice m inode count old middle a t = record {
  number = t.number;
  among = has-right (indirect_of inode count) (blocks_of m inode count) t.number t.among;
  why = by t.why;
}
  where
    again : (marked old t.number ≡ true) ⊎ (0 < times (indirect_of inode count) t.number)
        → (marked old t.number ≡ true) ⊎ (1 < times (uses m inode count) t.number)
    again (inl x) = inl x
    again (inr x) =
        inr (omega (arith, x, times-append (indirect_of inode count) (blocks_of m inode count) t.number, has-times (blocks_of m inode count) t.number t.among))

    by : (marked middle t.number ≡ true) ⊎ (1 < times (blocks_of m inode count) t.number)
        → (marked old t.number ≡ true) ⊎ (1 < times (uses m inode count) t.number)
    by (inl x) = again (was old middle (indirect_of inode count) t.number a x)
    by (inr x) = inr (omega (arith, x, times-append (indirect_of inode count) (blocks_of m inode count) t.number))
