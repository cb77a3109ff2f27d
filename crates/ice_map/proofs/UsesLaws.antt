-- What the inodes of a lot use, before and after a change of a map: for the layers that say it of all of them.
use Rattle.std.proofs.Common.{◌≡◌, ◌≤◌, ◌<◌, ◌⊎◌, ◌+◌, ◌-◌, ◌==◌, ◌&&◌, ℕ, Bool, true, false, cond, List, [], ◌∷◌, ◌++◌, map, ◌∙◌, sym, refl, ap, arith, inl, inr, ⊎_elim, ltb, leb, nat_lt, nat_le}
use Rattle.std.specs.List.{range_with_len}
use Rattle.std.proofs.lemmas.Bool.Decides.{nat_tests}
use Rattle.ice_base.specs.Lots.{LotView}
use Rattle.ice_base.specs.Spare.{has}
use Rattle.ice_base.specs.Used.{is_data}
use Rattle.ice_map.specs.declared.codec.Inode.{Inode}
use Rattle.ice_map.specs.Maps.{nth_block, blocks_of, blocks_between, indirect_of, uses, times, growth, cut_off, Grown, FreeOrTwice, HasTwice, Misleads, UsesUnmarked}
use Rattle.ice_map.proofs.CutLaws.{same-run}
use Rattle.ice_map.proofs.GrowLaws.{growth-one, growth-two}
use Rattle.ice_map.proofs.ListLaws.{has-one, has-cons, has-head, has-left, has-right, has-range, has-times, times-append, times-cons, range-append}
use Rattle.ice_map.proofs.MapLaws.{nth-direct, leads-direct, leads-single}

-- a list has an address where that stands in it at least once
pub times-has : (xs : List ℕ) (b : ℕ) → 1 ≤ times xs b → has xs b ≡ true
times-has [] b h = absurd (omega arith)
times-has (a ∷ xs) b h =
    let e = has-cons a b xs in
    let t = times-cons a b xs in
    let r = times-has xs b in
    grind arith

pub times-none : (xs : List ℕ) (b : ℕ) → times xs b ≡ 0 → has xs b ≡ false
times-none xs b h =
    elim (has xs b) as (λ t. has xs b ≡ t → t ≡ false) [
      | true ↦ λ t. let l = has-times xs b t in absurd (omega arith)
      | false ↦ λ t. refl
    ] refl

-- a growth takes no block twice
pub growth-once : (lot : LotView) (m0 m1 : ℕ → List ℕ) (old new : Inode) (count a : ℕ) → Grown lot m0 m1 old new count a → (b : ℕ)
    → times (growth count a new.single) b ≤ 1
growth-once lot m0 m1 old new count a g b =
    elim (count == 12) as (λ t. (count == 12) ≡ t → times (growth count a new.single) b ≤ 1) [
      | true ↦ λ t.
          let h : count ≡ 12 = grind (arith, nat_tests) in
          let l = (g.least_single h).0 in
          let apart : (new.single == a) ≡ false = grind arith in
          let e = ap (λ xs. times xs b) (growth-two count a new.single h) in
          let x = times-cons a b (new.single ∷ []) in
          let y = times-cons new.single b [] in
          let none : times [] b ≡ 0 = refl in
          grind (arith, nat_tests)
      | false ↦ λ t.
          let e = ap (λ xs. times xs b) (growth-one count a new.single (grind (arith, nat_tests))) in
          let x = times-cons a b [] in
          let none : times [] b ≡ 0 = refl in
          grind (arith, nat_tests)
    ] refl

-- the blocks of a growth are data places
growth-data : (lot : LotView) (count a s : ℕ) → is_data lot a ≡ true → (12 ≤ count → is_data lot s ≡ true) → (b : ℕ)
    → has (growth count a s) b ≡ true → is_data lot b ≡ true
growth-data lot count a s da ds b h =
    elim (count == 12) as (λ t. (count == 12) ≡ t → is_data lot b ≡ true) [
      | true ↦ λ t.
          let e : count ≡ 12 = grind (arith, nat_tests) in
          let d = ds (omega arith) in
          let l = ap (λ xs. has xs b) (growth-two count a s e) in
          let x = has-cons a b (s ∷ []) in
          let y = has-one s b in
          elim (a == b) as (λ u. (a == b) ≡ u → is_data lot b ≡ true) [
            | true ↦ λ u. let q : a ≡ b = grind (arith, nat_tests) in ap (is_data lot) (sym q) ∙ da
            | false ↦ λ u. let one : (b == s) ≡ true = grind arith in let q : b ≡ s = grind (arith, nat_tests) in ap (is_data lot) q ∙ d
          ] refl
      | false ↦ λ t.
          let l = ap (λ xs. has xs b) (growth-one count a s (grind (arith, nat_tests))) in
          let y = has-one a b in
          let one : (b == a) ≡ true = grind arith in
          let q : b ≡ a = grind (arith, nat_tests) in ap (is_data lot) q ∙ da
    ] refl

-- ---- what a cut gives back is part of what the map uses

last-times : (t u : Bool) (s b : ℕ) → times (cond (t && u) (s ∷ []) []) b ≤ times (cond t (s ∷ []) []) b
last-times true true s b = omega arith
last-times true false s b = omega arith
last-times false u s b = omega arith

pub off-times : (m : ℕ → List ℕ) (x : Inode) (c r : ℕ) → r ≤ c → (b : ℕ) → times (cut_off m x c r) b ≤ times (uses m x c) b
off-times m x c r h b =
    let f = nth_block m x in
    let all = times-append (indirect_of x c) (blocks_of m x c) b in
    let e : r + (c - r) ≡ c = omega arith in
    let parts : map f (range_with_len 0 r) ++ map f (range_with_len (0 + r) (c - r)) ≡ blocks_of m x c = range-append f 0 r (c - r)
    ∙ ap (λ n. map f (range_with_len 0 n)) e in
    let z : map f (range_with_len (0 + r) (c - r)) ≡ blocks_between m x r c = ap (λ n. map f (range_with_len n (c - r))) (omega arith) in
    let two = times-append (map f (range_with_len 0 r)) (map f (range_with_len (0 + r) (c - r))) b in
    let same : times (map f (range_with_len 0 r) ++ map f (range_with_len (0 + r) (c - r))) b ≡ times (blocks_of m x c) b = ap (λ xs. times xs b) parts in
    let part : times (map f (range_with_len (0 + r) (c - r))) b ≡ times (blocks_between m x r c) b = ap (λ xs. times xs b) z in
    let off = times-append (blocks_between m x r c) (cond (ltb 12 c && leb r 12) (x.single ∷ []) []) b in
    let last : times (cond (ltb 12 c && leb r 12) (x.single ∷ []) []) b ≤ times (indirect_of x c) b = last-times (ltb 12 c) (leb r 12) x.single b in
    omega arith

-- a map uses each block that a cut of it gives back
pub off-has : (m : ℕ → List ℕ) (x : Inode) (c r : ℕ) → r ≤ c → (b : ℕ) → has (cut_off m x c r) b ≡ true → has (uses m x c) b ≡ true
off-has m x c r h b k = let t = off-times m x c r h b in let n = has-times (cut_off m x c r) b k in times-has (uses m x c) b (omega arith)

-- the same blocks are cut off where the indirect block holds the same
pub cut-same : (m0 m1 : ℕ → List ℕ) (x : Inode) (c r : ℕ) → (12 < c → m1 x.single ≡ m0 x.single) → cut_off m1 x c r ≡ cut_off m0 x c r
cut-same m0 m1 x c r e =
    let run = same-run m1 (m1 x.single) x r c (λ h. refl) ∙ sym (same-run m0 (m1 x.single) x r c e) in
    ap (λ xs. xs ++ cond (nat_lt 12 c && nat_le r 12) (x.single ∷ []) []) run

-- ---- what is wrong with a map, seen from all that it uses

-- a block that is free, or stands twice, among what a cut gives back is so in all that the map uses
pub off-free : (m : ℕ → List ℕ) (x : Inode) (c r : ℕ) → r ≤ c → FreeOrTwice m (cut_off m x c r) → FreeOrTwice m (uses m x c)
off-free m x c r h f = record {
  block = f.block;
  among = off-has m x c r h f.block f.among;
  why = ⊎_elim (λ p. inl p) (λ p. inr (let t = off-times m x c r h f.block in omega arith)) f.why;
}

-- it is a block that isn't marked used, or one that stands twice
pub free-or : (m : ℕ → List ℕ) (x : Inode) (c : ℕ) → FreeOrTwice m (uses m x c) → UsesUnmarked m x c ⊎ HasTwice (uses m x c)
free-or m x c f = ⊎_elim (λ p. inl (record { block = f.block; uses = f.among; unmarked = p })) (λ p. inr (f.block, p)) f.why

-- a map that misleads uses a block that is no data place
pub misled-uses : (lot : LotView) (m : ℕ → List ℕ) (x : Inode) (c : ℕ) → Misleads lot m x c → (b : ℕ) × (has (uses m x c) b ≡ true) × (is_data lot b ≡ false)
misled-uses lot m x c l =
    let n = l.block in
    let low = l.below in
    let bad = l.bad in
    elim (is_data lot (nth_block m x n)) as (λ t. is_data lot (nth_block m x n) ≡ t → (b : ℕ) × (has (uses m x c) b ≡ true) × (is_data lot b ≡ false)) [
      | false ↦ λ t.
          (nth_block m x n, has-right (indirect_of x c) (blocks_of m x c) (nth_block m x n) (has-range (nth_block m x) 0 c n (omega arith) (omega arith)), t)
      | true ↦ λ t. elim (ltb n 12) as (λ u. ltb n 12 ≡ u → (b : ℕ) × (has (uses m x c) b ≡ true) × (is_data lot b ≡ false)) [
        | true ↦ λ u.
            let h : n < 12 = grind (arith, nat_tests) in
            let e = leads-direct lot m x n h ∙ ap (is_data lot) (sym (nth-direct m x n h)) in
            absurd cc
        | false ↦ λ u.
            let h : 12 ≤ n = grind (arith, nat_tests) in
            elim (is_data lot x.single) as (λ v. is_data lot x.single ≡ v → (b : ℕ) × (has (uses m x c) b ≡ true) × (is_data lot b ≡ false)) [
              | true ↦ λ v. let e = leads-single lot m x n h v in absurd cc
              | false ↦ λ v.
                  let one : indirect_of x c ≡ x.single ∷ [] = grind (arith, nat_tests) in
                  (x.single, has-left (indirect_of x c) (blocks_of m x c) x.single (ap (λ xs. has xs x.single) one ∙ has-head x.single []), v)
            ] refl
      ] refl
    ] refl
