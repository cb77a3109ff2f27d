-- An inode says what it said where its own bytes and the blocks that it uses stay.
use Rattle.std.proofs.Common.{◌≡◌, ℕ, zero, suc, ◌+◌, ◌-◌, ◌*◌, ◌/◌, ◌%◌, ◌<◌, ◌≤◌, Bool, true, false, cond, List, [], ◌∷◌, ◌++◌, map, refl, ap, ◌∙◌, arith}
use Rattle.std.specs.Prelude.{nat_lt, nat_eq, if◌then◌else◌}
use Rattle.std.specs.List.{range_with_len}
use Rattle.std.proofs.lemmas.Bool.Decides.{nat_tests}
use Rattle.std.proofs.lemmas.Nat.{div-add-mod', mod_below}
use Rattle.ice_base.specs.Fields.{word_at}
use Rattle.ice_base.specs.Inodes.{inode_address, inode_index}
use Rattle.ice_base.specs.Spare.{has}
use Rattle.ice_map.specs.declared.codec.Inode.{Inode}
use Rattle.ice_map.specs.Inodes.{inode_of, inode_at}
use Rattle.ice_map.specs.Maps.{nth_block, indirect_of, blocks_of, uses, longest}
use Rattle.ice_map.proofs.ListLaws.{map_range_same, has-head, has-tail, has-left, has-right, has-range}
use Rattle.ice_map.specs.Own.{Own, own_of, map_length, nth_long, indirects_long, own_long_of, own}
use Rattle.ice_map.proofs.OwnLaws.{uses-single, nth-moves}
use Rattle.tree_spec.specs.Costs.{Form, rounded_up}
use Rattle.ice_reads.specs.Tables.{Map}

-- two maps hold the same at each address of a list
abbrev pub Keep : Map → Map → List ℕ → Type 0
Keep m n xs = (a : ℕ) → has xs a ≡ true → n a ≡ m a

contents-rest : (m n : Map) (xs : List ℕ) → Keep m n xs → map n xs ≡ map m xs
contents-rest m n [] keep = refl
contents-rest m n (x ∷ xs) keep = λ i. keep x (has-head x xs) i ∷ contents-rest m n xs (λ a h. keep a (has-tail x a xs h)) i

module _ (m n : Map) (x : Inode) (c : ℕ) where
  -- a map of at most 268 blocks
  short-rest : Keep m n (uses m x c) → own_of n x c ≡ own_of m x c
  short-rest keep =
      let blocks : blocks_of n x c ≡ blocks_of m x c =
      map_range_same (nth_block n x) (nth_block m x) 0 c (λ j l h. nth-moves m n x j (λ past. keep x.single (uses-single m x c (omega arith)))) in
      let contents : map n (blocks_of m x c) ≡ map m (blocks_of m x c) =
      contents-rest m n (blocks_of m x c) (λ a h. keep a (has-right (indirect_of x c) (blocks_of m x c) a h)) in
      ap (λ (xs : List ℕ). record { inode = x; uses = indirect_of x c ++ xs; contents = map n xs }) blocks
      ∙ ap (λ (xs : List (List ℕ)). record { inode = x; uses = uses m x c; contents = xs }) contents

  -- the blocks of pointers to blocks of pointers
  abbrev pointers : Map → List ℕ
  pointers k = map (λ j. word_at (k x.double) (4 * j)) (range_with_len 0 (rounded_up (c - longest) 256))

  abbrev doubles : Map → Bool → List ℕ
  doubles k b = if b then x.double ∷ pointers k else []

  doubles-rest : (b : Bool) → (b ≡ true → n x.double ≡ m x.double) → doubles n b ≡ doubles m b
  doubles-rest true keep = ap (λ (block : List ℕ). x.double ∷ map (λ j. word_at block (4 * j)) (range_with_len 0 (rounded_up (c - longest) 256))) (keep refl)
  doubles-rest false keep = refl

  abbrev long_blocks : Map → List ℕ
  long_blocks k = map (nth_long k x) (range_with_len 0 c)

  abbrev uses_long : List ℕ
  uses_long = indirects_long m x c ++ long_blocks m

  module _ (keep : Keep m n uses_long) where
    in-indirects : Keep m n (indirects_long m x c)
    in-indirects a h = keep a (has-left (indirects_long m x c) (long_blocks m) a h)

    in-doubles : nat_lt longest c ≡ true → Keep m n (x.double ∷ pointers m)
    in-doubles t a h =
        in-indirects a (has-right (indirect_of x c) (doubles m (nat_lt longest c)) a (ap (λ b. has (doubles m b) a) t ∙ h))

    double-rests : nat_lt longest c ≡ true → n x.double ≡ m x.double
    double-rests t = in-doubles t x.double (has-head x.double (pointers m))

    pointer-rests : nat_lt longest c ≡ true → (j : ℕ) → j < c → longest ≤ j
        → n (word_at (m x.double) (4 * ((j - longest) / 256))) ≡ m (word_at (m x.double) (4 * ((j - longest) / 256)))
    pointer-rests t j h past =
        let q = div-add-mod' (j - longest) 256 in
        let r = mod_below (j - longest) 256 (omega arith) in
        let s = div-add-mod' (c - longest + 256 - 1) 256 in
        let u = mod_below (c - longest + 256 - 1) 256 (omega arith) in
        let p : ℕ → ℕ = (λ i. word_at (m x.double) (4 * i)) in
        in-doubles t (p ((j - longest) / 256)) (has-tail x.double (p ((j - longest) / 256)) (pointers m)
        (has-range p 0 (rounded_up (c - longest) 256) ((j - longest) / 256) (omega arith) (omega (arith, q, r, s, u))))

    block-rests : (j : ℕ) → j < c → nth_long n x j ≡ nth_long m x j
    block-rests j h =
        elim (nat_lt j longest) as (λ b. nat_lt j longest ≡ b
        → (if b then nth_block n x j else word_at (n (word_at (n x.double) (4 * ((j - longest) / 256)))) (4 * ((j - longest) % 256)))
        ≡ (if b then nth_block m x j else word_at (m (word_at (m x.double) (4 * ((j - longest) / 256)))) (4 * ((j - longest) % 256)))) [
          | true ↦ λ t.
              nth-moves m n x j (λ past. in-indirects x.single (has-left (indirect_of x c) (doubles m (nat_lt longest c)) x.single (single-used (omega arith))))
          | false ↦ λ t.
              let past : longest ≤ j = grind (arith, nat_tests) in
              let long : nat_lt longest c ≡ true = grind (arith, nat_tests) in
              ap (λ (block : List ℕ). word_at (n (word_at block (4 * ((j - longest) / 256)))) (4 * ((j - longest) % 256))) (double-rests long)
              ∙ ap (λ (block : List ℕ). word_at block (4 * ((j - longest) % 256))) (pointer-rests long j h past)
        ] refl
      where
        single-used : 12 < c → has (indirect_of x c) x.single ≡ true
        single-used l = let t : nat_lt 12 c ≡ true = grind (arith, nat_tests) in ap (λ b. has (cond b (x.single ∷ []) []) x.single) t ∙ has-head x.single []

    long-rest : own_long_of n x c ≡ own_long_of m x c
    long-rest =
        let blocks : long_blocks n ≡ long_blocks m = map_range_same (nth_long n x) (nth_long m x) 0 c (λ j l h. block-rests j (omega arith)) in
        let inner : doubles n (nat_lt longest c) ≡ doubles m (nat_lt longest c) = doubles-rest (nat_lt longest c) double-rests in
        ap (λ (xs : List ℕ). record { inode = x; uses = (indirect_of x c ++ xs) ++ long_blocks n; contents = map (λ j. n (nth_long n x j)) (range_with_len 0 c) }) inner
        ∙ ap (λ (xs : List ℕ). record { inode = x; uses = indirects_long m x c ++ xs; contents = map (λ j. n (nth_long n x j)) (range_with_len 0 c) }) blocks
        ∙ ap (λ (xs : List (List ℕ)). record { inode = x; uses = uses_long; contents = xs }) contents
      where
        each : (a k : ℕ) → a + k ≡ c → map (λ j. n (nth_long n x j)) (range_with_len a k) ≡ map (λ j. m (nth_long m x j)) (range_with_len a k)
        each a zero e = refl
        each a (suc k) e =
            let here : n (nth_long n x a) ≡ m (nth_long m x a) =
            ap n (block-rests a (omega arith)) ∙ keep (nth_long m x a)
            (has-right (indirects_long m x c) (long_blocks m) (nth_long m x a) (has-range (nth_long m x) 0 c a (omega arith) (omega arith))) in
            λ i. here i ∷ each (a + 1) k (omega arith) i

        contents : map (λ j. n (nth_long n x j)) (range_with_len 0 c) ≡ map (λ j. m (nth_long m x j)) (range_with_len 0 c)
        contents = each 0 c (omega arith)

-- what an inode of a cube of either form says
pub own-rests : (f : Form) (m n : Map) (number : ℕ) → n (inode_address number) ≡ m (inode_address number) → Keep m n (own f m number).uses
    → own f n number ≡ own f m number
own-rests f m n number bytes keep =
    let same : inode_of n number ≡ inode_of m number = ap (λ (block : List ℕ). inode_at block (inode_index number)) bytes in
    elim (nat_eq f.version 2) as (λ b. Keep m n (said b m (inode_of m number)).uses → said b n (inode_of n number) ≡ said b m (inode_of m number)) [
      | true ↦ λ k. ap (said true n) same ∙ long-rest m n (inode_of m number) (map_length f (inode_of m number)) k
      | false ↦ λ k. ap (said false n) same ∙ short-rest m n (inode_of m number) (map_length f (inode_of m number)) k
    ] keep
  where
    said : Bool → Map → Inode → Own
    said b k x = if b then own_long_of k x (map_length f x) else own_of k x (map_length f x)
