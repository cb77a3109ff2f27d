-- What a growth of a map does, whatever the map was.
use Rattle.std.proofs.Common.{◌≡◌, ◌≢◌, ◌≤◌, ◌<◌, ◌⊎◌, ◌+◌, ◌-◌, ◌*◌, ◌%◌, ◌==◌, ℕ, true, false, cond, List, [], ◌∷◌, length, slice_index, ◌∙◌, sym, refl, ap, subst, inl, inr, ⊎_elim, arith, ltb}
use Rattle.std.proofs.lemmas.Bool.Decides.{nat_tests}
use Rattle.ice_base.specs.Fields.{word_at, SameBeside}
use Rattle.ice_base.specs.Inodes.{inode_address}
use Rattle.ice_base.specs.Lots.{LotView, sub_address}
use Rattle.ice_base.specs.Spare.{has}
use Rattle.ice_base.specs.Used.{used_block, is_data, count_place, Reserved}
use Rattle.ice_base.proofs.UsedLaws.{data_place}
use Rattle.ice_map.specs.declared.codec.Inode.{Inode}
use Rattle.ice_map.specs.Inodes.{inode_at}
use Rattle.ice_map.specs.Maps.{growth, widened, needs, leads, nth_block, blocks_of, indirect_of, uses, times, HasTwice, Grown, Marked}
use Rattle.ice_map.proofs.ListLaws.{has-one, has-cons, has-range, has-times, times-append}
use Rattle.ice_map.proofs.MapLaws.{nth-direct, nth-single, leads-direct, leads-single, leads-lost}
use Rattle.ice_map.proofs.MarkLaws.{data_not_bitmap, data_not_sub, used-same, free-same}
use Rattle.ice_map.proofs.GrowLaws.{inode_not_data, inode_not_sub, growth-one, growth-two}
use Rattle.ice_map.specs.Own.{MoreMarked, Confuses}
use Rattle.ice_map.specs.Growth.{Grew, InodesStay, Strays}
use Rattle.ice_map.specs.Moves.{uses_of}
use Rattle.ice_map.proofs.MoveLaws.{widened-direct, widened-single}
use Rattle.ice_map.proofs.OwnLaws.{times-one}

-- how many blocks are used
pub uses-less : (c d : ℕ) → c ≤ d → uses_of c ≤ uses_of d
uses-less c d h = grind (arith, nat_tests)

-- a map of one block more uses what it used, and what the growth takes
pub uses-needs : (c : ℕ) → needs c + uses_of c ≡ uses_of (c + 1)
uses-needs c = grind (arith, nat_tests)

more-then : (lot : LotView) (m0 m1 m2 : ℕ → List ℕ) (n k s : ℕ) → MoreMarked lot m0 m1 n → MoreMarked lot m1 m2 k → s ≡ n + k → MoreMarked lot m0 m2 s
more-then lot m0 m1 m2 n k s a b e = record {
  free = let f = a.free in let g = b.free in omega arith;
  counts = let f = a.counts in let g = b.counts in omega arith;
  sub = λ j h. b.sub j h ∙ a.sub j h;
  places = λ j h. b.places j h ∙ a.places j h;
  inodes = λ i. b.inodes i ∙ a.inodes i;
}

-- data places that were marked
more-marked : (lot : LotView) (m0 m1 : ℕ → List ℕ) (xs : List ℕ) (n : ℕ) → Marked lot true m0 m1 xs
    → ((b : ℕ) → has xs b ≡ true → is_data lot b ≡ true) → length xs ≡ n → MoreMarked lot m0 m1 n
more-marked lot m0 m1 xs n k placed l = record {
  free = let f = k.free in omega arith;
  counts = let v = k.counts.value in omega arith;
  sub = k.counts.others;
  places = λ b h. k.used b ∙ ap (λ t. cond t true (used_block m0 b)) (elim (has xs b) as (λ t. has xs b ≡ t → t ≡ false) [
    | true ↦ λ t. let d = placed b t in absurd cc
    | false ↦ λ t. refl
  ] refl);
  inodes = k.inodes;
}

-- another data place was put
more-put : (lot : LotView) (m0 m1 m2 : ℕ → List ℕ) (n at : ℕ) → length lot.groups ≤ 64 → is_data lot at ≡ true
    → ((b : ℕ) → b ≢ at → m2 b ≡ m1 b) → MoreMarked lot m0 m1 n → MoreMarked lot m0 m2 n
more-put lot m0 m1 m2 n at few place only k =
    let bitmaps : (o : ℕ) → m2 (256 * o) ≡ m1 (256 * o) = λ o. only (256 * o) (data_not_bitmap lot at o place) in
    let s : m2 sub_address ≡ m1 sub_address = only sub_address (data_not_sub lot at few place) in
    record {
      free = ap (λ x. x + n) (free-same lot m1 m2 (λ b. used-same false m1 m2 b bitmaps)) ∙ k.free;
      counts = ap (λ (b : List ℕ). word_at b 24) s ∙ k.counts;
      sub = λ j h. ap (λ (b : List ℕ). slice_index b j) s ∙ k.sub j h;
      places = λ b h. used-same false m1 m2 b bitmaps ∙ k.places b h;
      inodes = λ i. used-same true m1 m2 i bitmaps ∙ k.inodes i;
    }

-- the blocks that a growth takes
growth-data : (lot : LotView) (c a s : ℕ) → is_data lot a ≡ true → (12 ≤ c → is_data lot s ≡ true) → (b : ℕ) → has (growth c a s) b ≡ true
    → is_data lot b ≡ true
growth-data lot c a s place place_single b h =
    elim (c == 12) as (λ t. (c == 12) ≡ t → is_data lot b ≡ true) [
      | true ↦ λ t. let e : c ≡ 12 = grind (arith, nat_tests) in
          let q : has (a ∷ s ∷ []) b ≡ true = ap (λ xs. has xs b) (sym (growth-two c a s e)) ∙ h in
          let r = has-cons a b (s ∷ []) in
          let o = has-one s b in
          elim (a == b) as (λ u. (a == b) ≡ u → is_data lot b ≡ true) [
            | true ↦ λ u. let f : a ≡ b = grind (arith, nat_tests) in ap (is_data lot) (sym f) ∙ place
            | false ↦ λ u. let f : b ≡ s = grind (arith, nat_tests) in ap (is_data lot) f ∙ place_single (omega arith)
          ] refl
      | false ↦ λ t. let e : c ≢ 12 = grind (arith, nat_tests) in
          let q : has (a ∷ []) b ≡ true = ap (λ xs. has xs b) (sym (growth-one c a s e)) ∙ h in
          let o = has-one a b in
          let f : b ≡ a = grind (arith, nat_tests) in ap (is_data lot) f ∙ place
    ] refl

length-growth : (c a s : ℕ) → length (growth c a s) ≡ needs c
length-growth c a s =
    elim (c == 12) as (λ t. (c == 12) ≡ t → length (growth c a s) ≡ needs c) [
      | true ↦ λ t. ap (λ (xs : List ℕ). length xs) (growth-two c a s (grind (arith, nat_tests))) ∙ ap (λ t. cond t 2 1) (sym t)
      | false ↦ λ t. ap (λ (xs : List ℕ). length xs) (growth-one c a s (grind (arith, nat_tests))) ∙ ap (λ t. cond t 2 1) (sym t)
    ] refl

-- one block more
pub grew-one : (lot : LotView) (m0 m1 : ℕ → List ℕ) (x y : Inode) (c d a : ℕ) → Grown lot m0 m1 x y c a → is_data lot a ≡ true
    → (12 ≤ c → is_data lot y.single ≡ true) → y ≡ widened x c a y.single → d ≡ c + 1 → Grew lot m0 m1 x y c d
grew-one lot m0 m1 x y c d a grown place place_single fields e =
    let u = uses-needs c in
    let v = ap uses_of e in
    let l = length-growth c a y.single in
    record {
      marked = more-marked lot m0 m1 (growth c a y.single) (uses_of d - uses_of c) grown.took (growth-data lot c a y.single place place_single) (omega arith);
      direct = λ n h. widened-direct x y c a fields n (λ e. omega arith);
      single = λ h. widened-single x y c a fields (λ e. omega arith);
      place = λ h l. place_single (omega arith);
    }

-- one growth after another
pub grew-then : (lot : LotView) (m0 m1 m2 : ℕ → List ℕ) (x y z : Inode) (c d e : ℕ) → c ≤ d → d ≤ e → Grew lot m0 m1 x y c d
    → Grew lot m1 m2 y z d e → Grew lot m0 m2 x z c e
grew-then lot m0 m1 m2 x y z c d e h k a b =
    let u = uses-less c d h in
    let v = uses-less d e k in
    record {
      marked = more-then lot m0 m1 m2 (uses_of d - uses_of c) (uses_of e - uses_of d) (uses_of e - uses_of c) a.marked b.marked (omega arith);
      direct = λ n l. b.direct n (omega arith) ∙ a.direct n l;
      single = λ l. b.single (omega arith) ∙ a.single l;
      place = λ l p. elim (ltb 12 d) as (λ t. ltb 12 d ≡ t → is_data lot z.single ≡ true) [
        | true ↦ λ t. let q : 12 < d = grind (arith, nat_tests) in ap (is_data lot) (b.single q) ∙ a.place l q
        | false ↦ λ t. b.place (grind (arith, nat_tests)) p
      ] refl;
    }

-- another data place was put
pub grew-put : (lot : LotView) (m0 m1 m2 : ℕ → List ℕ) (x y : Inode) (c d at : ℕ) → length lot.groups ≤ 64 → is_data lot at ≡ true
    → ((b : ℕ) → b ≢ at → m2 b ≡ m1 b) → Grew lot m0 m1 x y c d → Grew lot m0 m2 x y c d
grew-put lot m0 m1 m2 x y c d at few place only g = record {
  marked = more-put lot m0 m1 m2 (uses_of d - uses_of c) at few place only g.marked;
  direct = g.direct;
  single = g.single;
  place = g.place;
}

-- a growth to d blocks is one to e blocks, where the two are equal
pub grew-at : (lot : LotView) (m0 m1 : ℕ → List ℕ) (x y : Inode) (c d e : ℕ) → d ≡ e → Grew lot m0 m1 x y c d → Grew lot m0 m1 x y c e
grew-at lot m0 m1 x y c d e p g = subst (λ n. Grew lot m0 m1 x y c n) p g

-- every inode stays
pub inodes-put : (lot : LotView) (m0 m1 : ℕ → List ℕ) (at : ℕ) → is_data lot at ≡ true → ((b : ℕ) → b ≢ at → m1 b ≡ m0 b) → InodesStay m0 m1
inodes-put lot m0 m1 at place only n = ap (λ (b : List ℕ). inode_at b (n % 8)) (only (inode_address n) (inode_not_data lot n at place))

-- inodes that stay in one change and in the next stay in both
pub inodes-then : (m0 m1 m2 : ℕ → List ℕ) → InodesStay m0 m1 → InodesStay m1 m2 → InodesStay m0 m2
inodes-then m0 m1 m2 a b n = b n ∙ a n

-- what holds no data stays marked used
pub reserved-more : (lot : LotView) (m0 m1 : ℕ → List ℕ) (n : ℕ) → MoreMarked lot m0 m1 n → Reserved lot m0 → Reserved lot m1
reserved-more lot m0 m1 n k r = record {
  set = λ b h p. k.places b (elim (is_data lot b) as (λ t. is_data lot b ≡ t → t ≡ false) [
    | true ↦ λ t. let q = data_place lot b t in absurd (omega arith)
    | false ↦ λ t. refl
  ] refl) ∙ r.set b h p;
}

-- a way that strays does so in the map as it was
leads-kept : (lot : LotView) (m : ℕ → List ℕ) (x y : Inode) (k : ℕ) → slice_index y.direct k ≡ slice_index x.direct k
    → (12 ≤ k → y.single ≡ x.single) → leads lot m x k ≡ leads lot m y k
leads-kept lot m x y k d s =
    elim (ltb k 12) as (λ t. ltb k 12 ≡ t → leads lot m x k ≡ leads lot m y k) [
      | true ↦ λ t. let l : k < 12 = grind (arith, nat_tests) in leads-direct lot m x k l ∙ ap (is_data lot) (sym d) ∙ sym (leads-direct lot m y k l)
      | false ↦ λ t. let l : 12 ≤ k = grind (arith, nat_tests) in
          let e = s l in
          elim (is_data lot x.single) as (λ u. is_data lot x.single ≡ u → leads lot m x k ≡ leads lot m y k) [
            | true ↦ λ u.
                leads-single lot m x k l u ∙ ap (is_data lot)
                (nth-single m x k l ∙ ap (λ a. word_at (m a) (4 * (k - 12))) (sym e) ∙ sym (nth-single m y k l))
                ∙ sym (leads-single lot m y k l (ap (is_data lot) e ∙ u))
            | false ↦ λ u. leads-lost lot m x k l u ∙ sym (leads-lost lot m y k l (ap (is_data lot) e ∙ u))
          ] refl
    ] refl

-- while blocks that a map had are written: its indirect block holds what it held, or the map uses a block twice
abbrev pub Unmixed : (ℕ → List ℕ) → (ℕ → List ℕ) → Inode → ℕ → Type 0
Unmixed m0 m1 x c = (m1 x.single ≡ m0 x.single) ⊎ HasTwice (uses m0 x c)

-- one of them that is the indirect block is used twice
single-twice : (m : ℕ → List ℕ) (x : Inode) (c k : ℕ) → 12 < c → k < c → nth_block m x k ≡ x.single → HasTwice (uses m x c)
single-twice m x c k l h e =
    let one : indirect_of x c ≡ x.single ∷ [] = grind (arith, nat_tests) in
    let t = times-append (indirect_of x c) (blocks_of m x c) x.single in
    let a = ap (λ xs. times xs x.single) one in
    let s = times-one x.single x.single in
    let same : (x.single == x.single) ≡ true = grind (arith, nat_tests) in
    let r = has-times (blocks_of m x c) x.single (ap (has (blocks_of m x c)) (sym e) ∙ has-range (nth_block m x) 0 c k (omega arith) (omega arith)) in
    (x.single, grind arith)

-- a block of the map that it has, where its pointers stay and so does its indirect block
nth-kept : (m0 m1 : ℕ → List ℕ) (x y : Inode) (k : ℕ) → slice_index y.direct k ≡ slice_index x.direct k → (12 ≤ k → y.single ≡ x.single)
    → (12 ≤ k → m1 x.single ≡ m0 x.single) → nth_block m1 y k ≡ nth_block m0 x k
nth-kept m0 m1 x y k d s same =
    elim (ltb k 12) as (λ t. ltb k 12 ≡ t → nth_block m1 y k ≡ nth_block m0 x k) [
      | true ↦ λ t. let l : k < 12 = grind (arith, nat_tests) in nth-direct m1 y k l ∙ d ∙ sym (nth-direct m0 x k l)
      | false ↦ λ t. let l : 12 ≤ k = grind (arith, nat_tests) in
          nth-single m1 y k l ∙ ap (λ a. word_at (m1 a) (4 * (k - 12))) (s l) ∙ ap (λ (b : List ℕ). word_at b (4 * (k - 12))) (same l)
          ∙ sym (nth-single m0 x k l)
    ] refl

-- one of them was written
pub unmixed-one : (m0 m1 m2 : ℕ → List ℕ) (x : Inode) (c k at : ℕ) → 12 < c → k < c → at ≡ nth_block m0 x k
    → ((b : ℕ) → b ≢ at → m2 b ≡ m1 b) → m1 x.single ≡ m0 x.single → Unmixed m0 m2 x c
unmixed-one m0 m1 m2 x c k at long h e only same =
    elim (at == x.single) as (λ t. (at == x.single) ≡ t → Unmixed m0 m2 x c) [
      | true ↦ λ t. let q : at ≡ x.single = grind (arith, nat_tests) in inr (single-twice m0 x c k long h (sym e ∙ q))
      | false ↦ λ t. let ne : at ≢ x.single = grind (arith, nat_tests) in inl (only x.single (λ q. ne (sym q)) ∙ same)
    ] refl

-- one more of them was
pub unmixed-next : (lot : LotView) (m0 m1 m2 : ℕ → List ℕ) (x y : Inode) (c d k : ℕ) → Grew lot m0 m1 x y c d → 12 < c → k < c
    → ((b : ℕ) → b ≢ nth_block m1 y k → m2 b ≡ m1 b) → Unmixed m0 m1 x c → Unmixed m0 m2 x c
unmixed-next lot m0 m1 m2 x y c d k g long h only u = ⊎_elim
    (λ same. unmixed-one m0 m1 m2 x c k (nth_block m1 y k) long h (nth-kept m0 m1 x y k (g.direct k h) (λ l. g.single long) (λ l. same)) only same)
    (λ twice. inr twice)
    u

-- a block of the map that leads nowhere now
pub misled-here : (lot : LotView) (m0 m1 : ℕ → List ℕ) (x : Inode) (c k : ℕ) → k < c → (12 < c → Unmixed m0 m1 x c)
    → leads lot m1 x k ≡ false → Confuses lot m0 x c
misled-here lot m0 m1 x c k l mixed lost =
    elim (ltb k 12) as (λ t. ltb k 12 ≡ t → Confuses lot m0 x c) [
      | true ↦ λ t. let h : k < 12 = grind (arith, nat_tests) in
          inl (record { block = k; below = l; bad = leads-direct lot m0 x k h ∙ sym (leads-direct lot m1 x k h) ∙ lost })
      | false ↦ λ t. let h : 12 ≤ k = grind (arith, nat_tests) in
          elim (is_data lot x.single) as (λ u. is_data lot x.single ≡ u → Confuses lot m0 x c) [
            | false ↦ λ u. inl (record { block = k; below = l; bad = leads-lost lot m0 x k h u })
            | true ↦ λ u. ⊎_elim
                (λ same. inl
                (record { block = k; below = l; bad = leads-single lot m0 x k h u ∙ ap (is_data lot) (sym (nth-kept m0 m1 x x k refl (λ j. refl) (λ j. same))) ∙ sym (leads-single lot m1 x k h u) ∙ lost }))
                (λ twice. inr twice)
                (mixed (omega arith))
          ] refl
    ] refl

-- where the way to a block that a growth didn't add strays, the map before it misled or used a block twice
pub misled-from : (lot : LotView) (m0 m1 : ℕ → List ℕ) (x y : Inode) (c d k : ℕ) → Grew lot m0 m1 x y c d → (k < d → k < c)
    → (k < c → 12 < c → Unmixed m0 m1 x c) → Strays lot m1 y d k → Confuses lot m0 x c
misled-from lot m0 m1 x y c d k g old mixed s = ⊎_elim
    (λ p.
    let l = old p.0 in
    misled-here lot m0 m1 x c k l (mixed l) (leads-kept lot m1 x y k (g.direct k l) (λ h. g.single (omega arith)) ∙ p.1))
    (λ p. elim (ltb 12 c) as (λ t. ltb 12 c ≡ t → Confuses lot m0 x c) [
      | true ↦ λ t. let l : 12 < c = grind (arith, nat_tests) in
          inl (record { block = 12; below = l; bad = leads-lost lot m0 x 12 (omega arith) (ap (is_data lot) (sym (g.single l)) ∙ p.1) })
      | false ↦ λ t. let q = g.place (grind (arith, nat_tests)) p.0 in let r = p.1 in absurd cc
    ] refl)
    s

-- the sub-super block, where the inode was put after more blocks were marked
pub sub-put : (lot : LotView) (m m0 m1 m2 : ℕ → List ℕ) (n number : ℕ) → m0 ≡ m → MoreMarked lot m0 m1 n
    → ((b : ℕ) → b ≢ inode_address number → m2 b ≡ m1 b) → SameBeside (count_place false) 4 (m sub_address) (m2 sub_address)
sub-put lot m m0 m1 m2 n number e k only j h =
    ap (λ (b : List ℕ). slice_index b j) (only sub_address (λ q. inode_not_sub number (sym q))) ∙ k.sub j h
    ∙ ap (λ (x : ℕ → List ℕ). slice_index (x sub_address) j) e
