-- One piece of a write after another.
use Rattle.std.proofs.Common.{◌≡◌, ◌≢◌, ◌≤◌, ◌<◌, ◌⊎◌, ◌+◌, ◌-◌, ◌*◌, ◌/◌, ◌%◌, ◌==◌, min, max, ℕ, true, false, List, length, slice_index, slice_range, ◌∙◌, sym, refl, ap, subst, inl, inr, ⊎_elim, arith, ltb}
use Rattle.std.proofs.lemmas.Bool.Decides.{nat_tests}
use Rattle.std.proofs.lemmas.Nat.{div-add-mod', mod_below}
use Rattle.std.proofs.lemmas.List.Edits.{length-between, get_or-between}
use Rattle.ice_base.specs.Lots.{LotView}
use Rattle.ice_map.specs.declared.codec.Inode.{Inode}
use Rattle.ice_base.specs.Used.{counted, free_count}
use Rattle.ice_map.specs.Maps.{needs}
use Rattle.ice_map.specs.Growth.{Grew}
use Rattle.ice_map.proofs.GrowthLaws.{uses-less, uses-needs}
use Rattle.ice_map.specs.Own.{blocks_for}
use Rattle.ice_file.specs.Files.{byte_of}
use Rattle.ice_file.specs.Writes.{PutPiece, Written, up_to, blocks_with}
use Rattle.ice_map.specs.Moves.{content_of, uses_of}
use Rattle.ice_map.proofs.MoveLaws.{moved-then}

module _ (lot : LotView) (m0 m1 m2 : ℕ → List ℕ) (x y z : Inode) (c d k at done start : ℕ) (bytes part : List ℕ)
    (w : Written lot m0 m1 x y c d at done bytes) (p : PutPiece lot m1 m2 y z d k start part)
    (wide : c ≤ d) (below : done ≤ 1024 * d) (place : 1024 * k + start ≡ done) (fit : start + length part ≤ 1024) (after : at ≤ done)
    (what : (j : ℕ) → j < length part → slice_index part j ≡ slice_index bytes (done + j - at)) where
  byte-kept : (i : ℕ) → i < 1024 * d → (i < done) ⊎ (done + length part ≤ i) → byte_of m2 z i ≡ byte_of m1 y i
  byte-kept i h side =
      let q = div-add-mod' i 1024 in
      let r = mod_below i 1024 (omega arith) in
      elim (i / 1024 == k) as (λ t. (i / 1024 == k) ≡ t → byte_of m2 z i ≡ byte_of m1 y i) [
        | true ↦ λ t. let e : i / 1024 ≡ k = grind (arith, nat_tests) in
            let f = p.rest (omega arith) (i % 1024) (⊎_elim (λ l. inl (omega arith)) (λ l. inr (omega arith)) side) r in
            ap (λ n. slice_index (content_of m2 z n) (i % 1024)) e ∙ f ∙ ap (λ n. slice_index (content_of m1 y n) (i % 1024)) (sym e)
        | false ↦ λ t. let ne : i / 1024 ≢ k = grind (arith, nat_tests) in ap (λ (b : List ℕ). slice_index b (i % 1024)) (p.others (i / 1024) (omega arith) ne)
      ] refl

  byte-new : (i : ℕ) → done ≤ i → i < done + length part → byte_of m2 z i ≡ slice_index bytes (i - at)
  byte-new i l h =
      let q = div-add-mod' i 1024 in
      let r = mod_below i 1024 (omega arith) in
      let e : i / 1024 ≡ k = omega arith in
      let f : i % 1024 ≡ i - 1024 * k = omega arith in
      let b : done + (i - 1024 * k - start) - at ≡ i - at = omega arith in
      ap (λ n. slice_index (content_of m2 z n) (i % 1024)) e ∙ ap (λ n. slice_index (content_of m2 z k) n) f
      ∙ p.here (i - 1024 * k) (omega arith) (omega arith) ∙ what (i - 1024 * k - start) (omega arith) ∙ ap (slice_index bytes) b

  new-kept : (i : ℕ) → at ≤ i → i < done + length part → byte_of m2 z i ≡ slice_index bytes (i - at)
  new-kept i l h =
      elim (ltb i done) as (λ t. ltb i done ≡ t → byte_of m2 z i ≡ slice_index bytes (i - at)) [
        | true ↦ λ t. let s : i < done = grind (arith, nat_tests) in byte-kept i (omega arith) (inl s) ∙ w.new i l s
        | false ↦ λ t. let s : done ≤ i = grind (arith, nat_tests) in byte-new i s h
      ] refl

  pub written-more : Written lot m0 m2 x z c (max d (k + 1)) at (done + length part) bytes
  written-more = record {
    moved = moved-then lot m0 m1 m2 x y z c d (max d (k + 1)) w.moved p.moved;
    new = new-kept;
    old =
        λ i h side. byte-kept i (omega arith) (⊎_elim (λ l. inl (omega arith)) (λ l. inr l) side)
        ∙ w.old i h (⊎_elim (λ l. inl l) (λ l. inr (omega arith)) side);
  }

-- the bytes of one piece
pub part-what : (bytes : List ℕ) (at from to j : ℕ) → at ≤ from → from ≤ to → to - at ≤ length bytes
    → j < length (slice_range bytes (from - at) (to - at)) → slice_index (slice_range bytes (from - at) (to - at)) j ≡ slice_index bytes (from + j - at)
part-what bytes at from to j l h s k =
    let n = length-between bytes (from - at) (to - at) s in
    let e : (from - at) + j ≡ from + j - at = omega arith in
    get_or-between bytes (from - at) (to - at) j 0 (omega arith) ∙ ap (slice_index bytes) e

-- where a piece of a block begins and ends, and how many blocks there are then
pub piece-from : (at end k : ℕ) → 1024 * k < end → at ≤ end → up_to at end k ≡ max at (1024 * k)
piece-from at end k h l = omega arith

pub piece-to : (at end k : ℕ) → at / 1024 ≤ k → up_to at end (k + 1) ≡ min end (1024 * (k + 1))
piece-to at end k h = let q = div-add-mod' at 1024 in let r = mod_below at 1024 (omega arith) in omega arith

pub block-below : (end k : ℕ) → k < blocks_for end → 1024 * k < end
block-below end k h = let q = div-add-mod' (end + 1023) 1024 in let r = mod_below (end + 1023) 1024 (omega arith) in omega arith

pub count-enough : (size done : ℕ) → done ≤ 1024 * blocks_with size done
count-enough size done = let q = div-add-mod' (max size done + 1023) 1024 in let r = mod_below (max size done + 1023) 1024 (omega arith) in omega arith

pub count-grows : (size done : ℕ) → blocks_for size ≤ blocks_with size done
count-grows size done =
    let q = div-add-mod' (max size done + 1023) 1024 in let r = mod_below (max size done + 1023) 1024 (omega arith) in
    let s = div-add-mod' (size + 1023) 1024 in let t = mod_below (size + 1023) 1024 (omega arith) in omega arith

pub count-next : (size at end k : ℕ) → at / 1024 ≤ k → k < blocks_for end → at ≤ end
    → max (blocks_with size (up_to at end k)) (k + 1) ≡ blocks_with size (up_to at end (k + 1))
count-next size at end k h l o =
    let b = block-below end k l in
    let f = piece-from at end k b o in
    let t = piece-to at end k h in
    let qa = div-add-mod' at 1024 in
    let ra = mod_below at 1024 (omega arith) in
    let q = div-add-mod' (max size (up_to at end k) + 1023) 1024 in
    let r = mod_below (max size (up_to at end k) + 1023) 1024 (omega arith) in
    let q' = div-add-mod' (max size (up_to at end (k + 1)) + 1023) 1024 in
    let r' = mod_below (max size (up_to at end (k + 1)) + 1023) 1024 (omega arith) in
    omega arith

pub few-pieces : (at end k : ℕ) → end ≤ at + 16384 → k < blocks_for end → k - at / 1024 ≤ 16
few-pieces at end k h l =
    let b = block-below end k l in
    let q = div-add-mod' at 1024 in
    let r = mod_below at 1024 (omega arith) in
    omega arith

written-at : (lot : LotView) (m0 m1 : ℕ → List ℕ) (x y : Inode) (c d e at done till : ℕ) (bytes : List ℕ) → d ≡ e → done ≡ till
    → Written lot m0 m1 x y c d at done bytes → Written lot m0 m1 x y c e at till bytes
written-at lot m0 m1 x y c d e at done till bytes p q w =
    subst (λ n. Written lot m0 m1 x y c n at till bytes) p (subst (λ n. Written lot m0 m1 x y c d at n bytes) q w)

-- the blocks of a map before a piece
pub count-now : (size at end k from count : ℕ) → k < blocks_for end → at ≤ end → from ≡ max at (1024 * k)
    → count ≡ blocks_for (max size from) → blocks_with size (up_to at end k) ≡ count
count-now size at end k from count l o f e =
    let b = block-below end k l in
    let u : up_to at end k ≡ from = piece-from at end k b o ∙ sym f in
    ap (λ n. blocks_with size n) u ∙ sym e

pub written-step : (lot : LotView) (m0 m1 m2 : ℕ → List ℕ) (x y z : Inode) (size at end k from to count : ℕ) (bytes part : List ℕ)
    → Written lot m0 m1 x y (blocks_for size) (blocks_with size (up_to at end k)) at (up_to at end k) bytes
    → from ≡ max at (1024 * k) → to ≡ min end (1024 * (k + 1)) → count ≡ blocks_for (max size from)
    → part ≡ slice_range bytes (from - at) (to - at) → end ≡ at + length bytes → at / 1024 ≤ k → k < blocks_for end
    → PutPiece lot m1 m2 y z count k (from - 1024 * k) part
    → Written lot m0 m2 x z (blocks_for size) (blocks_with size (up_to at end (k + 1))) at (up_to at end (k + 1)) bytes
written-step lot m0 m1 m2 x y z size at end k from to count bytes part w f t n s e first last p =
    let o : at ≤ end = omega arith in
    let b = block-below end k last in
    let qa = div-add-mod' at 1024 in
    let ra = mod_below at 1024 (omega arith) in
    let c = count-now size at end k from count last o f n in
    let u : up_to at end k ≡ from = piece-from at end k b o ∙ sym f in
    let v : up_to at end (k + 1) ≡ to = piece-to at end k first ∙ sym t in
    let long : length part ≡ to - from = ap (λ (xs : List ℕ). length xs) s ∙ length-between bytes (from - at) (to - at) (omega arith) ∙ omega arith in
    let w' = written-at lot m0 m1 x y (blocks_for size) (blocks_with size (up_to at end k)) count at (up_to at end k) from bytes c u w in
    let enough = count-enough size from in
    let grows = count-grows size from in
    let all = written-more lot m0 m1 m2 x y z (blocks_for size) count k at from (from - 1024 * k) bytes part w' p (omega arith)
    (omega arith) (omega arith) (omega arith) (omega arith)
    (λ j h. ap (λ (xs : List ℕ). slice_index xs j) s
    ∙ part-what bytes at from to j (omega arith) (omega arith) (omega arith) (let q = ap (λ (xs : List ℕ). length xs) s in omega arith)) in
    written-at lot m0 m2 x z (blocks_for size) (max count (k + 1)) (blocks_with size (up_to at end (k + 1))) at (from + length part)
    (up_to at end (k + 1)) bytes
    (ap (λ d. max d (k + 1)) (sym c) ∙ count-next size at end k first last o) (omega arith) all

-- fewer bytes have no more blocks
pub count-less : (len size : ℕ) → len ≤ size → blocks_for len ≤ blocks_for size
count-less len size h =
    let q = div-add-mod' (len + 1023) 1024 in let r = mod_below (len + 1023) 1024 (omega arith) in
    let s = div-add-mod' (size + 1023) 1024 in let t = mod_below (size + 1023) 1024 (omega arith) in omega arith

-- too few blocks are free, or can be counted
pub none-grew : (lot : LotView) (m0 m1 : ℕ → List ℕ) (x y : Inode) (size end k count : ℕ) → Grew lot m0 m1 x y (blocks_for size) count
    → blocks_for size ≤ count → k ≡ count → k < blocks_for end
    → free_count false lot m1 < needs count → free_count false lot m0 + uses_of (blocks_for size) < uses_of (blocks_with size end)
none-grew lot m0 m1 x y size end k count g o e l f =
    let w = g.marked.free in
    let n = uses-needs count in
    let q = uses-less (blocks_for size) count o in
    let grows = count-grows end size in
    let same : blocks_with end size ≡ blocks_with size end = ap blocks_for (omega arith) in
    let u = uses-less (count + 1) (blocks_with size end) (omega arith) in
    omega arith

pub full-grew : (lot : LotView) (m0 m1 : ℕ → List ℕ) (x y : Inode) (size end k count : ℕ) → Grew lot m0 m1 x y (blocks_for size) count
    → blocks_for size ≤ count → k ≡ count → k < blocks_for end
    → 4294967296 ≤ counted false m1 + needs count → 4294967296 + uses_of (blocks_for size) ≤ counted false m0 + uses_of (blocks_with size end)
full-grew lot m0 m1 x y size end k count g o e l f =
    let w = g.marked.counts in
    let n = uses-needs count in
    let q = uses-less (blocks_for size) count o in
    let grows = count-grows end size in
    let same : blocks_with end size ≡ blocks_with size end = ap blocks_for (omega arith) in
    let u = uses-less (count + 1) (blocks_with size end) (omega arith) in
    omega arith

-- a block that a file has before a piece of a write, it had before the write
pub count-had : (size at k from count : ℕ) → at ≤ size → from ≡ max at (1024 * k) → count ≡ blocks_for (max size from) → k < count → k < blocks_for size
count-had size at k from count r f e h =
    let q = div-add-mod' (max size from + 1023) 1024 in
    let d = mod_below (max size from + 1023) 1024 (omega arith) in
    let q' = div-add-mod' (size + 1023) 1024 in
    let d' = mod_below (size + 1023) 1024 (omega arith) in
    omega arith
