-- What a cut of a map does.
use Rattle.std.proofs.Common.{◌≡◌, ◌≢◌, ◌≤◌, ◌<◌, ◌⊎◌, ◌+◌, ◌-◌, ◌*◌, ◌/◌, ◌&&◌, ℕ, Bool, true, false, cond, List, [], ◌∷◌, ◌++◌, map, length, slice_index, replicate, take, ◌∙◌, sym, refl, ap, arith, ltb, subst, nat_lt, nat_le, length-append, inl, inr, ⊎_elim}
use Rattle.std.proofs.lemmas.Bool.Decides.{nat_tests}
use Rattle.std.proofs.lemmas.List.{append-nil, ext_get_or}
use Rattle.std.proofs.lemmas.List.FromFn.{map-range_with_len_more, length-map-range_with_len}
use Rattle.std.proofs.lemmas.Grind.{elements, common_steps}
use Rattle.std.specs.List.{range_with_len}
use Rattle.ice_base.specs.Lots.{LotView, sub_address}
use Rattle.ice_base.specs.Fields.{word_at}
use Rattle.ice_base.specs.Pools.{Gave}
use Rattle.ice_base.specs.Spare.{has, lacks, bitmaps}
use Rattle.ice_base.specs.Used.{used_block, is_data, bitmap_of, counted}
use Rattle.ice_base.specs.Views.{Puts}
use Rattle.ice_base.specs.declared.view.View as view
use Rattle.ice_base.proofs.SpareLaws.{lacks_part, lacks_few, lacks-bitmaps}
use Rattle.ice_base.proofs.UsedLaws.{bitmap_not_sub}
use Rattle.ice_map.specs.declared.codec.Inode.{Inode}
use Rattle.ice_map.specs.Maps.{nth_block, blocks_of, indirect_of, blocks_between, cut_off, cut_room, given_puts, shortened, times, Marked, FreeOrTwice, Cut}
use Rattle.ice_map.proofs.ListLaws.{AllHas, map_range_same, times-append, has-head, has-tail, has-left, has-right, has-times, range-append, lacks-wide, where_elim}
use Rattle.ice_map.proofs.MapLaws.{nth-direct, nth-single}
use Rattle.ice_map.proofs.MarkLaws.{marked-then, marked-gave}
use Rattle.ice_map.proofs.PutsLaws.{puts-then, given-left, given-one, bitmaps-one}

-- the blocks up to the next one, and all of them
pub between-none : (m : ℕ → List ℕ) (inode : Inode) (rest count : ℕ) → count ≤ rest → blocks_between m inode rest count ≡ []
between-none m inode rest count h = let e : count - rest ≡ 0 = omega arith in ap (λ n. map (nth_block m inode) (range_with_len rest n)) e

pub between-next : (m : ℕ → List ℕ) (inode : Inode) (rest k : ℕ) → rest ≤ k
    → blocks_between m inode rest (k + 1) ≡ blocks_between m inode rest k ++ nth_block m inode k ∷ []
between-next m inode rest k h =
    let e : k + 1 - rest ≡ k - rest + 1 = omega arith in
    ap (λ n. map (nth_block m inode) (range_with_len rest n)) e ∙ map-range_with_len_more (nth_block m inode) rest (k - rest) k (omega arith)

pub between-parts : (m : ℕ → List ℕ) (inode : Inode) (rest k count : ℕ) → rest ≤ k → k ≤ count
    → blocks_between m inode rest count ≡ blocks_between m inode rest k ++ blocks_between m inode k count
between-parts m inode rest k count h l =
    let e : rest + (k - rest) ≡ k = omega arith in
    let n : k - rest + (count - k) ≡ count - rest = omega arith in
    let r = range-append (nth_block m inode) rest (k - rest) (count - k) in
    ap (λ x. map (nth_block m inode) (range_with_len rest x)) (sym n) ∙ sym r
    ∙ ap (λ x. blocks_between m inode rest k ++ map (nth_block m inode) (range_with_len x (count - k))) e

-- a run of a map's blocks has as many as lie between its two ends
pub length-between : (m : ℕ → List ℕ) (inode : Inode) (rest count : ℕ) → length (blocks_between m inode rest count) ≡ count - rest
length-between m inode rest count = length-map-range_with_len (nth_block m inode) rest (count - rest)

-- the next block of a run, and the rest of it
pub between-at : (m : ℕ → List ℕ) (inode : Inode) (rest k count : ℕ) → rest ≤ k → k < count
    → blocks_between m inode rest count ≡ (blocks_between m inode rest k ++ nth_block m inode k ∷ []) ++ blocks_between m inode (k + 1) count
between-at m inode rest k count h l =
    between-parts m inode rest (k + 1) count (omega arith) (omega arith)
    ∙ ap (λ (xs : List ℕ). xs ++ blocks_between m inode (k + 1) count) (between-next m inode rest k h)

module _ {V D : Type 0} (g : view.Ghosts V D) (lot : LotView) (m : ℕ → List ℕ) (inode : Inode) (rest k : ℕ) where
  -- the puts of a run of gives, with one give more
  pub next-puts : (ok : Bool) (at : ℕ) (v : V) (d : D) (w : V) (e : D) (x : V) (f : D) → rest ≤ k → at ≡ nth_block m inode k
      → Puts g lot true (given_puts (blocks_between m inode rest k)) v d w e
      → Puts g lot ok (sub_address ∷ bitmap_of false at ∷ []) w e x f → Puts g lot ok (given_puts (blocks_between m inode rest (k + 1))) v d x f
  next-puts ok at v d w e x f h same p q =
      let step = puts-then g lot ok (given_puts (blocks_between m inode rest k)) (sub_address ∷ bitmap_of false at ∷ [])
      (given_puts (blocks_between m inode rest k ++ at ∷ [])) v d w e x f p q
      (given-left (blocks_between m inode rest k) (at ∷ [])) (given-one (blocks_between m inode rest k) at) in
      let list : blocks_between m inode rest k ++ at ∷ [] ≡ blocks_between m inode rest (k + 1) =
      ap (λ a. blocks_between m inode rest k ++ a ∷ []) same ∙ sym (between-next m inode rest k h) in
      rw list at step

  -- they are among those of the whole run
  pub all-puts : (count : ℕ) → rest ≤ k → k ≤ count → AllHas (given_puts (blocks_between m inode rest count)) (given_puts (blocks_between m inode rest k))
  all-puts count h l =
      let parts = between-parts m inode rest k count h l in rw parts (given-left (blocks_between m inode rest k) (blocks_between m inode k count))

wide_room : (held : ℕ → Bool) (n : ℕ) → lacks held (sub_address ∷ bitmaps n) ≤ 1 + n
wide_room held n = let l = lacks-wide held sub_address (bitmaps n) in let r = lacks-bitmaps held n in omega arith

pub all-self : (xs : List ℕ) → AllHas xs xs
all-self xs x h = h

-- room for the next give
pub give-room : {V D : Type 0} (g : view.Ghosts V D) (lot : LotView) (v : V) (d : D) (w : V) (e : D) (count rest k at : ℕ)
    → cut_room count rest ≤ g.room v → g.room v ≤ g.room w + 2 * (k - rest)
    → Puts g lot true (sub_address ∷ bitmaps (length lot.groups)) v d w e → rest ≤ k → k ≤ count → length lot.groups ≤ 64
    → is_data lot at ≡ true → lacks (g.held w) (sub_address ∷ bitmap_of false at ∷ []) ≤ g.room w
give-room g lot v d w e count rest k at room spent puts low high few place =
    elim (ltb (rest + 1) count) as (λ t. ltb (rest + 1) count ≡ t → lacks (g.held w) (sub_address ∷ bitmap_of false at ∷ []) ≤ g.room w) [
      | true ↦ λ t.
          let long : cut_room count rest ≡ 66 = grind (arith, nat_tests) in
          let wide = sub_address ∷ bitmaps (length lot.groups) in
          let p = where_elim wide wide _ (puts.pays wide) (all-self wide) in
          let l = wide_room (g.held v) (length lot.groups) in
          let in_wide = bitmaps-one lot at place in
          let part = lacks_part (g.held w) wide sub_address (bitmap_of false at) (λ q. bitmap_not_sub (at / 256) (sym q))
          (in_wide sub_address (has-head sub_address (bitmap_of false at ∷ [])))
          (in_wide (bitmap_of false at) (has-tail sub_address (bitmap_of false at) (bitmap_of false at ∷ []) (has-head (bitmap_of false at) []))) in
          omega arith
      | false ↦ λ t.
          let one : count ≤ rest + 1 = grind (arith, nat_tests) in
          let short : cut_room count rest ≡ 6 = grind (arith, nat_tests) in
          let few = lacks_few (g.held w) sub_address (bitmap_of false at) 2 (omega arith) in
          omega arith
    ] refl

-- one block more was given back
pub gave-next : (lot : LotView) (m0 m1 m2 : ℕ → List ℕ) (xs : List ℕ) (a : ℕ) → is_data lot a ≡ true → Marked lot false m0 m1 xs
    → Gave false m1 m2 a → ((b : ℕ) → b ≢ sub_address → b ≢ bitmap_of false a → m2 b ≡ m1 b) → Marked lot false m0 m2 (xs ++ a ∷ [])
gave-next lot m0 m1 m2 xs a place marked gave only = marked-then lot false m0 m1 m2 xs (a ∷ []) marked (marked-gave lot m1 m2 a place gave only)

-- a give that finds its block free: it was free, or the list has it twice
pub free-next : (lot : LotView) (m0 m1 : ℕ → List ℕ) (xs ys : List ℕ) (a : ℕ) → Marked lot false m0 m1 xs → used_block m1 a ≡ false
    → FreeOrTwice m0 ((xs ++ a ∷ []) ++ ys)
free-next lot m0 m1 xs ys a marked free =
    let u = marked.used a in
    let last = has-right xs (a ∷ []) a (has-head a []) in
    record {
      block = a;
      among = has-left (xs ++ a ∷ []) ys a last;
      why = elim (has xs a) as (λ t. has xs a ≡ t → (used_block m0 a ≡ false) ⊎ (2 ≤ times ((xs ++ a ∷ []) ++ ys) a)) [
        | true ↦ λ t.
            let n = times-append (xs ++ a ∷ []) ys a in
            let k = times-append xs (a ∷ []) a in
            let one = has-times xs a t in
            let two = has-times (a ∷ []) a (has-head a []) in
            inr (omega arith)
        | false ↦ λ t. inl (grind arith)
      ] refl;
    }

-- a give that finds the count 0
pub zero-next : (lot : LotView) (m0 m1 : ℕ → List ℕ) (xs : List ℕ) → Marked lot false m0 m1 xs → counted false m1 ≡ 0 → counted false m0 ≤ length xs
zero-next lot m0 m1 xs marked z = let c = marked.counts.value in omega arith

-- one block more of a run was given back
pub next-gave : (lot : LotView) (m : ℕ → List ℕ) (inode : Inode) (rest k : ℕ) (m0 m1 m2 : ℕ → List ℕ) (a : ℕ) → rest ≤ k
    → a ≡ nth_block m inode k → is_data lot a ≡ true
    → Marked lot false m0 m1 (blocks_between m inode rest k) → Gave false m1 m2 a
    → ((b : ℕ) → b ≢ sub_address → b ≢ bitmap_of false a → m2 b ≡ m1 b) → Marked lot false m0 m2 (blocks_between m inode rest (k + 1))
next-gave lot m inode rest k m0 m1 m2 a h same place marked gave only =
    let list : blocks_between m inode rest k ++ a ∷ [] ≡ blocks_between m inode rest (k + 1) =
    ap (λ x. blocks_between m inode rest k ++ x ∷ []) same ∙ sym (between-next m inode rest k h) in
    rw list at (gave-next lot m0 m1 m2 (blocks_between m inode rest k) a place marked gave only)

-- the next block of a run is found free
pub next-free : (lot : LotView) (m : ℕ → List ℕ) (inode : Inode) (rest k count : ℕ) (m0 m1 : ℕ → List ℕ) (a : ℕ) → rest ≤ k → k < count
    → a ≡ nth_block m inode k
    → Marked lot false m0 m1 (blocks_between m inode rest k) → used_block m1 a ≡ false → FreeOrTwice m0 (blocks_between m inode rest count)
next-free lot m inode rest k count m0 m1 a h l same marked free =
    let list : blocks_between m inode rest count ≡ (blocks_between m inode rest k ++ a ∷ []) ++ blocks_between m inode (k + 1) count =
    between-at m inode rest k count h l ∙ ap (λ x. (blocks_between m inode rest k ++ x ∷ []) ++ blocks_between m inode (k + 1) count) (sym same) in
    rw list (free-next lot m0 m1 (blocks_between m inode rest k) (blocks_between m inode (k + 1) count) a marked free)

-- a block of a map whose indirect block was read, and a run of them
pub same-block : (m : ℕ → List ℕ) (b : List ℕ) (inode : Inode) (k : ℕ) → (12 ≤ k → b ≡ m inode.single) → nth_block m inode k ≡ nth_block (λ _. b) inode k
same-block m b inode k e =
    elim (ltb k 12) as (λ t. ltb k 12 ≡ t → nth_block m inode k ≡ nth_block (λ _. b) inode k) [
      | true ↦ λ t. let n : k < 12 = grind (arith, nat_tests) in nth-direct m inode k n ∙ sym (nth-direct (λ _. b) inode k n)
      | false ↦ λ t.
          let n : 12 ≤ k = grind (arith, nat_tests) in nth-single m inode k n ∙ ap (λ (x : List ℕ). word_at x (4 * (k - 12))) (sym (e n))
          ∙ sym (nth-single (λ _. b) inode k n)
    ] refl

-- a run of a map's blocks is said by the inode and the bytes of its indirect block alone
pub same-run : (m : ℕ → List ℕ) (b : List ℕ) (inode : Inode) (rest count : ℕ) → (12 < count → b ≡ m inode.single)
    → blocks_between m inode rest count ≡ blocks_between (λ _. b) inode rest count
same-run m b inode rest count e =
    map_range_same (nth_block m inode) (nth_block (λ _. b) inode) rest (count - rest) (λ k l h. same-block m b inode k (λ n. e (omega arith)))

-- what is cut off, by its cases
pub cut-direct : (m : ℕ → List ℕ) (inode : Inode) (count rest : ℕ) → count ≤ 12 → cut_off m inode count rest ≡ blocks_between m inode rest count
cut-direct m inode count rest h =
    let e : (nat_lt 12 count && nat_le rest 12) ≡ false = grind (arith, nat_tests) in
    ap (λ t. blocks_between m inode rest count ++ cond t (inode.single ∷ []) []) e ∙ append-nil (blocks_between m inode rest count)

pub cut-more : (m : ℕ → List ℕ) (inode : Inode) (count rest : ℕ) → 12 < rest → cut_off m inode count rest ≡ blocks_between m inode rest count
cut-more m inode count rest h =
    let e : (nat_lt 12 count && nat_le rest 12) ≡ false = grind (arith, nat_tests) in
    ap (λ t. blocks_between m inode rest count ++ cond t (inode.single ∷ []) []) e ∙ append-nil (blocks_between m inode rest count)

pub cut-last : (m : ℕ → List ℕ) (inode : Inode) (count rest : ℕ) → 12 < count → rest ≤ 12
    → cut_off m inode count rest ≡ blocks_between m inode rest count ++ inode.single ∷ []
cut-last m inode count rest h l =
    let e : (nat_lt 12 count && nat_le rest 12) ≡ true = grind (arith, nat_tests) in
    ap (λ t. blocks_between m inode rest count ++ cond t (inode.single ∷ []) []) e

pub cut-none : (m : ℕ → List ℕ) (inode : Inode) (count rest : ℕ) → count ≡ rest → cut_off m inode count rest ≡ []
cut-none m inode count rest h =
    let e : (nat_lt 12 count && nat_le rest 12) ≡ false = grind (arith, nat_tests) in
    ap (λ t. blocks_between m inode rest count ++ cond t (inode.single ∷ []) []) e ∙ append-nil (blocks_between m inode rest count)
    ∙ between-none m inode rest count (omega arith)

pub cut-length : (m : ℕ → List ℕ) (inode : Inode) (count rest : ℕ) → count - rest ≤ length (cut_off m inode count rest)
cut-length m inode count rest =
    let l = length-append (blocks_between m inode rest count) (cond (nat_lt 12 count && nat_le rest 12) (inode.single ∷ []) []) in
    let k = length-between m inode rest count in omega arith

-- the run is a part of it
pub cut-part : (m : ℕ → List ℕ) (b : List ℕ) (inode : Inode) (count rest : ℕ) → (12 < count → b ≡ m inode.single)
    → cut_off m inode count rest ≡ blocks_between (λ _. b) inode rest count ++ cond (nat_lt 12 count && nat_le rest 12) (inode.single ∷ []) []
cut-part m b inode count rest e = ap (λ xs. xs ++ cond (nat_lt 12 count && nat_le rest 12) (inode.single ∷ []) []) (same-run m b inode rest count e)

pub puts-part : (m : ℕ → List ℕ) (b : List ℕ) (inode : Inode) (count rest : ℕ) → (12 < count → b ≡ m inode.single)
    → AllHas (given_puts (cut_off m inode count rest)) (given_puts (blocks_between (λ _. b) inode rest count))
puts-part m b inode count rest e =
    rw (cut-part m b inode count rest e)
    (given-left (blocks_between (λ _. b) inode rest count) (cond (nat_lt 12 count && nat_le rest 12) (inode.single ∷ []) []))

free-left : (m : ℕ → List ℕ) (xs ys : List ℕ) → FreeOrTwice m xs → FreeOrTwice m (xs ++ ys)
free-left m xs ys f = record {
  block = f.block;
  among = has-left xs ys f.block f.among;
  why = ⊎_elim (λ p. inl p) (λ p. inr (let t = times-append xs ys f.block in omega arith)) f.why;
}

pub free-part : (m0 m1 : ℕ → List ℕ) (b : List ℕ) (inode : Inode) (count rest : ℕ) → m1 ≡ m0 → (12 < count → b ≡ m0 inode.single)
    → FreeOrTwice m1 (blocks_between (λ _. b) inode rest count) → FreeOrTwice m0 (cut_off m0 inode count rest)
free-part m0 m1 b inode count rest e r f = rw (cut-part m0 b inode count rest r) (free-left m0 _ _ (rw e at f))

pub marked-from : (lot : LotView) (v : Bool) (m0 m1 m2 : ℕ → List ℕ) (xs ys : List ℕ) → m1 ≡ m0 → ys ≡ xs → Marked lot v m1 m2 xs → Marked lot v m0 m2 ys
marked-from lot v m0 m1 m2 xs ys e f k = rw f (rw e at k)

-- the room of a cut
pub cut-room-by : {V D : Type 0} (g : view.Ghosts V D) (lot : LotView) (ok : Bool) (v : V) (d : D) (w : V) (e : D) (count rest n : ℕ)
    → length lot.groups ≤ 64 → Puts g lot ok (sub_address ∷ bitmaps (length lot.groups)) v d w e
    → g.room v ≤ g.room w + n → (count ≤ rest + 1 → n ≤ 6) → g.room v ≤ g.room w + cut_room count rest
cut-room-by g lot ok v d w e count rest n few puts spent small =
    let wide = sub_address ∷ bitmaps (length lot.groups) in
    let p = where_elim wide wide _ (puts.pays wide) (all-self wide) in
    let l = wide_room (g.held v) (length lot.groups) in
    let one : cond ok 0 1 ≤ 1 = elim ok as (λ o. cond o 0 1 ≤ 1) [ true ↦ omega arith | false ↦ omega arith ] in
    elim (ltb (rest + 1) count) as (λ t. ltb (rest + 1) count ≡ t → g.room v ≤ g.room w + cut_room count rest) [
      | true ↦ λ t. let long : cut_room count rest ≡ 66 = grind (arith, nat_tests) in omega arith
      | false ↦ λ t. let short : cut_room count rest ≡ 6 = grind (arith, nat_tests) in let s = small (grind (arith, nat_tests)) in omega arith
    ] refl

-- where the map has no indirect block, or keeps it, just the run is cut off
pub cut-run-whole : (m : ℕ → List ℕ) (b : List ℕ) (inode : Inode) (count rest : ℕ) → (count ≤ 12) ⊎ ((12 < count) × (12 < rest)) → (12 < count → b ≡ m inode.single)
    → cut_off m inode count rest ≡ blocks_between (λ _. b) inode rest count
cut-run-whole m b inode count rest h e =
    ⊎_elim (cut-direct m inode count rest) (λ k. cut-more m inode count rest k.1) h ∙ same-run m b inode rest count e

pub cut-run-last : (m : ℕ → List ℕ) (b : List ℕ) (inode : Inode) (count rest : ℕ) → 12 < count → rest ≤ 12
    → (12 < count → b ≡ m inode.single) → cut_off m inode count rest ≡ blocks_between (λ _. b) inode rest count ++ inode.single ∷ []
cut-run-last m b inode count rest h l e = cut-last m inode count rest h l ∙ ap (λ xs. xs ++ inode.single ∷ []) (same-run m b inode rest count e)

-- the indirect block is the last that is given back
pub last-puts : {V D : Type 0} (g : view.Ghosts V D) (lot : LotView) (ok : Bool) (m : ℕ → List ℕ)
    (b : List ℕ) (inode : Inode) (count rest : ℕ) (v : V) (d : D) (w : V) (e : D) (x : V) (f : D)
    → 12 < count → rest ≤ 12 → (12 < count → b ≡ m inode.single)
    → Puts g lot true (given_puts (blocks_between (λ _. b) inode rest count)) v d w e
    → Puts g lot ok (sub_address ∷ bitmap_of false inode.single ∷ []) w e x f → Puts g lot ok (given_puts (cut_off m inode count rest)) v d x f
last-puts g lot ok m b inode count rest v d w e x f h l r p q =
    let step = puts-then g lot ok (given_puts (blocks_between (λ _. b) inode rest count)) (sub_address ∷ bitmap_of false inode.single ∷ [])
    (given_puts (blocks_between (λ _. b) inode rest count ++ inode.single ∷ [])) v d w e x f p q
    (given-left (blocks_between (λ _. b) inode rest count) (inode.single ∷ [])) (given-one (blocks_between (λ _. b) inode rest count) inode.single) in
    rw (cut-run-last m b inode count rest h l r) step

pub free-last : (lot : LotView) (m0 m1 m2 : ℕ → List ℕ) (b : List ℕ) (inode : Inode) (count rest : ℕ) → m1 ≡ m0 → 12 < count → rest ≤ 12
    → (12 < count → b ≡ m0 inode.single)
    → Marked lot false m1 m2 (blocks_between (λ _. b) inode rest count) → used_block m2 inode.single ≡ false → FreeOrTwice m0 (cut_off m0 inode count rest)
free-last lot m0 m1 m2 b inode count rest e h l r marked free =
    let list = cut-run-last m0 b inode count rest h l r ∙ sym (append-nil (blocks_between (λ _. b) inode rest count ++ inode.single ∷ [])) in
    rw list (rw e at (free-next lot m1 m2 (blocks_between (λ _. b) inode rest count) [] inode.single marked free))

pub counted-from : (m0 m1 : ℕ → List ℕ) (n l : ℕ) → m1 ≡ m0 → counted false m1 < n → n ≤ l → counted false m0 < l
counted-from m0 m1 n l e h k = let c = ap (counted false) e in omega arith

-- the fields of a shortened inode
pub shortened-single : (inode : Inode) (rest : ℕ) → 12 < rest → (shortened inode rest).single ≡ inode.single
shortened-single inode rest h = grind (arith, nat_tests)

pub shortened-none : (inode : Inode) (rest : ℕ) → rest ≤ 12 → (shortened inode rest).single ≡ 0
shortened-none inode rest h = grind (arith, nat_tests)

pub ruleset shortened_laws = (shortened-single, shortened-none)

-- the blocks that stay
rest-stays : (m0 m1 : ℕ → List ℕ) (old : Inode) (rest : ℕ) → length old.direct ≡ 12 → (12 < rest → m1 old.single ≡ m0 old.single) → (k : ℕ)
    → k < rest → nth_block m1 (shortened old rest) k ≡ nth_block m0 old k
rest-stays m0 m1 old rest l same k h =
    elim (ltb k 12) as (λ t. ltb k 12 ≡ t → nth_block m1 (shortened old rest) k ≡ nth_block m0 old k) [
      | true ↦ λ t. let n : k < 12 = grind (arith, nat_tests) in
          nth-direct m1 (shortened old rest) k n ∙ front old.direct rest k (omega arith) h ∙ sym (nth-direct m0 old k n)
      | false ↦ λ t. let n : 12 ≤ k = grind (arith, nat_tests) in
          let s = shortened-single old rest (omega arith) in
          nth-single m1 (shortened old rest) k n ∙ ap (λ x. word_at (m1 x) (4 * (k - 12))) s
          ∙ ap (λ (u : List ℕ). word_at u (4 * (k - 12))) (same (omega arith)) ∙ sym (nth-single m0 old k n)
    ] refl
  where
    front : (xs : List ℕ) (rest k : ℕ) → k < length xs → k < rest → slice_index (take rest xs ++ replicate (12 - rest) 0) k ≡ slice_index xs k
    front xs rest k h l = grind (arith, elements)

-- what a map uses: what it uses after the cut, and what was cut off
indirect-cut : (old : Inode) (count rest : ℕ) → rest ≤ count → (b : ℕ)
    → times (indirect_of old count) b
    ≡ times (indirect_of (shortened old rest) rest) b + times (cond (nat_lt 12 count && nat_le rest 12) (old.single ∷ []) []) b
indirect-cut old count rest h b =
    elim (ltb 12 count) as (λ t. ltb 12 count ≡ t
    → times (indirect_of old count) b
    ≡ times (indirect_of (shortened old rest) rest) b + times (cond (nat_lt 12 count && nat_le rest 12) (old.single ∷ []) []) b) [
      | false ↦ λ t.
          let x : indirect_of old count ≡ [] = grind (arith, nat_tests) in
          let y : indirect_of (shortened old rest) rest ≡ [] = grind (arith, nat_tests) in
          let z : cond (nat_lt 12 count && nat_le rest 12) (old.single ∷ []) [] ≡ [] = grind (arith, nat_tests) in
          let p = ap (λ xs. times xs b) x in let q = ap (λ xs. times xs b) y in let r = ap (λ xs. times xs b) z in omega arith
      | true ↦ λ t.
          let x : indirect_of old count ≡ old.single ∷ [] = grind (arith, nat_tests) in
          let p = ap (λ xs. times xs b) x in
          elim (ltb 12 rest) as (λ u. ltb 12 rest ≡ u → times (indirect_of old count) b ≡ times
          (indirect_of (shortened old rest) rest) b + times (cond (nat_lt 12 count && nat_le rest 12) (old.single ∷ []) []) b) [
            | true ↦ λ u.
                let s = shortened-single old rest (grind (arith, nat_tests)) in
                let y : indirect_of (shortened old rest) rest ≡ (shortened old rest).single ∷ [] = grind (arith, nat_tests) in
                let z : cond (nat_lt 12 count && nat_le rest 12) (old.single ∷ []) [] ≡ [] = grind (arith, nat_tests) in
                let q = ap (λ xs. times xs b) (y ∙ ap (λ x. x ∷ []) s) in let r = ap (λ xs. times xs b) z in omega arith
            | false ↦ λ u.
                let y : indirect_of (shortened old rest) rest ≡ [] = grind (arith, nat_tests) in
                let z : cond (nat_lt 12 count && nat_le rest 12) (old.single ∷ []) [] ≡ old.single ∷ [] = grind (arith, nat_tests) in
                let q = ap (λ xs. times xs b) y in let r = ap (λ xs. times xs b) z in omega arith
          ] refl
    ] refl

pub cut-made : (lot : LotView) (m0 m1 : ℕ → List ℕ) (old new : Inode) (count rest : ℕ) → new ≡ shortened old rest → length old.direct ≡ 12
    → rest ≤ count → (12 < rest → m1 old.single ≡ m0 old.single)
    → Marked lot false m0 m1 (cut_off m0 old count rest) → Cut lot m0 m1 old new count rest
cut-made lot m0 m1 old new count rest e l h same gave =
    let blocks = map_range_same (nth_block m1 (shortened old rest)) (nth_block m0 old) 0 rest
    (λ k low high. rest-stays m0 m1 old rest l same k (omega arith)) in
    subst (λ (x : Inode). Cut lot m0 m1 old x count rest) (sym e) (record {
      blocks = blocks;
      gave = gave;
      used = λ b.
          let i = indirect-cut old count rest h b in
          let parts = range-append (nth_block m0 old) 0 rest (count - rest) in
          let n : rest + (count - rest) ≡ count = omega arith in
          let z : 0 + rest ≡ rest = omega arith in
          let whole = ap (λ x. map (nth_block m0 old) (range_with_len 0 x)) (sym n) ∙ sym parts
          ∙ ap (λ x. blocks_of m0 old rest ++ map (nth_block m0 old) (range_with_len x (count - rest))) z in
          let p = times-append (indirect_of old count) (blocks_of m0 old count) b in
          let q = ap (λ xs. times xs b) whole ∙ times-append (blocks_of m0 old rest) (blocks_between m0 old rest count) b in
          let r = times-append (indirect_of (shortened old rest) rest) (blocks_of m1 (shortened old rest) rest) b in
          let s = ap (λ xs. times xs b) blocks in
          let t = times-append (blocks_between m0 old rest count) (cond (nat_lt 12 count && nat_le rest 12) (old.single ∷ []) []) b in
          omega arith;
    })

-- pointers that were cleared from a place on
pub cleared : (xs ys : List ℕ) (rest first : ℕ) → length xs ≡ 12 → length ys ≡ 12 → (rest < 12 → first ≡ rest) → (12 ≤ rest → first ≡ 12)
    → ((j : ℕ) → j < first → slice_index ys j ≡ slice_index xs j)
    → ((j : ℕ) → first ≤ j → j < 12 → slice_index ys j ≡ 0) → ys ≡ take rest xs ++ replicate (12 - rest) 0
cleared xs ys rest first lx ly low high front back =
    ext_get_or 0 ys (take rest xs ++ replicate (12 - rest) 0)
    (let e : length (take rest xs ++ replicate (12 - rest) 0) ≡ 12 = grind (arith, common_steps) in cc)
    (λ k h. elim (ltb k rest) as (λ t. ltb k rest ≡ t → slice_index ys k ≡ slice_index (take rest xs ++ replicate (12 - rest) 0) k) [
      | true ↦ λ t. let n : k < rest = grind (arith, nat_tests) in
          let f : k < first = elim (ltb rest 12) as (λ u. ltb rest 12 ≡ u → k < first) [
            | true ↦ λ u. let e = low (grind (arith, nat_tests)) in omega arith
            | false ↦ λ u. let e = high (grind (arith, nat_tests)) in omega arith
          ] refl in
          front k f ∙ sym (old_part xs rest k (omega arith) n)
      | false ↦ λ t. let n : rest ≤ k = grind (arith, nat_tests) in
          let e = low (omega arith) in
          back k (omega arith) (omega arith) ∙ sym (new_part xs rest k (omega arith) n (omega arith))
    ] refl)
  where
    old_part : (xs : List ℕ) (rest k : ℕ) → k < length xs → k < rest → slice_index (take rest xs ++ replicate (12 - rest) 0) k ≡ slice_index xs k
    old_part xs rest k h l = grind (arith, elements)

    new_part : (xs : List ℕ) (rest k : ℕ) → length xs ≡ 12 → rest ≤ k → k < 12 → slice_index (take rest xs ++ replicate (12 - rest) 0) k ≡ 0
    new_part xs rest k l h n = grind (arith, elements)
