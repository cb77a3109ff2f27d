-- What a growth of a map does.
use Rattle.std.proofs.Common.{◌≡◌, ◌≢◌, ◌≤◌, ◌<◌, ◌+◌, ◌-◌, ◌*◌, ◌/◌, ◌%◌, ◌==◌, ℕ, Bool, true, false, cond, List, [], ◌∷◌, ◌++◌, length, slice_index, slice_set, replicate, get_or-set_other, get_or-set_same, inl, ◌∙◌, sym, refl, ap, arith, subst, ltb}
use Rattle.std.proofs.lemmas.Bool.Decides.{nat_tests}
use Rattle.std.proofs.lemmas.Nat.{div-add-mod', mod_below}
use Rattle.std.proofs.lemmas.List.FromFn.{map-range_with_len_more}
use Rattle.ice_base.specs.Bits.{IsLeast}
use Rattle.ice_base.specs.Fields.{word_at, WordSet}
use Rattle.ice_base.specs.Inodes.{inode_address}
use Rattle.ice_base.specs.Lots.{LotView, sub_address}
use Rattle.ice_base.specs.Pools.{Took}
use Rattle.ice_base.specs.Spare.{has}
use Rattle.ice_base.specs.Used.{used_block, is_data, bitmap_of}
use Rattle.ice_base.proofs.UsedLaws.{data_below, data_place}
use Rattle.ice_base.proofs.FieldLaws.{word-others}
use Rattle.ice_map.specs.declared.codec.Inode.{Inode}
use Rattle.ice_map.specs.Inodes.{inode_at}
use Rattle.ice_map.specs.Maps.{nth_block, blocks_of, indirect_of, uses, times, growth, Marked, Stays, TookTwo, Grown, growth_puts, needs, Owns, MapStays, OthersStay}
use Rattle.ice_map.proofs.ListLaws.{map_range_same, times-append, has-append, has-one, has-none}
use Rattle.ice_map.proofs.MapLaws.{nth-direct, nth-single}
use Rattle.ice_map.proofs.MarkLaws.{marked-took, marked-then, marked-same, data_not_bitmap, data_not_sub}

inode_place : (n : ℕ) → inode_address n % 256 ≡ 1 + n % 64 / 8
inode_place n =
    let d = div-add-mod' (inode_address n) 256 in
    let m = mod_below (inode_address n) 256 (omega arith) in
    let r = mod_below n 64 (omega arith) in
    let e = div-add-mod' (n % 64) 8 in
    omega arith

inode_small : (n : ℕ) → inode_address n % 256 ≤ 8
inode_small n = let p = inode_place n in let r = mod_below n 64 (omega arith) in let e = div-add-mod' (n % 64) 8 in omega arith

-- an inode's block is no bitmap block, no data place and not the sub-super block
pub inode_not_bitmap : (n o : ℕ) → inode_address n ≢ 256 * o
inode_not_bitmap n o e = let p = inode_place n in let f : inode_address n % 256 ≡ 256 * o % 256 = ap (λ x. x % 256) e in omega arith

-- the block of an inode is no data place
pub inode_not_data : (lot : LotView) (n a : ℕ) → is_data lot a ≡ true → inode_address n ≢ a
inode_not_data lot n a h e = let p = data_place lot a h in let s = inode_small n in let f : inode_address n % 256 ≡ a % 256 = ap (λ x. x % 256) e in omega arith

-- the block of an inode is not the sub-super block
pub inode_not_sub : (n : ℕ) → inode_address n ≢ sub_address
inode_not_sub n e = let s = inode_small n in let f : inode_address n % 256 ≡ 255 = ap (λ x. x % 256) e in omega arith

pub data_apart : (lot : LotView) (a o : ℕ) → is_data lot a ≡ true → a ≢ 256 * o
data_apart lot a o h e = let p = data_place lot a h in let f : a % 256 ≡ 256 * o % 256 = ap (λ x. x % 256) e in omega arith

-- where only bitmap blocks and the sub-super block changed, every inode and every data block stays
pub stays-none : (lot : LotView) (m0 m1 : ℕ → List ℕ) (but : List ℕ) → length lot.groups ≤ 64
    → ((b : ℕ) → b ≢ sub_address → ((o : ℕ) → b ≢ 256 * o) → m1 b ≡ m0 b) → Stays lot m0 m1 but
stays-none lot m0 m1 but few only = record {
  inodes = λ n. ap (λ (b : List ℕ). inode_at b (n % 8)) (only (inode_address n) (inode_not_sub n) (inode_not_bitmap n));
  blocks = λ b d u h. only b (λ e. let l = data_below lot b d in omega arith) (λ o. data_apart lot b o d);
}

-- and so where one block changed besides that was not used, or is excepted
pub stays-one : (lot : LotView) (m0 m1 : ℕ → List ℕ) (but : List ℕ) (s : ℕ) → length lot.groups ≤ 64 → is_data lot s ≡ true
    → (has but s ≡ false → used_block m0 s ≡ false)
    → ((b : ℕ) → b ≢ sub_address → ((o : ℕ) → b ≢ 256 * o) → b ≢ s → m1 b ≡ m0 b) → Stays lot m0 m1 but
stays-one lot m0 m1 but s few place free only = record {
  inodes = λ n. ap (λ (b : List ℕ). inode_at b (n % 8)) (only (inode_address n) (inode_not_sub n) (inode_not_bitmap n) (inode_not_data lot n s place));
  blocks = λ b d u h. only b (λ e. let l = data_below lot b d in omega arith) (λ o. data_apart lot b o d)
      (λ e. let f = free (ap (has but) (sym e) ∙ h) in let g : used_block m0 s ≡ true = ap (used_block m0) (sym e) ∙ u in absurd cc);
}

set_same : (xs ys : List ℕ) (k a : ℕ) → ys ≡ slice_set xs k a → k < length xs → slice_index ys k ≡ a
set_same xs ys k a e h = ap (λ (l : List ℕ). slice_index l k) e ∙ get_or-set_same xs k a 0 h

set_other : (xs ys : List ℕ) (k a j : ℕ) → ys ≡ slice_set xs k a → j ≢ k → slice_index ys j ≡ slice_index xs j
set_other xs ys k a j e ne = ap (λ (l : List ℕ). slice_index l j) e ∙ get_or-set_other xs k j a 0 ne

-- one block more
pub blocks-grow : (m0 m1 : ℕ → List ℕ) (old new : Inode) (count a : ℕ) → ((n : ℕ) → n < count → nth_block m1 new n ≡ nth_block m0 old n)
    → nth_block m1 new count ≡ a → blocks_of m1 new (count + 1) ≡ blocks_of m0 old count ++ a ∷ []
blocks-grow m0 m1 old new count a same next =
    map-range_with_len_more (nth_block m1 new) 0 count count (omega arith)
    ∙ ap (λ (xs : List ℕ). xs ++ nth_block m1 new count ∷ []) (map_range_same (nth_block m1 new) (nth_block m0 old) 0 count (λ k l h. same k (omega arith)))
    ∙ ap (λ x. blocks_of m0 old count ++ x ∷ []) next

-- the blocks that were taken were free
fresh-one : (m : ℕ → List ℕ) (a b : ℕ) → used_block m a ≡ false → has (a ∷ []) b ≡ true → used_block m b ≡ false
fresh-one m a b f h = let e : b ≡ a = grind (arith, nat_tests, has-one) in ap (used_block m) e ∙ f

fresh-two : (m : ℕ → List ℕ) (a s b : ℕ) → used_block m a ≡ false → used_block m s ≡ false → has (a ∷ s ∷ []) b ≡ true → used_block m b ≡ false
fresh-two m a s b f g h =
    let l = has-append (a ∷ []) (s ∷ []) b in
    elim (has (a ∷ []) b) as (λ t. has (a ∷ []) b ≡ t → used_block m b ≡ false) [
      | true ↦ λ t. fresh-one m a b f t
      | false ↦ λ t. fresh-one m s b g (grind arith)
    ] refl

indirect-none : (inode : Inode) (count : ℕ) → count ≤ 12 → indirect_of inode count ≡ []
indirect-none inode count h = grind (arith, nat_tests)

indirect-one : (inode : Inode) (count : ℕ) → 12 < count → indirect_of inode count ≡ inode.single ∷ []
indirect-one inode count h = grind (arith, nat_tests)

pub growth-one : (count a s : ℕ) → count ≢ 12 → growth count a s ≡ a ∷ []
growth-one count a s h = grind (arith, nat_tests)

pub growth-two : (count a s : ℕ) → count ≡ 12 → growth count a s ≡ a ∷ s ∷ []
growth-two count a s h = grind (arith, nat_tests)

-- what the grown map uses: what it used, and the blocks that were taken
pub uses-grow : (m0 m1 : ℕ → List ℕ) (old new : Inode) (count a : ℕ) → blocks_of m1 new (count + 1) ≡ blocks_of m0 old count ++ a ∷ []
    → (count ≢ 12 → new.single ≡ old.single)
    → (b : ℕ) → times (uses m1 new (count + 1)) b ≡ times (uses m0 old count) b + times (growth count a new.single) b
uses-grow m0 m1 old new count a blocks single b =
    let all = times-append (indirect_of new (count + 1)) (blocks_of m1 new (count + 1)) b in
    let more = ap (λ xs. times xs b) blocks ∙ times-append (blocks_of m0 old count) (a ∷ []) b in
    let before = times-append (indirect_of old count) (blocks_of m0 old count) b in
    elim (ltb count 12) as (λ t. ltb count 12 ≡ t → times (uses m1 new (count + 1)) b ≡ times (uses m0 old count) b + times (growth count a new.single) b) [
      | true ↦ λ t.
          let h : count < 12 = grind (arith, nat_tests) in
          let x = ap (λ xs. times xs b) (indirect-none new (count + 1) (omega arith)) in
          let y = ap (λ xs. times xs b) (indirect-none old count (omega arith)) in
          let z = ap (λ xs. times xs b) (growth-one count a new.single (λ e. omega arith)) in
          omega arith
      | false ↦ λ t.
          let x = ap (λ xs. times xs b) (indirect-one new (count + 1) (grind (arith, nat_tests))) in
          elim (count == 12) as (λ u. (count == 12) ≡ u
          → times (uses m1 new (count + 1)) b ≡ times (uses m0 old count) b + times (growth count a new.single) b) [
            | true ↦ λ u.
                let h : count ≡ 12 = grind (arith, nat_tests) in
                let y = ap (λ xs. times xs b) (indirect-none old count (omega arith)) in
                let z = ap (λ xs. times xs b) (growth-two count a new.single h) ∙ times-append (a ∷ []) (new.single ∷ []) b in
                omega arith
            | false ↦ λ u.
                let h : count ≢ 12 = grind (arith, nat_tests) in
                let y = ap (λ xs. times xs b) (indirect-one old count (grind (arith, nat_tests))) in
                let z = ap (λ xs. times xs b) (growth-one count a new.single h) in
                let s = ap (λ k. times (k ∷ []) b) (single h) in
                omega arith
          ] refl
    ] refl

least-same : (p q : ℕ → Bool) (a : ℕ) → ((b : ℕ) → q b ≡ p b) → IsLeast p a → IsLeast q a
least-same p q a h l = (h a ∙ l.0, λ b k. h b ∙ l.1 b k)

-- two blocks that were taken one after the other
pub took-two : (lot : LotView) (m0 m1 m2 : ℕ → List ℕ) (a b : ℕ) → IsLeast (used_block m0) a → Marked lot true m0 m1 (a ∷ [])
    → IsLeast (used_block m1) b → Marked lot true m1 m2 (b ∷ []) → TookTwo lot m0 m2 a b
took-two lot m0 m1 m2 a b la ma lb mb = record {
  first = la;
  second =
      least-same (used_block m1) (λ k. cond (k == a) true (used_block m0 k)) b
      (λ k. ap (λ t. cond t true (used_block m0 k)) (sym (has-one a k)) ∙ sym (ma.used k)) lb;
  took = marked-then lot true m0 m1 m2 (a ∷ []) (b ∷ []) ma mb;
}

pub grown-direct : (lot : LotView) (m0 m1 : ℕ → List ℕ) (old new : Inode) (count a : ℕ) → new.direct ≡ slice_set old.direct count a
    → new.single ≡ old.single → count < 12 → length old.direct ≡ 12
    → is_data lot a ≡ true → Took false m0 m1 a → ((b : ℕ) → b ≢ sub_address → b ≢ bitmap_of false a → m1 b ≡ m0 b) → Grown lot m0 m1 old new count a
grown-direct lot m0 m1 old new count a d single h l place t only =
    let blocks = blocks-grow m0 m1 old new count a
    (λ n p. nth-direct m1 new n (omega arith) ∙ set_other old.direct new.direct count a n d (λ e. omega arith) ∙ sym (nth-direct m0 old n (omega arith)))
    (nth-direct m1 new count h ∙ set_same old.direct new.direct count a d (omega arith)) in
    let one : (count == 12) ≡ false = grind (arith, nat_tests) in
    record {
      blocks = blocks;
      least = t.least;
      least_single = λ e. absurd (omega arith);
      fresh = rw one (λ b. fresh-one m0 a b t.least.0);
      took = rw one (marked-took lot m0 m1 a place t only);
      used = uses-grow m0 m1 old new count a blocks (λ ne. single);
      named = λ e. absurd (omega arith);
    }

-- the second of two blocks that were taken was free
pub two-free : (lot : LotView) (m0 m1 : ℕ → List ℕ) (a s : ℕ) → TookTwo lot m0 m1 a s → used_block m0 s ≡ false
two-free lot m0 m1 a s t = let e = t.second.0 in grind arith

-- a data place that is written leaves the bitmap blocks and the sub-super block
beside-bitmaps : (lot : LotView) (m1 m2 : ℕ → List ℕ) (s : ℕ) → is_data lot s ≡ true → ((b : ℕ) → b ≢ s → m2 b ≡ m1 b) → (o : ℕ) → m2 (256 * o) ≡ m1 (256 * o)
beside-bitmaps lot m1 m2 s place only o = only (256 * o) (data_not_bitmap lot s o place)

beside-sub : (lot : LotView) (m1 m2 : ℕ → List ℕ) (s : ℕ) → length lot.groups ≤ 64 → is_data lot s ≡ true → ((b : ℕ) → b ≢ s → m2 b ≡ m1 b)
    → m2 sub_address ≡ m1 sub_address
beside-sub lot m1 m2 s few place only = only sub_address (data_not_sub lot s few place)

pub marked-beside : (lot : LotView) (v : Bool) (m0 m1 m2 : ℕ → List ℕ) (xs : List ℕ) (s : ℕ) → length lot.groups ≤ 64
    → is_data lot s ≡ true → ((b : ℕ) → b ≢ s → m2 b ≡ m1 b) → Marked lot v m0 m1 xs → Marked lot v m0 m2 xs
marked-beside lot v m0 m1 m2 xs s few place only k =
    marked-same lot v m0 m1 m2 xs (beside-bitmaps lot m1 m2 s place only) (beside-sub lot m1 m2 s few place only) k

pub grown-first : (lot : LotView) (m0 m1 m2 : ℕ → List ℕ) (old new : Inode) (block text : List ℕ) (a s : ℕ) → new.direct ≡ old.direct
    → new.single ≡ s → length lot.groups ≤ 64 → is_data lot s ≡ true
    → TookTwo lot m0 m1 a s → block ≡ replicate 1024 0 → WordSet block 0 a text → m2 s ≡ text → ((b : ℕ) → b ≢ s → m2 b ≡ m1 b) → Grown lot m0 m2 old new 12 a
grown-first lot m0 m1 m2 old new block text a s d e few place two z w at only =
    let blocks = blocks-grow m0 m2 old new 12 a
    (λ n h. nth-direct m2 new n h ∙ ap (λ (x : List ℕ). slice_index x n) d ∙ sym (nth-direct m0 old n h))
    (nth-single m2 new 12 (omega arith) ∙ ap (λ (x : List ℕ). word_at x 0) (ap m2 e ∙ at) ∙ w.value) in
    let named : WordSet (replicate 1024 0) 0 a (m2 new.single) = rw (ap m2 e ∙ at) (subst (λ (x : List ℕ). WordSet x 0 a text) z w) in
    let fresh : (b : ℕ) → has (a ∷ new.single ∷ []) b ≡ true
    → used_block m0 b ≡ false = (λ b. fresh-two m0 a new.single b two.first.0 (ap (used_block m0) e ∙ two-free lot m0 m1 a s two)) in
    let took : Marked lot true m0 m2 (a ∷ new.single ∷ []) = rw e (marked-beside lot true m0 m1 m2 (a ∷ s ∷ []) s few place only two.took) in
    record {
      blocks = blocks;
      least = two.first;
      least_single = λ _. rw e two.second;
      fresh = fresh;
      took = took;
      used = uses-grow m0 m2 old new 12 a blocks (λ ne. absurd (ne refl));
      named = λ _. named;
    }

pub grown-single : (lot : LotView) (m0 m1 m2 : ℕ → List ℕ) (inode : Inode) (block text : List ℕ) (count a : ℕ) → 12 < count
    → length lot.groups ≤ 64 → is_data lot inode.single ≡ true → is_data lot a ≡ true
    → Took false m0 m1 a → ((b : ℕ) → b ≢ sub_address → b ≢ bitmap_of false a → m1 b ≡ m0 b)
    → block ≡ m0 inode.single → WordSet block (4 * (count - 12)) a text → m2 inode.single ≡ text
    → ((b : ℕ) → b ≢ inode.single → m2 b ≡ m1 b) → Grown lot m0 m2 inode inode count a
grown-single lot m0 m1 m2 inode block text count a h few place new t puts e w at only =
    let blocks = blocks-grow m0 m2 inode inode count a
    (λ n q. elim (ltb n 12) as (λ t. ltb n 12 ≡ t → nth_block m2 inode n ≡ nth_block m0 inode n) [
      | true ↦ λ t. let l : n < 12 = grind (arith, nat_tests) in nth-direct m2 inode n l ∙ sym (nth-direct m0 inode n l)
      | false ↦ λ t. let l : 12 ≤ n = grind (arith, nat_tests) in
          nth-single m2 inode n l ∙ ap (λ (x : List ℕ). word_at x (4 * (n - 12))) at
          ∙ word-others block text (4 * (count - 12)) a (4 * (n - 12)) w (inl (omega arith))
          ∙ ap (λ (x : List ℕ). word_at x (4 * (n - 12))) e ∙ sym (nth-single m0 inode n l)
    ] refl)
    (nth-single m2 inode count (omega arith) ∙ ap (λ (x : List ℕ). word_at x (4 * (count - 12))) at ∙ w.value) in
    let one : (count == 12) ≡ false = grind (arith, nat_tests) in
    let named : WordSet (m0 inode.single) (4 * (count - 12)) a (m2 inode.single) = rw at (subst (λ (x : List ℕ). WordSet x (4 * (count - 12)) a text) e w) in
    record {
      blocks = blocks;
      least = t.least;
      least_single = λ e. absurd (omega arith);
      fresh = rw one (λ b. fresh-one m0 a b t.least.0);
      took = rw one (marked-beside lot true m0 m1 m2 (a ∷ []) inode.single few place only (marked-took lot m0 m1 a new t puts));
      used = uses-grow m0 m2 inode inode count a blocks (λ ne. refl);
      named = λ _. rw one named;
    }

-- where the indirect block of the map changed
pub stays-own : (lot : LotView) (m0 m1 : ℕ → List ℕ) (inode : Inode) (count : ℕ) → 12 < count → length lot.groups ≤ 64 → is_data lot inode.single ≡ true
    → ((b : ℕ) → b ≢ sub_address → ((o : ℕ) → b ≢ 256 * o) → b ≢ inode.single → m1 b ≡ m0 b) → Stays lot m0 m1 (indirect_of inode count)
stays-own lot m0 m1 inode count h few place only =
    let mine = ap (λ xs. has xs inode.single) (indirect-one inode count h) ∙ has-one inode.single inode.single in
    stays-one lot m0 m1 (indirect_of inode count) inode.single few place (λ e. absurd (grind (arith, nat_tests))) only

-- what is said of equal maps
pub grown-from : (lot : LotView) (m0 m1 m2 : ℕ → List ℕ) (old new : Inode) (count a : ℕ) → m1 ≡ m0 → Grown lot m1 m2 old new count a
    → Grown lot m0 m2 old new count a
grown-from lot m0 m1 m2 old new count a e g = subst (λ (m : ℕ → List ℕ). Grown lot m m2 old new count a) e g

pub grown-twelve : (lot : LotView) (m0 m2 : ℕ → List ℕ) (old new : Inode) (count a : ℕ) → count ≡ 12 → Grown lot m0 m2 old new 12 a
    → Grown lot m0 m2 old new count a
grown-twelve lot m0 m2 old new count a e g = subst (λ n. Grown lot m0 m2 old new n a) (sym e) g

pub stays-from : (lot : LotView) (m0 m1 m2 : ℕ → List ℕ) (but : List ℕ) → m1 ≡ m0 → Stays lot m1 m2 but → Stays lot m0 m2 but
stays-from lot m0 m1 m2 but e s = subst (λ (m : ℕ → List ℕ). Stays lot m m2 but) e s

-- which addresses a growth puts, by its three cases
pub puts-direct : (count a s : ℕ) → count < 12 → growth_puts count a s ≡ sub_address ∷ bitmap_of false a ∷ []
puts-direct count a s h = grind (arith, nat_tests)

pub puts-first : (count a s : ℕ) → count ≡ 12 → growth_puts count a s ≡ sub_address ∷ bitmap_of false a ∷ s ∷ bitmap_of false s ∷ []
puts-first count a s h = grind (arith, nat_tests)

pub puts-single : (count a s : ℕ) → 12 < count → growth_puts count a s ≡ sub_address ∷ bitmap_of false a ∷ s ∷ []
puts-single count a s h = grind (arith, nat_tests)

-- how many blocks a growth takes, by its cases
pub needs-one : (count : ℕ) → count ≢ 12 → needs count ≡ 1
needs-one count h = grind (arith, nat_tests)

pub needs-two : (count : ℕ) → count ≡ 12 → needs count ≡ 2
needs-two count h = grind (arith, nat_tests)

pub ruleset needs_laws = (needs-one, needs-two)

-- a map whose blocks stay
pub map-stays : (m0 m1 : ℕ → List ℕ) (inode : Inode) (count : ℕ) → ((b : ℕ) → has (uses m0 inode count) b ≡ true → m1 b ≡ m0 b) → MapStays m0 m1 inode count
map-stays m0 m1 inode count same = record {
  blocks = map_range_same (nth_block m1 inode) (nth_block m0 inode) 0 count
      (λ k l h. elim (ltb k 12) as (λ t. ltb k 12 ≡ t → nth_block m1 inode k ≡ nth_block m0 inode k) [
        | true ↦ λ t. let n : k < 12 = grind (arith, nat_tests) in nth-direct m1 inode k n ∙ sym (nth-direct m0 inode k n)
        | false ↦ λ t. let n : 12 ≤ k = grind (arith, nat_tests) in
            let one = indirect-one inode count (omega arith) in
            let front = has-append (indirect_of inode count) (blocks_of m0 inode count) inode.single in
            let mine = ap (λ xs. has xs inode.single) one ∙ has-one inode.single inode.single in
            let e = same inode.single (grind (arith, nat_tests)) in
            nth-single m1 inode k n ∙ ap (λ (x : List ℕ). word_at x (4 * (k - 12))) e ∙ sym (nth-single m0 inode k n)
      ] refl);
  bytes = same;
}

-- what stays of the others
pub others-stay : (lot : LotView) (m0 m1 : ℕ → List ℕ) (inode : Inode) (count : ℕ) → Stays lot m0 m1 (indirect_of inode count)
    → OthersStay lot m0 m1 inode count
others-stay lot m0 m1 inode count s other n owns apart = map-stays m0 m1 other n (λ b h. s.blocks b (owns b h).0 (owns b h).1
    (elim (ltb 12 count) as (λ t. ltb 12 count ≡ t → has (indirect_of inode count) b ≡ false) [
      | true ↦ λ t. let l : 12 < count = grind (arith, nat_tests) in
          let not_mine = apart l in
          let one = ap (λ xs. has xs b) (indirect-one inode count l) ∙ has-one inode.single b in
          elim (b == inode.single) as (λ u. (b == inode.single) ≡ u → has (indirect_of inode count) b ≡ false) [
            | true ↦ λ u. let e : b ≡ inode.single = grind (arith, nat_tests) in let q = ap (λ x. has (uses m0 other n) x) e in absurd cc
            | false ↦ λ u. one ∙ u
          ] refl
      | false ↦ λ t. let l : count ≤ 12 = grind (arith, nat_tests) in ap (λ xs. has xs b) (indirect-none inode count l) ∙ has-none b
    ] refl))

-- where no used block is excepted
pub all-stay : (lot : LotView) (m0 m1 : ℕ → List ℕ) (other : Inode) (n : ℕ) → Stays lot m0 m1 [] → Owns lot m0 other n → MapStays m0 m1 other n
all-stay lot m0 m1 other n s owns = map-stays m0 m1 other n (λ b h. s.blocks b (owns b h).0 (owns b h).1 (has-none b))
