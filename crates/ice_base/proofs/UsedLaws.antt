-- Groups of blocks and inodes, and what one changed bit does.
use Rattle.std.proofs.Common.{◌≡◌, ◌≢◌, ◌≤◌, ◌<◌, ◌+◌, ◌-◌, ◌*◌, ◌/◌, ◌%◌, ◌==◌, ℕ, Bool, true, false, cond, not, List, length, refl, sym, ap, ◌∙◌, arith, ltb}
use Rattle.std.proofs.lemmas.Bool.Decides.{nat_tests}
use Rattle.std.proofs.lemmas.Nat.{div-add-mod', mod_below, div_below}
use Rattle.ice_base.specs.Lots.{LotView, sub_address}
use Rattle.ice_base.specs.Bits.{bit_of, IsLeast}
use Rattle.ice_base.specs.Used.{used, bits_of, bit_index, bit_place, bitmap_of, is_data, Reserved}

pub group_div : (inodes : Bool) (o i : ℕ) → i < bits_of inodes → (bits_of inodes * o + i) / bits_of inodes ≡ o
group_div true o i h = omega (arith, div-add-mod' (64 * o + i) 64, mod_below (64 * o + i) 64)
group_div false o i h = omega (arith, div-add-mod' (256 * o + i) 256, mod_below (256 * o + i) 256)

-- a number's place in its group
pub group_mod : (inodes : Bool) (o i : ℕ) → i < bits_of inodes → (bits_of inodes * o + i) % bits_of inodes ≡ i
group_mod true o i h = omega (arith, div-add-mod' (64 * o + i) 64, mod_below (64 * o + i) 64)
group_mod false o i h = omega (arith, div-add-mod' (256 * o + i) 256, mod_below (256 * o + i) 256)

-- a number is used as the bit of its bitmap block says
pub used-bit : (inodes : Bool) (map : ℕ → List ℕ) (i : ℕ) → used inodes map i ≡ bit_of (map (bitmap_of inodes i)) (bit_place inodes i)
unfolding used
used-bit inodes map i = refl

-- a bit of a group
pub used-at : (inodes : Bool) (map : ℕ → List ℕ) (o i : ℕ) → i < bits_of inodes
    → used inodes map (bits_of inodes * o + i) ≡ bit_of (map (256 * o)) (bit_index inodes i)
used-at inodes map o i h =
    used-bit inodes map (bits_of inodes * o + i)
    ∙ ap (λ x. bit_of (map (256 * x)) (bit_place inodes (bits_of inodes * o + i))) (group_div inodes o i h)
    ∙ ap (λ x. bit_of (map (256 * o)) (bit_index inodes x)) (group_mod inodes o i h)

-- where a number lies: in the groups before, or in the group
split : (n o b : ℕ) → b < n * o + n → ¬ (b < n * o) → n * o + (b - n * o) ≡ b
split n o b h k = omega arith

-- one group more
group_next : (inodes : Bool) (o b : ℕ) → b < bits_of inodes * (o + 1) → b < bits_of inodes * o + bits_of inodes
group_next true o b h = omega arith
group_next false o b h = omega arith

-- the bits of one group are all set
pub group_full : (inodes : Bool) (map : ℕ → List ℕ) (block : List ℕ) (o : ℕ) → block ≡ map (256 * o)
    → ((j : ℕ) → j < bits_of inodes → bit_of block (bit_index inodes j) ≡ true)
    → ((b : ℕ) → b < bits_of inodes * o → used inodes map b ≡ true)
    → (b : ℕ) → b < bits_of inodes * (o + 1) → used inodes map b ≡ true
group_full inodes map block o e all below b h =
    elim (ltb b (bits_of inodes * o)) as (λ t. ltb b (bits_of inodes * o) ≡ t → used inodes map b ≡ true) [
      | true ↦ λ t. below b (grind (arith, nat_tests))
      | false ↦ λ t.
          let lt = group_next inodes o b h in
          let ge : ¬ (b < bits_of inodes * o) = grind (arith, nat_tests) in
          let i : bits_of inodes * o + (b - bits_of inodes * o) ≡ b = split (bits_of inodes) o b lt ge in
          let small : b - bits_of inodes * o < bits_of inodes = omega arith in
          let f : used inodes map (bits_of inodes * o + (b - bits_of inodes * o)) ≡ true =
          used-at inodes map o (b - bits_of inodes * o) small ∙ ap (λ x. bit_of x (bit_index inodes (b - bits_of inodes * o))) (sym e)
          ∙ all (b - bits_of inodes * o) small in
          rw i at f
    ] refl

-- the first clear bit of the first group that has one
pub group_least : (inodes : Bool) (map : ℕ → List ℕ) (block : List ℕ) (o i : ℕ) → block ≡ map (256 * o) → i < bits_of inodes
    → bit_of block (bit_index inodes i) ≡ false
    → ((j : ℕ) → j < i → bit_of block (bit_index inodes j) ≡ true)
    → ((b : ℕ) → b < bits_of inodes * o → used inodes map b ≡ true)
    → IsLeast (used inodes map) (bits_of inodes * o + i)
group_least inodes map block o i e h clear all below = (
  used-at inodes map o i h ∙ ap (λ x. bit_of x (bit_index inodes i)) (sym e) ∙ clear,
  λ b lt.
      elim (ltb b (bits_of inodes * o)) as (λ t. ltb b (bits_of inodes * o) ≡ t → used inodes map b ≡ true) [
        | true ↦ λ t. below b (grind (arith, nat_tests))
        | false ↦ λ t.
            let ge : ¬ (b < bits_of inodes * o) = grind (arith, nat_tests) in
            let k : bits_of inodes * o + (b - bits_of inodes * o) ≡ b = omega arith in
            let small : b - bits_of inodes * o < i = omega arith in
            let f : used inodes map (bits_of inodes * o + (b - bits_of inodes * o)) ≡ true =
            used-at inodes map o (b - bits_of inodes * o) (omega arith)
            ∙ ap (λ x. bit_of x (bit_index inodes (b - bits_of inodes * o))) (sym e) ∙ all (b - bits_of inodes * o) small in
            rw k at f
      ] refl,
)

-- the number of a bit lies in the groups of the lot
pub group_below : (inodes : Bool) (o i n : ℕ) → i < bits_of inodes → o < n → bits_of inodes * o + i < bits_of inodes * n
group_below true o i n h k = omega arith
group_below false o i n h k = omega arith

-- a number's group is one of the lot's
pub ordinal_below : (inodes : Bool) (i n : ℕ) → i < bits_of inodes * n → i / bits_of inodes < n
ordinal_below true i n h = div_below i 64 n (omega arith) (omega arith)
ordinal_below false i n h = div_below i 256 n (omega arith) (omega arith)

pub bit_below : (inodes : Bool) (i : ℕ) → i % bits_of inodes < bits_of inodes
bit_below true i = mod_below i 64 (omega arith)
bit_below false i = mod_below i 256 (omega arith)

-- a bitmap block is no sub-super block
pub bitmap_not_sub : (o : ℕ) → 256 * o ≢ sub_address
bitmap_not_sub o e = omega arith

-- two of one group have different bits
other_bit : (inodes : Bool) (a b : ℕ) → a ≢ b → a / bits_of inodes ≡ b / bits_of inodes → bit_place inodes a ≢ bit_place inodes b
other_bit true a b ne e f = ne (omega (arith, div-add-mod' a 64, div-add-mod' b 64))
other_bit false a b ne e f = ne (omega (arith, div-add-mod' a 256, div-add-mod' b 256))

-- the bits of the two kinds differ
other_kind : (inodes : Bool) (i j : ℕ) → bit_place (not inodes) j ≢ bit_place inodes i
other_kind true i j e = omega (arith, mod_below j 256)
other_kind false i j e = omega (arith, mod_below i 256)

test_not : (j k : ℕ) → j ≢ k → (j == k) ≡ false
test_not j k ne = grind (arith, nat_tests)

test_same : (j k : ℕ) → j ≡ k → (j == k) ≡ true
test_same j k e = grind (arith, nat_tests)

-- what one changed bit of one bitmap block does to the set
pub bit_moves : (inodes v : Bool) (m0 m1 : ℕ → List ℕ) (block : List ℕ) (i : ℕ)
    → ((j : ℕ) → bit_of block j ≡ cond (j == bit_place inodes i) v (bit_of (m0 (bitmap_of inodes i)) j))
    → m1 (bitmap_of inodes i) ≡ block
    → ((b : ℕ) → b ≢ sub_address → b ≢ bitmap_of inodes i → m1 b ≡ m0 b)
    → (b : ℕ) → used inodes m1 b ≡ cond (b == i) v (used inodes m0 b)
unfolding used
bit_moves inodes v m0 m1 block i bits at only b =
    elim (b == i) as (λ t. (b == i) ≡ t → used inodes m1 b ≡ cond t v (used inodes m0 b)) [
      | true ↦ λ t. let same : b ≡ i = grind (arith, nat_tests) in
          ap (used inodes m1) same ∙ ap (λ x. bit_of x (bit_place inodes i)) at ∙ bits (bit_place inodes i)
          ∙ ap (λ x. cond x v (bit_of (m0 (bitmap_of inodes i)) (bit_place inodes i))) (test_same _ _ refl)
      | false ↦ λ t. let apart : b ≢ i = grind (arith, nat_tests) in
          elim (b / bits_of inodes == i / bits_of inodes) as (λ u. (b / bits_of inodes == i / bits_of inodes) ≡ u → used inodes m1 b ≡ used inodes m0 b) [
            | true ↦ λ u. let group : b / bits_of inodes ≡ i / bits_of inodes = grind (arith, nat_tests) in
                ap (λ x. bit_of (m1 (256 * x)) (bit_place inodes b)) group
                ∙ ap (λ x. bit_of x (bit_place inodes b)) at
                ∙ bits (bit_place inodes b)
                ∙ ap (λ x. cond x v (bit_of (m0 (bitmap_of inodes i)) (bit_place inodes b))) (test_not _ _ (other_bit inodes b i apart group))
                ∙ ap (λ x. bit_of (m0 (256 * x)) (bit_place inodes b)) (sym group)
            | false ↦ λ u. let group : b / bits_of inodes ≢ i / bits_of inodes = grind (arith, nat_tests) in
                let ne : bitmap_of inodes b ≢ bitmap_of inodes i = (λ e. group (omega arith)) in
                ap (λ x. bit_of x (bit_place inodes b)) (only (bitmap_of inodes b) (bitmap_not_sub (b / bits_of inodes)) ne)
          ] refl
    ] refl

-- and that it does nothing to the other set
pub bit_keeps : (inodes v : Bool) (m0 m1 : ℕ → List ℕ) (block : List ℕ) (i : ℕ)
    → ((j : ℕ) → bit_of block j ≡ cond (j == bit_place inodes i) v (bit_of (m0 (bitmap_of inodes i)) j))
    → m1 (bitmap_of inodes i) ≡ block
    → ((b : ℕ) → b ≢ sub_address → b ≢ bitmap_of inodes i → m1 b ≡ m0 b)
    → (b : ℕ) → used (not inodes) m1 b ≡ used (not inodes) m0 b
unfolding used
bit_keeps inodes v m0 m1 block i bits at only b =
    elim (b / bits_of (not inodes) == i / bits_of inodes) as (λ u. (b / bits_of (not inodes) == i / bits_of inodes) ≡ u
    → used (not inodes) m1 b ≡ used (not inodes) m0 b) [
      | true ↦ λ u. let group : b / bits_of (not inodes) ≡ i / bits_of inodes = grind (arith, nat_tests) in
          ap (λ x. bit_of (m1 (256 * x)) (bit_place (not inodes) b)) group
          ∙ ap (λ x. bit_of x (bit_place (not inodes) b)) at
          ∙ bits (bit_place (not inodes) b)
          ∙ ap (λ x. cond x v (bit_of (m0 (bitmap_of inodes i)) (bit_place (not inodes) b))) (test_not _ _ (other_kind inodes i b))
          ∙ ap (λ x. bit_of (m0 (256 * x)) (bit_place (not inodes) b)) (sym group)
      | false ↦ λ u. let group : b / bits_of (not inodes) ≢ i / bits_of inodes = grind (arith, nat_tests) in
          let ne : bitmap_of (not inodes) b ≢ bitmap_of inodes i = (λ e. group (omega arith)) in
          ap (λ x. bit_of x (bit_place (not inodes) b)) (only (bitmap_of (not inodes) b) (bitmap_not_sub (b / bits_of (not inodes))) ne)
    ] refl

-- from the tenth block of a group on there are data places
pub data_of : (lot : LotView) (a : ℕ) → a < 256 * length lot.groups → 9 ≤ a % 256 → is_data lot a ≡ true
unfolding is_data
data_of lot a h p = grind (arith, nat_tests)

-- a data place is one of the lot's blocks
pub data_below : (lot : LotView) (a : ℕ) → is_data lot a ≡ true → a < 256 * length lot.groups
unfolding is_data
data_below lot a h = grind (arith, nat_tests)

-- a data place is none of the first nine blocks of its group
pub data_place : (lot : LotView) (a : ℕ) → is_data lot a ≡ true → 9 ≤ a % 256
unfolding is_data
data_place lot a h = grind (arith, nat_tests)

-- a clear bit of a place that holds no data
pub unreserved : (lot : LotView) (map : ℕ → List ℕ) (block : List ℕ) (o i : ℕ) → block ≡ map (256 * o) → o < length lot.groups → i < 9
    → bit_of block i ≡ false → ¬ Reserved lot map
unreserved lot map block o i e h p clear r =
    let m = group_mod false o i (omega arith) in
    let s = r.set (256 * o + i) (omega arith) (omega arith) in
    let u : bit_of block i ≡ true = ap (λ x. bit_of x i) e ∙ sym (used-at false map o i (omega arith)) ∙ s in
    absurd (let f : true ≡ false = sym u ∙ clear in cc)

-- where bits, bitmap blocks and data places of a group lie
pub ruleset group_laws = (group_below, bitmap_not_sub, ordinal_below, bit_below, data_of, data_below, data_place)
