-- where the addresses of a lot lie
use Rattle.std.proofs.Common.{◌≡◌, ◌≢◌, ℕ, suc, [], ◌∷◌, ◌+◌, ◌*◌, ◌/◌, ◌%◌, ◌<◌, ◌≤◌, Bool, true, false, cond, ◌&&◌, nat_lt, nat_le, ◌⊎◌, List, length, slice_index, inl, inr, ⊎_elim, sym, arith, refl}
use Rattle.std.specs.List.{list_all, list_any}
use Rattle.std.proofs.lemmas.Bool.Decides.{nat_tests}
use Rattle.std.proofs.lemmas.Nat.{same_from_place, div-add-mod', mod_below, div_below}
use Rattle.std.proofs.lemmas.List.Folds.{list_any_at, list_all_at}
use Rattle.ice_base.specs.Lots.{LotView, IsLot, is_address, place, lies_below, in_extent, extent, sub_address, is_sited, area, gate_place, header_place, body_place, NoneShared, inside}

-- an address of a lot is that of its sub-super block, or one within its groups
pub address_cases : (lot : LotView) (a : ℕ) → is_address lot a ≡ true → (a ≡ sub_address) ⊎ ((a ≢ sub_address) × (a < 256 * length lot.groups))
unfolding is_address
address_cases lot a h = grind (arith, nat_tests)

-- the sub-super block stands first in the area of its slot
pub place-sub : (lot : LotView) (a : ℕ) → a ≡ sub_address → place lot a ≡ 32 + 256 * lot.slot
unfolding place
place-sub lot a h = grind (arith, nat_tests)

-- any other address stands at its own place in the group that the lot lists for it
pub place-group : (lot : LotView) (a : ℕ) → a ≢ sub_address → place lot a ≡ lot.base + 256 * slice_index lot.groups (a / 256) + a % 256
unfolding place
place-group lot a h = grind (arith, nat_tests)

ordinal-below : (lot : LotView) (a : ℕ) → a < 256 * length lot.groups → a / 256 < length lot.groups
ordinal-below lot a h = div_below a 256 (length lot.groups) (omega arith) (omega arith)

all_at : (test : ℕ → Bool) (xs : List ℕ) (i : ℕ) → list_all test xs ≡ true → i < length xs → test (slice_index xs i) ≡ true
all_at test xs i h k =
    elim (test (slice_index xs i)) as (λ b. test (slice_index xs i) ≡ b → b ≡ true) [
      | true ↦ λ _. refl
      | false ↦ λ e. absurd (let f : list_all test xs ≡ false = list_all_at test xs i 0 k e in cc)
    ] refl

pub place-below : (lot : LotView) (n a : ℕ) → lies_below lot n ≡ true → is_address lot a ≡ true → place lot a < n
unfolding lies_below
place-below lot n a h k = ⊎_elim
    (λ e. let s = place-sub lot a e in grind (arith, nat_tests))
    (λ e. let s = place-group lot a e.0 in
    let all : list_all (λ g. nat_le (lot.base + 256 * g + 256) n) lot.groups ≡ true = grind (arith, nat_tests) in
    let one = all_at (λ g. nat_le (lot.base + 256 * g + 256) n) lot.groups (a / 256) all (ordinal-below lot a e.1) in
    let r = mod_below a 256 (omega arith) in
    grind (arith, nat_tests))
    (address_cases lot a k)

same-ordinal : (gs : List ℕ) (i j : ℕ) → ((i j : ℕ) → i < j → j < length gs → slice_index gs i ≢ slice_index gs j) → i < length gs
    → j < length gs → slice_index gs i ≡ slice_index gs j → i ≡ j
same-ordinal gs i j apart hi hj e =
    let below : i < j → ⊥ = λ h. apart i j h hj e in
    let above : j < i → ⊥ = λ h. apart j i h hi (sym e) in
    omega arith

group-apart : (lot : LotView) (a b : ℕ) → IsLot lot → a < 256 * length lot.groups → b < 256 * length lot.groups
    → 256 * slice_index lot.groups (a / 256) + a % 256 ≡ 256 * slice_index lot.groups (b / 256) + b % 256 → a ≡ b
group-apart lot a b l ha hb e =
    let r = mod_below a 256 (omega arith) in
    let t = mod_below b 256 (omega arith) in
    let flip : slice_index lot.groups (a / 256) * 256 + a % 256 ≡ slice_index lot.groups (b / 256) * 256 + b % 256 = omega arith in
    let s = same_from_place (slice_index lot.groups (a / 256)) (a % 256) (slice_index lot.groups (b / 256)) (b % 256) 256 r t flip in
    let o = same-ordinal lot.groups (a / 256) (b / 256) l.apart (ordinal-below lot a ha) (ordinal-below lot b hb) s.0 in
    omega (arith, div-add-mod' a 256, div-add-mod' b 256)

-- two addresses of a lot that have one place are one address
pub place-apart : (lot : LotView) (a b : ℕ) → IsLot lot → is_address lot a ≡ true → is_address lot b ≡ true → place lot a ≡ place lot b → a ≡ b
place-apart lot a b l ha hb e =
    let r = mod_below a 256 (omega arith) in
    let t = mod_below b 256 (omega arith) in
    let low = l.low in
    ⊎_elim
    (λ ea. let sa = place-sub lot a ea in ⊎_elim
    (λ eb. cc)
    (λ eb. let sb = place-group lot b eb.0 in absurd (omega arith))
    (address_cases lot b hb))
    (λ ea. let sa = place-group lot a ea.0 in ⊎_elim
    (λ eb. let sb = place-sub lot b eb in absurd (omega arith))
    (λ eb. let sb = place-group lot b eb.0 in group-apart lot a b l ea.1 eb.1 (omega arith))
    (address_cases lot b hb))
    (address_cases lot a ha)

-- an address's home lies in the lot's extent
pub place-in : (lot : LotView) (a : ℕ) → is_address lot a ≡ true → in_extent lot (place lot a) ≡ true
unfolding in_extent
place-in lot a k = ⊎_elim
    (λ e. let s = place-sub lot a e in grind (arith, nat_tests))
    (λ e. let s = place-group lot a e.0 in
    let r = mod_below a 256 (omega arith) in
    let one : (nat_le (lot.base + 256 * slice_index lot.groups (a / 256)) (place lot a) && nat_lt (place lot a)
    (lot.base + 256 * slice_index lot.groups (a / 256) + 256)) ≡ true = grind (arith, nat_tests) in
    let all = list_any_at (λ g. nat_le (lot.base + 256 * g) (place lot a) && nat_lt (place lot a) (lot.base + 256 * g + 256)) lot.groups
    (a / 256) 0 (ordinal-below lot a e.1) one in
    grind (arith, nat_tests))
    (address_cases lot a k)

-- a lot that fits the disk lies below its size
pub sited-below : (lot : LotView) (n : ℕ) → is_sited lot n ≡ true → lies_below lot n ≡ true
unfolding is_sited
sited-below lot n h = grind (arith, nat_tests)

-- a lot that fits has a group
pub sited-some : (lot : LotView) (n : ℕ) → is_sited lot n ≡ true → 1 ≤ length lot.groups
unfolding is_sited
sited-some lot n h = grind (arith, nat_tests)

-- a lot that fits has at most 64 groups
pub sited-few : (lot : LotView) (n : ℕ) → is_sited lot n ≡ true → length lot.groups ≤ 64
unfolding is_sited
sited-few lot n h = grind (arith, nat_tests)

-- an address's home lies below the disk's size
pub place-sited : (lot : LotView) (n a : ℕ) → is_sited lot n ≡ true → is_address lot a ≡ true → place lot a < n
place-sited lot n a h k = place-below lot n a (sited-below lot n h) k

-- where the home of an address lies, and that it is the home of no other
pub ruleset place_laws = (place-sited, place-apart, place-in)

-- each lot has the address of the sub-super block
pub is_address_sub : (lot : LotView) → is_address lot sub_address ≡ true
unfolding is_address
is_address_sub lot = grind (arith, nat_tests)

-- each number below that of a lot's blocks is an address
pub is_address_at : (lot : LotView) (a : ℕ) → a < 256 * length lot.groups → is_address lot a ≡ true
unfolding is_address
is_address_at lot a h = grind (arith, nat_tests)

pub bitmap_below : (a n : ℕ) → a < n → 256 * (a / 256) < n
bitmap_below a n h = omega (arith, div-add-mod' a 256)

-- the bitmap block of an address's group is an address
pub bitmap_address : (lot : LotView) (a : ℕ) → a < 256 * length lot.groups → is_address lot (256 * (a / 256)) ≡ true
bitmap_address lot a h = is_address_at lot (256 * (a / 256)) (bitmap_below a (256 * length lot.groups) h)

-- which addresses a lot has
pub ruleset address_laws = (is_address_sub, is_address_at, bitmap_address, bitmap_below)

-- what holds of a lot that fits the disk
pub ruleset sited_laws = (sited-below, sited-some, sited-few)

-- the 256 blocks of the slot's area are of the extent
pub area_in : (lot : LotView) (k : ℕ) → area lot ≤ k → k < area lot + 256 → extent lot k
unfolding in_extent
area_in lot k low high = grind (arith, nat_tests)

-- the slot's area lies below the disk's size
pub area_below : (lot : LotView) (n : ℕ) → lies_below lot n ≡ true → area lot + 256 ≤ n
unfolding lies_below
area_below lot n h = grind (arith, nat_tests)

-- the journal's blocks are blocks of the lot
pub gate_in : (lot : LotView) → extent lot (gate_place lot)
gate_in lot = area_in lot (gate_place lot) (omega arith) (omega arith)

-- the journal's header is of the extent
pub header_in : (lot : LotView) → extent lot (header_place lot)
header_in lot = area_in lot (header_place lot) (omega arith) (omega arith)

pub body_in : (lot : LotView) (i : ℕ) → i < 240 → extent lot (body_place lot i)
body_in lot i h = area_in lot (body_place lot i) (omega arith) (omega arith)

-- an address has the sub-super block, or one past the slots' areas
pub home_at : (lot : LotView) (a : ℕ) → IsLot lot → is_address lot a ≡ true → (place lot a ≡ area lot) ⊎ (area lot + 256 ≤ place lot a)
home_at lot a l k = ⊎_elim
    (λ e. inl (place-sub lot a e))
    (λ e. let s = place-group lot a e.0 in let low = l.low in inr (omega arith))
    (address_cases lot a k)

-- and none of the journal's blocks
pub home_not_gate : (lot : LotView) (a : ℕ) → IsLot lot → is_address lot a ≡ true → place lot a ≢ gate_place lot
home_not_gate lot a l k e = ⊎_elim (λ s. omega arith) (λ s. omega arith) (home_at lot a l k)

-- the home of an address is not the place of the journal's header
pub home_not_header : (lot : LotView) (a : ℕ) → IsLot lot → is_address lot a ≡ true → place lot a ≢ header_place lot
home_not_header lot a l k e = ⊎_elim (λ s. omega arith) (λ s. omega arith) (home_at lot a l k)

-- the home of an address is the place of none of the journal's 240 bodies
pub home_not_body : (lot : LotView) (a i : ℕ) → IsLot lot → i < 240 → is_address lot a ≡ true → place lot a ≢ body_place lot i
home_not_body lot a i l h k e = ⊎_elim (λ s. omega arith) (λ s. omega arith) (home_at lot a l k)

-- where a block of a lot lies: in its slot's area, or in one of its groups
abbrev pub InGroup : LotView → ℕ → Type 0
InGroup lot k = (i : ℕ) × (i < length lot.groups) × (lot.base + 256 * slice_index lot.groups i ≤ k) × (k < lot.base + 256 * slice_index lot.groups i + 256)

any_index : (test : ℕ → Bool) (xs : List ℕ) → list_any test xs ≡ true → (i : ℕ) × (i < length xs) × (test (slice_index xs i) ≡ true)
any_index test [] h = absurd cc
any_index test (x ∷ xs) h =
    elim (test x) as (λ b. test x ≡ b → (i : ℕ) × (i < length (x ∷ xs)) × (test (slice_index (x ∷ xs) i) ≡ true)) [
      | true ↦ λ e. (0, omega arith, e)
      | false ↦ λ e.
          let rest : list_any test xs ≡ true = grind arith in
          let found = any_index test xs rest in
          (suc found.0, omega (arith, found.1), found.2)
    ] refl

-- a block of the extent is one of the area or of a group
pub extent_cases : (lot : LotView) (k : ℕ) → extent lot k → ((area lot ≤ k) × (k < area lot + 256)) ⊎ InGroup lot k
unfolding in_extent
extent_cases lot k h =
    elim (nat_le (area lot) k && nat_lt k (area lot + 256)) as (λ b. (nat_le (area lot) k && nat_lt k (area lot + 256)) ≡ b
    → ((area lot ≤ k) × (k < area lot + 256)) ⊎ InGroup lot k) [
      | true ↦ λ e. inl ((grind (arith, nat_tests)), (grind (arith, nat_tests)))
      | false ↦ λ e.
          let any : list_any (λ g. nat_le (lot.base + 256 * g) k && nat_lt k (lot.base + 256 * g + 256)) lot.groups ≡ true = grind arith in
          let found = any_index (λ g. nat_le (lot.base + 256 * g) k && nat_lt k (lot.base + 256 * g + 256)) lot.groups any in
          let test = found.2 in
          inr (found.0, found.1, grind (arith, nat_tests), grind (arith, nat_tests))
    ] refl

-- the blocks of a lot lie below a number that it lies below
pub extent_below : (lot : LotView) (n k : ℕ) → lies_below lot n ≡ true → extent lot k → k < n
unfolding lies_below
extent_below lot n k h e = ⊎_elim
    (λ a. let s = area_below lot n h in omega arith)
    (λ a.
    let all : list_all (λ g. nat_le (lot.base + 256 * g + 256) n) lot.groups ≡ true = grind (arith, nat_tests) in
    let one = all_at (λ g. nat_le (lot.base + 256 * g + 256) n) lot.groups a.0 all a.1 in
    let low = a.2 in let high = a.3 in
    grind (arith, nat_tests))
    (extent_cases lot k e)

-- two lots of one image with different slots and no group of both share no block
pub lots_apart : (a b : LotView) → IsLot a → IsLot b → a.base ≡ b.base → a.slot ≢ b.slot → NoneShared a.groups b.groups → (k : ℕ) → extent a k → ¬ extent b k
lots_apart a b la lb base slots groups k ea eb =
    let lowa = la.low in
    let lowb = lb.low in
    ⊎_elim
    (λ x. ⊎_elim (λ y. omega arith) (λ y. let low = y.2 in omega arith) (extent_cases b k eb))
    (λ x. ⊎_elim
    (λ y. let low = x.2 in omega arith)
    (λ y.
    let low = x.2 in let high = x.3 in let low' = y.2 in let high' = y.3 in
    groups x.0 y.0 x.1 y.1 (omega arith))
    (extent_cases b k eb))
    (extent_cases a k ea)

pub ruleset journal_laws = (gate_in, header_in, body_in, home_not_gate, home_not_header, home_not_body)

-- a map of the lot's addresses, at an address
pub inside_at : (lot : LotView) (m : ℕ → List ℕ) (a : ℕ) → is_address lot a ≡ true → inside lot m a ≡ m a
unfolding inside
inside_at lot m a h = grind arith

-- and where two maps agree on the lot
pub inside_same : (lot : LotView) (m n : ℕ → List ℕ) (a : ℕ) → (is_address lot a ≡ true → n a ≡ m a) → inside lot n a ≡ inside lot m a
unfolding inside
inside_same lot m n a h =
    elim (is_address lot a) as (λ b. is_address lot a ≡ b → cond b (n a) [] ≡ cond b (m a) []) [ true ↦ λ e. h e | false ↦ λ e. refl ] refl

-- what a map of a lot's blocks has at the lot's addresses
pub ruleset inside_laws = (inside_at)
