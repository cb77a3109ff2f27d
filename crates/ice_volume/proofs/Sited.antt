-- The lot of a slot lies on a disk that has all blocks of the volume.
use Rattle.std.proofs.Common.{◌≡◌, ◌∙◌, ◌≤◌, ◌<◌, ◌+◌, ◌*◌, ◌&&◌, ◌==◌, nat_le, ℕ, zero, suc, Bool, true, false, cond, List, [], ◌∷◌, length, refl, ap, arith}
use Rattle.std.specs.Prelude.{filter, flat_map}
use Rattle.std.specs.List.{range_with_len, list_all}
use Rattle.std.proofs.lemmas.Bool.Decides.{nat_tests}
use Rattle.ice_base.specs.Lots.{LotView, extent, is_sited, lies_below}
use Rattle.ice_base.proofs.LotLaws.{extent_below}
use Rattle.ice_tables.specs.Tables.{Tables}
use Rattle.ice_tables.specs.Lots.{groups_of, is_slot, lot_of, total}
use Rattle.ice_tables.proofs.LotSites.{Each, each-append}

each_range : (a n m : ℕ) → a + n ≤ m → Each (λ g. g < m) (range_with_len a n)
each_range a zero m le = tt
each_range a (suc n) m le = (omega (arith, le), each_range (a + 1) n m (omega (arith, le)))

each_filter : (P : ℕ → Type 0) (test : ℕ → Bool) (xs : List ℕ) → Each P xs → Each P (filter test xs)
each_filter P test [] all = tt
each_filter P test (x ∷ xs) all = by (test x) (each_filter P test xs all.1)
  where
    by : (b : Bool) → Each P (filter test xs) → Each P (cond b (x ∷ filter test xs) (filter test xs))
    by true rest = (all.0, rest)
    by false rest = rest

each_flat : (P : ℕ → Type 0) (f : ℕ → List ℕ) (xs : List ℕ) → ((x : ℕ) → Each P (f x)) → Each P (flat_map f xs)
each_flat P f [] all = tt
each_flat P f (x ∷ xs) all = each-append P (f x) (flat_map f xs) (all x) (each_flat P f xs all)

groups_low : (t : Tables) (s : ℕ) → Each (λ g. g < t.groups) (groups_of t s)
unfolding groups_of
groups_low t s = each_flat (λ g. g < t.groups) (λ o. filter (λ g. is_slot (t.holder g) s && t.ordinal g == o) (range_with_len 0 t.groups)) (range_with_len 0 64)
    (λ o. each_filter (λ g. g < t.groups) (λ g. is_slot (t.holder g) s && t.ordinal g == o) (range_with_len 0 t.groups)
    (each_range 0 t.groups t.groups (omega arith)))

all_pass : (test : ℕ → Bool) (P : ℕ → Type 0) (xs : List ℕ) → ((x : ℕ) → P x → test x ≡ true) → Each P xs → list_all test xs ≡ true
all_pass test P [] pass all = refl
all_pass test P (x ∷ xs) pass all = ap (λ b. b && list_all test xs) (pass x all.0) ∙ all_pass test P xs pass all.1

lot_below : (t : Tables) (s n : ℕ) → s < t.slots → total t ≤ n → lies_below (lot_of t s) n ≡ true
unfolding lies_below
lot_below t s n low room =
    let first : nat_le (32 + 256 * s + 256) n ≡ true = (let le : 32 + 256 * s + 256 ≤ n = omega (arith, low, room) in grind (arith, nat_tests)) in
    ap (λ b. cond b (list_all (λ g. nat_le (32 + 256 * t.slots + 256 * g + 256) n) (groups_of t s)) false) first
    ∙ all_pass (λ g. nat_le (32 + 256 * t.slots + 256 * g + 256) n) (λ g. g < t.groups) (groups_of t s)
    (λ g less. let le : 32 + 256 * t.slots + 256 * g + 256 ≤ n = omega (arith, less, room) in grind (arith, nat_tests)) (groups_low t s)

-- a slot's lot that has a group lies on a disk that has all blocks
pub lot_sited : (t : Tables) (s n : ℕ) → s < t.slots → total t ≤ n → 1 ≤ length (groups_of t s) → length (groups_of t s) ≤ 64 → is_sited (lot_of t s) n ≡ true
unfolding is_sited
lot_sited t s n low room some few =
    let below = lot_below t s n low room in
    grind (arith, nat_tests)

-- its blocks are blocks of the volume
pub lot_within : (t : Tables) (s k : ℕ) → s < t.slots → extent (lot_of t s) k → k < total t
lot_within t s k low own = extent_below (lot_of t s) (total t) k (lot_below t s (total t) low (omega arith)) own

-- the same of a lot that is the slot's
pub sited_lot : (t : Tables) (s n : ℕ) (l : LotView) → l ≡ lot_of t s → s < t.slots → total t ≤ n → 1 ≤ length l.groups
    → length l.groups ≤ 64 → is_sited l n ≡ true
sited_lot t s n l is low room some few =
    let many : length l.groups ≡ length (groups_of t s) = ap (λ (x : LotView). length x.groups) is in
    ap (λ (x : LotView). is_sited x n) is ∙ lot_sited t s n low room (omega (arith, many, some)) (omega (arith, many, few))
