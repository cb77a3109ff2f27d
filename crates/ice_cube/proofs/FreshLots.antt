-- What callers know of the lot of a new cube, and of new groups.
use Rattle.std.proofs.Common.{◌≡◌, ◌≢◌, ℕ, ◌+◌, ◌*◌, ◌/◌, ◌%◌, ◌<◌, List, ◌++◌, length, slice_index, ⊎_elim, ◌∙◌, ap, arith}
use Rattle.std.proofs.lemmas.List.{get_or_append_left}
use Rattle.std.proofs.lemmas.Nat.{div-add-mod', mod_below}
use Rattle.ice_base.specs.Disk.{DiskState}
use Rattle.ice_base.specs.Frames.{Sure}
use Rattle.ice_base.specs.Lots.{LotView, IsLot, extent, place, sub_address}
use Rattle.ice_base.proofs.LotLaws.{extent_cases, place-group}
use Rattle.ice_journal.specs.Rests.{LotAtRest, RestsLot}
use Rattle.ice_journal.proofs.RestLaws.{rests_lot}
use Rattle.ice_cube.specs.Fresh.{IsEmptyLot, IsHeadFrom}
use Rattle.ice_cube.proofs.FreshLoops.{head_below}

-- A settled lot of a new cube is at rest with its effective blocks.
pub empty_at_rest : (lot : LotView) (s : DiskState) (sure : Sure (extent lot) (IsEmptyLot lot) s) → Sure (RestsLot lot) (LotAtRest lot sure.now.blocks) s
empty_at_rest lot s sure = record {
  settled = record { told = sure.settled.told; settled = λ k is. sure.settled.settled k (rests_lot lot k is) };
  now = sure.now.rest;
}

-- where the blocks of a group begin
head_place : (lot : LotView) (o p : ℕ) → IsLot lot → o < length lot.groups → p < 9
    → place lot (256 * o + p) ≡ lot.base + 256 * slice_index lot.groups o + p
head_place lot o p l ho hp =
    let few = l.few in
    let less = head_below o p (length lot.groups) ho hp in
    let other : 256 * o + p ≢ sub_address = λ e. omega (arith, e, less, few) in
    let parts = div-add-mod' (256 * o + p) 256 in
    let low = mod_below (256 * o + p) 256 (omega arith) in
    let ordinal : (256 * o + p) / 256 ≡ o = omega (arith, parts, low, hp) in
    let rest : (256 * o + p) % 256 ≡ p = omega (arith, parts, low, hp, ordinal) in
    let group = ap (slice_index lot.groups) ordinal in
    let at = place-group lot (256 * o + p) other in
    omega (arith, at, group, rest)

-- The bitmaps and the inode blocks of further groups of a lot are no blocks of the lot without these groups.
pub new_heads_apart : (old lot : LotView) (more : List ℕ) (k : ℕ) → IsLot lot → lot.slot ≡ old.slot → lot.base ≡ old.base
    → lot.groups ≡ old.groups ++ more → IsHeadFrom lot (length old.groups) k → ¬ extent old k
new_heads_apart old lot more k l slot base groups is inside =
    let low = l.low in
    let at : k ≡ lot.base + 256 * slice_index lot.groups is.0 + is.3.0 = is.3.2 ∙ head_place lot is.0 is.3.0 l is.2 is.3.1 in
    let hp = is.3.1 in
    ⊎_elim
    (λ area. let high = area.1 in omega (arith, low, at, slot, base, high))
    (λ group.
    let from = group.2 in
    let to = group.3 in
    let same : slice_index lot.groups group.0 ≡ slice_index old.groups group.0 =
    ap (λ (gs : List ℕ). slice_index gs group.0) groups ∙ get_or_append_left old.groups more 0 group.0 group.1 in
    l.apart group.0 is.0 (omega (arith, group.1, is.1)) is.2 (omega (arith, at, base, from, to, same, hp)))
    (extent_cases old k inside)
