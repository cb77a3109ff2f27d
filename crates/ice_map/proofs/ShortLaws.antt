-- Where too few blocks are free.
use Rattle.std.proofs.Common.{◌≡◌, ◌≢◌, ◌+◌, ◌*◌, ◌<◌, ℕ, zero, suc, Bool, true, false, cond, not, List, length, ◌∙◌, refl, sym, ap, inl, inr, arith}
use Rattle.std.proofs.lemmas.Bool.{false≢true, cases_eq}
use Rattle.ice_base.specs.Bits.{count_below}
use Rattle.ice_base.specs.Faults.{IsSpaceFault}
use Rattle.ice_base.specs.Lots.{LotView}
use Rattle.ice_base.specs.Used.{used_block, free_count, AllUsed}
use Rattle.ice_base.specs.declared.fault.OpFault.{OpFault}
use Rattle.ice_base.specs.declared.fault.OpFault.TheVariants.{Disk, NoSpace}
use Rattle.ice_base.proofs.CountLaws.{count_below-add_one}
use Rattle.ice_map.specs.Faults.{IsShortFault}
use Rattle.ice_map.specs.Maps.{needs}
use Rattle.ice_map.proofs.GrowLaws.{needs-one}

-- what counts none has none
none_below : (p : ℕ → Bool) (n b : ℕ) → count_below p n < 1 → b < n → p b ≡ false
none_below p zero b h l = absurd (omega arith)
none_below p (suc n) b h l =
    let e : suc n ≡ n + 1 = omega arith in
    let c : count_below p (suc n) ≡ count_below p n + cond (p n) 1 0 = ap (count_below p) e ∙ count_below-add_one p n in
    let fewer : count_below p n < 1 = omega (arith, c) in
    elim (cases_eq b n) [
      | inl same ↦ ap p same ∙ clear (p n) (omega (arith, c))
      | inr other ↦ none_below p n b fewer (omega arith)
    ]
  where
    clear : (v : Bool) → cond v 1 0 < 1 → v ≡ false
    clear true h = absurd (omega arith)
    clear false h = refl

pub none_left : (lot : LotView) (m : ℕ → List ℕ) → free_count false lot m < 1 → AllUsed false lot m
none_left lot m h = λ i l. not_false (used_block m i) (none_below (λ b. not (used_block m b)) (256 * length lot.groups) i h l)
  where
    not_false : (v : Bool) → not v ≡ false → v ≡ true
    not_false true h = refl
    not_false false h = absurd (false≢true (sym h))

-- none is free where a growth that takes one block finds too few
pub short_all : (lot : LotView) (m : ℕ → List ℕ) (count : ℕ) → count ≢ 12 → free_count false lot m < needs count → AllUsed false lot m
short_all lot m count other few = let one = needs-one count other in none_left lot m (omega arith)

pub short_fault : (e : OpFault) → IsSpaceFault e → IsShortFault e
short_fault Disk h = tt
short_fault NoSpace h = tt
short_fault e h = absurd h

pub ruleset short_laws = (short_fault)
