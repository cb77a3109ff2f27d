-- What a cut of a map shows of the blocks that it gives back, and of the damage that it finds.
use Rattle.std.proofs.Common.{◌≡◌, ◌≤◌, ◌<◌, ◌+◌, ◌-◌, ◌^◌, inr, Result, Err, IsErrOf, subst, ℕ, true, false, List, [], ◌∷◌, ◌++◌, ◌∙◌, sym, refl, ap, arith}
use Rattle.std.proofs.lemmas.Bool.Decides.{nat_tests}
use Rattle.ice_base.specs.Lots.{LotView}
use Rattle.ice_base.specs.Spare.{has}
use Rattle.ice_base.specs.Faults.{IsDiskFault}
use Rattle.ice_base.specs.Used.{is_data, counted, free_count, Reserved}
use Rattle.ice_base.specs.declared.fault.OpFault.{OpFault}
use Rattle.ice_base.specs.declared.fault.OpFault.TheVariants.{Disk, Damaged, NoSpace}
use Rattle.ice_base.specs.declared.fault.Rule.TheVariants.{Counts, Pointer, Bitmap}
use Rattle.ice_map.specs.declared.codec.Inode.{Inode}
use Rattle.ice_map.specs.Faults.{IsLookFault, IsGrowFault}
use Rattle.ice_map.specs.Growth.{GrowthRefused, Strays}
use Rattle.ice_map.specs.Maps.{nth_block, blocks_between, cut_off, needs, Misleads}
use Rattle.ice_map.proofs.ListLaws.{has-append, has-none, has-one}
use Rattle.ice_map.proofs.MapLaws.{leads-bad, leads-lost}
use Rattle.ice_map.proofs.CutLaws.{between-none, between-next, same-block, cut-none, cut-run-last}

-- each block of a list is a data place
abbrev pub AllData : LotView → List ℕ → Type 0
AllData lot xs = (b : ℕ) → has xs b ≡ true → is_data lot b ≡ true

data-none : (lot : LotView) (xs : List ℕ) → xs ≡ [] → AllData lot xs
data-none lot xs e b h = let n = has-none b in let f = ap (λ (ys : List ℕ). has ys b) e in absurd cc

data-with : (lot : LotView) (xs : List ℕ) (a : ℕ) → is_data lot a ≡ true → AllData lot xs → AllData lot (xs ++ a ∷ [])
data-with lot xs a place all b h =
    let parts = has-append xs (a ∷ []) b in
    let one = has-one a b in
    elim (has xs b) as (λ t. has xs b ≡ t → is_data lot b ≡ true) [
      | true ↦ λ t. all b t
      | false ↦ λ t. let same : b ≡ a = grind (arith, nat_tests) in ap (is_data lot) same ∙ place
    ] refl

-- a run of blocks that were found to be data places, and one more
pub placed-none : (lot : LotView) (m : ℕ → List ℕ) (inode : Inode) (rest : ℕ) → AllData lot (blocks_between m inode rest rest)
placed-none lot m inode rest = data-none lot _ (between-none m inode rest rest (omega arith))

pub placed-next : (lot : LotView) (m : ℕ → List ℕ) (inode : Inode) (rest k a : ℕ) → rest ≤ k → a ≡ nth_block m inode k
    → is_data lot a ≡ true → AllData lot (blocks_between m inode rest k) → AllData lot (blocks_between m inode rest (k + 1))
placed-next lot m inode rest k a h same place all =
    let next : blocks_between m inode rest k ++ a ∷ [] ≡ blocks_between m inode rest (k + 1) =
    ap (λ x. blocks_between m inode rest k ++ x ∷ []) same ∙ sym (between-next m inode rest k h) in
    rw next at (data-with lot (blocks_between m inode rest k) a place all)

-- and all that is cut off
pub placed-uncut : (lot : LotView) (m : ℕ → List ℕ) (inode : Inode) (count rest : ℕ) → count ≡ rest → AllData lot (cut_off m inode count rest)
placed-uncut lot m inode count rest h = data-none lot _ (cut-none m inode count rest h)

pub placed-last : (lot : LotView) (m : ℕ → List ℕ) (b : List ℕ) (inode : Inode) (count rest : ℕ) → 12 < count → rest ≤ 12
    → (12 < count → b ≡ m inode.single) → is_data lot inode.single ≡ true
    → AllData lot (blocks_between (λ _. b) inode rest count) → AllData lot (cut_off m inode count rest)
placed-last lot m b inode count rest h l e place all = rw (cut-run-last m b inode count rest h l e) (data-with lot _ inode.single place all)

-- a block of a run, or the indirect block, that is no data place
pub misled-run : (lot : LotView) (m : ℕ → List ℕ) (b : List ℕ) (inode : Inode) (count k : ℕ) → (12 < count → b ≡ m inode.single)
    → k < count → is_data lot (nth_block (λ _. b) inode k) ≡ false → Misleads lot m inode count
misled-run lot m b inode count k e h lost = record {
  block = k;
  below = h;
  bad = leads-bad lot m inode k (ap (is_data lot) (same-block m b inode k (λ n. e (omega arith))) ∙ lost);
}

-- a map past its direct blocks misleads where its indirect block is no data place
pub misled-single : (lot : LotView) (m : ℕ → List ℕ) (inode : Inode) (count : ℕ) → 12 < count → is_data lot inode.single ≡ false → Misleads lot m inode count
misled-single lot m inode count h lost = record {
  block = count - 1;
  below = omega arith;
  bad = leads-lost lot m inode (count - 1) (omega arith) lost;
}

-- why a block of a map of c blocks was refused, by the fault
module _ (lot : LotView) (m : ℕ → List ℕ) (inode : Inode) (c k : ℕ) where
  pub refused-look : (e : OpFault) → IsLookFault e → (e ≡ Damaged Pointer → Strays lot m inode c k) → GrowthRefused lot m inode c k e
  refused-look Disk h p = tt
  refused-look (Damaged Pointer) h p = p refl
  refused-look _ h p = absurd h

  pub refused-growth : (e : OpFault) → IsGrowFault e → k ≡ c → (e ≡ NoSpace → free_count false lot m < needs c)
      → (e ≡ Damaged Counts → 2 ^ 32 ≤ counted false m + needs c) → (e ≡ Damaged Bitmap → ¬ Reserved lot m)
      → (e ≡ Damaged Pointer → (12 < c) × (is_data lot inode.single ≡ false)) → GrowthRefused lot m inode c k e
  refused-growth Disk h next n f b p = tt
  refused-growth (Damaged Counts) h next n f b p = (next, f refl)
  refused-growth (Damaged Pointer) h next n f b p = inr (p refl)
  refused-growth (Damaged Bitmap) h next n f b p = b refl
  refused-growth NoSpace h next n f b p = (next, n refl)
  refused-growth _ h next n f b p = absurd h

  pub refused-disk : (e : OpFault) → IsDiskFault e → GrowthRefused lot m inode c k e
  refused-disk Disk h = tt
  refused-disk _ h = absurd h

  -- the reason that belongs to the fault of an answer
  pub refused-as : {A : Type 0} (r : Result A OpFault) (y e x : OpFault) → r ≡ Err y → y ≡ e → IsErrOf r x
      → GrowthRefused lot m inode c k e → GrowthRefused lot m inode c k x
  refused-as r y e x a b is why = let same : e ≡ x = cc in subst (GrowthRefused lot m inode c k) same why
