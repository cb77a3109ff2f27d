-- Where inodes stand, and what a change of one leaves.
use Rattle.std.proofs.Common.{◌≡◌, ◌≢◌, ◌<◌, ◌+◌, ◌*◌, ◌/◌, ◌%◌, ℕ, true, false, List, length, slice_index, ◌∙◌, sym, refl, ap, arith, ◌==◌}
use Rattle.std.proofs.lemmas.Bool.Decides.{nat_tests}
use Rattle.std.proofs.lemmas.Nat.{div-add-mod', mod_below}
use Rattle.ice_base.specs.Fields.{SameBeside}
use Rattle.ice_base.specs.Lots.{LotView, is_address}
use Rattle.ice_base.specs.Inodes.{inode_address}
use Rattle.ice_base.proofs.LotLaws.{is_address_at}
use Rattle.ice_map.specs.declared.codec.Inode.{Inode}
use Rattle.ice_map.specs.Inodes.{inode_at, inode_of, Blank, InodeSet}
use Rattle.ice_map.proofs.CodecLaws.{inode_at-kept}

pub inode-is_address : (lot : LotView) (number : ℕ) → number < 64 * length lot.groups → is_address lot (256 * (number / 64) + (1 + number % 64 / 8)) ≡ true
inode-is_address lot number h =
    let m = mod_below number 64 (omega arith) in
    let d = div-add-mod' number 64 in
    let e = div-add-mod' (number % 64) 8 in
    let f = mod_below (number % 64) 8 (omega arith) in
    is_address_at lot _ (omega arith)

pub ruleset inode_laws = (inode-is_address)

-- the parts of a number
parts : (n : ℕ) → n ≡ 64 * (n / 64) + 8 * (n % 64 / 8) + n % 8
parts n =
    let d = div-add-mod' n 64 in
    let e = div-add-mod' (n % 64) 8 in
    let f : n % 64 % 8 ≡ n % 8 = grind arith in
    omega arith

same_address : (a b : ℕ) → inode_address a ≡ inode_address b → a % 8 ≡ b % 8 → a ≡ b
same_address a b e f =
    let pa = parts a in
    let pb = parts b in
    let ma = mod_below a 64 (omega arith) in
    let mb = mod_below b 64 (omega arith) in
    let da = div-add-mod' (a % 64) 8 in
    let db = div-add-mod' (b % 64) 8 in
    omega arith

-- every other inode of a lot in which one was written
inode_of_other : (m0 m1 : ℕ → List ℕ) (block new : List ℕ) (number : ℕ) → block ≡ m0 (inode_address number)
    → SameBeside (128 * (number % 8)) 128 block new → m1 (inode_address number) ≡ new
    → ((b : ℕ) → b ≢ inode_address number → m1 b ≡ m0 b) → (other : ℕ) → other ≢ number → inode_of m1 other ≡ inode_of m0 other
inode_of_other m0 m1 block new number e o at only other ne =
    elim (inode_address other == inode_address number) as (λ t. (inode_address other == inode_address number) ≡ t → inode_of m1 other ≡ inode_of m0 other) [
      | true ↦ λ t. let same : inode_address other ≡ inode_address number = grind (arith, nat_tests) in
          let apart : other % 8 ≢ number % 8 = (λ f. ne (same_address other number same f)) in
          let k = inode_at-kept block new (other % 8) (λ m l h. o m (grind arith)) in
          ap (λ (b : List ℕ). inode_at b (other % 8)) (ap m1 same ∙ at) ∙ k ∙ ap (λ (b : List ℕ). inode_at b (other % 8)) (e ∙ ap m0 (sym same))
      | false ↦ λ t. let apart : inode_address other ≢ inode_address number = grind (arith, nat_tests) in
          ap (λ (b : List ℕ). inode_at b (other % 8)) (only (inode_address other) apart)
    ] refl

-- what a write of an inode's block does
pub inode_set : (m0 m1 : ℕ → List ℕ) (block new : List ℕ) (number : ℕ) (inode : Inode) → block ≡ m0 (inode_address number)
    → inode_at new (number % 8) ≡ inode → Blank new (number % 8) → SameBeside (128 * (number % 8)) 128 block new
    → m1 (inode_address number) ≡ new → ((b : ℕ) → b ≢ inode_address number → m1 b ≡ m0 b) → InodeSet m0 m1 number inode
inode_set m0 m1 block new number inode e value blank o at only = record {
  value = ap (λ (b : List ℕ). inode_at b (number % 8)) at ∙ value;
  blank = rw at blank;
  bytes = λ k h. ap (λ (b : List ℕ). slice_index b k) at ∙ o k h ∙ ap (λ (b : List ℕ). slice_index b k) e;
  others = inode_of_other m0 m1 block new number e o at only;
}
