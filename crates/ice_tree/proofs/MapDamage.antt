-- How many blocks a map uses, and on what the rest of it hangs.
use Rattle.std.proofs.Common.{◌≡◌, ℕ, ◌+◌, ◌<◌, ◌≤◌, Bool, true, false, cond, refl, sym, ap, ◌∙◌, arith}
use Rattle.std.proofs.lemmas.Bool.Decides.{nat_tests}
use Rattle.std.proofs.lemmas.Nat.{div-add-mod', mod_below}
use Rattle.std.specs.Prelude.{nat_lt}
use Rattle.ice_base.specs.Lots.{LotView}
use Rattle.ice_base.specs.Used.{is_data}
use Rattle.ice_map.specs.declared.codec.Inode.{Inode}
use Rattle.ice_map.specs.Maps.{leads, Misleads}
use Rattle.ice_map.proofs.MapLaws.{leads-direct, leads-single, leads-lost}
use Rattle.ice_map.specs.Own.{blocks_for}
use Rattle.ice_map.specs.Moves.{uses_of}
use Rattle.ice_map.proofs.OwnLaws.{nth-moves}
use Rattle.ice_dir.specs.Changes.{entry_blocks}
use Rattle.ice_dir.proofs.PutLaws.{dir-sixteenth}
use Rattle.tree_spec.specs.Costs.{form_one, Form}
use Rattle.ice_reads.specs.Tables.{Map}

-- how many blocks a map uses at most
uses-few : (b : Bool) (c : ℕ) → c + cond b 1 0 ≤ c + 1
uses-few true c = omega arith
uses-few false c = omega arith

pub dir-few : (form : Form) (n : ℕ) → form ≡ form_one → n ≤ 4096 → uses_of (entry_blocks form n) ≤ 300
dir-few form n e h =
    let s = dir-sixteenth form n e in
    let a = div-add-mod' (n + 15) 16 in
    let r = mod_below (n + 15) 16 (omega arith) in
    omega (arith, s, a, r, h, uses-few (nat_lt 12 (entry_blocks form n)) (entry_blocks form n))

pub file-few : (n : ℕ) → n ≤ form_one.longest_file → uses_of (blocks_for n) ≤ 300
file-few n h =
    let a = div-add-mod' (n + 1023) 1024 in
    let r = mod_below (n + 1023) 1024 (omega arith) in
    omega (arith, a, r, h, uses-few (nat_lt 12 (blocks_for n)) (blocks_for n))

-- what the blocks of a map are hangs on its indirect block alone
pub leads-same : (lot : LotView) (m m' : Map) (x : Inode) (k : ℕ) → (is_data lot x.single ≡ true → m' x.single ≡ m x.single)
    → leads lot m' x k ≡ leads lot m x k
leads-same lot m m' x k same =
    elim (nat_lt k 12) as (λ t. nat_lt k 12 ≡ t → leads lot m' x k ≡ leads lot m x k) [
      | true ↦ λ t. let l : k < 12 = grind (arith, nat_tests) in leads-direct lot m' x k l ∙ sym (leads-direct lot m x k l)
      | false ↦ λ t.
          let l : 12 ≤ k = grind (arith, nat_tests) in
          elim (is_data lot x.single) as (λ d. is_data lot x.single ≡ d → leads lot m' x k ≡ leads lot m x k) [
            | true ↦ λ d. leads-single lot m' x k l d ∙ ap (is_data lot) (nth-moves m m' x k (λ _. same d)) ∙ sym (leads-single lot m x k l d)
            | false ↦ λ d. leads-lost lot m' x k l d ∙ sym (leads-lost lot m x k l d)
          ] refl
    ] refl

pub misleads-same : (lot : LotView) (m m' : Map) (x : Inode) (c : ℕ) → (is_data lot x.single ≡ true → m' x.single ≡ m x.single)
    → Misleads lot m' x c → Misleads lot m x c
misleads-same lot m m' x c same bad = record { block = bad.block; below = bad.below; bad = sym (leads-same lot m m' x bad.block same) ∙ bad.bad }
