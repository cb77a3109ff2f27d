-- The header that a write set has.
use Rattle.std.proofs.Common.{◌≡◌, ◌≤◌, ◌<◌, ◌+◌, ◌-◌, ◌++◌, ◌==◌, ℕ, zero, suc, Bool, true, false, cond, List, [], ◌∷◌, length, take, replicate, slice_index, slice_set, append_assoc, Some, None, refl, sym, ◌∙◌, ap, subst, arith}
use Rattle.std.specs.List.{list_all}
use Rattle.std.proofs.lemmas.Bool.Decides.{nat_tests}
use Rattle.std.proofs.lemmas.List.{take_more, length-take-le}
use Rattle.std.proofs.Math.Seq.{take-append_seam, set-append_seam}
use Rattle.ice_base.specs.Spare.{has}
use Rattle.ice_base.specs.Lots.{LotView, is_address}
use Rattle.ice_layout.specs.Headers.{all_differ, header_with, header_of, system_header_of, targets_said, system_targets, IsProperHeader}
use Rattle.ice_layout.specs.declared.header.Header.{Header}
use Rattle.ice_layout.proofs.HeaderLaws.{header-said, said_targets}
use Rattle.ice_txn.specs.declared.set.Entry.{Entry}
use Rattle.ice_txn.specs.Sets.{address, addresses, holds, Differ}
use Rattle.ice_txn.proofs.SetLaws.{count_addresses, not_held}
use Rattle.ice_journal.specs.Areas.{NamesTargets}

has_addresses : (entries : List Entry) (a : ℕ) → has (addresses entries) a ≡ holds entries a
unfolding has holds
has_addresses [] a = refl
has_addresses (e ∷ entries) a = ap (λ (b : Bool). cond (e.at == a) true b) (has_addresses entries a)

-- the addresses of entries that differ are different numbers
pub addresses_differ : (entries : List Entry) → Differ entries → all_differ (addresses entries) ≡ true
unfolding address
addresses_differ [] differ = refl
addresses_differ (e ∷ entries) differ =
    let first : has (addresses entries) e.at ≡ false = has_addresses entries e.at
    ∙ not_held entries e.at (λ i less q. differ zero (suc i) (omega arith) (omega (arith, less)) (sym q)) in
    let rest = addresses_differ entries (λ i j h k. differ (suc i) (suc j) (omega (arith, h)) (omega (arith, k))) in
    grind arith

-- what each address has, the list of them has
pub all_addresses : (test : ℕ → Bool) (entries : List Entry) → ((a : ℕ) → holds entries a ≡ true → test a ≡ true) → list_all test (addresses entries) ≡ true
unfolding holds
all_addresses test [] each = refl
all_addresses test (e ∷ entries) each =
    let first : test e.at ≡ true = each e.at (grind (arith, nat_tests)) in
    let rest = all_addresses test entries (λ a h. each a (let t : holds entries a ≡ true = h in grind (arith, nat_tests))) in
    grind arith

said_with : (ts : List ℕ) → targets_said (header_with ts) ≡ ts
said_with ts = take-append_seam ts (replicate (240 - length ts) 0)

-- so the header of a set may be written
pub proper_header : (most : ℕ) (may : ℕ → Bool) (entries : List Entry) (header : Header) → header ≡ header_with (addresses entries)
    → Differ entries → 1 ≤ length entries → length entries ≤ most
    → ((a : ℕ) → holds entries a ≡ true → may a ≡ true) → IsProperHeader most may header
proper_header most may entries header e differ some few homes =
    let ts = addresses entries in
    let n = count_addresses entries in
    let said = said_with ts in
    subst (λ (h : Header). IsProperHeader most may h) (sym e) (record {
      number = let low : 1 ≤ length ts = omega arith in let high : length ts ≤ most = omega arith in grind (arith, nat_tests);
      homes = subst (λ (x : List ℕ). list_all may x ≡ true) (sym said) (all_addresses may entries homes);
      differ = subst (λ (x : List ℕ). all_differ x ≡ true) (sym said) (addresses_differ entries differ);
      rest = ap (λ (x : List ℕ). header_with x) (sym said);
    })

-- the header of a slot that was written names the addresses of the set
pub slot_names : (slot : ℕ) (ts bytes : List ℕ) (header : Header) → header ≡ header_with ts
    → ((lot : LotView) → lot.slot ≡ slot → list_all (is_address lot) (targets_said header) ≡ true → header_of lot bytes ≡ Some header)
    → NamesTargets (Some slot) ts bytes
slot_names slot ts bytes header e wrote = λ lot same all.
    let said : targets_said header ≡ ts = ap (λ (h : Header). targets_said h) e ∙ said_with ts in
    said_targets lot bytes header (sym (wrote lot same (subst (λ (x : List ℕ). list_all (is_address lot) x ≡ true) (sym said) all)))
    ∙ ap (λ (x : List ℕ). Some x) said

-- and so does that of the tables
pub system_names : (ts bytes : List ℕ) (header : Header) → header ≡ header_with ts → system_header_of bytes ≡ Some header → NamesTargets None ts bytes
system_names ts bytes header e wrote =
    header-said (system_targets bytes) header wrote ∙ ap (λ (x : List ℕ). Some x) (ap (λ (h : Header). targets_said h) e ∙ said_with ts)

-- one more address in the targets of a header
pub target_put : (ts xs : List ℕ) (n v : ℕ) → n < length ts → length ts ≤ 240 → v ≡ slice_index ts n → xs ≡ take n ts ++ replicate (240 - n) 0
    → slice_set xs n v ≡ take (n + 1) ts ++ replicate (240 - (n + 1)) 0
target_put ts xs n v less few is e =
    let us = take n ts in
    let rest : List ℕ = replicate (240 - (n + 1)) 0 in
    let one : 240 - n ≡ suc (240 - (n + 1)) = omega (arith, less, few) in
    let zeros : replicate (240 - n) 0 ≡ 0 ∷ rest = ap (λ (k : ℕ). replicate k 0) one in
    let seam : slice_set (us ++ 0 ∷ rest) n v ≡ us ++ v ∷ rest = subst (λ (k : ℕ). slice_set (us ++ 0 ∷ rest) k v ≡ us ++ v ∷ rest)
    (length-take-le n ts (omega (arith, less))) (set-append_seam us 0 rest v) in
    let word : us ++ v ∷ [] ≡ take (n + 1) ts = ap (λ (w : ℕ). us ++ w ∷ []) is ∙ sym (take_more ts n 0 less) in
    ap (λ (x : List ℕ). slice_set x n v) (e ∙ ap (λ (r : List ℕ). us ++ r) zeros) ∙ seam ∙ sym (append_assoc us (v ∷ []) rest)
    ∙ ap (λ (x : List ℕ). x ++ rest) word
