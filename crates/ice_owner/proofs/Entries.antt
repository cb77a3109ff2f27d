-- The entries of an owner table, and what they say.
use Rattle.std.proofs.Common.{◌≡◌, ◌∙◌, ◌≤◌, ◌<◌, ◌+◌, ◌-◌, ◌*◌, ◌/◌, ◌%◌, ℕ, zero, suc, Bool, true, false, List, [], Option, Some, None, refl, sym, ap, arith}
use Rattle.std.specs.Prelude.{slice_index, slice_index_or, nat_lt, if◌then◌else◌}
use Rattle.std.proofs.lemmas.Bool.Decides.{nat_tests}
use Rattle.ice_tables.specs.Tables.{blocks_from, owner_byte, ordinal_byte, slot_of, ordinal_of, holder_in, ordinal_in}
use Rattle.ice_owner.specs.Owners.{OwnersView, AreLots, holder, ordinal}
use Rattle.ice_owner.specs.Places.{mark_slot, mark_ordinal, mark_owner, mark_byte}
use Rattle.ice_owner.proofs.Held.{holder_is, holder_past}

-- the first byte of an entry
pub first_byte : (m : ℕ → List ℕ) (g : ℕ) → slice_index (m (15 + g / 256)) (4 * (g % 256) + 0) ≡ owner_byte m g
first_byte m g = let e : 4 * (g % 256) + 0 ≡ 4 * (g % 256) = omega arith in ap (λ (k : ℕ). slice_index (m (15 + g / 256)) k) e

-- the entry of each group stands in its block
abbrev pub AreEntries : (ℕ → List ℕ) → List ℕ → Type 0
AreEntries m marks = (g k : ℕ) → g < 1024 → k < 4 → slice_index (m (15 + g / 256)) (4 * (g % 256) + k) ≡ mark_byte (slice_index marks g) k

-- block j has the entries of 256 groups
abbrev pub HasEntries : List ℕ → List ℕ → ℕ → Type 0
HasEntries block marks first = (k : ℕ) → k < 1024 → slice_index block k ≡ mark_byte (slice_index marks (first + k / 4)) (k % 4)

pub four_blocks : (blocks : List (List ℕ)) (marks : List ℕ) → ((j : ℕ) → j < 4 → HasEntries (slice_index_or blocks j []) marks (256 * j))
    → AreEntries (blocks_from 15 blocks) marks
four_blocks blocks marks each g k low small =
    let j : 15 + g / 256 - 15 ≡ g / 256 = omega arith in
    let group : 256 * (g / 256) + (4 * (g % 256) + k) / 4 ≡ g = omega (arith, small) in
    let byte : (4 * (g % 256) + k) % 4 ≡ k = omega (arith, small) in
    ap (λ (i : ℕ). slice_index (slice_index_or blocks i []) (4 * (g % 256) + k)) j
    ∙ each (g / 256) (omega (arith, low)) (4 * (g % 256) + k) (omega (arith, small))
    ∙ ap (λ (h : ℕ). mark_byte (slice_index marks h) ((4 * (g % 256) + k) % 4)) group
    ∙ ap (λ (i : ℕ). mark_byte (slice_index marks g) i) byte

slot_mark : (mark : ℕ) → slot_of (mark_owner mark) ≡ mark_slot mark
slot_mark zero = refl
slot_mark (suc k) = let e : k / 64 + 1 ≡ suc (k / 64) = omega arith in ap slot_of e

module _ (m : ℕ → List ℕ) (marks : List ℕ) (are : AreEntries m marks) (v : OwnersView) (lots : AreLots v)
    (held : (g : ℕ) → holder v g ≡ mark_slot (slice_index marks g)) (placed : (g : ℕ) → ordinal v g ≡ mark_ordinal (slice_index marks g)) where
  owner_says : (g : ℕ) → g < 1024 → owner_byte m g ≡ mark_owner (slice_index marks g)
  owner_says g low = sym (first_byte m g) ∙ are g 0 low (omega arith)

  pub holders_said : (g : ℕ) → holder_in v.groups m g ≡ holder v g
  holders_said g = by (nat_lt g v.groups) refl
    where
      by : (b : Bool) → nat_lt g v.groups ≡ b → (if b then slot_of (owner_byte m g) else None) ≡ holder v g
      by true is =
          let low : g < v.groups = grind (arith, nat_tests) in
          ap slot_of (owner_says g (omega (arith, low, lots.most))) ∙ slot_mark (slice_index marks g) ∙ sym (held g)
      by false is = let past : v.groups ≤ g = grind (arith, nat_tests) in sym (holder_past v lots g past)

  pub ordinals_said : (g : ℕ) → ordinal_in v.groups m g ≡ ordinal v g
  ordinals_said g = ap (λ (h : Option ℕ). ordinal_of h (ordinal_byte m g)) (holders_said g) ∙ by (slice_index marks g) refl
    where
      by : (mark : ℕ) → slice_index marks g ≡ mark → ordinal_of (holder v g) (ordinal_byte m g) ≡ ordinal v g
      by zero is =
          let none : holder v g ≡ None = held g ∙ ap mark_slot is in
          ap (λ (h : Option ℕ). ordinal_of h (ordinal_byte m g)) none ∙ sym (placed g ∙ ap mark_ordinal is)
      by (suc k) is =
          let some : holder v g ≡ Some (k / 64) = held g ∙ ap mark_slot is in
          let at = holder_is v g (k / 64) some in
          let below = lots.below (k / 64) (ordinal v g) at.0 in
          let low : g < 1024 = omega (arith, at.1, below, lots.most) in
          ap (λ (h : Option ℕ). ordinal_of h (ordinal_byte m g)) some ∙ are g 1 low (omega arith) ∙ sym (placed g)

  none_mark : (mark : ℕ) → mark_slot mark ≡ None → mark ≡ 0
  none_mark zero none = refl
  none_mark (suc k) none = absurd (cc none)

  pub past_said : (g : ℕ) → v.groups ≤ g → g < 1024 → owner_byte m g ≡ 0
  past_said g past low = owner_says g low ∙ ap mark_owner (none_mark (slice_index marks g) (sym (held g) ∙ holder_past v lots g past))

  pub unowned_said : (g : ℕ) → g < 1024 → holder v g ≡ None → ordinal_byte m g ≡ 0
  unowned_said g low none = are g 1 low (omega arith) ∙ ap mark_ordinal (none_mark (slice_index marks g) (sym (held g) ∙ none))
