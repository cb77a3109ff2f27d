-- The blocks of fresh groups, one written after another.
use Rattle.std.proofs.Common.{◌≡◌, ◌⊎◌, inl, inr, ℕ, ◌+◌, ◌*◌, ◌-◌, ◌<◌, ◌≤◌, ◌==◌, true, List, length, refl, sym, ◌∙◌, subst, arith}
use Rattle.ice_base.specs.Counts.{Made}
use Rattle.ice_base.specs.Disk.{Image, block, DiskState}
use Rattle.ice_base.specs.Frames.{Within}
use Rattle.ice_base.specs.FrameLaws.{within_refl, within_then, within_more}
use Rattle.ice_base.specs.Lots.{LotView, IsLot, is_address, place}
use Rattle.ice_base.proofs.LotLaws.{is_address_at, place-apart}
use Rattle.ice_layout.specs.Subs.{fresh_place}
use Rattle.ice_cube.specs.Fresh.{IsGroupHead, IsHeadFrom, HasFreshGroup}

last : (j k : ℕ) → j < k + 1 → (j < k) ⊎ (j ≡ k)
last j k h = grind arith

-- the writes of one stretch after those of another
pub made_then : (m n : ℕ) (a b c : DiskState) → Made m 0 true a b → Made n 0 true b c → Made (m + n) 0 true a c
made_then m n a b c v w = record {
  most_writes = omega (arith, v.most_writes, w.most_writes);
  most_barriers = omega (arith, v.most_barriers, w.most_barriers);
  all_writes = λ t. omega (arith, v.all_writes t, w.all_writes t);
  all_barriers = λ t. omega (arith, v.all_barriers t, w.all_barriers t);
}

-- the first nine places of the lot's groups have addresses
pub head_below : (o p n : ℕ) → o < n → p < 9 → 256 * o + p < 256 * n
head_below o p n ho hp = omega arith

pub head_address : (lot : LotView) (o p : ℕ) → o < length lot.groups → p < 9 → is_address lot (256 * o + p) ≡ true
head_address lot o p ho hp = is_address_at lot (256 * o + p) (head_below o p (length lot.groups) ho hp)

-- and blocks of their own
head_apart : (lot : LotView) (o p u q : ℕ) → IsLot lot → o < length lot.groups → p < 9 → u < length lot.groups → q < 9
    → place lot (256 * o + p) ≡ place lot (256 * u + q) → 256 * o + p ≡ 256 * u + q
head_apart lot o p u q l ho hp hu hq e =
    place-apart lot (256 * o + p) (256 * u + q) l (head_address lot o p ho hp) (head_address lot u q hu hq) e

-- the first k places of the group are fresh, and nothing else changed
pub record WrotePlaces {D : Type 0} (state : D → DiskState) (left : D → ℕ → Image → List ℕ → Type 0) (lot : LotView) (o k : ℕ) (old new : D) : Type 0 where
  pub frame : Within state left (IsGroupHead lot o) old new
  pub calm : (state new).faults ≡ (state old).faults
  pub bytes : (state old).tells ≡ true → (p : ℕ) → p < k → block (state new).now (place lot (256 * o + p)) ≡ fresh_place (o == 0) p
  pub counts : (state old).tells ≡ true → Made k 0 true (state old) (state new)

-- the groups from one ordinal up to another are fresh, and nothing else changed
pub record WroteGroups {D : Type 0} (state : D → DiskState) (left : D → ℕ → Image → List ℕ → Type 0) (lot : LotView) (from to : ℕ) (old new : D) : Type 0 where
  pub frame : Within state left (IsHeadFrom lot from) old new
  pub calm : (state new).faults ≡ (state old).faults
  pub groups : (state old).tells ≡ true → (o : ℕ) → from ≤ o → o < to → HasFreshGroup lot o (state new).now
  pub counts : (state old).tells ≡ true → Made (9 * (to - from)) 0 true (state old) (state new)

module _ {D : Type 0} (state : D → DiskState) (left : D → ℕ → Image → List ℕ → Type 0) (lot : LotView) where
  -- nothing yet
  pub places_none : (o : ℕ) (a : D) → WrotePlaces state left lot o 0 a a
  places_none o a = record {
    frame = within_refl state left (IsGroupHead lot o) a;
    calm = refl;
    bytes = λ told p less. absurd (omega (arith, less));
    counts = λ told. record { most_writes = omega arith; most_barriers = omega arith; all_writes = λ t. omega arith; all_barriers = λ t. omega arith };
  }

  pub groups_within : (from to : ℕ) (a b c : D) → from ≤ to → to < length lot.groups → WroteGroups state left lot from to a b
      → Within state left (IsGroupHead lot to) b c → Within state left (IsHeadFrom lot from) a c
  groups_within from to a b c low high w v = within_then state left (IsHeadFrom lot from) a b c w.frame
      (within_more state left (IsGroupHead lot to) (IsHeadFrom lot from) b c (λ x is. (to, low, high, is)) v)

  -- one group more
  pub groups_more : (from to : ℕ) (a b c : D) → IsLot lot → from ≤ to → to < length lot.groups → WroteGroups state left lot from to a b
      → Within state left (IsGroupHead lot to) b c → (state c).faults ≡ (state b).faults → ((state b).tells ≡ true → HasFreshGroup lot to (state c).now)
      → ((state b).tells ≡ true → Made 9 0 true (state b) (state c)) → WroteGroups state left lot from (to + 1) a c
  groups_more from to a b c l low high w v calm here made = record {
    frame = groups_within from to a b c low high w v;
    calm = calm ∙ w.calm;
    groups = λ told o from_o less. go told o from_o (last o to less);
    counts = λ told. subst (λ (n : ℕ). Made n 0 true (state a) (state c)) (count from to low)
        (made_then (9 * (to - from)) 9 (state a) (state b) (state c) (w.counts told) (made (w.frame.tells ∙ told)));
  }
    where
      count : (from to : ℕ) → from ≤ to → 9 * (to - from) + 9 ≡ 9 * (to + 1 - from)
      count from to low = omega (arith, low)

      go : (state a).tells ≡ true → (o : ℕ) → from ≤ o → (o < to) ⊎ (o ≡ to) → HasFreshGroup lot o (state c).now
      go told o from_o (inl less) = λ p hp. v.same (place lot (256 * o + p))
          (λ is. let same = head_apart lot o p to is.0 l (omega (arith, less, high)) hp high is.1 is.2 in omega (arith, same, less, hp, is.1))
          ∙ w.groups told o from_o less p hp
      go told o from_o (inr same) = subst (λ (x : ℕ). HasFreshGroup lot x (state c).now) (sym same) (here (w.frame.tells ∙ told))
