-- A fresh lot, written block by block.
use Rattle.std.proofs.Common.{◌≡◌, ◌≢◌, ℕ, ◌+◌, ◌*◌, ◌≤◌, false, List, length, Result, Ok, Err, OnOk, refl, sym, ◌∙◌, ap, subst, arith}
use Rattle.ice_base.specs.Disk.{Image, block, DiskState, Everywhere}
use Rattle.ice_base.specs.Frames.{Within, Settled, Sure}
use Rattle.ice_base.specs.FrameLaws.{within_more, within_next}
use Rattle.ice_base.specs.Lots.{LotView, IsLot, area, extent, gate_place, homes, inside, place, sub_address}
use Rattle.ice_base.proofs.LotLaws.{area_in, gate_in, home_not_gate, inside_at, is_address_sub, place-apart, place-in, place-sub}
use Rattle.ice_layout.specs.Headers.{is_open}
use Rattle.ice_layout.specs.Subs.{IsSub}
use Rattle.ice_tables.proofs.JournalLaws.{lot_blocks_homes}
use Rattle.ice_reads.specs.Fresh.{IsFreshLot}
use Rattle.ice_reads.proofs.FreshLots.{fresh_recovers}
use Rattle.ice_cube.specs.Fresh.{fresh_sub, HasFreshGroups, IsEmptyLot, IsHeadFrom}
use Rattle.ice_cube.proofs.FreshLoops.{head_address, head_below}

-- the bitmap and the inode blocks of a group are blocks of the lot
head_in : (lot : LotView) (from k : ℕ) → IsHeadFrom lot from k → extent lot k
head_in lot from k is = subst (extent lot) (sym is.3.2) (place-in lot (256 * is.0 + is.3.0) (head_address lot is.0 is.3.0 is.2 is.3.1))

-- the sub-super block is the first of the slot's area
pub sub_place : (lot : LotView) → place lot sub_address ≡ area lot
sub_place lot = place-sub lot sub_address refl

-- the sub-super block is none of them
sub_no_head : (lot : LotView) (from : ℕ) → IsLot lot → ¬ IsHeadFrom lot from (area lot)
sub_no_head lot from l is =
    let o = is.0 in
    let p = is.3.0 in
    let less = head_below o p (length lot.groups) is.2 is.3.1 in
    let e : sub_address ≡ 256 * o + p =
    place-apart lot sub_address (256 * o + p) l (is_address_sub lot) (head_address lot o p is.2 is.3.1) (sub_place lot ∙ is.3.2) in
    let few = l.few in
    omega (arith, e, less, few)

-- nor is the gate
gate_no_head : (lot : LotView) (from : ℕ) → IsLot lot → ¬ IsHeadFrom lot from (gate_place lot)
gate_no_head lot from l is = home_not_gate lot (256 * is.0 + is.3.0) l (head_address lot is.0 is.3.0 is.2 is.3.1) (sym is.3.2)

-- and the sub-super block is not the gate
area_no_gate : (lot : LotView) → area lot ≢ gate_place lot
area_no_gate lot e = omega (arith, e)

-- a lot with these blocks is a fresh one
is_fresh : (lot : LotView) (i : Image) → 1 ≤ length lot.groups → IsSub lot.slot (fresh_sub lot.slot) (block i (area lot))
    → HasFreshGroups lot 0 i → IsFreshLot lot (inside lot (homes lot i))
is_fresh lot i some sub groups = record {
  sub = subst (λ (bytes : List ℕ). IsSub lot.slot (fresh_sub lot.slot) bytes)
      (sym (inside_at lot (homes lot i) sub_address (is_address_sub lot) ∙ ap (block i) (sub_place lot))) sub;
  some = some;
  groups = λ o p ho hp. inside_at lot (homes lot i) (256 * o + p) (head_address lot o p ho hp)
      ∙ groups o (omega arith) ho p hp;
}

-- and with its gate closed it is that of a new cube
empty_lot : (lot : LotView) (i : Image) → is_open (block i (gate_place lot)) ≡ false → IsFreshLot lot (inside lot (homes lot i)) → IsEmptyLot lot i
empty_lot lot i closed fresh = record {
  blocks = inside lot (homes lot i);
  rest = record { gate = closed; blocks = lot_blocks_homes lot i closed };
  recovers = fresh_recovers lot (inside lot (homes lot i)) fresh;
}

module _ {D : Type 0} (state : D → DiskState) (left : D → ℕ → Image → List ℕ → Type 0) (lot : LotView) where
  -- each of the writes stays within the lot
  pub sub_within : (a b : D) → Within state left (λ k. k ≡ area lot) a b → Within state left (extent lot) a b
  sub_within a b w = within_more state left (λ k. k ≡ area lot) (extent lot) a b
      (λ k e. subst (extent lot) (sym e) (area_in lot (area lot) (omega arith) (omega arith))) w

  pub gate_within : (at : ℕ) (a b c : D) → at ≡ gate_place lot → Within state left (extent lot) a b → Within state left (λ k. k ≡ at) b c
      → Within state left (extent lot) a c
  gate_within at a b c is w v = within_next state left w v (λ k e. subst (extent lot) (sym (e ∙ is)) (gate_in lot))

  pub heads_within : (from : ℕ) (a b c : D) → Within state left (extent lot) a b → Within state left (IsHeadFrom lot from) b c
      → Within state left (extent lot) a c
  heads_within from a b c w v = within_next state left w v (head_in lot from)

  -- the sub-super block, the gate and the groups, one after another
  pub lot_made : (at : ℕ) (b c d : D) → IsLot lot → 1 ≤ length lot.groups → at ≡ gate_place lot
      → IsSub lot.slot (fresh_sub lot.slot) (block (state b).now (area lot)) → Within state left (λ k. k ≡ at) b c
      → is_open (block (state c).now at) ≡ false → Within state left (IsHeadFrom lot 0) c d → HasFreshGroups lot 0 (state d).now → IsEmptyLot lot (state d).now
  lot_made at b c d l some is sub gate closed heads groups =
      let same : block (state d).now (area lot) ≡ block (state b).now (area lot) =
      heads.same (area lot) (sub_no_head lot 0 l) ∙ gate.same (area lot) (λ e. area_no_gate lot (e ∙ is)) in
      let shut : is_open (block (state d).now (gate_place lot)) ≡ false =
      ap is_open (heads.same (gate_place lot) (gate_no_head lot 0 l)) ∙ subst (λ (k : ℕ). is_open (block (state c).now k) ≡ false) is closed in
      empty_lot lot (state d).now shut
      (is_fresh lot (state d).now some (subst (λ (bytes : List ℕ). IsSub lot.slot (fresh_sub lot.slot) bytes) (sym same) sub) groups)

-- what the sub-super block says once it is written
pub sub_wrote : {T X : Type 0} (lot : LotView) (slot home : ℕ) (bytes : List ℕ) (image : Image) (r : Result T X)
    → slot ≡ lot.slot → home ≡ place lot sub_address
    → IsSub slot (fresh_sub slot) bytes → OnOk r (block image home ≡ bytes) → OnOk r (IsSub lot.slot (fresh_sub lot.slot) (block image (area lot)))
sub_wrote lot slot home bytes image (Ok x) same is sub e =
    let here : block image (area lot) ≡ bytes = ap (block image) (sym (is ∙ sub_place lot)) ∙ e in
    subst (λ (b : List ℕ). IsSub lot.slot (fresh_sub lot.slot) b) (sym here) (subst (λ (s : ℕ). IsSub s (fresh_sub s) bytes) same sub)
sub_wrote lot slot home bytes image (Err e) same is sub none = tt

-- and what is sure of the lot after the barrier
pub lot_sure : {T X : Type 0} (lot : LotView) (s : DiskState) (r : Result T X) → (HasFreshGroups lot 0 s.now → IsEmptyLot lot s.now)
    → OnOk r (Settled Everywhere s) → OnOk r (HasFreshGroups lot 0 s.now) → OnOk r (Sure (extent lot) (IsEmptyLot lot) s)
lot_sure lot s (Ok x) made settled groups = record {
  settled = record { told = settled.told; settled = λ k inside. settled.settled k tt };
  now = made groups;
}
lot_sure lot s (Err e) made settled groups = tt
