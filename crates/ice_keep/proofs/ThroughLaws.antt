-- Single calls of a disk, as a keep that writes home at once makes them.
use Rattle.std.proofs.Common.{◌≡◌, ℕ, true, List, sym, ◌∙◌, refl}
use Rattle.ice_base.specs.Disk.{Image, DiskState, Nowhere, ReadCounts}
use Rattle.ice_base.specs.Frames.{Within}
use Rattle.ice_base.specs.FrameLaws.{within_next, within_more, within_refl}
use Rattle.ice_base.specs.Lots.{LotView, is_address, place, IsHomeOf}
use Rattle.ice_base.specs.Still.{Still, PutsHome, still_refl}
use Rattle.ice_keep.specs.Through.{Through}

pub through_looks : {D : Type 0} (state : D → DiskState) (left : D → ℕ → Image → List ℕ → Type 0) (lot : LotView) (a b c : D)
    → Through state left lot a b → Within state left Nowhere b c → ((state b).tells ≡ true → (state c).barriers ≡ (state b).barriers)
    → Through state left lot a c
through_looks state left lot a b c v w bars = record {
  within = within_next state left v.within w (λ k e. absurd e);
  barriers = λ t. bars (v.within.tells ∙ t) ∙ v.barriers t;
}

pub through_writes : {D : Type 0} (state : D → DiskState) (left : D → ℕ → Image → List ℕ → Type 0) (lot : LotView) (at p : ℕ) (a b c : D)
    → Through state left lot a b → Within state left (λ k. k ≡ p) b c → is_address lot at ≡ true → place lot at ≡ p
    → ((state b).tells ≡ true → (state c).barriers ≡ (state b).barriers) → Through state left lot a c
through_writes state left lot at p a b c v w is e bars = record {
  within = within_next state left v.within w (λ k h. (at, (is, h ∙ sym e)));
  barriers = λ t. bars (v.within.tells ∙ t) ∙ v.barriers t;
}

-- what a read, and a write of one home, do to the disk
pub read_still : {D : Type 0} (state : D → DiskState) (left : D → ℕ → Image → List ℕ → Type 0) (a b : D)
    → Within state left Nowhere a b → ((state a).tells ≡ true → ReadCounts (state a) (state b)) → Still state left a b
read_still state left a b w counts = record { within = w; barriers = λ t. (counts t).barriers; writes = λ t. (counts t).writes; loose = λ t. (counts t).loose }

pub write_home : {D : Type 0} (state : D → DiskState) (left : D → ℕ → Image → List ℕ → Type 0) (lot : LotView) (at p : ℕ) (a b : D)
    → Within state left (λ k. k ≡ p) a b → is_address lot at ≡ true → place lot at ≡ p
    → ((state a).tells ≡ true → (state b).barriers ≡ (state a).barriers) → PutsHome state left lot at a b
write_home state left lot at p a b w is e bars =
    record { within = within_more state left (λ k. k ≡ p) (IsHomeOf lot at) a b (λ k h. (is, h ∙ sym e)) w; barriers = bars }

-- and what leaves the disk does
pub none_home : {D : Type 0} (state : D → DiskState) (left : D → ℕ → Image → List ℕ → Type 0) (lot : LotView) (at : ℕ) (a : D) → PutsHome state left lot at a a
none_home state left lot at a = record { within = within_refl state left (IsHomeOf lot at) a; barriers = λ t. refl }

pub ruleset through_laws = (through_looks, through_writes, write_home, none_home, read_still, still_refl)
