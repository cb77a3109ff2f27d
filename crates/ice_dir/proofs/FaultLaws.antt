-- What a fault of a directory shows.
use Rattle.std.proofs.Common.{◌≡◌, ◌<◌, ◌*◌, ◌/◌, ℕ, false, List, ap, sym, ◌∙◌}
use Rattle.ice_base.specs.Lots.{LotView}
use Rattle.ice_map.specs.declared.codec.Inode.{Inode}
use Rattle.ice_map.specs.Maps.{leads, Misleads}
use Rattle.ice_dir.specs.Changes.{blocks_sized}
use Rattle.ice_dir.specs.Rows.{entries_in}
use Rattle.ice_dir.proofs.PutLaws.{row-inside}
use Rattle.ice_dir.proofs.TakeLaws.{block-inside}

-- the block of a row of a directory is no data place
pub misled-row : (lot : LotView) (entry : ℕ) (m m0 : ℕ → List ℕ) (x : Inode) (k per : ℕ) → entry ≡ 64 → m ≡ m0 → per ≡ entries_in entry
    → k < x.size → leads lot m0 x (k / per) ≡ false → Misleads lot m x (blocks_sized entry x.size)
misled-row lot entry m m0 x k per e same p h bad = record {
  block = k / entries_in entry;
  below = row-inside entry x.size k e h;
  bad = ap (λ (n : ℕ → List ℕ). leads lot n x (k / entries_in entry)) same ∙ ap (λ n. leads lot m0 x (k / n)) (sym p) ∙ bad;
}

-- a block of its rows is none
pub misled-block : (lot : LotView) (entry : ℕ) (m m0 : ℕ → List ℕ) (x : Inode) (n : ℕ) → entry ≡ 64 → m ≡ m0
    → n * entries_in entry < x.size → leads lot m0 x n ≡ false → Misleads lot m x (blocks_sized entry x.size)
misled-block lot entry m m0 x n e same h bad = record {
  block = n;
  below = block-inside entry x.size n e h;
  bad = ap (λ (k : ℕ → List ℕ). leads lot k x n) same ∙ bad;
}
