-- What a keep that holds all changes back does to its disk, and what it holds.
use Rattle.std.specs.Prelude.{ℕ, List}
use Rattle.ice_base.specs.Disk.{Image, DiskState}
use Rattle.ice_base.specs.Lots.{LotView}
use Rattle.ice_base.specs.Still.{Still, still_refl, still_then}
use Rattle.ice_tables.specs.Journals.{lot_places}
use Rattle.ice_txn.specs.Sets.{SetView}
use Rattle.ice_journal.specs.Blocks.{AreHomes}

-- The disk is as it was, and of other addresses than the lot's none became held.
pub record HeldBack {D : Type 0} (state : D → DiskState) (left : D → ℕ → Image → List ℕ → Type 0) (lot : LotView) (v : SetView) (old : D)
    (w : SetView) (new : D) : Type 0 where
  pub still : Still state left old new
  pub homes : AreHomes (lot_places lot) v.entries → AreHomes (lot_places lot) w.entries

module _ {D : Type 0} (state : D → DiskState) (left : D → ℕ → Image → List ℕ → Type 0) (lot : LotView) where
  pub held_refl : (v : SetView) (d : D) → HeldBack state left lot v d v d
  held_refl v d = record { still = still_refl state left d; homes = λ h. h }

  pub held_then : (u : SetView) (a : D) (v : SetView) (b : D) (w : SetView) (c : D) → HeldBack state left lot u a v b
      → HeldBack state left lot v b w c → HeldBack state left lot u a w c
  held_then u a v b w c p q = record { still = still_then state left a b c p.still q.still; homes = λ h. q.homes (p.homes h) }
