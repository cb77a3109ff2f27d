-- One mounted cube: what its lot holds, what a crash leaves of it, and what it goes on from.
use Rattle.std.specs.Prelude.{◌≡◌, ◌≤◌, ℕ, ◌+◌, Bool, false, List, length}
use Rattle.ice_base.specs.Disk.{Image, DiskState}
use Rattle.ice_base.specs.Frames.{Every, Sure}
use Rattle.ice_base.specs.Lots.{LotView, extent}
use Rattle.tree_spec.specs.Costs.{Form, form_of}
use Rattle.tree_spec.specs.Records.{History, Mode, Sound, done, floor, mode_after, tree_at, tree_now}
use Rattle.ice_images.specs.Fitting.{HasContent}
use Rattle.ice_images.specs.Recovering.{mode_byte}
use Rattle.ice_journal.specs.Rests.{LotAtRest, RestsLot}
use Rattle.ice_reads.specs.Recovers.{MapRecovers}
use Rattle.ice_txn.specs.declared.set.Entry.{Entry}
use Rattle.ice_txn.specs.Sets.{over}

-- a mounted cube: its lot, the blocks that it holds back, the number of accepted commands, and whether a fault or damage stopped it
pub record CubeView : Type 0 where
  pub lot : LotView
  pub set : List Entry
  pub done : ℕ
  pub stopped : Bool

-- the lot recovers in the image the tree of one of the history's counts, from its floor to the last
abbrev pub HasHistory : LotView → Form → Mode → History → Image → Type 0
HasHistory lot f mode h image = HasContent lot image f mode (Sound h)

-- What a cube goes on from: its lot is at rest with the blocks of one of the history's counts, and what it holds back
-- makes of them the tree with all accepted operations, whose number it knows.
pub record Runs (f : Form) (mode : Mode) (h : History) (c : CubeView) (s : DiskState) : Type 0 where
  pub form : f ≡ form_of f.version
  pub map : ℕ → List ℕ
  pub rest : Sure (RestsLot c.lot) (LotAtRest c.lot map) s
  pub back : ℕ
  pub few : back ≤ length h.since
  pub base : MapRecovers f (mode_byte (mode_after mode h back)) c.lot map (tree_at h back) (floor h + back)
  pub running : MapRecovers f (mode_byte (mode_after mode h (length h.since))) c.lot (over c.set map) (tree_now h) (done h)
  pub count : c.done ≡ done h

-- The cube holds the history: every image that a crash leaves now has it, and where the cube isn't stopped it goes on from it.
pub record Holds (f : Form) (mode : Mode) (h : History) (c : CubeView) (s : DiskState) : Type 0 where
  pub lasts : Every (extent c.lot) s (HasHistory c.lot f mode h)
  pub runs : c.stopped ≡ false → Runs f mode h c s
