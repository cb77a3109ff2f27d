-- What a volume and its disk stand for: the images that a crash leaves fit it, and it outlasts what keeps the blocks.
use Rattle.std.proofs.Common.{◌≡◌, ◌∙◌, ◌≤◌, ℕ, true, length, sym, subst}
use Rattle.ice_base.specs.Disk.{DiskState, Everywhere}
use Rattle.ice_base.specs.Frames.{Every, Kept, RestsOn}
use Rattle.ice_base.specs.Lots.{LotView, extent}
use Rattle.ice_base.proofs.Kept.{sure_kept, kept_fewer}
use Rattle.tree_spec.specs.Records.{Mode}
use Rattle.tree_spec.specs.Costs.{Form}
use Rattle.tree_spec.specs.Trees.{Tree}
use Rattle.tree_spec.specs.World.{World}
use Rattle.ice_tables.specs.Lots.{IsTable, AtRest, total, lot_of}
use Rattle.ice_tables.proofs.JournalLaws.{lot_blocks_rest}
use Rattle.ice_tables.proofs.TableLaws.{at_rest_rests, tables_rest}
use Rattle.ice_images.specs.Fitting.{Fits}
use Rattle.ice_images.specs.Recovering.{Recovers}
use Rattle.ice_images.proofs.FittingLaws.{fits_every, has_rests}
use Rattle.ice_images.proofs.OpeningLaws.{opens_fits}
use Rattle.ice_cube.proofs.CubeLaws.{same_recovers}
use Rattle.ice_system.specs.Systems.{tables_of}
use Rattle.ice_volume.specs.Cells.{cell_at}
use Rattle.ice_volume.specs.Sessions.{Starts}
use Rattle.ice_volume.specs.Volumes.{VolumeView, StandsFor}
use Rattle.ice_volume.proofs.Slots.{carries_has, carries_kept}

-- ---- lots

-- What a lot recovers rests on its extent.
pub recovers_rests : (lot : LotView) (f : Form) (mode : Mode) (t : Tree) (k : ℕ) → RestsOn (extent lot) (λ i. Recovers lot i f mode t k)
recovers_rests lot f mode t k i j same r = same_recovers lot i j (lot_blocks_rest lot i j same) f mode t k r

-- ---- volumes

-- Each image that a crash leaves fits the world.
pub stands_fits : (v : VolumeView) (s : DiskState) (w : World) → StandsFor v s w → Every Everywhere s (Fits w)
stands_fits v s w stands = fits_every (λ x. Unit {0}) (tables_of v.system) w s stands.tables stands.room stands.shows
    (λ x here. carries_has (cell_at v.cells x) (lot_of (tables_of v.system) x) s (w.cube x) (stands.cubes x))

-- It is the same where all blocks are kept.
pub stands_kept : (v : VolumeView) (a b : DiskState) (w : World) → Kept Everywhere a b → StandsFor v a w → StandsFor v b w
stands_kept v a b w kept stands = record {
  live = stands.live;
  tables =
      sure_kept IsTable (AtRest (tables_of v.system)) a b (at_rest_rests (tables_of v.system))
      (kept_fewer Everywhere IsTable a b (λ k here. tt) kept) stands.tables;
  room = subst (λ n. total (tables_of v.system) ≤ n) (sym kept.size) stands.room;
  shows = stands.shows;
  cubes = λ x. carries_kept (lot_of (tables_of v.system) x) a b (kept_fewer Everywhere (extent (lot_of (tables_of v.system) x)) a b (λ k here. tt) kept)
      (cell_at v.cells x) (w.cube x) (stands.cubes x);
}

-- ---- the start

-- At the start each image that a crash leaves fits the world that the image opens.
pub starts_fit : (s : DiskState) (w : World) → (s.tells ≡ true → length s.now ≡ s.size) → Starts s w → Every Everywhere s (Fits w)
starts_fit s w whole starts i agrees =
    let found : Fits w s.now = opens_fits s.now w starts.opens in record {
      tables = found.tables;
      has = tables_rest found.tables s.now i (λ k low. agrees.same k tt (starts.settled.settled k tt)) found.has;
      room = subst (λ n. total found.tables ≤ n) (whole starts.settled.told ∙ sym agrees.count) found.room;
      shows = found.shows;
      cubes = λ x here. has_rests (lot_of found.tables x) (w.cube x) s.now i (λ k own. agrees.same k tt (starts.settled.settled k tt)) (found.cubes x here);
    }
