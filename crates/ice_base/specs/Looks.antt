-- What a look at a lot leaves, over the members of a view.
use Rattle.std.specs.Prelude.{◌≡◌, ◌≤◌, ℕ, Bool, List}
use Rattle.ice_base.specs.Disk.{DiskState}
use Rattle.ice_base.specs.Lots.{LotView}

-- Nothing of the view has changed: not what it shows, not what it holds. The disk kept its size, and what was steady so far still is.
pub record LookedBy {V D : Type 0} (state : D → DiskState) (map_of : V → D → LotView → ℕ → List ℕ) (shows_of : LotView → V → D → Type 0)
    (held_of : V → ℕ → Bool) (room_of : V → ℕ) (steady_of : LotView → V → D → V → D → Type 0) (lot : LotView) (v : V) (e : D) (w : V) (f : D) : Type 0 where
  pub map : map_of w f lot ≡ map_of v e lot
  pub shows : shows_of lot v e → shows_of lot w f
  pub held : held_of w ≡ held_of v
  pub room : room_of w ≡ room_of v
  pub size : (state f).size ≡ (state e).size
  pub tells : (state f).tells ≡ (state e).tells
  pub streams : (state f).streams ≡ (state e).streams
  pub later : (state e).faults ≤ (state f).faults
  pub steady : (u : V) (g : D) → steady_of lot u g v e → steady_of lot u g w f
