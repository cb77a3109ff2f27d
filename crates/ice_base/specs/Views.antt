-- What calls over a view or a keep leave.
use Rattle.std.specs.Prelude.{◌≡◌, ◌≤◌, ◌+◌, ℕ, Bool, true, List}
use Rattle.ice_base.specs.Lots.{LotView}
use Rattle.ice_base.specs.Looks.{LookedBy}
use Rattle.ice_base.specs.Spare.{Except, Pays}
use Rattle.ice_base.specs.declared.disk.Disk as disk
use Rattle.ice_base.specs.declared.view.View as view

-- nothing of the view has changed
abbrev pub Looked : {V D : Type 0} → disk.Ghosts D → view.Ghosts V D → LotView → V → D → V → D → Type 0
Looked d k lot v e w f = LookedBy d.state k.map k.shows k.held k.room k.steady lot v e w f

-- No address stopped being held, and the room fell by n at most. The disk kept its size, and what was steady so far still is.
pub record Spent {V D : Type 0} (d : disk.Ghosts D) (k : view.Ghosts V D) (lot : LotView) (n : ℕ) (v : V) (e : D) (w : V) (f : D) : Type 0 where
  pub shows : k.shows lot v e → k.shows lot w f
  pub grows : (a : ℕ) → k.held v a ≡ true → k.held w a ≡ true
  pub room : k.room v ≤ k.room w + n
  pub size : (d.state f).size ≡ (d.state e).size
  pub tells : (d.state f).tells ≡ (d.state e).tells
  pub streams : (d.state f).streams ≡ (d.state e).streams
  pub later : (d.state e).faults ≤ (d.state f).faults
  pub steady : (u : V) (g : D) → k.steady lot u g v e → k.steady lot u g w f

-- where the view shows what the lot holds, this holds of it
abbrev pub IfShown : {V D : Type 0} → view.Ghosts V D → LotView → V → D → ((ℕ → List ℕ) → Type 0) → Type 0
IfShown k lot v e P = k.shows lot v e → P (k.map v e lot)

-- the same of what the view showed at one moment and shows at a later one
abbrev pub AsShown : {V D : Type 0} → view.Ghosts V D → LotView → V → D → V → D → ((ℕ → List ℕ) → (ℕ → List ℕ) → Type 0) → Type 0
AsShown k lot v e w f P = k.shows lot v e → P (k.map v e lot) (k.map w f lot)

-- only these addresses were put
pub record Puts {V D : Type 0} (k : view.Ghosts V D) (lot : LotView) (ok : Bool) (puts : List ℕ) (v : V) (e : D) (w : V) (f : D) : Type 0 where
  pub only : (a : ℕ) → Except a puts (k.map w f lot a ≡ k.map v e lot a)
  pub pays : Pays (k.held v) (k.room v) (k.held w) (k.room w) ok puts
