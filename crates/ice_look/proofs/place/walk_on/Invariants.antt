use Rattle.std.proofs.Common.{◌≡◌, ◌≤◌, ◌-◌, ℕ, take, drop}
use Rattle.ice_base.specs.Views.{Looked}
use Rattle.tree_spec.specs.Trees.{Tree}
use Rattle.tree_spec.specs.Costs.{form_of}
use Rattle.ice_reads.specs.Recovers.{MapRecovers}
use Rattle.ice_look.specs.Calls.{place_on}
use Rattle.ice_look.specs.Places.{NodeFits, PlaceFits, PlaceInHand}
use Rattle.ice_look.proofs.place.walk_on.Given as goal

-- the place is that of the names so far
abbrev pub invariant-loop-k : goal.invariant-loop-k
invariant-loop-k g l =
    let f = form_of g.F.Form.VERSION in
    let shows = g.V.View.shows l.lot l.fn.view l.fn.disk in
    let m = g.V.View.map l.fn.view l.fn.disk l.lot in
    record {
      looked : Looked g.D.Disk g.V.View l.lot l.fn.view l.fn.disk l.view l.disk;
      fits : PlaceFits l.lot l.place;
      node : NodeFits l.lot l.place l.node;
      in_hand : shows → PlaceInHand f l.lot m l.fn.place l.fn.node → PlaceInHand f l.lot m l.place l.node;
      from : l.depth ≤ l.k;
      place : (mode done : ℕ) (t : Tree) → shows → MapRecovers f mode l.lot m t done → PlaceInHand f l.lot m l.fn.place l.fn.node
          → l.fn.place ≡ place_on g.F.Form.VERSION m (take (l.from - l.depth) (drop l.depth l.path)) t
          → l.place ≡ place_on g.F.Form.VERSION m (take (l.k - l.depth) (drop l.depth l.path)) t;
    }
