-- What a view shows, from one moment to a later one.
use Rattle.std.proofs.Common.{◌≡◌, refl, ◌∙◌, sym, subst, arith, Result, Ok, Err}
use Rattle.std.specs.Prelude.{IfErr, OnOk}
use Rattle.std.specs.Result.{IsErr, IsErrAnd}
use Rattle.ice_check.specs.declared.fault.CheckFault.{CheckFault}
use Rattle.ice_base.specs.Lots.{LotView}
use Rattle.ice_base.specs.declared.disk.Disk as disk
use Rattle.ice_base.specs.declared.view.View as view
use Rattle.ice_base.specs.Views.{Looked}
use Rattle.ice_reads.specs.Tables.{Map}
use Rattle.ice_check.specs.Shown.{Shows}

pub ok-then : {T E : Type 0} (r : Result T E) (P Q : Type 0) → (P → Q) → OnOk r P → OnOk r Q
ok-then (Ok x) P Q go h = go h
ok-then (Err e) P Q go h = tt

pub err-then : {T E : Type 0} (r : Result T E) (P Q : E → Type 0) → ((x : E) → P x → Q x) → IfErr r P → IfErr r Q
err-then (Ok x) P Q go h = tt
err-then (Err e) P Q go h = go e h

-- after a look the view shows the same map
pub still_shows : {V D : Type 0} (d : disk.Ghosts D) (k : view.Ghosts V D) (lot : LotView) (v : V) (e : D) (w : V) (f : D) (m : Map)
    → Looked d k lot v e w f → Shows k lot v e m → Shows k lot w f m
still_shows d k lot v e w f m l s = record { shows = l.shows s.shows; is = l.map ∙ s.is }

-- the view shows what it shows
pub shows_itself : {V D : Type 0} (k : view.Ghosts V D) (lot : LotView) (v : V) (e : D) → k.shows lot v e → Shows k lot v e (k.map v e lot)
shows_itself k lot v e s = record { shows = s; is = refl }

-- one look and then another
pub looked_then : {V D : Type 0} (d : disk.Ghosts D) (k : view.Ghosts V D) (lot : LotView) (u : V) (c : D) (v : V) (e : D) (w : V) (f : D)
    → Looked d k lot u c v e → Looked d k lot v e w f → Looked d k lot u c w f
looked_then d k lot u c v e w f a b = record {
  map = b.map ∙ a.map;
  shows = λ s. b.shows (a.shows s);
  held = b.held ∙ a.held;
  room = b.room ∙ a.room;
  size = b.size ∙ a.size;
  tells = b.tells ∙ a.tells;
  streams = b.streams ∙ a.streams;
  later = let x = a.later in let y = b.later in omega arith;
  steady = λ x y h. b.steady x y (a.steady x y h);
}

-- what follows from the fault of a call that is handed on
pub handed : {T : Type 0} (r : Result T CheckFault) (e : CheckFault) (P : CheckFault → Type 0) → IsErr r × IsErrAnd r (λ x. x ≡ e) → P e → IfErr r P
handed (Ok x) e P s h = tt
handed (Err x) e P s h = subst P (sym s.1) h
