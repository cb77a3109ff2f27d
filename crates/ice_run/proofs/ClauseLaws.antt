-- That each cube answers by itself follows from a run and the image at its start.
use Rattle.std.proofs.Common.{◌≡◌, ◌∙◌, ⊎_elim, ℕ, Bool, true, false, nat_eq, List, [], ◌∷◌, ◌++◌, Option, None, Some, refl, sym, ap, subst, arith}
use Rattle.std.specs.Prelude.{IsOk, if◌then◌else◌}
use Rattle.ice_base.specs.Disk.{Image}
use Rattle.ice_base.specs.Lots.{LotView}
use Rattle.tree_spec.specs.Trees.{Dir, Nil}
use Rattle.tree_spec.specs.Replies.{Response}
use Rattle.tree_spec.specs.Records.{Cube, Content, Sound, Broken, Unread, History, fresh, is_offline}
use Rattle.tree_spec.specs.Own.{Create, Own, Says}
use Rattle.tree_spec.specs.World.{World, At, Goes}
use Rattle.tree_spec.proofs.Alone.{IsSteady, SteadyIn}
use Rattle.ice_tables.specs.Lots.{lot_of}
use Rattle.ice_images.specs.Opening.{closed_state, OpensContent, OpensCube, Opens}
use Rattle.ice_run.specs.Runs.{Answered, Runs, end}
use Rattle.ice_run.specs.Clauses.{ToSound, AllAlone}
use Rattle.ice_run.proofs.Said.{run_said}

closed_steady : (off : Bool) (h : History) → h.since ≡ [] → SteadyIn (closed_state off) h
closed_steady true h none = none
closed_steady false h none = none

runs_last : (w : World) (before rest : List Answered) → Runs w (before ++ rest) → Runs (end w before) rest
runs_last w [] rest runs = runs
runs_last w (a ∷ before) rest runs = runs_last a.then before rest runs.1

-- a cube that was made is steady
made_steady : (c : Option Cube) (p : List (List ℕ)) (n : ℕ) (r : Response) (d : Option Cube) → IsOk r → Own c (Create p n) r d → IsSteady d
made_steady None p n r d ok own = ⊎_elim
    (λ v. let s = subst (λ x. Says x None r d) v.1 v.2 in subst IsSteady (sym s.1) (fresh (Dir Nil) 0, refl, tt))
    (λ q. ⊎_elim (λ f. absurd (cc (f.1, ok))) (λ m. absurd (cc (m.1, ok))) q) own
made_steady (Some c) p n r d ok own = ⊎_elim (λ v. absurd v.1) (λ q. ⊎_elim (λ f. absurd (cc (f.1, ok))) (λ m. absurd (cc (m.1, ok))) q) own

holds_steady : (lot : LotView) (i : Image) (c : Cube) (x : Content) → c.content ≡ x → ToSound x
    → c.state ≡ closed_state (is_offline c.state) → OpensContent lot i c x → IsSteady (Some c)
holds_steady lot i c (Sound h) is sound closed o = (h, is, subst (λ s. SteadyIn s h) (sym closed) (closed_steady (is_offline c.state) h o.1))
holds_steady lot i c (Broken rules) is sound closed o = absurd sound
holds_steady lot i c Unread is sound closed o = absurd sound

-- each cube that is sound at the start, or made in the session, answers by itself
pub all_alone : (i : Image) (w : World) (steps : List Answered) → Opens i w → Runs w steps → AllAlone w steps
all_alone i w steps opens runs = record {
  found = λ s c there sound clean.
      let held : OpensCube (lot_of opens.tables s) i (Some c) = subst (OpensCube (lot_of opens.tables s) i) there (opens.cubes s) in
      run_said s w steps (subst IsSteady (sym there) (holds_steady (lot_of opens.tables s) i c c.content refl sound held.0 held.1)) runs clean;
  made = λ s before rest a p n split aims ok clean.
      let last = runs_last w before (a ∷ rest) (subst (Runs w) split runs) in
      let goes : Goes (end w before) (At s (Create p n)) a.reply a.then = subst (λ b. Goes (end w before) b a.reply a.then) aims last.0 in
      let back : nat_eq s s ≡ true = grind arith in
      let there : a.then.cube s ≡ goes.0 = ap (λ (z : World). z.cube s) goes.2 ∙ ap (λ b. if b then goes.0 else (end w before).cube s) back in
      run_said s a.then rest (subst IsSteady (sym there) (made_steady ((end w before).cube s) p n a.reply goes.0 ok goes.1)) last.1 clean;
}
