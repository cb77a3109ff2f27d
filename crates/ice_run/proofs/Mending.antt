-- A broken cube stays so as long as no line may mend or delete it.
use Rattle.std.proofs.Common.{◌≡◌, ◌≢◌, ⊎_elim, ℕ, Bool, true, false, cond, nat_eq, List, [], ◌∷◌, Option, None, Some, sym, ap, subst, arith}
use Rattle.std.specs.Prelude.{⊤}
use Rattle.std.proofs.lemmas.Bool.{cases_eq}
use Rattle.tree_spec.specs.Replies.{Response}
use Rattle.tree_spec.specs.Records.{Cube, Content, Sound, Broken, Unread, History, with_state}
use Rattle.tree_spec.specs.Own.{Order, OnTree, Sync, Unmount, Mount, Check, SetOffline, SetOnline, Delete, Grow, Create, Verdict, No, Yes, Says, Plainly, Own, IfMounted, IfMountable, OfSound, MountFinds, CheckFinds, on_offline, on_online, on_sync, on_tree, stops}
use Rattle.tree_spec.specs.World.{World, Aim, Refuse, Listing, At, aim, Goes, with_slot}
use Rattle.tree_spec.specs.declared.reply.StateWord.{StateWord}
use Rattle.tree_spec.specs.declared.reply.StateWord.TheVariants.{Mounted, Unmounted, Stopped, Offline}
use Rattle.ice_volume.specs.Lines.{IsBrokenContent, SaysBroken}
use Rattle.ice_run.specs.Crashes.{StaysBroken}
use Rattle.ice_run.specs.Mending.{MayMend, NoneMends}
use Rattle.ice_run.specs.Runs.{Answered, Runs}

-- a verdict leaves a broken cube so
abbrev LeavesBroken : Verdict → Type 0
LeavesBroken (No y) = ⊤
LeavesBroken (Yes x d) = SaysBroken d

module _ (c : Cube) (broken : IsBrokenContent c.content) where
  leaves_as : (v u : Verdict) → v ≡ u → LeavesBroken u → LeavesBroken v
  leaves_as v u is leaves = subst LeavesBroken (sym is) leaves

  none_sound : (x : Content) (f : History → Verdict) (v : Verdict) → IsBrokenContent x → OfSound x f v → LeavesBroken v
  none_sound (Sound h) f v is of = absurd is
  none_sound (Broken rules) f v is of = absurd of
  none_sound Unread f v is of = absurd is

  mounted : (s : StateWord) (f : History → Verdict) (v : Verdict) → IfMounted s (OfSound c.content f) v → LeavesBroken v
  mounted Mounted f v p = none_sound c.content f v broken p
  mounted Unmounted f v p = leaves_as v _ p tt
  mounted Stopped f v p = leaves_as v _ p tt
  mounted Offline f v p = leaves_as v _ p tt

  finds : (x : Content) (v : Verdict) → IsBrokenContent x → MountFinds c x v → LeavesBroken v
  finds (Sound h) v is p = absurd is
  finds (Broken rules) v is p = leaves_as v _ p.2 tt
  finds Unread v is p = absurd is

  mountable : (s : StateWord) (v : Verdict) → IfMountable s (MountFinds c c.content) v → LeavesBroken v
  mountable Mounted v p = leaves_as v _ p tt
  mountable Unmounted v p = finds c.content v broken p
  mountable Stopped v p = finds c.content v broken p
  mountable Offline v p = leaves_as v _ p tt

  checked : (x : Content) (s : StateWord) (v : Verdict) → IsBrokenContent x → CheckFinds c x s v → LeavesBroken v
  checked (Sound h) s v is p = absurd is
  checked (Broken rules) s v is p = leaves_as v _ p.2 tt
  checked Unread s v is p = absurd is

  set_offline : (s : StateWord) → LeavesBroken (on_offline c s)
  set_offline Mounted = tt
  set_offline Unmounted = broken
  set_offline Stopped = broken
  set_offline Offline = tt

  set_online : (s : StateWord) → LeavesBroken (on_online c s)
  set_online Mounted = tt
  set_online Unmounted = tt
  set_online Stopped = tt
  set_online Offline = broken

  plainly : (o : Order) (v : Verdict) → ¬ MayMend o → Plainly (Some c) o v → LeavesBroken v
  plainly (OnTree op) v other p = mounted c.state (on_tree c op) v p
  plainly Sync v other p = mounted c.state (on_sync c Mounted) v p
  plainly Unmount v other p = mounted c.state (on_sync c Unmounted) v p
  plainly Mount v other p = mountable c.state v p
  plainly Check v other p = checked c.content c.state v broken p
  plainly SetOffline v other p = leaves_as v _ p (set_offline c.state)
  plainly SetOnline v other p = leaves_as v _ p (set_online c.state)
  plainly Delete v other p = absurd (other tt)
  plainly (Grow n) v other p = absurd (other tt)
  plainly (Create q n) v other p = absurd p

  says : (v : Verdict) (r : Response) (d : Option Cube) → LeavesBroken v → Says v (Some c) r d → SaysBroken d
  says (No y) r d leaves s = subst SaysBroken (sym s.1) broken
  says (Yes x e) r d leaves s = subst SaysBroken (sym s.1) leaves

  fault : (b : Bool) → SaysBroken (Some (cond b (with_state Stopped c) c))
  fault true = broken
  fault false = broken

  own : (o : Order) (r : Response) (d : Option Cube) → ¬ MayMend o → Own (Some c) o r d → SaysBroken d
  own o r d other p = ⊎_elim
      (λ v. says v.0 r d (plainly o v.0 other v.1) v.2)
      (λ q. ⊎_elim (λ f. subst SaysBroken (sym f.2) (fault (stops o))) (λ m. subst SaysBroken (sym m.2) broken) q)
      p

own_broken : (c d : Option Cube) (o : Order) (r : Response) → ¬ MayMend o → SaysBroken c → Own c o r d → SaysBroken d
own_broken None d o r other broken p = absurd broken
own_broken (Some c) d o r other broken p = own c broken o r d other p

goes_broken : (x : ℕ) (w v : World) (a : Aim) (r : Response) → Goes w a r v → SaysBroken (w.cube x)
    → ((o : Order) → a ≡ At x o → ¬ MayMend o) → SaysBroken (v.cube x)
goes_broken x w v (Refuse y) r g broken none = subst (λ (u : World). SaysBroken (u.cube x)) (sym g.1) broken
goes_broken x w v Listing r g broken none = subst (λ (u : World). SaysBroken (u.cube x)) (sym g.1) broken
goes_broken x w v (At s o) r g broken none = subst (λ (u : World). SaysBroken (u.cube x)) (sym g.2) (⊎_elim here there (cases_eq x s))
  where
    here : x ≡ s → SaysBroken ((with_slot w s g.0).cube x)
    here same =
        let at : nat_eq x s ≡ true = grind arith in
        let is : (with_slot w s g.0).cube x ≡ g.0 = ap (λ (b : Bool). cond b g.0 (w.cube x)) at in
        subst SaysBroken (sym is)
        (own_broken (w.cube s) g.0 o r (none o (ap (λ (q : ℕ). At q o) (sym same))) (subst (λ (q : ℕ). SaysBroken (w.cube q)) same broken) g.1)

    there : x ≢ s → SaysBroken ((with_slot w s g.0).cube x)
    there other =
        let at : nat_eq x s ≡ false = grind arith in
        let is : (with_slot w s g.0).cube x ≡ w.cube x = ap (λ (b : Bool). cond b g.0 (w.cube x)) at in
        subst SaysBroken (sym is) broken

-- a cube that is broken stays so
pub stays_broken : (x : ℕ) (w : World) (steps : List Answered) → Runs w steps → SaysBroken (w.cube x) → NoneMends x w steps → StaysBroken x w steps
stays_broken x w [] runs broken none = broken
stays_broken x w (a ∷ rest) runs broken none =
    (broken, stays_broken x a.then rest runs.1 (goes_broken x w a.then (aim w a.line) a.reply runs.0 broken none.0) none.1)
