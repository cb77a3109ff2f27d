-- Commands that were acknowledged are among the first accepted ones.
use Rattle.std.proofs.Common.{◌≡◌, ◌≢◌, ◌∙◌, ◌≤◌, ⊎_elim, ℕ, ◌+◌, ◌-◌, true, nat_eq, List, [], ◌∷◌, ◌++◌, length, take, length-append, append_assoc, Option, None, Some, Ok, refl, sym, ap, subst, arith}
use Rattle.std.specs.Prelude.{⊤, IsOk, if◌then◌else◌}
use Rattle.tree_spec.specs.Why.{Why}
use Rattle.tree_spec.specs.Replies.{Response, Number}
use Rattle.tree_spec.specs.Lines.{Line}
use Rattle.tree_spec.specs.Operations.{Operation}
use Rattle.tree_spec.specs.Records.{Cube, Content, Sound, Broken, Unread, History, floor, done, settled, with_state, with_history}
use Rattle.tree_spec.specs.Own.{Order, Sync, Unmount, Own, Verdict, No, Says, Plainly, IfMounted, OfSound, on_sync}
use Rattle.tree_spec.specs.World.{World, At, aim, Goes, Step}
use Rattle.tree_spec.specs.declared.reply.StateWord.{StateWord}
use Rattle.tree_spec.specs.declared.reply.StateWord.TheVariants.{Mounted, Unmounted, Stopped, Offline}
use Rattle.ice_run.specs.Runs.{Answered, Runs, end}
use Rattle.ice_run.specs.Crashes.{Reached}
use Rattle.ice_headline.specs.Acknowledged.{LivesOn, Extends, Acknowledges, BeginsWith, IsSettling, Includes}
use Rattle.ice_headline.proofs.Histories.{OnFrom, take_more, floor_settled, extends_same, run_goes_on, step_goes_on}

begins : (g h : History) (k : ℕ) → Extends g h → floor h ≤ k → BeginsWith h k g
begins g h k on low =
    let long : length h.sure ≡ length g.sure + length on.more = ap (λ (xs : List Operation). length xs) on.sure ∙ length-append g.sure on.more in
    let same : h.from ≡ g.from = on.from in
    let j = k - h.from - length g.sure in
    let far : k - h.from ≡ length g.sure + j = omega (arith, low, long) in
    let all : h.sure ++ h.since ≡ g.sure ++ (on.more ++ h.since) = ap (λ (xs : List Operation). xs ++ h.since) on.sure ∙ append_assoc g.sure on.more h.since in
    record {
      on = on;
      count = omega (arith, low, long, same);
      more = take j (on.more ++ h.since);
      first =
          ap (λ n. take n (h.sure ++ h.since)) far ∙ ap (λ (xs : List Operation). take (length g.sure + j) xs) all ∙ take_more g.sure (on.more ++ h.since) j;
    }

-- an Ok settles a sound cube
abbrev Settled : Cube → Response → Option Cube → Type 0
Settled c r d = (h : History) × (to : StateWord) × (r ≡ Ok (Number (done h))) × (d ≡ Some (with_state to (with_history (settled h) c)))

no_refusal : (v : Verdict) (c d : Option Cube) (r : Response) → (why : Why) × (v ≡ No why) → IsOk r → ¬ Says v c r d
no_refusal v c d r is ok says = let s = subst (λ x. Says x c r d) is.1 says in absurd (cc (s.0, ok))

by_sound : (c : Cube) (x : Content) (to : StateWord) (v : Verdict) (r : Response) (d : Option Cube) → OfSound x (on_sync c to) v → Says v (Some c) r d
    → Settled c r d
by_sound c (Sound h) to v r d p says = let s = subst (λ y. Says y (Some c) r d) p says in (h, to, s.0, s.1)
by_sound c (Broken rules) to v r d p says = absurd p
by_sound c Unread to v r d p says = absurd p

by_state : (s : StateWord) (c : Cube) (to : StateWord) (v : Verdict) (r : Response) (d : Option Cube)
    → IfMounted s (OfSound c.content (on_sync c to)) v → IsOk r → Says v (Some c) r d → Settled c r d
by_state Mounted c to v r d p ok says = by_sound c c.content to v r d p says
by_state Unmounted c to v r d p ok says = absurd (no_refusal v (Some c) d r (_, p) ok says)
by_state Stopped c to v r d p ok says = absurd (no_refusal v (Some c) d r (_, p) ok says)
by_state Offline c to v r d p ok says = absurd (no_refusal v (Some c) d r (_, p) ok says)

-- one of the two orders that settle
abbrev IsSettlingOrder : Order → Type 0
IsSettlingOrder Sync = ⊤
IsSettlingOrder Unmount = ⊤
IsSettlingOrder _ = ⊥

plain_settled : (o : Order) (c : Cube) (v : Verdict) (r : Response) (d : Option Cube) → IsSettlingOrder o → Plainly (Some c) o v → IsOk r
    → Says v (Some c) r d → Settled c r d
plain_settled Sync c v r d is p ok says = by_state c.state c Mounted v r d p ok says
plain_settled Unmount c v r d is p ok says = by_state c.state c Unmounted v r d p ok says
plain_settled _ c v r d is p ok says = absurd is

free_none : (o : Order) (v : Verdict) → IsSettlingOrder o → ¬ Plainly None o v
free_none Sync v is p = p
free_none Unmount v is p = p
free_none _ v is p = absurd is

own_settled : (o : Order) (c : Option Cube) (r : Response) (d : Option Cube) → IsSettlingOrder o → IsOk r → Own c o r d → (e : Cube) × Settled e r d
own_settled o None r d is ok own =
    ⊎_elim (λ p. absurd (free_none o p.0 is p.1)) (λ q. ⊎_elim (λ f. absurd (cc (f.1, ok))) (λ m. absurd (cc (m.1, ok))) q) own
own_settled o (Some c) r d is ok own =
    ⊎_elim (λ p. (c, plain_settled o c p.0 r d is p.1 ok p.2)) (λ q. ⊎_elim (λ f. absurd (cc (f.1, ok))) (λ m. absurd (cc (m.1, ok))) q) own

goes_settled : (x : ℕ) (o : Order) (w : World) (a : Answered) → IsSettlingOrder o → Goes w (At x o) a.reply a.then → IsOk a.reply → Acknowledges x a
goes_settled x o w a is g ok =
    let one = own_settled o (w.cube x) a.reply g.0 is ok g.1 in
    let back : nat_eq x x ≡ true = grind arith in
    let there : a.then.cube x ≡ g.0 = ap (λ (z : World). z.cube x) g.2 ∙ ap (λ b. if b then g.0 else w.cube x) back in
    record {
      cube = with_state one.1.1 (with_history (settled one.1.0) one.0);
      history = settled one.1.0;
      there = there ∙ one.1.3;
      content = refl;
      all = refl;
      reply = one.1.2 ∙ ap (λ n. Ok (Number n)) (sym (floor_settled one.1.0));
    }

line_settled : (x : ℕ) (w : World) (a : Answered) → IsSettling x (aim w a.line) → Step w a.line a.reply a.then → IsOk a.reply → Acknowledges x a
line_settled x w a is step ok =
    ⊎_elim (λ s. goes_settled x Sync w a tt (subst (λ b. Goes w b a.reply a.then) s step) ok)
    (λ u. goes_settled x Unmount w a tt (subst (λ b. Goes w b a.reply a.then) u step) ok) is

runs_last : (w : World) (before rest : List Answered) → Runs w (before ++ rest) → Runs (end w before) rest
runs_last w [] rest runs = runs
runs_last w (a ∷ before) rest runs = runs_last a.then before rest runs.1

end_last : (w : World) (before : List Answered) (a : Answered) (rest : List Answered) → end w (before ++ a ∷ rest) ≡ end a.then rest
end_last w [] a rest = refl
end_last w (b ∷ before) a rest = end_last b.then before a rest

lives_last : (x : ℕ) (w : World) (steps : List Answered) → LivesOn x w steps → (end w steps).cube x ≢ None
lives_last x w [] lives = lives
lives_last x w (a ∷ rest) lives = lives_last x a.then rest lives.1

sound_on : (g : History) (d : Option Cube) (c : Cube) (h : History) → OnFrom g 0 d → d ≡ Some c → c.content ≡ Sound h → Extends g h
sound_on g d c h on there is =
    let at : OnFrom g 0 (Some c) = subst (OnFrom g 0) there on in
    let same : at.0 ≡ h = ap (λ (x : Content). history_or h x) (sym at.1 ∙ is) in
    subst (Extends g) same at.2
  where
    history_or : History → Content → History
    history_or d (Sound h) = h
    history_or d (Broken rules) = d
    history_or d Unread = d

-- what an Ok of `sync` or `unmount` acknowledged is among the first accepted commands of the world that was reached
pub includes : (x : ℕ) (w : World) (script : List Line) (steps : List Answered) (tail : List ℕ) (v : World) (c : Cube) (h : History) → Runs w steps
    → Reached w script steps tail v → v.cube x ≡ Some c → c.content ≡ Sound h → (k : ℕ) → floor h ≤ k → Includes x w steps h k
includes x w script steps tail v c h runs reached there is k low = λ before rest a split lives settling ok.
    let last = runs_last w before (a ∷ rest) (subst (Runs w) split runs) in
    let moment = line_settled x (end w before) a settling last.0 ok in
    let here : OnFrom moment.history 0 (a.then.cube x) =
    subst (OnFrom moment.history 0) (sym moment.there) (moment.history, moment.content, extends_same moment.history, omega arith) in
    let same : end w steps ≡ end a.then rest = ap (end w) split ∙ end_last w before a rest in
    let on : OnFrom moment.history 0 ((end w steps).cube x) =
    subst (λ (y : World). OnFrom moment.history 0 (y.cube x)) (sym same) (run_goes_on x moment.history a.then rest lives here last.1) in
    let live : (end w steps).cube x ≢ None = subst (λ (y : World). y.cube x ≢ None) (sym same) (lives_last x a.then rest lives) in
    let found : OnFrom moment.history 0 (v.cube x) = ⊎_elim (λ e. subst (λ (y : World). OnFrom moment.history 0 (y.cube x)) (sym e) on)
    (λ p. step_goes_on x moment.history (end w steps) v p.1.line p.0 live on p.1.step) reached in
    (moment, begins moment.history h k (sound_on moment.history (v.cube x) c h found there is) low)
