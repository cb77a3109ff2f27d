-- A cube that a session found stays as it was found until it is mounted, and is mounted with all that was found.
use Rattle.std.proofs.Common.{◌≡◌, ◌≢◌, ◌∙◌, ⊎_elim, ℕ, ◌+◌, true, false, nat_eq, List, [], ◌∷◌, ◌++◌, Option, None, Some, Ok, Err, inl, inr, refl, sym, ap, subst, arith}
use Rattle.std.specs.Prelude.{⊤, ◌⊎◌, if◌then◌else◌}
use Rattle.std.proofs.lemmas.Bool.{cases_eq}
use Rattle.tree_spec.specs.Why.{Why}
use Rattle.tree_spec.specs.Why as why
use Rattle.tree_spec.specs.Trees.{Tree}
use Rattle.tree_spec.specs.Replies.{Response, Number, Because}
use Rattle.tree_spec.specs.Replies as value
use Rattle.tree_spec.specs.Records.{Cube, Content, Sound, History, floor, fresh, mended, with_state, with_history, cut_to, grown}
use Rattle.tree_spec.specs.Own.{Order, OnTree, Sync, Unmount, Mount, Check, SetOffline, SetOnline, Delete, Grow, Create, Own, Verdict, No, Yes, Says, Plainly, IfMounted, IfMountable, OfSound, MountFinds, CheckFinds, on_offline, on_online, on_mount, on_tree, on_sync, after_fault, may_fault}
use Rattle.tree_spec.specs.Alone.{IsClean}
use Rattle.tree_spec.specs.World.{World, Aim, Refuse, Listing, At, aim, Goes}
use Rattle.tree_spec.specs.declared.reply.StateWord.{StateWord}
use Rattle.tree_spec.specs.declared.reply.StateWord.TheVariants.{Mounted, Unmounted, Stopped, Offline}
use Rattle.tree_spec.proofs.Alone.{IsSteady, plainly}
use Rattle.ice_run.specs.Runs.{Answered, Runs, end}
use Rattle.ice_run.specs.Alone.{Told, told, told_at, while_live, orders_of, said}
use Rattle.ice_headline.specs.Acknowledged.{LivesOn}
use Rattle.ice_headline.specs.Later.{IsMounting, NoneMounted, added_by, added, MountsAs, IsOff, Serves}
use Rattle.ice_headline.proofs.Saying.{run_said}

-- neither mounted nor stopped
abbrev pub IsClosed : StateWord → Type 0
IsClosed Mounted = ⊥
IsClosed Unmounted = ⊤
IsClosed Stopped = ⊥
IsClosed Offline = ⊤

-- as it was found, with so many groups more
pub record RestsAs (d : Cube) (t : Tree) (k more : ℕ) (e : Cube) : Type 0 where
  pub path : e.path ≡ d.path
  pub groups : e.groups ≡ d.groups + more
  pub form : e.form ≡ d.form
  pub mode : e.mode ≡ d.mode
  pub state : IsClosed e.state
  pub content : e.content ≡ Sound (fresh t k)

-- the record, if there is one, is as it was found
abbrev pub Rests : Cube → Tree → ℕ → ℕ → Option Cube → Type 0
Rests d t k more None = ⊤
Rests d t k more (Some e) = RestsAs d t k more e

module _ (d : Cube) (t : Tree) (k : ℕ) where
  rested : (more : ℕ) (e : Cube) → RestsAs d t k more e → RestsAs d t k (0 + more) e
  rested more e r =
      let is : e.groups ≡ d.groups + (0 + more) = omega (arith, r.groups) in
      record { path = r.path; groups = is; form = r.form; mode = r.mode; state = r.state; content = r.content }

  -- what a verdict leads to, with the groups that the order adds; a mount leads elsewhere
  abbrev Keeps : ℕ → Order → Verdict → Type 0
  Keeps more o (No why) = ⊤
  Keeps more o (Yes x f) = (¬ IsMounting o (Ok x)) → Rests d t k (added_by o (Ok x) + more) f

  keeps_as : (more : ℕ) (o : Order) (v w : Verdict) → v ≡ w → Keeps more o w → Keeps more o v
  keeps_as more o v w is keeps = subst (Keeps more o) (sym is) keeps

  mounted_keeps : (more : ℕ) (o : Order) (s : StateWord) (x : Content) (f : History → Verdict) (v : Verdict) → IsClosed s
      → IfMounted s (OfSound x f) v → Keeps more o v
  mounted_keeps more o Mounted x f v closed p = absurd closed
  mounted_keeps more o Unmounted x f v closed p = keeps_as more o v _ p tt
  mounted_keeps more o Stopped x f v closed p = absurd closed
  mounted_keeps more o Offline x f v closed p = keeps_as more o v _ p tt

  -- the verdict on a mount
  abbrev Mounting : Cube → Verdict → Type 0
  Mounting e v = (v ≡ on_mount e (fresh t k) 0) ⊎ ((e.state ≡ Offline) × (v ≡ No why.Offline))

  finds_found : (e : Cube) (v : Verdict) → MountFinds e (Sound (fresh t k)) v → v ≡ on_mount e (fresh t k) 0
  finds_found e v p = let none : p.0 ≡ 0 = omega (arith, p.1) in p.2 ∙ ap (on_mount e (fresh t k)) none

  mount_found : (s : StateWord) (e : Cube) (v : Verdict) → IsClosed s → IfMountable s (MountFinds e (Sound (fresh t k))) v
      → (v ≡ on_mount e (fresh t k) 0) ⊎ ((s ≡ Offline) × (v ≡ No why.Offline))
  mount_found Mounted e v closed p = absurd closed
  mount_found Unmounted e v closed p = inl (finds_found e v p)
  mount_found Stopped e v closed p = absurd closed
  mount_found Offline e v closed p = inr (refl, p)

  mounting : (more : ℕ) (e : Cube) (v : Verdict) → RestsAs d t k more e → Plainly (Some e) Mount v → Mounting e v
  mounting more e v r p = mount_found e.state e v r.state (subst (λ x. IfMountable e.state (MountFinds e x) v) r.content p)

  mount_keeps : (more : ℕ) (e : Cube) (v : Verdict) → Mounting e v → Keeps more Mount v
  mount_keeps more e v p = ⊎_elim (λ m. keeps_as more Mount v _ m (λ not. absurd (not refl))) (λ o. keeps_as more Mount v _ o.1 tt) p

  check_keeps : (more : ℕ) (s : StateWord) (e : Cube) (h : History) (v : Verdict) → RestsAs d t k more e → CheckFinds e (Sound h) s v
      → Keeps more Check v
  check_keeps more Mounted e h v r p = keeps_as more Check v _ p (λ not. rested more e r)
  check_keeps more Unmounted e h v r p = keeps_as more Check v _ p.2 (λ not. rested more e r)
  check_keeps more Stopped e h v r p = keeps_as more Check v _ p.2 (λ not. rested more e r)
  check_keeps more Offline e h v r p = keeps_as more Check v _ p.2 (λ not. rested more e r)

  to_state : (more : ℕ) (e : Cube) (s : StateWord) → IsClosed s → RestsAs d t k more e → RestsAs d t k (0 + more) (with_state s e)
  to_state more e s closed r =
      let is : e.groups ≡ d.groups + (0 + more) = omega (arith, r.groups) in
      record { path = r.path; groups = is; form = r.form; mode = r.mode; state = closed; content = r.content }

  offline_keeps : (more : ℕ) (s : StateWord) (e : Cube) → RestsAs d t k more e → Keeps more SetOffline (on_offline e s)
  offline_keeps more Mounted e r = tt
  offline_keeps more Unmounted e r = λ not. to_state more e Offline tt r
  offline_keeps more Stopped e r = λ not. to_state more e Offline tt r
  offline_keeps more Offline e r = tt

  online_keeps : (more : ℕ) (s : StateWord) (e : Cube) → RestsAs d t k more e → Keeps more SetOnline (on_online e s)
  online_keeps more Mounted e r = tt
  online_keeps more Unmounted e r = tt
  online_keeps more Stopped e r = tt
  online_keeps more Offline e r = λ not. to_state more e Unmounted tt r

  grow_keeps : (more n : ℕ) (e : Cube) → RestsAs d t k more e → RestsAs d t k (n + more) (grown n e)
  grow_keeps more n e r =
      let is : e.groups + n ≡ d.groups + (n + more) = omega (arith, r.groups) in
      record { path = r.path; groups = is; form = r.form; mode = r.mode; state = r.state; content = ap mended r.content }

  plain_keeps : (more : ℕ) (e : Cube) (o : Order) (v : Verdict) → RestsAs d t k more e → Plainly (Some e) o v → Keeps more o v
  plain_keeps more e (OnTree op) v r p = mounted_keeps more (OnTree op) e.state e.content (on_tree e op) v r.state p
  plain_keeps more e Sync v r p = mounted_keeps more Sync e.state e.content (on_sync e Mounted) v r.state p
  plain_keeps more e Unmount v r p = mounted_keeps more Unmount e.state e.content (on_sync e Unmounted) v r.state p
  plain_keeps more e Mount v r p = mount_keeps more e v (mounting more e v r p)
  plain_keeps more e Check v r p = check_keeps more e.state e (fresh t k) v r (subst (λ x. CheckFinds e x e.state v) r.content p)
  plain_keeps more e SetOffline v r p = keeps_as more SetOffline v _ p (offline_keeps more e.state e r)
  plain_keeps more e SetOnline v r p = keeps_as more SetOnline v _ p (online_keeps more e.state e r)
  plain_keeps more e Delete v r p = keeps_as more Delete v _ p (λ not. tt)
  plain_keeps more e (Grow n) v r p = keeps_as more (Grow n) v _ p (λ not. grow_keeps more n e r)
  plain_keeps more e (Create q n) v r p = absurd p

  -- a refusal adds no groups
  refused_none : (o : Order) (x : value.Refused) → added_by o (Err x) ≡ 0
  refused_none (Grow n) x = refl
  refused_none (OnTree op) x = refl
  refused_none Sync x = refl
  refused_none Unmount x = refl
  refused_none Mount x = refl
  refused_none Check x = refl
  refused_none SetOffline x = refl
  refused_none SetOnline x = refl
  refused_none Delete x = refl
  refused_none (Create p n) x = refl

  same_after : (more : ℕ) (e : Cube) (o : Order) (x : value.Refused) (r : Response) (c : Option Cube) → RestsAs d t k more e → r ≡ Err x → c ≡ Some e
      → Rests d t k (added_by o r + more) c
  same_after more e o x r c rests is same =
      subst (λ y. Rests d t k (added_by o y + more) c) (sym is)
      (subst (λ n. Rests d t k (n + more) c) (sym (refused_none o x))
      (subst (Rests d t k (0 + more)) (sym same) (rested more e rests)))

  says_keeps : (more : ℕ) (e : Cube) (o : Order) (v : Verdict) (r : Response) (c : Option Cube) → RestsAs d t k more e → Keeps more o v
      → ¬ IsMounting o r → Says v (Some e) r c → Rests d t k (added_by o r + more) c
  says_keeps more e o (No why) r c rests keeps not s = same_after more e o (Because why) r c rests s.0 s.1
  says_keeps more e o (Yes x f) r c rests keeps not s =
      subst (λ y. Rests d t k (added_by o y + more) c) (sym s.0)
      (subst (Rests d t k (added_by o (Ok x) + more)) (sym s.1) (keeps (λ m. not (subst (IsMounting o) (sym s.0) m))))

  -- a fault stops no cube that is not mounted
  fault_same : (s : StateWord) (e : Cube) (o : Order) → e.state ≡ s → IsClosed s → may_fault (Some e) o ≡ true → after_fault (Some e) o ≡ Some e
  fault_same Mounted e o is closed may = absurd closed
  fault_same Stopped e o is closed may = absurd closed
  fault_same Unmounted e (OnTree op) is closed may = absurd (cc (may, is))
  fault_same Unmounted e Sync is closed may = absurd (cc (may, is))
  fault_same Unmounted e Unmount is closed may = absurd (cc (may, is))
  fault_same Unmounted e Mount is closed may = refl
  fault_same Unmounted e Check is closed may = refl
  fault_same Unmounted e SetOffline is closed may = refl
  fault_same Unmounted e SetOnline is closed may = refl
  fault_same Unmounted e Delete is closed may = refl
  fault_same Unmounted e (Grow n) is closed may = refl
  fault_same Unmounted e (Create p n) is closed may = refl
  fault_same Offline e (OnTree op) is closed may = absurd (cc (may, is))
  fault_same Offline e Sync is closed may = absurd (cc (may, is))
  fault_same Offline e Unmount is closed may = absurd (cc (may, is))
  fault_same Offline e Mount is closed may = refl
  fault_same Offline e Check is closed may = refl
  fault_same Offline e SetOffline is closed may = refl
  fault_same Offline e SetOnline is closed may = refl
  fault_same Offline e Delete is closed may = refl
  fault_same Offline e (Grow n) is closed may = refl
  fault_same Offline e (Create p n) is closed may = refl

  own_keeps : (more : ℕ) (e : Cube) (o : Order) (r : Response) (c : Option Cube) → RestsAs d t k more e → ¬ IsMounting o r → Own (Some e) o r c
      → Rests d t k (added_by o r + more) c
  own_keeps more e o r c rests not own =
      ⊎_elim (λ p. says_keeps more e o p.0 r c rests (plain_keeps more e o p.0 rests p.1) not p.2)
      (λ q. ⊎_elim (λ f. same_after more e o value.Fault r c rests f.1 (f.2 ∙ fault_same e.state e o refl rests.state f.0))
      (λ m. same_after more e o value.Memory r c rests m.1 m.2) q) own

  -- ---- lines

  -- a line that the cube outlives leaves it as it was found, with the groups that it adds
  pub record RestsOn (x more : ℕ) (a : Aim) (r : Response) (v : World) (ts : List Told) : Type 0 where
    pub cube : Cube
    pub there : v.cube x ≡ Some cube
    pub plus : ℕ
    pub rests : RestsAs d t k (plus + more) cube
    pub none : NoneMounted ts
    pub sum : added (told_at x a r ts) ≡ plus + added ts

  some_rests : (more : ℕ) (c : Option Cube) → c ≢ None → Rests d t k more c → (e : Cube) × (c ≡ Some e) × RestsAs d t k more e
  some_rests more None live r = absurd (live refl)
  some_rests more (Some e) live r = (e, refl, r)

  goes_rests : (x more : ℕ) (a : Aim) (r : Response) (w v : World) (e : Cube) (ts : List Told) → w.cube x ≡ Some e → RestsAs d t k more e
      → v.cube x ≢ None → Goes w a r v → NoneMounted (told_at x a r ts) → RestsOn x more a r v ts
  goes_rests x more (Refuse why) r w v e ts there rests live g none =
      record { cube = e; there = ap (λ (y : World). y.cube x) g.1 ∙ there; plus = 0; rests = rested more e rests; none = none; sum = omega arith }
  goes_rests x more Listing r w v e ts there rests live g none =
      record { cube = e; there = ap (λ (y : World). y.cube x) g.1 ∙ there; plus = 0; rests = rested more e rests; none = none; sum = omega arith }
  goes_rests x more (At y o) r w v e ts there rests live g none = elim (cases_eq y x) as (λ _. RestsOn x more (At y o) r v ts) [
    | inl same ↦
        let hit : nat_eq y x ≡ true = grind arith in
        let back : nat_eq x y ≡ true = grind arith in
        let own : Own (Some e) o r g.0 = subst (λ c. Own c o r g.0) there (subst (λ z. Own (w.cube z) o r g.0) same g.1) in
        let is : v.cube x ≡ g.0 = ap (λ (z : World). z.cube x) g.2 ∙ ap (λ b. if b then g.0 else w.cube x) back in
        let said : NoneMounted (if true then record { order = o; reply = r } ∷ ts else ts) =
        subst (λ b. NoneMounted (if b then record { order = o; reply = r } ∷ ts else ts)) hit none in
        let next =
        some_rests (added_by o r + more) (v.cube x) live (subst (Rests d t k (added_by o r + more)) (sym is) (own_keeps more e o r g.0 rests said.0 own)) in
        record { cube = next.0; there = next.1; plus = added_by o r; rests = next.2; none = said.1; sum = ap (λ b. added (if b then record { order = o; reply = r } ∷ ts else ts)) hit }
    | inr other ↦
        let miss : nat_eq y x ≡ false = grind arith in
        let back : nat_eq x y ≡ false = grind arith in
        let is : v.cube x ≡ w.cube x = ap (λ (z : World). z.cube x) g.2 ∙ ap (λ b. if b then g.0 else w.cube x) back in
        let sum = ap (λ b. added (if b then record { order = o; reply = r } ∷ ts else ts)) miss in
        record { cube = e; there = is ∙ there; plus = 0; rests = rested more e rests; none = subst (λ b. NoneMounted (if b then record { order = o; reply = r } ∷ ts else ts)) miss none; sum = omega (arith, sum) }
  ]

  -- as it was found, at the end of a run
  pub record RestsAt (x more : ℕ) (v : World) : Type 0 where
    pub cube : Cube
    pub there : v.cube x ≡ Some cube
    pub rests : RestsAs d t k more cube

  live_told : (c : Option Cube) (ts : List Told) → c ≢ None → while_live c ts ≡ ts
  live_told None ts live = absurd (live refl)
  live_told (Some c) ts live = refl

  lives_now : (x : ℕ) (w : World) (steps : List Answered) → LivesOn x w steps → w.cube x ≢ None
  lives_now x w [] lives = lives
  lives_now x w (a ∷ rest) lives = lives.0

  rests_more : (m n : ℕ) (e : Cube) → m ≡ n → RestsAs d t k m e → RestsAs d t k n e
  rests_more m n e is r = subst (λ j. RestsAs d t k j e) is r

  run_rests : (x more : ℕ) (w : World) (steps : List Answered) (e : Cube) → w.cube x ≡ Some e → RestsAs d t k more e → Runs w steps
      → LivesOn x w steps → NoneMounted (told x w steps) → RestsAt x (added (told x w steps) + more) (end w steps)
  run_rests x more w [] e there rests runs lives none = record { cube = e; there = there; rests = rested more e rests }
  run_rests x more w (a ∷ rest) e there rests runs lives none =
      let ts = told x a.then rest in
      let live = lives_now x a.then rest lives.1 in
      let here = live_told (a.then.cube x) ts live in
      let step =
      goes_rests x more (aim w a.line) a.reply w a.then e ts there rests live runs.0
      (subst (λ (us : List Told). NoneMounted (told_at x (aim w a.line) a.reply us)) here none) in
      let end = run_rests x (step.plus + more) a.then rest step.cube step.there step.rests runs.1 lives.1 step.none in
      let sum : added (told x w (a ∷ rest)) ≡ step.plus + added ts =
      ap (λ (us : List Told). added (told_at x (aim w a.line) a.reply us)) here ∙ step.sum in
      record { cube = end.cube; there = end.there; rests = rests_more (added ts + (step.plus + more)) (added (told x w (a ∷ rest)) + more) end.cube (omega (arith, sum)) end.rests }

  runs_first : (w : World) (before rest : List Answered) → Runs w (before ++ rest) → Runs w before
  runs_first w [] rest runs = tt
  runs_first w (a ∷ before) rest runs = (runs.0, runs_first a.then before rest runs.1)

  runs_last : (w : World) (before rest : List Answered) → Runs w (before ++ rest) → Runs (end w before) rest
  runs_last w [] rest runs = runs
  runs_last w (a ∷ before) rest runs = runs_last a.then before rest runs.1

  mounts_as : (x more : ℕ) (e : Cube) (a : Answered) (rest : List Answered) → RestsAs d t k more e → a.reply ≡ Ok (Number (floor (fresh t k) + 0))
      → a.then.cube x ≡ Some (with_state Mounted (with_history (cut_to (fresh t k) 0) e)) → Runs a.then rest → MountsAs x k t d more a rest
  mounts_as x more e a rest rests says there runs =
      let m = with_state Mounted (with_history (cut_to (fresh t k) 0) e) in
      let count : k + 0 + 0 ≡ k = omega arith in
      record {
        reply = says ∙ ap (λ n. Ok (Number n)) count;
        cube = m;
        there = there;
        mounted = record { path = rests.path; groups = rests.groups; form = rests.form; mode = rests.mode; state = refl; content = refl };
        alone =
            λ clean. run_said x a.then rest (subst IsSteady (sym there) (fresh t k, refl, tt)) runs clean
            ∙ ap (λ c. said c (orders_of (told x a.then rest))) there;
      }

  mount_says : (x more : ℕ) (v : World) (e : Cube) (a : Answered) (rest : List Answered) → v.cube x ≡ Some e → RestsAs d t k more e
      → Goes v (At x Mount) a.reply a.then → IsClean a.reply → Runs a.then rest
      → (IsOff (v.cube x) × (a.reply ≡ Err (Because why.Offline))) ⊎ MountsAs x k t d more a rest
  mount_says x more v e a rest there rests g clean runs =
      let p = plainly (Some e) Mount a.reply g.0 clean (subst (λ c. Own c Mount a.reply g.0) there g.1) in
      let back : nat_eq x x ≡ true = grind arith in
      let is : a.then.cube x ≡ g.0 = ap (λ (z : World). z.cube x) g.2 ∙ ap (λ b. if b then g.0 else v.cube x) back in
      ⊎_elim (λ m. let says = subst (λ w. Says w (Some e) a.reply g.0) m p.2 in inr (mounts_as x more e a rest rests says.0 (is ∙ says.1) runs))
      (λ o. let says = subst (λ w. Says w (Some e) a.reply g.0) o.1 p.2 in inl (subst IsOff (sym there) o.0, says.0))
      (mounting more e p.0 rests p.1)

  -- so it serves
  pub serves : (x : ℕ) (u : World) (steps : List Answered) → u.cube x ≡ Some d → RestsAs d t k 0 d → Runs u steps → Serves x k t d u steps
  serves x u steps there rests runs = record {
    mounts = λ before rest a is lives none aims clean.
        let all : Runs u (before ++ a ∷ rest) = subst (Runs u) is runs in
        let at = run_rests x 0 u before d there rests (runs_first u before (a ∷ rest) all) lives none in
        let last = runs_last u before (a ∷ rest) all in
        let sum : added (told x u before) + 0 ≡ added (told x u before) = omega arith in
        mount_says x (added (told x u before)) (end u before) at.cube a rest at.there (rests_more _ _ at.cube sum at.rests)
        (subst (λ b. Goes (end u before) b a.reply a.then) aims last.0) clean last.1;
  }
