-- The history of a sound cube goes on while it lives: what was sure stays and comes first, and the floor reaches each count that a reply names.
use Rattle.std.proofs.Common.{◌≡◌, ◌≢◌, ◌∙◌, ◌≤◌, ⊎_elim, ℕ, ◌+◌, suc, Bool, true, false, nat_eq, List, [], ◌∷◌, ◌++◌, length, take, length-append, append_assoc, Option, None, Some, inl, inr, refl, sym, ap, subst, arith}
use Rattle.std.specs.Prelude.{⊤, if◌then◌else◌}
use Rattle.std.proofs.lemmas.Bool.{cases_eq}
use Rattle.std.proofs.lemmas.List.{length-take-le}
use Rattle.tree_spec.specs.Why.{Why}
use Rattle.tree_spec.specs.Trees.{Tree, File, Dir, walk}
use Rattle.tree_spec.specs.Replies.{Response}
use Rattle.tree_spec.specs.Lines.{Line}
use Rattle.tree_spec.specs.Operations.{Operation, Mkdir, Make, Write, Read, Trunc, Remove, Rename, ListDir, Stat, is_change}
use Rattle.tree_spec.specs.Answers.{refusal, accepted_value, list_value, stat_value, tree_found, next_tree, tree_after}
use Rattle.tree_spec.specs.Records.{Cube, Sound, History, floor, done, tree_at, tree_now, accepts, settled, cut_to, with_state, with_history, mended}
use Rattle.tree_spec.specs.Own.{Order, OnTree, Sync, Unmount, Mount, Check, SetOffline, SetOnline, Delete, Grow, Create, Verdict, No, Yes, Says, Plainly, Own, IfMounted, IfMountable, OfSound, MountFinds, CheckFinds, tree_verdict, on_tree, on_sync, on_mount, on_offline, on_online, stops, after_fault}
use Rattle.tree_spec.specs.Alone.{count_of, count_in}
use Rattle.tree_spec.specs.World.{World, Aim, Refuse, Listing, At, aim, Goes, Step}
use Rattle.tree_spec.specs.declared.reply.StateWord.{StateWord}
use Rattle.tree_spec.specs.declared.reply.StateWord.TheVariants.{Mounted, Unmounted, Stopped, Offline}
use Rattle.ice_run.specs.Runs.{Answered, Runs, end}
use Rattle.ice_headline.specs.Acknowledged.{LivesOn, Extends}

-- ---- histories

-- operations one list after another
pub tree_after-append : (xs ys : List Operation) (t : Tree) → tree_after (xs ++ ys) t ≡ tree_after ys (tree_after xs t)
tree_after-append [] ys t = refl
tree_after-append (op ∷ xs) ys t = tree_after-append xs ys (next_tree op t)

-- the first of two lists, and some of the second
pub take_more : (xs ys : List Operation) (j : ℕ) → take (length xs + j) (xs ++ ys) ≡ xs ++ take j ys
take_more [] ys j = let is : 0 + j ≡ j = omega arith in ap (λ n. take n ys) is
take_more (x ∷ xs) ys j =
    let is : length (x ∷ xs) + j ≡ suc (length xs + j) = omega arith in
    ap (λ n. take n (x ∷ (xs ++ ys))) is ∙ ap (λ (zs : List Operation). x ∷ zs) (take_more xs ys j)

-- the tree of a count from the floor on is that after so many of the first accepted commands
pub tree_first : (h : History) (j : ℕ) → tree_at h j ≡ tree_after (take (length h.sure + j) (h.sure ++ h.since)) h.base
tree_first h j =
    sym (ap (λ (ops : List Operation). tree_after ops h.base) (take_more h.sure h.since j) ∙ tree_after-append h.sure (take j h.since) h.base)

-- settling makes all that was accepted sure
pub floor_settled : (h : History) → floor (settled h) ≡ done h
floor_settled h = let long = length-append h.sure h.since in omega (arith, long)

nothing_more : (xs : List Operation) → xs ≡ xs ++ []
nothing_more [] = refl
nothing_more (x ∷ xs) = ap (λ (ys : List Operation). x ∷ ys) (nothing_more xs)

-- a history goes on from itself
pub extends_same : (h : History) → Extends h h
extends_same h = record { base = refl; from = refl; more = []; sure = nothing_more h.sure }

extends_then : (f g h : History) → Extends f g → Extends g h → Extends f h
extends_then f g h a b = record {
  base = b.base ∙ a.base;
  from = b.from ∙ a.from;
  more = a.more ++ b.more;
  sure = b.sure ∙ ap (λ (xs : List Operation). xs ++ b.more) a.sure ∙ append_assoc f.sure a.more b.more;
}

-- a floor never falls
pub floor_grows : (g h : History) → Extends g h → floor g ≤ floor h
floor_grows g h on =
    let long : length h.sure ≡ length g.sure + length on.more = ap (λ (xs : List Operation). length xs) on.sure ∙ length-append g.sure on.more in
    let same : h.from ≡ g.from = on.from in
    omega (arith, long, same)

-- the record, if there is one, is sound, its history goes on from this one, and its floor has reached n
abbrev pub OnFrom : History → ℕ → Option Cube → Type 0
OnFrom h n None = ⊤
OnFrom h n (Some d) = (g : History) × (d.content ≡ Sound g) × Extends h g × (n ≤ floor g)

on_after : (f g : History) (n : ℕ) (d : Option Cube) → Extends f g → OnFrom g n d → OnFrom f 0 d
on_after f g n None a b = tt
on_after f g n (Some d) a b = (b.0, b.1, extends_then f g b.0 a b.2, omega arith)

-- ---- one order

-- no operation on a tree names a count
list_none : (t : Tree) → count_of (list_value t) ≡ 0
list_none (File bytes) = refl
list_none (Dir es) = refl

stat_none : (t : Tree) → count_of (stat_value t) ≡ 0
stat_none (File bytes) = refl
stat_none (Dir es) = refl

value_none : (op : Operation) (t : Tree) → count_of (accepted_value op t) ≡ 0
value_none (Mkdir p) t = refl
value_none (Make p) t = refl
value_none (Write p off bytes) t = refl
value_none (Read p off len) t = refl
value_none (Trunc p len) t = refl
value_none (Remove p) t = refl
value_none (Rename p q) t = refl
value_none (ListDir p) t = list_none (tree_found (walk p t))
value_none (Stat p) t = stat_none (tree_found (walk p t))

-- an acceptance leads to a record with the count that it names
abbrev Leads : History → Verdict → Type 0
Leads h (No why) = ⊤
Leads h (Yes x e) = OnFrom h (count_of x) e

leads_as : (h : History) (v w : Verdict) → v ≡ w → Leads h w → Leads h v
leads_as h v w is leads = subst (Leads h) (sym is) leads

module _ (c : Cube) (h : History) (is : c.content ≡ Sound h) where
  same : OnFrom h 0 (Some c)
  same = (h, is, extends_same h, omega arith)

  tree_leads : (op : Operation) (w : Option Why) → Leads h (tree_verdict c h op w)
  tree_leads op (Some why) = tt
  tree_leads op None =
      subst (λ n. OnFrom h n (Some (if is_change op then with_history (accepts h op) c else c))) (sym (value_none op (tree_now h))) (by (is_change op))
    where
      by : (b : Bool) → OnFrom h 0 (Some (if b then with_history (accepts h op) c else c))
      by true = (accepts h op, refl, record { base = refl; from = refl; more = []; sure = nothing_more h.sure }, omega arith)
      by false = same

  mounted_leads : (s : StateWord) (f : History → Verdict) (v : Verdict) → Leads h (f h) → IfMounted s (OfSound c.content f) v → Leads h v
  mounted_leads Mounted f v leads p = leads_as h v (f h) (subst (λ x. OfSound x f v) is p) leads
  mounted_leads Unmounted f v leads p = leads_as h v _ p tt
  mounted_leads Stopped f v leads p = leads_as h v _ p tt
  mounted_leads Offline f v leads p = leads_as h v _ p tt

  sync_leads : (to : StateWord) → Leads h (on_sync c to h)
  sync_leads to =
      let long = length-append h.sure h.since in (settled h, refl, record { base = refl; from = refl; more = h.since; sure = refl }, omega (arith, long))

  mount_leads : (j : ℕ) → j ≤ length h.since → Leads h (on_mount c h j)
  mount_leads j few =
      let long = length-append h.sure (take j h.since) in
      let taken : length (take j h.since) ≡ j = length-take-le j h.since few in
      (cut_to h j, refl, record { base = refl; from = refl; more = take j h.since; sure = refl }, omega (arith, long, taken))

  finds_leads : (v : Verdict) → MountFinds c c.content v → Leads h v
  finds_leads v p = let q : MountFinds c (Sound h) v = subst (λ x. MountFinds c x v) is p in leads_as h v _ q.2 (mount_leads q.0 q.1)

  mountable_leads : (s : StateWord) (v : Verdict) → IfMountable s (MountFinds c c.content) v → Leads h v
  mountable_leads Mounted v p = leads_as h v _ p tt
  mountable_leads Unmounted v p = finds_leads v p
  mountable_leads Stopped v p = finds_leads v p
  mountable_leads Offline v p = leads_as h v _ p tt

  check_leads : (s : StateWord) (v : Verdict) → CheckFinds c (Sound h) s v → Leads h v
  check_leads Mounted v p = leads_as h v _ p same
  check_leads Unmounted v p = leads_as h v _ p.2 same
  check_leads Stopped v p = leads_as h v _ p.2 same
  check_leads Offline v p = leads_as h v _ p.2 same

  offline_leads : (s : StateWord) → Leads h (on_offline c s)
  offline_leads Mounted = tt
  offline_leads Unmounted = same
  offline_leads Stopped = same
  offline_leads Offline = tt

  online_leads : (s : StateWord) → Leads h (on_online c s)
  online_leads Mounted = tt
  online_leads Unmounted = tt
  online_leads Stopped = tt
  online_leads Offline = same

  plain_leads : (o : Order) (v : Verdict) → Plainly (Some c) o v → Leads h v
  plain_leads (OnTree op) v p = mounted_leads c.state (on_tree c op) v (tree_leads op (refusal (tree_now h) (done h) c.groups c.form op)) p
  plain_leads Sync v p = mounted_leads c.state (on_sync c Mounted) v (sync_leads Mounted) p
  plain_leads Unmount v p = mounted_leads c.state (on_sync c Unmounted) v (sync_leads Unmounted) p
  plain_leads Mount v p = mountable_leads c.state v p
  plain_leads Check v p = check_leads c.state v (subst (λ x. CheckFinds c x c.state v) is p)
  plain_leads SetOffline v p = leads_as h v _ p (offline_leads c.state)
  plain_leads SetOnline v p = leads_as h v _ p (online_leads c.state)
  plain_leads Delete v p = leads_as h v _ p tt
  plain_leads (Grow n) v p = leads_as h v _ p (h, ap mended is, extends_same h, omega arith)
  plain_leads (Create q n) v p = absurd p

  says_leads : (v : Verdict) (r : Response) (d : Option Cube) → Leads h v → Says v (Some c) r d → OnFrom h (count_in r) d
  says_leads (No why) r d leads s = subst (λ x. OnFrom h (count_in x) d) (sym s.0) (subst (OnFrom h 0) (sym s.1) same)
  says_leads (Yes x e) r d leads s = subst (λ y. OnFrom h (count_in y) d) (sym s.0) (subst (OnFrom h (count_of x)) (sym s.1) leads)

  fault_leads : (o : Order) → OnFrom h 0 (after_fault (Some c) o)
  fault_leads o = by (stops o)
    where
      by : (b : Bool) → OnFrom h 0 (Some (if b then with_state Stopped c else c))
      by true = same
      by false = same

  -- an answer of a sound cube
  pub own_goes_on : (o : Order) (r : Response) (d : Option Cube) → Own (Some c) o r d → OnFrom h (count_in r) d
  own_goes_on o r d own = ⊎_elim (λ p. says_leads p.0 r d (plain_leads o p.0 p.1) p.2)
      (λ q. ⊎_elim
      (λ f. subst (λ x. OnFrom h (count_in x) d) (sym f.1) (subst (OnFrom h 0) (sym f.2) (fault_leads o)))
      (λ m. subst (λ x. OnFrom h (count_in x) d) (sym m.1) (subst (OnFrom h 0) (sym m.2) same))
      q) own

-- ---- runs

goes_on_from : (x : ℕ) (f : History) (w v : World) (a : Aim) (r : Response) → w.cube x ≢ None → OnFrom f 0 (w.cube x) → Goes w a r v
    → OnFrom f 0 (v.cube x)
goes_on_from x f w v (Refuse why) r live on g = subst (λ (y : World). OnFrom f 0 (y.cube x)) (sym g.1) on
goes_on_from x f w v Listing r live on g = subst (λ (y : World). OnFrom f 0 (y.cube x)) (sym g.1) on
goes_on_from x f w v (At y o) r live on g = elim (cases_eq y x) as (λ _. OnFrom f 0 (v.cube x)) [
  | inl same ↦
      let back : nat_eq x y ≡ true = grind arith in
      let own : Own (w.cube x) o r g.0 = subst (λ z. Own (w.cube z) o r g.0) same g.1 in
      let there : v.cube x ≡ g.0 = ap (λ (z : World). z.cube x) g.2 ∙ ap (λ b. if b then g.0 else w.cube x) back in
      subst (OnFrom f 0) (sym there) (by (w.cube x) o r g.0 live on own)
  | inr other ↦
      let back : nat_eq x y ≡ false = grind arith in
      let there : v.cube x ≡ w.cube x = ap (λ (z : World). z.cube x) g.2 ∙ ap (λ b. if b then g.0 else w.cube x) back in
      subst (OnFrom f 0) (sym there) on
]
  where
    by : (c : Option Cube) (o : Order) (r : Response) (d : Option Cube) → c ≢ None → OnFrom f 0 c → Own c o r d → OnFrom f 0 d
    by None o r d live on own = absurd (live refl)
    by (Some c) o r d live on own = on_after f on.0 (count_in r) d on.2 (own_goes_on c on.0 on.1 o r d own)

-- over a run that the cube outlives
pub run_goes_on : (x : ℕ) (f : History) (w : World) (steps : List Answered) → LivesOn x w steps → OnFrom f 0 (w.cube x) → Runs w steps
    → OnFrom f 0 ((end w steps).cube x)
run_goes_on x f w [] lives on runs = on
run_goes_on x f w (a ∷ rest) lives on runs =
    run_goes_on x f a.then rest lives.1 (goes_on_from x f w a.then (aim w a.line) a.reply lives.0 on runs.0) runs.1

-- over a line
pub step_goes_on : (x : ℕ) (f : History) (w v : World) (line : Line) (r : Response) → w.cube x ≢ None → OnFrom f 0 (w.cube x) → Step w line r v
    → OnFrom f 0 (v.cube x)
step_goes_on x f w v line r live on step = goes_on_from x f w v (aim w line) r live on step
