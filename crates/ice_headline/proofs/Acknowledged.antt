-- What the cube of a slot has acknowledged its floor has reached, also where the cube was made in the run.
use Rattle.std.proofs.Common.{◌≡◌, ◌∙◌, ◌≤◌, ⊎_elim, ℕ, Bool, true, false, nat_eq, max, List, [], ◌∷◌, Option, None, Some, Ok, Err, inl, inr, refl, sym, ap, subst, arith}
use Rattle.std.specs.Prelude.{⊤, if◌then◌else◌}
use Rattle.std.proofs.lemmas.Bool.{cases_eq}
use Rattle.tree_spec.specs.Replies.{Response}
use Rattle.tree_spec.specs.Replies as value
use Rattle.tree_spec.specs.Lines.{Line}
use Rattle.tree_spec.specs.Records.{Cube, Content, Sound, Broken, Unread, History, floor, mended, with_state}
use Rattle.tree_spec.specs.Own.{Order, OnTree, Sync, Unmount, Mount, Check, SetOffline, SetOnline, Delete, Grow, Create, Own, Verdict, No, Yes, Says, Plainly, IfMounted, IfMountable, OfSound, MountFinds, CheckFinds, on_offline, on_online, on_tree, on_sync, stops, after_fault}
use Rattle.tree_spec.specs.Alone.{count_of, count_in}
use Rattle.tree_spec.specs.World.{World, Aim, Refuse, Listing, At, aim, Goes, Step}
use Rattle.tree_spec.specs.declared.reply.StateWord.{StateWord}
use Rattle.tree_spec.specs.declared.reply.StateWord.TheVariants.{Mounted, Unmounted, Stopped, Offline}
use Rattle.ice_run.specs.Runs.{Answered, Runs, end}
use Rattle.ice_headline.specs.Acknowledged.{acknowledged_at, if_live, acknowledged_from}
use Rattle.ice_headline.proofs.Histories.{OnFrom, own_goes_on, floor_grows}

-- a sound cube's floor has reached n, and another one has acknowledged nothing
abbrev pub CoversIn : ℕ → Content → Type 0
CoversIn n (Sound h) = n ≤ floor h
CoversIn n (Broken rules) = n ≡ 0
CoversIn n Unread = n ≡ 0

-- the same of a slot; a free one has acknowledged nothing
abbrev pub Covers : ℕ → Option Cube → Type 0
Covers n None = n ≡ 0
Covers n (Some c) = CoversIn n c.content

abbrev IsSound : Content → Type 0
IsSound (Sound h) = ⊤
IsSound (Broken rules) = ⊥
IsSound Unread = ⊥

-- ---- a cube that is not sound

-- the record after an acceptance has the count that it names
abbrev Gives : Verdict → Type 0
Gives (No why) = ⊤
Gives (Yes x e) = Covers (if_live e (count_of x)) e

gives_as : (v w : Verdict) → v ≡ w → Gives w → Gives v
gives_as v w is gives = subst Gives (sym is) gives

zero_in : (x : Content) → CoversIn 0 x
zero_in (Sound h) = omega arith
zero_in (Broken rules) = refl
zero_in Unread = refl

mounted_gives : (s : StateWord) (x : Content) (f : History → Verdict) (v : Verdict) → ¬ IsSound x → IfMounted s (OfSound x f) v → Gives v
mounted_gives Mounted (Sound h) f v not p = absurd (not tt)
mounted_gives Mounted (Broken rules) f v not p = absurd p
mounted_gives Mounted Unread f v not p = absurd p
mounted_gives Unmounted x f v not p = gives_as v _ p tt
mounted_gives Stopped x f v not p = gives_as v _ p tt
mounted_gives Offline x f v not p = gives_as v _ p tt

finds_gives : (c : Cube) (x : Content) (v : Verdict) → ¬ IsSound x → MountFinds c x v → Gives v
finds_gives c (Sound h) v not p = absurd (not tt)
finds_gives c (Broken rules) v not p = gives_as v _ p.2 tt
finds_gives c Unread v not p = ⊎_elim (λ n. gives_as v _ n.1 tt) (λ f. gives_as v _ f.2 (omega arith)) p

mountable_gives : (s : StateWord) (c : Cube) (x : Content) (v : Verdict) → ¬ IsSound x → IfMountable s (MountFinds c x) v → Gives v
mountable_gives Mounted c x v not p = gives_as v _ p tt
mountable_gives Unmounted c x v not p = finds_gives c x v not p
mountable_gives Stopped c x v not p = finds_gives c x v not p
mountable_gives Offline c x v not p = gives_as v _ p tt

check_gives : (s : StateWord) (c : Cube) (x : Content) (v : Verdict) → ¬ IsSound x → CheckFinds c x s v → Gives v
check_gives s c (Sound h) v not p = absurd (not tt)
check_gives s c (Broken rules) v not p = gives_as v _ p.2 tt
check_gives s c Unread v not p = ⊎_elim (λ n. gives_as v _ n.1 tt) (λ f. gives_as v _ f.2 (zero_in c.content)) p

offline_gives : (s : StateWord) (c : Cube) → Gives (on_offline c s)
offline_gives Mounted c = tt
offline_gives Unmounted c = zero_in c.content
offline_gives Stopped c = zero_in c.content
offline_gives Offline c = tt

online_gives : (s : StateWord) (c : Cube) → Gives (on_online c s)
online_gives Mounted c = tt
online_gives Unmounted c = tt
online_gives Stopped c = tt
online_gives Offline c = zero_in c.content

plain_gives : (c : Cube) (o : Order) (v : Verdict) → ¬ IsSound c.content → Plainly (Some c) o v → Gives v
plain_gives c (OnTree op) v not p = mounted_gives c.state c.content (on_tree c op) v not p
plain_gives c Sync v not p = mounted_gives c.state c.content (on_sync c Mounted) v not p
plain_gives c Unmount v not p = mounted_gives c.state c.content (on_sync c Unmounted) v not p
plain_gives c Mount v not p = mountable_gives c.state c c.content v not p
plain_gives c Check v not p = check_gives c.state c c.content v not p
plain_gives c SetOffline v not p = gives_as v _ p (offline_gives c.state c)
plain_gives c SetOnline v not p = gives_as v _ p (online_gives c.state c)
plain_gives c Delete v not p = gives_as v _ p refl
plain_gives c (Grow n) v not p = gives_as v _ p (zero_in (mended c.content))
plain_gives c (Create q n) v not p = absurd p

new_gives : (o : Order) (v : Verdict) → Plainly None o v → Gives v
new_gives (Create p n) v is = gives_as v _ is (omega arith)
new_gives _ v is = absurd is

-- ---- one answer

-- the record covers what was acknowledged before and in the reply
abbrev CoversAfter : ℕ → Response → Option Cube → Type 0
CoversAfter n r d = Covers (if_live d (max n (count_in r))) d

says_gives : (c : Option Cube) (v : Verdict) (r : Response) (d : Option Cube) → CoversAfter 0 (Err value.Fault) c → Gives v → Says v c r d
    → CoversAfter 0 r d
says_gives c (No why) r d same gives s = subst (λ x. CoversAfter 0 x d) (sym s.0) (subst (CoversAfter 0 (Err value.Fault)) (sym s.1) same)
says_gives c (Yes x e) r d same gives s =
    let is : count_of x ≡ max 0 (count_of x) = omega arith in
    subst (λ y. CoversAfter 0 y d) (sym s.0) (subst (CoversAfter 0 (Ok x)) (sym s.1) (subst (λ m. Covers (if_live e m) e) is gives))

stays_in : (n : ℕ) (x : Content) → CoversIn n x → CoversIn (max n 0) x
stays_in n x p = let is : n ≡ max n 0 = omega arith in subst (λ m. CoversIn m x) is p

none_in : (n : ℕ) (x : Content) → ¬ IsSound x → CoversIn n x → n ≡ 0
none_in n (Sound h) not p = absurd (not tt)
none_in n (Broken rules) not p = p
none_in n Unread not p = p

fault_covers : (n : ℕ) (c : Cube) (o : Order) → CoversIn n c.content → CoversAfter n (Err value.Fault) (after_fault (Some c) o)
fault_covers n c o p = by (stops o)
  where
    by : (b : Bool) → CoversAfter n (Err value.Fault) (Some (if b then with_state Stopped c else c))
    by true = stays_in n c.content p
    by false = stays_in n c.content p

on_covers : (n m : ℕ) (h : History) (d : Option Cube) → n ≤ floor h → OnFrom h m d → Covers (if_live d (max n m)) d
on_covers n m h None le on = refl
on_covers n m h (Some d) le on =
    let more = floor_grows h on.0 on.2 in
    let reached : m ≤ floor on.0 = on.3 in
    let both : max n m ≤ floor on.0 = omega (arith, le, more, reached) in
    subst (CoversIn (max n m)) (sym on.1) both

sound_covers : (n : ℕ) (c : Cube) (h : History) (o : Order) (r : Response) (d : Option Cube) → c.content ≡ Sound h → n ≤ floor h → Own (Some c) o r d
    → CoversAfter n r d
sound_covers n c h o r d is le own = on_covers n (count_in r) h d le (own_goes_on c h is o r d own)

other_covers : (n : ℕ) (c : Cube) (o : Order) (r : Response) (d : Option Cube) → ¬ IsSound c.content → CoversIn n c.content → Own (Some c) o r d
    → CoversAfter n r d
other_covers n c o r d not p own =
    let none : 0 ≡ n = sym (none_in n c.content not p) in
    subst (λ m. CoversAfter m r d) none
    (⊎_elim (λ v. says_gives (Some c) v.0 r d (zero_in c.content) (plain_gives c o v.0 not v.1) v.2)
    (λ q. ⊎_elim (λ f. subst (λ x. CoversAfter 0 x d) (sym f.1) (subst (CoversAfter 0 (Err value.Fault)) (sym f.2) (fault_covers 0 c o (zero_in c.content))))
    (λ m. subst (λ x. CoversAfter 0 x d) (sym m.1) (subst (CoversAfter 0 (Err value.Memory)) (sym m.2) (zero_in c.content))) q) own)

own_covers : (n : ℕ) (c : Option Cube) (o : Order) (r : Response) (d : Option Cube) → Covers n c → Own c o r d → CoversAfter n r d
own_covers n None o r d p own =
    subst (λ m. CoversAfter m r d) (sym p)
    (⊎_elim (λ v. says_gives None v.0 r d refl (new_gives o v.0 v.1) v.2)
    (λ q. ⊎_elim (λ f. subst (CoversAfter 0 r) (sym f.2) refl) (λ m. subst (CoversAfter 0 r) (sym m.2) refl) q) own)
own_covers n (Some c) o r d p own = by c.content refl
  where
    by : (x : Content) → c.content ≡ x → CoversAfter n r d
    by (Sound h) is = sound_covers n c h o r d is (subst (CoversIn n) is p) own
    by (Broken rules) is = other_covers n c o r d (λ s. subst IsSound is s) p own
    by Unread is = other_covers n c o r d (λ s. subst IsSound is s) p own

-- ---- lines

keeps_covers : (n : ℕ) (d : Option Cube) → Covers n d → Covers (if_live d n) d
keeps_covers n None p = refl
keeps_covers n (Some d) p = p

goes_covers : (n s : ℕ) (a : Aim) (w v : World) (r : Response) → Covers n (w.cube s) → Goes w a r v
    → Covers (if_live (v.cube s) (acknowledged_at s a r n)) (v.cube s)
goes_covers n s (Refuse why) w v r p g = keeps_covers n (v.cube s) (subst (λ (x : World). Covers n (x.cube s)) (sym g.1) p)
goes_covers n s Listing w v r p g = keeps_covers n (v.cube s) (subst (λ (x : World). Covers n (x.cube s)) (sym g.1) p)
goes_covers n s (At x o) w v r p g = elim (cases_eq x s) as (λ _. Covers (if_live (v.cube s) (acknowledged_at s (At x o) r n)) (v.cube s)) [
  | inl same ↦
      let hit : nat_eq x s ≡ true = grind arith in
      let back : nat_eq s x ≡ true = grind arith in
      let own : Own (w.cube s) o r g.0 = subst (λ y. Own (w.cube y) o r g.0) same g.1 in
      let there : v.cube s ≡ g.0 = ap (λ (y : World). y.cube s) g.2 ∙ ap (λ b. if b then g.0 else w.cube s) back in
      subst (λ b. Covers (if_live (v.cube s) (if b then max n (count_in r) else n)) (v.cube s)) (sym hit)
      (subst (λ d. Covers (if_live d (max n (count_in r))) d) (sym there) (own_covers n (w.cube s) o r g.0 p own))
  | inr other ↦
      let miss : nat_eq x s ≡ false = grind arith in
      let back : nat_eq s x ≡ false = grind arith in
      let there : v.cube s ≡ w.cube s = ap (λ (y : World). y.cube s) g.2 ∙ ap (λ b. if b then g.0 else w.cube s) back in
      subst (λ b. Covers (if_live (v.cube s) (if b then max n (count_in r) else n)) (v.cube s)) (sym miss)
      (keeps_covers n (v.cube s) (subst (Covers n) (sym there) p))
]

-- at the end of a run the slot's cube covers what it has acknowledged
pub run_covers : (n s : ℕ) (w : World) (steps : List Answered) → Covers n (w.cube s) → Runs w steps
    → Covers (acknowledged_from n s w steps) ((end w steps).cube s)
run_covers n s w [] p runs = p
run_covers n s w (a ∷ rest) p runs =
    run_covers (if_live (a.then.cube s) (acknowledged_at s (aim w a.line) a.reply n)) s a.then rest
    (goes_covers n s (aim w a.line) w a.then a.reply p runs.0) runs.1

-- nothing is always covered
pub zero_covers : (c : Option Cube) → Covers 0 c
zero_covers None = refl
zero_covers (Some c) = zero_in c.content

more_at : (n s : ℕ) (a : Aim) (r : Response) → n ≤ acknowledged_at s a r n
more_at n s (Refuse why) r = omega arith
more_at n s Listing r = omega arith
more_at n s (At x o) r = by (nat_eq x s)
  where
    by : (b : Bool) → n ≤ (if b then max n (count_in r) else n)
    by true = omega arith
    by false = omega arith

covers_low : (n m : ℕ) (c : Cube) (h : History) → c.content ≡ Sound h → n ≤ m → CoversIn m c.content → n ≤ floor h
covers_low n m c h is le p = let q : m ≤ floor h = subst (CoversIn m) is p in omega (arith, le, q)

-- a sound cube's floor has reached what the slot's cube has acknowledged
pub sound_reached : (n : ℕ) (d : Option Cube) (c : Cube) (h : History) → Covers n d → d ≡ Some c → c.content ≡ Sound h → n ≤ floor h
sound_reached n d c h p there is = covers_low n n c h is (omega arith) (subst (Covers n) there p)

-- and so it is after one line more
pub step_reached : (n s : ℕ) (w v : World) (line : Line) (r : Response) (c : Cube) (h : History) → Covers n (w.cube s) → Step w line r v
    → v.cube s ≡ Some c → c.content ≡ Sound h → n ≤ floor h
step_reached n s w v line r c h p step there is =
    covers_low n (acknowledged_at s (aim w line) r n) c h is (more_at n s (aim w line) r)
    (subst (λ d. Covers (if_live d (acknowledged_at s (aim w line) r n)) d) there (goes_covers n s (aim w line) w v r p step))
