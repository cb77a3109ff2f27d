-- What a steady cube answers in a run, where no answer is a fault or want of memory, is what its record says by itself.
use Rattle.std.proofs.Common.{◌≡◌, ◌∙◌, ℕ, true, false, nat_eq, List, [], ◌∷◌, Option, None, Some, Ok, Err, inl, inr, refl, sym, ap, subst, arith}
use Rattle.std.specs.Prelude.{if◌then◌else◌}
use Rattle.std.proofs.lemmas.Bool.{cases_eq}
use Rattle.tree_spec.specs.Replies.{Response}
use Rattle.tree_spec.specs.Replies as value
use Rattle.tree_spec.specs.Trees.{Dir, Nil}
use Rattle.tree_spec.specs.Records.{Cube, fresh, new_cube}
use Rattle.tree_spec.specs.Own.{Order, Create, Own, Verdict, No, Yes, Says, Plainly}
use Rattle.tree_spec.specs.Alone.{alone, IsClean}
use Rattle.tree_spec.specs.World.{World, Aim, Refuse, Listing, At, aim, Goes}
use Rattle.tree_spec.proofs.Alone.{IsSteady, own_alone, plainly}
use Rattle.ice_run.specs.Runs.{Answered, Runs}
use Rattle.ice_run.specs.Alone.{Told, told, told_at, while_live, AllClean, orders_of, replies_of, verdict_in, verdict_of, record_after, and_later, said}

-- ---- one order

-- the reply and the next record are those of this verdict
abbrev IsBy : Option Cube → Option Verdict → Response → Option Cube → Type 0
IsBy c o r d = (v : Verdict) × (o ≡ Some v) × Says v c r d

new_by : (o : Order) (v : Verdict) (r : Response) (d : Option Cube) → Plainly None o v → Says v None r d
    → IsBy None (verdict_of None o) r d × IsSteady d
new_by (Create p n) v r d is s =
    let says : Says (Yes value.Plain (Some (new_cube p n))) None r d = subst (λ x. Says x None r d) is s in
    ((Yes value.Plain (Some (new_cube p n)), refl, says), subst IsSteady (sym says.1) (fresh (Dir Nil) 0, refl, tt))
new_by _ v r d is s = absurd is

own_by : (c : Option Cube) (o : Order) (r : Response) (d : Option Cube) → IsSteady c → IsClean r → Own c o r d
    → IsBy c (verdict_of c o) r d × IsSteady d
own_by None o r d steady clean own = let p = plainly None o r d clean own in new_by o p.0 r d p.1 p.2
own_by (Some c) o r d steady clean own =
    let one = own_alone c steady.0 o r d steady.1 steady.2 clean own in
    ((alone c steady.0 o, ap (λ x. verdict_in c x o) steady.1, one.0), one.1)

said_by : (c : Option Cube) (v : Verdict) (r : Response) (d : Option Cube) (rest : Option Cube → List Response) → Says v c r d
    → r ∷ rest d ≡ and_later (Some v) (rest (record_after c (Some v)))
said_by c (No why) r d rest s = ap (λ x. x ∷ rest d) s.0 ∙ ap (λ e. Err (value.Because why) ∷ rest e) s.1
said_by c (Yes x e) r d rest s = ap (λ y. y ∷ rest d) s.0 ∙ ap (λ y. Ok x ∷ rest y) s.1

-- the replies are those that the record gives by itself
abbrev pub SaysAs : Option Cube → List Told → Type 0
SaysAs c ts = replies_of ts ≡ said c (orders_of ts)

said_next : (c : Option Cube) (o : Order) (r : Response) (d : Option Cube) (ts : List Told) → IsSteady c → IsClean r → Own c o r d
    → (IsSteady d → SaysAs d ts) → SaysAs c (record { order = o; reply = r } ∷ ts)
said_next c o r d ts steady clean own later =
    let one = own_by c o r d steady clean own in
    ap (λ (rs : List Response). r ∷ rs) (later one.1)
    ∙ said_by c one.0.0 r d (λ e. said e (orders_of ts)) one.0.2
    ∙ ap (λ v. and_later v (said (record_after c v) (orders_of ts))) (sym one.0.1)

-- ---- runs

said_live : (c : Option Cube) (ts : List Told) → (AllClean ts → SaysAs c ts) → AllClean (while_live c ts) → SaysAs c (while_live c ts)
said_live None ts later clean = refl
said_live (Some c) ts later clean = later clean

goes_said : (s : ℕ) (a : Aim) (w v : World) (r : Response) (ts : List Told) → IsSteady (w.cube s) → Goes w a r v
    → (IsSteady (v.cube s) → AllClean ts → SaysAs (v.cube s) ts)
    → AllClean (told_at s a r (while_live (v.cube s) ts)) → SaysAs (w.cube s) (told_at s a r (while_live (v.cube s) ts))
goes_said s (Refuse why) w v r ts steady g later clean =
    subst (λ (y : World). SaysAs (y.cube s) (while_live (v.cube s) ts)) g.1
    (said_live (v.cube s) ts (later (subst (λ (y : World). IsSteady (y.cube s)) (sym g.1) steady)) clean)
goes_said s Listing w v r ts steady g later clean =
    subst (λ (y : World). SaysAs (y.cube s) (while_live (v.cube s) ts)) g.1
    (said_live (v.cube s) ts (later (subst (λ (y : World). IsSteady (y.cube s)) (sym g.1) steady)) clean)
goes_said s (At x o) w v r ts steady g later clean =
    let us = while_live (v.cube s) ts in
    elim (cases_eq x s) as (λ _. SaysAs (w.cube s) (if nat_eq x s then record { order = o; reply = r } ∷ us else us)) [
      | inl same ↦
          let hit : nat_eq x s ≡ true = grind arith in
          let back : nat_eq s x ≡ true = grind arith in
          let all : AllClean (if true then record { order = o; reply = r } ∷ us else us) =
          subst (λ b. AllClean (if b then record { order = o; reply = r } ∷ us else us)) hit clean in
          let own : Own (w.cube s) o r g.0 = subst (λ y. Own (w.cube y) o r g.0) same g.1 in
          let there : v.cube s ≡ g.0 = ap (λ (y : World). y.cube s) g.2 ∙ ap (λ b. if b then g.0 else w.cube s) back in
          subst (λ b. SaysAs (w.cube s) (if b then record { order = o; reply = r } ∷ us else us)) (sym hit)
          (said_next (w.cube s) o r g.0 us steady all.0 own
          (λ on. subst (λ c. SaysAs c us) there (said_live (v.cube s) ts (later (subst IsSteady (sym there) on)) all.1)))
      | inr other ↦
          let miss : nat_eq x s ≡ false = grind arith in
          let back : nat_eq s x ≡ false = grind arith in
          let all : AllClean (if false then record { order = o; reply = r } ∷ us else us) =
          subst (λ b. AllClean (if b then record { order = o; reply = r } ∷ us else us)) miss clean in
          let there : v.cube s ≡ w.cube s = ap (λ (y : World). y.cube s) g.2 ∙ ap (λ b. if b then g.0 else w.cube s) back in
          subst (λ b. SaysAs (w.cube s) (if b then record { order = o; reply = r } ∷ us else us)) (sym miss)
          (subst (λ c. SaysAs c us) there (said_live (v.cube s) ts (later (subst IsSteady (sym there) steady)) all))
    ]

-- the replies to the lines of a steady cube are what it says by itself
pub run_said : (s : ℕ) (w : World) (steps : List Answered) → IsSteady (w.cube s) → Runs w steps → AllClean (told s w steps)
    → SaysAs (w.cube s) (told s w steps)
run_said s w [] steady runs clean = refl
run_said s w (a ∷ rest) steady runs clean =
    goes_said s (aim w a.line) w a.then a.reply (told s a.then rest) steady runs.0 (λ on all. run_said s a.then rest on runs.1 all) clean
