-- A refusal keeps what images see of a world.
use Rattle.std.proofs.Common.{◌≡◌, ◌∙◌, inl, inr, ⊎_elim, ℕ, Bool, true, false, cond, nat_eq, Option, None, Some, Err, option_map, refl, sym, ap, subst, arith}
use Rattle.std.specs.Prelude.{◌&&◌}
use Rattle.std.proofs.lemmas.Bool.{cases_Bool}
use Rattle.ice_base.specs.Disk.{Image}
use Rattle.ice_base.specs.Lots.{LotView}
use Rattle.tree_spec.specs.Lines.{Line}
use Rattle.tree_spec.specs.Records.{Cube, with_state, is_mounted, is_offline}
use Rattle.tree_spec.specs.Replies.{Refused}
use Rattle.tree_spec.specs.Own.{Order, OnTree, Sync, Unmount, Mount, Check, SetOffline, SetOnline, Delete, Grow, Create, Verdict, No, Yes, Says, Own, needs_disk, stops, may_fault, after_fault}
use Rattle.tree_spec.specs.World.{World, Aim, Refuse, Listing, At, aim, Goes, Step, with_slot}
use Rattle.tree_spec.specs.declared.reply.StateWord.{StateWord}
use Rattle.tree_spec.specs.declared.reply.StateWord.TheVariants.{Mounted, Unmounted, Stopped, Offline}
use Rattle.ice_tables.specs.Lots.{lot_of}
use Rattle.ice_images.specs.Fitting.{cube_entry, Has, FitsAt}

-- two records of a slot: the second has the entry of the first, and a lot that holds the second holds the first
abbrev AlikeIn : Option Cube → Option Cube → Type 0
AlikeIn c d = (option_map cube_entry d ≡ option_map cube_entry c) × ((lot : LotView) (i : Image) → Has lot i d → Has lot i c)

alike_same : (c d : Option Cube) → d ≡ c → AlikeIn c d
alike_same c d is = (ap (option_map cube_entry) is, λ lot i h. subst (Has lot i) is h)

alike_stopped : (c : Cube) → c.state ≡ Mounted → AlikeIn (Some c) (Some (with_state Stopped c))
alike_stopped c is = (ap (λ s. Some (record { path = c.path; groups = c.groups; offline = is_offline s })) (sym is), λ lot i h. h)

mounted_if : (s : StateWord) → is_mounted s ≡ true → s ≡ Mounted
mounted_if Mounted p = refl
mounted_if Unmounted p = absurd (cc p)
mounted_if Stopped p = absurd (cc p)
mounted_if Offline p = absurd (cc p)

first_true : (a b : Bool) → (a && b) ≡ true → a ≡ true
first_true true b p = refl
first_true false b p = p

stops_mounted : (c : Cube) (o : Order) → needs_disk c o ≡ true → stops o ≡ true → c.state ≡ Mounted
stops_mounted c (OnTree op) p q = mounted_if c.state (first_true (is_mounted c.state) _ p)
stops_mounted c Sync p q = mounted_if c.state p
stops_mounted c Unmount p q = mounted_if c.state p
stops_mounted c Mount p q = absurd (cc q)
stops_mounted c Check p q = absurd (cc q)
stops_mounted c SetOffline p q = absurd (cc q)
stops_mounted c SetOnline p q = absurd (cc q)
stops_mounted c Delete p q = absurd (cc q)
stops_mounted c (Grow n) p q = absurd (cc q)
stops_mounted c (Create n m) p q = absurd (cc q)

alike_fault : (c : Cube) (b : Bool) → (b ≡ true → c.state ≡ Mounted) → AlikeIn (Some c) (Some (cond b (with_state Stopped c) c))
alike_fault c true is = alike_stopped c (is refl)
alike_fault c false is = alike_same (Some c) (Some c) refl

own_fault : (c : Option Cube) (o : Order) (d : Option Cube) → may_fault c o ≡ true → d ≡ after_fault c o → AlikeIn c d
own_fault None o d may is = alike_same None d is
own_fault (Some c) o d may is = subst (λ x. AlikeIn (Some c) x) (sym is) (alike_fault c (stops o) (stops_mounted c o may))

says_err : (v : Verdict) (c d : Option Cube) (e : Refused) → Says v c (Err e) d → AlikeIn c d
says_err (No why) c d e s = alike_same c d s.1
says_err (Yes x y) c d e s = absurd (cc s.0)

own_err : (c : Option Cube) (o : Order) (e : Refused) (d : Option Cube) → Own c o (Err e) d → AlikeIn c d
own_err c o e d own = ⊎_elim (λ p. says_err p.0 c d e p.2) (λ q. ⊎_elim (λ f. own_fault c o d f.0 f.2) (λ m. alike_same c d m.2) q) own

alike_at : (w : World) (s : ℕ) (d : Option Cube) → AlikeIn (w.cube s) d → (x : ℕ) → AlikeIn (w.cube x) ((with_slot w s d).cube x)
alike_at w s d same x = elim (cases_Bool (nat_eq x s)) as (λ _. AlikeIn (w.cube x) ((with_slot w s d).cube x)) [
  | inl hit ↦ let is : x ≡ s = grind arith in subst (λ b. AlikeIn (w.cube x) (cond b d (w.cube x))) (sym hit) (subst (λ y. AlikeIn (w.cube y) d) (sym is) same)
  | inr other ↦ subst (λ b. AlikeIn (w.cube x) (cond b d (w.cube x))) (sym other) (alike_same (w.cube x) (w.cube x) refl)
]

fits_alike : (on : ℕ → Type 0) (w v : World) (i : Image) → v.slots ≡ w.slots → v.groups ≡ w.groups
    → ((x : ℕ) → AlikeIn (w.cube x) (v.cube x)) → FitsAt on v i → FitsAt on w i
fits_alike on w v i slots groups same fits = record {
  tables = fits.tables;
  has = fits.has;
  room = fits.room;
  shows = record { slots = fits.shows.slots ∙ slots; groups = fits.shows.groups ∙ groups; entries = λ s. fits.shows.entries s ∙ (same s).0 };
  cubes = λ s here. (same s).1 (lot_of fits.tables s) i (fits.cubes s here);
}

goes_err : (on : ℕ → Type 0) (a : Aim) (w v : World) (e : Refused) (i : Image) → Goes w a (Err e) v → FitsAt on v i → FitsAt on w i
goes_err on (Refuse why) w v e i g fits = subst (λ x. FitsAt on x i) g.1 fits
goes_err on Listing w v e i g fits = subst (λ x. FitsAt on x i) g.1 fits
goes_err on (At s o) w v e i g fits =
    let same = own_err (w.cube s) o e g.0 g.1 in
    fits_alike on w (with_slot w s g.0) i refl refl (alike_at w s g.0 same) (subst (λ x. FitsAt on x i) g.2 fits)

-- an image that fits after a refused line fitted before it
pub fits_refused : (on : ℕ → Type 0) (w v : World) (line : Line) (e : Refused) (i : Image) → Step w line (Err e) v → FitsAt on v i → FitsAt on w i
fits_refused on w v line e i step fits = goes_err on (aim w line) w v e i step fits
